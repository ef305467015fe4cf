use Rattle.std.proofs.Common.{drop, length, ◌∙◌}
use Rattle.std.proofs.lemmas.List.{take_at}
use Rattle.flow.proofs.Moved.{moves_fit, moved_links, told_codes}
use Rattle.flow.proofs.tile_links.TileLinks.of_codes.Goals as goal

pub invariant_of-result : goal.invariant_of-result
invariant_of-result c =
    let new = c.set_moves.new.moves in
    rw (take_at new (drop (length new) c.in_ok-moves.moves.items) c.in_ok-moves.moves.len (c.set_moves.auto.moves ∙
    c.deref_mut.ensures.len)) (moves_fit c.requires.small c.set_moves.ensures)

pub returns-clause-codes : goal.returns-clause-codes
returns-clause-codes c =
    let new = c.set_moves.new.moves in
    rw (take_at new (drop (length new) c.in_ok-moves.moves.items) c.in_ok-moves.moves.len (c.set_moves.auto.moves ∙
    c.deref_mut.ensures.len)) (told_codes c.requires.small c.set_moves.ensures c.requires.size)

pub returns-clause-links : goal.returns-clause-links
returns-clause-links c =
    let new = c.set_moves.new.moves in
    rw (take_at new (drop (length new) c.in_ok-moves.moves.items) c.in_ok-moves.moves.len (c.set_moves.auto.moves ∙
    c.deref_mut.ensures.len)) (moved_links c.requires.small c.set_moves.ensures)
