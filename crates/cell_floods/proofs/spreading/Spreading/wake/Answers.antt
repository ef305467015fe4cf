use Rattle.std.proofs.Common.{◌≡◌, ap, refl, set, sym, unwrap_or, ◌∙◌, None, Some, length, arith}
use Rattle.std.proofs.lemmas.Int.{ints, clamps}
use Rattle.std.proofs.lemmas.List.{get_or_default, length_push}
use Rattle.terrain.specs.StoredCells.{no_data}
use Rattle.floods.specs.Flood.{entry_of}
use Rattle.cell_floods.specs.Cells.{cell_at}
use Rattle.cell_floods.proofs.Rectangles.{data_is}
use Rattle.cell_floods.proofs.SpreadSteps.{no_source, number_inside, spreads_label, walk_beside, walk_by}
use Rattle.cell_floods.proofs.spreading.Spreading.wake.Goals as goal

pub returns-in_ok-push : goal.returns-in_ok-push
returns-in_ok-push c =
    let x = c.args.self.now in
    let n = x.net.now in
    let to = c.args.to in
    let s = c.requires.sound in
    let by = c.requires.beside in
    let now = unwrap_or c.args.level no_data in
    let some = data_is _ c.requires.level in
    let level : c.args.level ≡ Some now =
    some.1 ∙ ap Some (sym (ap (λ o. unwrap_or o no_data) some.1)) in
    let low = number_inside x.labels.items to (omega (arith, c.requires.waits)) in
    let entry : entry_of x.levels.items to ≡ Some c.in-Some.height =
    sym (c.index.ensures ∙ get_or_default x.levels.items to _ None
    (omega (arith, low, s.part.levels_size, s.part.labels_size))) ∙ sym c.height.ensures ∙ c.in-Some.is in
    let cell : cell_at n to ≡ Some c.in-Some.height =
    sym (s.part.rest to (omega (arith, c.requires.waits))) ∙ entry in
    spreads_label now to c.args.label x _ s (omega (arith, c.requires.waits))
    (walk_by now c.in-Some.height now n by.node to c.args.label
    (walk_beside now c.args.label to x s by) by.beside cell
    (omega (arith, ints, clamps, c.if-height-number.true, c.number.ensures)))
    (omega (arith, by.labelled, by.label_is))
    (λ h is. absurd (no_source now n _ _ to s.part (omega (arith, c.requires.waits))
    (λ is. absurd (omega (arith, is, c.requires.waits))) h is))
    refl (ap (set x.levels.items to) level) refl refl
    (omega (arith, ap length c.in_ok-push.ensures.items, length_push x.woken.items to))
