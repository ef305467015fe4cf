use Rattle.std.proofs.Common.{◌≡◌, ap, sym, subst, ◌∙◌, None, is_some, unwrap_or, arith}
use Rattle.std.proofs.lemmas.List.{get_or_default}
use Rattle.terrain.specs.StoredCells.{no_data}
use Rattle.floods.specs.Flood.{entry_of}
use Rattle.floods.specs.Notes.{no_label}
use Rattle.cell_floods.specs.Spreading.{IsSound, number_of}
use Rattle.cell_floods.proofs.SpreadSteps.{number_inside, spreads_none, walk_cell}
use Rattle.cell_floods.proofs.spreading.Spreading.spread.Goals as goal
use Rattle.cell_floods.proofs.spreading.Spreading.spread.Goals.{After-around-to-items}

pub around-to-items-requires : goal.around-to-items-requires
around-to-items-requires c =
    let is = c.requires.sound.part.reached c.args.node c.requires.labelled in
    ap is_some (walk_cell _ c.args.node is.3.0 is.3.1).1

-- The level and the label that are read are those of the node.
own : (c : goal.After-around-to-items) →
    (entry_of c.args.self.now.levels.items c.args.node ≡ c.index-level.result.now)
    × (number_of c.args.self.now.labels.items c.args.node ≡ c.index-label.result.now)
own c =
    let x = c.args.self.now in
    let part = c.requires.sound.part in
    let low = number_inside x.labels.items c.args.node (omega (arith, c.requires.labelled)) in (
      sym (c.index-level.ensures ∙ get_or_default x.levels.items c.args.node _ None
          (omega (arith, low, part.levels_size, part.labels_size))),
      sym (c.index-label.ensures ∙ get_or_default x.labels.items c.args.node _ no_label low),
    )

pub loop-to-init : goal.loop-to-init
loop-to-init c =
    let is = own c in
    record {
      level = is.0;
      label = is.1;
      spread = spreads_none (unwrap_or c.index-level.result.now no_data) c.args.self.now
          (subst (λ o. IsSound (unwrap_or o no_data) c.args.self.now) is.0 c.requires.sound);
    }
