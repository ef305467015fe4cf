use Rattle.std.proofs.Common.{arith, ap, sym, ◌∙◌, Some}
use Rattle.std.specs.Prelude.{int_le}
use Rattle.std.proofs.lemmas.Int.{ints, to_z-of_z}
use mir.Val.{to_z}
use Rattle.terrain.specs.Raster.{lowest, highest}
use Rattle.terrain.proofs.Heights.{height_width}
use Rattle.ascii_grid.specs.GridText.{same_value}
use Rattle.ascii_grid.specs.declared.cell.Meaning.TheVariants.{Cell}
use Rattle.ascii_grid.proofs.Cells.{meaning_of_height, meaning_of_nodata}
use Rattle.ascii_grid.proofs.cell.value_cell.Goals as goal

pub returns-then-is_same_value : goal.returns-then-is_same_value
returns-then-is_same_value c = λ d nodata word e n.
    let same = to_z-of_z height_width c.args.value c.ranges.value in
    ap Cell c.no_data.ensures ∙ meaning_of_nodata d nodata word _ e (rw (← same)
    (ap (same_value (Some (to_z height_width _))) (sym n) ∙ sym c.is_same_value.ensures ∙ c.if-is_same_value.true))

pub returns-then-value-le-HIGHEST : goal.returns-then-value-le-HIGHEST
returns-then-value-le-HIGHEST c = λ d nodata word e n.
    let same = to_z-of_z height_width c.args.value c.ranges.value in
    let high = ap (λ z. int_le z highest) (sym same) ∙ c.if-value-le-HIGHEST.true in
    ap Cell (c.of.ensures.height (omega (arith, ints, high)) ∙ ap Some same) ∙ meaning_of_height d nodata word _ e (rw
    (← same)
    (ap (same_value (Some (to_z height_width _))) (sym n) ∙ sym c.is_same_value.ensures ∙ c.if-is_same_value.false))
    (rw (ap (int_le lowest) (sym same) ∙ c.if-value-ge-LOWEST.true, high))
