use Rattle.std.proofs.Common.{rules, ◌≡◌, ◌<◌, None, get_or, length, ap, sym, ◌∙◌, inl, inr, arith}
use Rattle.std.proofs.lemmas.Bool.{cases_eq}
use Rattle.std.proofs.lemmas.Int.{to_z-of_z}
use Rattle.std.proofs.lemmas.List.{get_or_read}
use Rattle.terrain.specs.Ways.{around_index}
use Rattle.terrain.proofs.Heights.{height_width}
use Rattle.fill.proofs.Settled.{around_below}
use Rattle.fill.proofs.held.is_held.Goals as goal

pub loop-way-preserved : goal.loop-way-preserved
loop-way-preserved c way low = elim (cases_eq way c.loop-way.way) [
  | inr other ↦ c.loop-way.invariant way (omega (arith, low, other))
  | inl same ↦
      let held = c.if-not-is_no_lower.ensures in
      let cells = c.args.cells.now in
      let way_now = c.loop-way.way in
      let k = get_or c.around_index-around.result way_now 0 in
      let at : k ≡ get_or (around_index c.args.cols c.args.index) way_now 0 =
      ap (λ z. get_or z way_now 0) c.around_index-around.ensures in
      let below : k < length cells = omega (
        arith,
        at,
        around_below c.args.cols c.args.index (length cells) c.requires.above c.requires.below way_now
            c.loop-way-test.true,
      ) in (
        held.0,
        ap (λ n. get_or cells (get_or (around_index c.args.cols c.args.index) n 0) None) same ∙
            ap (λ n. get_or cells n None) (sym at) ∙
            sym (get_or_read cells k c.index-cells-around.result below c.index-cells-around.is None) ∙ held.1,
        held.2,
      )
]

pub returns : goal.returns
returns c = record {
  level = c.in-Some.level;
  is = sym (get_or_read c.args.cells.now c.args.index c.index-cells-index.result
      (omega (arith, c.requires.below)) c.index-cells-index.is None) ∙ sym c.height.ensures ∙ c.in-Some.is;
  around = λ way low.
      let x = c.loop-way.invariant way (omega (arith, low, c.loop-way-test.false)) in
      (x.0, x.1, rw (to_z-of_z height_width c.in-Some.level (search rules)) at x.2);
}
