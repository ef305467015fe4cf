use Rattle.std.proofs.Common.{◌≡◌, ◌*◌, ◌++◌, ◌∙◌, ap, refl, rules, arith}
use Rattle.tiles.specs.declared.bounds.Bounds.{Bounds}
use Rattle.tiles.specs.Cutting.{bounds_of}
use Rattle.flow.proofs.Listed.{AreFirstRows, row_added}
use Rattle.flow.proofs.cells.tile_codes.Goals as goal

pub loop-row-preserved : goal.loop-row-preserved
loop-row-preserved c =
    let v = c.args.codes.now in
    let made : c.extend_from_slice.new.self.items ≡ c.loop-row.cells.items ++ c.row.result.now = search rules in
    let inside = rw c.bounds-bounds.ensures.value at c.bounds-bounds.ensures.inside in
    let rows = ap (λ b. b.rows) c.bounds-bounds.ensures.value in
    let so_far : AreFirstRows c.args.codes.now (bounds_of c.args.codes.now.cutting c.args.codes.now.tile) c.loop-row.row
    c.loop-row.cells.items =
    record { size = c.loop-row.invariant.size; each = c.loop-row.invariant.each } in
    let more = row_added refl inside (omega arith) c.row.ensures.value c.row.ensures.size made so_far in
    record { size = more.size; each = more.each }

pub returns : goal.returns
returns c =
    let b = bounds_of c.args.codes.now.cutting c.args.codes.now.tile in
    let all : c.loop-row.row * b.cols ≡ b.rows * b.cols = ap (λ n. n * b.cols) (omega (
      arith,
      c.loop-row-test.false,
      c.loop-row.auto.row-end,
      ap (λ (b : Bounds). b.rows) c.bounds-bounds.ensures.value,
    )) in
    record { size = c.loop-row.invariant.size ∙ all; each = λ i h. c.loop-row.invariant.each i (omega (arith, h, all)) }
