use Rattle.std.proofs.Common.{◌≡◌, ◌*◌, ℤ, List, Option, length, ap, sym, ◌∙◌, arith}
use Rattle.terrain.specs.Raster.{Terrain}
use Rattle.tiles.specs.Cutting.{Cuts, Cutting}
use Rattle.fill.proofs.Numbered.{fit_of}
use Rattle.fill.proofs.Passages.{bare_crests}
use Rattle.fill.proofs.Raised.{filled_map, patched_map}
use Rattle.fill.proofs.filling.filled_cells.Goals as goal

whole_size : (t : Terrain) (k : Cutting) (read : List (Option ℤ)) → read ≡ t.cells → length t.cells ≡ t.cols * t.rows →
    Cuts k t → length read ≡ k.cols * k.rows
whole_size t k read is size cuts =
    ap length is ∙ size ∙ ap (λ n. n * t.rows) (sym cuts.0) ∙ ap (λ n. k.cols * n) (sym cuts.1)

pub invariant_of-tiles : goal.invariant_of-tiles
invariant_of-tiles g c = rw (c.deref-2.ensures.value, c.deref-3.ensures.value) (record {
  fit = fit_of c.requires.floods;
  numbers = rw c.deref.ensures.value at c.in_ok-firsts.ensures;
})

pub invariant_of-raised : goal.invariant_of-raised
invariant_of-raised g c =
    let t = c.args.grid.now.terrain in
    let k = c.args.tiling.now in
    let are = c.requires.floods in record {
      size = whole_size t k _ c.cells-read.ensures.value c.cells-read.ensures.lawful.terrain.size are.cuts;
      lawful = are.lawful;
      fit = fit_of are;
      numbers = rw c.deref.ensures.value at c.in_ok-firsts.ensures;
      crests_size = omega (arith, rw c.deref-2.ensures.value at c.in_ok-crests.ensures.size);
      bare = bare_crests t k c.args.floods.items are c.in_ok-crests.crests.items
          ((rw (c.deref-2.ensures.value, c.deref-4.ensures.value) at c.in_ok-crests.ensures.crests) t are
          c.requires.meetings);
    }

pub are_held-requires-clause-sinks : goal.are_held-requires-clause-sinks
are_held-requires-clause-sinks g c =
    rw (c.sinks.ensures.value, c.requires.floods.cuts.0, c.requires.floods.cuts.1)
    c.cells-read.ensures.lawful.terrain.sinks

pub are_held-requires-clause-cells : goal.are_held-requires-clause-cells
are_held-requires-clause-cells g c =
    let t = c.args.grid.now.terrain in
    let k = c.args.tiling.now in
    let tiles = c.in_ok-runs.runs.items in
    rw c.deref-6.ensures.value (patched_map k c.args.floods.items _ tiles c.requires.floods.lawful
    (whole_size t k _ c.cells-read.ensures.value c.cells-read.ensures.lawful.terrain.size c.requires.floods.cuts)
    (omega (arith, c.in_ok-runs.runs.ok.0, c.in_ok-runs.ensures.len) ∙ c.tiles.ensures.value)
    (rw c.tiles.ensures.value at c.in_ok-runs.ensures.given) (rw c.deref-5.ensures.value at c.in_ok-cells.ensures)).size

pub returns-then-are_held-clause-filled : goal.returns-then-are_held-clause-filled
returns-then-are_held-clause-filled g c =
    let t = c.args.grid.now.terrain in
    let k = c.args.tiling.now in
    let are = c.requires.floods in
    let floods = c.args.floods.items in
    let tiles = c.in_ok-runs.runs.items in
    let size : length tiles ≡ c.tiles.result = omega (arith, c.in_ok-runs.runs.ok.0, c.in_ok-runs.ensures.len) in
    let crests =
    (rw (c.deref-2.ensures.value, c.deref-4.ensures.value) at c.in_ok-crests.ensures.crests) t are
    c.requires.meetings in
    filled_map t k floods c.in_ok-crests.crests.items c.in_ok-cells.cells.items tiles
    (rw c.deref.ensures.value at c.in_ok-firsts.ensures).lawful are crests
    (rw c.cells-read.ensures.value at
    (patched_map k floods _ tiles are.lawful
    (whole_size t k _ c.cells-read.ensures.value c.cells-read.ensures.lawful.terrain.size are.cuts)
    (size ∙ c.tiles.ensures.value) (rw c.tiles.ensures.value at c.in_ok-runs.ensures.given)
    (rw c.deref-5.ensures.value at c.in_ok-cells.ensures)))
    (rw (c.deref-6.ensures.value, c.deref-7.ensures.value) at c.if-are_held.ensures.held)
    (rw (c.deref-6.ensures.value, c.cells-read.ensures.value, c.sinks.ensures.value) at c.if-are_held.ensures.sinks)
