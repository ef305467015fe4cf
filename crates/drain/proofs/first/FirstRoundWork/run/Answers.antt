use Rattle.std.proofs.Common.{◌∙◌, ap}
use Rattle.tiles.specs.Cutting.{View}
use Rattle.drain.proofs.Begun.{begun_tile}
use Rattle.drain.proofs.Spreading.{spread-length}
use Rattle.drain.proofs.first.FirstRoundWork.run.Goals as goal

pub begun_counts-requires-clause-shown : goal.begun_counts-requires-clause-shown
begun_counts-requires-clause-shown c =
    rw (
      c.view-levels.ensures,
      c.cells.ensures.value,
      c.no_data.ensures,
      c.args.self.now.cuts.0,
      c.args.self.now.cuts.1,
    ) at c.in_ok-window.ensures.shown

pub searched-requires : goal.searched-requires
searched-requires c = record {
  size = c.in_ok-begun.ensures.size;
  counts = c.in_ok-begun.ensures.few;
}

pub copy_counts-requires : goal.copy_counts-requires
copy_counts-requires c =
    rw c.deref.ensures.value (spread-length c.in_ok-counts.ensures ∙ c.in_ok-begun.ensures.size)

pub returns-clause-given : goal.returns-clause-given
returns-clause-given c =
    let cut = ap (λ (v : View _). v.cutting) c.view-levels.ensures in
    begun_tile c.in_ok-begun.ensures
    (rw (
      c.view-levels.ensures,
      c.cells.ensures.value,
      c.no_data.ensures,
      c.args.self.now.cuts.0,
      c.args.self.now.cuts.1,
    ) at c.in_ok-window.ensures.shown) c.in_ok-counts.ensures (record {
      cutting = rw cut at c.in_ok-window.ensures.lawful.cutting;
      bounds = rw c.view-levels.ensures at c.in_ok-window.ensures.bounds;
      made = rw c.deref.ensures.value at c.in_ok-list.ensures;
    })
