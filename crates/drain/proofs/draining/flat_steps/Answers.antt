use Rattle.std.proofs.Common.{◌∙◌, subst}
use Rattle.std.proofs.lemmas.List.{map-id}
use Rattle.terrain.specs.Raster.{Terrain}
use Rattle.drain.specs.Search.{AreEntriesShown}
use Rattle.drain.proofs.Spreading.{spread-length}
use Rattle.drain.proofs.TileRound.{input_small, input_size, input_to, is_round}
use Rattle.drain.proofs.draining.flat_steps.Goals as goal

pub settled-requires : goal.settled-requires
settled-requires g c =
    let input = input_to g.terrain c.args.levels.now c.args.steps.now c.requires.0 c.requires.1.0 c.requires.1.1.0
    c.in_ok-window.ensures.bounds c.in_ok-old.ensures in
    record { size = input_size g.terrain input; counts = input_small g.terrain input c.requires.1.1.1.1 }

pub copy_counts-requires : goal.copy_counts-requires
copy_counts-requires g c =
    let input = input_to g.terrain c.args.levels.now c.args.steps.now c.requires.0 c.requires.1.0 c.requires.1.1.0
    c.in_ok-window.ensures.bounds c.in_ok-old.ensures in
    rw c.deref.ensures.value (spread-length c.in_ok-counts.ensures.spread ∙ input_size g.terrain input)

pub returns : goal.returns
returns g c =
    let input = input_to g.terrain c.args.levels.now c.args.steps.now c.requires.0 c.requires.1.0 c.requires.1.1.0
    c.in_ok-window.ensures.bounds c.in_ok-old.ensures in
    rw (c.in_ok-step_numbers.ensures, map-id c.deref-2.result.now, c.deref-2.ensures.value)
    (is_round g.terrain input c.requires.1.1.1.1
    (subst (λ (x : Terrain). AreEntriesShown x x.cells c.in_ok-window.window.bounds c.in_ok-window.window.values.items)
    c.requires.0 (rw c.no_data.ensures at c.in_ok-window.ensures.shown)) c.in_ok-counts.ensures (record {
      cutting = c.in_ok-window.ensures.lawful.cutting;
      bounds = c.in_ok-window.ensures.bounds;
      made = rw c.deref.ensures.value at c.in_ok-list.ensures;
    }))
