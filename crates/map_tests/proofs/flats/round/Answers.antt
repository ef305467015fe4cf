use Rattle.std.proofs.Common.{◌∙◌, ℕ, ℤ, List, Option, sym, ap, subst}
use Rattle.terrain.specs.Raster.{Terrain}
use Rattle.tiles.specs.Cutting.{View, terrain_of}
use Rattle.drain.specs.Beginning.{AreInitialCounts}
use Rattle.drain.specs.Steps.{DrainsAtOnce}
use Rattle.drain.proofs.DrainedLemmas.{same_terrain}
use Rattle.drain.proofs.Quiet.{begun_zeros, begun_walked}
use Rattle.map_tests.proofs.flats.round.Goals as goal

pub flat_steps-requires : goal.flat_steps-requires
flat_steps-requires g c =
    let t = g.terrain in
    let cut = c.args.tiling.now in
    let counts = c.view-steps.result.cells in
    let same = c.cells.ensures.value ∙ sym (ap (λ (x : Terrain). x.cells) c.requires.0) in
    let begun = subst (λ (xs : List (Option ℕ)). AreInitialCounts t xs)
    (sym (ap (λ (v : View (Option ℕ)). v.cells) c.view-steps.ensures)) c.requires.1.1.0 in (
      ap (λ (v : View (Option ℤ)). terrain_of v) c.view-levels.ensures ∙ sym (same_terrain t
          cut.cols cut.rows c.cells.result.now c.requires.1.0.0 c.requires.1.0.1 same),
      (
        ap (λ (v : View (Option ℕ)). v.cutting) c.view-steps.ensures
            ∙ sym (ap (λ (v : View (Option ℤ)). v.cutting) c.view-levels.ensures),
        (
          ap (λ (v : View (Option ℕ)). v.tile) c.view-steps.ensures
              ∙ sym (ap (λ (v : View (Option ℤ)). v.tile) c.view-levels.ensures),
          (
            begun_zeros t counts begun,
            begun_walked (DrainsAtOnce t) t counts begun (λ p drains. drains),
          ),
        ),
      ),
    )
