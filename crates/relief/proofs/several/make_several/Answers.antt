use Rattle.std.proofs.Common.{rules, ◌≡◌, false, ap, subst, sym, ◌∙◌}
use Rattle.std.proofs.lemmas.Result.{IfOk-weaker}
use Rattle.terrain.specs.Raster.{Raster, Terrain}
use Rattle.drainage.specs.Drained.{directed_of}
use Rattle.drainage.specs.Filled.{IsFilledGrid}
use Rattle.flow.specs.Catchments.{gauges_fault}
use Rattle.relief.specs.MadeMap.{header_grid}
use Rattle.relief.specs.MapText.{IsDrainage}
use Rattle.relief.specs.declared.several.MapHeader.TheVariants.{WithHeights}
use Rattle.relief.proofs.Gauging.{filled_gauges}
use Rattle.relief.proofs.Together.{heights_alone, made_from}
use Rattle.relief.proofs.several.make_several.Goals as goal

pub returns-then-not-needs_directions-clause-made :
    goal.returns-then-not-needs_directions-clause-made
returns-then-not-needs_directions-clause-made g c =
    let none : c.needs_directions.result ≡ false = search rules in
    heights_alone c.args.grid c.into_grid.result c.args.gauges.now c.args.maps.now
    (c.needs_directions.ensures none)
    (subst (IsFilledGrid c.args.grid) (sym c.into_grid.ensures) c.in_ok-filled.ensures.filled)

pub make_from_directions-requires-clause-sound : goal.make_from_directions-requires-clause-sound
make_from_directions-requires-clause-sound g c κs within =
    ap (λ (t : Terrain). gauges_fault t c.args.gauges.now) c.in_ok-directions.ensures.terrain
    ∙ filled_gauges c.args.grid c.in_ok-filled.filled c.in_ok-filled.ensures.filled c.args.gauges.now
    ∙ c.requires.sound

pub returns-clause-made : goal.returns-clause-made
returns-clause-made g c =
    let grid = c.args.grid in
    let shared = c.new-header.result in
    let d = c.in_ok-directions.directions in
    let filled : IsFilledGrid grid c.in_ok-filled.filled = c.in_ok-filled.ensures.filled in
    let is : IsFilledGrid grid (header_grid shared) =
    subst (IsFilledGrid grid) (sym c.new-header.ensures.grid) filled in
    let drainage : IsDrainage grid (directed_of d) = record {
      filled = c.in_ok-filled.filled;
      is_filled = filled;
      directions = c.in_ok-directions.ensures.codes;
      same_size = (
        ap (λ (t : Terrain). t.cols) c.in_ok-directions.ensures.terrain
            ∙ ap (λ (r : Raster). r.terrain.cols) filled.rest,
        ap (λ (t : Terrain). t.rows) c.in_ok-directions.ensures.terrain
            ∙ ap (λ (r : Raster). r.terrain.rows) filled.rest,
      );
      ends = c.in_ok-directions.ensures.ends;
    } in
    IfOk-weaker c.make_from_directions.result _ _ (λ made from. made_from grid shared d
    c.args.gauges.now c.args.maps.now made is drainage from (λ requested.
    c.new-header.ensures.kept (c.is_one_of.ensures.1 requested)
    ∙ ap WithHeights (sym c.new-header.ensures.grid))) c.make_from_directions.ensures.made
