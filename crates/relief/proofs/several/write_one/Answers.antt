use Rattle.std.proofs.Common.{◌≡◌, [], ap, ◌∙◌}
use Rattle.std.specs.Option.{option_map_or}
use Rattle.ascii_grid.specs.Text.{counts_text}
use Rattle.relief.specs.MadeMap.{header_grid, layer_text}
use Rattle.relief.proofs.several.write_one.Goals as goal

pub returns-in-Some : goal.returns-in-Some
returns-in-Some g c =
    let made = c.args.made.now in
    let text : layer_text made c.args.map
    ≡ counts_text (header_grid made.header) c.in-Some.directions.codes =
    ap (λ m. layer_text made m) c.in-Flow.is
    ∙ ap (λ o. option_map_or (λ d. counts_text (header_grid made.header) d.codes) o []) c.in-Some.is in
    rw text (rw (c.frame-frame.ensures, c.codes.ensures.value) at c.write_codes.ensures)
