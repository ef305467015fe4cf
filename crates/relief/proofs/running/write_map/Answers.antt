use Rattle.std.proofs.Common.{ap, ◌≡◌}
use Rattle.ascii_grid.specs.Text.{heights_text}
use Rattle.std.specs.List.{flat_map}
use Rattle.relief.specs.MadeMap.{layer_text, made_text}
use Rattle.relief.proofs.running.write_map.Goals as goal

pub returns-in-Heights : goal.returns-in-Heights
returns-in-Heights g c =
    let text : made_text c.args.made.now ≡ heights_text c.in-Heights.grid =
    ap made_text c.in-Heights.is in
    rw text c.write_heights.ensures

pub returns-in-Several : goal.returns-in-Several
returns-in-Several g c =
    let text : made_text c.args.made.now
    ≡ flat_map (layer_text c.in-Several.made) c.in-Several.maps.now = ap made_text c.in-Several.is in
    rw text c.write_several.ensures
