use Rattle.std.proofs.Common.{take, Ok}
use Rattle.std.specs.List.{flat_map}
use Rattle.ascii_grid.specs.Device.{Writes}
use Rattle.ascii_grid.specs.declared.counted.WriteFailed.{WriteFailed}
use Rattle.relief.specs.MadeMap.{layer_text}
use Rattle.relief.proofs.several.write_several.Given as goal

abbrev pub invariant-loop-index : goal.invariant-loop-index
invariant-loop-index g l =
    Writes {T = Unit {0}} {E = WriteFailed} g.W.Write.contents l.fn.writer l.writer
    (flat_map (layer_text l.made) (take l.index l.maps)) (Ok tt)
