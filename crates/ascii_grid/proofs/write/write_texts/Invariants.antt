use Rattle.std.proofs.Common.{take, Ok}
use Rattle.std.specs.List.{flat_map}
use Rattle.ascii_grid.specs.Device.{Writes}
use Rattle.ascii_grid.specs.declared.counted.WriteFailed.{WriteFailed}
use Rattle.ascii_grid.proofs.write.write_texts.Given as goal

abbrev pub invariant-loop-text : goal.invariant-loop-text
invariant-loop-text g l =
    Writes {T = Unit {0}} {E = WriteFailed} g.W.Write.contents l.fn.out l.out
    (flat_map (λ text. text.items) (take l.text-index l.texts)) (Ok tt)
