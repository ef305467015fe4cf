use Rattle.std.proofs.lemmas.List.{take_all}
use Rattle.fill.proofs.numbers.label_ends.Goals as goal

pub returns : goal.returns
returns c = cc (take_all _ _ c.loop-flood-test.false)
