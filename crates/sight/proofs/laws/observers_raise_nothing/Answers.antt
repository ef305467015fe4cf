use Rattle.sight.proofs.Rises.{raise_nothing}
use Rattle.sight.proofs.laws.observers_raise_nothing.Goals as goal

pub returns : goal.returns
returns c = raise_nothing
