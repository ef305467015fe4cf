use Rattle.std.proofs.Common.{[]}
use Rattle.ascii_grid.proofs.Parting.{IsParted-none}
use Rattle.ascii_grid.proofs.tokenizer.Tokenizer.new.Goals as goal

pub returns-clause-none : goal.returns-clause-none
returns-clause-none c = record {
  last = [];
  parted = IsParted-none;
  judged = c.new.ensures.none;
  front = c.new-2.ensures;
}
