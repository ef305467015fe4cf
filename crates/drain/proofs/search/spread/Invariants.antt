use Rattle.std.proofs.Common.{◌≡◌, ◌+◌}
use Rattle.drain.specs.Search.{IsLowering, count_on}
use Rattle.drain.proofs.search.spread.Given as goal

abbrev pub invariant-loop-way : goal.invariant-loop-way
invariant-loop-way l = record {
  lowering : IsLowering l.window l.initial.counts l.counts l.initial.reached.items l.reached.items;
  next : l.next ≡ count_on l.window.bounds l.counts l.spot + 1;
}
