use Rattle.std.proofs.Common.{◌≡◌, ◌^◌, ◌≤◌, length}
use Rattle.std.specs.Prelude.{decimal}
use Rattle.ascii_grid.proofs.page.digit_count.Given as goal

abbrev pub invariant-loop-count : goal.invariant-loop-count
invariant-loop-count l = record {
  limit : l.limit ≡ 10 ^ l.count;
  some : 1 ≤ l.count;
  long : l.count ≤ length (decimal l.number);
}
