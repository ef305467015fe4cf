use Rattle.std.proofs.Common.{◌≡◌, ℕ, ◌*◌, ◌<◌, min, length, get_or, take, count_by}
use Rattle.flow.specs.Whole.{is_outlet_code}
use Rattle.flow.proofs.outlet_numbers.OutletNumbers.of_codes.Given as goal

abbrev pub invariant-loop-group : goal.invariant-loop-group
invariant-loop-group l = record {
  size : length l.before.items ≡ l.group;
  each : (k : ℕ) → k < length l.before.items → get_or l.before.items k 0 ≡ count_by is_outlet_code
      (take (k * 16) l.codes);
  total : l.count ≡ count_by is_outlet_code (take (min (l.group * 16) (length l.codes)) l.codes);
}
