use Rattle.std.proofs.Common.{◌≡◌, ℕ, ◌+◌, ◌-◌, ◌<◌, ◌≤◌, List, ◌++◌, length, cond, vec_capacity, drop, suc, false, true, []}
use Rattle.tile_jobs.specs.Ends.{deal_of, position_of}
use Rattle.tile_jobs.proofs.closing.Closing.empty_into.Given as goal

abbrev pub decreases-loop-closing : goal.decreases-loop-closing
decreases-loop-closing l =
    cond l.closing.marked 0 (suc (length (deal_of l.closing) - position_of l.closing))

abbrev pub invariant-loop-closing : goal.invariant-loop-closing
invariant-loop-closing l = (p : List ℕ) × record {
  left : l.left.items ≡ l.initial.left.items ++ p;
  now : l.closing ≡ record l.initial.closing
      { took = l.initial.closing.took ++ p; marks = l.closing.marks; marked = l.closing.marked };
  part : p ++ drop (position_of l.closing) (deal_of l.initial.closing)
      ≡ drop (position_of l.initial.closing) (deal_of l.initial.closing);
  low : length p + position_of l.initial.closing ≡ position_of l.closing;
  some : 0 < l.initial.closing.marks → p ≡ [];
  same : l.closing.marked ≡ false → l.closing.marks ≡ l.initial.closing.marks;
  ended : l.closing.marked ≡ true → l.initial.closing.marks ≡ 0 →
      length (deal_of l.initial.closing) ≤ position_of l.closing;
  capacity : vec_capacity l.initial.left ≤ vec_capacity l.left;
}
