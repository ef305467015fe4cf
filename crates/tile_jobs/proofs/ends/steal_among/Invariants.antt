use Rattle.std.proofs.Common.{◌≡◌, ℕ, ◌<◌, ◌≤◌, true, false, vec_len, get_or}
use Rattle.tile_jobs.specs.Ends.{EndState, AllKept, LostSteal, SameElsewhere}
use Rattle.tile_jobs.proofs.ends.steal_among.Given as goal

abbrev pub invariant-loop-k : goal.invariant-loop-k
invariant-loop-k l = record {
  len : vec_len l.others ≡ vec_len l.initial.others;
  kept : AllKept l.initial.others.items l.others.items;
  elsewhere : SameElsewhere l.from l.k l.initial.others.items l.others.items;
  lost : l.lost ≡ true → (i : ℕ) × (l.from ≤ i) × (i < l.k) × ((d : EndState) →
      LostSteal (get_or l.initial.others.items i d) (get_or l.others.items i d));
  marked : l.lost ≡ false → (i : ℕ) (d : EndState) → l.from ≤ i → i < l.k →
      (get_or l.others.items i d).marked ≡ true;
}
