use Rattle.std.proofs.Common.{◌≡◌, ℕ, ◌+◌, ◌<◌, ◌≤◌, ◌==◌, cond, nat_lt, vec_len, get_or, [], ◌∷◌, ◌++◌}
use Rattle.tile_jobs.specs.Ends.{fresh}
use Rattle.tile_jobs.proofs.dealing.split_for_all.Given as goal

abbrev pub invariant-loop-s : goal.invariant-loop-s
invariant-loop-s l = record {
  len : vec_len l.rows ≡ vec_len l.initial.rows;
  same : l.dealer ≡ record l.initial.dealer { marks_due = l.dealer.marks_due };
  marks_due : l.dealer.marks_due + l.s ≡ vec_len l.initial.rows + cond (nat_lt l.v l.s) 1 0;
  done : (i : ℕ) (d : _) → i < l.s →
      (get_or l.rows.items i d).items ≡ cond (i == l.v) (get_or l.initial.rows.items i d).items
      ((get_or l.initial.rows.items i d).items ++ fresh l.initial.dealer ∷ []);
  kept : (i : ℕ) (d : _) → l.s ≤ i → i < vec_len l.rows →
      (get_or l.rows.items i d).items ≡ (get_or l.initial.rows.items i d).items;
}
