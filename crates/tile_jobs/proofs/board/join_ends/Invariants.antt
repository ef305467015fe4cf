use Rattle.std.proofs.Common.{◌≡◌, ◌≢◌, ℕ, suc, ◌+◌, ◌<◌, ◌≤◌, ◌==◌, cond, nat_lt, vec_len, get_or, drop, true}
use Rattle.tile_jobs.specs.Board.{times}
use Rattle.tile_jobs.specs.Sums.{sum_below}
use Rattle.tile_jobs.specs.Ends.{EndState}
use Rattle.tile_jobs.proofs.board.join_ends.Given as goal

abbrev pub invariant-loop-s : goal.invariant-loop-s
invariant-loop-s l = let was = l.initial.rows.items in let own = l.fn.own in record {
  len : vec_len l.rows ≡ vec_len l.initial.rows;
  id : l.closing.id ≡ own.id;
  jobs : l.closing.jobs ≡ own.jobs;
  seats : l.closing.seats ≡ own.seats;
  deque : l.closing.deque ≡ own.deque;
  took : l.closing.took ≡ own.took;
  back : l.closing.back + cond (nat_lt l.v l.s) 1 0 ≡ suc l.s;
  done : (i : ℕ) → i < l.s → (d : _) → (get_or l.rows.items i d).items
      ≡ cond (i == l.v) (get_or was i d).items (drop 1 (get_or was i d).items);
  kept : (i : ℕ) (d : _) → l.s ≤ i → i < vec_len l.rows →
      (get_or l.rows.items i d).items ≡ (get_or was i d).items;
  counts : (y : ℕ) (f : ℕ → ℕ) → ((i : ℕ) (d : _) (e : EndState) → i < vec_len l.initial.rows →
      i ≢ l.v → times y (get_or (get_or was i d).items 0 e).took ≡ f i) →
      times y l.closing.gathered ≡ sum_below (λ i. cond (i == l.v) 0 (f i)) l.s;
  own_mark : own.marked ≡ true → 0 < l.closing.marks;
  marks : (i : ℕ) → i < l.s → (d : _) (e : EndState) → i ≢ l.v →
      (get_or (get_or was i d).items 0 e).marked ≡ true → 0 < l.closing.marks;
  flag : l.closing.marked ≡ true → 0 < l.closing.marks;
}
