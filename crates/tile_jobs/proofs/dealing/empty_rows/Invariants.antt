use Rattle.std.proofs.Common.{◌≡◌, ℕ, ◌<◌, vec_len, get_or, []}
use Rattle.tile_jobs.proofs.dealing.empty_rows.Given as goal

abbrev pub invariant-loop : goal.invariant-loop
invariant-loop l = record {
  len : vec_len l.rows ≡ l.counter;
  empty : (s : ℕ) (d : _) → s < l.counter → (get_or l.rows.items s d).items ≡ [];
}
