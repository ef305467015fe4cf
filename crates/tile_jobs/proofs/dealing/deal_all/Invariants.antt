use Rattle.std.proofs.Common.{◌≡◌, ℕ, ◌<◌, vec_len, get_or}
use Rattle.tile_jobs.specs.Ends.{AllFresh, without}
use Rattle.tile_jobs.proofs.dealing.deal_all.Given as goal

abbrev pub ghosts-new : goal.ghosts-new
ghosts-new a = record { jobs = a.jobs; seats = a.seats; deque = a.v }

abbrev pub invariant-loop-v : goal.invariant-loop-v
invariant-loop-v l = record {
  count : vec_len l.owns ≡ l.v;
  size : vec_len l.rows ≡ l.seats;
  owns : AllFresh l.jobs l.seats l.owns.items;
  rows : (s : ℕ) (d : _) → s < l.seats → (get_or l.rows.items s d).items ≡ without s l.owns.items;
}
