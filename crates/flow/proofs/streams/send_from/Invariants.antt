use Rattle.std.proofs.Common.{◌≢◌, ℕ, ◌+◌, ◌<◌, length, get_or}
use Rattle.flow.specs.Sending.{IsSending}
use Rattle.flow.proofs.Sending.{unsent}
use Rattle.flow.proofs.streams.send_from.Given as goal

abbrev pub invariant-downstream : goal.invariant-downstream
invariant-downstream g l = record {
  sending : IsSending (g.L.Links.list l.links) g.weights l.waits l.totals;
  inside : l.node < length (g.L.Links.list l.links);
  early : (i : ℕ) → i < l.from + 1 → i ≢ l.node → get_or l.waits i 0 ≢ 0;
}

abbrev pub decreases-downstream : goal.decreases-downstream
decreases-downstream g l = unsent l.waits (length (g.L.Links.list l.links))
