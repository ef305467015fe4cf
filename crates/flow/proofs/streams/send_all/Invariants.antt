use Rattle.std.proofs.Common.{◌≢◌, ℕ, ◌<◌, get_or}
use Rattle.flow.specs.Sending.{IsSending}
use Rattle.flow.proofs.streams.send_all.Given as goal

abbrev pub invariant-loop-node : goal.invariant-loop-node
invariant-loop-node g l = record {
  sending : IsSending (g.L.Links.list l.links) g.weights l.waits l.totals;
  early : (i : ℕ) → i < l.node → get_or l.waits i 0 ≢ 0;
}

abbrev pub ghost-send_from : goal.ghost-send_from
ghost-send_from g a = g.weights
