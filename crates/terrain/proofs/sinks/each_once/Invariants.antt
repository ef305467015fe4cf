use Rattle.std.proofs.Common.{◌≡◌, take}
use Rattle.terrain.specs.Sinks.{each_once}
use Rattle.terrain.proofs.sinks.each_once.Given as goal

abbrev pub invariant-loop-place : goal.invariant-loop-place
invariant-loop-place l = l.named.items ≡ each_once (take l.place-index l.places)
