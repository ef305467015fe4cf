use Rattle.std.proofs.Common.{arith, ◌<◌, length}
use Rattle.std.specs.List.{Contains}
use Rattle.std.proofs.lemmas.List.Elements.{All-contains}
use Rattle.std.proofs.lemmas.List.Sorted.{length_permutation}
use Rattle.floods.specs.Flood.{entry_of, candidates_in}
use Rattle.floods.proofs.Heaps.{cons_head, held_in, nothing_left, one_left, first_open, all_done}
use Rattle.terrain.proofs.Options.{none_from_is_some}
use Rattle.floods.proofs.queue.next_unlabelled.Goals as goal

pub loop-waiting-init : goal.loop-waiting-init
loop-waiting-init c = record { order = c.requires.order; done = nothing_left _ _ }

pub returns-then-not-has-clause-some : goal.returns-then-not-has-clause-some
returns-then-not-has-clause-some c =
    first_open c.loop-waiting.invariant.done _ _ c.in-Some.ensures.taken c.in-Some.ensures.lowest
    (none_from_is_some (entry_of c.args.labels.now c.in-Some.waiting.node) (cc))

pub loop-waiting-preserved : goal.loop-waiting-preserved
loop-waiting-preserved c = record {
  order = c.take.ensures.order;
  done = one_left c.loop-waiting.invariant.done _ _ c.in-Some.ensures.taken (cc);
}

pub has-requires : goal.has-requires
has-requires c =
    All-contains (λ w. w.node < length c.args.labels.now) (candidates_in c.args.queue.now) c.in-Some.waiting
    c.requires.inside (All-contains (Contains (candidates_in c.args.queue.now)) _ c.in-Some.waiting
    c.loop-waiting.invariant.done.left
    (held_in c.in-Some.ensures.taken c.in-Some.waiting (cons_head c.in-Some.waiting _)))

pub returns-clause-none : goal.returns-clause-none
returns-clause-none c = all_done c.loop-waiting.invariant.done c.in_default.ensures.none

pub loop-waiting-smaller : goal.loop-waiting-smaller
loop-waiting-smaller c = omega (arith, length_permutation _ _ c.in-Some.ensures.taken)
