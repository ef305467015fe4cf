use Rattle.std.proofs.Common.{arith}
use Rattle.std.proofs.lemmas.List.{with_items_is}
use Rattle.drain.proofs.Sound.{certified, coded}
use Rattle.drain.proofs.draining.count_steps.Goals as goal

pub loop-steps-init : goal.loop-steps-init
loop-steps-init g c = record {
  counts = c.in_ok-steps.ensures.counts;
  changes = rw (c.new.ensures.value, c.deref.ensures.value) at c.in_ok-changes.ensures;
}

pub returns-in-Codes-clause-counted : goal.returns-in-Codes-clause-counted
returns-in-Codes-clause-counted g c =
    let grid = c.grid-grid.ensures in
    let t = c.args.filled.now.terrain in
    let cut = c.args.tiling.now in
    let steps = c.in_ok-steps-2.steps.items in
    let lawful = c.in_ok-steps.ensures.lawful in
    let checked = rw (
      c.in-Codes.is,
      c.new-in-loop-steps.ensures.value,
      c.deref-in-loop-steps.ensures.value,
      grid.value,
    ) at c.in_ok-codes.ensures.checked in
    let are = certified t steps c.in-Codes.codes.items c.requires lawful checked.0 checked.1
    (rw grid.value at c.in_ok-steps-2.ensures.counts) (rw grid.value at c.new.ensures.lawful) grid.own in
    (are, coded t steps c.in-Codes.codes.items c.requires lawful checked.0 checked.1 are)

pub loop-steps-preserved : goal.loop-steps-preserved
loop-steps-preserved g c =
    let steps = c.in_ok-steps-2.steps in
    let put = c.put.ensures in
    let whole = with_items_is steps c.put.new.steps
    (omega (arith, put.counts.size, c.in_ok-steps-2.ensures.counts.size, steps.ok.0)) in
    record {
      counts = rw whole put.counts;
      changes = rw (c.new-in-loop-steps-2.ensures.value, c.deref-in-loop-steps-2.ensures.value)
          at c.in_ok-push_around.ensures;
    }
