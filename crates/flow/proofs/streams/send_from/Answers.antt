use Rattle.std.proofs.Common.{◌+◌, ◌^◌, ◌<◌, get_or, arith, rules}
use Rattle.std.proofs.lemmas.List.{get_or-set_other}
use Rattle.flow.specs.Sending.{sent_entry}
use Rattle.flow.proofs.Sending.{next_inside, step_waits, step_sending, step_fits, step_falls, step_early, end_sending, end_early}
use Rattle.flow.proofs.streams.send_from.Goals as goal

pub overflow_add-totals : goal.overflow_add-totals
overflow_add-totals g c =
    let i = c.downstream.invariant in
    let fits : get_or c.downstream.totals c.next-next.result 0 + get_or c.downstream.totals c.downstream.node 0 <
    2 ^ 32 = step_fits i.sending c.downstream.node i.inside c.downstream-test.true c.next-next.ensures
    c.if-next-node.false in
    search rules

pub overflow_sub-waits : goal.overflow_sub-waits
overflow_sub-waits g c =
    let i = c.downstream.invariant in
    omega (
      arith,
      step_waits i.sending c.downstream.node i.inside c.downstream-test.true c.next-next.ensures c.if-next-node.false,
      get_or-set_other c.downstream.waits c.downstream.node c.next-next.result sent_entry 0 c.if-next-node.false,
    )

pub returns-then-next-node-clause-sending : goal.returns-then-next-node-clause-sending
returns-then-next-node-clause-sending g c =
    let i = c.downstream.invariant in
    end_sending i.sending c.downstream.node i.inside c.downstream-test.true c.next-next.ensures c.if-next-node.true

pub returns-then-next-node-clause-early : goal.returns-then-next-node-clause-early
returns-then-next-node-clause-early g c =
    let i = c.downstream.invariant in
    end_early i.sending c.downstream.node i.inside c.downstream-test.true c.next-next.ensures c.if-next-node.true
    (c.args.from + 1) i.early

pub downstream-smaller : goal.downstream-smaller
downstream-smaller g c =
    let i = c.downstream.invariant in
    step_falls i.sending c.downstream.node i.inside c.downstream-test.true c.next-next.ensures c.if-next-node.false

pub downstream-preserved : goal.downstream-preserved
downstream-preserved g c =
    let i = c.downstream.invariant in
    record {
      sending = step_sending i.sending c.downstream.node i.inside c.downstream-test.true c.next-next.ensures
          c.if-next-node.false;
      inside = next_inside i.sending c.downstream.node i.inside c.downstream-test.true c.next-next.ensures
          c.if-next-node.false;
      early = step_early i.sending c.downstream.node i.inside c.downstream-test.true c.next-next.ensures
          c.if-next-node.false (c.args.from + 1) i.early;
    }
