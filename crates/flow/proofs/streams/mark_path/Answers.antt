use Rattle.std.proofs.Common.{◌+◌, ◌^◌, ◌<◌, inl, inr, get_or, ap, refl, arith, rules}
use Rattle.flow.proofs.Ending.{moves_left, moves_fall}
use Rattle.flow.proofs.Sending.{entry_new, entry_added, entry_fits, set_kept, set_from, mark_added, mark_on, mark_end, marks_of}
use Rattle.flow.proofs.streams.mark_path.Goals as goal

pub path-init : goal.path-init
path-init g c = record {
  marks = marks_of c.args.from c.requires.marks;
  inside = c.requires.inside;
  few = omega arith;
  kept = λ i k. k;
  marked = inl refl;
}

pub path-preserved : goal.path-preserved
path-preserved g c =
    let i = c.path.invariant in
    let entry = entry_new c.requires.few i.marks i.inside c.path-test.true in
    record {
      marks = mark_on c.requires.few i.marks i.inside entry c.path-test.true c.next-next.ensures c.if-next-node.false;
      inside = omega (arith, c.next-next.ensures, c.requires.streams.inside c.path.node i.inside);
      few = omega arith;
      kept = λ j k. set_kept c.requires.few i.marks i.inside entry j (i.kept j k);
      marked = inr (set_from c.requires.few i.marks i.inside entry c.args.from i.marked);
    }

pub path-smaller : goal.path-smaller
path-smaller g c = omega (
  arith,
  ap (moves_left (g.L.Links.list c.args.links.now)) c.next-next.ensures,
  moves_fall c.requires.streams _ c.path.invariant.inside (λ e. c.if-next-node.false (cc)),
)

pub overflow_add-waits : goal.overflow_add-waits
overflow_add-waits g c =
    let i = c.path.invariant in
    let fits : get_or c.path.waits c.path.node 0 + c.path.donors < 2 ^ 32 =
    entry_fits c.requires.few i.marks i.inside c.path-test.false in
    search rules

pub returns-then-next-node : goal.returns-then-next-node
returns-then-next-node g c =
    let i = c.path.invariant in
    let entry = entry_new c.requires.few i.marks i.inside c.path-test.true in
    record {
      marks = mark_end c.requires.few i.marks i.inside entry c.path-test.true (cc);
      kept = λ j k. set_kept c.requires.few i.marks i.inside entry j (i.kept j k);
      marked = λ _. set_from c.requires.few i.marks i.inside entry _ i.marked;
    }

pub returns : goal.returns
returns g c =
    let i = c.path.invariant in
    let entry = entry_added c.requires.few i.marks i.inside c.path-test.false in
    record {
      marks = mark_added c.requires.few i.marks i.inside entry c.path-test.false;
      kept = λ j k. set_kept c.requires.few i.marks i.inside entry j (i.kept j k);
      marked = λ _. set_from c.requires.few i.marks i.inside entry c.args.from i.marked;
    }
