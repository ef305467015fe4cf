use Rattle.std.proofs.Common.{ℕ, ◌+◌, ◌^◌, ◌<◌, List, length, get_or, cond, sym, ap, ◌∙◌, arith, rules}
use Rattle.flow.specs.Sending.{donor}
use Rattle.std.proofs.lemmas.Bool.{cond-false}
use Rattle.flow.specs.Streams.{leads_to}
use Rattle.tile_jobs.proofs.Sums.{bit_le, sum_below-few, sum_more}
use Rattle.flow.proofs.Totals.{leads_end}
use Rattle.flow.proofs.Sending.{leads_test, added_at}
use Rattle.flow.proofs.streams.count_donors.Goals as goal
use Rattle.flow.proofs.streams.count_donors.Goals.{then-next-node, else-next-node}

pub overflow_add-counts : goal.overflow_add-counts
overflow_add-counts g c =
    let links = g.L.Links.list c.args.links.now in
    let next = c.next-next.result in
    let inside : c.next-next.result < length (g.L.Links.list c.args.links.now) = omega (
      arith,
      c.next-next.ensures,
      c.requires.streams.inside c.loop-node.node (omega (arith, c.loop-node-test.true, c.count-node-end.ensures)),
    ) in
    let fits : get_or c.loop-node.counts c.next-next.result 0 + 1 < 2 ^ 32 = omega (
      arith,
      c.loop-node.invariant.each next inside,
      sum_below-few (donor links next) c.loop-node.node (λ j l. bit_le (leads_to links j next)),
      c.requires.few,
      inside,
    ) in
    search rules

pub loop-node-preserved : goal.loop-node-preserved
loop-node-preserved g c =
    let links = g.L.Links.list c.args.links.now in
    let node = c.loop-node.node in
    let next = c.next-next.result in
    record {
      size = omega (arith, c.if-next-node.auto.counts, c.loop-node.invariant.size);
      each = elim c.if-next-node.branch [
        | then-next-node w ↦ λ i l. omega (
          arith,
          ap (λ (xs : List ℕ). get_or xs i 0) w.counts-is,
          added_at c.loop-node.counts next 1 i (omega (
            arith,
            c.next-next.ensures,
            c.requires.streams.inside node (omega (arith, c.loop-node-test.true, c.count-node-end.ensures)),
            c.loop-node.invariant.size,
          )),
          ap (λ b. cond {A = ℕ} b 1 0) (leads_test links node i c.next-next.ensures w.if-next-node.true),
          c.loop-node.invariant.each i l,
          sum_more (donor links i) node,
        )
        | else-next-node w ↦ λ i l. omega (
          arith,
          ap (λ (xs : List ℕ). get_or xs i 0) w.counts-is,
          cond-false {A = ℕ} _ 1 0 (leads_end links i (sym c.next-next.ensures ∙ w.if-next-node.false)),
          c.loop-node.invariant.each i l,
          sum_more (donor links i) node,
        )
      ];
    }
