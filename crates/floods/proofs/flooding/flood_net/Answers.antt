use Rattle.std.proofs.Common.{rules, ◌≡◌, ◌<◌, length, ap, ◌∙◌, Some, None, Option, ℕ, is_none, cond, arith}
use mir.Val.{SFits}
use Rattle.terrain.proofs.Heights.{height_width}
use Rattle.std.proofs.lemmas.Int.{to_z-of_z}
use Rattle.std.proofs.lemmas.List.Sums.{sum_by-set}
use Rattle.std.proofs.lemmas.List.{length-set, length-replicate}
use Rattle.std.proofs.lemmas.List.Elements.{All-contains}
use Rattle.floods.proofs.Heaps.{HasWalk}
use Rattle.floods.proofs.Steps.{ends_inside, settle, flooded, noted_still, own_still, sources_noted, sources_own, begun}
use Rattle.floods.proofs.flooding.flood_net.Goals as goal

pub returns : goal.returns
returns g c =
    flooded (g.met.N.Net.joined_inside c.args.net.now) c.loop-waiting.invariant.state c.loop-waiting.invariant.noted
    c.in_default.ensures.none

pub loop-waiting-init : goal.loop-waiting-init
loop-waiting-init g c =
    let levels = c.queue_sources.new.levels in
    let size : length levels ≡ g.N.Net.node_count c.args.net.now =
    c.queue_sources.ensures.size ∙ ap length c.in_ok-levels.ensures ∙ length-replicate c.nodes-count.result None ∙
    c.nodes-count.ensures in
    record {
      order = c.in_ok-queue.ensures.order;
      state = rw (c.in_ok-labels.ensures, c.nodes-count.ensures) (begun c.in_ok-queue.ensures.sources _ size);
      noted = rw (c.in_ok-labels.ensures, c.nodes-count.ensures)
          (sources_noted c.in_ok-queue.ensures.sources c.in_ok-queue.ensures.noted size);
      own = rw (c.in_ok-labels.ensures, c.nodes-count.ensures)
          (sources_own c.in_ok-queue.ensures.sources c.in_ok-queue.ensures.noted);
    }

pub spread-requires-clause-noted : goal.spread-requires-clause-noted
spread-requires-clause-noted g c =
    let fits : SFits height_width c.in-Some.waiting.height.0 = search rules in
    let height = to_z-of_z height_width c.in-Some.waiting.height.0 fits in
    let takes = c.in-Some.ensures.some in
    let here =
    All-contains (λ x. (x.node < g.N.Net.node_count c.args.net.now) ×
    HasWalk (g.N.Net.joins c.args.net.now) (g.N.Net.source_height c.args.net.now) x) _ c.in-Some.waiting
    c.loop-waiting.invariant.state.queue takes.was in
    let inside : c.in-Some.waiting.node < length c.loop-waiting.labels = omega arith in
    rw (c.put.ensures, c.put-in-Some.ensures, height)
    (noted_still c.in-Some.waiting.height.0 c.in-Some.waiting.label inside takes c.loop-waiting.invariant.noted)

pub loop-waiting-preserved : goal.loop-waiting-preserved
loop-waiting-preserved g c =
    let fits : SFits height_width c.in-Some.waiting.height.0 = search rules in
    let height = to_z-of_z height_width c.in-Some.waiting.height.0 fits in
    let put = rw height at c.put.ensures in
    let takes = c.in-Some.ensures.some in
    let spread = rw (c.put-in-Some.ensures, put) at c.in_ok-spread.ensures in
    let follows = spread.2 in
    let size : length c.spread.new.levels ≡ length c.loop-waiting.levels =
    cc (length-set c.loop-waiting.labels c.in-Some.waiting.node (Some c.in-Some.waiting.label)) in
    let here =
    All-contains (λ x. (x.node < g.N.Net.node_count c.args.net.now) ×
    HasWalk (g.N.Net.joins c.args.net.now) (g.N.Net.source_height c.args.net.now) x) _ c.in-Some.waiting
    c.loop-waiting.invariant.state.queue takes.was in
    let inside : c.in-Some.waiting.node < length c.loop-waiting.labels = omega arith in
    rw c.put-in-Some.ensures (record {
      order = follows.order;
      state = settle (g.met.N.Net.joined_inside c.args.net.now) c.loop-waiting.invariant.state _ _ _
          (g.met.N.Net.joined_back c.args.net.now) takes spread.1 follows.queue size follows.kept
          (All-contains (λ x. g.N.Net.source_height c.args.net.now x.node ≡ Some x.height.0 → x.label ≡ x.node) _
          c.in-Some.waiting c.loop-waiting.invariant.own.own takes.was);
      noted = follows.noted;
      own = follows.own (g.N.Net.source_height c.args.net.now)
          (own_still c.in-Some.waiting.height.0 c.in-Some.waiting.label inside takes _ c.loop-waiting.invariant.own);
    })

pub put-requires-in-Some-clause-label : goal.put-requires-in-Some-clause-label
put-requires-in-Some-clause-label g c =
    let takes = c.in-Some.ensures.some in
    let here =
    All-contains (λ x. (x.node < g.N.Net.node_count c.args.net.now) ×
    HasWalk (g.N.Net.joins c.args.net.now) (g.N.Net.source_height c.args.net.now) x) _ c.in-Some.waiting
    c.loop-waiting.invariant.state.queue takes.was in
    let end =
    ends_inside (g.N.Net.joins c.args.net.now) (g.N.Net.source_height c.args.net.now)
    (g.N.Net.node_count c.args.net.now) (g.met.N.Net.joined_inside c.args.net.now) here.1.0 c.in-Some.waiting.node
    here.0 here.1.1 in
    let few : c.nodes-count.result < 4294967296 = search rules in
    omega arith

pub loop-waiting-smaller : goal.loop-waiting-smaller
loop-waiting-smaller g c =
    let takes = c.in-Some.ensures.some in
    let here =
    All-contains (λ x. (x.node < g.N.Net.node_count c.args.net.now) ×
    HasWalk (g.N.Net.joins c.args.net.now) (g.N.Net.source_height c.args.net.now) x) _ c.in-Some.waiting
    c.loop-waiting.invariant.state.queue takes.was in
    let inside : c.in-Some.waiting.node < length c.loop-waiting.labels = omega arith in
    let counted =
    sum_by-set (λ (label : Option ℕ). cond (is_none label) 1 0) c.loop-waiting.labels c.in-Some.waiting.node
    (Some c.in-Some.waiting.label) None inside in
    let was = ap {B = ℕ} (λ (label : Option ℕ). cond (is_none label) 1 0) takes.was_open in
    rw c.put-in-Some.ensures (omega arith)
