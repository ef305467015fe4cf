use Rattle.std.proofs.Common.{◌∙◌, is_some, sym, ap, arith}
use Rattle.std.proofs.lemmas.Bool.{false≢true}
use Rattle.terrain.proofs.Places.{same_place}
use Rattle.drain.proofs.Begun.{before_all, before_any, sink_passed, sink_put}
use Rattle.drain.proofs.Spreading.{spot_from_inner}
use Rattle.drain.proofs.beginning.begin_at_sinks.Goals.{then-is_inner+then-is_some, else-is_inner, else-is_inner-via-then-is_inner+else-is_some, else-is_inner-via-else-is_inner}
use Rattle.drain.proofs.beginning.begin_at_sinks.Goals as goal

pub loop-sink-init : goal.loop-sink-init
loop-sink-init c = before_any c.sinks-sink-items.result.now c.requires

pub loop-sink-preserved-in_default : goal.loop-sink-preserved-in_default
loop-sink-preserved-in_default c =
    let b = c.args.window.now.bounds in
    sink_passed c.sinks-sink-items.result.now c.loop-sink.sink-index c.loop-sink-test.true c.loop-sink.invariant
    (λ s inner shows here. c.in_default.ensures s (spot_from_inner inner) shows)

pub loop-sink-preserved : goal.loop-sink-preserved
loop-sink-preserved c =
    let t = c.args.grid.now.terrain in
    let sinks = c.sinks-sink-items.result.now in
    let i = c.loop-sink.sink-index in
    let b = c.args.window.now.bounds in
    let at = c.in-Some.ensures in
    let passed = sink_passed sinks i c.loop-sink-test.true
    c.loop-sink.invariant in
    elim c.if-is_inner.branch [
      | then-is_inner+then-is_some w ↦ rw (w.counts-is, w.index.ensures.value)
          (sink_put sinks i c.loop-sink-test.true c.loop-sink.invariant
          c.sinks-sink-items.ensures.value c.in-Some.spot (c.is_inner.ensures.0 w.if-is_inner.true) at.1
          (sym (ap is_some w.at.ensures) ∙ sym w.is_some.ensures ∙ w.if-is_some.true))
      | else-is_inner w ↦
          rw w.counts-is (passed (λ s inner shows here. elim w.else-is_inner.branch [
            | else-is_inner-via-then-is_inner+else-is_some v ↦
                false≢true (sym v.if-is_some.false ∙ v.is_some.ensures ∙ ap is_some v.at.ensures
                ∙ here)
            | else-is_inner-via-else-is_inner v ↦
                false≢true (sym v.if-is_inner.false ∙ c.is_inner.ensures.1
                (rw (same_place s c.in-Some.spot
                (omega (arith, shows.0, at.1.0)) (omega (arith, shows.1, at.1.1))) at inner))
          ]))
    ]

pub returns : goal.returns
returns c =
    before_all c.loop-sink.sink-index c.sinks-sink-items.ensures.value
    (omega (arith, c.loop-sink-test.false)) c.loop-sink.invariant
