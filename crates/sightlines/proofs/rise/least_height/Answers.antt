use Rattle.std.proofs.Common.{arith, ap, sym, ◌∙◌, ◌-◌, inl, inr, is_some}
use Rattle.std.proofs.lemmas.Bool.{cases_lt}
use Rattle.sightlines.specs.Walk.{walk_blocks}
use Rattle.sightlines.proofs.Seen.{hidden_by_either}
use Rattle.sightlines.proofs.Higher.{hidden_lower}
use Rattle.sightlines.proofs.rise.least_height.Goals as goal

pub loop-height-init : goal.loop-height-init
loop-height-init c = record {
  most = c.raised-height.ensures.range.1;
  hidden = λ h below.
      hidden_lower c.args.grid.now.terrain c.args.observer.now c.args.target h (c.raised-height.result - 1)
      c.args.radius (omega arith) (c.raised-height.ensures.hidden (omega arith));
}

pub loop-height-preserved : goal.loop-height-preserved
loop-height-preserved c =
    let t = c.args.grid.now.terrain in
    let o = c.args.observer.now in
    let q = c.args.target in
    let lines = c.in-Some.lines in
    let height = c.loop-height.height in
    let raised = c.raised.result in
    let here =
    hidden_by_either _ (walk_blocks t.cells lines.columns) (walk_blocks t.cells lines.rows) c.in-Some.ensures.seen
    (sym c.blocker_past_blocks.ensures ∙ ap is_some c.in-Some-blocker_past_blocks.is) in
    record {
      most = omega arith;
      hidden = λ h below. elim (cases_lt height raised) [
        | inl up ↦ hidden_lower t o q h (raised - 1) c.args.radius (omega arith) (c.raised.ensures.hidden up)
        | inr same ↦ hidden_lower t o q h height c.args.radius (omega arith) here
      ];
    }
