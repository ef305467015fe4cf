use Rattle.std.proofs.Common.{◌<◌, None, Some, sym, ap, ◌∙◌, arith}
use Rattle.std.specs.Prelude.{if◌then◌else◌}
use Rattle.flow.specs.declared.gauges.GaugeFault.TheVariants.{OnNodata}
use Rattle.flow.proofs.GaugeFaults.{fault_inside, none_of_code}
use Rattle.flow.proofs.gauges.gauge_fault_at.Goals as goal

pub returns-then-is_none : goal.returns-then-is_none
returns-then-is_none c =
    let d = c.args.d.now in
    let p = c.args.gauge in
    let row : p.row < d.terrain.rows = omega arith in
    let col : p.col < d.terrain.cols = omega arith in
    sym (fault_inside d.terrain _ p row col
    ∙ ap (λ b. if b then Some (OnNodata c.args.index) else None) (none_of_code c.code.ensures.draining p _
    c.code.ensures.value c.is_none.ensures ∙ c.if-is_none.true))

pub returns : goal.returns
returns c =
    let d = c.args.d.now in
    let p = c.args.gauge in
    let row : p.row < d.terrain.rows = omega arith in
    let col : p.col < d.terrain.cols = omega arith in
    sym (fault_inside d.terrain _ p row col
    ∙ ap (λ b. if b then Some (OnNodata c.args.index) else None) (none_of_code c.code.ensures.draining p _
    c.code.ensures.value c.is_none.ensures ∙ c.if-is_none.false))
