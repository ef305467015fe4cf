use Rattle.std.proofs.Common.{arith, sym, ap, subst, ◌∙◌, ℕ, ◌*◌, ◌+◌, ◌-◌, ◌++◌, ◌∷◌, [], List, get_or, false}
use Rattle.std.proofs.lemmas.Bool.{both_ways}
use Rattle.horizons.specs.declared.target.Target.{Target}
use Rattle.sight.specs.Hiding.{AreRays, Crosses, IsInRun}
use Rattle.sight.proofs.Gathered.{cell_passed, cell_taken, line_passed, line_ended}
use Rattle.sight.proofs.family.Family.gather_line.Goals as goal
use Rattle.sight.proofs.family.Family.gather_line.Goals.{then-flags-row+in_ok-push, else-flags-row}

pub loop-cell-preserved : goal.loop-cell-preserved
loop-cell-preserved c =
    let f = c.args.self in
    let extent = c.args.extent in
    let n = c.args.line in
    let flags = c.args.flags.now in
    let cell = c.loop-cell.cell in
    let old = c.loop-cell.rays.items in
    let lead = c.lead_of-lead.ensures in
    let Q : ℕ → Type 0 = λ x. IsInRun extent.lines x in
    let crosses : Crosses f extent n = record {
      later = c.requires.later;
      line = c.requires.line;
      within = subst Q lead (c.has.ensures.0 c.if-not-has.false);
    } in
    let P : List Target → Type 0 = λ rays. AreRays f extent flags n (cell + 1) rays in
    elim c.if-flags-row.branch [
      | then-flags-row+in_ok-push w ↦
          let items =
          ap (λ v. v.items) w.rays-is ∙ w.in_ok-push.ensures.items ∙ ap (λ t. old ++ t ∷ []) w.target_at.ensures in
          subst P (sym items) (cell_taken f extent flags n cell old c.requires.family c.requires.extent crosses
          (omega arith, omega arith) c.loop-cell.invariant)
      | else-flags-row w ↦
          let unflagged =
          ap (λ x.
          get_or flags ((x - extent.lines.first) * extent.lines.stride +
          (cell - extent.side.first) * extent.side.stride) false) (sym lead) ∙
          w.if-flags-row.false in
          subst P (ap (λ v. v.items) (sym w.rays-is))
          (cell_passed f extent flags n cell old unflagged c.loop-cell.invariant)
    ]

pub returns-then-not-has : goal.returns-then-not-has
returns-then-not-has c =
    let out : Crosses c.args.self c.args.extent c.args.line → ⊥ =
    λ crosses.
    both_ways c.has.result c.if-not-has.true (c.has.ensures.1
    (subst (λ (x : ℕ). IsInRun c.args.extent.lines x) (sym c.lead_of-lead.ensures) crosses.within)) in
    line_passed _ _ _ _ _ out c.requires.rays

pub returns : goal.returns
returns c = line_ended _ _ _ _ _ _ (omega arith) (omega arith) c.loop-cell.invariant
