use Rattle.std.proofs.Common.{ℕ, Bool, true, false, ◌≤◌, ◌==◌, ◌||◌, if◌then◌else◌, refl, sym, subst, arith}
use Rattle.relief.specs.Ends.{EndsAs}
use Rattle.relief.specs.FaultLine.{status_of, fault_parts}
use Rattle.relief.proofs.command.run_options.Goals as goal

one_of_three : (a b : Bool) → (if a then 3 else if b then 4 else 2) ≤ 4
one_of_three true b = omega arith
one_of_three false true = omega arith
one_of_three false false = omega arith

status_small : (number : ℕ) → status_of number ≤ 4
status_small number = one_of_three (number == 12 || number == 32) (number == 51 || number == 52)

pub returns-in-Err-clause-small : goal.returns-in-Err-clause-small
returns-in-Err-clause-small g c =
    rw c.end_with.ensures.status (status_small (fault_parts c.in-Err.fault).number)

pub returns-in-Ok-clause-ends : goal.returns-in-Ok-clause-ends
returns-in-Ok-clause-ends g c = record {
  result = c.run_reported.result;
  runs = c.run_reported.ensures;
  ends = subst (λ r. EndsAs g.E.Write.contents c.args.errors.now c.args.errors.now r 0)
      (sym c.in-Ok.is) (refl, refl);
}

pub returns-in-Err-clause-ends : goal.returns-in-Err-clause-ends
returns-in-Err-clause-ends g c = record {
  result = c.run_reported.result;
  runs = c.run_reported.ensures;
  ends = subst (λ r. EndsAs g.E.Write.contents c.args.errors.now c.end_with.new.errors r
      c.end_with.result) (sym c.in-Err.is) (c.end_with.ensures.status, c.end_with.ensures.line);
}
