use Rattle.std.proofs.Common.{sym, ap, ◌∙◌}
use Rattle.terrain.specs.Ways.{way_of}
use Rattle.drainage.proofs.Codes.{way_by_zeros}
use Rattle.drainage.proofs.code.Code.way.Goals as goal

pub returns-then-self-eq0-clause-value : goal.returns-then-self-eq0-clause-value
returns-then-self-eq0-clause-value c = sym (ap way_of (sym c.self.view_is ∙ c.if-self-eq0.true))

pub returns-clause-value : goal.returns-clause-value
returns-clause-value c =
    sym (way_by_zeros c.self.inside.number c.self.invariant c.if-self-eq0.false).0
    ∙ ap way_of c.self.view_is

pub returns-clause-few : goal.returns-clause-few
returns-clause-few c = (way_by_zeros c.self.inside.number c.self.invariant c.if-self-eq0.false).1
