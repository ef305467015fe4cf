use Rattle.std.proofs.Common.{◌∷◌, ◌++◌, [], ℕ, inl, inr, take, ap, sym, subst, ◌∙◌, Vec, Global}
use Rattle.std.proofs.lemmas.List.{take_all, take_more}
use Rattle.fill.specs.RaisedRuns.{IsInRuns, IsInTiles}
use Rattle.fill.specs.declared.raised_runs.RaisedRun.{RaisedRun}
use Rattle.fill.proofs.RaisedRuns.{in_pushed}
use Rattle.fill.proofs.held.are_tiles_held.Goals as goal

abbrev is_in : Vec RaisedRun Global → ℕ → Type 0
is_in v i = IsInRuns v.items i

pub loop-runs-preserved : goal.loop-runs-preserved
loop-runs-preserved c i is =
    let tiles = c.args.tiles.now in
    let k = c.loop-runs.runs-index in
    let v = c.runs-item.result in
    elim ((in_pushed is_in _ v i).0
    (subst (λ z. IsInTiles z i)
    (take_more tiles k v c.loop-runs-test.true ∙ ap (λ x. take k tiles ++ x ∷ []) (sym c.runs-item.is)) is)) [
      | inl early ↦ c.loop-runs.invariant i early
      | inr here ↦ (rw c.deref.ensures.value at c.if-not-are_runs_held.ensures) i here
    ]

pub returns : goal.returns
returns c = rw (take_all _ _ c.loop-runs-test.false) at c.loop-runs.invariant
