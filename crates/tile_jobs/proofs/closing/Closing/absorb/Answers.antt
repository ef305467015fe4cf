use Rattle.std.proofs.Common.{arith, refl, ap, ◌≡◌, ◌∷◌, ◌++◌, ◌∙◌}
use Rattle.std.proofs.lemmas.List.{append-nil}
use Rattle.crossbeam_deque.specs.Handles.{worker_view, view}
use Rattle.tile_jobs.specs.declared.deque.Log.{Log}
use Rattle.std.specs.List.{concat}
use Rattle.tile_jobs.specs.Ends.{EndState, IsOther}
use Rattle.std.proofs.lemmas.List.Folds.{concat-append}
use Rattle.tile_jobs.proofs.Steps.{merges}
use Rattle.tile_jobs.proofs.Closings.{one_share, mark_shows}
use Rattle.tile_jobs.proofs.closing.Closing.absorb.Goals as goal

pub absorb-requires-clause-rule : goal.absorb-requires-clause-rule
absorb-requires-clause-rule c = merges _ _ _ _ c.self.invariant.0.0

pub returns : goal.returns
returns c =
    let u : Log = worker_view c.self.inside.worker in
    let w : Log = view c.into_pass-pass.result in
    let is : IsOther c.args.other.marked w = c.into_pass-pass.ensures.other.0 in
    let parts = c.into_pass-pass.ensures.parts in
    let took : c.args.other.took ≡ w.took = ap (λ (e : EndState). e.took) parts in
    let lists : concat (u.gathered ++ w.took ∷ w.gathered) ≡ concat u.gathered ++ w.took =
    concat-append u.gathered (w.took ∷ w.gathered) ∙ ap (λ l. concat u.gathered
    ++ (w.took ++ concat l)) is.0.0 ∙ ap (λ l. concat u.gathered ++ l) (append-nil w.took) in
    let one = one_share c.args.other.marked w is.0 in
    rw (← c.self.view_is, c.absorb.ensures.rule, c.absorb.ensures.same.0.0, took) (
      refl,
      refl,
      refl,
      refl,
      refl,
      lists,
      omega arith,
      omega arith,
      (λ m. let s = mark_shows c.args.other.marked w is.0 m in omega arith),
      refl,
    )
