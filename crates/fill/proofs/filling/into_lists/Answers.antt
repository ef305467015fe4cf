use Rattle.std.proofs.Common.{◌∷◌, ◌++◌, [], ap, sym, ◌∙◌}
use Rattle.std.proofs.IntoIterSteps.{All-taken}
use Rattle.std.proofs.lemmas.List.{map-append}
use Rattle.fill.proofs.filling.into_lists.Goals as goal

pub loop-tile-preserved : goal.loop-tile-preserved
loop-tile-preserved c =
    let x = c.in-Some.tile in
    let past = c.loop-tile.yielded in
    record {
      floods = c.in_ok-push.ensures.items ∙ ap (λ z. z ++ x.flood ∷ []) c.loop-tile.invariant.floods ∙
          sym (map-append _ past _);
      meetings = c.in_ok-push-2.ensures.items ∙ ap (λ z. z ++ x.meetings ∷ []) c.loop-tile.invariant.meetings ∙
          sym (map-append _ past _);
    }

pub returns-clause-floods : goal.returns-clause-floods
returns-clause-floods c =
    let all = All-taken c.into_iter-tile-iterator.result c.loop-tile.yielded (
      c.next.new.self,
      (c.loop-tile.tile-iterator, c.loop-tile.yielded_by, c.in-None.ensures.steps),
    ) in
    cc

pub returns-clause-meetings : goal.returns-clause-meetings
returns-clause-meetings c =
    let all = All-taken c.into_iter-tile-iterator.result c.loop-tile.yielded (
      c.next.new.self,
      (c.loop-tile.tile-iterator, c.loop-tile.yielded_by, c.in-None.ensures.steps),
    ) in
    cc
