use Rattle.std.proofs.Common.{[], ◌∷◌, ◌++◌, List, Option, Some, Vec, Global, ℕ, length, map, slice_get, sym, ap, ◌∙◌, arith, append_assoc}
use Rattle.std.proofs.IntoIterSteps.{All-taken}
use Rattle.std.proofs.lemmas.List.{map-append}
use Rattle.tiles.proofs.SliceGet.{slice_get-append_right}
use Rattle.drain.specs.declared.codes.TileCodes.{TileCodes}
use Rattle.drain.specs.declared.codes.TileCodes.TheVariants.{Codes}
use Rattle.drain.proofs.codes.check_all.Goals as goal

pub loop-out-init : goal.loop-out-init
loop-out-init c = record {
  past = ap (map (λ (list : Vec (Option ℕ) Global). Codes list)) (sym c.in_ok-lists.ensures.items);
  parts = c.into_iter-out-iterator.ensures.into_iter_gives.0;
}

pub loop-out-preserved : goal.loop-out-preserved
loop-out-preserved c =
    let past = c.loop-out.yielded in
    let out = c.in-Some.out in
    let rest = c.next.new.self.rest.items in
    record {
      past = ap (λ (x : TileCodes). past ++ x ∷ []) c.in-Codes.is
          ∙ ap (λ (xs : List TileCodes). xs ++ Codes c.in-Codes.list ∷ []) c.loop-out.invariant.past
          ∙ sym (map-append (λ (list : Vec (Option ℕ) Global). Codes list) c.loop-out.lists.items
          (c.in-Codes.list ∷ [])) ∙ ap (map (λ (list : Vec (Option ℕ) Global). Codes list))
          (sym c.in_ok-push-in-Codes.ensures.items);
      parts = append_assoc past (out ∷ []) rest
          ∙ ap (λ (xs : List TileCodes). past ++ xs) (sym c.in-Some.ensures.steps.0)
          ∙ c.loop-out.invariant.parts;
    }

pub returns-in-TooHigh : goal.returns-in-TooHigh
returns-in-TooHigh c =
    let past = c.loop-out.yielded in
    let whole = ap (λ (xs : List TileCodes). past ++ xs) (sym c.in-Some.ensures.steps.0)
    ∙ c.loop-out.invariant.parts in (
      length past,
      ap (λ (xs : List TileCodes). slice_get xs (length past)) (sym whole)
          ∙ slice_get-append_right past (c.in-Some.out ∷ c.next.new.self.rest.items) (length past) 0 (omega arith)
          ∙ ap Some c.in-TooHigh.is,
    )

pub returns : goal.returns
returns c =
    let it = c.into_iter-out-iterator in
    let all = All-taken it.result c.loop-out.yielded (
      c.next.new.self,
      (c.loop-out.out-iterator, c.loop-out.yielded_by, c.in-None.ensures.steps),
    ) in
    sym (all ∙ it.ensures.into_iter_gives.0) ∙ c.loop-out.invariant.past
