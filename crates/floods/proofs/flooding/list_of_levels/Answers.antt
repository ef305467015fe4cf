use Rattle.std.proofs.Common.{◌≡◌, ◌+◌, ◌<◌, ◌≤◌, ℕ, ℤ, List, Option, None, [], ◌∷◌, ◌++◌, length, get_or, take, subst}
use Rattle.std.proofs.lemmas.List.{take_more, take_all}
use Rattle.floods.proofs.flooding.list_of_levels.Goals as goal

level_more : (levels : List (Option ℤ)) (i len : ℕ) (now next : List (Option ℤ)) (level : Option ℤ) → i < len →
    len ≡ length levels → now ≡ take i levels → next ≡ now ++ level ∷ [] → level ≡ get_or levels i None →
    next ≡ take (i + 1) levels
level_more levels i len now next level low size is more here =
    cc (take_more levels i None (subst (λ n. i < n) size low))

pub loop-index-preserved : goal.loop-index-preserved
loop-index-preserved c =
    level_more _ _ _ _ _ _ c.loop-index-test.true c.len-index-end.ensures c.loop-index.invariant
    c.in_ok-push.ensures.items c.at.ensures

pub returns : goal.returns
returns c = cc (take_all _ _ (subst (λ n. n ≤ c.loop-index.index) c.len-index-end.ensures c.loop-index-test.false))
