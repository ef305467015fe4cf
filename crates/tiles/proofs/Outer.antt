-- The places in the eight directions that pass a test are found one by one: each direction appends
-- the place there, if there is a place and it passes the test.
use Rattle.std.proofs.Common.{◌≡◌, ℕ, ◌+◌, ◌<◌, Bool, List, [], ◌∷◌, ◌++◌, length, get_or, take, filter, Option, None, Some, ap, refl, ◌∙◌}
use Rattle.std.specs.Option.{option_to_list}
use Rattle.std.specs.List.{filter_map}
use Rattle.std.proofs.lemmas.List.{take_more}
use Rattle.std.proofs.lemmas.List.Elements.{filter_map-append, filter-append}

pub filter_map_one : {X : Type 0} (o : Option X) →
    filter_map (λ (x : Option X). x) (o ∷ []) ≡ option_to_list o
filter_map_one None = refl
filter_map_one (Some x) = refl

-- the passing values of the first `way + 1` options of `xs` are those of the first `way`, then the
-- value of entry `way`, if it has one that passes
pub filter_ways_more : {X : Type 0} (test : X → Bool) (xs : List (Option X)) (way : ℕ) →
    way < length xs →
    filter test (filter_map (λ (x : Option X). x) (take (way + 1) xs)) ≡ filter test (filter_map
    (λ (x : Option X). x) (take way xs)) ++ filter test (option_to_list (get_or xs way None))
filter_ways_more {X} test xs way h =
    let some : List (Option X) → List X = λ ys. filter_map (λ (x : Option X). x) ys in
    ap (λ ys. filter test (some ys)) (take_more xs way None h)
    ∙ ap (λ ys. filter test ys) (filter_map-append (λ (x : Option X). x) (take way xs) (get_or xs
    way None ∷ []) ∙ ap (λ ys. some (take way xs) ++ ys) (filter_map_one (get_or xs way None)))
    ∙ filter-append test (some (take way xs)) (option_to_list (get_or xs way None))
