-- Entry i of the part of a list from index a on, before b, is entry a + i of the list. Entry i of
-- `xs ++ ys` is entry i of `xs` if i is below `length xs`, else entry `i - length xs` of `ys`.
use Rattle.std.proofs.lemmas.Grind.{common_steps}
use Rattle.std.proofs.lemmas.Option.{gets}
use Rattle.std.proofs.lemmas.List.{get_or-take, get_or-drop, length-take, length-drop, get_or_append_left, get_or-append-add, length-append}
use Rattle.std.proofs.Common.{◌≡◌, ℕ, ◌+◌, ◌-◌, ◌<◌, List, ◌++◌, length, arith, slice_get, slice_range}

pub slice_get-range : {X : Type 0} (xs : List X) (a b i k : ℕ) → i < b - a → k ≡ a + i →
    slice_get (slice_range xs a b) i ≡ slice_get xs k
slice_get-range xs a b i k h e =
    grind (arith, common_steps, gets, get_or-take, get_or-drop, length-take, length-drop)

pub slice_get-append_left : {X : Type 0} (xs ys : List X) (i : ℕ) → i < length xs →
    slice_get (xs ++ ys) i ≡ slice_get xs i
slice_get-append_left xs ys i h =
    grind (arith, common_steps, gets, get_or_append_left, length-append)

pub slice_get-append_right : {X : Type 0} (xs ys : List X) (i k : ℕ) → i ≡ length xs + k →
    slice_get (xs ++ ys) i ≡ slice_get ys k
slice_get-append_right xs ys i k e =
    grind (arith, common_steps, gets, get_or-append-add, length-append)
