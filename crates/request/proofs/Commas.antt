-- A word without a comma is one part. Else its parts are the bytes before the first comma and the
-- parts of the bytes after it. Four or more spell no observer, three or more no gauge or sink.
use Rattle.std.proofs.Common.{◌≡◌, ℕ, ◌+◌, ◌<◌, ◌≤◌, Bool, true, false, cond, eqb, List, [], ◌∷◌, length, take, drop, None, Some, sym, ap, subst, refl, ◌∙◌, arith}
use Rattle.std.specs.Prelude.{nat_lt}
use Rattle.std.specs.List.{slice_split, position, position_or_len}
use Rattle.std.proofs.lemmas.Bool.{ltb-true}
use Rattle.std.proofs.lemmas.Bool.Decides.{nat_tests}
use Rattle.std.proofs.lemmas.Option.{same_Some}
use Rattle.std.proofs.lemmas.List.Sums.{fails_before_first}
use Rattle.std.proofs.lemmas.List.Splits.{slice_split_first, slice_split_none, length-slice_split}
use Rattle.request.specs.PlaceWords.{observer_of, observer_of_parts, place_of_word, place_of_parts}

abbrev pub is_comma : ℕ → Bool
is_comma b = eqb b 44

pub split_some : (xs : List ℕ) (at : ℕ) → position is_comma xs ≡ Some at →
    slice_split is_comma xs ≡ take at xs ∷ slice_split is_comma (drop (at + 1) xs)
split_some xs at e = go _ refl e where
  go : (t : Bool) → nat_lt (position_or_len is_comma xs) (length xs) ≡ t →
      cond t (Some (position_or_len is_comma xs)) None ≡ Some at →
      slice_split is_comma xs ≡ take at xs ∷ slice_split is_comma (drop (at + 1) xs)
  go false h none = absurd (cc)
  go true h same =
      rw (same_Some _ at same) at (slice_split_first is_comma xs 0 (ltb-true _ _ h))

pub split_none : (xs : List ℕ) → position is_comma xs ≡ None → slice_split is_comma xs ≡ xs ∷ []
split_none xs e = go _ refl e where
  go : (t : Bool) → nat_lt (position_or_len is_comma xs) (length xs) ≡ t →
      cond t (Some (position_or_len is_comma xs)) None ≡ None → slice_split is_comma xs ≡ xs ∷ []
  go true h some = absurd (cc)
  go false h none =
      let all : length xs ≤ position_or_len is_comma xs = grind (arith, nat_tests) in
      slice_split_none is_comma xs (λ k d inside. fails_before_first is_comma xs k d (omega arith))

four_parts : (row col eye : List ℕ) (parts : List (List ℕ)) → 0 < length parts →
    observer_of_parts (row ∷ col ∷ eye ∷ parts) ≡ None
four_parts row col eye [] some = absurd (omega arith)
four_parts row col eye parts some = refl

pub too_many_parts : (word rest eye row col third fourth : List ℕ) → slice_split is_comma word ≡ row
    ∷ slice_split is_comma rest → slice_split is_comma rest ≡ col ∷ slice_split is_comma eye →
    slice_split is_comma eye ≡ third ∷ slice_split is_comma fourth → None ≡ observer_of word
too_many_parts word rest eye row col third fourth a b c =
    sym (ap observer_of_parts (a ∙ ap (λ ps. row ∷ ps) (b ∙ ap (λ ps. col ∷ ps) c))
    ∙ four_parts row col third (slice_split is_comma fourth)
    (omega (arith, length-slice_split is_comma fourth)))

three_parts : (row col : List ℕ) (parts : List (List ℕ)) → 0 < length parts →
    place_of_parts (row ∷ col ∷ parts) ≡ None
three_parts row col [] some = absurd (omega arith)
three_parts row col parts some = refl

pub no_sink : (word col row second third : List ℕ) →
    slice_split is_comma word ≡ row ∷ slice_split is_comma col →
    slice_split is_comma col ≡ second ∷ slice_split is_comma third → None ≡ place_of_word word
no_sink word col row second third a b =
    sym (ap place_of_parts (a ∙ ap (λ ps. row ∷ ps) b) ∙ three_parts row second
    (slice_split is_comma third) (omega (arith, length-slice_split is_comma third)))
