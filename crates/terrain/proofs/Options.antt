-- An option is either `None` or `Some x`. An index at which a list of options has a `Some x`
-- is below the list's length.
use Rattle.std.proofs.Common.{◌≡◌, ◌⊎◌, inl, inr, ℕ, ◌<◌, List, length, get_or, false, Option, None, Some, IsSome, MatchOption, is_some, sym, refl}
use Rattle.std.proofs.lemmas.Bool.{false≢true, cases_lt}
use Rattle.std.proofs.lemmas.List.{get_or_past}

pub cases_option : {X : Type 0} (o : Option X) → (o ≡ None) ⊎ ((x : X) × (o ≡ Some x))
cases_option None = inl refl
cases_option (Some x) = inr (x, refl)

pub none_from_is_some : {X : Type 0} (o : Option X) → is_some o ≡ false → o ≡ None
none_from_is_some None e = refl
none_from_is_some (Some x) e = absurd (false≢true (sym e))

pub none_some : {X P : Type 0} (o : Option X) (x : X) → o ≡ None → o ≡ Some x → P
none_some o x e f = absurd (cc)

pub none_done : {X P : Type 0} (o : Option X) → o ≡ None → IsSome o → P
none_done None e h = absurd (cc)
none_done (Some x) e h = absurd (cc)

pub match_of : {X : Type 0} (o : Option X) (P : Type 0) (Q : X → Type 0) → (o ≡ None → P) →
    ((x : X) → o ≡ Some x → Q x) → MatchOption o P Q
match_of None P Q none some = none refl
match_of (Some x) P Q none some = some x refl

pub some_inside : {X : Type 0} (xs : List (Option X)) (a : ℕ) (x : X) → get_or xs a None ≡ Some x →
    a < length xs
some_inside xs a x e = elim (cases_lt a (length xs)) [
  | inl below ↦ below
  | inr past ↦ none_some (get_or xs a None) x (get_or_past xs a None past) e
]
