-- `is_place p q` is true exactly if p and q are the same place. A list has an entry q with
-- `is_place p q` exactly if the list contains p.
use Rattle.std.proofs.Common.{◌≡◌, ◌<◌, ℕ, zero, suc, true, List, [], ◌∷◌, length, get_or, refl, sym, subst, arith}
use Rattle.std.specs.Prelude.{◌==◌}
use Rattle.std.specs.List.{list_any, Contains}
use Rattle.std.proofs.lemmas.Bool.{and_parts, and_from, or_left, or_right, eq-eqb, eqb-true}
use Rattle.std.proofs.lemmas.Map.Views.{Contains-from_any}
use Rattle.terrain.specs.Neighbours.{is_place}
use Rattle.terrain.specs.declared.place.Place.{Place}
use Rattle.terrain.proofs.Places.{same_place}

pub place_is : (p q : Place) → is_place p q ≡ true → p ≡ q
place_is p q h = let both = and_parts (p.row == q.row) (p.col == q.col) h in
    same_place p q (eqb-true _ _ both.0) (eqb-true _ _ both.1)

pub is_place_from : (p q : Place) → p ≡ q → is_place p q ≡ true
is_place_from p q e = subst (λ r.
    is_place p r ≡ true) e (and_from (p.row == p.row) _ (eq-eqb _ _ refl) (eq-eqb _ _ refl))

pub listed_from_any : (p : Place) (places : List Place) → list_any (is_place p) places ≡ true →
    Contains places p
listed_from_any p places h = Contains-from_any place_is p places h

any_at : (p : Place) (places : List Place) (k : ℕ) → k < length places → get_or places k p ≡ p →
    list_any (is_place p) places ≡ true
any_at p [] k h e = absurd (omega arith)
any_at p (q ∷ rest) zero h e = or_left (is_place p q) _ (is_place_from p q (sym e))
any_at p (q ∷ rest) (suc k) h e = or_right (is_place p q) _ (any_at p rest k (omega arith) e)

pub any_from_listed : (p : Place) (places : List Place) → Contains places p →
    list_any (is_place p) places ≡ true
any_from_listed p places there = any_at p places there.0 there.1 there.2
