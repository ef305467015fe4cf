-- It is decidable whether a cell is an end cell, has a lower neighbour, drains at once, or has a
-- flat walk of n moves: a walk at one height to a cell that drains at once.
use Rattle.std.proofs.Common.{◌≡◌, ℕ, zero, suc, ◌<ℤ◌, Bool, Decides, ◌&&◌, ◌||◌, ◌⊎◌, inl, inr, List, [], ◌∷◌, length, Option, Some, unwrap_or, ℤ, pos, int_lt, sym, ap, refl, ◌∙◌, arith}
use Rattle.std.specs.List.{list_any}
use Rattle.std.specs.Ordering.{int_eq}
use Rattle.std.proofs.lemmas.Bool.{cases_Bool, and_parts, and_from}
use Rattle.std.proofs.lemmas.Bool.Decides.{Decides-int_eq, Decides-like, Decides-and, Decides-or, not_from_Decides}
use Rattle.terrain.specs.Raster.{Terrain}
use Rattle.terrain.specs.Neighbours.{height_at, IsNeighbour, IsEnd, height_of}
use Rattle.terrain.specs.declared.place.Place.{Place}
use Rattle.drainage.proofs.Heights.{known}
use Rattle.drainage.proofs.Reach.{field, is_next, is_end_cell, any_found, any_touching, next_true, true_next, end_true, true_end}
use Rattle.drain.specs.Steps.{HasLower, DrainsAtOnce, IsFlatWalk}

abbrev pub Decided : Type 0 → Type 0
Decided P = P ⊎ (P → ⊥)

decided : {P : Type 0} (b : Bool) → Decides b P → Decided P
decided b d = elim (cases_Bool b) [
  | inl holds ↦ inl (d.0 holds)
  | inr fails ↦
      inr (not_from_Decides b d fails)
]

-- it is decidable whether some neighbour has a decidable property
beside : (t : Terrain) (test : Place → Bool) (P : Place → Type 0) (p : Place) →
    ((q : Place) → IsNeighbour t p q → Decides (test q) (P q)) →
    Decides (list_any (λ q. is_next t p q && test q) (field t)) ((q : Place) × IsNeighbour t p q
    × P q)
beside t test P p decides = (
  λ any.
      let found = any_found (λ q. is_next t p q && test q) (field t) any in
      let parts = and_parts _ _ found.1 in
      let next = next_true t p found.0 parts.0 in (found.0, next, (decides found.0 next).0 parts.1),
  λ h. any_touching t (λ q. is_next t p q && test q) p h.0 h.1.from_data h.1.touches
      (and_from _ _ (true_next t p h.0 h.1) ((decides h.0 h.1).1 h.2)),
)

Decides-int_lt : (x y : ℤ) → Decides (int_lt x y) (x <ℤ y)
Decides-int_lt x y = (λ e. grind (arith, e), λ less. grind (arith, less))

lower : (t : Terrain) (p : Place) → Decides (list_any
    (λ q. is_next t p q && int_lt (height_of t q) (height_of t p)) (field t)) (HasLower t p)
lower t p =
    Decides-like _ (λ h. (h.0, (h.1, h.2))) (λ h. (h.0, h.1.0, h.1.1))
    (beside t (λ q. int_lt (height_of t q) (height_of t p)) (λ q. height_of t q <ℤ height_of t p) p
    (λ q next. Decides-int_lt (height_of t q) (height_of t p)))

drains : (t : Terrain) (p : Place) → Decides (list_any (λ q. is_next t p q
    && int_lt (height_of t q) (height_of t p)) (field t) || is_end_cell t p) (DrainsAtOnce t p)
drains t p = Decides-or _ _ (lower t p) (end_true t p, true_end t p)

pub end_cell : (t : Terrain) (p : Place) → Decided (IsEnd t p)
end_cell t p = decided (is_end_cell t p) (end_true t p, true_end t p)

pub has_lower : (t : Terrain) (p : Place) → Decided (HasLower t p)
has_lower t p = decided _ (lower t p)

pub drains_at_once : (t : Terrain) (p : Place) → Decided (DrainsAtOnce t p)
drains_at_once t p = decided _ (drains t p)

level : (t : Terrain) (p q : Place) → IsNeighbour t p q →
    Decides (int_eq (height_of t q) (height_of t p)) (height_at t q ≡ height_at t p)
level t p q next =
    Decides-like _ (λ e. known (height_at t q) next.to_data ∙ ap Some e
    ∙ sym (known (height_at t p) next.from_data))
    (λ e. ap (λ (o : Option ℤ). unwrap_or o (pos 0)) e)
    (Decides-int_eq (height_of t q) (height_of t p))

abbrev pub WalksIn : Terrain → Place → ℕ → Type 0
WalksIn t p n = (rest : List Place) × IsFlatWalk t p rest × (length rest ≡ n)

abbrev walks : Terrain → ℕ → Place → Bool
walks t zero p = list_any (λ q. is_next t p q && int_lt (height_of t q) (height_of t p)) (field t)
    || is_end_cell t p
walks t (suc n) p = list_any (λ q. is_next t p q
    && (int_eq (height_of t q) (height_of t p) && walks t n q)) (field t)

Decides-walks : (t : Terrain) (n : ℕ) (p : Place) → Decides (walks t n p) (WalksIn t p n)
Decides-walks t zero p = Decides-like _ (λ h. ([], h, refl)) (empty t p) (drains t p)
  where
    empty : (t : Terrain) (p : Place) → WalksIn t p 0 → DrainsAtOnce t p
    empty t p ([], w, e) = w
    empty t p (q ∷ rest, w, e) = absurd (omega (arith, e))
Decides-walks t (suc n) p =
    Decides-like _ (λ h. (h.0 ∷ h.2.1.0, (h.1, h.2.0, h.2.1.1), omega (arith, h.2.1.2)))
    (onward t p n)
    (beside t (λ q. int_eq (height_of t q) (height_of t p) && walks t n q)
    (λ q. (height_at t q ≡ height_at t p) × WalksIn t q n) p
    (λ q next. Decides-and _ _ (level t p q next) (Decides-walks t n q)))
  where
    onward : (t : Terrain) (p : Place) (n : ℕ) → WalksIn t p (suc n) →
        (q : Place) × IsNeighbour t p q × ((height_at t q ≡ height_at t p) × WalksIn t q n)
    onward t p n ([], w, e) = absurd (omega (arith, e))
    onward t p n (q ∷ rest, w, e) = (q, w.0, (w.1, (rest, w.2, omega (arith, e))))

pub walks_in : (t : Terrain) (n : ℕ) (p : Place) → Decided (WalksIn t p n)
walks_in t n p = decided (walks t n p) (Decides-walks t n p)
