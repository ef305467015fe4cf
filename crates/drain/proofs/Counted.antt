-- Each data cell of a filled terrain has a number of steps.
use Rattle.std.proofs.Common.{◌≡◌, ℕ, zero, suc, ◌+◌, ◌<◌, ◌≤ℤ◌, ◌⊎◌, inl, inr, List, [], ◌∷◌, length, Option, Some, unwrap_or, ℤ, pos, sym, ap, refl, ◌∙◌, arith}
use Rattle.std.proofs.lemmas.Int.{by_lt_z, ints}
use Rattle.std.proofs.lemmas.Bool.{cases_eq, cases_lt}
use Rattle.std.proofs.lemmas.Option.{MatchOption-at_some}
use Rattle.terrain.proofs.Orders.{max_right, trans}
use Rattle.terrain.proofs.Places.{inside_from_entry}
use Rattle.terrain.specs.Raster.{Terrain}
use Rattle.terrain.specs.Neighbours.{height_at, IsDataCell, height_of}
use Rattle.drainage.specs.Filled.{IsPath, crest, IsFilled, IsFilledHeight}
use Rattle.terrain.specs.declared.place.Place.{Place}
use Rattle.drain.specs.Steps.{IsFlatWalk, IsSteps}
use Rattle.drainage.proofs.Heights.{known, height_below_crest}
use Rattle.drainage.proofs.Uniqueness.{between}
use Rattle.drain.proofs.Nearby.{WalksIn, walks_in}

pub height_is : (t : Terrain) (p : Place) → IsDataCell t p → height_at t p ≡ Some (height_of t p)
height_is t p is = known (height_at t p) is

-- if a path never rises above its first cell, a flat walk leads from that cell
walk_on : (t : Terrain) (rest : List Place) (p : Place) → IsPath t p rest →
    crest t p rest ≤ℤ height_of t p → (walk : List Place) × IsFlatWalk t p walk
walk_on t [] p path low = ([], inr path)
walk_on t (q ∷ rest) p path low =
    let after : crest t q rest ≤ℤ height_of t p =
    trans _ _ _ (max_right (height_of t p) (crest t q rest)) low in
    by_lt_z {P = (walk : List Place) × IsFlatWalk t p walk} (height_of t q) (height_of t p)
    (λ lower. ([], inl (q, (path.0, lower))))
    (λ level.
    let same : height_of t q ≡ height_of t p =
    between _ _ (trans _ _ _ (height_below_crest t q rest) after) level in
    let walk = walk_on t rest q path.1 (trans _ _ _ after level) in (
      q ∷ walk.0,
      (
        path.0,
        height_is t q path.0.to_data ∙ ap Some same ∙ sym (height_is t p path.0.from_data),
        walk.1,
      ),
    ))

own_filled : (t : Terrain) (p : Place) → IsFilled t t.cells → IsDataCell t p →
    IsFilledHeight t p (height_of t p)
own_filled t p filled is =
    let inside = inside_from_entry t.cols t.rows t.cells p (height_of t p) (height_is t p is) in
    let own = MatchOption-at_some _ _ (height_of t p) (height_is t p is) (filled.each p inside) in
    rw (ap (λ (o : Option ℤ). unwrap_or o (pos 0)) (sym own.1)) at own.2

pub some_walk : (t : Terrain) (p : Place) → IsFilled t t.cells → IsDataCell t p →
    (n : ℕ) × WalksIn t p n
some_walk t p filled is =
    let own = own_filled t p filled is in
    let walk = walk_on t own.reached.0 p own.reached.1
    (rw own.reached.2 (omega (arith, ints))) in
    (length walk.0, (walk.0, walk.1, refl))

-- either there is a shortest flat walk, or no flat walk has fewer than b moves
shortest_below : (t : Terrain) (p : Place) (b : ℕ) → ((n : ℕ) × WalksIn t p n
    × ((k : ℕ) → k < n → WalksIn t p k → ⊥)) ⊎ ((k : ℕ) → k < b → WalksIn t p k → ⊥)
shortest_below t p zero = inr (λ k h _. omega arith)
shortest_below t p (suc b) = elim (shortest_below t p b) [
  | inl found ↦ inl found
  | inr none ↦ elim (walks_in t b p) [
    | inl w ↦ inl (b, w, none)
    | inr not_here ↦ inr (λ k h. elim (cases_eq k b) [
      | inl e ↦ rw e not_here
      | inr ne ↦ none k (omega arith)
    ])
  ]
]

steps_of_shortest : (t : Terrain) (p : Place) (n : ℕ) → WalksIn t p n →
    ((k : ℕ) → k < n → WalksIn t p k → ⊥) → IsSteps t p n
steps_of_shortest t p n w none = record {
  reached = w;
  least = λ rest walk. elim (cases_lt (length rest) n) [
    | inl lt ↦
        absurd (none (length rest) lt (rest, walk, refl))
    | inr le ↦ le
  ];
}

pub has_steps : (t : Terrain) (p : Place) → IsFilled t t.cells → IsDataCell t p →
    (n : ℕ) × IsSteps t p n
has_steps t p filled is =
    let some = some_walk t p filled is in
    elim (shortest_below t p (some.0 + 1)) [
      | inl found ↦ (found.0, steps_of_shortest t p found.0 found.1 found.2)
      | inr none ↦ absurd (none some.0 (omega arith) some.1)
    ]
