-- Where each cell that rose is held and each level has a path below it, the levels are the filled
-- heights.
use Rattle.std.proofs.Common.{◌≡◌, ◌≢◌, ℕ, zero, suc, ◌+◌, ◌-◌, ◌*◌, ◌/◌, ◌%◌, ◌<◌, ◌≤◌, ◌⊎◌, inl, inr, ℤ, ◌≤ℤ◌, List, [], ◌∷◌, length, get_or, Option, None, Some, is_some, sym, ap, subst, refl, ◌∙◌, arith}
use native.Mathlib.Numerals.{unary_clauses}
use Rattle.std.proofs.lemmas.Bool.{cases_Bool, false≢true}
use Rattle.std.proofs.lemmas.Bool.Decides.{Decides-int_eq}
use Rattle.std.proofs.lemmas.List.Elements.{All-contains}
use Rattle.std.proofs.lemmas.Nat.{div-add-mod', div-mul-add, mod-mul-add}
use Rattle.std.proofs.lemmas.Option.{same_Some}
use Rattle.terrain.specs.Raster.{Terrain}
use Rattle.terrain.specs.Neighbours.{HasGapAround, height_at, height_of, entry_at, index_of, IsDataCell, IsEnd, IsInside, IsNeighbour, Touches}
use Rattle.terrain.specs.Ways.{around_index}
use Rattle.terrain.specs.declared.place.Place.{Place}
use Rattle.terrain.proofs.EightWays.{eight, way_to, on_ways}
use Rattle.terrain.proofs.Heights.{height_is}
use Rattle.terrain.proofs.Options.{cases_option, match_of, none_some}
use Rattle.terrain.proofs.Orders.{le_of_same, max_right, trans}
use Rattle.terrain.proofs.Places.{cases_place, entry-inside, inside_from_entry}
use Rattle.drainage.specs.Filled.{IsPath, crest, IsFilled}
use Rattle.drainage.proofs.Heights.{first_is_data, height_below_crest}
use Rattle.drainage.proofs.Reach.{HasLowPath}
use Rattle.drainage.proofs.Uniqueness.{between}
use Rattle.fill.specs.Held.{AreAsRead, IsHeld}

-- The cells around a cell that is in no first or last row or column have indexes below the count.
pub around_below : (cols i count : ℕ) → cols < i → i + cols + 1 < count → (way : ℕ) → way < 8 →
    get_or (around_index cols i) way 0 < count
around_below cols i count above below =
    eight _ (omega (arith, below)) (omega (arith, below)) (omega (arith, below)) (omega (arith, below))
    (omega (arith, below)) (omega (arith, below)) (omega (arith, below)) (omega (arith, below))

from_zero : (cols : ℕ) (q : Place) → (q.row - 0) * cols + (q.col - 0) ≡ index_of cols q
from_zero cols q = simp unary_clauses refl

-- A cell of this level is no end cell, and no neighbour has a lower level.
pub record IsHeldPlace (t : Terrain) (levels : List (Option ℤ)) (p : Place) (level : ℤ) : Type 0 where
  pub inner : IsEnd t p → ⊥
  pub around : (q : Place) → IsNeighbour t p q →
      (near : ℤ) × (entry_at t.cols t.rows levels q ≡ Some near) × (level ≤ℤ near)

-- A data cell has this level, which some path does not exceed. The level is its height, or it is held.
pub record IsSettled (t : Terrain) (levels : List (Option ℤ)) (p : Place) (level : ℤ) : Type 0 where
  pub entry : entry_at t.cols t.rows levels p ≡ Some level
  pub low : HasLowPath t level p
  pub held : (height_of t p ≡ level) ⊎ IsHeldPlace t levels p level

module _ (t : Terrain) (levels : List (Option ℤ))
    (each : (p : Place) → IsDataCell t p → (level : ℤ) × IsSettled t levels p level) where
  -- No path leads out below the level of its first cell.
  least : (rest : List Place) (p : Place) (level : ℤ) → entry_at t.cols t.rows levels p ≡ Some level → IsPath t p rest →
      level ≤ℤ crest t p rest
  least [] p level is path =
      let x = each p (first_is_data t p [] path) in
      elim x.1.held [
        | inl own ↦ le_of_same _ _ (sym (own ∙ same_Some x.0 level (sym x.1.entry ∙ is)))
        | inr held ↦ absurd (held.inner path)
      ]
  least (q ∷ rest) p level is path =
      let x = each p (first_is_data t p (q ∷ rest) path) in
      let same = same_Some x.0 level (sym x.1.entry ∙ is) in
      elim x.1.held [
        | inl own ↦ subst (λ z. z ≤ℤ crest t p (q ∷ rest)) (own ∙ same) (height_below_crest t p (q ∷ rest))
        | inr held ↦
            let near = held.around q path.0 in
            trans _ _ _ (subst (λ z. z ≤ℤ near.0) same near.2)
            (trans _ _ _ (least rest q near.0 near.1 path.1) (max_right (height_of t p) (crest t q rest)))
      ]

  pub settled_filled : length levels ≡ t.cols * t.rows →
      ((p : Place) → IsInside t p → height_at t p ≡ None → entry_at t.cols t.rows levels p ≡ None) → IsFilled t levels
  settled_filled size none = record {
    size = size;
    each = λ p inside. match_of _ _ _ (none p inside) (λ h some.
        let x = each p (ap is_some some) in
        let least_of : (rest : List Place) → IsPath t p rest → x.0 ≤ℤ crest t p rest =
        λ rest path. least rest p _ x.1.entry path in (
          x.0,
          x.1.entry,
          record {
            reached = (x.1.low.0, x.1.low.1, between _ _ x.1.low.2 (least_of x.1.low.0 x.1.low.1));
            least = least_of;
          },
        ));
  }

-- The certificate by index is one by place.
module _ (t : Terrain) (levels : List (Option ℤ)) (size : length levels ≡ t.cols * t.rows)
    (none : (p : Place) → IsInside t p → height_at t p ≡ None → entry_at t.cols t.rows levels p ≡ None)
    (sinks : AreAsRead t.cols t.cells levels t.sinks) where
  near_value : (p q : Place) → IsInside t p → IsHeld t.cols levels (index_of t.cols p) → Touches p q → p ≢ q →
      (near : ℤ) × IsInside t q × (entry_at t.cols t.rows levels q ≡ Some near) ×
      ((level : ℤ) → entry_at t.cols t.rows levels p ≡ Some level → level ≤ℤ near)
  near_value p q inside held touches differ =
      let i = index_of t.cols p in
      let col = mod-mul-add p.row t.cols p.col inside.1 in
      let row = div-mul-add p.row t.cols p.col inside.1 in
      let below : p.row + 1 < t.rows = last_row held.before in
      let way = way_to p q touches differ in
      let at =
      on_ways 0 0 t.cols i p (p.row - 1) (p.col - 1) (omega (arith, some_row held.after))
      (omega (arith, held.left, col)) (omega arith) (omega arith) (simp unary_clauses refl) way.0 way.1 in
      let same = same_Some at.0 q (sym at.1.on ∙ way.2) in
      let q_inside : IsInside t q =
      (omega (arith, touches.row_down, below), omega (arith, touches.col_right, held.right, col)) in
      let near = held.around.around way.0 way.1 in (
        near.0,
        q_inside,
        entry-inside t.cols t.rows levels q q_inside.0 q_inside.1 ∙
            ap (λ n. get_or levels n None)
            (ap (index_of t.cols) (sym same) ∙ sym (from_zero t.cols at.0) ∙ at.1.index) ∙ near.1,
        λ level is.
            subst (λ z. z ≤ℤ near.0)
            (same_Some held.around.level level
            (sym held.around.is ∙ sym (entry-inside t.cols t.rows levels p inside.0 inside.1) ∙ is)) near.2,
      )
    where
      some_row : t.cols ≤ index_of t.cols p → 1 ≤ p.row
      some_row after = positive p.row p.col inside.1 after where
        positive : (row col : ℕ) → col < t.cols → t.cols ≤ row * t.cols + col → 1 ≤ row
        positive zero col few after = absurd (omega (arith, few, after))
        positive (suc row) col few after = omega arith

      last_row : index_of t.cols p + t.cols < length levels → p.row + 1 < t.rows
      last_row before = below (p.row + 1) t.rows (omega (arith, before, size)) where
        below : (n m : ℕ) → n * t.cols < t.cols * m → n < m
        below n m less = grind (arith, less)

  pub settled : (p : Place) (level : ℤ) → IsDataCell t p → entry_at t.cols t.rows levels p ≡ Some level →
      HasLowPath t level p →
      (IsHeld t.cols levels (index_of t.cols p) ⊎
      (get_or levels (index_of t.cols p) None ≡ get_or t.cells (index_of t.cols p) None)) → IsSettled t levels p level
  settled p level has is low way = record {
    entry = is;
    low = low;
    held = elim way [
      | inr as_read ↦ inl (own as_read)
      | inl held ↦ elim (cases_Bool _) [
        | inl same ↦ inl ((Decides-int_eq _ level).0 same)
        | inr other ↦ inr (record {
          inner = λ end. elim end [
            | inl edge ↦ inner held edge.1
            | inr sink ↦
                absurd (false≢true (sym other ∙
                (Decides-int_eq _ level).1 (own (All-contains IsAsRead _ p sinks sink.1))))
          ];
          around = λ q next.
              let near = near_value p q inside held next.touches next.different in
              (near.0, near.2, near.3 level is);
        })
      ]
    ];
  } where
    IsAsRead : Place → Type 0
    IsAsRead r = get_or levels (index_of t.cols r) None ≡ get_or t.cells (index_of t.cols r) None

    inside : IsInside t p
    inside = inside_from_entry _ _ levels p level is

    own : get_or levels (index_of t.cols p) None ≡ get_or t.cells (index_of t.cols p) None → height_of t p ≡ level
    own as_read =
        height_is t p level
        (entry-inside _ _ _ p inside.0 inside.1 ∙ sym as_read ∙ sym (entry-inside _ _ levels p inside.0 inside.1) ∙ is)

    inner : IsHeld t.cols levels (index_of t.cols p) → HasGapAround t p → ⊥
    inner held (inl row) = omega (arith, held.after, row, inside, ap (λ n. n * t.cols) row)
    inner held (inr (inl col)) = omega (arith, held.left, mod-mul-add p.row t.cols _ inside.1, col)
    inner held (inr (inr (q, touches, gap))) = elim (cases_place p q) [
      | inl same ↦ absurd (cc (has, gap, ap (λ x. is_some (height_at t x)) same))
      | inr differ ↦
          let near = near_value p q inside held touches differ in
          elim (cases_option _) [
            | inl lacks ↦ none_some _ _ (none q near.1 lacks) near.2
            | inr some ↦ absurd (cc (gap, ap is_some some.1))
          ]
    ]

-- The columns of a run's cells follow one another, where the run ends in the row in which it begins.
pub run_col : (cols first index : ℕ) → first ≤ index → first % cols + (index - first) < cols →
    index % cols ≡ first % cols + (index - first)
run_col cols first index from low =
    let at : index ≡ first / cols * cols + (first % cols + (index - first)) =
    omega (arith, div-add-mod' first cols, from) in
    ap (λ n. n % cols) at ∙ mod-mul-add _ cols _ low
