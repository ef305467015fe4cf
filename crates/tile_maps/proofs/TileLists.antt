-- If the next place's entry is appended to a list for a tile's first n places, or set in a list of
-- the tile's size, the new list is right for the first n + 1. A list with the entries of all places
-- is the tile's list.
use Rattle.std.proofs.Common.{◌≡◌, ℕ, ◌+◌, ◌-◌, ◌*◌, ◌<◌, inl, inr, List, ◌∷◌, ◌++◌, [], length, get_or, slice_set, Option, None, slice_get, sym, ap, refl, subst, ◌∙◌, arith}
use Rattle.std.proofs.lemmas.Bool.{cases_eq}
use Rattle.std.proofs.lemmas.List.{get_or-set_other, get_or-set_same, length_push, length-set}
use Rattle.std.proofs.lemmas.Option.{get_or_from_slice_get, same_Some, slice_get-get_or, slice_get_read}
use Rattle.terrain.proofs.Places.{make_place, same_place, index_injective}
use Rattle.terrain.specs.declared.place.Place.{Place}
use Rattle.tiles.specs.declared.bounds.Bounds.{Bounds}
use Rattle.tiles.specs.Cutting.{Cutting, IsCutting, IsInBounds, IsInTile, bounds_of, index_in_tile, tile_entry, index_in}
use Rattle.tiles.proofs.Cut.{in_bounds}
use Rattle.tiles.proofs.SliceGet.{slice_get-append_left, slice_get-append_right}
use Rattle.tiles.proofs.TileOrder.{index_in_below, index_in_tile_is, tile_entry-in}
use Rattle.tile_maps.specs.Maps.{AreSetUpTo, IsMadeUpTo, IsMadeTile}

pub within_injective : (b : Bounds) (p q : Place) → IsInBounds b p → IsInBounds b q →
    index_in b p ≡ index_in b q → p ≡ q
within_injective b p q i j e =
    let one = index_injective b.cols (make_place (p.row - b.top) (p.col - b.left)) (make_place
    (q.row - b.top) (q.col - b.left)) (omega (arith, i.2, i.3)) (omega (arith, j.2, j.3)) e in
    let row : p.row - b.top ≡ q.row - b.top = ap (λ (r : Place). r.row) one in
    let col : p.col - b.left ≡ q.col - b.left = ap (λ (r : Place). r.col) one in
    same_place p q (omega (arith, i.0, j.0)) (omega (arith, i.2, j.2))

pub made_push : {X : Type 0} (b : Bounds) (Has : Place → X → Type 0) (p : Place) (list : List X)
    (x : X) → IsInBounds b p →
    IsMadeUpTo b Has (index_in b p) list → Has p x →
    IsMadeUpTo b Has (index_in b p + 1) (list ++ x ∷ [])
made_push {X} b Has p list x inside before here = record {
  size = length_push list x ∙ ap (λ n. n + 1) before.size;
  each = λ q within below entry is. elim (cases_eq (index_in b q) (index_in b p)) [
    | inl e ↦ (let one : p ≡ q = within_injective b p q inside within (sym e) in
        let same : x ≡ entry = same_Some x entry (sym (slice_get-append_right list (x ∷ [])
        (index_in b q) 0 (omega (arith, e, before.size))) ∙ is) in
        subst (λ (r : Place). Has r entry) one (subst (λ (y : X). Has p y) same here))
    | inr ne ↦ (let lower : index_in b q < index_in b p = omega arith in
        before.each q within lower entry (sym
        (slice_get-append_left list (x ∷ []) (index_in b q) (omega (arith, before.size))) ∙ is))
  ];
}

-- the index of a place; `row` and `col` count from the first row and column of the bounds
place_index : (b : Bounds) (row col : ℕ) → index_in b (make_place (b.top + row) (b.left + col)) ≡ row * b.cols + col
place_index b row col =
    let row_is : b.top + row - b.top ≡ row = omega arith in
    let col_is : b.left + col - b.left ≡ col = omega arith in
    ap (λ (n : ℕ). n * b.cols + (b.left + col - b.left)) row_is ∙ ap (λ (n : ℕ). row * b.cols + n) col_is

-- one entry more is appended; `row` and `col` count from the first row and column of the bounds
pub made_next : {X : Type 0} (b : Bounds) (Has : Place → X → Type 0) (row col : ℕ) (list : List X)
    (x : X) → row < b.rows → col < b.cols →
    IsMadeUpTo b Has (row * b.cols + col) list → Has (make_place (b.top + row) (b.left + col)) x →
    IsMadeUpTo b Has (row * b.cols + (col + 1)) (list ++ x ∷ [])
made_next {X} b Has row col list x below beside before here =
    let p = make_place (b.top + row) (b.left + col) in
    let at = place_index b row col in
    let next : index_in b p + 1 ≡ row * b.cols + (col + 1) = omega (arith, at) in
    subst (λ (n : ℕ). IsMadeUpTo b Has n (list ++ x ∷ [])) next
    (made_push b Has p list x (omega arith, omega arith, omega arith, omega arith)
    (subst (λ (n : ℕ). IsMadeUpTo b Has n list) (sym at) before) here)

-- one entry more is set; `row` and `col` count from the first row and column of the bounds
pub set_next : {X : Type 0} {b : Bounds} {Has : Place → X → Type 0} (row col index : ℕ) (list : List X) (x : X) →
    row < b.rows → col < b.cols → index ≡ row * b.cols + col → AreSetUpTo b Has (row * b.cols + col) list →
    Has (make_place (b.top + row) (b.left + col)) x →
    AreSetUpTo b Has (row * b.cols + (col + 1)) (slice_set list index x)
set_next {X} {b} {Has} row col index list x below beside is before here = record {
  size = length-set list index x ∙ before.size;
  each = λ q within early entry at.
      let i = index_in b q in
      let inside_list : i < length list = omega (arith, index_in_below b q within, before.size) in
      let read = sym (get_or_from_slice_get (slice_set list index x) i entry entry at) in
      elim (cases_eq i index) [
        | inl e ↦ (let same = within_injective b q p within inside (e ∙ is ∙ sym (place_index b row col)) in
            let x_is = read ∙ ap (λ n. get_or (slice_set list index x) n entry) e
            ∙ get_or-set_same list index x entry (omega (arith, e, inside_list)) in
            rw (x_is, same) here)
        | inr ne ↦ before.each q within (omega (arith, early, ne, is)) entry
            (slice_get_read list (length list) i entry refl inside_list
            (read ∙ get_or-set_other list index i x entry ne))
      ];
}
  where
    p : Place
    p = make_place (b.top + row) (b.left + col)

    inside : IsInBounds b p
    inside = (omega arith, omega (arith, below), omega arith, omega (arith, beside))

-- all entries are set
pub set_all : {X : Type 0} {b : Bounds} {Has : Place → X → Type 0} {list : List X} →
    AreSetUpTo b Has (b.rows * b.cols) list → IsMadeUpTo b Has (b.rows * b.cols) list
set_all set = record { size = set.size; each = set.each }

pub made_tile : {X : Type 0} (c : Cutting) (tile : ℕ) (b : Bounds) (Has : Place → X → Type 0)
    (list : List X) → IsCutting c → b ≡ bounds_of c tile →
    IsMadeUpTo b Has (b.rows * b.cols) list → IsMadeTile c tile Has list
made_tile c tile b Has list lawful e made = record {
  size = made.size ∙ ap (λ (z : Bounds). z.rows * z.cols) e;
  each = λ p inside entry is.
      let within =
      subst (λ (z : Bounds). IsInBounds z p) (sym e) (in_bounds c tile p lawful inside) in
      let at : index_in b p ≡ index_in_tile c p = ap (λ (z : Bounds). index_in z p) e
      ∙ sym (index_in_tile_is c tile p inside.1) in
      made.each p within (index_in_below b p within) entry (ap (slice_get list) at ∙ is);
}

pub entry_of_tile : {X : Type 0} (c : Cutting) (tile : ℕ) (Has : Place → Option X → Type 0)
    (list : List (Option X)) → IsCutting c → IsMadeTile c tile Has list →
    (p : Place) → IsInTile c tile p → Has p (tile_entry c tile list p)
entry_of_tile {X} c tile Has list lawful made p inside =
    let at = index_in_tile_is c tile p inside.1 in
    let below = index_in_below (bounds_of c tile) p (in_bounds c tile p lawful inside) in
    subst (λ (o : Option X). Has p o) (ap (λ n. get_or list n None) at
    ∙ sym (tile_entry-in c tile list p inside))
    (made.each p inside (get_or list (index_in_tile c p) None)
    (slice_get-get_or list (index_in_tile c p) None (omega (arith, below, at, made.size))))
