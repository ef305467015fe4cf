-- Numbers count the entries of all tiles' tables of labels, tile by tile, and fit in 32 bits. The
-- number of each table's first entry is found tile by tile.
use Rattle.std.proofs.Common.{◌≡◌, ℕ, ◌+◌, ◌-◌, ◌*◌, ◌<◌, ◌≤◌, inl, inr, List, [], ◌∷◌, ◌++◌, length, get_or, take, None, Some, ◌∙◌, sym, ap, subst, refl, arith}
use Rattle.std.proofs.Math.Nat.{mul-mul-mul_comm}
use Rattle.std.proofs.lemmas.Nat.{mul-le}
use Rattle.std.specs.Prelude.{slice_get}
use Rattle.std.specs.Int.{div_ceil}
use Rattle.std.specs.List.{flat_map}
use Rattle.std.proofs.lemmas.Bool.{cases_eq}
use Rattle.std.proofs.lemmas.Grind.{flat_map-append}
use Rattle.std.proofs.lemmas.List.{length-map, append-nil, take_more, take_all, length-append, length_push, get_or_append_left, get_or_push}
use Rattle.std.proofs.lemmas.Option.{slice_get_within, get_or_from_slice_get}
use Rattle.terrain.specs.Raster.{Terrain}
use Rattle.tiles.specs.declared.bounds.Bounds.{Bounds}
use Rattle.tiles.specs.Cutting.{Cutting, IsCutting, across, down, tile_count}
use Rattle.tiles.proofs.Cut.{bounds_inside}
use Rattle.tiles.proofs.Quotients.{piece_begins, pieces_some}
use Rattle.cell_floods.specs.TileFlood.{Flood, IsFlood}
use Rattle.fill.specs.Numbers.{AreFirsts, first_of, places_of}
use Rattle.fill.specs.SpillGraph.{AreFloods}

pub flat_more : {X : Type 0} (g : Flood → List X) (floods : List Flood) (i : ℕ) (f : Flood) → i < length floods →
    f ≡ get_or floods i f → flat_map g (take (i + 1) floods) ≡ flat_map g (take i floods) ++ g f
flat_more g floods i f low is =
    cc (take_more floods i f low, flat_map-append g (take i floods) (get_or floods i f ∷ []), append-nil _)

-- `firsts` has the number of the first entry of each of the first `count` tables. `next` is the
-- number after all of theirs. It, and so each number of these tables, fits in 32 bits. The floods
-- of these tables have the property `IsFlood`.
pub record AreFirstNumbers (floods : List Flood) (count : ℕ) (firsts : List ℕ) (next : ℕ) :
    Type 0 where
  pub size : length firsts ≡ count
  pub next_is : next ≡ first_of floods count
  pub small : next ≤ 4294967295
  pub each : (tile : ℕ) → tile < count → get_or firsts tile 0 ≡ first_of floods tile
  pub few : (tile : ℕ) (f : Flood) → tile < count → slice_get floods tile ≡ Some f →
      first_of floods tile + length f.table.places ≤ 4294967295
  pub lawful : (tile : ℕ) (f : Flood) → tile < count → slice_get floods tile ≡ Some f → IsFlood f

pub no_first : (floods : List Flood) (firsts : List ℕ) → firsts ≡ [] → AreFirstNumbers floods 0 firsts 0
no_first floods firsts none = record {
  size = ap length none;
  next_is = refl;
  small = omega arith;
  each = λ tile low. absurd (omega arith);
  few = λ tile f low. absurd (omega arith);
  lawful = λ tile f low. absurd (omega arith);
}

pub one_first : (floods : List Flood) (i : ℕ) (f : Flood) {firsts : List ℕ} (new : List ℕ) {next : ℕ} (after : ℕ) →
    i < length floods → f ≡ get_or floods i f → IsFlood f → new ≡ firsts ++ next ∷ [] →
    after ≡ next + length f.table.places → after ≤ 4294967295 → AreFirstNumbers floods i firsts next →
    AreFirstNumbers floods (i + 1) new after
one_first floods i f {firsts} new {next} after low is flood more sum small s =
    subst (λ z. AreFirstNumbers floods (i + 1) z after) (sym more) (record {
      size = cc (length_push firsts next);
      next_is = sum ∙ omega (arith, s.next_is, length-append (places_of (take i floods)) f.table.places) ∙
          sym (ap length (flat_more (λ (g : Flood). g.table.places) floods i f low is));
      small = small;
      each = λ k below. elim (cases_eq k i) [
        | inr other ↦ get_or_append_left firsts (next ∷ []) 0 k (omega arith) ∙ s.each k (omega arith)
        | inl same ↦ cc (get_or_push firsts next 0 k (s.size ∙ sym same))
      ];
      few = λ k g below there. elim (cases_eq k i) [
        | inr other ↦ s.few k g (omega arith) there
        | inl same ↦
            let g_is : f ≡ g = cc (get_or_from_slice_get floods k g f there) in
            let sizes : length f.table.places ≡ length g.table.places = cc in
            omega (arith, ap (first_of floods) same, s.next_is, sum, small, sizes)
      ];
      lawful = λ k g below there. elim (cases_eq k i) [
        | inr other ↦ s.lawful k g (omega arith) there
        | inl same ↦
            let g_is : f ≡ g = cc (get_or_from_slice_get floods k g f there) in
            subst IsFlood g_is flood
      ];
    })

-- A tile's table has at most one entry more than a full tile has cells.
pub few_labels : {t : Terrain} (c : Cutting) (floods : List Flood) (tile : ℕ) (f : Flood) → AreFloods t c floods →
    slice_get floods tile ≡ Some f → IsFlood f → length f.table.places ≤ c.side * c.side + 1
few_labels c floods tile f are there lawful =
    let inside = bounds_inside c tile are.lawful (omega (arith, are.count, slice_get_within floods tile f there)) in
    let short : f.bounds.rows * f.bounds.cols ≤ c.side * c.side =
    subst (λ (b : Bounds). b.rows * b.cols ≤ c.side * c.side) (sym ((are.each tile f there).bounds))
    (mul-le _ _ _ _ inside.short_rows inside.short_cols) in
    let cells : length f.table.indexes ≡ f.bounds.rows * f.bounds.cols =
    cc (length-map f.table.indexes (λ k. get_or f.table.places k None)) in
    omega arith

few_pieces : (n side : ℕ) → 1 ≤ side → side ≤ 4096 → 1 ≤ n → n ≤ 4096 → div_ceil n side * side ≤ 8191
few_pieces n side some short any few =
    let k = div_ceil n side in
    let one : 0 < k = pieces_some n side some any in
    let last : (k - 1) * side < n = piece_begins n side (k - 1) some (omega arith) in
    let more : k * side ≡ (k - 1 + 1) * side = ap (λ m. m * side) (omega arith) in
    omega arith

-- Tables of side * side + 1 entries, one for each tile, have at most 2^32 - 1 entries in all.
pub all_few : (c : Cutting) (n : ℕ) → IsCutting c → n ≤ tile_count c → n * (c.side * c.side + 1) ≤ 4294967295
all_few c n h low =
    let square = c.side * c.side in
    let tiles = mul-le n (square + 1) (tile_count c) (square + 1) low (omega arith) in
    let same : tile_count c * square ≡ across c * c.side * (down c * c.side) =
    mul-mul-mul_comm (across c) (down c) c.side c.side in
    let wide = few_pieces c.cols c.side h.some_side h.short_side h.some_col h.few_cols in
    let high = few_pieces c.rows c.side h.some_side h.short_side h.some_row h.few_rows in
    let all = mul-le (across c * c.side) (down c * c.side) 8191 8191 wide high in
    omega arith

pub all_firsts : {floods : List Flood} {i : ℕ} {firsts : List ℕ} {next : ℕ} → i ≤ length floods → length floods ≤ i →
    AreFirstNumbers floods i firsts next → AreFirsts floods firsts
all_firsts {floods} {i} below past s = record {
  size = omega arith;
  each = λ tile low. s.each tile (omega arith);
  few = λ tile f there. s.few tile f (omega (arith, slice_get_within floods tile f there, past)) there;
  whole = let same : length (places_of floods) ≡ first_of floods i = cc (take_all i floods past) in omega arith;
  lawful = λ tile f there. s.lawful tile f (omega (arith, slice_get_within floods tile f there, past)) there;
}
