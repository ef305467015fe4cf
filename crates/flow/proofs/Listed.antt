-- Entry i of a tile's counts or exits is the value at cell i, `None` at NODATA. The codes of the
-- tile's rows, appended row by row, are the tile's codes.
use Rattle.std.proofs.Common.{◌≡◌, ℕ, ◌<◌, List, length, get_or, map, Option, None, ap, ◌∙◌, arith, ◌+◌, ◌-◌, ◌*◌, inl, inr, ◌++◌}
use Rattle.std.specs.List.{range_with_len}
use Rattle.std.proofs.lemmas.Bool.{cases_lt}
use Rattle.std.proofs.lemmas.List.{get_or_default, length-append, get_or_append_left, get_or-append_right}
use Rattle.std.proofs.lemmas.List.FromFn.{get_or-map-range_with_len}
use Rattle.tiles.specs.declared.bounds.Bounds.{Bounds}
use Rattle.flow.specs.TileFlow.{directed_by}
use Rattle.flow.specs.TileLinks.{where_data}
use Rattle.std.proofs.Math.Nat.{suc-mul}
use Rattle.std.proofs.lemmas.Nat.{div-mul-add, mod-mul-add}
use Rattle.terrain.proofs.Places.{make_place, same_place, entry-inside}
use Rattle.tiles.specs.Cutting.{View, AreBounds, bounds_of, row_shown, place_in}
use Rattle.drainage.specs.Following.{code_at}
use Rattle.tiles.proofs.TileRows.{row_has}

-- The value read at index i, `None` at NODATA, is entry i of the list of all such values.
pub made_at : {X : Type 0} (cells : List (Option ℕ)) (value : ℕ → X) (n i : ℕ) (code : Option ℕ) (x : X) →
    i < length cells → i < n → code ≡ get_or cells i code → x ≡ value i →
    where_data code x ≡ get_or (map (λ i. where_data (get_or cells i None) (value i)) (range_with_len 0 n)) i None
made_at cells value n i code x inside h read same = cc (
  get_or_default cells i code None inside,
  get_or-map-range_with_len (λ i. where_data (get_or cells i None) (value i)) 0 n i i None h (omega arith),
)

pub place_in_row : (b : Bounds) (r k : ℕ) → k < b.cols → place_in b (r * b.cols + k) ≡ make_place (b.top + r)
    (b.left + k)
place_in_row b r k h = same_place _ _ (cc (div-mul-add r b.cols k h)) (cc (mod-mul-add r b.cols k h))

-- `cells` has the codes of the first `rows` rows of the bounds.
pub record AreFirstRows (v : View (Option ℕ)) (b : Bounds) (rows : ℕ) (cells : List (Option ℕ)) : Type 0 where
  pub size : length cells ≡ rows * b.cols
  pub each : (i : ℕ) → i < rows * b.cols → get_or cells i None ≡ code_at (directed_by v) (place_in b i)

row_code : (v : View (Option ℕ)) (b : Bounds) (r k : ℕ) → b ≡ bounds_of v.cutting v.tile → AreBounds v.cutting b →
    r < b.rows → k < b.cols → get_or (row_shown v r) k None ≡ code_at (directed_by v) (place_in b (r * b.cols + k))
row_code v b r k e a below inside =
    let x = a.rows_inside in let y = a.cols_inside in
    let sum : (b.top + r) * v.cutting.cols + b.left + k ≡ (b.top + r) * v.cutting.cols + (b.left + k) = omega arith in
    cc (
      row_has v None b r k e inside,
      entry-inside v.cutting.cols v.cutting.rows v.cells (make_place (b.top + r) (b.left + k)) (omega arith)
          (omega arith),
      place_in_row b r k inside,
    )

pub row_added : {v : View (Option ℕ)} {b : Bounds} {r : ℕ} {cells row new : List (Option ℕ)} →
    b ≡ bounds_of v.cutting v.tile → AreBounds v.cutting b → r < b.rows → row ≡ row_shown v r → length row ≡ b.cols →
    new ≡ cells ++ row → AreFirstRows v b r cells → AreFirstRows v b (r + 1) new
row_added {v} {b} {r} {cells} {row} e a below is size made so_far =
    let more : (r + 1) * b.cols ≡ r * b.cols + b.cols = ap (λ n. n * b.cols) (omega arith) ∙ suc-mul r b.cols in
    record {
      size = ap length made ∙ length-append cells row ∙ omega arith;
      each = λ i h. elim (cases_lt i (r * b.cols)) [
        | inl early ↦ cc (get_or_append_left cells row None i (omega arith), so_far.each i early)
        | inr late ↦
            let inside : i - r * b.cols < b.cols = omega arith in
            let at : r * b.cols + (i - r * b.cols) ≡ i = omega arith in
            ap (λ xs. get_or xs i None) made ∙ get_or-append_right cells row _ i None so_far.size late ∙
            ap (λ xs. get_or xs (i - r * b.cols) None) is ∙ row_code v b r _ e a below inside ∙
            ap (λ n. code_at (directed_by v) (place_in b n)) at
      ];
    }
