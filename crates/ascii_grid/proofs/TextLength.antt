-- A lawful grid with a NODATA word of at most 30 bytes has a text of at most 2^29 bytes.
use Rattle.std.proofs.Common.{◌≡◌, ℕ, zero, suc, ◌+◌, ◌*◌, ◌<◌, ◌≤◌, cond, List, [], ◌∷◌, ◌++◌, length, take, drop, map, get_or, Option, None, Some, ℤ, refl, ◌∙◌, arith}
use Rattle.std.specs.Prelude.{codes, decimal, IfSome}
use Rattle.std.specs.List.{All, join_with_byte}
use Rattle.std.proofs.Math.Nat.{mul_comm, mul-le-mul}
use Rattle.std.proofs.lemmas.Bool.{cond_both}
use Rattle.std.proofs.lemmas.List.{length-append, length-take-le, length-drop}
use Rattle.std.proofs.lemmas.List.Elements.{All-head, All-tail, All-take, All-drop}
use Rattle.std.proofs.lemmas.Fmt.{length-decimal-le}
use Rattle.terrain.specs.Raster.{Anchor, Raster, IsHeight, IsLawful}
use Rattle.ascii_grid.specs.GridText.{most_bytes}
use Rattle.ascii_grid.specs.Text.{height_text, cell_text, row_text, rows_text, line_text, anchor_text, header_text, heights_text}
use Rattle.ascii_grid.proofs.ReadBackCells.{height_short, size_of_height}

-- the line of a nonempty row whose cells have at most 30 bytes each has at most 31 bytes a cell
line_short : {X : Type 0} (f : X → List ℕ) (cells : List X) → 0 < length cells → All (λ c. length (f c) ≤ 30) cells →
    length (join_with_byte 32 (map f cells)) + 1 ≤ 31 * length cells
line_short f [] h short = absurd (omega arith)
line_short f (c ∷ []) h short = let here = All-head (λ x. length (f x) ≤ 30) c [] short in
    omega arith
line_short f (c ∷ d ∷ cells) h short =
    let here = All-head (λ x. length (f x) ≤ 30) c (d ∷ cells) short in
    let rest = line_short f (d ∷ cells) (omega arith) (All-tail (λ x. length (f x) ≤ 30) c (d ∷ cells) short) in
    omega (arith, here, rest, length-append (f c) (32 ∷ join_with_byte 32 (map f (d ∷ cells))))

rows_short : {X : Type 0} (f : X → List ℕ) {cols : ℕ} (n : ℕ) (cells : List X) → 0 < cols → length cells ≡ n * cols →
    All (λ c. length (f c) ≤ 30) cells → length (rows_text f cols n cells) ≤ 31 * length cells
rows_short f zero cells h size short = omega arith
rows_short f {cols} (suc n) cells h size short =
    let front : length (take cols cells) ≡ cols = length-take-le cols cells (omega (arith, size)) in
    let back : length (drop cols cells) ≡ n * cols = omega (arith, size, length-drop cols cells) in
    let line =
    line_short f (take cols cells) (omega (arith, front)) (All-take (λ c. length (f c) ≤ 30) cols cells short) in
    let rest = rows_short f n (drop cols cells) h back (All-drop (λ c. length (f c) ≤ 30) cols cells short) in
    let row = length-append (join_with_byte 32 (map f (take cols cells))) (10 ∷ []) in
    let both = length-append (row_text f (take cols cells)) (rows_text f cols n (drop cols cells)) in
    omega (arith, size, front, back, line, rest, row, both)

line_length : (key value : List ℕ) → length (line_text key value) ≡ length key + length value + 1
line_length key value = omega (arith, length-append (key ++ value) (10 ∷ []), length-append key value)

anchor_length : (corner centre : List ℕ) (a : Anchor) → length corner ≡ 14 → length centre ≡ 14 →
    length (anchor_text corner centre a) ≡ 15 + length a.word
anchor_length corner centre a h k =
    let key = cond_both a.centre centre corner (λ z. length z ≡ 14) (λ _. k) (λ _. h) in
    omega (arith, line_length (cond a.centre centre corner) a.word, key)

size_digits : {n : ℕ} → n ≤ 4096 → length (decimal n) ≤ 4
size_digits {n} h = length-decimal-le 4 n (omega arith) (omega arith) (omega arith)

module _ (g : Raster) where
  header_short : IsLawful g → length (header_text g g.nodata) ≤ 400
  header_short h =
      let xll = anchor_length (codes "xllcorner     ") (codes "xllcenter     ") g.xll refl refl in
      let yll = anchor_length (codes "yllcorner     ") (codes "yllcenter     ") g.yll refl refl in
      let cols = size_digits h.terrain.few_cols in
      let rows = size_digits h.terrain.few_rows in
      simp length-append (omega (arith, simp length-append at xll, simp length-append at yll))

  cells_short : IsLawful g → length g.nodata ≤ 30 →
      All (λ c. length (cell_text (height_text g.scale) g.nodata c) ≤ 30) g.terrain.cells
  cells_short h nodata =
      λ k d within. cell_short g h nodata (get_or g.terrain.cells k d) (h.terrain.heights k d within) where
        cell_short : (g : Raster) → IsLawful g → length g.nodata ≤ 30 → (c : Option ℤ) → IfSome c IsHeight →
            length (cell_text (height_text g.scale) g.nodata c) ≤ 30
        cell_short g h nodata None height = nodata
        cell_short g h nodata (Some z) height = let l = height_short g.scale z h.scale (size_of_height z height) in
            omega (arith, l)

  pub text_short : IsLawful g → length g.nodata ≤ 30 → length (heights_text g) ≤ most_bytes
  text_short h nodata =
      let some : 0 < g.terrain.cols = omega (arith, h.terrain.some_col) in
      let header = header_short h in
      let rows =
      rows_short (cell_text (height_text g.scale) g.nodata) g.terrain.rows g.terrain.cells some
      (h.terrain.size ∙ mul_comm g.terrain.cols g.terrain.rows) (cells_short h nodata) in
      let few : g.terrain.cols * g.terrain.rows ≤ 4096 * 4096 = mul-le-mul h.terrain.few_cols h.terrain.few_rows in
      sum (header_text g g.nodata)
      (rows_text (cell_text (height_text g.scale) g.nodata) g.terrain.cols g.terrain.rows g.terrain.cells)
      (length g.terrain.cells) header rows (omega (arith, few, h.terrain.size)) where
        sum : (a b : List ℕ) (n : ℕ) → length a ≤ 400 → length b ≤ 31 * n → n ≤ 16777216 → length (a ++ b) ≤ most_bytes
        sum a b n i j k = omega (arith, i, j, k, length-append a b)
