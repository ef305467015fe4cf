-- A lawful grid's text of at most 2^29 bytes reads back as that grid without its sinks.
use Rattle.std.proofs.Common.{◌≡◌, Bool, true, false, cond, List, [], ◌∷◌, Option, None, Some, ap, refl, ◌∙◌, ℕ, ◌*◌, ◌^◌, ◌<◌, ◌≤◌, ltb, ◌++◌, length, map, get_or, ℤ, sym, arith, zero-add}
use Rattle.std.specs.Prelude.{codes, decimal}
use Rattle.std.specs.Option.{option_or}
use Rattle.std.proofs.lemmas.Bool.{and_from, le-leb, le-ltb}
use Rattle.terrain.specs.Words.{Word, words}
use Rattle.terrain.specs.Decimal.{number_of, is_decimal, is_above_zero, is_size}
use Rattle.terrain.specs.Raster.{Raster, IsLawful, IsHeaderWord}
use Rattle.ascii_grid.specs.Header.{header_words, height_words, size_for, anchor_for, word_for, nodata_for, is_long, is_value, bad_value, header_fault, missing_fault, no_value_fault}
use Rattle.ascii_grid.specs.declared.fault.Key.{Key}
use Rattle.ascii_grid.specs.declared.fault.Key.TheVariants.{Ncols, Nrows, Xll, Yll, Cellsize, Nodata}
use Rattle.ascii_grid.specs.declared.fault.GridFault.{GridFault}
use Rattle.ascii_grid.specs.declared.fault.GridFault.TheVariants.{TooLong}
use Rattle.ascii_grid.proofs.Parting.{IsClean, words-word, words-rows}
use Rattle.std.specs.List.{All}
use Rattle.std.proofs.lemmas.List.{append_assoc, length-map}
use Rattle.std.proofs.lemmas.List.Elements.{All-head}
use Rattle.std.proofs.Math.Nat.{mul_comm, le_of_eq}
use Rattle.std.proofs.lemmas.Fmt.{length-decimal-le}
use Rattle.terrain.specs.Sinks.{raster_with_sinks}
use Rattle.ascii_grid.specs.GridText.{IsGridText, most_bytes, words_fault, end_fault, heights_fault, cells_wanted, grid_of, spelled_cell}
use Rattle.ascii_grid.specs.Text.{line_text, anchor_text, header_text, rows_text, cell_text, height_text, heights_text}
use Rattle.ascii_grid.proofs.ReadBackDecimals.{decimal_clean, digits_clean}
use Rattle.ascii_grid.proofs.Decimals.{decimal_value, decimal_are_digits, decimal_word, decimal_digits}
use Rattle.ascii_grid.proofs.AddedWords.{is_short}
use Rattle.ascii_grid.proofs.Judging.{words-begun}
use Rattle.ascii_grid.proofs.Feeding.{few_fault}
use Rattle.ascii_grid.proofs.ReadBackCells.{ReadsAs, reads_cell, no_heights_fault, cells_again}

abbrev xll_key : Bool → Word
xll_key x = cond x (codes "xllcenter") (codes "xllcorner")

abbrev yll_key : Bool → Word
yll_key y = cond y (codes "yllcenter") (codes "yllcorner")

-- the words of a grid's header, and then `rest`; `x` and `y` say whether xll and yll are centres
abbrev header_and : Bool → Bool → Raster → List Word → List Word
header_and x y g rest =
    codes "ncols" ∷ decimal g.terrain.cols ∷ codes "nrows" ∷ decimal g.terrain.rows ∷ xll_key x ∷ g.xll.word ∷
    yll_key y ∷ g.yll.word ∷ codes "cellsize" ∷ g.cellsize ∷ codes "NODATA_value" ∷ g.nodata ∷ rest

-- `w` is one word of at most 64 bytes, and can be the value of this slot
record IsWritten (slot : Key) (w : Word) : Type 0 where
  value : is_value slot w ≡ true
  short : is_long w ≡ false
  clean : IsClean w

record AreWritten (g : Raster) : Type 0 where
  cols : IsWritten Ncols (decimal g.terrain.cols)
  rows : IsWritten Nrows (decimal g.terrain.rows)
  xll : IsWritten Xll g.xll.word
  yll : IsWritten Yll g.yll.word
  cellsize : IsWritten Cellsize g.cellsize
  nodata : IsWritten Nodata g.nodata

abbrev fault_of : Key → Word → Option GridFault
fault_of slot w = cond (is_long w) (Some TooLong) (cond (is_value slot w) None (Some (bad_value slot)))

no_value_faults : (g : Raster) → AreWritten g → option_or (fault_of Ncols (decimal g.terrain.cols)) (option_or
    (fault_of Nrows (decimal g.terrain.rows)) (option_or (fault_of Xll g.xll.word) (option_or (fault_of Yll g.yll.word)
    (option_or (fault_of Cellsize g.cellsize) (option_or (fault_of Nodata g.nodata) None))))) ≡ None
no_value_faults g h =
    rw (
      h.cols.short,
      h.cols.value,
      h.rows.short,
      h.rows.value,
      h.xll.short,
      h.xll.value,
      h.yll.short,
      h.yll.value,
      h.cellsize.short,
      h.cellsize.value,
      h.nodata.short,
      h.nodata.value,
    )

-- a written header, and then the words `rest`, reads back as the header of the grid `g`, but with
-- centres by `x` and `y`
record ReadsBack (x y : Bool) (g : Raster) (rest : List Word) : Type 0 where
  header : header_words (header_and x y g rest) ≡ header_and x y g (header_words rest)
  heights : height_words (header_and x y g rest) ≡ height_words rest
  faultless : AreWritten g → header_fault [] (header_and x y g []) ≡ None
  whole : missing_fault (header_and x y g []) ≡ None
  paired : no_value_fault (header_and x y g []) ≡ None
  cols : size_for Ncols (header_and x y g []) ≡ number_of (decimal g.terrain.cols)
  rows : size_for Nrows (header_and x y g []) ≡ number_of (decimal g.terrain.rows)
  xll : anchor_for Xll (header_and x y g []) ≡ record { centre = x; word = g.xll.word }
  yll : anchor_for Yll (header_and x y g []) ≡ record { centre = y; word = g.yll.word }
  cellsize : word_for Cellsize (header_and x y g []) ≡ g.cellsize
  nodata : nodata_for (header_and x y g []) ≡ g.nodata

header_reads_back : (x y : Bool) (g : Raster) (rest : List Word) → ReadsBack x y g rest
header_reads_back true true g rest = assumption (no_value_faults g)
header_reads_back false true g rest = assumption (no_value_faults g)
header_reads_back x y g rest = assumption (no_value_faults g)

words-line : (key word value rest : List ℕ) → ((x : List ℕ) → words (key ++ x) ≡ word ∷ words x) → IsClean value →
    words (line_text key value ++ rest) ≡ word ∷ value ∷ words rest
words-line key word value rest begins clean =
    ap words (regroup key value _ rest) ∙ begins _ ∙ rw (words-word rest 10 clean refl) refl where
      regroup : (a b c d : List ℕ) → ((a ++ b) ++ c) ++ d ≡ a ++ (b ++ (c ++ d))
      regroup a b c d = simp append_assoc

words-anchor : (c : Bool) {corner_word centre_word value : List ℕ} (corner centre rest : List ℕ) →
    ((x : List ℕ) → words (corner ++ x) ≡ corner_word ∷ words x) →
    ((x : List ℕ) → words (centre ++ x) ≡ centre_word ∷ words x) → IsClean value →
    words (anchor_text corner centre (record { centre = c; word = value }) ++ rest) ≡
    cond c centre_word corner_word ∷ value ∷ words rest
words-anchor true {centre_word} {value} corner centre rest begins centre_begins clean =
    words-line centre centre_word value rest centre_begins clean
words-anchor false {corner_word} {value} corner centre rest begins centre_begins clean =
    words-line corner corner_word value rest begins clean

regroup_lines : (a b c d e f rest : List ℕ) →
    (((((a ++ b) ++ c) ++ d) ++ e) ++ f) ++ rest ≡ a ++ (b ++ (c ++ (d ++ (e ++ (f ++ rest)))))
regroup_lines a b c d e f rest = simp append_assoc

-- the words of a grid's header with the grid's own corners or centres, and then `rest`
abbrev header_of : Raster → List Word → List Word
header_of g rest = header_and g.xll.centre g.yll.centre g rest

words-header : (g : Raster) (rest : List ℕ) → AreWritten g →
    words (header_text g g.nodata ++ rest) ≡ header_of g (words rest)
words-header g rest written =
    let l1 = line_text (codes "ncols         ") (decimal g.terrain.cols) in
    let l2 = line_text (codes "nrows         ") (decimal g.terrain.rows) in
    let l3 = anchor_text (codes "xllcorner     ") (codes "xllcenter     ") g.xll in
    let l4 = anchor_text (codes "yllcorner     ") (codes "yllcenter     ") g.yll in
    let l5 = line_text (codes "cellsize      ") g.cellsize in
    let l6 = line_text (codes "NODATA_value  ") g.nodata in
    ap words (regroup_lines l1 l2 l3 l4 l5 l6 rest) ∙ words-line (codes "ncols         ") (codes "ncols")
    (decimal g.terrain.cols) (l2 ++ (l3 ++ (l4 ++ (l5 ++ (l6 ++ rest))))) (λ z. refl) written.cols.clean ∙ ap
    (λ ws. codes "ncols" ∷ decimal g.terrain.cols ∷ ws) (words-line (codes "nrows         ") (codes "nrows")
    (decimal g.terrain.rows) (l3 ++ (l4 ++ (l5 ++ (l6 ++ rest)))) (λ z. refl) written.rows.clean) ∙ ap
    (λ ws. codes "ncols" ∷ decimal g.terrain.cols ∷ codes "nrows" ∷ decimal g.terrain.rows ∷ ws) (words-anchor
    g.xll.centre (codes "xllcorner     ") (codes "xllcenter     ") (l4 ++ (l5 ++ (l6 ++ rest))) (λ z. refl) (λ z. refl)
    written.xll.clean) ∙ ap (λ ws. codes "ncols" ∷ decimal g.terrain.cols ∷ codes "nrows" ∷ decimal g.terrain.rows ∷
    xll_key g.xll.centre ∷ g.xll.word ∷ ws) (words-anchor g.yll.centre (codes "yllcorner     ") (codes "yllcenter     ")
    (l5 ++ (l6 ++ rest)) (λ z. refl) (λ z. refl) written.yll.clean) ∙ ap (λ ws. codes "ncols" ∷ decimal g.terrain.cols ∷
    codes "nrows" ∷ decimal g.terrain.rows ∷ xll_key g.xll.centre ∷ g.xll.word ∷ yll_key g.yll.centre ∷ g.yll.word ∷ ws)
    (words-line (codes "cellsize      ") (codes "cellsize") g.cellsize (l6 ++ rest) (λ z. refl)
    written.cellsize.clean) ∙ ap (λ ws. codes "ncols" ∷ decimal g.terrain.cols ∷ codes "nrows" ∷
    decimal g.terrain.rows ∷ xll_key g.xll.centre ∷ g.xll.word ∷ yll_key g.yll.centre ∷ g.yll.word ∷ codes "cellsize" ∷
    g.cellsize ∷ ws)
    (words-line (codes "NODATA_value  ") (codes "NODATA_value") g.nodata rest (λ z. refl) written.nodata.clean)

size_ok : {n : ℕ} → 1 ≤ n → n ≤ 4096 → is_size (decimal n) ≡ true
size_ok {n} low high =
    let small : n < 2 ^ 64 = omega arith in
    let value = decimal_value small in
    and_from _ _ (and_from _ _ (decimal_are_digits n small) (le-leb 1 _ (omega arith))) (le-leb _ 4096 (omega arith))

size_written : {slot : Key} {n : ℕ} → n ≤ 4096 → is_value slot (decimal n) ≡ true → IsWritten slot (decimal n)
size_written {n} h ok =
    let small : n < 2 ^ 64 = omega arith in
    let few = length-decimal-le 4 n (omega arith) (omega arith) small in
    record {
      value = ok;
      short = is_short _ (omega arith);
      clean = digits_clean _ (decimal_word n small) (decimal_digits n small);
    }

word_written : {slot : Key} {w : Word} → IsHeaderWord w → is_value slot w ≡ true → IsWritten slot w
word_written {w} h ok =
    record { value = ok; short = is_short w h.0; clean = decimal_clean w h.1 }

module _ (g : Raster) where
  values_written : IsLawful g → AreWritten g
  values_written h = record {
    cols = size_written h.terrain.few_cols (size_ok h.terrain.some_col h.terrain.few_cols);
    rows = size_written h.terrain.few_rows (size_ok h.terrain.some_row h.terrain.few_rows);
    xll = word_written h.xll h.xll.1;
    yll = word_written h.yll h.yll.1;
    cellsize =
        word_written h.cellsize (and_from (is_decimal g.cellsize) (is_above_zero g.cellsize) h.cellsize.1 h.above_zero);
    nodata = word_written h.nodata h.nodata.1;
  }

  all_read : IsLawful g →
      All (λ c. ReadsAs g.scale g.nodata c (cell_text (height_text g.scale) g.nodata c)) g.terrain.cells
  all_read h = λ k d within. reads_cell g.scale g.nodata (get_or g.terrain.cells k d) h.scale h.nodata
      (h.terrain.heights k d within) (h.apart k d within)

  words_are : IsLawful g →
      words (heights_text g) ≡ header_of g (map (cell_text (height_text g.scale) g.nodata) g.terrain.cells)
  words_are h =
      words-header g
      (rows_text (cell_text (height_text g.scale) g.nodata) g.terrain.cols g.terrain.rows g.terrain.cells)
      (values_written h) ∙ ap (λ (ws : List Word). header_of g ws) (words-rows
      (cell_text (height_text g.scale) g.nodata) g.terrain.cols g.terrain.rows g.terrain.cells
      (omega (arith, h.terrain.some_col)) (h.terrain.size ∙ mul_comm g.terrain.cols g.terrain.rows)
      (λ k d within. (all_read h k d within).clean))

cells_are_heights : {d : ℕ} {nodata : Word} (cells : List (Option ℤ)) →
    All (λ c. ReadsAs d nodata c (cell_text (height_text d) nodata c)) cells →
    (header_words (map (cell_text (height_text d) nodata) cells) ≡ []) ×
    (height_words (map (cell_text (height_text d) nodata) cells) ≡ map (cell_text (height_text d) nodata) cells)
cells_are_heights [] reads = (refl, refl)
cells_are_heights {d} {nodata} (c ∷ cells) reads =
    words-begun _ (All-head (λ x. ReadsAs d nodata x (cell_text (height_text d) nodata x)) c cells reads).begins

no_words_fault : (d : ℕ) {header heights : List Word} (ws : List Word) → header_words ws ≡ header →
    height_words ws ≡ heights → header_fault [] header ≡ None → heights_fault d header 0 heights ≡ None →
    words_fault d ws ≡ None
no_words_fault d ws p q none clean = rw (p, q, none) clean

no_end_fault : {header heights : List Word} (ws : List Word) → header_words ws ≡ header → height_words ws ≡ heights →
    no_value_fault header ≡ None → missing_fault header ≡ None → ltb (length heights) (cells_wanted header) ≡ false →
    end_fault ws ≡ None
no_end_fault ws p q paired whole enough = rw (p, q, paired, whole, enough)

same_grid : {d : ℕ} {header heights : List Word} (ws : List Word) (g : Raster) → header_words ws ≡ header →
    height_words ws ≡ heights → size_for Ncols header ≡ g.terrain.cols → size_for Nrows header ≡ g.terrain.rows →
    map (spelled_cell d (nodata_for header)) heights ≡ g.terrain.cells → anchor_for Xll header ≡ g.xll →
    anchor_for Yll header ≡ g.yll → word_for Cellsize header ≡ g.cellsize → nodata_for header ≡ g.nodata → d ≡ g.scale →
    grid_of d ws ≡ raster_with_sinks g []
same_grid ws g p q cols rows cells xll yll cellsize nodata scale =
    rw (p, q, cols, rows, cells, xll, yll, cellsize, nodata, scale)

pub read_back : (g : Raster) → IsLawful g → length (heights_text g) ≤ most_bytes →
    IsGridText g.scale (heights_text g) (raster_with_sinks g [])
read_back g h short =
    let cells = map (cell_text (height_text g.scale) g.nodata) g.terrain.cells in
    let reads = all_read g h in
    let are = cells_are_heights g.terrain.cells reads in
    let gives = header_reads_back g.xll.centre g.yll.centre g cells in
    let header : header_words (words (heights_text g)) ≡ header_of g [] =
    ap header_words (words_are g h) ∙ gives.header ∙ ap (header_of g) are.0 in
    let heights : height_words (words (heights_text g)) ≡ cells =
    ap height_words (words_are g h) ∙ gives.heights ∙ are.1 in
    let cols = gives.cols ∙ decimal_value (omega (arith, h.terrain.few_cols)) in
    let rows = gives.rows ∙ decimal_value (omega (arith, h.terrain.few_rows)) in
    let wanted : length g.terrain.cells ≡ cells_wanted (header_of g []) =
    h.terrain.size ∙ sym (ap (λ n. n * size_for Nrows (header_of g [])) cols ∙ ap (λ n. g.terrain.cols * n) rows) in
    let enough =
    le-ltb (length cells) (cells_wanted (header_of g []))
    (le_of_eq (sym wanted ∙ sym (length-map g.terrain.cells (cell_text (height_text g.scale) g.nodata)))) in
    let clean =
    no_heights_fault (header_of g []) 0 g.terrain.cells gives.whole gives.nodata
    (zero-add (length g.terrain.cells) ∙ wanted) reads in
    let again = ap (λ w. map (spelled_cell g.scale w) cells) gives.nodata ∙ cells_again g.terrain.cells reads in
    record {
      faultless =
          few_fault g.scale (heights_text g) short ∙ ap (λ o. option_or o (end_fault (words (heights_text g))))
          (no_words_fault g.scale (words (heights_text g)) header heights (gives.faultless (values_written g h))
          clean) ∙ no_end_fault (words (heights_text g)) header heights gives.paired gives.whole enough;
      grid =
          sym (same_grid (words (heights_text g)) g header heights cols rows again gives.xll gives.yll gives.cellsize
          gives.nodata refl);
    }
