-- The text that a job makes is the text of one part of the map's rows. The texts of all parts, in
-- order, are the text of the map's rows.
use Rattle.std.proofs.Common.{◌≡◌, ℕ, zero, suc, ◌+◌, ◌-◌, ◌*◌, ◌/◌, ◌<◌, ◌≤◌, min, inl, inr, List, ◌++◌, length, take, drop, get_or, Vec, Global, sym, ap, subst, ◌∙◌, arith, length-drop}
use Rattle.std.specs.Int.{div_ceil}
use Rattle.std.specs.List.{flat_map}
use Rattle.std.proofs.Math.Nat.{mul-le-mul_right, div-mul-le_self, mul_comm}
use Rattle.std.proofs.lemmas.Grind.{div_ceil_times}
use Rattle.std.proofs.lemmas.List.{take_all, length-take-le}
use Rattle.std.proofs.lemmas.Option.{get_or_from_slice_get, slice_get_cases}
use Rattle.ascii_grid.specs.Text.{rows_text}
use Rattle.ascii_grid.proofs.RowText.{pieces_more, rows_text-add, rows_take, whole_rows}
use Rattle.text_jobs.specs.Parts.{part_text}

pub first_row_below : (rows each part : ℕ) → 0 < each → part < div_ceil rows each →
    part * each < rows
first_row_below rows each part some below =
    let times = mul-le-mul_right each (let e : part + 1 ≤ div_ceil rows each = omega arith in e) in
    omega (arith, times, (div_ceil_times rows each some).1)

pub part_within : (n cols each part count : ℕ) → part * each < n / cols →
    count ≡ min each (n / cols - part * each) → (part * each + count) * cols ≤ n
part_within n cols each part count below e =
    let rows =
    mul-le-mul_right cols (let within : part * each + count ≤ n / cols = omega arith in within) in
    omega (arith, rows, div-mul-le_self n cols)

module _ {X : Type 0} (f : X → List ℕ) (cols each : ℕ) (cells : List X) where
  -- the rows of `own`, the cells of part `part`, have the text `part_text` of that part
  pub lines_of_part : (part count : ℕ) → 0 < cols → part * each < length cells / cols →
      count ≡ min each (length cells / cols - part * each) →
      let own =
      take ((part * each + count) * cols - part * each * cols) (drop (part * each * cols) cells) in
      rows_text f cols (length own / cols) own ≡ part_text f cols each cells part
  lines_of_part part count some below e =
      let rest = drop (part * each * cols) cells in
      let size : (part * each + count) * cols - part * each * cols ≡ count * cols = omega arith in
      let own = take ((part * each + count) * cols - part * each * cols) rest in
      let within = part_within (length cells) cols each part count below e in
      let long : length (take (count * cols) rest) ≡ count * cols = length-take-le
      (count * cols) rest (omega (arith, length-drop (part * each * cols) cells, within, size)) in
      let rows : length (take (count * cols) rest) / cols ≡ count = whole_rows (length
      (take (count * cols) rest)) cols count (long ∙ mul_comm count cols) (omega (arith, some)) in
      ap (λ n. rows_text f cols (length (take n rest) / cols) (take n rest)) size
      ∙ ap (λ n. rows_text f cols n (take (count * cols) rest)) rows
      ∙ rows_take f cols count rest
      ∙ ap (λ n. rows_text f cols n rest) e

  module _ (texts : List (Vec ℕ Global))
      (inside : (part : ℕ) → part < length texts → part * each < length cells / cols)
      (given : (part : ℕ) (d : Vec ℕ Global) → part < length texts →
      (get_or texts part d).items ≡ part_text f cols each cells part) where
    abbrev bytes : Vec ℕ Global → List ℕ
    bytes text = text.items

    -- the text of the rows before part `k`, followed by the text of part `k`, is the text of the
    -- rows before part `k + 1`
    part_more : (k : ℕ) → k * each < length cells / cols → rows_text f cols
        (min (k * each) (length cells / cols)) cells ++ part_text f cols each cells k
        ≡ rows_text f cols (min (suc k * each) (length cells / cols)) cells
    part_more k below =
        let before : min (k * each) (length cells / cols) ≡ k * each = omega arith in
        let after : k * each + min each (length cells / cols - k * each)
        ≡ min (suc k * each) (length cells / cols) = omega arith in
        ap (λ n. rows_text f cols n cells ++ part_text f cols each cells k) before
        ∙ sym (rows_text-add f cols (k * each) (min each (length cells / cols - k * each)) cells)
        ∙ ap (λ n. rows_text f cols n cells) after

    front : (k : ℕ) → k ≤ length texts → flat_map bytes (take k texts)
        ≡ rows_text f cols (min (k * each) (length cells / cols)) cells
    front zero h = ap (λ n. rows_text f cols n cells)
        (let e : 0 ≡ min (zero * each) (length cells / cols) = omega arith in e)
    front (suc k) h = elim (slice_get_cases texts k).1 [
      | inr past ↦ absurd (omega (arith, past.0))
      | inl text ↦
          let below : k < length texts = omega arith in
          let is = get_or_from_slice_get texts k text.0 text.0 text.2 in
          ap (λ n. flat_map bytes (take n texts)) (let e : suc k ≡ k + 1 = omega arith in e)
          ∙ pieces_more bytes texts text.0 k below (sym is)
          ∙ ap (λ z. z ++ bytes text.0) (front k (omega arith))
          ∙ ap (λ z. rows_text f cols (min (k * each) (length cells / cols)) cells
          ++ z) (ap bytes (sym is) ∙ given k text.0 below)
          ∙ part_more k (inside k below)
    ]

    all_of_them : length cells / cols ≤ length texts * each →
        flat_map bytes texts ≡ rows_text f cols (length cells / cols) cells
    all_of_them covered =
        ap (λ (z : List (Vec ℕ Global)).
        flat_map bytes z) (sym (take_all (length texts) texts (omega arith)))
        ∙ front (length texts) (omega arith)
        ∙ ap (λ n. rows_text f cols n cells) (let e :
        min (length texts * each) (length cells / cols) ≡ length cells / cols = omega arith in e)

  -- the texts of all parts, in order, are the text of the map's rows
  pub parts_joined : (texts : List (Vec ℕ Global)) (parts : ℕ) → 0 < each → length texts ≡ parts →
      parts ≡ div_ceil (length cells / cols) each →
      ((part : ℕ) (d : Vec ℕ Global) → part < parts →
      (get_or texts part d).items ≡ part_text f cols each cells part) →
      flat_map (λ text. text.items) texts ≡ rows_text f cols (length cells / cols) cells
  parts_joined texts parts some long count given =
      let times = div_ceil_times (length cells / cols) each some in
      let covered : length cells / cols ≤ parts * each =
      subst (λ n. length cells / cols ≤ n * each) (sym count) times.0 in
      all_of_them texts (λ part below. first_row_below (length cells / cols) each part some (omega
      (arith, below, long, count))) (λ part d below. given part d (omega (arith, below, long)))
      (subst (λ n. length cells / cols ≤ n * each) (sym long) covered)
