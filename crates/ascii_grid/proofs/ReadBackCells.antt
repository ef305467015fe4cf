-- The text of a height reads back as that height, and the text of a cell as that cell.
use Rattle.std.proofs.Common.{◌≡◌, ◌≢◌, ℕ, ◌+◌, ◌^◌, ◌≤◌, true, false, List, [], ◌∷◌, length, map, Option, None, Some, ℤ, pos, negsuc, sym, ap, refl, ◌∙◌, arith, zero, suc, ◌-◌, ◌/◌, ◌<◌, ltb, cond, ◌++◌, take, drop, replicate, inl, inr}
use Rattle.std.specs.Prelude.{unsigned_abs, IfSome, int_le, decimal, neg_ℤ}
use Rattle.std.specs.List.{All, list_any, before_first, after_first}
use Rattle.std.specs.Option.{option_map_or, option_or}
use Rattle.std.specs.Str.{bytes_eq}
use Rattle.std.proofs.lemmas.Bool.{cond-true, cond-false, and_from, or_left, or_right, or_from, false_from_ne_true, ltb-false, cases_Bool, and_parts, le-leb, le-ltb}
use Rattle.std.proofs.lemmas.Bool.Decides.{Decides-int_eq}
use Rattle.std.proofs.lemmas.Slice.Eq.{bytes_eq-Decides}
use Rattle.std.proofs.lemmas.List.Elements.{All-head, All-tail}
use Rattle.terrain.specs.Words.{Word}
use Rattle.terrain.specs.Decimal.{scaled_value, without_sign, is_negative, is_point, is_exponent_mark, has_exponent, is_decimal, has_scaled_value}
use Rattle.terrain.specs.Raster.{highest, IsHeight, is_height, IsHeaderWord}
use Rattle.ascii_grid.specs.Header.{begins_with_letter, is_long, nodata_for, missing_fault}
use Rattle.ascii_grid.specs.GridText.{same_value, is_nodata, spelled_cell, is_cell, cells_wanted, heights_fault}
use Rattle.ascii_grid.specs.Text.{height_text, cell_text, last_digits, decimals_text}
use Rattle.ascii_grid.proofs.Cells.{nodata_by_value}
use Rattle.ascii_grid.proofs.AddedWords.{is_short, height_fault-none}
use Rattle.ascii_grid.proofs.Parting.{IsClean}
use Rattle.ascii_grid.proofs.ReadBackDecimals.{decimal_clean, decimal_begins, before_first-at, after_first-at}
use Rattle.std.proofs.lemmas.List.{append-nil, length-append, take_at, drop_all}
use Rattle.std.proofs.lemmas.List.Folds.{list_any-append}
use Rattle.std.proofs.lemmas.Nat.{pow-add}
use Rattle.std.proofs.Math.Nat.{div-lt_iff_lt-mul, one-le-pow}
use Rattle.std.proofs.lemmas.Fmt.{decimal_nonempty, length-decimal-le}
use Rattle.decimals.proofs.Scaled.{are_digits_joined, before_first-none, scaled_value-digits, any-digits, no_exponent, no_point, after_first-none, bare_digits}
use Rattle.ascii_grid.proofs.Decimals.{decimal_digits, last_digits_digits, length-last_digits, scaled_digits}

-- the text at scale d of the height n; for the height -n, the text after its sign
abbrev pub body : ℕ → ℕ → List ℕ
body d n = decimal (n / 10 ^ d) ++ decimals_text d n

whole_small : {n : ℕ} (d : ℕ) → n < 2 ^ 64 → n / 10 ^ d < 2 ^ 64
whole_small d h = omega (arith)

whole_no_point : (d n : ℕ) → n < 2 ^ 64 → list_any is_point (decimal (n / 10 ^ d)) ≡ false
whole_no_point d n h = any-digits is_point (decimal (n / 10 ^ d)) no_point (decimal_digits _ (whole_small d h))

decimals_no_mark : (d n : ℕ) → list_any is_exponent_mark (decimals_text d n) ≡ false
decimals_no_mark zero n = refl
decimals_no_mark (suc d) n =
    any-digits is_exponent_mark (last_digits (suc d) n) no_exponent (last_digits_digits (suc d) n)

body_no_mark : (d n : ℕ) → n < 2 ^ 64 → list_any is_exponent_mark (body d n) ≡ false
body_no_mark d n h =
    list_any-append is_exponent_mark (decimal (n / 10 ^ d)) (decimals_text d n) ∙ or_from _ _
    (any-digits is_exponent_mark (decimal (n / 10 ^ d)) no_exponent (decimal_digits (n / 10 ^ d) (whole_small d h)))
    (decimals_no_mark d n)

body_whole : (d n : ℕ) → n < 2 ^ 64 → before_first is_point (body d n) ≡ decimal (n / 10 ^ d)
body_whole zero n h =
    ap (before_first is_point) (append-nil (decimal (n / 10 ^ 0))) ∙
    before_first-none is_point (decimal (n / 10 ^ 0)) (whole_no_point 0 n h)
body_whole (suc d) n h =
    before_first-at is_point (decimal (n / 10 ^ suc d)) (last_digits (suc d) n) 46 (whole_no_point (suc d) n h) refl

body_fraction : (d n : ℕ) → n < 2 ^ 64 → after_first is_point (body d n) ≡ last_digits d n
body_fraction zero n h =
    ap (after_first is_point) (append-nil (decimal (n / 10 ^ 0))) ∙
    after_first-none is_point (decimal (n / 10 ^ 0)) (whole_no_point 0 n h)
body_fraction (suc d) n h =
    after_first-at is_point (decimal (n / 10 ^ suc d)) (last_digits (suc d) n) 46 (whole_no_point (suc d) n h) refl

length-decimals : (d n : ℕ) → length (decimals_text d n) ≤ d + 1
length-decimals zero n = omega arith
length-decimals d n = omega (arith, length-last_digits)

module _ (d : ℕ) where
  -- `body` begins with a digit, so it has no sign
  body_unsigned : (n : ℕ) → n < 2 ^ 64 → (without_sign (body d n) ≡ body d n) × (is_negative (body d n) ≡ false)
  body_unsigned n h = bare_digits _ _ (decimal_nonempty _ (whole_small d h)) (decimal_digits _ (whole_small d h))

  pub decimal_from_value : (w : Word) (z : ℤ) → scaled_value d w ≡ Some z → is_decimal w ≡ true
  decimal_from_value w z e = elim (cases_Bool (has_scaled_value d w)) [
    | inl has ↦ (and_parts _ _ (and_parts _ _ (and_parts _ _ has).0).0).0
    | inr none ↦ let clash : scaled_value d w ≡ None = cond-false _ _ _ none in absurd (cc)
  ]

  -- for n up to 10^18, `body d n`, with or without a sign, has the scaled value n, or -n after `-`
  written_value : (n : ℕ) (w : Word) → without_sign w ≡ body d n → has_exponent w ≡ false → n ≤ 10 ^ 18 →
      scaled_value d w ≡ Some (cond (is_negative w) (neg_ℤ (pos n)) (pos n))
  written_value n w unsigned plain few =
      let small : n < 2 ^ 64 = omega (arith, few) in
      let digits = decimal_digits (n / 10 ^ d) (whole_small d small) in
      let kept : take d (last_digits d n ++ replicate d 48) ≡ last_digits d n =
      take_at (last_digits d n) (replicate d 48) d (length-last_digits d n) in
      let none : drop d (last_digits d n) ≡ [] = drop_all d (last_digits d n) (omega (arith, length-last_digits d n)) in
      scaled_value-digits d w (decimal (n / 10 ^ d)) (last_digits d n) (Some n) plain
      (sym (ap (before_first is_point) unsigned ∙ body_whole d n small))
      (sym (ap (after_first is_point) unsigned ∙ body_fraction d n small)) (are_digits_joined (decimal (n / 10 ^ d))
      (last_digits d n) (decimal_nonempty (n / 10 ^ d) (whole_small d small)) ∙
      rw (digits, last_digits_digits d n) refl) (rw (none, kept, scaled_digits d n small, le-leb n (10 ^ 18) few) refl)

  text-pos : (n : ℕ) → height_text d (pos n) ≡ body d n
  text-pos n =
      ap (λ z. z ++ decimal (n / 10 ^ d) ++ decimals_text d n)
      (cond-false (ltb n 0) (45 ∷ []) [] (le-ltb n 0 (omega arith)))

  pub height_value : (z : ℤ) → unsigned_abs z ≤ 10 ^ 15 → scaled_value d (height_text d z) ≡ Some z
  height_value (pos n) h =
      let small : n < 2 ^ 64 = omega (arith, h) in
      let bare = body_unsigned n small in
      ap (scaled_value d) (text-pos n) ∙ written_value n (body d n) bare.0 (body_no_mark d n small) (omega (arith, h)) ∙
      ap Some (cond-false (is_negative (body d n)) (neg_ℤ (pos n)) (pos n) bare.1)
  height_value (negsuc n) h =
      written_value (suc n) (45 ∷ body d (suc n)) refl (body_no_mark d (suc n) (omega (arith, h))) (omega (arith, h))

  whole_digits : (n : ℕ) → d ≤ 6 → n ≤ 10 ^ 15 → length (decimal (n / 10 ^ d)) + d ≤ 16
  whole_digits n few h =
      let sixteen : 16 - d + d ≡ 16 = omega (arith, few) in
      let all = sym (pow-add 10 _ d) ∙ ap (10 ^◌) sixteen in
      let some : 0 < 10 ^ d = let k = one-le-pow d 10 (omega arith) in omega (arith, k) in
      let small : n / 10 ^ d < 10 ^ (16 - d) = (div-lt_iff_lt-mul some).1 (omega (arith, all, h)) in
      let l = length-decimal-le _ _ (omega (arith, few)) small (whole_small d (omega (arith, h))) in
      omega (arith, l, few)

  body_short : (n : ℕ) → d ≤ 6 → n ≤ 10 ^ 15 → length (body d n) ≤ 17
  body_short n few h =
      let whole = whole_digits n few h in
      omega (arith, whole, length-decimals d n, length-append (decimal (n / 10 ^ d)) (decimals_text d n))

  pub height_short : (z : ℤ) → d ≤ 6 → unsigned_abs z ≤ 10 ^ 15 → length (height_text d z) ≤ 18
  height_short (pos n) few h = let size = body_short n few h in let same = ap length (text-pos n) in
      omega (arith, size, same)
  height_short (negsuc n) few h = let size = body_short (suc n) few h in omega (arith, size)

-- `w` is one word of at most 64 bytes that begins with no letter and spells the cell `c`
pub record ReadsAs (d : ℕ) (nodata : Word) (c : Option ℤ) (w : Word) : Type 0 where
  pub clean : IsClean w
  pub begins : begins_with_letter w ≡ false
  pub short : is_long w ≡ false
  pub is : is_cell d nodata w ≡ true
  pub value : spelled_cell d nodata w ≡ c

pub size_of_height : (z : ℤ) → IsHeight z → unsigned_abs z ≤ 10 ^ 15
size_of_height (pos n) h = grind arith
size_of_height m h = grind arith

height_test : (z : ℤ) → IsHeight z → is_height z ≡ true
height_test z h = and_from _ (int_le z highest) (grind (arith, h.0)) (grind arith)

other_value : (h : ℤ) (o : Option ℤ) → o ≢ Some h → same_value (Some h) o ≡ false
other_value h None n = refl
other_value h (Some x) n = false_from_ne_true _ (λ t. n (ap Some (sym ((Decides-int_eq h x).0 t))))

pub reads_cell : (d : ℕ) (nodata : Word) (c : Option ℤ) → d ≤ 6 → IsHeaderWord nodata → IfSome c IsHeight →
    IfSome c (λ h. scaled_value d nodata ≢ Some h) → ReadsAs d nodata c (cell_text (height_text d) nodata c)
reads_cell d nodata None few h height apart =
    let own : is_nodata d nodata nodata ≡ true =
    or_left (bytes_eq nodata nodata) (same_value (scaled_value d nodata) (scaled_value d nodata))
    ((bytes_eq-Decides nodata nodata).1 refl) in
    record {
      clean = decimal_clean nodata h.1;
      begins = decimal_begins nodata h.1;
      short = is_short nodata h.0;
      is = or_left (is_nodata d nodata nodata) (option_map_or is_height (scaled_value d nodata) false) own;
      value = cond-true (is_nodata d nodata nodata) None (scaled_value d nodata) own;
    }
reads_cell d nodata (Some z) few h height apart =
    let size = size_of_height z height in
    let value = height_value d z size in
    let not_nodata : is_nodata d nodata (height_text d z) ≡ false =
    nodata_by_value d nodata (height_text d z) z value ∙ other_value z (scaled_value d nodata) apart in
    let decimal_text = decimal_from_value d (height_text d z) z value in
    record {
      clean = decimal_clean (height_text d z) decimal_text;
      begins = decimal_begins (height_text d z) decimal_text;
      short = is_short (height_text d z) (let l = height_short d z few size in omega (arith, l));
      is =
          or_right (is_nodata d nodata (height_text d z))
          (option_map_or is_height (scaled_value d (height_text d z)) false)
          (ap (λ o. option_map_or is_height o false) value ∙ height_test z height);
      value =
          cond-false (is_nodata d nodata (height_text d z)) None (scaled_value d (height_text d z)) not_nodata ∙ value;
    }

-- if the text of each of `cells`, the grid's last cells, reads as that cell, these texts have no
-- fault as heights after a header without missing slots and `place` other heights
pub no_heights_fault : {d : ℕ} (header : List Word) {nodata : Word} (place : ℕ) (cells : List (Option ℤ)) →
    missing_fault header ≡ None → nodata_for header ≡ nodata → place + length cells ≡ cells_wanted header →
    All (λ c. ReadsAs d nodata c (cell_text (height_text d) nodata c)) cells →
    heights_fault d header place (map (cell_text (height_text d) nodata) cells) ≡ None
no_heights_fault header place [] whole same size reads = refl
no_heights_fault {d} header {nodata} place (c ∷ cells) whole same size reads =
    let w = cell_text (height_text d) nodata c in
    let here = All-head (λ c. ReadsAs d nodata c (cell_text (height_text d) nodata c)) c cells reads in
    let rest = All-tail (λ c. ReadsAs d nodata c (cell_text (height_text d) nodata c)) c cells reads in
    let none =
    height_fault-none d header w (ltb-false 64 _ here.short) whole (omega arith)
    (ap (λ n. is_cell d n w) same ∙ here.is) in
    ap (λ o. option_or o (heights_fault d header (place + 1) (map (cell_text (height_text d) nodata) cells))) none ∙
    no_heights_fault header (place + 1) cells whole same (omega (arith, size)) rest

pub cells_again : {d : ℕ} {nodata : Word} (cells : List (Option ℤ)) →
    All (λ c. ReadsAs d nodata c (cell_text (height_text d) nodata c)) cells →
    map (spelled_cell d nodata) (map (cell_text (height_text d) nodata) cells) ≡ cells
cells_again [] reads = refl
cells_again {d} {nodata} (c ∷ cells) reads =
    rw (All-head (λ c. ReadsAs d nodata c (cell_text (height_text d) nodata c)) c cells reads).value (rw
    (cells_again cells (All-tail (λ c. ReadsAs d nodata c (cell_text (height_text d) nodata c)) c cells reads)) refl)
