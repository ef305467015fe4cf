-- The fault at a text's end, by the word that the builder expects. At a scale of at most 6, a text
-- without a fault spells a lawful grid: one with all its parts within limits, no height equal to
-- NODATA.
-- Among the heights, the builder's slots and cells make the grid that its words spell.
use Rattle.std.proofs.Common.{◌≡◌, ◌≢◌, ℕ, ◌+◌, ◌<◌, ◌≤◌, Bool, true, false, not, cond, nat_lt, List, [], ◌∷◌, ◌++◌, length, map, Option, None, Some, ℤ, arith, lit≤, refl, ap, sym, ◌∙◌, subst, inl, inr}
use Rattle.std.specs.Prelude.{is_some, All, IfSome, unwrap_or, option_map, int_le, codes}
use Rattle.std.specs.Option.{option_map_or}
use Rattle.std.specs.Ordering.{int_eq}
use Rattle.std.proofs.lemmas.Bool.Decides.{Decides-int_eq}
use Rattle.std.proofs.lemmas.Bool.{cases_Bool, cond-false, and_parts, or_parts, lt-ltb, le-ltb, ltb-true, ltb-false, leb-true}
use Rattle.std.proofs.lemmas.List.{length-map}
use Rattle.std.proofs.lemmas.List.Elements.{All-cons}
use Rattle.std.proofs.Math.Nat.{one-le-mul}
use Rattle.terrain.specs.Words.{Word}
use Rattle.terrain.specs.Decimal.{number_of, scaled_value, is_decimal, is_above_zero, is_size}
use Rattle.terrain.specs.Raster.{lowest, highest, IsHeight, is_height, IsHeaderWord, IsLawful}
use Rattle.ascii_grid.specs.Header.{fills, header_words, height_words, pairs, key_left, value_for, word_for, nodata_for, is_value, value_fault, header_fault, missing_fault, no_value_fault}
use Rattle.ascii_grid.specs.GridText.{same_value, is_nodata, is_cell, spelled_cell, cells_wanted, height_fault, heights_fault, words_fault, end_fault, grid_of}
use Rattle.ascii_grid.specs.Slots.{anchor_at, is_given, is_centre, IsWhole, raster_of}
use Rattle.ascii_grid.specs.Reading.{flat, slots_of, HasReadHeights, HasAdded, IsHeaderFault, IsEndFault}
use Rattle.ascii_grid.specs.declared.fault.Key.{Key}
use Rattle.ascii_grid.specs.declared.fault.Key.TheVariants.{Ncols, Nrows, Xll, Yll, Cellsize, Nodata}
use Rattle.ascii_grid.specs.declared.fault.GridFault.{GridFault}
use Rattle.ascii_grid.specs.declared.fault.GridFault.TheVariants.{MissingKey, TooFew, TooMany, TooLong, NoValue}
use Rattle.terrain.specs.declared.grid.Anchor.{Anchor}
use Rattle.ascii_grid.specs.declared.builder.GridBuilder.{GridBuilder}
use Rattle.ascii_grid.specs.declared.builder.Expected.TheVariants.{AtKey, AtValue, AtHeights}
use Rattle.ascii_grid.proofs.Keys.{slot_filled}
use Rattle.ascii_grid.proofs.Judging.{Pairs, or_none, then_none, else_none, pairs-flat, words-flat, words-whole, key_left-flat, is_given-slots_of, missing_of-slots_of, number-of_pair}
use Rattle.ascii_grid.proofs.AddedWords.{at_key, at_value, at_heights, place_of, words-after, paired, judged_none, reported_further}

-- ---- a header whose words have no fault

abbrev IsShortValue : Key → Word → Type 0
IsShortValue slot w = (is_value slot w ≡ true) × (length w ≤ 64)

value_ok : (k v : Word) (slot : Key) → fills slot k ≡ true → value_fault k v ≡ None → IsShortValue slot v
value_ok k v slot h e =
    let short = then_none _ TooLong _ e in
    let ok = else_none _ None _ (rw (slot_filled k slot h) at short.1) in
    (ok.0, ltb-false 64 _ short.0)

valid : (before header : List Word) (slot : Key) → header_fault before header ≡ None →
    IfSome (value_for slot header) (IsShortValue slot)
valid before (k ∷ v ∷ rest) slot none =
    let values = or_none _ _ (or_none _ _ none).1 in
    elim (cases_Bool (fills slot k)) [
      | inl here ↦ rw here (value_ok k v slot here values.0)
      | inr apart ↦ rw apart (valid (k ∷ before) rest slot values.1)
    ]
valid before m slot none = tt

given_slot : (a : Bool) (s : Key) (o : Option Key) → option_map MissingKey (cond (not a) (Some s) o) ≡ None →
    (a ≡ true) × (option_map MissingKey o ≡ None)
given_slot true s o h = (refl, h)
given_slot false s o h = cc

whole_slots : (ps : Pairs) → missing_fault (flat ps) ≡ None → IsWhole (slots_of ps)
whole_slots ps none =
    let a = given_slot _ Ncols _ (missing_of-slots_of ps ∙ none) in
    let b = given_slot _ Nrows _ a.1 in
    let c = given_slot _ Xll _ b.1 in
    let d = given_slot _ Yll _ c.1 in
    record { cols = a.0; rows = b.0; xll = c.0; yll = d.0; cellsize = (given_slot _ Cellsize _ d.1).0 }

given_slots : (header : List Word) → missing_fault header ≡ None → IsWhole (slots_of (pairs header))
given_slots header e = whole_slots (pairs header) (rw pairs-flat e)

value_of : (header : List Word) (slot : Key) → header_fault [] header ≡ None →
    is_given (slots_of (pairs header)) slot ≡ true → IsShortValue slot (word_for slot header)
value_of header slot none some = go _ (sym (is_given-slots_of slot _) ∙ some) (valid _ header slot none)
  where
    go : (o : Option (Word × Word)) → is_some o ≡ true →
        IfSome (option_map (λ (p : Word × Word). p.1) o) (IsShortValue slot) →
        IsShortValue slot (unwrap_or (option_map (λ (p : Word × Word). p.1) o) [])
    go None some ok = cc
    go (Some p) some ok = ok

size_between : (w : Word) → is_size w ≡ true → (1 ≤ number_of w) × (number_of w ≤ 4096)
size_between w h =
    let parts = and_parts _ _ h in
    (leb-true 1 _ (and_parts _ _ parts.0).1, leb-true _ 4096 parts.1)

-- ---- cells without a fault

height_from : (z : ℤ) → is_height z ≡ true → IsHeight z
height_from z h =
    let parts = and_parts (int_le lowest z) (int_le z highest) h in
    (grind arith, grind arith)

module _ (d : ℕ) (nodata w : Word) where
  some_ok : (o : Option ℤ) → scaled_value d w ≡ o → is_nodata d nodata w ≡ false → is_cell d nodata w ≡ true →
      IfSome (spelled_cell d nodata w) IsHeight × IfSome (spelled_cell d nodata w) (λ h. scaled_value d nodata ≢ Some h)
  some_ok None e n h = let clash : is_cell d nodata w ≡ false = rw (n, e) refl in
      absurd (cc)
  some_ok (Some z) e n h =
      let high : is_cell d nodata w ≡ is_height z = rw (n, e) in
      let apart = (or_parts _ (same_value (scaled_value d w) (scaled_value d nodata)) n).1 in
      let own = (Decides-int_eq z z).1 refl in
      let cell : spelled_cell d nodata w ≡ Some z = rw (n, e) in
      rw cell (
        height_from z (sym high ∙ h),
        λ k. let same : same_value (scaled_value d w) (scaled_value d nodata) ≡ int_eq z z = rw (e, k) refl in cc,
      )

  -- a word that spells a cell spells NODATA or a height other than the NODATA word's value
  cell_ok : is_cell d nodata w ≡ true →
      IfSome (spelled_cell d nodata w) IsHeight × IfSome (spelled_cell d nodata w) (λ h. scaled_value d nodata ≢ Some h)
  cell_ok h =
      elim (cases_Bool (is_nodata d nodata w)) [
        | inl none ↦ let cell : spelled_cell d nodata w ≡ None = rw none in rw cell (tt, tt)
        | inr some ↦ some_ok _ refl some h
      ]

height_ok : (d : ℕ) (header : List Word) (place : ℕ) (w : Word) → height_fault d header place w ≡ None →
    (place < cells_wanted header) × (is_cell d (nodata_for header) w ≡ true)
height_ok d header place w h =
    let room = else_none _ _ TooMany (or_none _ _ (then_none _ TooLong _ h).1).1 in
    (ltb-true place _ room.0, (else_none _ None _ room.1).0)

cells_ok : (d : ℕ) (header : List Word) (place : ℕ) (hs : List Word) → place ≤ cells_wanted header →
    heights_fault d header place hs ≡ None → (place + length hs ≤ cells_wanted header) ×
    (All (λ c. IfSome c IsHeight) (map (spelled_cell d (nodata_for header)) hs) × All
    (λ c. IfSome c (λ h. scaled_value d (nodata_for header) ≢ Some h)) (map (spelled_cell d (nodata_for header)) hs))
cells_ok d header place [] h none =
    (omega arith, (λ k x below. absurd (omega arith), λ k x below. absurd (omega arith)))
cells_ok d header place (w ∷ hs) h none =
    let parts = or_none _ _ none in
    let nodata = nodata_for header in
    let first = height_ok d header place w parts.0 in
    let cell = cell_ok d nodata w first.1 in
    let rest = cells_ok d header (place + 1) hs (omega arith) parts.1 in (
      omega arith,
      (
        All-cons (λ c. IfSome c IsHeight) _ (map _ hs) cell.0 rest.1.0,
        All-cons (λ c. IfSome c (λ z. scaled_value d nodata ≢ Some z)) _ (map _ hs) cell.1 rest.1.1,
      ),
    )

-- ---- the fault at the end

module _ (j : GridBuilder) (ws : List Word) where
  pub end-value : (slot : Key) (centre : Bool) → HasAdded j ws → j.expected ≡ AtValue slot centre →
      end_fault ws ≡ Some (NoValue slot)
  end-value slot centre h e =
      let there = at_value j ws h slot centre e in
      let k = there.0 in
      let letter = there.2.letter in
      let one : header_words (k ∷ []) ≡ k ∷ [] = rw letter in
      let header : header_words ws ≡ flat h.pairs ++ k ∷ [] =
      ap header_words there.1 ∙ (words-flat h.pairs (k ∷ []) h.header.keys).0 ∙ ap (flat h.pairs ++◌) one in
      let left : key_left (flat h.pairs ++ k ∷ []) ≡ Some k = key_left-flat h.pairs (k ∷ []) in
      rw (header, left, there.2.key_is) refl

  pub end-key : (f : GridFault) (h : HasAdded j ws) → j.expected ≡ AtKey → IsHeaderFault h.pairs f → IsEndFault ws f
  end-key f h e =
      let same = at_key j ws h e in
      let are = words-whole h.pairs h.header.keys in
      reported_further f (λ whole. rw same (record {
        faultless = rw are.0 h.header.faultless;
        paired = rw are.0 (paired h.pairs);
        given = rw are.0 whole;
        first = rw are.1 refl;
      })) (λ g missing. ap end_fault same ∙ rw (are.0, paired h.pairs, missing) refl)

-- ---- too few heights at the end, and the grid

some_wanted : (header : List Word) → header_fault [] header ≡ None → missing_fault header ≡ None →
    1 ≤ cells_wanted header
some_wanted header none missing =
    let given = given_slots header missing in
    one-le-mul (size_between (word_for Ncols header) (value_of header Ncols none given.cols).0).0
    (size_between (word_for Nrows header) (value_of header Nrows none given.rows).0).0

-- where a key or the first height comes next and no required slot is missing, the fault at the end
-- is `TooFew 0`
pub end-none : {j j' : GridBuilder} (ws : List Word) (h : HasAdded j ws) → j.expected ≡ AtKey →
    HasReadHeights j' h.pairs [] → end_fault ws ≡ Some (TooFew 0)
end-none {j} ws h e heights =
    let are = words-whole h.pairs h.header.keys in
    let some : nat_lt 0 (cells_wanted (flat h.pairs)) ≡ true =
    lt-ltb 0 (cells_wanted (flat h.pairs))
    (let k = some_wanted (flat h.pairs) h.header.faultless heights.whole in omega (arith, k)) in
    ap end_fault (at_key j ws h e) ∙ rw (are.0, paired h.pairs, heights.whole, are.1, some) refl

pub end-heights : {j : GridBuilder} {ws : List Word} (h : HasAdded j ws) → j.expected ≡ AtHeights →
    end_fault ws ≡ cond (nat_lt (length j.cells.items) j.wanted) (Some (TooFew (length j.cells.items))) None
end-heights {j} {ws} h e =
    let there = at_heights j ws h e in
    let are = words-after h.header there.0 in
    ap end_fault h.words ∙ rw (are.0, paired, there.1.whole, are.1, place_of j _ _ there.1, there.1.wanted)

centre_of : (o : Option (Word × Word)) →
    option_map_or (λ (a : Anchor). a.centre) (option_map (λ (p : Word × Word). anchor_at (is_centre p.0) p.1) o) false ≡
    option_map_or (λ (p : Word × Word). is_centre p.0) o false
centre_of None = refl
centre_of m = refl

word_of : (o : Option (Word × Word)) →
    option_map_or (λ (a : Anchor). a.word) (option_map (λ (p : Word × Word). anchor_at (is_centre p.0) p.1) o) [] ≡
    unwrap_or (option_map (λ (p : Word × Word). p.1) o) []
word_of None = refl
word_of m = refl

-- if the words `ws` are the pairs `ps` and then the heights `hs`, the slots of `ps` and the cells
-- of `hs` make the grid that `ws` spell
raster_of-grid_of : {d : ℕ} (ps : Pairs) (ws hs : List Word) → header_words ws ≡ flat ps → height_words ws ≡ hs →
    raster_of (slots_of ps) d (nodata_for (flat ps)) (map (spelled_cell d (nodata_for (flat ps))) hs) ≡ grid_of d ws
raster_of-grid_of ps ws hs header heights =
    rw (header, heights, pairs-flat, number-of_pair, number-of_pair, centre_of, word_of, centre_of, word_of)

nodata_ok : (header : List Word) → header_fault [] header ≡ None → IsHeaderWord (nodata_for header)
nodata_ok header none = go _ (valid _ header Nodata none)
  where
    go : (o : Option Word) → IfSome o (IsShortValue Nodata) → IsHeaderWord (unwrap_or o (codes "-9999"))
    go None ok = (lit≤ tt, refl)
    go (Some w) ok = (ok.1, ok.0)

pub lawful_words : {d : ℕ} (ws : List Word) → d ≤ 6 → words_fault d ws ≡ None → end_fault ws ≡ None →
    IsLawful (grid_of d ws)
lawful_words {d} ws few faultless end =
    let header = header_words ws in
    let heights = height_words ws in
    let first = or_none (header_fault [] header) _ faultless in
    let whole = or_none (missing_fault header) _ (or_none (no_value_fault header) _ end).1 in
    let enough =
    ltb-false (length heights) (cells_wanted header) (then_none _ (TooFew (length heights)) None whole.1).0 in
    let given = given_slots header whole.0 in
    let cols = size_between (word_for Ncols header) (value_of header Ncols first.0 given.cols).0 in
    let rows = size_between (word_for Nrows header) (value_of header Nrows first.0 given.rows).0 in
    let xll = value_of header Xll first.0 given.xll in
    let yll = value_of header Yll first.0 given.yll in
    let cellsize = value_of header Cellsize first.0 given.cellsize in
    let above =
    and_parts (is_decimal (word_for Cellsize header)) (is_above_zero (word_for Cellsize header)) cellsize.0 in
    let cells = cells_ok d header 0 heights (omega arith) first.1 in
    let size : length heights ≡ cells_wanted header = omega (arith, cells.0) in
    record {
      terrain = record {
        some_col = cols.0;
        some_row = rows.0;
        few_cols = cols.1;
        few_rows = rows.1;
        size = length-map heights (spelled_cell d (nodata_for header)) ∙ size;
        heights = cells.1.0;
        sinks = λ k d below. absurd (omega (arith, below));
      };
      scale = few;
      xll = (xll.1, xll.0);
      yll = (yll.1, yll.0);
      cellsize = (cellsize.1, above.0);
      above_zero = above.1;
      nodata = nodata_ok header first.0;
      apart = cells.1.1;
    }

module _ (j : GridBuilder) (ws : List Word) where
  pub whole-grid : HasAdded j ws → j.expected ≡ AtHeights → IsWhole j.header
  whole-grid h e = subst IsWhole (sym h.header.slots) (whole_slots h.pairs (at_heights j ws h e).1.whole)

  pub spelled-grid : HasAdded j ws → j.expected ≡ AtHeights →
      raster_of j.header j.scale j.nodata j.cells.items ≡ grid_of j.scale ws
  spelled-grid h e =
      let there = at_heights j ws h e in
      let are = words-after h.header there.0 in
      rw h.header.slots (rw there.1.cells
      (ap (λ n. raster_of (slots_of h.pairs) j.scale n (map (spelled_cell j.scale n) h.rest)) there.1.nodata ∙
      raster_of-grid_of _ ws _ (ap header_words h.words ∙ are.0) (ap height_words h.words ∙ are.1)))

  pub lawful-grid : HasAdded j ws → j.expected ≡ AtHeights → j.scale ≤ 6 → j.wanted ≤ length j.cells.items →
      IsLawful (raster_of j.header j.scale j.nodata j.cells.items)
  lawful-grid h e scale enough =
      subst IsLawful (sym (spelled-grid h e)) (lawful_words ws scale (judged_none j ws h)
      (end-heights h e ∙ cond-false _ _ _ (le-ltb (length j.cells.items) j.wanted enough)))
