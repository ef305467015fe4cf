-- A row's text is the texts of its cells, a space after each but the last, and a line feed. The
-- text of n + 1 rows is the text of the first n rows and then that of the last.
use Rattle.std.proofs.Common.{◌≡◌, ℕ, zero, suc, ◌+◌, ◌-◌, ◌*◌, ◌/◌, ◌<◌, ◌≤◌, List, [], ◌∷◌, ◌++◌, length, take, drop, get_or, sym, ap, refl, ◌∙◌, arith, zero-add, zero-mul}
use Rattle.std.proofs.Math.Nat.{mul-div_cancel_left}
use Rattle.std.specs.List.{flat_map}
use Rattle.std.proofs.lemmas.List.{append_assoc, append-nil, take_more, drop_more, drop_all, drop-drop, drop-take, take-append-drop, take-take}
use Rattle.std.proofs.lemmas.Grind.{flat_map-append}
use Rattle.ascii_grid.specs.Text.{row_text, rows_text}

-- the texts of cells, each with a space after it
abbrev pub spaced : {X : Type 0} → (X → List ℕ) → List X → List ℕ
spaced f cells = flat_map (λ c. f c ++ 32 ∷ []) cells

pub row_split : {X : Type 0} (f : X → List ℕ) (cells : List X) (i : ℕ) → i < length cells →
    row_text f cells ≡ spaced f (take i cells) ++ row_text f (drop i cells)
row_split f [] i h = absurd (omega arith)
row_split f (c ∷ cells) zero h = refl
row_split f (c ∷ []) (suc i) h = absurd (omega arith)
row_split f (c ∷ d ∷ cells) (suc i) h =
    regroup _ _ _ ∙ ap ((f c ++ 32 ∷ []) ++◌) (row_split f (d ∷ cells) i (omega arith)) ∙
    sym (append_assoc _ _ (row_text f (drop i (d ∷ cells)))) where
      regroup : (a b c : List ℕ) → (a ++ 32 ∷ b) ++ c ≡ (a ++ 32 ∷ []) ++ (b ++ c)
      regroup a b c = simp append_assoc

module _ {X : Type 0} (f : X → List ℕ) (pieces : List X) (x : X) (i : ℕ) where
  pub pieces_more : i < length pieces → x ≡ get_or pieces i x →
      flat_map f (take (i + 1) pieces) ≡ flat_map f (take i pieces) ++ f x
  pieces_more h e = rw (take_more pieces i x h, ← e, flat_map-append, append-nil)

  pub pieces_split : i < length pieces → x ≡ get_or pieces i x →
      flat_map f pieces ≡ (flat_map f (take i pieces) ++ f x) ++ flat_map f (drop (i + 1) pieces)
  pieces_split h e =
      ap (flat_map f) (sym (take-append-drop _ pieces)) ∙ flat_map-append f _ _ ∙
      ap (λ z. z ++ flat_map f (drop (i + 1) pieces)) (pieces_more h e)

module _ {X : Type 0} (f : X → List ℕ) (cells : List X) (c : X) (i : ℕ) where
  pub spaced_more : i < length cells → c ≡ get_or cells i c →
      spaced f (take (i + 1) cells) ≡ spaced f (take i cells) ++ (f c ++ 32 ∷ [])
  spaced_more h e = pieces_more (λ d. f d ++ 32 ∷ []) cells c i h e

  -- a row's text is its cells before the last, each with a space, then the last and a line feed
  pub row_last : i + 1 ≡ length cells → c ≡ get_or cells i c →
      row_text f cells ≡ spaced f (take i cells) ++ (f c ++ 10 ∷ [])
  row_last h e =
      let last : drop i cells ≡ c ∷ [] =
      drop_more cells i c (omega (arith, h)) ∙ rw (← e, drop_all (i + 1) cells (omega (arith, h))) in
      row_split f cells i (omega (arith, h)) ∙ ap (λ (z : List X). spaced f (take i cells) ++ row_text f z) last

pub rows_text-add : {X : Type 0} (f : X → List ℕ) (cols m n : ℕ) (cells : List X) →
    rows_text f cols (m + n) cells ≡ rows_text f cols m cells ++ rows_text f cols n (drop (m * cols) cells)
rows_text-add f cols zero n cells = rw (zero-add, zero-mul)
rows_text-add {X} f cols (suc m) n cells =
    rw (let e : suc m + n ≡ suc (m + n) = omega arith in e)
    (ap (row_text f (take cols cells) ++◌) (rows_text-add f cols m n _) ∙
    sym (append_assoc _ _ (rows_text f cols n (drop (m * cols) (drop cols cells)))) ∙ ap
    (λ z. (row_text f (take cols cells) ++ rows_text f cols m (drop cols cells)) ++ rows_text f cols n z)
    (drop-drop _ cols cells ∙ ap (λ k. drop k cells) ((omega arith))))

module _ {X : Type 0} (f : X → List ℕ) (cols : ℕ) where
  pub rows_more : (n : ℕ) (cells : List X) →
      rows_text f cols (n + 1) cells ≡ rows_text f cols n cells ++ row_text f (take cols (drop (n * cols) cells))
  rows_more n cells = rows_text-add f cols n 1 cells ∙ rw append-nil refl

  pub rows_split : (rows n : ℕ) (cells : List X) → n < rows → rows_text f cols rows cells ≡
      (rows_text f cols n cells ++ row_text f (take cols (drop (n * cols) cells))) ++
      rows_text f cols (rows - (n + 1)) (drop ((n + 1) * cols) cells)
  rows_split rows n cells h =
      ap (λ k. rows_text f cols k cells) ((omega arith)) ∙ rows_text-add f cols _ _ cells ∙
      ap (λ z. z ++ rows_text f cols (rows - (n + 1)) (drop ((n + 1) * cols) cells)) (rows_more n cells)

pub whole_rows : (n cols rows : ℕ) → n ≡ cols * rows → 1 ≤ cols → n / cols ≡ rows
whole_rows n cols rows size some = rw size (mul-div_cancel_left rows (omega arith))

pub rows_take : {X : Type 0} (f : X → List ℕ) (cols n : ℕ) (cells : List X) →
    rows_text f cols n (take (n * cols) cells) ≡ rows_text f cols n cells
rows_take f cols zero cells = refl
rows_take {X} f cols (suc n) cells =
    let back = ap (λ k. drop cols (take k cells)) (omega arith) ∙ drop-take cols _ cells in
    ap (λ z. row_text f z ++ rows_text f cols n (drop cols (take (suc n * cols) cells)))
    (take-take cols _ cells (omega arith)) ∙ ap (λ z. row_text f (take cols cells) ++ rows_text f cols n z) back ∙
    ap (row_text f (take cols cells) ++◌) (rows_take f cols n _)
