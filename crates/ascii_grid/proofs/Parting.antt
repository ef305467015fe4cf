-- One more byte ends the unfinished word or is added to it. The words of written rows are the texts
-- of their cells, if each text is one word.
use Rattle.std.proofs.Common.{◌≡◌, ℕ, ◌+◌, ◌-◌, ◌≤◌, Bool, true, false, not, cond, List, [], ◌∷◌, ◌++◌, length, take, arith, refl, ap, sym, ◌∙◌, inl, inr, zero, suc, ◌*◌, ◌<◌, drop, map}
use Rattle.std.specs.Prelude.{filter}
use Rattle.std.specs.List.{slice_split, onto_first, before_last, suffix_len, All, list_any, filter, join_with_byte}
use Rattle.std.proofs.lemmas.Bool.{cases_Bool, cond-true, or_parts}
use Rattle.std.proofs.lemmas.List.{append-nil, append_assoc, reverse-append, length-append, take_at, take-append-le, map-append, take-append-drop, length-take-le, length-drop}
use Rattle.std.proofs.lemmas.List.Folds.{list_any-append}
use Rattle.std.proofs.lemmas.List.Elements.{filter-append, All-head, All-tail, All-take, All-drop}
use Rattle.std.proofs.lemmas.List.Splits.{slice_split-cons_yes, length-slice_split}
use Rattle.terrain.specs.Words.{Word, is_word, is_separator, words, ended_words}
use Rattle.ascii_grid.specs.Reading.{IsParted}
use Rattle.ascii_grid.specs.Text.{rows_text}

-- ---- the words before and after a separator

onto_first-append : (x : ℕ) (parts rest : List Word) → 0 < length parts →
    onto_first x (parts ++ rest) ≡ onto_first x parts ++ rest
onto_first-append x [] rest h = absurd (omega arith)
onto_first-append x parts rest h = refl

split-at : (xs ys : List ℕ) (b : ℕ) → is_separator b ≡ true →
    slice_split is_separator (xs ++ b ∷ ys) ≡ slice_split is_separator xs ++ slice_split is_separator ys
split-at [] ys b h = slice_split-cons_yes is_separator b ys h
split-at (x ∷ xs) ys b h =
    let rest = split-at xs ys b h in
    elim (cases_Bool (is_separator x)) [
      | inl here ↦ rw here (rw rest refl)
      | inr apart ↦ rw apart (rw rest (onto_first-append x _ _ (omega (arith, length-slice_split is_separator xs))))
    ]

words-at : (xs ys : List ℕ) (b : ℕ) → is_separator b ≡ true → words (xs ++ b ∷ ys) ≡ words xs ++ words ys
words-at xs ys b h = rw split-at (filter-append is_word (slice_split is_separator xs) (slice_split is_separator ys))

split-plain : (w : Word) → list_any is_separator w ≡ false → slice_split is_separator w ≡ w ∷ []
split-plain [] h = refl
split-plain (x ∷ w) h =
    let parts = or_parts _ (list_any is_separator w) h in
    rw parts.0 (rw (split-plain w parts.1) refl)

pub words-plain : (w : Word) → list_any is_separator w ≡ false → words w ≡ filter is_word (w ∷ [])
words-plain w h = rw split-plain refl

-- ---- a separator ends a word

suffix_len-push : (p : ℕ → Bool) (xs : List ℕ) (b : ℕ) →
    suffix_len p (xs ++ b ∷ []) ≡ cond (p b) (1 + suffix_len p xs) 0
suffix_len-push p xs b = rw reverse-append refl

module _ (p : ℕ → Bool) (xs : List ℕ) (b : ℕ) where
  before_last-yes : p b ≡ true → before_last p (xs ++ b ∷ []) ≡ xs
  before_last-yes h =
      let none : suffix_len (λ x. not (p x)) (xs ++ b ∷ []) ≡ 0 = suffix_len-push (λ x. not (p x)) xs b ∙ rw h in
      let at : length (xs ++ b ∷ []) - suffix_len (λ x. not (p x)) (xs ++ b ∷ []) - 1 ≡ length xs =
      omega (arith, none, length-append xs (b ∷ [])) in
      ap (λ n. take n (xs ++ b ∷ [])) at ∙ take_at xs _ _ refl

  before_last-no : p b ≡ false → before_last p (xs ++ b ∷ []) ≡ before_last p xs
  before_last-no h =
      let more : suffix_len (λ x. not (p x)) (xs ++ b ∷ []) ≡ 1 + suffix_len (λ x. not (p x)) xs =
      suffix_len-push (λ x. not (p x)) xs b ∙ rw h in
      let at : length (xs ++ b ∷ []) - suffix_len (λ x. not (p x)) (xs ++ b ∷ []) - 1 ≡
      length xs - suffix_len (λ x. not (p x)) xs - 1 = omega (arith, more, length-append xs (b ∷ [])) in
      let within : length xs - suffix_len (λ x. not (p x)) xs - 1 ≤ length xs = omega arith in
      ap (λ n. take n (xs ++ b ∷ [])) at ∙ take-append-le _ xs _ within

-- ---- one more byte, and the words of written rows

module _ (text : List ℕ) where
  pub ended_words-separator : (b : ℕ) → is_separator b ≡ true → ended_words (text ++ b ∷ []) ≡ words text
  ended_words-separator b e = ap words (before_last-yes is_separator text b e)

  pub ended_words-byte : (b : ℕ) → is_separator b ≡ false → ended_words (text ++ b ∷ []) ≡ ended_words text
  ended_words-byte b e = ap words (before_last-no is_separator text b e)

  -- the words of a text are its ended words, and the bytes `w` after the last separator if `w` is a
  -- word
  pub words-parted : (w : Word) → IsParted text w → words text ≡ ended_words text ++ filter is_word (w ∷ [])
  words-parted w h =
      ap words (sym (append-nil text)) ∙ h.all [] ∙ rw (ap words (append-nil w) ∙ words-plain w h.plain) refl

pub IsParted-none : IsParted [] []
IsParted-none = record { plain = refl; all = λ more. refl }

pub IsParted-byte : (text : List ℕ) (w : Word) (b : ℕ) → IsParted text w → is_separator b ≡ false →
    IsParted (text ++ b ∷ []) (w ++ b ∷ [])
IsParted-byte text w b h e = record {
  plain = list_any-append is_separator w (b ∷ []) ∙ rw (h.plain, e);
  all = λ more. ap words (append_assoc text _ more) ∙ h.all _ ∙ rw (ended_words-byte, append_assoc);
}

pub IsParted-separator : (text : List ℕ) (b : ℕ) → is_separator b ≡ true → IsParted (text ++ b ∷ []) []
IsParted-separator text b e = record {
  plain = refl;
  all =
      λ more. ap words (append_assoc text _ more) ∙ words-at text more b e ∙ rw (← ended_words-separator text b e) refl;
}

pub record IsClean (w : List ℕ) : Type 0 where
  pub some : is_word w ≡ true
  pub plain : list_any is_separator w ≡ false

pub words-word : {w : List ℕ} (rest : List ℕ) (b : ℕ) → IsClean w → is_separator b ≡ true →
    words (w ++ b ∷ rest) ≡ w ∷ words rest
words-word {w} rest b h s = words-at w rest b s ∙ rw (words-plain w h.plain ∙ cond-true _ _ _ h.some) refl

pub words-row : {X : Type 0} (f : X → List ℕ) (cells : List X) (rest : List ℕ) → 0 < length cells →
    All (λ c. IsClean (f c)) cells →
    words ((join_with_byte 32 (map f cells) ++ 10 ∷ []) ++ rest) ≡ map f cells ++ words rest
words-row f [] rest h clean = absurd (omega arith)
words-row f (c ∷ []) rest h clean =
    ap words (append_assoc (f c) (10 ∷ []) rest) ∙ words-word rest 10 (All-head (λ c. IsClean (f c)) c [] clean) refl
words-row f (c ∷ d ∷ cells) rest h clean =
    ap words (regroup (f c) (join_with_byte 32 (map f (d ∷ cells))) (10 ∷ []) rest) ∙ words-word
    ((join_with_byte 32 (map f (d ∷ cells)) ++ 10 ∷ []) ++ rest) 32 (All-head (λ c. IsClean (f c)) c (d ∷ cells) clean)
    refl ∙ ap (λ ws. f c ∷ ws)
    (words-row f (d ∷ cells) rest (omega arith) (All-tail (λ c. IsClean (f c)) c (d ∷ cells) clean)) where
      regroup : (a b c d : List ℕ) → ((a ++ 32 ∷ b) ++ c) ++ d ≡ a ++ 32 ∷ ((b ++ c) ++ d)
      regroup a b c d = simp append_assoc

pub words-rows : {X : Type 0} (f : X → List ℕ) (cols n : ℕ) (cells : List X) → 0 < cols → length cells ≡ n * cols →
    All (λ c. IsClean (f c)) cells → words (rows_text f cols n cells) ≡ map f cells
words-rows f cols zero [] h size clean = refl
words-rows f cols zero (c ∷ cells) h size clean = absurd (omega arith)
words-rows {X} f cols (suc n) cells h size clean =
    let front : length (take cols cells) ≡ cols = length-take-le cols cells (omega (arith, size)) in
    let back : length (drop cols cells) ≡ n * cols = omega (arith, size, length-drop cols cells) in
    words-row f (take cols cells) (rows_text f cols n (drop cols cells)) (omega (arith, front))
    (All-take (λ c. IsClean (f c)) cols cells clean) ∙ ap (λ z. map f (take cols cells) ++ z)
    (words-rows f cols n (drop cols cells) h back (All-drop (λ c. IsClean (f c)) cols cells clean)) ∙
    sym (map-append f (take cols cells) (drop cols cells)) ∙ ap (λ (z : List X). map f z) (take-append-drop cols cells)
