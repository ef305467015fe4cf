-- The words that a separator ended stay ended words, whatever bytes follow the text. A fault of
-- words, or want of memory for their cells, may still be reported, whatever words follow.
use Rattle.std.proofs.Common.{◌≡◌, ℕ, ◌+◌, ◌<◌, true, false, List, [], ◌∷◌, ◌++◌, length, take, Option, None, Some, arith, refl, ap, sym, ◌∙◌, subst, inl, inr}
use Rattle.std.specs.Prelude.{filter}
use Rattle.std.specs.Option.{option_or}
use Rattle.std.specs.List.{list_any}
use Rattle.std.proofs.lemmas.Bool.{cases_Bool}
use Rattle.std.proofs.lemmas.List.{append-nil, append_assoc, length-append, take-append-le}
use Rattle.terrain.specs.Words.{Word, is_word, words, ended_words}
use Rattle.ascii_grid.specs.Header.{begins_with_letter, is_long, header_words, height_words, header_fault, key_fault, value_fault, key_left, missing_fault}
use Rattle.ascii_grid.specs.GridText.{words_fault, heights_fault, AsksAtHeight}
use Rattle.ascii_grid.specs.Reading.{IsParted}
use Rattle.ascii_grid.specs.declared.fault.GridFault.{GridFault}
use Rattle.ascii_grid.proofs.Judging.{option_or-assoc}
use Rattle.ascii_grid.proofs.Parting.{words-parted, ended_words-separator, ended_words-byte, IsParted-none, IsParted-byte, IsParted-separator}

-- ---- the words of a longer text

parted-more : {text : List ℕ} {w : Word} (more : List ℕ) → IsParted text w →
    (last : Word) × IsParted (text ++ more) last
parted-more {text} {w} [] h = (w, subst (λ t. IsParted t w) (sym (append-nil text)) h)
parted-more {text} {w} (b ∷ more) h = rw (sym (append_assoc text (b ∷ []) more)) (
    elim (cases_Bool _) [
      | inl ends ↦ parted-more more (IsParted-separator text b ends)
      | inr stays ↦
          parted-more more (IsParted-byte text w b h stays)
    ]
    )

pub ended-words : (text : List ℕ) → (others : List Word) × (words text ≡ ended_words text ++ others)
ended-words text =
    let at = parted-more text IsParted-none in
    (filter is_word (at.0 ∷ []), words-parted text _ at.1)

ended-byte : (text : List ℕ) (b : ℕ) →
    (others : List Word) × (ended_words (text ++ b ∷ []) ≡ ended_words text ++ others)
ended-byte text b =
    elim (cases_Bool _) [
      | inl ends ↦ let last = ended-words text in
          (last.0, ended_words-separator text b ends ∙ last.1)
      | inr stays ↦ ([], ended_words-byte text b stays ∙ sym (append-nil _))
    ]

pub ended-more : (front more : List ℕ) →
    (others : List Word) × (ended_words (front ++ more) ≡ ended_words front ++ others)
ended-more front [] = ([], ap ended_words (append-nil front) ∙ sym (append-nil (ended_words front)))
ended-more front (b ∷ more) =
    let first = ended-byte front b in
    let rest = ended-more (front ++ b ∷ []) more in (
      first.0 ++ rest.0,
      ap ended_words (sym (append_assoc front (b ∷ []) more)) ∙ rest.1 ∙ ap (λ z. z ++ rest.0) first.1 ∙
          append_assoc (ended_words front) first.0 rest.0,
    )

-- ---- the fault of more words

or_more : {X : Type 0} (o p q : Option X) (f : X) → option_or o p ≡ Some f → (p ≡ Some f → q ≡ Some f) →
    option_or o q ≡ Some f
or_more None p q f h k = k h
or_more x p q f h k = h

heights_more : (d : ℕ) (header : List Word) (place : ℕ) (hs more : List Word) {f : GridFault} →
    heights_fault d header place hs ≡ Some f → heights_fault d header place (hs ++ more) ≡ Some f
heights_more d header place [] more h = cc
heights_more d header place (w ∷ hs) more {f} h = or_more _ _ _ f h (heights_more d header (place + 1) hs more)

-- the first fault of the words `ws` after `front`, the front of a header with the keys `before`
abbrev after_front : ℕ → List Word → List Word → List Word → Option GridFault
after_front d before front ws =
    option_or (header_fault before (header_words ws)) (heights_fault d (front ++ header_words ws) 0 (height_words ws))

module _ (d : ℕ) (before front : List Word) (k : Word) where
  after_front-pair : (v : Word) (rest : List Word) → begins_with_letter k ≡ true →
      after_front d before front (k ∷ v ∷ rest) ≡ option_or (key_fault before k)
      (option_or (value_fault k v) (after_front d (k ∷ before) (front ++ k ∷ v ∷ []) rest))
  after_front-pair v rest letter =
      let header : header_words (k ∷ v ∷ rest) ≡ k ∷ v ∷ header_words rest = rw letter in
      let heights : height_words (k ∷ v ∷ rest) ≡ height_words rest = rw letter in
      rw header (rw heights (ap
      (λ z. option_or (header_fault before (k ∷ v ∷ header_words rest)) (heights_fault d z 0 (height_words rest)))
      (sym (append_assoc front (k ∷ v ∷ []) (header_words rest))) ∙ option_or-assoc (key_fault before k)
      (option_or (value_fault k v) (header_fault (k ∷ before) (header_words rest))) _ ∙ ap
      (option_or (key_fault before k))
      (option_or-assoc (value_fault k v) (header_fault (k ∷ before) (header_words rest)) _)))

  after_front-height : (rest : List Word) → begins_with_letter k ≡ false →
      after_front d before front (k ∷ rest) ≡ heights_fault d (front ++ []) 0 (k ∷ rest)
  after_front-height [] letter = rw letter
  after_front-height m letter = rw letter

after_front-more : (d : ℕ) (before front ws more : List Word) (f : GridFault) → after_front d before front ws ≡ Some f →
    after_front d before front (ws ++ more) ≡ Some f
after_front-more d before front [] more f h = cc
after_front-more d before front (k ∷ []) [] f h = h
after_front-more d before front (k ∷ []) (v ∷ more) f h =
    elim (cases_Bool _) [
      | inl letter ↦
          let first : after_front d before front (k ∷ []) ≡ option_or (key_fault before k) None = rw letter in
          after_front-pair d before front k v more letter ∙ or_more _ None _ f (sym first ∙ h) (λ e. absurd cc)
      | inr height ↦
          after_front-height d before front k (v ∷ more) height ∙
          heights_more d (front ++ []) 0 (k ∷ []) (v ∷ more) (sym (after_front-height d before front k [] height) ∙ h)
    ]
after_front-more d before front (k ∷ v ∷ rest) more f h =
    elim (cases_Bool _) [
      | inl letter ↦
          after_front-pair d before front k v (rest ++ more) letter ∙ or_more (key_fault before k)
          (option_or (value_fault k v) (after_front d (k ∷ before) (front ++ k ∷ v ∷ []) rest))
          (option_or (value_fault k v) (after_front d (k ∷ before) (front ++ k ∷ v ∷ []) (rest ++ more))) f
          (sym (after_front-pair d before front k v rest letter) ∙ h)
          (λ e. or_more (value_fault k v) _ _ f e (after_front-more d (k ∷ before) (front ++ k ∷ v ∷ []) rest more f))
      | inr height ↦
          after_front-height d before front k (v ∷ rest ++ more) height ∙ heights_more d (front ++ []) 0 (k ∷ v ∷ rest)
          more (sym (after_front-height d before front k (v ∷ rest) height) ∙ h)
    ]

pub words_fault-more : (d : ℕ) (ws more : List Word) {f : GridFault} → words_fault d ws ≡ Some f →
    words_fault d (ws ++ more) ≡ Some f
words_fault-more d ws more {f} h = after_front-more d _ [] ws more f h

-- ---- want of memory

same_header : (ws more : List Word) → 0 < length (height_words ws) →
    (header_words (ws ++ more) ≡ header_words ws) × (height_words (ws ++ more) ≡ height_words ws ++ more)
same_header [] more h = absurd (omega arith)
same_header (k ∷ []) more h =
    elim (cases_Bool (begins_with_letter k)) [
      | inl letter ↦ let none : height_words (k ∷ []) ≡ [] = rw letter refl in
          absurd (let n = ap length none in omega arith)
      | inr height ↦ one k more height
    ]
  where
    one : (k : Word) (more : List Word) → begins_with_letter k ≡ false →
        (header_words (k ∷ more) ≡ header_words (k ∷ [])) × (height_words (k ∷ more) ≡ height_words (k ∷ []) ++ more)
    one k [] b = (refl, sym (append-nil (height_words (k ∷ []))))
    one k (v ∷ more) b = (rw b refl, rw b refl)
same_header (k ∷ v ∷ rest) more h =
    elim (cases_Bool (begins_with_letter k)) [
      | inl letter ↦
          let heights : height_words (k ∷ v ∷ rest) ≡ height_words rest = rw letter refl in
          let next = same_header rest more (let n = ap length heights in omega arith) in
          (rw letter (ap (λ z. k ∷ v ∷ z) next.0), rw letter next.1)
      | inr height ↦ (rw height refl, rw height refl)
    ]

pub asks-more : {ws : List Word} (more : List Word) → AsksAtHeight ws → AsksAtHeight (ws ++ more)
asks-more {ws} more h =
    let same = same_header ws more h.1 in (
      record {
        faultless = ap (header_fault []) same.0 ∙ h.0.faultless;
        paired = ap key_left same.0 ∙ h.0.paired;
        given = ap missing_fault same.0 ∙ h.0.given;
        first =
            ap (λ z. list_any is_long (take 1 z)) same.1 ∙
            ap (list_any is_long) (take-append-le 1 (height_words ws) more (omega (arith, h.1))) ∙ h.0.first;
      },
      omega (arith, h.1, ap length same.1, length-append (height_words ws) more),
    )
