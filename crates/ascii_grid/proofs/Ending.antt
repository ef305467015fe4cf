-- The words that a `Tokenizer` has read after one more byte, a word's end, or a whole word, or the
-- fault that may be reported for them.
use Rattle.std.proofs.Common.{◌≡◌, ℕ, ◌+◌, ◌<◌, ◌≤◌, true, false, List, [], ◌∷◌, ◌++◌, length, take, drop, get_or, Some, ℤ, arith, refl, ap, sym, ◌∙◌, subst}
use Rattle.std.specs.Prelude.{filter}
use Rattle.std.specs.List.{list_any}
use Rattle.std.proofs.lemmas.List.{append-nil, length-append, length-take, take_all, take_more, append_assoc, take-append-le, take-append-drop, nil_from_length}
use Rattle.std.proofs.Math.Seq.{take-add}
use Rattle.terrain.specs.Words.{Word, is_word, is_separator, words, ended_words}
use Rattle.terrain.specs.Decimal.{scaled_value}
use Rattle.ascii_grid.specs.GridText.{AsksAtHeight, words_fault}
use Rattle.ascii_grid.specs.Reading.{HasTaken, HasWords, HasAdded, HasReadHeights, IsBetweenHeights, IsWordFault}
use Rattle.decimals.specs.Plain.{IsPlain}
use Rattle.ascii_grid.specs.declared.fault.GridFault.{GridFault}
use Rattle.ascii_grid.specs.declared.fault.GridFault.TheVariants.{TooLong}
use Rattle.ascii_grid.specs.declared.builder.GridBuilder.{GridBuilder}
use Rattle.ascii_grid.specs.declared.tokenizer.Tokenizer.{Tokenizer}
use Rattle.ascii_grid.proofs.Parting.{words-parted, words-plain, ended_words-separator, ended_words-byte, IsParted-byte, IsParted-separator}
use Rattle.ascii_grid.proofs.Judging.{Pairs, HasBegun-more}
use Rattle.ascii_grid.proofs.AddedWords.{at_heights, judged-heights, long_fault, reported_further}
use Rattle.ascii_grid.proofs.Stays.{ended-more, words_fault-more, asks-more}

-- ---- the bytes kept

module _ (w front : Word) (b : ℕ) where
  pub kept_more : front ≡ take 65 w → length front + 1 ≤ 65 → front ++ b ∷ [] ≡ take 65 (w ++ b ∷ [])
  kept_more e h =
      let short : length w ≤ 64 = omega (arith, h, ap length e, length-take 65 w) in
      rw (e ∙ take_all 65 w (omega arith)) (sym (take_all 65 (w ++ b ∷ []) (omega (arith, length-append w (b ∷ [])))))

  pub kept_full : front ≡ take 65 w → 65 < length front + 1 → front ≡ take 65 (w ++ b ∷ [])
  kept_full e h = e ∙ sym (take-append-le 65 w _ (omega (arith, ap length e, length-take 65 w)))

-- ---- the end of a word

pub filter-word : (w : Word) → 0 < length w → filter is_word (w ∷ []) ≡ w ∷ []
filter-word [] h = absurd (omega arith)
filter-word bs h = refl

module _ (p : Tokenizer) (text : List ℕ) (h : HasWords p text) where
  words-last : 0 < length p.word → words text ≡ ended_words text ++ h.last ∷ []
  words-last some =
      let size = ap length h.front in
      let more : 0 < length h.last = omega (arith, length-take 65 h.last) in
      words-parted text _ h.parted ∙ rw (filter-word _ more) refl

  last-none : p.word ≡ [] → h.last ≡ []
  last-none e = nil_from_length _ (omega (arith, ap length (sym h.front ∙ e), length-take 65 h.last))

module _ (p : Tokenizer) (text : List ℕ) where
  pub ended_none : (h : HasWords p text) → p.word ≡ [] → HasAdded p.builder (words text)
  ended_none h e = rw (words-parted text _ h.parted, last-none, append-nil) h.judged

  pub ended_one : (h : HasWords p text) → 0 < length p.word → length p.word ≤ 64 →
      words text ≡ ended_words text ++ p.word ∷ []
  ended_one h some short =
      let size = ap length h.front in
      words-last p text h some ∙
      ap (λ w. ended_words text ++ w ∷ []) (sym (h.front ∙ take_all 65 h.last (omega (arith, length-take 65 h.last))))

  pub ended_long : HasWords p text → 64 < length p.word → words_fault p.builder.scale (words text) ≡ Some TooLong
  ended_long h far =
      ap (words_fault p.builder.scale) (words-last p text h (omega (arith, far))) ∙
      long_fault h.last h.judged (omega (arith, far, ap length h.front, length-take 65 h.last))

-- ---- one more byte

pub words_after_byte : {p p' : Tokenizer} (text : List ℕ) (b : ℕ) (h : HasWords p text) → is_separator b ≡ false →
    p'.builder ≡ p.builder → p'.word ≡ take 65 (h.last ++ b ∷ []) → HasWords p' (text ++ b ∷ [])
words_after_byte text b h e builder word = record {
  last = h.last ++ b ∷ [];
  parted = IsParted-byte text _ b h.parted e;
  judged = rw (builder, ended_words-byte) h.judged;
  front = word;
}

pub words_after_separator : {p : Tokenizer} (text : List ℕ) (b : ℕ) → is_separator b ≡ true →
    (p.word ≡ []) × HasAdded p.builder (words text) → HasWords p (text ++ b ∷ [])
words_after_separator text b e k = record {
  last = [];
  parted = IsParted-separator text b e;
  judged = rw ended_words-separator k.1;
  front = k.0;
}

more_bytes : (text bytes : List ℕ) {i b : ℕ} → i < length bytes → b ≡ get_or bytes i 0 →
    (text ++ take i bytes) ++ b ∷ [] ≡ text ++ take (i + 1) bytes
more_bytes text bytes inside at = append_assoc text _ _ ∙ rw at (rw (← take_more) refl)

-- a fault that may be reported for the words of a text may be reported, whatever bytes follow
pub fault_further : (d : ℕ) (text more : List ℕ) (f : GridFault) → IsWordFault d (ended_words text) f →
    IsWordFault d (ended_words (text ++ more)) f
fault_further d text more f h =
    let next = ended-more text more in
    reported_further f (λ asks. subst AsksAtHeight (sym next.1) (asks-more next.0 asks))
    (λ g e. ap (words_fault d) next.1 ∙ words_fault-more d (ended_words text) next.0 e) h

-- ---- a whole word within a piece

-- where no word is unfinished, a word `w` that a separator follows is one more ended word
parted_word : {p : Tokenizer} (text w : List ℕ) (h : HasWords p text) → p.word ≡ [] → list_any is_separator w ≡ false →
    0 < length w → words (text ++ w) ≡ ended_words text ++ w ∷ []
parted_word text w h e none some = h.parted.all w ∙ rw last-none (rw (words-plain w none ∙ filter-word w some) refl)

-- ---- the next bytes of a piece

module _ (text bytes rest : List ℕ) (at : ℕ) where
  same_front : (n : ℕ) → rest ≡ drop at bytes → (text ++ take at bytes) ++ take n rest ≡ text ++ take (at + n) bytes
  same_front n e = append_assoc text _ _ ∙ rw (ap (λ z. take at bytes ++ take n z) e ∙ sym (take-add at n bytes)) refl

  pub same_whole : rest ≡ drop at bytes → (text ++ take at bytes) ++ rest ≡ text ++ bytes
  same_whole e = append_assoc text _ rest ∙ rw (ap (take at bytes ++◌) e ∙ take-append-drop at bytes) refl

-- let the `len` bytes at `at`, after a height, spell `value` (`IsPlain`), and the separator `b`
-- follow. If `j` has added the cell of `value`, the height and the separator have been read
pub plain_word : (p : Tokenizer) {j : GridBuilder} (text bytes rest : List ℕ) (at len b : ℕ) {value : ℤ} →
    HasWords p (text ++ take at bytes) → IsBetweenHeights p → rest ≡ drop at bytes →
    IsPlain p.builder.scale rest len value → at + len < length bytes → b ≡ get_or bytes (at + len) 0 →
    is_separator b ≡ true → j ≡ record p.builder { cells = j.cells } → ((ps : Pairs) (hs : List Word) (w : Word) →
    HasReadHeights p.builder ps hs → length w ≤ 64 → scaled_value p.builder.scale w ≡ Some value →
    HasReadHeights j ps (hs ++ w ∷ [])) → HasWords (record p { builder = j }) (text ++ take (at + len + 1) bytes)
plain_word p {j} text bytes rest at len b h between e plain inside is ends kept added =
    let front = text ++ take at bytes in
    let w = take len rest in
    let size = length-take len rest in
    let there = at_heights p.builder (ended_words front) h.judged between.0 in
    let ps = h.judged.pairs in
    let hs = h.judged.rest in
    let read =
    judged-heights p.builder j ps hs (w ∷ []) h.judged.header h.judged.words (HasBegun-more hs (w ∷ []) there.0)
    (added ps hs w there.1 (omega (arith, plain.short, size)) plain.scaled)
    (ap (λ (k : GridBuilder). k.header) kept) (ap (λ (k : GridBuilder). k.expected) kept ∙ between.0) in
    subst (HasWords (record p { builder = j }))
    (ap (λ z. z ++ b ∷ []) (same_front text bytes rest at len e) ∙ more_bytes text bytes inside is)
    (words_after_separator (front ++ w) b ends (
      between.1,
      rw (parted_word front w h between.1 plain.whole (omega (arith, plain.some, plain.within, size))) read,
    ))

module _ (a b : Tokenizer) where
  taken_both : (c : Tokenizer) (bytes : List ℕ) (from i j : ℕ) → HasTaken a b bytes from i → HasTaken b c bytes i j →
      HasTaken a c bytes from j
  taken_both c bytes from i j h k = record {
    scale = k.scale ∙ h.scale;
    further = omega arith;
    within = k.within;
    words = λ text w. k.words text (h.words text w);
  }

  pub taken_byte : (c d : Tokenizer) (bytes : List ℕ) (from i j x : ℕ) → HasTaken a b bytes from i → i < length bytes →
      x ≡ get_or bytes i 0 → c.builder.scale ≡ b.builder.scale →
      ((text : List ℕ) → HasWords b text → HasWords c (text ++ x ∷ [])) → HasTaken c d bytes (i + 1) j →
      HasTaken a d bytes from j
  taken_byte c d bytes from i j x h inside is scale byte k =
      taken_both d bytes from i j h (record {
        scale = k.scale ∙ scale;
        further = omega arith;
        within = k.within;
        words = λ text w. k.words text (rw more_bytes at (byte _ w));
      })

  -- the words of a text and the front of `bytes` that is taken in two steps
  pub taken_words : (c : Tokenizer) (text bytes : List ℕ) (i j : ℕ) → HasTaken a b bytes 0 i → HasTaken b c bytes i j →
      HasWords a text → HasWords c (text ++ take j bytes)
  taken_words c text bytes i j h k w = (taken_both c bytes 0 i j h k).words text (rw append-nil w)

-- a fault that may be reported when the byte `b` at `at` has been read
pub fault_at : {d d' : ℕ} (text bytes : List ℕ) (at b : ℕ) (f : GridFault) → d' ≡ d → at < length bytes →
    b ≡ get_or bytes at 0 → IsWordFault d' (ended_words ((text ++ take at bytes) ++ b ∷ [])) f →
    IsWordFault d (ended_words (text ++ bytes)) f
fault_at {d} text bytes at b f same inside is k =
    let read = rw (same, more_bytes text bytes inside is) at k in
    rw (sym (same_whole text bytes (drop (at + 1) bytes) (at + 1) refl))
    (fault_further d (text ++ take (at + 1) bytes) (drop (at + 1) bytes) f read)
