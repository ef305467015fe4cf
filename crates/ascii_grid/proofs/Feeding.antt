-- The text that a reader has read, or the fault that it returns, after one more piece and at the
-- text's end. A fault found so far remains, whatever bytes follow. A grid that a text spells at a
-- scale of at most 6 is lawful.
use Rattle.std.proofs.Common.{◌≡◌, ℕ, ◌+◌, ◌-◌, ◌<◌, ◌≤◌, cond, nat_le, List, [], ◌++◌, length, take, drop, min, None, Some, arith, refl, ap, sym, ◌∙◌, subst, inl, inr, Result, MatchResult, Ok, Err}
use Rattle.std.specs.Prelude.{MatchOption, OnOk, IfErr}
use Rattle.std.specs.Option.{option_or}
use Rattle.std.proofs.lemmas.Bool.{cases_lt, le-leb, lt-leb}
use Rattle.std.proofs.lemmas.Option.{MatchOption-at_none, MatchOption-at_some}
use Rattle.std.proofs.lemmas.Result.{MatchResult-weaker}
use Rattle.std.proofs.lemmas.List.{append-nil, length-append, length-take, take_all, take-append-le}
use Rattle.std.proofs.Math.Seq.{take-append-add}
use Rattle.terrain.specs.Words.{Word, words, ended_words}
use Rattle.terrain.specs.Raster.{Raster, IsLawful}
use Rattle.ascii_grid.specs.GridText.{most_bytes, words_fault, end_fault, fault_so_far, text_fault, judged_words, grid_of, AsksForCells, AsksAtHeight, AsksInText, IsGridText, IsRefusal, IsRefusalSoFar}
use Rattle.std.specs.Result.{result_err}
use Rattle.ascii_grid.specs.Reader.{Reader, IsReading, reading, WasFed, Feeds}
use Rattle.ascii_grid.specs.Reading.{HasWords, IsWordFault, IsEndFault}
use Rattle.ascii_grid.specs.declared.fault.GridFault.{GridFault}
use Rattle.ascii_grid.specs.declared.fault.GridFault.TheVariants.{TooLong}
use Rattle.ascii_grid.specs.declared.tokenizer.Tokenizer.{Tokenizer}
use Rattle.ascii_grid.proofs.Judging.{option_or-none, or_none}
use Rattle.ascii_grid.proofs.AddedWords.{judged_none, reported_further}
use Rattle.ascii_grid.proofs.Stays.{ended-more, ended-words, words_fault-more, asks-more}
use Rattle.ascii_grid.proofs.Ending.{same_whole}
use Rattle.ascii_grid.proofs.Spelled.{lawful_words}

-- ---- texts of few and of many bytes, and faults that stay

module _ (d : ℕ) (text : List ℕ) where
  pub few_fault : length text ≤ most_bytes →
      text_fault d text ≡ option_or (words_fault d (words text)) (end_fault (words text))
  few_fault h = rw le-leb

  few_so_far : length text ≤ most_bytes → fault_so_far d text ≡ words_fault d (ended_words text)
  few_so_far h = rw le-leb

  pub many_so_far : most_bytes < length text →
      fault_so_far d text ≡ option_or (words_fault d (ended_words (take most_bytes text))) (Some TooLong)
  many_so_far h = rw lt-leb

  many_fault : most_bytes < length text → text_fault d text ≡ fault_so_far d text
  many_fault h = rw lt-leb

  -- the fault so far: that of the words ended in the first 2^29 bytes, else `TooLong` if more follow
  so_far : fault_so_far d text ≡ option_or (words_fault d (ended_words (take most_bytes text)))
      (cond (nat_le (length text) most_bytes) None (Some TooLong))
  so_far =
      elim (cases_lt most_bytes _) [
        | inl far ↦ rw (lt-leb (length text) most_bytes far)
        | inr near ↦ rw (le-leb, take_all most_bytes text near) (sym (option_or-none _))
      ]

module _ (front more : List ℕ) where
  front_of : (rest : List ℕ) × (take most_bytes (front ++ more) ≡ take most_bytes front ++ rest)
  front_of =
      elim (cases_lt most_bytes (length front)) [
        | inl far ↦ ([], take-append-le most_bytes front more (omega arith) ∙ sym (append-nil _))
        | inr near ↦
            let at : length front + (most_bytes - length front) ≡ most_bytes = omega arith in (
              take (most_bytes - length front) more,
              ap (λ n. take n (front ++ more)) (sym at) ∙ take-append-add front more _ ∙
                  ap (λ z. z ++ take (most_bytes - length front) more) (sym (take_all most_bytes front near)),
            )
      ]

  in_time-more : (others : List Word) ×
      (ended_words (take most_bytes (front ++ more)) ≡ ended_words (take most_bytes front) ++ others)
  in_time-more =
      let cut = front_of in
      let next = ended-more (take most_bytes front) cut.0 in
      (next.0, ap ended_words cut.1 ∙ next.1)

in_time-judged : (text : List ℕ) →
    (others : List Word) × (judged_words text ≡ ended_words (take most_bytes text) ++ others)
in_time-judged text =
    elim (cases_lt most_bytes (length text)) [
      | inl far ↦ ([], rw (lt-leb (length text) most_bytes far) (sym (append-nil (ended_words (take most_bytes text)))))
      | inr near ↦ let last = ended-words text in
          (last.0, rw (le-leb (length text) most_bytes near, take_all most_bytes text near) last.1)
    ]

so_far_stays : (d : ℕ) (front more : List ℕ) (f : GridFault) → fault_so_far d front ≡ Some f →
    fault_so_far d (front ++ more) ≡ Some f
so_far_stays d front more f h =
    elim (cases_lt most_bytes (length front)) [
      | inl far ↦
          let longer : most_bytes < length (front ++ more) = omega (arith, length-append front more) in
          many_so_far d (front ++ more) longer ∙ ap (λ z. option_or (words_fault d (ended_words z)) (Some TooLong))
          (take-append-le most_bytes front more (omega arith)) ∙ sym (many_so_far d front far) ∙ h
      | inr near ↦
          let next = in_time-more front more in
          let shown =
          ap (λ z. words_fault d (ended_words z)) (take_all most_bytes front near) ∙ sym (few_so_far d front near) ∙
          h in
          so_far d (front ++ more) ∙ ap
          (λ o. option_or o (cond (nat_le (length (front ++ more)) most_bytes) None (Some TooLong)))
          (ap (words_fault d) next.1 ∙ words_fault-more d (ended_words (take most_bytes front)) next.0 shown)
    ]

module _ (d : ℕ) where
  shown : (text : List ℕ) (f : GridFault) → fault_so_far d text ≡ Some f → text_fault d text ≡ Some f
  shown text f h =
      elim (cases_lt most_bytes (length text)) [
        | inl far ↦ many_fault d text far ∙ h
        | inr near ↦
            let last = ended-words text in
            few_fault d text near ∙ ap (λ o. option_or o (end_fault (words text))) (ap (words_fault d) last.1 ∙
            words_fault-more d (ended_words text) last.0 (sym (few_so_far d text near) ∙ h))
      ]

  pub fault_stays : (front more : List ℕ) (f : GridFault) → fault_so_far d front ≡ Some f →
      text_fault d (front ++ more) ≡ Some f
  fault_stays front more f h = shown (front ++ more) f (so_far_stays d front more f h)

  pub refusal_stays : (front more : List ℕ) (f : GridFault) → IsRefusalSoFar d front f →
      IsRefusalSoFar d (front ++ more) f
  refusal_stays front more f h =
      let next = in_time-more front more in
      reported_further f (λ asks. subst AsksAtHeight (sym next.1) (asks-more next.0 asks)) (so_far_stays d front more) h

  pub whole_refusal : (text : List ℕ) (f : GridFault) → IsRefusalSoFar d text f → IsRefusal d text f
  whole_refusal text f h =
      let next = in_time-judged text in
      reported_further f (λ asks.
      let more : AsksAtHeight (judged_words text) = subst AsksAtHeight (sym next.1) (asks-more next.0 asks) in
      (more.0, λ far. more.1)) (shown text) h

  pub stays : (front more : List ℕ) (f : GridFault) → IsRefusalSoFar d front f → IsRefusal d (front ++ more) f
  stays front more f h = whole_refusal (front ++ more) f (refusal_stays front more f h)

  -- ---- a fault within a piece

  refused : (front : List ℕ) (f : GridFault) → length front ≤ most_bytes → IsWordFault d (ended_words front) f →
      IsRefusalSoFar d front f
  refused front f short h =
      reported_further f (subst (λ z. AsksAtHeight (ended_words z)) (sym (take_all most_bytes front short)))
      (λ g e. few_so_far d front short ∙ e) h

read_none : {p : Tokenizer} {text : List ℕ} → HasWords p text → words_fault p.builder.scale (ended_words text) ≡ None
read_none {p} {text} h = judged_none p.builder (ended_words text) h.judged

-- ---- the end

asked : (text : List ℕ) → length text ≤ most_bytes → AsksForCells (words text) → AsksInText text
asked text short asks = (rw le-leb asks, λ far. absurd (omega arith))

module _ (d : ℕ) (text : List ℕ) where
  pub end_refused : (f : GridFault) → length text ≤ most_bytes → IsWordFault d (words text) f → IsRefusal d text f
  end_refused f short h =
      reported_further f (λ asks. asked text short asks.0) (λ g e. few_fault d text short ∙ rw e refl) h

  -- let a text of at most 2^29 bytes have no faulty word. A result that meets what
  -- `GridBuilder::finish` ensures meets the clauses `grid` and `fault` of `GridReader::finish`
  pub finished : (r : Result Raster GridFault) → length text ≤ most_bytes → words_fault d (words text) ≡ None →
      MatchResult r (λ g. (end_fault (words text) ≡ None) × (g ≡ grid_of d (words text))) (IsEndFault (words text)) →
      MatchResult r (IsGridText d text) (IsRefusal d text)
  finished r short none m =
      let reported = few_fault d text short ∙ ap (λ o. option_or o (end_fault (words text))) none in
      MatchResult-weaker r m (λ g k. record { faultless = reported ∙ k.0; grid = k.1 })
      (λ f k. reported_further f (asked text short) (λ g e. reported ∙ e) k)

  pub lawful_text : (g : Raster) → d ≤ 6 → IsGridText d text g → IsLawful g
  lawful_text g few h =
      elim (cases_lt most_bytes (length text)) [
        | inl far ↦ let long =
            (or_none _ (Some TooLong) (sym (many_fault d text far ∙ many_so_far d text far) ∙ h.faultless)).1 in
            absurd (cc)
        | inr near ↦
            let none =
            or_none (words_fault d (words text)) (end_fault (words text))
            (sym (few_fault d text near) ∙ h.faultless) in
            subst IsLawful (sym h.grid) (lawful_words (words text) few none.0 none.1)
      ]

-- ---- what a reader was fed

module _ (r : Reader) (text : List ℕ) where
  pub is_reading : r.fault ≡ None → WasFed r text → IsReading r text
  is_reading e h = MatchOption-at_none _ _ e h

  pub answered : (f : GridFault) → r.fault ≡ Some f → WasFed r text → IsRefusalSoFar r.scale text f
  answered f e h = MatchOption-at_some _ _ f e h

  pub answered_more : (more : List ℕ) (f : GridFault) → r.fault ≡ Some f → WasFed r text → WasFed r (text ++ more)
  answered_more more f e h =
      subst (λ o. MatchOption o (IsReading r (text ++ more)) (IsRefusalSoFar r.scale (text ++ more))) (sym e)
      (refusal_stays r.scale text more f (answered f e h))

  pub as_reading : r.fault ≡ None → WasFed r text → IsReading (reading r.words r.count) text
  as_reading e h =
      let k = is_reading e h in
      assumption
  -- ---- a piece

module _ (w : Tokenizer) (n : ℕ) (text piece : List ℕ) (within : ℕ) (cut : within ≡ min (length piece) (most_bytes - n))
    (k : IsReading (reading w n) text) where
  pub fed_fault : (f : GridFault) → IsWordFault w.builder.scale (ended_words (text ++ take within piece)) f →
      IsRefusalSoFar w.builder.scale (text ++ piece) f
  fed_fault f fault =
      let front = text ++ take within piece in
      let short : length front ≤ most_bytes = omega (
        arith,
        cut,
        k.size,
        k.short,
        length-append text (take within piece),
        length-take within piece,
      ) in
      rw (sym (same_whole text piece (drop within piece) within refl))
      (refusal_stays w.builder.scale front (drop within piece) f (refused w.builder.scale front f short fault))

  -- a text that a piece makes too long has the fault `TooLong`, if its first 2^29 bytes have none
  pub fed_long : (p : Tokenizer) → p.builder.scale ≡ w.builder.scale → within < length piece →
      HasWords p (text ++ take within piece) → fault_so_far w.builder.scale (text ++ piece) ≡ Some TooLong
  fed_long p scale over next =
      let full : most_bytes ≡ length text + within = omega (arith, cut, over, k.size, k.short) in
      let in_time : take most_bytes (text ++ piece) ≡ text ++ take within piece =
      ap (λ n. take n (text ++ piece)) full ∙ take-append-add text piece within in
      rw (← scale) (many_so_far p.builder.scale (text ++ piece) (omega (
        arith,
        full,
        over,
        length-append text piece,
      )) ∙ rw (in_time, read_none next) refl)

  -- after a piece that fits and has no fault, the reader has read the text and the piece
  pub fed_whole : (p : Tokenizer) → length piece ≤ within → HasWords p (text ++ take within piece) →
      IsReading (reading p (n + within)) (text ++ piece)
  fed_whole p all next =
      let size = length-append text piece in
      record {
        words_of = rw take_all at next;
        same_scale = refl;
        size = omega arith;
        short = omega arith;
      }

pub faultless : (r : Reader) (text : List ℕ) → IsReading r text → fault_so_far r.scale text ≡ None
faultless r text h = rw (← h.same_scale) (few_so_far r.words.builder.scale text h.short ∙ read_none h.words_of)

-- ---- one piece after another

-- let the reader `b` store the fault of `r` and have been fed `text`. If `r` is `Ok`, `text` has no
-- fault so far; if it is `Err f`, `text` may be refused with `f` already.
has_fault : {T : Type 0} (b : Reader) (text : List ℕ) (r : Result T GridFault) → b.fault ≡ result_err r →
    WasFed b text → OnOk r (fault_so_far b.scale text ≡ None) × IfErr r (λ f. IsRefusalSoFar b.scale text f)
has_fault b text (Ok x) e h = (faultless b text (is_reading b text e h), tt)
has_fault b text (Err f) e h = (tt, answered b text f e h)

-- `Feeds` follows from its fields `scale`, `taken`, `fault` and `again`
pub Feeds-taken : {T : Type 0} {a b : Reader} {piece : List ℕ} {r : Result T GridFault} → b.scale ≡ a.scale →
    ((text : List ℕ) → WasFed a text → WasFed b (text ++ piece)) → b.fault ≡ result_err r →
    ((f : GridFault) → a.fault ≡ Some f → r ≡ Err f) → Feeds a b piece r
Feeds-taken {b} {piece} {r} scale taken fault again = record {
  scale = scale;
  taken = taken;
  ok = λ text h. rw (← scale) (has_fault b (text ++ piece) r fault (taken text h)).0;
  err = λ text h. rw (← scale) (has_fault b (text ++ piece) r fault (taken text h)).1;
  fault = fault;
  again = again;
}
