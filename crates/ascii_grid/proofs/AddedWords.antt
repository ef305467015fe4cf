-- After one more word is added, a `GridBuilder` has read all words so far, or returns a fault that
-- may be reported for them.
use Rattle.std.proofs.Common.{◌≡◌, ℕ, ◌+◌, ◌<◌, ◌≤◌, Bool, true, false, cond, List, [], ◌∷◌, ◌++◌, length, map, take, Option, None, Some, ℤ, arith, refl, ap, sym, ◌∙◌, subst, inl, inr, Result, MatchResult}
use Rattle.std.specs.Prelude.{MatchOption, option_map}
use Rattle.std.specs.Option.{option_or, option_map_or}
use Rattle.std.specs.List.{list_any}
use Rattle.std.proofs.Math.Bool.{or-false}
use Rattle.std.proofs.lemmas.Bool.{cases_Bool, lt-ltb, le-ltb}
use Rattle.std.proofs.lemmas.List.{append-nil, append_assoc, length-append, length-map, map_push}
use Rattle.terrain.specs.Words.{Word}
use Rattle.ascii_grid.specs.Header.{fills, slot_of, is_long, is_value, bad_value, begins_with_letter, header_words, height_words, key_left, nodata_for, header_fault, key_fault, value_fault, missing_fault}
use Rattle.ascii_grid.specs.GridText.{AsksForCells, is_cell, spelled_cell, cells_wanted, words_fault, heights_fault, height_fault, AsksAtHeight, IsReported}
use Rattle.ascii_grid.specs.Slots.{is_given, is_centre, with_value}
use Rattle.ascii_grid.specs.Reading.{flat, slots_of, keys_before, IsHeaderOf, AwaitsValue, HasBegun, HasReadHeights, FitsExpected, HasAdded, IsHeaderFault, IsHeightFault, IsWordFault}
use Rattle.ascii_grid.specs.declared.fault.Key.{Key}
use Rattle.ascii_grid.specs.declared.fault.GridFault.{GridFault}
use Rattle.ascii_grid.specs.declared.fault.GridFault.TheVariants.{UnknownKey, RepeatedKey, TooLong, MissingKey, Memory}
use Rattle.ascii_grid.specs.declared.header.Header.{Header}
use Rattle.ascii_grid.specs.declared.builder.Expected.{Expected}
use Rattle.ascii_grid.specs.declared.builder.Expected.TheVariants.{AtKey, AtValue, AtHeights}
use Rattle.ascii_grid.specs.declared.builder.GridBuilder.{GridBuilder}
use Rattle.ascii_grid.proofs.Judging.{Pairs, or_none, then_none, words-flat, key_left-flat, flat-push, are_keys-push, header_fault-flat, list_any-keys_before, is_given-slots_of, with_value-slots_of, words_fault-flat, words_fault-key, words_fault-value, words_fault-heights, words-begun, heights_fault-push, HasBegun-more}
use Rattle.std.proofs.lemmas.Result.{MatchResult-weaker}
use Rattle.ascii_grid.specs.declared.fault.Key.TheVariants.{Ncols}

-- ---- the expected word

module _ (j : GridBuilder) (ws : List Word) (h : HasAdded j ws) where
  pub at_key : j.expected ≡ AtKey → ws ≡ flat h.pairs
  at_key e = h.words ∙ rw (rw e at h.at) (append-nil _)

  pub at_value : (slot : Key) (centre : Bool) → j.expected ≡ AtValue slot centre →
      (k : Word) × (ws ≡ flat h.pairs ++ k ∷ []) × AwaitsValue h.pairs k slot centre
  at_value slot centre e =
      let there = rw e at h.at in
      (there.0, h.words ∙ rw there.1 refl, there.2)

  pub at_heights : j.expected ≡ AtHeights → HasBegun h.rest × HasReadHeights j h.pairs h.rest
  at_heights e = subst (FitsExpected j h.pairs h.rest) e h.at

-- ---- a key

pub same_header : {h h' : Header} {ps : Pairs} → h' ≡ h → IsHeaderOf h ps → IsHeaderOf h' ps
same_header e k = assumption (e ∙ k.slots)

pub is_short : (w : Word) → length w ≤ 64 → is_long w ≡ false
is_short w h = le-ltb 64 _ h

repeats : (slot : Key) (ps : Pairs) → list_any (fills slot) (keys_before ps []) ≡ is_given (slots_of ps) slot
repeats slot ps = list_any-keys_before _ ps _ ∙ or-false _ ∙ sym (is_given-slots_of slot ps)

abbrev fault_of_slot : Pairs → Option Key → Option GridFault
fault_of_slot ps o =
    option_map_or (λ slot. cond (list_any (fills slot) (keys_before ps [])) (Some (RepeatedKey slot)) None) o
    (Some UnknownKey)

key_fault-short : (ps : Pairs) (k : Word) → length k ≤ 64 →
    key_fault (keys_before ps []) k ≡ fault_of_slot ps (slot_of k)
key_fault-short ps k h = rw is_short

slot_fault : (ps : Pairs) (o : Option Key) {f : GridFault} →
    MatchOption o (f ≡ UnknownKey) (λ slot. (is_given (slots_of ps) slot ≡ true) × (f ≡ RepeatedKey slot)) →
    fault_of_slot ps o ≡ Some f
slot_fault ps None e = ap Some (sym e)
slot_fault ps (Some slot) e = rw (repeats slot ps ∙ e.0) (ap Some (sym e.1))

module _ (j : GridBuilder) where
  pub judged-key : (j' : GridBuilder) (ws : List Word) (w : Word) (slot : Key) → HasAdded j ws → j.expected ≡ AtKey →
      length w ≤ 64 → begins_with_letter w ≡ true → slot_of w ≡ Some slot → is_given j.header slot ≡ false →
      j'.header ≡ j.header → j'.expected ≡ AtValue slot (is_centre w) → HasAdded j' (ws ++ w ∷ [])
  judged-key j' ws w slot h e short letter s free same expected =
      let none = ap (λ x. is_given x slot) (sym h.header.slots) ∙ free in
      let awaits : AwaitsValue h.pairs w slot (is_centre w) =
      assumption (key_fault-short h.pairs w short ∙ ap (fault_of_slot h.pairs) s ∙
      ap (λ b. cond b (Some (RepeatedKey slot)) None) (repeats slot h.pairs ∙ none)) in
      record {
        pairs = h.pairs;
        rest = w ∷ [];
        words = rw (at_key j ws h e) refl;
        header = same_header same h.header;
        at = rw expected (w, refl, awaits);
      }

  pub next-key : (ws : List Word) (w : Word) (h : HasAdded j ws) → j.expected ≡ AtKey → begins_with_letter w ≡ true →
      words_fault j.scale (ws ++ w ∷ []) ≡ key_fault (keys_before h.pairs []) w
  next-key ws w h e letter =
      ap (λ z. words_fault j.scale (z ++ w ∷ [])) (at_key j ws h e) ∙
      words_fault-key j.scale h.pairs w h.header.keys h.header.faultless letter

  pub fault-key : (ws : List Word) (w : Word) (f : GridFault) → HasAdded j ws → j.expected ≡ AtKey → length w ≤ 64 →
      begins_with_letter w ≡ true →
      MatchOption (slot_of w) (f ≡ UnknownKey) (λ slot. (is_given j.header slot ≡ true) × (f ≡ RepeatedKey slot)) →
      words_fault j.scale (ws ++ w ∷ []) ≡ Some f
  fault-key ws w f h e short letter m =
      next-key ws w h e letter ∙ key_fault-short h.pairs w short ∙ slot_fault h.pairs (slot_of w) (subst
      (λ x. MatchOption (slot_of w) (f ≡ UnknownKey) (λ slot. (is_given x slot ≡ true) × (f ≡ RepeatedKey slot)))
      h.header.slots m)

-- ---- a value

value_fault-short : (k v : Word) {slot : Key} → length v ≤ 64 → slot_of k ≡ Some slot →
    value_fault k v ≡ cond (is_value slot v) None (Some (bad_value slot))
value_fault-short k v h s = rw (is_short, s)

module _ (j : GridBuilder) where
  pub judged-value : (j' : GridBuilder) (ws : List Word) (v : Word) (slot : Key) (centre : Bool) → HasAdded j ws →
      j.expected ≡ AtValue slot centre → length v ≤ 64 → is_value slot v ≡ true →
      j'.header ≡ with_value j.header slot centre v → j'.expected ≡ AtKey → HasAdded j' (ws ++ v ∷ [])
  judged-value j' ws v slot centre h e short ok same expected =
      let there = at_value j ws h slot centre e in
      let k = there.0 in
      let awaits = there.2 in
      let fault : value_fault k v ≡ None =
      value_fault-short k v short awaits.key_is ∙ ap (λ b. cond b None (Some (bad_value slot))) ok in
      let words : ws ++ v ∷ [] ≡ flat (h.pairs ++ (k, v) ∷ []) =
      ap (λ z. z ++ v ∷ []) there.1 ∙ append_assoc (flat h.pairs) (k ∷ []) (v ∷ []) ∙ sym (flat-push h.pairs k v) in
      let none : header_fault [] (flat h.pairs ++ k ∷ v ∷ []) ≡ None =
      header_fault-flat [] h.pairs (k ∷ v ∷ []) ∙ rw (h.header.faultless, awaits.faultless, fault) refl in
      record {
        pairs = h.pairs ++ (k, v) ∷ [];
        rest = [];
        words = words ∙ sym (append-nil (flat (h.pairs ++ (k, v) ∷ [])));
        header = record {
          keys = are_keys-push h.pairs k v h.header.keys awaits.letter;
          faultless = ap (header_fault []) (flat-push h.pairs k v) ∙ none;
          slots =
              same ∙ ap (λ x. with_value x slot centre v) h.header.slots ∙
              ap (λ b. with_value (slots_of h.pairs) slot b v) awaits.named ∙
              with_value-slots_of slot h.pairs k v awaits.key_is awaits.free;
        };
        at = rw expected refl;
      }

  pub next-value : (ws : List Word) (v : Word) (slot : Key) (centre : Bool) (h : HasAdded j ws)
      (e : j.expected ≡ AtValue slot centre) →
      words_fault j.scale (ws ++ v ∷ []) ≡ value_fault (at_value j ws h slot centre e).0 v
  next-value ws v slot centre h e =
      let there = at_value j ws h slot centre e in
      ap (words_fault j.scale) (ap (λ z. z ++ v ∷ []) there.1 ∙ append_assoc (flat h.pairs) (there.0 ∷ []) (v ∷ [])) ∙
      words_fault-value j.scale h.pairs there.0 v h.header.keys h.header.faultless there.2.letter there.2.faultless

  pub fault-value : (ws : List Word) (v : Word) (slot : Key) (centre : Bool) → HasAdded j ws →
      j.expected ≡ AtValue slot centre → length v ≤ 64 → is_value slot v ≡ false →
      words_fault j.scale (ws ++ v ∷ []) ≡ Some (bad_value slot)
  fault-value ws v slot centre h e short bad =
      let there = at_value j ws h slot centre e in
      next-value ws v slot centre h e ∙ value_fault-short there.0 v short there.2.key_is ∙
      ap (λ b. cond b None (Some (bad_value slot))) bad

-- ---- heights

pub words-after : {h : Header} {ps : Pairs} {hs : List Word} → IsHeaderOf h ps → HasBegun hs →
    (header_words (flat ps ++ hs) ≡ flat ps) × (height_words (flat ps ++ hs) ≡ hs)
words-after {ps} {hs} k begun =
    let both = words-flat ps hs k.keys in
    let rest = words-begun hs begun in
    (both.0 ∙ rw rest.0 (append-nil _), both.1 ∙ rest.1)

pub paired : (ps : Pairs) → key_left (flat ps) ≡ None
paired ps = ap key_left (sym (append-nil (flat ps))) ∙ key_left-flat ps []

-- reading a faultless header without missing slots, and then heights `hs`, allocates the cells
-- (`AsksForCells`), if the first height is not too long
pub asks : (h : Header) (ps : Pairs) (hs : List Word) → IsHeaderOf h ps → HasBegun hs → missing_fault (flat ps) ≡ None →
    list_any is_long (take 1 hs) ≡ false → AsksForCells (flat ps ++ hs)
asks h ps hs k begun whole first =
    let are = words-after k begun in
    record {
      faultless = rw are.0 k.faultless;
      paired = ap key_left are.0 ∙ paired ps;
      given = ap missing_fault are.0 ∙ whole;
      first = rw are.1 first;
    }

first_short : (d : ℕ) (header hs : List Word) (w : Word) → length w ≤ 64 → heights_fault d header 0 hs ≡ None →
    list_any is_long (take 1 (hs ++ w ∷ [])) ≡ false
first_short d header [] w short none = rw is_short
first_short d header (x ∷ hs) w short none = rw (then_none (is_long x) TooLong _ (or_none _ _ none).0).0

-- let the words `ws` be the header of `j` and heights `hs`, and `j'` be among the heights of this
-- header. If `hs ++ more` have no fault and `j'` stores their cells, it has read `ws` and `more`
pub judged-heights : (j j' : GridBuilder) {ws : List Word} (ps : Pairs) (hs more : List Word) → IsHeaderOf j.header ps →
    ws ≡ flat ps ++ hs → HasBegun (hs ++ more) → HasReadHeights j' ps (hs ++ more) → j'.header ≡ j.header →
    j'.expected ≡ AtHeights → HasAdded j' (ws ++ more)
judged-heights j j' ps hs more k e begun heights same expected = record {
  pairs = ps;
  rest = hs ++ more;
  words = rw e (append_assoc _ hs more);
  header = same_header same k;
  at = subst (FitsExpected j' ps (hs ++ more)) (sym expected) (begun, heights);
}

pub next-height : (d : ℕ) {ws : List Word} {ps : Pairs} (hs : List Word) (w : Word) {h : Header} → IsHeaderOf h ps →
    ws ≡ flat ps ++ hs → HasBegun (hs ++ w ∷ []) → heights_fault d (flat ps) 0 hs ≡ None →
    words_fault d (ws ++ w ∷ []) ≡ height_fault d (flat ps) (length hs) w
next-height d {ps} hs w k e begun none =
    ap (words_fault d) (ap (λ z. z ++ w ∷ []) e ∙ append_assoc (flat ps) hs (w ∷ [])) ∙
    words_fault-heights d ps (hs ++ w ∷ []) k.keys k.faultless begun ∙ heights_fault-push d (flat ps) 0 hs w ∙
    ap (λ o. option_or o (height_fault d (flat ps) (0 + length hs) w)) none ∙
    ap (λ n. height_fault d (flat ps) n w) (omega arith)

-- reading a faultless header without missing slots, faultless heights `hs` and a height `w` of at
-- most 64 bytes allocates the cells at the first height (`AsksAtHeight`)
pub memory-height : (j : GridBuilder) {ws : List Word} {ps : Pairs} (hs : List Word) (w : Word) {h : Header} →
    IsHeaderOf h ps → ws ≡ flat ps ++ hs → HasBegun (hs ++ w ∷ []) → missing_fault (flat ps) ≡ None →
    heights_fault j.scale (flat ps) 0 hs ≡ None → length w ≤ 64 → AsksAtHeight (ws ++ w ∷ [])
memory-height j {ps} hs w {h} k e begun whole none short =
    let words = ap (λ z. z ++ w ∷ []) e ∙ append_assoc _ hs _ in
    rw words (
      asks h ps _ k begun whole (first_short j.scale (flat ps) hs w short none),
      rw ((words-after k begun).1) (omega (arith, length-append hs (w ∷ []))),
    )

-- ---- words without a fault, the count of cells, and faults that are not `Memory`

pub height_fault-none : (d : ℕ) (header : List Word) {place : ℕ} (w : Word) → length w ≤ 64 →
    missing_fault header ≡ None → place < cells_wanted header → is_cell d (nodata_for header) w ≡ true →
    height_fault d header place w ≡ None
height_fault-none d header w short whole room ok = rw (is_short, whole, lt-ltb, ok)

module _ (j : GridBuilder) where
  pub place_of : (ps : Pairs) (hs : List Word) → HasReadHeights j ps hs → length j.cells.items ≡ length hs
  place_of ps hs h = ap length h.cells ∙ length-map hs _

  -- after the cell of one more height is added, the height has been read
  pub HasReadHeights-push : (j' : GridBuilder) (ps : Pairs) (hs : List Word) (w : Word) (cell : Option ℤ) →
      HasReadHeights j ps hs → length w ≤ 64 → is_cell j.scale j.nodata w ≡ true →
      spelled_cell j.scale j.nodata w ≡ cell → length j.cells.items < j.wanted →
      j'.cells.items ≡ j.cells.items ++ cell ∷ [] → HasReadHeights (record j { cells = j'.cells }) ps (hs ++ w ∷ [])
  HasReadHeights-push j' ps hs w cell h short is value room all =
      let none : height_fault j.scale (flat ps) (0 + length hs) w ≡ None =
      height_fault-none j.scale (flat ps) w short h.whole (omega (arith, place_of ps hs h, h.wanted, room))
      (subst (λ n. is_cell j.scale n w ≡ true) h.nodata is) in
      record {
        whole = h.whole;
        wanted = h.wanted;
        nodata = h.nodata;
        value = h.value;
        faultless =
            heights_fault-push j.scale (flat ps) 0 hs w ∙
            ap (λ o. option_or o (height_fault j.scale (flat ps) (0 + length hs) w)) h.faultless ∙ none;
        cells =
            all ∙ ap (λ z. z ++ cell ∷ []) h.cells ∙
            ap (λ x. map (spelled_cell j.scale j.nodata) hs ++ x ∷ []) (sym value) ∙
            sym (map_push (spelled_cell j.scale j.nodata) hs w);
      }

  pub judged_none : (ws : List Word) → HasAdded j ws → words_fault j.scale ws ≡ None
  judged_none ws h = by_expected j.expected refl
    where
      by_expected : (s : Expected) → j.expected ≡ s → words_fault j.scale ws ≡ None
      by_expected AtKey e =
          ap (words_fault j.scale) (at_key j ws h e ∙ sym (append-nil (flat h.pairs))) ∙
          words_fault-flat j.scale h.pairs [] [] [] h.header.keys h.header.faultless refl refl
      by_expected (AtValue slot centre) e =
          let there = at_value j ws h slot centre e in
          ap (words_fault j.scale) there.1 ∙
          words_fault-key j.scale h.pairs there.0 h.header.keys h.header.faultless there.2.letter ∙ there.2.faultless
      by_expected AtHeights e =
          let there = at_heights j ws h e in
          ap (words_fault j.scale) h.words ∙
          words_fault-heights j.scale h.pairs h.rest h.header.keys h.header.faultless there.0 ∙ there.1.faultless

abbrev pub is_memory : Option GridFault → Bool
is_memory None = false
is_memory (Some Memory) = true
is_memory (Some f) = false

pub not_memory_bad_value : (slot : Key) → is_memory (Some (bad_value slot)) ≡ false
not_memory_bad_value Ncols = refl
not_memory_bad_value slot = refl

-- the fault of an unknown or a repeated key is not `Memory`
pub not_memory_slot : (o : Option Key) (given : Key → Type 0) (f : GridFault) →
    MatchOption o (f ≡ UnknownKey) (λ slot. given slot × (f ≡ RepeatedKey slot)) → is_memory (Some f) ≡ false
not_memory_slot None given f e = rw e refl
not_memory_slot slot given f e = rw e.1 refl

not_memory_missing_slot : (o : Option Key) → is_memory (option_map MissingKey o) ≡ false
not_memory_missing_slot None = refl
not_memory_missing_slot m = refl

pub not_memory_missing : (header : List Word) → is_memory (missing_fault header) ≡ false
not_memory_missing header = not_memory_missing_slot _

-- ---- the fault that is reported

pub reported : (may_lack : Type 0) {o : Option GridFault} (f : GridFault) → is_memory o ≡ false → o ≡ Some f →
    IsReported may_lack o f
reported may_lack Memory m h = absurd cc
reported may_lack f m h = h

-- a fault that may be reported by `may_lack` and `o` may be reported by `may_lack'` and `o'`, if
-- `may_lack` implies `may_lack'`, and a fault in `o` is in `o'` too
pub reported_further : {may_lack may_lack' : Type 0} {o o' : Option GridFault} (f : GridFault) →
    (may_lack → may_lack') → ((g : GridFault) → o ≡ Some g → o' ≡ Some g) → IsReported may_lack o f →
    IsReported may_lack' o' f
reported_further Memory lacks more h = lacks h
reported_further f lacks more h = more f h

pub word_fault : (d : ℕ) (ws : List Word) (f : GridFault) → is_memory (Some f) ≡ false → words_fault d ws ≡ Some f →
    IsWordFault d ws f
word_fault d ws f other h = reported _ f (ap is_memory h ∙ other) h

pub long_fault : {j : GridBuilder} {ws : List Word} (w : Word) → HasAdded j ws → 64 < length w →
    words_fault j.scale (ws ++ w ∷ []) ≡ Some TooLong
long_fault {j} {ws} w h far = by_expected j.expected refl
  where
    long : is_long w ≡ true
    long = lt-ltb 64 (length w) far

    by_expected : (s : Expected) → j.expected ≡ s → words_fault j.scale (ws ++ w ∷ []) ≡ Some TooLong
    by_expected AtKey e =
        elim (cases_Bool (begins_with_letter w)) [
          | inl letter ↦ next-key j ws w h e letter ∙ rw long refl
          | inr begun ↦ next-height j.scale [] w h.header (at_key j ws h e ∙ sym (append-nil (flat h.pairs))) begun
              refl ∙ rw long refl
        ]
    by_expected (AtValue slot centre) e = next-value j ws w slot centre h e ∙ rw long refl
    by_expected AtHeights e =
        let there = at_heights j ws h e in
        next-height j.scale h.rest w h.header h.words (HasBegun-more h.rest (w ∷ []) there.0) there.1.faultless ∙
        rw long refl

-- if `r` meets what `add_height` ensures for `w` after the heights `hs`, it meets the clause `word`
-- of `add_word` for `w` after the words `ws`, which are a header and `hs`
pub height_word : {T : Type 0} (j j' : GridBuilder) (ws : List Word) {ps : Pairs} {hs : List Word} (w : Word)
    (r : Result T GridFault) → IsHeaderOf j.header ps → ws ≡ flat ps ++ hs → HasBegun (hs ++ w ∷ []) →
    HasReadHeights j ps hs → length w ≤ 64 → j'.header ≡ j.header → j'.expected ≡ AtHeights →
    MatchResult r (λ _. HasReadHeights j' ps (hs ++ w ∷ [])) (IsHeightFault j.scale ps hs w) →
    MatchResult r (λ _. HasAdded j' (ws ++ w ∷ [])) (IsWordFault j.scale (ws ++ w ∷ []))
height_word j j' ws {ps} {hs} w r k e begun heights short same expected m =
    MatchResult-weaker r m (λ _ more. judged-heights j j' ps hs (w ∷ []) k e begun more same expected) (λ f.
    reported_further f (λ _. memory-height j hs w k e begun heights.whole heights.faultless short)
    (λ g fault. next-height j.scale hs w k e begun heights.faultless ∙ fault))

-- where `w` is the first height and not too long, a missing slot's fault may be reported for `ws`
-- and `w`, or `Memory` if no slot is missing
pub no_first_height : (j : GridBuilder) (ws : List Word) (w : Word) (f : GridFault) (h : HasAdded j ws) →
    j.expected ≡ AtKey → begins_with_letter w ≡ false → length w ≤ 64 → IsHeaderFault h.pairs f →
    IsWordFault j.scale (ws ++ w ∷ []) f
no_first_height j ws w f h expected begun short =
    let e = at_key j ws h expected ∙ sym (append-nil (flat h.pairs)) in
    reported_further f (λ whole. memory-height j [] w h.header e begun whole refl short)
    (λ g missing. next-height j.scale [] w h.header e begun refl ∙ rw (is_short w short, missing) refl)
