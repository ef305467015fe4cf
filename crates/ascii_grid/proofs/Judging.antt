-- Finds the header, heights and first fault of words that begin with pairs of key and value, and
-- the slots that the pairs fill.
use Rattle.std.proofs.Common.{◌≡◌, ℕ, ◌+◌, Bool, true, false, ◌||◌, cond, List, [], ◌∷◌, ◌++◌, length, Option, None, Some, arith, refl, ap, sym, suc, ◌∙◌}
use Rattle.std.specs.Prelude.{find, is_some, unwrap_or, option_map}
use Rattle.std.specs.Option.{option_or}
use Rattle.std.specs.List.{list_any, list_all}
use Rattle.std.proofs.lemmas.Bool.{and_parts}
use Rattle.std.proofs.lemmas.List.{append-nil}
use Rattle.std.proofs.lemmas.List.Folds.{find-append, list_all-append}
use Rattle.terrain.proofs.Options.{none_from_is_some}
use Rattle.terrain.specs.Words.{Word}
use Rattle.terrain.specs.Decimal.{number_of}
use Rattle.ascii_grid.specs.Header.{fills, slot_of, begins_with_letter, header_words, height_words, pairs, key_left, header_fault, key_fault, value_fault, missing_fault}
use Rattle.ascii_grid.specs.GridText.{cells_wanted, words_fault, heights_fault, height_fault}
use Rattle.ascii_grid.specs.Slots.{is_given, is_centre, with_value, missing_of, wanted_of}
use Rattle.ascii_grid.specs.Reading.{flat, given, slots_of, keys_before, HasBegun}
use Rattle.ascii_grid.specs.declared.fault.Key.{Key}
use Rattle.ascii_grid.specs.declared.fault.Key.TheVariants.{Ncols, Nrows, Xll, Yll, Cellsize, Nodata}
use Rattle.ascii_grid.proofs.Keys.{fills_slot, fills_none_else}

abbrev pub Pairs : Type 0
Pairs = List (Word × Word)

abbrev pub are_keys : Pairs → Bool
are_keys ps = list_all (λ (p : Word × Word). begins_with_letter p.0) ps

-- ---- options

module _ {X : Type 0} where
  pub option_or-none : (o : Option X) → option_or o None ≡ o
  option_or-none None = refl
  option_or-none m = refl

  pub option_or-assoc : (o p q : Option X) → option_or (option_or o p) q ≡ option_or o (option_or p q)
  option_or-assoc None p q = refl
  option_or-assoc m p q = refl

  pub is_some-option_map : {Y : Type 0} (f : X → Y) (o : Option X) → is_some (option_map f o) ≡ is_some o
  is_some-option_map f None = refl
  is_some-option_map f m = refl

  pub or_none : (o p : Option X) → option_or o p ≡ None → (o ≡ None) × (p ≡ None)
  or_none None p h = (refl, h)
  or_none x p h = cc

  pub then_none : (b : Bool) (x : X) (o : Option X) → cond b (Some x) o ≡ None → (b ≡ false) × (o ≡ None)
  then_none true x o h = cc
  then_none false x o h = (refl, h)

  pub else_none : (b : Bool) (o : Option X) (x : X) → cond b o (Some x) ≡ None → (b ≡ true) × (o ≡ None)
  else_none true o x h = (refl, h)
  else_none false o x h = cc

-- ---- pairs and what follows them

pub words-flat : (ps : Pairs) (rest : List Word) → are_keys ps ≡ true →
    (header_words (flat ps ++ rest) ≡ flat ps ++ header_words rest) ×
    (height_words (flat ps ++ rest) ≡ height_words rest)
words-flat [] rest h = (refl, refl)
words-flat (p ∷ ps) rest h =
    let k = and_parts _ (are_keys ps) h in
    let more = words-flat ps rest k.1 in
    rw k.0 (rw more.0 refl, more.1)

pub words-whole : (ps : Pairs) → are_keys ps ≡ true → (header_words (flat ps) ≡ flat ps) × (height_words (flat ps) ≡ [])
words-whole ps h = rw append-nil at (words-flat ps [] h)

pub key_left-flat : (ps : Pairs) (rest : List Word) → key_left (flat ps ++ rest) ≡ key_left rest
key_left-flat [] rest = refl
key_left-flat (p ∷ ps) rest = key_left-flat ps rest

pub pairs-flat : (ps : Pairs) → pairs (flat ps) ≡ ps
pairs-flat [] = refl
pairs-flat (p ∷ ps) = rw (pairs-flat ps) refl

pub flat-push : (ps : Pairs) (k v : Word) → flat (ps ++ (k, v) ∷ []) ≡ flat ps ++ k ∷ v ∷ []
flat-push [] k v = refl
flat-push (p ∷ ps) k v = rw (flat-push ps k v) refl

pub are_keys-push : (ps : Pairs) (k v : Word) → are_keys ps ≡ true → begins_with_letter k ≡ true →
    are_keys (ps ++ (k, v) ∷ []) ≡ true
are_keys-push ps k v h b = list_all-append (λ p. begins_with_letter p.0) ps ((k, v) ∷ []) ∙ rw (h, b)

pub header_fault-flat : (before : List Word) (ps : Pairs) (rest : List Word) → header_fault before (flat ps ++ rest) ≡
    option_or (header_fault before (flat ps)) (header_fault (keys_before ps before) rest)
header_fault-flat before [] rest = refl
header_fault-flat before (p ∷ ps) rest =
    let more = header_fault-flat (p.0 ∷ before) ps rest in
    rw more (sym (option_or-assoc (key_fault before p.0)
    (option_or (value_fault p.0 p.1) (header_fault (p.0 ∷ before) (flat ps)))
    (header_fault (keys_before ps (p.0 ∷ before)) rest) ∙ ap (option_or (key_fault before p.0)) (option_or-assoc
    (value_fault p.0 p.1) (header_fault (p.0 ∷ before) (flat ps)) (header_fault (keys_before ps (p.0 ∷ before)) rest))))

pub list_any-keys_before : (t : Word → Bool) (ps : Pairs) (before : List Word) →
    list_any t (keys_before ps before) ≡ (is_some (find (λ (p : Word × Word). t p.0) ps) || list_any t before)
list_any-keys_before t [] before = refl
list_any-keys_before t (p ∷ ps) before = list_any-keys_before t ps _ ∙ go _ _
  where
    go : (a : Bool) (o : Option (Word × Word)) →
        (is_some o || (a || list_any t before)) ≡ (is_some (cond a (Some p) o) || list_any t before)
    go true None = refl
    go true (Some q) = refl
    go false None = refl
    go false (Some q) = refl

-- ---- the slots of pairs

pub is_given-slots_of : (slot : Key) (ps : Pairs) → is_given (slots_of ps) slot ≡ is_some (given slot ps)
is_given-slots_of Ncols ps = is_some-option_map _ _
is_given-slots_of slot ps = is_some-option_map _ _

pub missing_of-slots_of : (ps : Pairs) → missing_of (slots_of ps) ≡ missing_fault (flat ps)
missing_of-slots_of ps =
    rw (pairs-flat, is_given-slots_of, is_given-slots_of, is_given-slots_of, is_given-slots_of, is_given-slots_of)

pub number-of_pair : (o : Option (Word × Word)) → unwrap_or (option_map (λ (p : Word × Word). number_of p.1) o) 0 ≡
    number_of (unwrap_or (option_map (λ (p : Word × Word). p.1) o) [])
number-of_pair None = refl
number-of_pair m = refl

pub wanted_of-slots_of : (ps : Pairs) → wanted_of (slots_of ps) ≡ cells_wanted (flat ps)
wanted_of-slots_of ps = rw (pairs-flat, number-of_pair, number-of_pair)

given-push : (s : Key) (ps : Pairs) (k v : Word) →
    given s (ps ++ (k, v) ∷ []) ≡ option_or (given s ps) (cond (fills s k) (Some (k, v)) None)
given-push s ps k v = find-append (λ p. fills s p.0) ps ((k, v) ∷ [])

-- `qs` gives `p` for this slot, and agrees with `ps` on all other slots
abbrev FilledAt : Key → Word × Word → Pairs → Pairs → Type 0
FilledAt slot p ps qs = (given slot qs ≡ Some p) × ((s : Key) → (s ≡ slot → ⊥) → given s qs ≡ given s ps)

with_value-at : (slot : Key) (p : Word × Word) (ps qs : Pairs) → FilledAt slot p ps qs →
    with_value (slots_of ps) slot (is_centre p.0) p.1 ≡ slots_of qs
with_value-at Ncols p ps qs h = rw (
  h.0,
  h.1 Nrows (λ e. cc),
  h.1 Xll (λ e. cc),
  h.1 Yll (λ e. cc),
  h.1 Cellsize (λ e. cc),
  h.1 Nodata (λ e. cc),
)
with_value-at Nrows p ps qs h = rw (
  h.0,
  h.1 Ncols (λ e. cc),
  h.1 Xll (λ e. cc),
  h.1 Yll (λ e. cc),
  h.1 Cellsize (λ e. cc),
  h.1 Nodata (λ e. cc),
)
with_value-at Xll p ps qs h = rw (
  h.0,
  h.1 Ncols (λ e. cc),
  h.1 Nrows (λ e. cc),
  h.1 Yll (λ e. cc),
  h.1 Cellsize (λ e. cc),
  h.1 Nodata (λ e. cc),
)
with_value-at Yll p ps qs h = rw (
  h.0,
  h.1 Ncols (λ e. cc),
  h.1 Nrows (λ e. cc),
  h.1 Xll (λ e. cc),
  h.1 Cellsize (λ e. cc),
  h.1 Nodata (λ e. cc),
)
with_value-at Cellsize p ps qs h = rw (
  h.0,
  h.1 Ncols (λ e. cc),
  h.1 Nrows (λ e. cc),
  h.1 Xll (λ e. cc),
  h.1 Yll (λ e. cc),
  h.1 Nodata (λ e. cc),
)
with_value-at Nodata p ps qs h = rw (
  h.0,
  h.1 Ncols (λ e. cc),
  h.1 Nrows (λ e. cc),
  h.1 Xll (λ e. cc),
  h.1 Yll (λ e. cc),
  h.1 Cellsize (λ e. cc),
)

-- if the pairs `ps` leave the slot of the key `k` empty, filling it with `v` gives the slots that
-- `ps` and then the pair of `k` and `v` fill
pub with_value-slots_of : (slot : Key) (ps : Pairs) (k v : Word) → slot_of k ≡ Some slot →
    is_given (slots_of ps) slot ≡ false → with_value (slots_of ps) slot (is_centre k) v ≡ slots_of (ps ++ (k, v) ∷ [])
with_value-slots_of slot ps k v h free =
    let none = none_from_is_some (given slot ps) (sym (is_given-slots_of slot ps) ∙ free) in
    with_value-at slot (k, v) ps (ps ++ (k, v) ∷ []) (
      given-push slot ps k v ∙ rw (none, fills_slot k slot h) refl,
      λ s other. given-push s ps k v ∙ rw (fills_none_else k slot s h other) (option_or-none (given s ps)),
    )

-- ---- the first fault of the words after pairs

module _ (d : ℕ) (ps : Pairs) where
  pub words_fault-flat : (rest header heights : List Word) → are_keys ps ≡ true → header_fault [] (flat ps) ≡ None →
      header_words rest ≡ header → height_words rest ≡ heights → words_fault d (flat ps ++ rest) ≡
      option_or (header_fault (keys_before ps []) header) (heights_fault d (flat ps ++ header) 0 heights)
  words_fault-flat rest header heights keys none h k =
      let front = (words-flat ps rest keys).0 ∙ ap (flat ps ++◌) h in
      let back = (words-flat ps rest keys).1 ∙ k in
      let first =
      header_fault-flat _ ps header ∙ ap (λ o. option_or o (header_fault (keys_before ps []) header)) none in
      rw (front, back, first)

  pub words_fault-key : (k : Word) → are_keys ps ≡ true → header_fault [] (flat ps) ≡ None →
      begins_with_letter k ≡ true → words_fault d (flat ps ++ k ∷ []) ≡ key_fault (keys_before ps []) k
  words_fault-key k keys none b =
      words_fault-flat (k ∷ []) (k ∷ []) [] keys none (rw b refl) (rw b refl) ∙
      option_or-none (key_fault (keys_before ps []) k)

  pub words_fault-value : (k v : Word) → are_keys ps ≡ true → header_fault [] (flat ps) ≡ None →
      begins_with_letter k ≡ true → key_fault (keys_before ps []) k ≡ None →
      words_fault d (flat ps ++ k ∷ v ∷ []) ≡ value_fault k v
  words_fault-value k v keys none b first =
      words_fault-flat (k ∷ v ∷ []) (k ∷ v ∷ []) [] keys none (rw b refl) (rw b refl) ∙
      option_or-none (header_fault (keys_before ps []) (k ∷ v ∷ [])) ∙ rw first (option_or-none (value_fault k v))

pub words-begun : (hs : List Word) → HasBegun hs → (header_words hs ≡ []) × (height_words hs ≡ hs)
words-begun [] h = absurd h
words-begun (x ∷ []) h = (rw h, rw h)
words-begun (x ∷ y ∷ hs) h = (rw h, rw h)

pub HasBegun-more : (hs more : List Word) → HasBegun hs → HasBegun (hs ++ more)
HasBegun-more [] more h = absurd h
HasBegun-more hs more h = h

pub words_fault-heights : (d : ℕ) (ps : Pairs) (hs : List Word) → are_keys ps ≡ true →
    header_fault [] (flat ps) ≡ None → HasBegun hs → words_fault d (flat ps ++ hs) ≡ heights_fault d (flat ps) 0 hs
words_fault-heights d ps hs keys none h =
    words_fault-flat d ps hs _ hs keys none (words-begun hs h).0 (words-begun hs h).1 ∙
    ap (λ z. heights_fault d z 0 hs) (append-nil (flat ps))

pub heights_fault-push : (d : ℕ) (header : List Word) (place : ℕ) (hs : List Word) (w : Word) →
    heights_fault d header place (hs ++ w ∷ []) ≡
    option_or (heights_fault d header place hs) (height_fault d header (place + length hs) w)
heights_fault-push d header place [] w = option_or-none _ ∙ ap (λ n. height_fault d header n w) (omega arith)
heights_fault-push d header place (x ∷ hs) w =
    rw (heights_fault-push d header (place + 1) hs w ∙ ap
    (λ n. option_or (heights_fault d header (place + 1) hs) (height_fault d header n w))
    (let e : place + 1 + length hs ≡ place + (suc (length hs)) = omega arith in e)) (sym (option_or-assoc
    (height_fault d header place x) (heights_fault d header (place + 1) hs)
    (height_fault d header (place + suc (length hs)) w)))
