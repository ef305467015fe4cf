-- The words so far as `GridBuilder` and `Tokenizer` store them: slots, cells, an unfinished word.
-- Also the faults that may be reported for words.
-- Source: this project.
-- Public.
use Rattle.std.specs.Prelude.{◌≡◌, ◌≤◌, ℕ, Bool, true, false, List, [], ◌∷◌, ◌++◌, map, find, take, length, Option, None, Some, option_map}
use Rattle.std.specs.List.{list_all, list_any}
use Rattle.terrain.specs.Words.{Word, is_separator, words, ended_words}
use Rattle.terrain.specs.Decimal.{number_of, scaled_value}
use Rattle.ascii_grid.specs.Header.{fills, slot_of, begins_with_letter, header_fault, key_fault, missing_fault, nodata_for}
use Rattle.ascii_grid.specs.GridText.{AsksForCells, AsksAtHeight, IsReported, spelled_cell, cells_wanted, height_fault, words_fault, heights_fault, end_fault}
use Rattle.ascii_grid.specs.Slots.{anchor_at, is_given, is_centre}
use Rattle.ascii_grid.specs.declared.fault.Key.{Key}
use Rattle.ascii_grid.specs.declared.fault.Key.TheVariants.{Ncols, Nrows, Xll, Yll, Cellsize, Nodata}
use Rattle.ascii_grid.specs.declared.fault.GridFault.{GridFault}
use Rattle.ascii_grid.specs.declared.header.Header.{Header}
use Rattle.ascii_grid.specs.declared.builder.Expected.{Expected}
use Rattle.ascii_grid.specs.declared.builder.Expected.TheVariants.{AtKey, AtValue, AtHeights}
use Rattle.ascii_grid.specs.declared.builder.GridBuilder.{GridBuilder}
use Rattle.ascii_grid.specs.declared.tokenizer.Tokenizer.{Tokenizer}
use Rattle.ascii_grid.specs.declared.tokenizer.TheConstants.{KEPT_BYTES}

-- The key and the value words of pairs, in their order.
abbrev pub flat : List (Word × Word) → List Word
flat [] = []
flat (p ∷ ps) = p.0 ∷ p.1 ∷ flat ps

-- The first of these pairs whose key fills the slot.
abbrev pub given : Key → List (Word × Word) → Option (Word × Word)
given slot ps = find (λ (p : Word × Word). fills slot p.0) ps

-- The slots that these pairs fill.
abbrev pub slots_of : List (Word × Word) → Header
slots_of ps = record {
  cols = option_map (λ (p : Word × Word). number_of p.1) (given Ncols ps);
  rows = option_map (λ (p : Word × Word). number_of p.1) (given Nrows ps);
  xll = option_map (λ (p : Word × Word). anchor_at (is_centre p.0) p.1) (given Xll ps);
  yll = option_map (λ (p : Word × Word). anchor_at (is_centre p.0) p.1) (given Yll ps);
  cellsize = option_map (λ (p : Word × Word). p.1) (given Cellsize ps);
  nodata = option_map (λ (p : Word × Word). p.1) (given Nodata ps);
}

-- The keys of these pairs, the last pair's key first, and then the keys `before`.
abbrev pub keys_before : List (Word × Word) → List Word → List Word
keys_before [] before = before
keys_before (p ∷ ps) before = keys_before ps (p.0 ∷ before)

-- `h` stores the values of the pairs `ps` in their slots. Each key begins with a letter, and no
-- pair has a fault.
pub record IsHeaderOf (h : Header) (ps : List (Word × Word)) : Type 0 where
  pub keys : list_all (λ (p : Word × Word). begins_with_letter p.0) ps ≡ true
  pub faultless : header_fault [] (flat ps) ≡ None
  pub slots : h ≡ slots_of ps

-- The key word `k` follows the pairs `ps` without a fault and names `slot`, which these pairs leave
-- empty. `centre` tells whether `k` names a cell's centre.
pub record AwaitsValue (ps : List (Word × Word)) (k : Word) (slot : Key)
    (centre : Bool) : Type 0 where
  pub letter : begins_with_letter k ≡ true
  pub faultless : key_fault (keys_before ps []) k ≡ None
  pub key_is : slot_of k ≡ Some slot
  pub named : centre ≡ is_centre k
  pub free : is_given (slots_of ps) slot ≡ false

-- There is a first word, and it begins with no letter. So it is a height, and no later word is a
-- key.
abbrev pub HasBegun : List Word → Type 0
HasBegun [] = ⊥
HasBegun (h ∷ rest) = begins_with_letter h ≡ false

-- The pairs `ps` fill all required slots, and the words `hs` follow as heights without a fault.
-- `j` stores the cells of `hs`, and the count of cells and the NODATA word for `ps`.
pub record HasReadHeights (j : GridBuilder) (ps : List (Word × Word)) (hs : List Word) : Type 0
  where
    pub whole : missing_fault (flat ps) ≡ None
    pub wanted : j.wanted ≡ cells_wanted (flat ps)
    pub nodata : j.nodata ≡ nodata_for (flat ps)
    pub value : j.nodata_value ≡ scaled_value j.scale j.nodata
    pub faultless : heights_fault j.scale (flat ps) 0 hs ≡ None
    pub cells : j.cells.items ≡ map (spelled_cell j.scale j.nodata) hs

-- `rest` is what follows the pairs: nothing before a key or the first height, a key before its
-- value, or else the heights so far.
abbrev pub FitsExpected : GridBuilder → List (Word × Word) → List Word → Expected → Type 0
FitsExpected j ps rest AtKey = rest ≡ []
FitsExpected j ps rest (AtValue slot centre) = (k : Word) × (rest ≡ k ∷ [])
    × AwaitsValue ps k slot centre
FitsExpected j ps rest AtHeights = HasBegun rest × HasReadHeights j ps rest

-- `j` has read the words `ws` without a fault. They are the `pairs` of a header and then `rest`.
pub record HasAdded (j : GridBuilder) (ws : List Word) : Type 0 where
  pub pairs : List (Word × Word)
  pub rest : List Word
  pub words : ws ≡ flat pairs ++ rest
  pub header : IsHeaderOf j.header pairs
  pub at : FitsExpected j pairs rest j.expected

-- `f` may be reported for these words: their first fault, or want of memory at the first height.
abbrev pub IsWordFault : ℕ → List Word → GridFault → Type 0
IsWordFault d ws f = IsReported (AsksAtHeight ws) (words_fault d ws) f

-- `f` may be reported where the header of the pairs `ps` ends: a missing slot, or want of memory.
abbrev pub IsHeaderFault : List (Word × Word) → GridFault → Type 0
IsHeaderFault ps f = IsReported (missing_fault (flat ps) ≡ None) (missing_fault (flat ps)) f

-- `f` may be reported for the height `w` after the heights `hs`: its fault, or want of memory.
abbrev pub IsHeightFault : ℕ → List (Word × Word) → List Word → Word → GridFault → Type 0
IsHeightFault d ps hs w f = IsReported (Unit {0}) (height_fault d (flat ps) (length hs) w) f

-- `f` may be reported where a text of these words ends: `end_fault`, or want of memory for the
-- cells.
abbrev pub IsEndFault : List Word → GridFault → Type 0
IsEndFault ws f = IsReported (AsksForCells ws) (end_fault ws) f

-- `w` is what follows the last separator of `text`: more bytes are joined to it, and change no word
-- that a separator has ended.
pub record IsParted (text : List ℕ) (w : Word) : Type 0 where
  pub plain : list_any is_separator w ≡ false
  pub all : (more : List ℕ) → words (text ++ more) ≡ ended_words text ++ words (w ++ more)

-- `p` has read the ended words of `text` without a fault, and stores the front of the unfinished
-- word.
pub record HasWords (p : Tokenizer) (text : List ℕ) : Type 0 where
  pub last : Word
  pub parted : IsParted text last
  pub judged : HasAdded p.builder (ended_words text)
  pub front : p.word ≡ take KEPT_BYTES last

-- `new` is `old` after the bytes from the place `from` to `at`, in which no word has a fault.
pub record HasTaken (old new : Tokenizer) (bytes : List ℕ) (from at : ℕ) : Type 0 where
  pub scale : new.builder.scale ≡ old.builder.scale
  pub further : from ≤ at
  pub within : at ≤ length bytes
  pub words : (text : List ℕ) → HasWords old (text ++ take from bytes) →
      HasWords new (text ++ take at bytes)

-- A height has ended, and no byte of the next word was read.
abbrev pub IsBetweenHeights : Tokenizer → Type 0
IsBetweenHeights p = (p.builder.expected ≡ AtHeights) × (p.word ≡ [])

-- `scale` is the scale of the heights, and at most 6.
abbrev pub IsScaled : ℕ → Tokenizer → Type 0
IsScaled scale p = (scale ≡ p.builder.scale) × (scale ≤ 6)
