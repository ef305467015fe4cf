-- After pieces of a text were fed to a reader: the text that it has read, or its fault.
-- Source: this project.
-- Public.
use Rattle.std.specs.Prelude.{◌≡◌, ℕ, ◌≤◌, List, ◌++◌, length, Option, None, Some, MatchOption, Result, Err, OnOk, IfErr}
use Rattle.std.specs.Result.{result_err}
use Rattle.ascii_grid.specs.GridText.{most_bytes, fault_so_far, IsRefusalSoFar}
use Rattle.ascii_grid.specs.Reading.{HasWords}
use Rattle.ascii_grid.specs.declared.fault.GridFault.{GridFault}
use Rattle.ascii_grid.specs.declared.tokenizer.Tokenizer.{Tokenizer}

-- A reader's scale, the fault that it has returned, if any, its words, and its count of bytes read
-- without a fault.
pub record Reader : Type 0 where
  pub scale : ℕ
  pub fault : Option GridFault
  pub words : Tokenizer
  pub count : ℕ

-- The reader has read this text, of at most 2^29 bytes, and its ended words have no fault.
pub record IsReading (r : Reader) (text : List ℕ) : Type 0 where
  pub words_of : HasWords r.words text
  pub same_scale : r.words.builder.scale ≡ r.scale
  pub size : r.count ≡ length text
  pub short : length text ≤ most_bytes

-- A reader without a fault, of these words and this count of bytes.
abbrev pub reading : Tokenizer → ℕ → Reader
reading words count = record {
  scale = words.builder.scale;
  fault = None;
  words = words;
  count = count;
}

-- The reader was fed this text. It has read the whole text, or has refused it with a fault.
abbrev pub WasFed : Reader → List ℕ → Type 0
WasFed r text = MatchOption r.fault (IsReading r text) (IsRefusalSoFar r.scale text)

-- The reader was fed one more piece, with this result. The fault of a word is returned once a
-- separator has ended the word, and again for each later piece.
pub record Feeds {T : Type 0} (old new : Reader) (piece : List ℕ)
    (result : Result T GridFault) : Type 0 where
  pub scale : new.scale ≡ old.scale
  pub taken : (text : List ℕ) → WasFed old text → WasFed new (text ++ piece)
  pub ok : (text : List ℕ) → WasFed old text →
      OnOk result (fault_so_far old.scale (text ++ piece) ≡ None)
  pub err : (text : List ℕ) → WasFed old text →
      IfErr result (λ f. IsRefusalSoFar old.scale (text ++ piece) f)
  pub fault : new.fault ≡ result_err result
  pub again : (f : GridFault) → old.fault ≡ Some f → result ≡ Err f
