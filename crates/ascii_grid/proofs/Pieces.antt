-- A grid is read from a device in pieces. Before each piece (`HasFedSoFar`), the reader was fed all
-- bytes read so far. The result for all pieces together is that of reading the grid (`ReadsGrid`).
use Rattle.std.proofs.Common.{arith, ◌≡◌, ◌≢◌, ◌≤◌, ◌+◌, ◌++◌, ℕ, List, Option, None, Some, Ok, Err, Result, length, take, refl, sym, subst, ◌∙◌, inl, inr}
use Rattle.std.specs.Prelude.{IfOk}
use Rattle.std.specs.Io.KnownBytes.{Consumes, IsAtEnd, Keeps}
use Rattle.std.proofs.lemmas.Bool.{cases_lt}
use Rattle.std.proofs.lemmas.List.{append-nil, length-append, length-take-le}
use Rattle.std.proofs.lemmas.Option.{same_Some}
use Rattle.std.proofs.lemmas.Result.{IfOk-weaker}
use Rattle.terrain.specs.Raster.{Raster}
use Rattle.ascii_grid.specs.Device.{Device, HasRead, Moves}
use Rattle.ascii_grid.specs.GridText.{IsGridText, IsRefusal, fault_so_far, most_bytes}
use Rattle.ascii_grid.specs.Input.{ReadsGrid}
use Rattle.ascii_grid.specs.Reader.{Reader, WasFed, Feeds}
use Rattle.ascii_grid.specs.declared.fault.GridFault.{GridFault}
use Rattle.ascii_grid.specs.declared.fault.GridFault.TheVariants.{TooLong}
use Rattle.ascii_grid.specs.declared.input.InputFault.{InputFault}
use Rattle.ascii_grid.specs.declared.input.InputFault.TheVariants.{Grid, Read}
use Rattle.ascii_grid.proofs.Judging.{or_none}
use Rattle.ascii_grid.proofs.Feeding.{many_so_far, stays}
use Rattle.ascii_grid.proofs.Moved.{read_more, read_some, read_kept}

-- `taken` bytes were read and fed to the reader, without a fault or a failure so far
pub record HasFedSoFar {R : Type 0} (remaining : R → Option (List ℕ)) (first now : Device R) (scale : ℕ) (r : Reader)
    (taken : ℕ) : Type 0 where
  pub text : List ℕ
  pub fed : WasFed r text
  pub faultless : fault_so_far scale text ≡ None
  pub scale_kept : r.scale ≡ scale
  pub size : length text ≡ taken
  pub room : taken ≤ 536870912
  pub count : now.failures ≡ first.failures
  pub read : HasRead remaining first now text

not_too_long : (d : ℕ) (text : List ℕ) → fault_so_far d text ≡ None → length text ≤ most_bytes
not_too_long d text none =
    elim (cases_lt most_bytes _) [
      | inl far ↦ let long = (or_none _ (Some TooLong) (sym (many_so_far d text far) ∙ none)).1 in absurd cc
      | inr near ↦ near
    ]

consumed_front : (a b : Option (List ℕ)) (text front : List ℕ) → a ≡ Some text → Consumes a b front →
    (rest : List ℕ) × (text ≡ front ++ rest)
consumed_front None b text front e h = absurd cc
consumed_front (Some xs) None text front e h = absurd h
consumed_front (Some xs) (Some ys) text front e h = (ys, sym (same_Some xs text e) ∙ h)

pub consumed_end : (a b : Option (List ℕ)) (text front : List ℕ) → a ≡ Some text → Consumes a b front → IsAtEnd b →
    front ≡ text
consumed_end None b text front e h end = absurd cc
consumed_end (Some xs) None text front e h end = absurd h
consumed_end (Some xs) ys text front e h end = sym (sym (same_Some xs text e) ∙ h ∙ rw end (append-nil front))

same_grid_fault : (f g : GridFault) → ◌≡◌ {A = Result Raster InputFault} (Err (Grid f)) (Err (Grid g)) → f ≡ g
same_grid_fault f g e = cc

module _ {R : Type 0} (remaining : R → Option (List ℕ)) (first old new : Device R) (scale taken : ℕ) (r : Reader)
    (held : HasFedSoFar remaining first old scale r taken) where
  module _ (r' : Reader) (piece : List ℕ) (n : ℕ) (within : n ≤ length piece)
      (known : Consumes (remaining old.device) (remaining new.device) (take n piece))
      (moved : Moves old.moved new.moved n) (same : new.failures ≡ old.failures) where
    abbrev text : List ℕ
    text = held.text ++ take n piece

    read : HasRead remaining first new text
    read =
        read_more remaining first old new held.text (take n piece) held.read
        (read_some remaining old new n piece within known moved)

    size : length text ≡ taken + n
    size = omega (arith, length-append held.text (take n piece), length-take-le n piece within, held.size)

    -- the first `n` bytes of `piece` were read and fed without a fault
    pub piece_fed : Feeds r r' (take n piece) (Ok (tt {0})) → HasFedSoFar remaining first new scale r' (taken + n)
    piece_fed feeds =
        let faultless : fault_so_far scale text ≡ None = rw held.scale_kept at (feeds.ok held.text held.fed) in
        record {
          text = text;
          fed = feeds.taken held.text held.fed;
          faultless = faultless;
          scale_kept = feeds.scale ∙ held.scale_kept;
          size = size;
          room = omega (arith, size, not_too_long scale text faultless);
          count = same ∙ held.count;
          read = read;
        }

    -- they were read, and the fault `f` was found
    pub piece_refused : (f : GridFault) → Feeds {T = Unit {0}} r r' (take n piece) (Err f) → taken + n ≤ 536870913 →
        ReadsGrid remaining scale first new (Err (Grid f))
    piece_refused f feeds few = record {
      taken = record { bytes = text; read = read; few = omega (arith, size, few) };
      grid = tt;
      fault = λ whole g reported is.
          let more = consumed_front _ _ whole text reported read.known in
          let refused =
          subst (λ (z : List ℕ). IsRefusal r.scale z f) (sym more.1)
          (stays _ text more.0 f (feeds.err held.text held.fed)) in
          rw (held.scale_kept, same_grid_fault _ _ is) at refused;
      read = λ bad. absurd (cc);
      sound = λ not. same ∙ held.count;
      clean = λ bad. absurd (cc);
    }

  -- a read failed
  pub read_failed : Keeps (remaining old.device) (remaining new.device) → new.moved ≡ old.moved →
      new.failures ≡ old.failures + 1 → ReadsGrid remaining scale first new (Err Read)
  read_failed kept same more = record {
    taken = record { bytes = held.text; read = read_kept _ _ _ _ _ held.read kept same; few = omega arith };
    grid = tt;
    fault = λ text g reported is. absurd cc;
    read = λ bad. omega arith;
    sound = λ not. absurd (not refl);
    clean = λ bad. held.faultless;
  }

-- at the end of the text, a result that meets what `finish_grid` ensures meets `ReadsGrid`
pub pieces_ended : {R : Type 0} {remaining : R → Option (List ℕ)} {first now : Device R} {scale taken : ℕ} {r : Reader}
    (result : Result Raster InputFault) → HasFedSoFar remaining first now scale r taken →
    IsAtEnd (remaining now.device) → ((text : List ℕ) → WasFed r text → IfOk result (λ g. IsGridText r.scale text g)) →
    ((text : List ℕ) (f : GridFault) → WasFed r text → result ≡ Err (Grid f) → IsRefusal r.scale text f) →
    result ≢ Err Read → ReadsGrid remaining scale first now result
pieces_ended {taken} result held end grid fault sound =
    record {
      taken = record { bytes = held.text; read = held.read; few = omega arith };
      grid = IfOk-weaker result _ _ (λ g is. (is, end)) (rw held.scale_kept at (grid held.text held.fed));
      fault = λ text f reported is.
          let whole = rw (consumed_end _ _ text _ reported held.read.known end) at held.fed in
          rw held.scale_kept at (fault text f whole is);
      read = λ bad. absurd (sound bad);
      sound = λ not. held.count;
      clean = λ bad. absurd (sound bad);
    }
