-- What a run reads, writes and returns, for every schedule of its workers.
-- Trust base.
use Rattle.std.specs.Prelude.{◌≡◌, ◌≢◌, ◌↔◌, ℕ, ◌<◌, List, Option, None, Some, Result, Err, OnOk, IfErr}
use Rattle.std.specs.Io.KnownBytes.{IsAtEnd}
use Rattle.ascii_grid.specs.Device.{Device, HasWritten, HasWrittenPart}
use Rattle.ascii_grid.specs.GridText.{fault_so_far}
use Rattle.ascii_grid.specs.Input.{Takes}
use Rattle.relief.specs.declared.fault.RunFault.{RunFault}
use Rattle.relief.specs.declared.fault.RunFault.TheVariants.{Read, Write}
use Rattle.request.specs.Request.{Request}
use Rattle.relief.specs.MapText.{IsMapOfText}
use Rattle.relief.specs.Refusals.{IsFaultOnText}

-- A run of the request `w`, which leaves `reader` as `left` and `writer` as `grown`. `remaining`
-- gives the bytes that a reader has still to return, and `contents` the bytes written to a writer,
-- if they are known.
pub record Runs {R W T : Type 0} (remaining : R → Option (List ℕ)) (contents : W → Option (List ℕ))
    (w : Request) (reader left : Device R) (writer grown : Device W)
    (result : Result T RunFault) : Type 0 where
  -- At most 2^29 + 1 bytes are read; a text of that many bytes is too long.
  pub taken : Takes remaining reader left
  -- On `Ok` the whole map was written and nothing else. It is the map, with the requested sinks, of
  -- the grid that the bytes read spell. No byte is left to read, if that is known.
  pub written : OnOk result ((map : List ℕ) × IsMapOfText w.scale w.map w.sinks taken.bytes map
      × HasWritten contents writer grown map × IsAtEnd (remaining left.device))
  -- If the reader's whole text is known, the fault is one that a run may return for that text.
  pub refused : (text : List ℕ) → remaining reader.device ≡ Some text →
      IfErr result (λ f. IsFaultOnText w text f)
  -- Unless a write failed, a fault leaves the writer unchanged.
  pub unwritten : IfErr result (λ f. f ≢ Write → grown ≡ writer)
  -- If a write failed, a front part of the map was written, perhaps nothing or all of it.
  pub part : result ≡ Err Write → (map : List ℕ) × IsMapOfText w.scale w.map w.sinks taken.bytes map
      × HasWrittenPart contents writer grown map × IsAtEnd (remaining left.device)
  -- The result is `Read` exactly if a failure of the reader was counted, and `Write` exactly if one
  -- of the writer was.
  pub read : (result ≡ Err Read) ↔ (reader.failures < left.failures)
  pub write : (result ≡ Err Write) ↔ (writer.failures < grown.failures)
  pub sound : OnOk result ((left.failures ≡ reader.failures) × (grown.failures ≡ writer.failures))
  -- On `Read`, the words that a separator ended before the failure have no fault, and at most 2^29
  -- bytes were read.
  pub clean : result ≡ Err Read → fault_so_far w.scale taken.bytes ≡ None
