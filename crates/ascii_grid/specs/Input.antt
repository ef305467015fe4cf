-- Reading a grid from a device: the bytes that the call takes and the result that it returns, also
-- where a read fails.
-- Source: this project.
-- Trust base.
use Rattle.std.specs.Prelude.{◌≡◌, ◌≢◌, ◌≤◌, ◌+◌, ℕ, List, length, Option, None, Some, Result, Err, IfOk}
use Rattle.std.specs.Io.KnownBytes.{IsAtEnd}
use Rattle.terrain.specs.Raster.{Raster}
use Rattle.ascii_grid.specs.Device.{Device, HasRead}
use Rattle.ascii_grid.specs.GridText.{IsGridText, IsRefusal, fault_so_far, most_bytes}
use Rattle.ascii_grid.specs.declared.fault.GridFault.{GridFault}
use Rattle.ascii_grid.specs.declared.input.InputFault.{InputFault}
use Rattle.ascii_grid.specs.declared.input.InputFault.TheVariants.{Grid, Read}

-- Some bytes were read from the device, at most one more than a text may have.
pub record Takes {R : Type 0} (remaining : R → Option (List ℕ)) (old new : Device R) : Type 0 where
  pub bytes : List ℕ
  pub read : HasRead remaining old new bytes
  pub few : length bytes ≤ most_bytes + 1

-- A call reads a grid from a device. `remaining` is the text left to read from a device, if known.
pub record ReadsGrid {R : Type 0} (remaining : R → Option (List ℕ)) (scale : ℕ) (old new : Device R)
    (result : Result Raster InputFault) : Type 0 where
  pub taken : Takes remaining old new
  -- On `Ok` the bytes read spell the grid, and no byte is left, if that is known.
  pub grid : IfOk result (λ g. IsGridText scale taken.bytes g × IsAtEnd (remaining new.device))
  -- On `Err (Grid f)`, let the text that the device held before the call be known. Then `f` is its
  -- first fault, or `Memory` if its header leads to the allocation of the cells. The call may have
  -- stopped before the end of the text.
  pub fault : (text : List ℕ) (f : GridFault) → remaining old.device ≡ Some text →
      result ≡ Err (Grid f) → IsRefusal scale text f
  -- The count of failures rises by one on `Err Read`, and else does not change.
  pub read : result ≡ Err Read → new.failures ≡ old.failures + 1
  pub sound : result ≢ Err Read → new.failures ≡ old.failures
  -- On `Err Read`, no word that a separator ended before the failure has a fault, and at most 2^29
  -- bytes were read.
  pub clean : result ≡ Err Read → fault_so_far scale taken.bytes ≡ None
