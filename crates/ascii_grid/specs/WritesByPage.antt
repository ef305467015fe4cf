-- The effect of a call that adds text to a page. A page is a buffer that goes to the device when
-- its free part may be too short for the next text.
-- Source: this project.
-- Private.
use Rattle.std.specs.Prelude.{◌≡◌, ℕ, List, ◌++◌, Option, Result, OnOk, OnErr}
use Rattle.ascii_grid.specs.Device.{Device, HasWritten, HasWrittenPart, CountsFailure}

-- The bytes `sent` to the device, followed by the page after the call, equal the page before the
-- call, followed by the text.
abbrev pub LosesNoByte : {W : Type 0} → (W → Option (List ℕ)) → Device W → List ℕ → Device W →
    List ℕ → List ℕ → Type 0
LosesNoByte contents old page_before new page_after text =
    (sent : List ℕ) × HasWritten contents old new sent × (sent ++ page_after ≡ page_before ++ text)

-- A call writes this text by way of the page. On `Ok` all of it is in the device or the page, and
-- no failure was counted. On `Err` a front part of page and text, perhaps none or all, was written,
-- and the count of failures has risen by one.
pub record WritesByPage {W T E : Type 0} (contents : W → Option (List ℕ)) (old : Device W)
    (page_before : List ℕ) (new : Device W) (page_after : List ℕ) (text : List ℕ)
    (result : Result T E) : Type 0 where
  pub count : CountsFailure old.failures new.failures result
  pub all : OnOk result (LosesNoByte contents old page_before new page_after text)
  pub part : OnErr result (HasWrittenPart contents old new (page_before ++ text))
