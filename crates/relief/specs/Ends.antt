-- How the program ends: what it has read and written, and its exit status.
-- Trust base.
use Rattle.std.specs.Prelude.{◌≡◌, ◌≢◌, ◌⊎◌, ℕ, List, ◌++◌, Option, Result, ⊤, MatchResult, codes, decimal}
use Rattle.ascii_grid.specs.Device.{Device, Writes}
use Rattle.ascii_grid.specs.declared.counted.WriteFailed.{WriteFailed}
use Rattle.clap.specs.Words.{Text}
use Rattle.clap.specs.declared.error.kind.ErrorKind.{ErrorKind}
use Rattle.clap.specs.declared.error.kind.ErrorKind.TheVariants.{OutOfMemory}
use Rattle.relief.specs.declared.fault.RunFault.{RunFault}
use Rattle.relief.specs.FaultLine.{fault_line, fault_status}
use Rattle.request.specs.Request.{Request}
use Rattle.relief.specs.Runs.{Runs}
use Rattle.request.specs.CommandLine.{AskForHelp, AreRefused, HasBadGauge, HasBadObserver, HasBadSink, HasMapsFault, IsHelp, RequestFor}
use Rattle.request.specs.declared.map_words.MapsFault.{MapsFault}
use Rattle.request.specs.declared.map_words.MapsFault.TheVariants.{UnknownMap, RepeatedMap, NoGauge, NoCatchments}

-- `text` was written to the device, or a front part of it, perhaps none or all, if the write
-- failed.
abbrev pub WritesLine : {D : Type 0} → (D → Option (List ℕ)) → Device D → Device D → List ℕ → Type 0
WritesLine contents old new text =
    (written : Result ⊤ WriteFailed) × Writes contents old new text written

-- After `Ok` the status is 0 and the error device is unchanged. After a fault the status is the
-- fault's, and the fault's line was written to the error device as `WritesLine` says.
abbrev pub EndsAs : {E : Type 0} → (E → Option (List ℕ)) → Device E → Device E → Result ⊤ RunFault →
    ℕ → Type 0
EndsAs lines errors reported result status = MatchResult result
    (λ _. (status ≡ 0) × (reported ≡ errors))
    (λ f. (status ≡ fault_status f) × WritesLine lines errors reported (fault_line f))

-- The program ran the requested map and ends as the run's result demands.
pub record EndsRun {R W E : Type 0} (remaining : R → Option (List ℕ))
    (contents : W → Option (List ℕ)) (lines : E → Option (List ℕ)) (request : Request)
    (reader left : Device R) (writer grown : Device W) (errors reported : Device E)
    (status : ℕ) : Type 0 where
  pub result : Result ⊤ RunFault
  pub runs : Runs remaining contents request reader left writer grown result
  pub ends : EndsAs lines errors reported result status

-- The text ends with a line feed.
abbrev pub EndsLine : List ℕ → Type 0
EndsLine text = (front : List ℕ) × (text ≡ front ++ codes "\n")

-- The line for a fault of map words. A bad word's number counts from 0 among the map words.
abbrev pub maps_fault_line : MapsFault → List ℕ
maps_fault_line (UnknownMap place) = codes "relief: bad map word " ++ decimal place ++ codes "\n"
maps_fault_line RepeatedMap = codes "relief: a map is named twice\n"
maps_fault_line NoGauge = codes "relief: catchments without a gauge\n"
maps_fault_line NoCatchments = codes "relief: a gauge without catchments\n"

-- A message for refused words, with a line feed last. For a bad observer, gauge or sink word it
-- gives the first such word's number, from 0 among the words for observers, gauges or sinks; for
-- map words it names their fault. The text of other messages is left open.
pub record IsRefusalText (words : List Text) (text : List ℕ) : Type 0 where
  pub refused : AreRefused words
  pub line : EndsLine text
  pub bad_observer : (place : ℕ) → HasBadObserver words place →
      text ≡ codes "relief: bad observer word " ++ decimal place ++ codes "\n"
  pub bad_gauge : (place : ℕ) → HasBadGauge words place →
      text ≡ codes "relief: bad gauge word " ++ decimal place ++ codes "\n"
  pub bad_sink : (place : ℕ) → HasBadSink words place →
      text ≡ codes "relief: bad sink word " ++ decimal place ++ codes "\n"
  pub bad_maps : (fault : MapsFault) → HasMapsFault words fault → text ≡ maps_fault_line fault

-- Nothing was read. Status 0: the words ask for help or the version, and a text that ends with a
-- line feed was written to the writer as `WritesLine` says. Status 1: the words are refused, and a
-- message was written to the error device as `WritesLine` says. Status 3: nothing was written. The
-- program ends so only where memory is refused; the definition does not ask why.
pub record EndsUnread {R W E : Type 0} (contents : W → Option (List ℕ))
    (lines : E → Option (List ℕ)) (words : List Text) (reader left : Device R)
    (writer grown : Device W) (errors reported : Device E) (status : ℕ) : Type 0 where
  pub unread : left ≡ reader
  pub reason : (AskForHelp words × (status ≡ 0)
      × ((text : List ℕ) × EndsLine text × WritesLine contents writer grown text)
      × (reported ≡ errors))
      ⊎ (((text : List ℕ) × IsRefusalText words text × WritesLine lines errors reported text)
      × (status ≡ 1) × (grown ≡ writer))
      ⊎ ((status ≡ 3) × (grown ≡ writer) × (reported ≡ errors))

-- The program ends without reading the grid, or it ran the map that its words request.
abbrev pub EndsProgram : {R W E : Type 0} → (R → Option (List ℕ)) → (W → Option (List ℕ)) →
    (E → Option (List ℕ)) → List Text → Device R → Device R → Device W → Device W → Device E →
    Device E → ℕ → Type 0
EndsProgram remaining contents lines words reader left writer grown errors reported status =
    EndsUnread contents lines words reader left writer grown errors reported status
    ⊎ ((request : Request) × RequestFor words request
    × EndsRun remaining contents lines request reader left writer grown errors reported status)

-- How the program ends when `clap` gives an error of this kind. Status 0: the kind is help or the
-- version. Status 1: the kind is any other but `OutOfMemory`. A text that ends with a line feed was
-- written, as `WritesLine` says: at status 0 to the writer, at status 1 to the error device.
-- Status 3: nothing was written. The program ends so only where memory is refused; the definition
-- does not ask why.
abbrev pub EndsShowing : {W E : Type 0} → (W → Option (List ℕ)) → (E → Option (List ℕ)) →
    ErrorKind → Device W → Device W → Device E → Device E → ℕ → Type 0
EndsShowing contents lines kind writer grown errors reported status =
    (IsHelp kind × (status ≡ 0)
    × ((text : List ℕ) × EndsLine text × WritesLine contents writer grown text)
    × (reported ≡ errors))
    ⊎ ((¬ IsHelp kind × (kind ≢ OutOfMemory))
    × ((text : List ℕ) × EndsLine text × WritesLine lines errors reported text) × (status ≡ 1)
    × (grown ≡ writer))
    ⊎ ((status ≡ 3) × (grown ≡ writer) × (reported ≡ errors))
