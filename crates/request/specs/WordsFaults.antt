-- Conditions that a command line's words meet if `parse` returns a fault for them.
-- Public.
use Rattle.std.specs.Prelude.{◌≡◌, ℕ, ⊤, List, [], Some, codes}
use Rattle.clap.specs.Words.{Row, Text, kind_of}
use Rattle.clap.specs.Faults.{fault_of}
use Rattle.clap.specs.Kinds.{HasKind}
use Rattle.clap.specs.declared.error.kind.ErrorKind.TheVariants.{OutOfMemory}
use Rattle.terrain.specs.declared.place.Place.{Place}
use Rattle.request.specs.declared.map.Map.{Map}
use Rattle.request.specs.declared.map_words.MapsFault.{MapsFault}
use Rattle.request.specs.PlaceWords.{observer_of, place_of_word}
use Rattle.request.specs.Request.{Request}
use Rattle.request.specs.CommandLine.{HasBadGauge, HasBadObserver, HasBadSink, HasGauges, HasMapsFault, IsFirstBad, Names, RequestFor, TakesGauges, TakesObservers, fault_of_maps, program_app, words_of}
use Rattle.request.specs.declared.words.WordsFault.{WordsFault}
use Rattle.request.specs.declared.words.WordsFault.TheVariants.{Clap, BadObserver, BadGauge, BadSink, BadMaps, NoMap}
use Rattle.request.specs.declared.words.BadWord.{BadWord}
use Rattle.request.specs.declared.words.BadWord.TheVariants.{At, NoMemory}

-- Memory was refused, or `Bad` holds of the bad word's number `place`.
abbrev pub IsBadWord : (ℕ → Type 0) → BadWord → Type 0
IsBadWord Bad (At place) = Bad place
IsBadWord Bad (NoMemory e) = ⊤

-- If a word is bad, `Observer`, `Gauge` or `Sink`, by the word's kind, holds of the word's number
-- `place`. For a fault of map words, `Maps` holds of the fault. If the fault is `NoMap`, `Missing`
-- holds. Any other fault is refused memory.
abbrev pub IsFaultWith : (ℕ → Type 0) → (ℕ → Type 0) → (ℕ → Type 0) → (MapsFault → Type 0) →
    Type 0 → WordsFault → Type 0
IsFaultWith Observer Gauge Sink Maps Missing (Clap e) = kind_of e ≡ OutOfMemory
IsFaultWith Observer Gauge Sink Maps Missing (BadObserver place) = Observer place
IsFaultWith Observer Gauge Sink Maps Missing (BadGauge place) = Gauge place
IsFaultWith Observer Gauge Sink Maps Missing (BadSink place) = Sink place
IsFaultWith Observer Gauge Sink Maps Missing (BadMaps fault) = Maps fault
IsFaultWith Observer Gauge Sink Maps Missing NoMap = Missing

-- Memory was refused.
abbrev pub IsNoMemory : WordsFault → Type 0
IsNoMemory fault = IsFaultWith (λ _. ⊥) (λ _. ⊥) (λ _. ⊥) (λ _. ⊥) ⊥ fault

-- The subcommand takes observers, and the first word that spells no observer is number `place` of
-- the observer words, counted from 0.
abbrev pub IsBadObserverAfter : Text → List Row → ℕ → Type 0
IsBadObserverAfter name rows place =
    TakesObservers name × IsFirstBad observer_of (words_of (codes "observers") rows) place

-- The subcommand takes gauges, and the first word that spells no gauge is number `place` of the
-- gauge words, counted from 0.
abbrev pub IsBadGaugeAfter : Text → List Row → ℕ → Type 0
IsBadGaugeAfter name rows place =
    TakesGauges name × IsFirstBad place_of_word (words_of (codes "gauges") rows) place

-- The subcommand is `maps`, no gauge word is bad, and the map words have this fault.
abbrev pub IsMapsFaultAfter : Text → List Row → MapsFault → Type 0
IsMapsFaultAfter name rows fault =
    (name ≡ codes "maps") × ((gauges : List Place) × HasGauges rows gauges)
    × (fault_of_maps rows ≡ Some fault)

-- The subcommand with these values requests no map, no observer or gauge word is bad, and the map
-- words have no fault.
abbrev pub IsNoMap : Text → List Row → Type 0
IsNoMap name rows = ((map : Map) → ¬ Names name rows map)
    × ((place : ℕ) → ¬ IsBadObserverAfter name rows place)
    × ((place : ℕ) → ¬ IsBadGaugeAfter name rows place)
    × ((fault : MapsFault) → ¬ IsMapsFaultAfter name rows fault)

-- The subcommand `name` with these values has this fault, or the fault is refused memory. Bad sink
-- words are no fault here.
abbrev pub IsMapFault : Text → List Row → WordsFault → Type 0
IsMapFault name rows = IsFaultWith (IsBadObserverAfter name rows) (IsBadGaugeAfter name rows)
    (λ _. ⊥)
    (IsMapsFaultAfter name rows) (IsNoMap name rows)

-- The words have this fault, or the fault is refused memory. They have `NoMap` if `clap` accepts
-- them, they have no request, no observer, gauge or sink word is bad, and map words have no fault.
abbrev pub IsFaultOf : List Text → WordsFault → Type 0
IsFaultOf words (Clap e) = HasKind (fault_of program_app words) e
IsFaultOf words (BadObserver place) = HasBadObserver words place
IsFaultOf words (BadGauge place) = HasBadGauge words place
IsFaultOf words (BadSink place) = HasBadSink words place
IsFaultOf words (BadMaps fault) = HasMapsFault words fault
IsFaultOf words NoMap =
    (fault_of program_app words ≡ []) × ((request : Request) → ¬ RequestFor words request)
    × ((place : ℕ) → ¬ HasBadObserver words place) × ((place : ℕ) → ¬ HasBadSink words place)
    × ((place : ℕ) → ¬ HasBadGauge words place)
    × ((fault : MapsFault) → ¬ HasMapsFault words fault)
