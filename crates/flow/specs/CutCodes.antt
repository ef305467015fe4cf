-- Codes cut at gauges: the codes of a grid with 0, an outlet's code, written at each gauge. The
-- numbers of the cells that gauges name, by the cells' indexes in row order. The fault of gauges
-- that a fault of sinks corresponds to.
-- Private.
use Rattle.std.specs.Prelude.{◌≡◌, ℕ, ◌==◌, nat_eq, true, false, List, length, Option, Some, IsSome, unwrap_or}
use Rattle.std.specs.HashMap as hash
use Rattle.std.specs.HashMap.{HashMap}
use Rattle.std.specs.List.{list_any, position_from}
use Rattle.terrain.specs.Neighbours.{entry_at, index_of, is_place}
use Rattle.terrain.specs.declared.place.Place.{Place}
use Rattle.terrain.specs.declared.sinks.SinkFault.{SinkFault}
use Rattle.terrain.specs.declared.sinks.SinkFault.TheVariants as sink
use Rattle.tile_jobs.specs.declared.JobFault.TheVariants.{Memory}
use Rattle.flow.specs.Numbering.{EndNumbers}
use Rattle.flow.specs.declared.gauges.GaugeFault.{GaugeFault}
use Rattle.flow.specs.declared.gauges.GaugeFault.TheVariants.{Outside, OnNodata, TooManyGauges, Jobs}

-- The fault of gauges that corresponds to a fault of sinks at the same places.
abbrev pub fault_of_gauge : SinkFault → GaugeFault
fault_of_gauge (sink.Outside i) = Outside i
fault_of_gauge (sink.OnNodata i) = OnNodata i
fault_of_gauge sink.TooManySinks = TooManyGauges
fault_of_gauge sink.Memory = Jobs Memory

-- Each gauge has a code.
abbrev pub HaveCodes : ℕ → ℕ → List (Option ℕ) → List Place → Type 0
HaveCodes cols rows codes gauges =
    (p : Place) → list_any (is_place p) gauges ≡ true → IsSome (entry_at cols rows codes p)

-- `cut` has code 0 at each gauge, and at any other place the entry of `codes`.
pub record AreCutCodes (cols rows : ℕ) (codes : List (Option ℕ)) (gauges : List Place)
    (cut : List (Option ℕ)) : Type 0 where
  pub size : length cut ≡ length codes
  pub at_gauges : (p : Place) → list_any (is_place p) gauges ≡ true →
      entry_at cols rows cut p ≡ Some 0
  pub elsewhere : (p : Place) → list_any (is_place p) gauges ≡ false →
      entry_at cols rows cut p ≡ entry_at cols rows codes p

-- Numbers for a grid of `cells` cells. A row-order index has its number in the hash map, or 0 if
-- the hash map lacks the index.
abbrev pub gauge_numbers : {S : Type 0} → ℕ → HashMap ℕ ℕ S → EndNumbers
gauge_numbers cells numbers =
    record { cells = cells; number = λ i. unwrap_or (hash.get nat_eq numbers i) 0 }

-- The position, from 1, of the first gauge in the list whose row-order index is i; `None` if there
-- is no such gauge.
abbrev pub number_of_index : ℕ → List Place → ℕ → Option ℕ
number_of_index cols gauges i = position_from (λ (g : Place). index_of cols g == i) 1 gauges
