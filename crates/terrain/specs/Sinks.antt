-- Defines why a list of named sinks is refused (its fault), the list without repeats, and the grid
-- with these sinks in place of its own.
-- Source: this project.
-- Trust base.
use Rattle.std.specs.Prelude.{◌≡◌, ℕ, nat_lt, if◌then◌else◌, List, [], ◌∷◌, ◌++◌, length, Option, None, Some, Result, Err}
use Rattle.std.specs.List.{fold, list_any}
use Rattle.terrain.specs.Raster.{Terrain, Raster}
use Rattle.terrain.specs.Neighbours.{is_place}
use Rattle.terrain.specs.Faults.{first_fault, place_fault}
use Rattle.terrain.specs.declared.place.Place.{Place}
use Rattle.terrain.specs.declared.sinks.SinkFault.{SinkFault}
use Rattle.terrain.specs.declared.sinks.SinkFault.TheVariants.{Outside, OnNodata, TooManySinks, Memory}

-- The greatest length of a list of sinks.
abbrev pub most_sinks : ℕ
most_sinks = 1024

-- The list `named` with place p appended, or `named` itself if p is in it.
abbrev pub named_once : List Place → Place → List Place
named_once named p = if list_any (is_place p) named then named else named ++ p ∷ []

-- Each place once, in the order of first naming.
abbrev pub each_once : List Place → List Place
each_once places = fold named_once [] places

-- The fault of a list of sinks, if any: more than `most_sinks` entries, repeats counted; else the
-- fault of the first sink outside the grid or without data.
abbrev pub sinks_fault : Terrain → List Place → Option SinkFault
sinks_fault t sinks =
    if nat_lt most_sinks (length sinks) then Some TooManySinks
    else first_fault (place_fault Outside OnNodata t) 0 sinks

-- The terrain with these sinks in place of its own.
abbrev pub with_sinks : Terrain → List Place → Terrain
with_sinks t sinks = record t { sinks = sinks }

-- The grid with these places, each once, in place of its own sinks.
abbrev pub raster_with_sinks : Raster → List Place → Raster
raster_with_sinks g sinks = record g { terrain = with_sinks g.terrain (each_once sinks) }

-- If a list of sinks has fault f, `result` is the error f. If the list has no fault, `result` has
-- no error but, perhaps, `Memory`.
pub record RefusesSinks {T : Type 0} (fault : Option SinkFault)
    (result : Result T SinkFault) : Type 0 where
  pub reported : (f : SinkFault) → fault ≡ Some f → result ≡ Err f
  pub memory : fault ≡ None → (f : SinkFault) → result ≡ Err f → f ≡ Memory
