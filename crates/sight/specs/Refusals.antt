-- The first fault of observers, target height and radius, and which errors a viewshed may give.
-- Source: this project.
-- Trust base.
use Rattle.std.specs.Prelude.{◌≡◌, ◌↔◌, ◌⊎◌, Result, Err, ℕ, ◌<◌, Bool, ◌||◌, nat_lt, if◌then◌else◌, List, length, Option, None, Some, option_map}
use Rattle.std.specs.Option.{option_or}
use Rattle.std.specs.List.{position_from}
use Rattle.terrain.specs.Raster.{Terrain}
use Rattle.terrain.specs.Faults.{first_fault, place_fault}
use Rattle.sightlines.specs.Sight.{highest_eye, longest_radius, place_of}
use Rattle.sight.specs.Viewshed.{most_observers}
use Rattle.terrain.specs.declared.observer.Observer.{Observer}
use Rattle.sight.specs.declared.fault.SightFault.{SightFault}
use Rattle.sight.specs.declared.fault.SightFault.TheVariants.{Outside, OnNodata, TooManyObservers, BadEye, BadRadius, Jobs}
use Rattle.tile_jobs.specs.declared.JobFault.TheVariants.{Memory, BadWorkers, NoThread}

-- Height n of an eye or a target above its ground is above the limit.
abbrev pub is_high : ℕ → Bool
is_high n = nat_lt highest_eye n

-- The fault of observer `o`, of index i, if the observer is outside the terrain or on NODATA.
abbrev pub observer_fault : Terrain → ℕ → Observer → Option SightFault
observer_fault t i o = place_fault Outside OnNodata t i (place_of o)

-- The first fault of observers, target height and radius over a terrain. The order: too many
-- observers, the target height, the first eye too high, the radius, the first bad place.
abbrev pub observers_fault : Terrain → List Observer → ℕ → ℕ → Option SightFault
observers_fault t observers target radius =
    if nat_lt most_observers (length observers) then Some TooManyObservers
    else if is_high target then Some (BadEye None)
    else option_or (option_map (λ i. BadEye (Some i))
    (position_from (λ (o : Observer). is_high o.eye) 0 observers))
    (if nat_lt radius 1 || nat_lt longest_radius radius then Some BadRadius
    else first_fault (observer_fault t) 0 observers)

-- If there is a `fault`, the result is this error. Otherwise the result is `BadWorkers` exactly for
-- 0 or above 64 workers. Any other error is want of memory or, with several workers, of a thread.
pub record RefusesSight {T : Type 0} (fault : Option SightFault) (workers : ℕ)
    (result : Result T SightFault) : Type 0 where
  pub reported : (f : SightFault) → fault ≡ Some f → result ≡ Err f
  pub jobs : fault ≡ None → (f : SightFault) → result ≡ Err f →
      (f ≡ Jobs Memory) ⊎ (f ≡ Jobs BadWorkers) ⊎ (f ≡ Jobs NoThread)
  pub bad_workers : fault ≡ None →
      (result ≡ Err (Jobs BadWorkers)) ↔ ((workers ≡ 0) ⊎ (64 < workers))
  pub no_thread : result ≡ Err (Jobs NoThread) → 1 < workers
