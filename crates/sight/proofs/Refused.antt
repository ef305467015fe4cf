-- An error that is the first fault of observers, target height and radius satisfies `RefusesSight`.
-- Without a fault, observers are inside the grid; their number, their eyes, the target height and
-- the radius are within the limits.
use Rattle.std.proofs.Common.{◌≡◌, ◌+◌, ◌||◌, ℕ, Bool, true, false, not, cond, ltb, is_none, List, [], ◌∷◌, length, Option, None, Some, option_map, Err, arith, refl, ◌<◌, ◌≤◌, zero, suc, ◌&&◌, get_or}
use Rattle.std.specs.Option.{option_or}
use Rattle.std.specs.List.{position_from}
use Rattle.terrain.specs.Raster.{Terrain}
use Rattle.terrain.specs.Neighbours.{height_at, IsInside}
use Rattle.terrain.specs.Faults.{first_fault}
use Rattle.tile_jobs.specs.declared.JobFault.{JobFault}
use Rattle.tile_jobs.specs.declared.JobFault.TheVariants.{NoThread}
use Rattle.sightlines.specs.Sight.{place_of}
use Rattle.sight.specs.Refusals.{is_high, observer_fault, observers_fault, RefusesSight}
use Rattle.terrain.specs.declared.observer.Observer.{Observer}
use Rattle.sight.specs.declared.fault.SightFault.{SightFault}
use Rattle.sight.specs.declared.fault.SightFault.TheVariants.{BadEye, Jobs, Outside, OnNodata, TooManyObservers, BadRadius}
use Rattle.std.proofs.lemmas.Bool.{ltb-true, ltb-false, and_parts, or_parts, not-false}
use Rattle.sight.specs.Viewed.{IsFaultless}

abbrev is_outside : Terrain → Observer → Bool
is_outside t o = not (ltb o.row t.rows && ltb o.col t.cols)

abbrev pub IsNot : {F : Type 0} → F → Option F → Type 0
IsNot f o = o ≡ Some f → ⊥

pub not_if : {F : Type 0} {f : F} (b : Bool) (x y : Option F) → IsNot f x → IsNot f y → IsNot f (cond b x y)
not_if true x y p q = p
not_if false x y p q = q

pub not_or : {F : Type 0} {f : F} (x y : Option F) → IsNot f x → IsNot f y → IsNot f (option_or x y)
not_or None y p q = q
not_or (Some x) y p q = p

-- no fault of observers is a fault of jobs
module _ (f : JobFault) where
  not_eye : (o : Option ℕ) → IsNot (Jobs f) (option_map (λ i. BadEye (Some i)) o)
  not_eye None e = absurd cc
  not_eye (Some i) e = absurd cc

  not_place : (t : Terrain) (i : ℕ) (os : List Observer) → IsNot (Jobs f) (first_fault (observer_fault t) i os)
  not_place t i [] = λ e. absurd cc
  not_place t i (o ∷ rest) =
      not_or _ _ (not_if (is_outside t o) _ _ (λ e. absurd cc)
      (not_if (is_none (height_at t (place_of o))) _ _ (λ e. absurd cc) (λ e. absurd cc)))
      (not_place t (i + 1) rest)

  pub not_jobs : (t : Terrain) (os : List Observer) (target radius : ℕ) →
      IsNot (Jobs f) (observers_fault t os target radius)
  not_jobs t os target radius =
      not_if (ltb 1024 (length os)) _ _ (λ e. absurd cc) (not_if (is_high target) _ _ (λ e. absurd cc)
      (not_or _ _ (not_eye (position_from (λ (o : Observer). is_high o.eye) 0 os))
      (not_if (ltb radius 1 || ltb 8192 radius) _ _ (λ e. absurd cc) (not_place t 0 os))))

-- if the first fault is f, and is no fault of jobs, the error f satisfies `RefusesSight`
pub refuses : {T : Type 0} (fault : Option SightFault) (f : SightFault) (workers : ℕ) →
    ((job : JobFault) → IsNot (Jobs job) fault) → fault ≡ Some f → RefusesSight {T = T} fault workers (Err f)
refuses fault f workers not e = record {
  reported = λ h is. cc;
  jobs = λ none. absurd cc;
  bad_workers = λ none. absurd cc;
  no_thread = λ is. absurd (not NoThread cc);
}

none_if : {X : Type 0} (b : Bool) (x : X) (rest : Option X) → is_none (cond b (Some x) rest) ≡ true →
    (b ≡ false) × (is_none rest ≡ true)
none_if true x rest e = absurd cc
none_if false x rest e = (refl, e)

none_or : {X : Type 0} (a b : Option X) → is_none (option_or a b) ≡ true → (is_none a ≡ true) × (is_none b ≡ true)
none_or None b e = (refl, e)
none_or (Some x) b e = absurd cc

none_map : {X Y : Type 0} (f : X → Y) (a : Option X) → is_none (option_map f a) ≡ true → is_none a ≡ true
none_map f None e = refl
none_map f (Some x) e = absurd cc

pub no_position : {X : Type 0} (p : X → Bool) (i : ℕ) (xs : List X) → is_none (position_from p i xs) ≡ true →
    (k : ℕ) (d : X) → k < length xs → p (get_or xs k d) ≡ false
no_position p i [] e k d h = absurd (omega arith)
no_position p i (x ∷ xs) e zero d h = (none_if (p x) i (position_from p (i + 1) xs) e).0
no_position p i (x ∷ xs) e (suc k) d h =
    no_position p (i + 1) xs (none_if (p x) i (position_from p (i + 1) xs) e).1 k d (omega arith)

inside_from : (t : Terrain) (i : ℕ) (o : Observer) → is_none (observer_fault t i o) ≡ true → IsInside t (place_of o)
inside_from t i o e =
    let parts =
    none_if (is_outside t o) (Outside i) (cond (is_none (height_at t (place_of o))) (Some (OnNodata i)) None) e in
    let both =
    and_parts (ltb o.row t.rows) (ltb o.col t.cols) (not-false (ltb o.row t.rows && ltb o.col t.cols) parts.0) in
    (ltb-true o.row t.rows both.0, ltb-true o.col t.cols both.1)

-- if no observer's place has a fault, all observers are inside the grid
no_place_fault : (t : Terrain) (i : ℕ) (os : List Observer) → is_none (first_fault (observer_fault t) i os) ≡ true →
    (k : ℕ) (d : Observer) → k < length os → IsInside t (place_of (get_or os k d))
no_place_fault t i [] e k d h = absurd (omega arith)
no_place_fault t i (o ∷ rest) e zero d h =
    inside_from t i o (none_or (observer_fault t i o) _ e).0
no_place_fault t i (o ∷ rest) e (suc k) d h =
    no_place_fault t (i + 1) rest (none_or (observer_fault t i o) _ e).1 k d (omega arith)

pub record Lawful (t : Terrain) (os : List Observer) (target radius : ℕ) : Type 0 where
  pub few : length os ≤ 1024
  pub target_low : target ≤ 1000000
  pub eyes_low : (k : ℕ) (d : Observer) → k < length os → (get_or os k d).eye ≤ 1000000
  pub some_radius : 1 ≤ radius
  pub short_radius : radius ≤ 8192
  pub inside : (k : ℕ) (d : Observer) → k < length os → IsInside t (place_of (get_or os k d))

pub lawful_from : (t : Terrain) (os : List Observer) (target radius : ℕ) → IsFaultless t os target radius →
    Lawful t os target radius
lawful_from t os target radius e =
    let eyes = option_map (λ i. BadEye (Some i)) (position_from (λ (o : Observer). is_high o.eye) 0 os) in
    let reach = cond (ltb radius 1 || ltb 8192 radius) (Some BadRadius) (first_fault (observer_fault t) 0 os) in
    let many =
    none_if (ltb 1024 (length os)) TooManyObservers
    (cond (is_high target) (Some (BadEye None)) (option_or eyes reach)) e in
    let high = none_if (is_high target) (BadEye None) (option_or eyes reach) many.1 in
    let rest = none_or eyes reach high.1 in
    let low =
    no_position (λ (o : Observer). is_high o.eye) 0 os
    (none_map (λ i. BadEye (Some i)) (position_from (λ (o : Observer). is_high o.eye) 0 os) rest.0) in
    let far = none_if (ltb radius 1 || ltb 8192 radius) BadRadius (first_fault (observer_fault t) 0 os) rest.1 in
    let ends = or_parts (ltb radius 1) (ltb 8192 radius) far.0 in
    record {
      few = ltb-false 1024 (length os) many.0;
      target_low = ltb-false 1000000 target high.0;
      eyes_low = λ k d h. ltb-false 1000000 (get_or os k d).eye (low k d h);
      some_radius = ltb-false radius 1 ends.0;
      short_radius = ltb-false 8192 radius ends.1;
      inside = no_place_fault t 0 os far.1;
    }
