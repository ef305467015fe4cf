-- Between two data cells of weights above 0, the ground is above the sight z exactly if the sum of
-- their weighted heights is.
use Rattle.std.proofs.Common.{arith, refl, ◌≡◌, ◌<◌, ℕ, eqb, ℤ, pos, ◌+ℤ◌, ◌*ℤ◌, int_lt, Option, Some, option_map}
use Rattle.std.proofs.lemmas.Bool.{ne_eqb, cond-false}
use Rattle.sightlines.specs.Walk.{is_above, weighed_height}

pub weighed_height-some : (height : Option ℤ) (v : ℕ) → 0 < v →
    weighed_height height v ≡ option_map (λ h. pos v *ℤ h) height
weighed_height-some height v some =
    cond-false (eqb v 0) (Some (pos 0)) (option_map (λ h. pos v *ℤ h) height) (ne_eqb v 0 (λ e. omega arith))

pub above_both : (near far : ℤ) (v w : ℕ) (z : ℤ) → 0 < v → 0 < w →
    is_above (Some near) v (Some far) w z ≡ int_lt z (pos v *ℤ near +ℤ pos w *ℤ far)
above_both near far v w z some_near some_far =
    rw (weighed_height-some (Some near) v some_near, weighed_height-some (Some far) w some_far) refl
