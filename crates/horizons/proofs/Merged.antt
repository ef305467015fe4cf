-- If a ramp is above another at two targets, it is above the other at all targets between them. If
-- it is above the other at neither, it is above the other at no target between them.
use Rattle.std.proofs.Common.{◌≡◌, ℕ, ◌+◌, ◌<◌, ◌≤◌, Bool, List, length, Some, sym, ap, ◌∙◌, arith}
use Rattle.std.specs.Prelude.{slice_get}
use Rattle.std.proofs.lemmas.Option.{slice_get-get_or}
use Rattle.horizons.specs.Horizons.{is_ramp_above, AreTargets}
use Rattle.horizons.specs.Merging.{IsAboveOn}
use Rattle.horizons.specs.declared.target.Target.{Target}
use Rattle.horizons.specs.declared.ramp.Ramp.{Ramp}
use Rattle.horizons.proofs.Straight.{same_between}

pub even_between : (targets : List Target) (r s : Ramp) (b : Bool) (i j : ℕ) → AreTargets targets → i ≤ j →
    j < length targets → ((t : Target) → slice_get targets i ≡ Some t → is_ramp_above r s t ≡ b) →
    ((t : Target) → slice_get targets j ≡ Some t → is_ramp_above r s t ≡ b) → IsAboveOn targets r s b i (j + 1)
even_between targets r s b i j are h few first last k t low high at =
    let at_i = slice_get-get_or targets i t (omega arith) in
    let at_j = slice_get-get_or targets j t few in
    same_between targets r s b i k j _ t _ are low (omega arith) at_i at at_j (first _ at_i) (last _ at_j)

pub only : (targets : List Target) (r s : Ramp) (b : Bool) (i : ℕ) →
    ((t : Target) → slice_get targets i ≡ Some t → is_ramp_above r s t ≡ b) → IsAboveOn targets r s b i (i + 1)
only targets r s b i is k t low high at =
    let same : k ≡ i = omega arith in
    is t (ap (slice_get targets) (sym same) ∙ at)
