use Rattle.std.proofs.Common.{arith, refl, ◌≡◌, ℕ, ◌-◌, ◌≤◌, ◌+ℤ◌, ◌*ℤ◌, FitsSigned, to_z, of_z}
use Rattle.std.specs.Int.{w64}
use Rattle.std.proofs.lemmas.Int.{to_z-of_z}
use Rattle.sightlines.specs.Sight.{sight}
use Rattle.sightlines.specs.Walk.{steps_of, IsSightline}
use Rattle.sightlines.specs.declared.walk.Sightline.{Sightline}
use Rattle.sightlines.proofs.Elevations.{scaled_as_reckoned, sight_fits}
use Rattle.sightlines.proofs.walk.Sightline.at.Goals as goal

pub overflow_mul-result : goal.overflow_mul-result
overflow_mul-result c =
    (scaled_as_reckoned c.args.self.from_elevation (c.steps-steps.result - c.args.step) c.requires.line.from_elevation
    (omega arith)).0

pub overflow_mul-result-2 : goal.overflow_mul-result-2
overflow_mul-result-2 c =
    (scaled_as_reckoned c.args.self.to_elevation c.args.step c.requires.line.to_elevation (omega arith)).0

-- the sight of a line at step k, as the code computes it, fits in 64 bits and is exact
sight_is : (line : Sightline) (k : ℕ) → IsSightline line → k ≤ steps_of line →
    let n = steps_of line in
    let from = to_z w64 (of_z w64 (to_z w64 (of_z w64 line.from_elevation) *ℤ to_z w64 (n - k))) in
    let to = to_z w64 (of_z w64 (to_z w64 (of_z w64 line.to_elevation) *ℤ to_z w64 k)) in
    FitsSigned w64 (from +ℤ to) × (to_z w64 (of_z w64 (from +ℤ to)) ≡ sight line.from_elevation line.to_elevation n k)
sight_is line k is within =
    let n = steps_of line in
    let from = scaled_as_reckoned line.from_elevation (n - k) is.from_elevation (omega (arith, is)) in
    let fit = sight_fits _ _ n k is.from_elevation is.to_elevation within (omega (arith, is)) in
    rw (from.1, (scaled_as_reckoned line.to_elevation k is.to_elevation (omega (arith, is))).1)
    (fit, to_z-of_z w64 (sight line.from_elevation line.to_elevation n k) fit)

pub overflow_add-result : goal.overflow_add-result
overflow_add-result c = rw c.steps-steps.ensures (sight_is _ _ c.requires.line c.requires.step).0

pub returns : goal.returns
returns c = record {
  whole = rw c.steps-steps.ensures refl;
  part = rw c.steps-steps.ensures refl;
  sight = rw c.steps-steps.ensures (sight_is _ _ c.requires.line c.requires.step).1;
}
