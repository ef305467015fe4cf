use Rattle.std.proofs.Common.{arith, refl, pos, ◌-ℤ◌, ◌*ℤ◌, w32, w64}
use Rattle.std.proofs.lemmas.Int.{to_z-of_z, to_z_pos, fits_signed_from_abs}
use Rattle.horizons.proofs.Sizes.{back}
use Rattle.sight.proofs.Spans.{base_small, step_small, gain_small, tilt_small, intercept_small, ramp_is}
use Rattle.sight.proofs.family.Family.ramp.Goals as goal

pub overflow_mul-result : goal.overflow_mul-result
overflow_mul-result c =
    let near = c.args.near in
    let far = c.args.far in
    let heights = c.requires.heights in
    let step = back (far -ℤ near) (omega (arith, step_small near far heights.0 heights.1)) in
    let line = to_z_pos w64 c.args.line (omega (arith, c.requires.line)) in
    rw (to_z-of_z w64 near c.ranges.near, to_z-of_z w64 far c.ranges.far, step, line)
    (fits_signed_from_abs w64 ((far -ℤ near) *ℤ pos c.args.line)
    (gain_small near far _ heights.0 heights.1 c.requires.line.1))

pub overflow_mul-result-2 : goal.overflow_mul-result-2
overflow_mul-result-2 c =
    let near = c.args.near in
    let far = c.args.far in
    let offset = c.args.offset in
    let heights = c.requires.heights in
    let step = back (far -ℤ near) (omega (arith, step_small near far heights.0 heights.1)) in
    rw (
      to_z-of_z w64 near c.ranges.near,
      to_z-of_z w64 far c.ranges.far,
      step,
      to_z-of_z w32 offset c.ranges.offset,
      back offset (omega (arith, c.requires.offset)),
    ) (fits_signed_from_abs w64 ((far -ℤ near) *ℤ offset)
    (tilt_small near far offset heights.0 heights.1 c.requires.offset))

pub overflow_sub-result-2 : goal.overflow_sub-result-2
overflow_sub-result-2 c =
    let near = c.args.near in
    let far = c.args.far in
    let offset = c.args.offset in
    let eye = c.args.self.eye in
    let heights = c.requires.heights in
    let step = back (far -ℤ near) (omega (arith, step_small near far heights.0 heights.1)) in
    let tilt = back ((far -ℤ near) *ℤ offset) (tilt_small near far offset heights.0 heights.1 c.requires.offset) in
    let base = back (near -ℤ eye) (omega (arith, base_small near eye heights.0 c.requires.family.eye)) in
    rw (
      to_z-of_z w64 near c.ranges.near,
      to_z-of_z w64 far c.ranges.far,
      step,
      to_z-of_z w32 offset c.ranges.offset,
      back offset (omega (arith, c.requires.offset)),
      back eye (omega (arith, c.requires.family.eye)),
      base,
      tilt,
    )
    (fits_signed_from_abs w64 ((near -ℤ eye) -ℤ ((far -ℤ near) *ℤ offset))
    (intercept_small near far eye offset heights.0 heights.1 c.requires.family.eye c.requires.offset))

pub returns : goal.returns
returns c =
    let near = c.args.near in
    let far = c.args.far in
    let offset = c.args.offset in
    let eye = c.args.self.eye in
    let line = c.args.line in
    let heights = c.requires.heights in
    let step = back (far -ℤ near) (omega (arith, step_small near far heights.0 heights.1)) in
    let tilt = back ((far -ℤ near) *ℤ offset) (tilt_small near far offset heights.0 heights.1 c.requires.offset) in
    let base = back (near -ℤ eye) (omega (arith, base_small near eye heights.0 c.requires.family.eye)) in
    let gain = back ((far -ℤ near) *ℤ pos line) (gain_small near far line heights.0 heights.1 c.requires.line.1) in
    let intercept =
    back ((near -ℤ eye) -ℤ ((far -ℤ near) *ℤ offset))
    (intercept_small near far eye offset heights.0 heights.1 c.requires.family.eye c.requires.offset) in
    rw (
      to_z-of_z w64 near c.ranges.near,
      to_z-of_z w64 far c.ranges.far,
      step,
      to_z-of_z w32 offset c.ranges.offset,
      back offset (omega (arith, c.requires.offset)),
      back eye (omega (arith, c.requires.family.eye)),
      to_z_pos w64 line (omega (arith, c.requires.line)),
      base,
      tilt,
      gain,
      intercept,
    )
    (record {
      ramp = refl;
      clear = refl;
      at = λ t is_t passes.
          ramp_is _ line offset near far t c.requires.family c.requires.line heights.0 heights.1 is_t passes;
    })
