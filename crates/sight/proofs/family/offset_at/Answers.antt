use Rattle.std.proofs.Common.{arith, pos, ◌*ℤ◌, w32, unsigned_abs, ◌≤◌, ◌^◌}
use Rattle.std.specs.Int.{int_div_euclid}
use Rattle.std.proofs.lemmas.Nat.{mul-le}
use Rattle.std.proofs.lemmas.Int.{to_z_pos, unsigned_abs-mul}
use Rattle.horizons.proofs.Sizes.{back_short}
use Rattle.sight.proofs.Spans.{floor_low, floor_high, floor_small}
use Rattle.sight.proofs.family.offset_at.Goals as goal

pub returns : goal.returns
returns c =
    let t = c.args.target in
    let k = c.args.line in
    let x = t.offset *ℤ pos k in
    let small : unsigned_abs x ≤ 2 ^ 24 = omega (
      arith,
      unsigned_abs-mul t.offset (pos k),
      mul-le (unsigned_abs t.offset) k 4096 4096 c.requires.target.offset (omega arith),
    ) in
    let offset = back_short t.offset (omega arith) in
    let line = to_z_pos w32 t.line (omega (arith, c.requires.target.line)) in
    let is =
    rw (offset, to_z_pos w32 k (omega arith), line, back_short x (omega (arith, small))) at c.div_euclid.ensures in
    let few = floor_small x _ c.requires.target.line.0 small in
    let back = back_short (int_div_euclid x (pos t.line)) (omega (arith, few)) in
    rw (is, back) (record {
      passes = record { low = floor_low x _ c.requires.target.line.0; high = floor_high x _ c.requires.target.line.0 };
      small = few;
    })
