use Rattle.std.proofs.Common.{arith, ◌≤◌, ◌^◌, pos, ◌*ℤ◌, w64, unsigned_abs, sym}
use borrow.Author.Differences.{true_is_lt}
use Rattle.std.proofs.lemmas.Nat.{mul-le}
use Rattle.std.proofs.lemmas.Int.{ints, to_z_pos, unsigned_abs-mul}
use Rattle.horizons.proofs.Sizes.{back, back_short}
use Rattle.sight.proofs.line_ground.is_before.Goals as goal

pub returns : goal.returns
returns c =
    let t = c.args.target in
    let k = c.args.line in
    let offset = c.args.offset in
    let short = back_short t.offset (omega arith) in
    let long = back t.offset (omega arith) in
    let lines = to_z_pos w64 t.line (omega (arith, c.requires.target.line)) in
    let few : unsigned_abs (t.offset *ℤ pos k) ≤ 2 ^ 24 = omega (
      arith,
      unsigned_abs-mul t.offset (pos k),
      mul-le (unsigned_abs t.offset) k 4096 4096 c.requires.target.offset (omega arith),
    ) in
    let some : unsigned_abs (offset *ℤ pos t.line) ≤ 2 ^ 38 = omega (
      arith,
      unsigned_abs-mul offset (pos t.line),
      mul-le (unsigned_abs offset) t.line (2 ^ 26) 4096 c.requires.offset (omega (arith, c.requires.target.line)),
    ) in
    let one = back (t.offset *ℤ pos k) (omega (arith, few)) in
    let two = back (offset *ℤ pos t.line) (omega (arith, some)) in
    rw (
      short,
      long,
      to_z_pos w64 k (omega arith),
      back_short offset (omega (arith, c.requires.offset)),
      back offset (omega (arith, c.requires.offset)),
      lines,
      one,
      two,
    ) (
      λ yes. omega (arith, ints, yes),
      λ less. sym (true_is_lt (t.offset *ℤ pos k) (offset *ℤ pos t.line) (omega (arith, ints, less))),
    )
