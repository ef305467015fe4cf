use Rattle.std.proofs.Common.{◌/◌, ◌^◌, None, get_or, inl, inr, to_z-of_z, ◌∙◌, arith}
use Rattle.std.proofs.lemmas.Bool.{cases_eq, eq-eqb, ne_eqb}
use Rattle.std.proofs.lemmas.List.{get_or_default}
use Rattle.std.proofs.lemmas.Nat.Bits.{bit_at-lt, bit_at_or}
use Rattle.std.specs.Int.{bit_at}
use Rattle.drain.proofs.beginning.any_gap_or_lower.Goals as goal

pub returns : goal.returns
returns c high =
    let signs = c.loop-way.signs in
    let inv = rw (to_z-of_z c.ranges.level) at c.loop-way.invariant in
    elim (cases_eq (signs / 2 ^ 63) 1) [
      | inl e ↦ rw (eq-eqb _ _ e) (let found = inv.some high (omega (arith, e)) in
          (found.0, omega (arith, found.1), found.2))
      | inr ne ↦ rw (ne_eqb _ _ ne) (λ way below gap. absurd (omega (arith, inv.all high way (omega arith) gap, ne)))
    ]

pub loop-way-preserved : goal.loop-way-preserved
loop-way-preserved c =
    let way = c.loop-way.way in
    let signs = c.loop-way.signs in
    let sign = c.gap_or_lower_sign-signs.result in
    let inv = c.loop-way.invariant in
    let cell = c.index-cells-at.is ∙ get_or_default c.args.cells.now (get_or c.args.at.now way 0)
    c.index-cells-at.result None (c.requires.cells way c.loop-way-test.true) in
    let both = bit_at_or signs sign 63 in
    let here = rw cell at c.gap_or_lower_sign-signs.ensures in
    record {
      eight = inv.eight;
      some = λ high one. elim (cases_eq (bit_at sign 63) 1) [
        | inl set ↦ (way, omega arith, (here high).0 set)
        | inr clear ↦ (let before = inv.some high (omega (arith, one, both, clear, bit_at-lt sign 63)) in
            (before.0, omega (arith, before.1), before.2))
      ];
      all = λ high other below gap. elim (cases_eq other way) [
        | inl e ↦ omega (arith, both, (here high).1 (rw e at gap), bit_at-lt signs 63)
        | inr ne ↦ omega (arith, both, inv.all high other (omega (arith, below, ne)) gap, bit_at-lt sign 63)
      ];
    }
