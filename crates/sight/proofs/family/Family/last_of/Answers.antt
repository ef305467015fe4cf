use Rattle.std.proofs.Common.{arith, subst, ◌≡◌, ◌<◌, ◌≤◌, ◌^◌, ℤ, pos, ◌+ℤ◌, ◌≤ℤ◌, w32, to_z, unsigned_abs}
use Rattle.std.proofs.lemmas.Int.{ints, by_lt_z}
use Rattle.horizons.proofs.Sizes.{back_short}
use Rattle.sight.specs.Sweep.{Passes}
use Rattle.sight.proofs.family.Family.last_of.Goals as goal

next_small : (first last : ℤ) → unsigned_abs first ≤ 4096 → first ≤ℤ last → last ≤ℤ pos 4096 →
    unsigned_abs (last +ℤ pos 1) < 2 ^ 31
next_small first last few low high = omega (arith, ints, few, low, high)

pub loop-self-preserved : goal.loop-self-preserved
loop-self-preserved c =
    let l = c.loop-self in
    let last = to_z w32 l.last-bits in
    let first_back = back_short c.args.first (omega arith) in
    let range = rw first_back at l.invariant.range in
    let next = back_short (last +ℤ pos 1) (next_small _ last c.requires.first range.0 range.1) in
    let shows = rw next at c.loop-self-test.ensures.shows in
    rw next (record {
      range = (rw first_back (omega (arith, ints, range.0)), rw next at c.loop-self-test.ensures.inside);
      shows = λ b t past below is passes.
          by_lt_z last b (λ more.
          let same : b ≡ last +ℤ pos 1 = omega (arith, ints, more, below) in
          let P : ℤ → Type 0 = λ z. Passes c.args.line z t in
          shows t is (subst P same passes)) (λ not. l.invariant.shows b t past not is passes);
    })

pub returns-clause-shows : goal.returns-clause-shows
returns-clause-shows c b t past below is passes =
    let first_back = back_short c.args.first (omega arith) in
    c.loop-self.invariant.shows b t (rw first_back past) below is passes
