use Rattle.std.proofs.Common.{arith, sym, ap, subst, ◌∙◌, ◌≡◌, ◌+◌, ℕ, List, length, get_or, set, pos}
use Rattle.std.specs.Prelude.{slice_get}
use Rattle.std.proofs.lemmas.Option.{slice_get-get_or, slice_get_within}
use Rattle.horizons.specs.declared.target.Target.{Target}
use Rattle.horizons.specs.Horizons.{hides}
use Rattle.sight.specs.Looking.{LooksFrom}
use Rattle.sight.specs.Hiding.{lines_block_at, rise_at, AreRays}
use Rattle.sight.specs.Raising.{IsRaised, IsRaisedIn}
use Rattle.sight.proofs.EachRay.{AreMetBelow, none_met, ray_at, rank_at, ray_is_target, looked_on}
use Rattle.sight.proofs.Raised.{all_raised, ray_index, ray_raised, raised_by, rise_small, set_low}
use Rattle.sight.proofs.raising.raise_over.Goals as goal

pub rank-requires-clause-each : goal.rank-requires-clause-each
rank-requires-clause-each c i t at =
    let here = ap (λ (xs : List Target). slice_get xs i) (sym c.deref.ensures.value) ∙ at in
    ray_is_target _ _ _ t c.requires.family c.requires.extent (c.in_ok-rays.ensures.rays.each i t here).0

pub loop-number-init : goal.loop-number-init
loop-number-init c =
    let first = rw c.deref-2.ensures.value at (c.in_ok-lookup.ensures c.args.cells.now c.args.family) in
    record {
      looks = subst (λ (k : ℕ).
          LooksFrom c.args.cells.now c.args.family c.in_ok-ranked.ranked.targets.items k c.in_ok-lookup.lookup)
          (sym first.line) first;
      some = omega arith;
      line = λ u t after at.
          let here = ap (λ (xs : List Target). slice_get xs u) (sym c.deref-ray-items.ensures.value) ∙ at in
          omega (arith, first.line, (c.in_ok-rays.ensures.rays.each u t here).0.crosses.later);
      most = c.requires.targets;
      targets = none_met 0 _ c.args.family c.args.extent c.deref-ray-items.result.now _;
    }

pub go_to-requires-clause-line : goal.go_to-requires-clause-line
go_to-requires-clause-line c =
    (ray_at _ _ _ _ _ _ c.deref-ray-items.ensures.value c.loop-number-test.true c.in_ok-rays.ensures.rays).crosses.line

pub go_to-requires-clause-range : goal.go_to-requires-clause-range
go_to-requires-clause-range c = (
  c.loop-number.invariant.some,
  c.loop-number.invariant.line c.loop-number.number _ (omega arith) (slice_get-get_or c.deref-ray-items.result.now
      _ (record { offset = pos 0; line = 0 }) c.loop-number-test.true),
)

pub go_to-requires-clause-before : goal.go_to-requires-clause-before
go_to-requires-clause-before c = rw c.deref-in-loop-number.ensures.value c.loop-number.invariant.looks

pub flag_index-index-requires-clause-ray : goal.flag_index-index-requires-clause-ray
flag_index-index-requires-clause-ray c =
    ray_at _ _ _ _ _ _ c.deref-ray-items.ensures.value c.loop-number-test.true c.in_ok-rays.ensures.rays

pub offset_bounds-targets-index : goal.offset_bounds-targets-index
offset_bounds-targets-index c =
    let at =
    ray_index _ _ _ _ _ c.requires.family c.requires.extent
    (ray_at _ _ _ _ _ _ c.deref-ray-items.ensures.value c.loop-number-test.true c.in_ok-rays.ensures.rays)
    c.flag_index-index.ensures in
    omega (arith, at)

pub bounds-targets-index : goal.bounds-targets-index
bounds-targets-index c =
    let at =
    ray_index _ _ _ _ _ c.requires.family c.requires.extent
    (ray_at _ _ _ _ _ _ c.deref-ray-items.ensures.value c.loop-number-test.true c.in_ok-rays.ensures.rays)
    c.flag_index-index.ensures in
    omega (arith, at)

pub offset_bounds-targets-index-in-loop-number : goal.offset_bounds-targets-index-in-loop-number
offset_bounds-targets-index-in-loop-number c =
    let at =
    ray_index _ _ _ _ _ c.requires.family c.requires.extent
    (ray_at _ _ _ _ _ _ c.deref-ray-items.ensures.value c.loop-number-test.true c.in_ok-rays.ensures.rays)
    c.flag_index-index.ensures in
    omega (arith, at)

pub bounds-targets-index-in-loop-number : goal.bounds-targets-index-in-loop-number
bounds-targets-index-in-loop-number c =
    let at =
    ray_index _ _ _ _ _ c.requires.family c.requires.extent
    (ray_at _ _ _ _ _ _ c.deref-ray-items.ensures.value c.loop-number-test.true c.in_ok-rays.ensures.rays)
    c.flag_index-index.ensures in
    omega (arith, at)

pub raise-requires-clause-line : goal.raise-requires-clause-line
raise-requires-clause-line c =
    (ray_at _ _ _ _ _ _ c.deref-ray-items.ensures.value c.loop-number-test.true c.in_ok-rays.ensures.rays).crosses.line

pub raise-requires-clause-target : goal.raise-requires-clause-target
raise-requires-clause-target c =
    ray_is_target _ _ _ _ c.requires.family c.requires.extent
    (ray_at _ _ _ _ _ _ c.deref-ray-items.ensures.value c.loop-number-test.true c.in_ok-rays.ensures.rays)

pub raise-requires-clause-rank : goal.raise-requires-clause-rank
raise-requires-clause-rank c =
    let ranked = rw (c.deref.ensures.value, sym c.deref-ray-items.ensures.value) at c.in_ok-ranked.ensures in
    let at = rank_at _ _ _ _ _ c.loop-number-test.true ranked c.index.ensures in
    omega (
      arith,
      (rw c.deref-in-loop-number.ensures.value at c.in_ok-go_to.ensures).hides.over.whole,
      slice_get_within _ c.index.result.now _ at,
    )

pub raise-requires-clause-at : goal.raise-requires-clause-at
raise-requires-clause-at c r at_r =
    let ranked = rw (c.deref.ensures.value, sym c.deref-ray-items.ensures.value) at c.in_ok-ranked.ensures in
    let at = rank_at _ _ _ _ _ c.loop-number-test.true ranked c.index.ensures in
    (rw c.deref-in-loop-number.ensures.value at c.in_ok-go_to.ensures).hides.over.each c.index.result.now _ r at at_r

pub loop-number-preserved : goal.loop-number-preserved
loop-number-preserved c =
    let cells = c.args.cells.now in
    let f = c.args.family in
    let w = c.args.extent in
    let old = c.args.targets.now in
    let rays = c.deref-ray-items.result.now in
    let n = c.loop-number.number in
    let targets = c.in_ok-ranked.ranked.targets.items in
    let t = get_or rays n (record { offset = pos 0; line = 0 }) in
    let at_t = slice_get-get_or rays n (record { offset = pos 0; line = 0 }) c.loop-number-test.true in
    let are : AreRays f w c.args.flags.now 4097 0 rays = rw c.deref-ray-items.ensures.value c.in_ok-rays.ensures.rays in
    let ray = (are.each n t at_t).0 in
    let lookup = rw c.deref-in-loop-number.ensures.value at c.in_ok-go_to.ensures in
    let ranked = rw (c.deref.ensures.value, sym c.deref-ray-items.ensures.value) at c.in_ok-ranked.ensures in
    let at_rank = rank_at rays targets _ n _ c.loop-number-test.true ranked c.index.ensures in
    let within =
    ray_index _ _ _ _ _ c.requires.family c.requires.extent
    (ray_at _ _ _ _ _ _ c.deref-ray-items.ensures.value c.loop-number-test.true c.in_ok-rays.ensures.rays)
    c.flag_index-index.ensures in
    let index = c.flag_index-index.ensures ray.cell ray.stands in
    let raised =
    raised_by (λ h. hides c.go_to.new.self.sweep.highest c.index.result.now t (rise_at cells f h t.line ray.cell)) _
    _ _ (λ h few.
    lookup.hides.hides c.index.result.now t ray.cell (rise_at cells f h t.line ray.cell) at_rank ray.stands
    (omega arith) (rise_small cells f h t.line ray.cell c.requires.heights c.requires.family few))
    (c.raise.ensures.raised ray.cell ray.stands) in
    let line = c.raise.ensures.line ∙ lookup.line in
    record {
      looks =
          looked_on cells f targets _ _ _ lookup c.raise.ensures.line c.raise.ensures.highest c.raise.ensures.cursor;
      some = omega (arith, line, ray.crosses.later);
      line = λ u s after at_s. omega (arith, line, are.sorted n u t s (omega arith) at_t at_s);
      most = set_low _ c.flag_index-index.result _ (omega (arith, within, c.requires.size)) raised.most
          c.loop-number.invariant.most;
      targets = subst (λ (i : ℕ).
          AreMetBelow 0 (IsRaisedIn cells f w c.args.flags.now) f w rays (n + 1) old
          (set c.loop-number.targets i c.raise.result)) (sym index) (ray_raised cells f w _ rays n old _ t _ _
          c.requires.apart (omega (arith, within, index)) at_t ray.stands ray.within ray.crosses
          (subst (λ (i : ℕ).
          IsRaised (lines_block_at cells f t.line ray.cell) (get_or c.loop-number.targets i 0)
          c.raise.result) index raised) c.loop-number.invariant.targets);
    }

pub returns : goal.returns
returns c =
    let rays = c.deref-ray-items.result.now in
    let are : AreRays c.args.family c.args.extent c.args.flags.now 4097 0 rays =
    rw c.deref-ray-items.ensures.value c.in_ok-rays.ensures.rays in
    let end : c.loop-number.number ≡ length rays = omega arith in
    all_raised _ _ _ rays _ _ _ are c.loop-number.invariant.most (rw end at c.loop-number.invariant.targets)
