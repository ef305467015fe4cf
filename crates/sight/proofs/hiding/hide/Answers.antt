use Rattle.std.proofs.Common.{arith, rules, refl, sym, ap, subst, ◌∙◌, ◌≡◌, ◌≢◌, ℕ, ◌+◌, ◌-◌, Bool, true, false, not, ◌&&◌, inl, inr, set, List, length, get_or, pos, w64}
use Rattle.std.specs.Prelude.{slice_get}
use Rattle.std.proofs.lemmas.Int.{to_z-of_z}
use Rattle.std.proofs.lemmas.Option.{slice_get-get_or, slice_get_within}
use Rattle.horizons.specs.declared.target.Target.{Target}
use Rattle.sight.specs.Sweep.{is_blocked_before, lead_of}
use Rattle.sight.specs.Looking.{LooksFrom}
use Rattle.sight.specs.Hiding.{flag_in_extent, flag_index, AreRays, IsFlagLeft}
use Rattle.std.proofs.lemmas.Bool.{and_left, and_right, cases_Bool}
use Rattle.std.proofs.lemmas.List.{get_or-set_same, get_or-set_other, length-set}
use Rattle.sight.proofs.EachRay.{AreMetBelow, ray_at, rank_at, ray_is_target, extent_kept, looked_on, none_met, ray_met, all_met}
use Rattle.sight.proofs.hiding.hide.Goals as goal
use Rattle.sight.proofs.hiding.hide.Goals.{then-hides, else-hides}

and_true : (a b : Bool) → b ≡ true → (a && b) ≡ a
and_true true b h = h
and_true false b h = refl

pub rank-requires-clause-each : goal.rank-requires-clause-each
rank-requires-clause-each c i t at =
    let here = ap (λ (xs : List Target). slice_get xs i) (sym c.deref.ensures.value) ∙ at in
    ray_is_target _ _ _ t c.requires.family c.requires.extent (c.in_ok-rays.ensures.rays.each i t here).0

pub loop-number-init : goal.loop-number-init
loop-number-init c =
    let first = rw c.deref-2.ensures.value at (c.in_ok-lookup.ensures c.args.cells.now c.args.family) in
    record {
      looks = subst (λ (k : ℕ).
          LooksFrom c.args.cells.now c.args.family c.in_ok-ranked.ranked.targets.items k c.in_ok-lookup.lookup)
          (sym first.line) first;
      some = omega arith;
      line = λ u t after at.
          let here = ap (λ (xs : List Target). slice_get xs u) (sym c.deref-ray-items.ensures.value) ∙ at in
          omega (arith, first.line, (c.in_ok-rays.ensures.rays.each u t here).0.crosses.later);
      flags = none_met false _ c.args.family c.args.extent c.deref-ray-items.result.now _;
    }

pub go_to-requires-clause-line : goal.go_to-requires-clause-line
go_to-requires-clause-line c =
    (ray_at _ _ _ _ _ _ c.deref-ray-items.ensures.value c.loop-number-test.true c.in_ok-rays.ensures.rays).crosses.line

pub go_to-requires-clause-range : goal.go_to-requires-clause-range
go_to-requires-clause-range c = (
  c.loop-number.invariant.some,
  c.loop-number.invariant.line c.loop-number.number _ (omega arith) (slice_get-get_or c.deref-ray-items.result.now
      _ (record { offset = pos 0; line = 0 }) c.loop-number-test.true),
)

pub go_to-requires-clause-before : goal.go_to-requires-clause-before
go_to-requires-clause-before c = rw c.deref-in-loop-number.ensures.value c.loop-number.invariant.looks

pub rise-rise-requires-clause-line : goal.rise-rise-requires-clause-line
rise-rise-requires-clause-line c =
    (ray_at _ _ _ _ _ _ c.deref-ray-items.ensures.value c.loop-number-test.true c.in_ok-rays.ensures.rays).crosses.line

pub rise-rise-requires-clause-target : goal.rise-rise-requires-clause-target
rise-rise-requires-clause-target c =
    let ray = ray_at _ _ _ _ _ _ c.deref-ray-items.ensures.value c.loop-number-test.true c.in_ok-rays.ensures.rays in
    ray_is_target _ _ _ _ c.requires.family c.requires.extent ray

pub hides-requires : goal.hides-requires
hides-requires c =
    let lookup = rw c.deref-in-loop-number.ensures.value at c.in_ok-go_to.ensures in
    let ranked = rw (c.deref.ensures.value, sym c.deref-ray-items.ensures.value) at c.in_ok-ranked.ensures in
    let at = rank_at _ _ _ _ _ c.loop-number-test.true ranked c.index.ensures in
    let ray = ray_at _ _ _ _ _ _ c.deref-ray-items.ensures.value c.loop-number-test.true c.in_ok-rays.ensures.rays in
    record {
      rank = omega (arith, lookup.hides.over.whole, slice_get_within _ c.index.result.now _ at);
      cursor = lookup.cursor;
      target = ray_is_target _ _ _ _ c.requires.family c.requires.extent ray;
      at = λ r at_r. lookup.hides.over.each c.index.result.now _ r at at_r;
    }

pub clear_flag-requires-clause-extent : goal.clear_flag-requires-clause-extent
clear_flag-requires-clause-extent c = extent_kept _ _ _ _ c.loop-number.invariant.flags.size c.requires.extent

pub clear_flag-requires-clause-ray : goal.clear_flag-requires-clause-ray
clear_flag-requires-clause-ray c =
    ray_at _ _ _ _ _ _ c.deref-ray-items.ensures.value c.loop-number-test.true c.in_ok-rays.ensures.rays

pub loop-number-preserved : goal.loop-number-preserved
loop-number-preserved c =
    let cells = c.args.cells.now in
    let f = c.args.family in
    let w = c.args.extent in
    let height = c.args.height in
    let old = c.args.flags.now in
    let rays = c.deref-ray-items.result.now in
    let n = c.loop-number.number in
    let targets = c.in_ok-ranked.ranked.targets.items in
    let flags = c.loop-number.flags in
    let t = get_or rays n (record { offset = pos 0; line = 0 }) in
    let at_t = slice_get-get_or rays n (record { offset = pos 0; line = 0 }) c.loop-number-test.true in
    let are : AreRays f w old 4097 0 rays = rw c.deref-ray-items.ensures.value c.in_ok-rays.ensures.rays in
    let ray = (are.each n t at_t).0 in
    let lookup = rw c.deref-in-loop-number.ensures.value at c.in_ok-go_to.ensures in
    let ranked = rw (c.deref.ensures.value, sym c.deref-ray-items.ensures.value) at c.in_ok-ranked.ensures in
    let at_rank = rank_at rays targets _ n _ c.loop-number-test.true ranked c.index.ensures in
    let answer = rw (to_z-of_z w64 c.rise-rise.result (search rules)) at c.hides.ensures.answer in
    let reported =
    answer ∙
    lookup.hides.hides c.index.result.now t ray.cell c.rise-rise.result at_rank ray.stands (omega arith)
    c.rise-rise.ensures.small ∙
    ap (λ z. is_blocked_before cells f t.line ray.cell z t.line)
    (c.rise-rise.ensures.value ray.cell ray.stands) in
    let line = c.hides.ensures.line ∙ lookup.line in
    let met : (new : List Bool) → length new ≡ length flags →
    ((k : ℕ) → k ≢ flag_index w (lead_of f t.line) ray.cell → get_or new k false ≡ get_or flags k false) →
    IsFlagLeft cells f height t.line ray.cell (flag_in_extent w (lead_of f t.line) ray.cell old)
    (flag_in_extent w (lead_of f t.line) ray.cell new) →
    AreMetBelow false (IsFlagLeft cells f height) f w rays (n + 1) old new =
    λ new size others is.
    ray_met false (IsFlagLeft cells f height) f w rays n old flags new t ray.cell c.requires.apart at_t
    ray.stands ray.within ray.crosses size others is c.loop-number.invariant.flags in
    record {
      looks =
          looked_on cells f targets _ _ _ lookup c.hides.ensures.line c.hides.ensures.highest c.hides.ensures.cursor;
      some = omega (arith, line, ray.crosses.later);
      line = λ u s after at_s. omega (arith, line, are.sorted n u t s (omega arith) at_t at_s);
      flags = elim c.if-hides.branch [
        | then-hides w' ↦
            let i = flag_index w (lead_of f t.line) ray.cell in
            let within =
            (extent_kept f w old flags c.loop-number.invariant.flags.size c.requires.extent).inside
            (lead_of f t.line - w.lines.first) (ray.cell - w.side.first) (omega (arith, ray.crosses.within))
            (omega (arith, ray.within)) in
            rw (w'.flags-is ∙ w'.clear_flag.ensures ray.cell ray.stands) (met (set flags i false)
            (length-set flags i false) (λ k other. get_or-set_other flags i k false false other)
            (get_or-set_same flags i false false within ∙
            sym (and_right (get_or old i false) _ (ap not (sym reported ∙ w'.if-hides.true)))))
        | else-hides w' ↦ rw w'.flags-is (met flags refl (λ k other. refl) (elim
            (c.loop-number.invariant.flags.crossed t.line ray.cell ray.crosses ray.within) [
              | inl is ↦ is
              | inr e ↦ e.0 ∙ sym (and_true _ _ (ap not (sym reported ∙ w'.if-hides.false)))
            ]))
      ];
    }

pub returns : goal.returns
returns c =
    let rays = c.deref-ray-items.result.now in
    let f = c.args.family in
    let w = c.args.extent in
    let old = c.args.flags.now in
    let are : AreRays f w old 4097 0 rays = rw c.deref-ray-items.ensures.value c.in_ok-rays.ensures.rays in
    let end : c.loop-number.number ≡ length rays = omega arith in
    all_met false (IsFlagLeft c.args.cells.now f c.args.height) f w rays old c.loop-number.flags
    (λ n y crosses in_y. elim (cases_Bool (flag_in_extent w (lead_of f n) y old)) [
      | inl flagged ↦ inr (are.whole n y (inl (omega arith)) crosses in_y flagged)
      | inr unflagged ↦ inl (unflagged ∙ sym (and_left _ _ unflagged))
    ]) (rw end at c.loop-number.invariant.flags)
