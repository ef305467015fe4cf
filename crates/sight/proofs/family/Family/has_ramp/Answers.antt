use Rattle.std.proofs.Common.{arith, rules, refl, sym, ap, ◌∙◌, ◌≡◌, ◌+◌, pos, ◌≤ℤ◌, get_or, None, w64, subst, true, ◌&&◌, ℕ, ℤ, int_eq, eqb}
use Rattle.std.proofs.lemmas.Bool.{OnTrue_from, and_parts, eqb-true}
use Rattle.std.proofs.lemmas.Int.{ints, to_z-of_z}
use Rattle.horizons.specs.declared.target.Target.{Target}
use Rattle.horizons.specs.declared.ramp.Ramp.{Ramp}
use Rattle.horizons.specs.Horizons.{IsTarget, ramp_hides}
use Rattle.horizons.proofs.Sizes.{back_short}
use Rattle.sight.specs.Sweep.{Passes, IsShadow}
use Rattle.sightlines.proofs.Heights.{kept}
use Rattle.sight.proofs.Spans.{shows_ramp}
use Rattle.sight.proofs.family.Family.has_ramp.Goals as goal

pub ramp-requires-clause-heights : goal.ramp-requires-clause-heights
ramp-requires-clause-heights c = (
  kept _ (c.requires.heights c.in-Some.index c.in-Some-height_at.near
      (sym c.height_at.ensures ∙ c.in-Some-height_at.is)),
  kept _ (c.requires.heights (c.in-Some.index + c.args.self.side.stride) c.in-Some-height_at-2.far
      (sym c.height_at-2.ensures ∙ c.in-Some-height_at-2.is)),
)

pub returns-clause-inside : goal.returns-clause-inside
returns-clause-inside c =
    let offset = c.args.offset in
    let cell = rw (back_short offset (omega (arith, c.requires.offset))) at c.in-Some.ensures in
    OnTrue_from c.eq.result (offset ≤ℤ pos 4096) (λ yes. omega (arith, ints, cell.1, cell.2, c.requires.family))

ramp_is : (a b c d : ℤ) (m n p q : ℕ) → a ≡ b → c ≡ d → m ≡ n → p ≡ q →
    (let r : Ramp = record { gain = a; intercept = c; lines = m; clear_to = p } in
    r) ≡ record { gain = b; intercept = d; lines = n; clear_to = q }
ramp_is a b c d m n p q e f g h = rw (e, f, g, h) refl

same_ramp : (r s : Ramp) →
    (int_eq r.gain s.gain && (int_eq r.intercept s.intercept && (eqb r.lines s.lines && eqb r.clear_to s.clear_to))) ≡
    true → r ≡ s
same_ramp r s e =
    let first =
    and_parts (int_eq r.gain s.gain)
    (int_eq r.intercept s.intercept && (eqb r.lines s.lines && eqb r.clear_to s.clear_to)) e in
    let rest = and_parts (int_eq r.intercept s.intercept) (eqb r.lines s.lines && eqb r.clear_to s.clear_to) first.1 in
    let last = and_parts (eqb r.lines s.lines) (eqb r.clear_to s.clear_to) rest.1 in
    ramp_is _ _ _ _ _ _ _ _ (int_same r.gain s.gain first.0) (int_same r.intercept s.intercept rest.0)
    (eqb-true r.lines s.lines last.0) (eqb-true r.clear_to s.clear_to last.1)
  where
    int_same : (x y : ℤ) → int_eq x y ≡ true → x ≡ y
    int_same x y e = grind (arith, ints)

pub returns-clause-shows : goal.returns-clause-shows
returns-clause-shows c =
    let f = c.args.self in
    let k = c.args.line in
    let cells = c.args.cells.now in
    let offset = c.args.offset in
    let near = c.in-Some-height_at.near in
    let far = c.in-Some-height_at-2.far in
    let back = back_short offset (omega arith) in
    let cell = rw back at c.in-Some.ensures in
    let here = ap (λ n. get_or cells n None) (sym cell.3) ∙ sym c.height_at.ensures ∙ c.in-Some-height_at.is in
    let next =
    ap (λ n. get_or cells (n + f.side.stride) None) (sym cell.3) ∙ sym c.height_at-2.ensures ∙
    c.in-Some-height_at-2.is in
    let ramp = rw (back, to_z-of_z w64 near (search rules), to_z-of_z w64 far (search rules)) at c.ramp.ensures.ramp in
    let at = rw back at c.ramp.ensures.at in
    OnTrue_from _ _ (λ yes.
    let same = same_ramp c.ramp.result c.args.ramp (sym c.eq.ensures ∙ yes) in
    let P : Ramp → Type 0 = λ r. (t : Target) → IsTarget t → Passes k offset t → IsShadow cells f k t r in
    subst P same (λ t is_t passes. record {
      at = at t is_t passes;
      hides = λ y rise stands later is.
          ap (λ r. ramp_hides r t rise) ramp ∙
          shows_ramp cells f k _ y offset near far rise t stands later passes cell.2 here next;
    }))
