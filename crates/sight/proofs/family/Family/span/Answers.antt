use Rattle.std.proofs.Common.{arith, rules, refl, sym, ap, ◌∙◌, ◌≡◌, ◌+◌, ◌≤◌, pos, ◌*ℤ◌, ◌<ℤ◌, get_or, None, Some, w32, w64, to_z, of_z}
use Rattle.std.proofs.lemmas.Int.{ints, to_z-of_z, by_lt_z}
use Rattle.std.proofs.lemmas.Nat.{mul-le}
use Rattle.horizons.specs.Horizons.{ramp_hides}
use Rattle.horizons.proofs.Sizes.{back_short}
use Rattle.sight.specs.Sweep.{lead_of}
use Rattle.sight.proofs.Below.{among_shows, passes_one}
use Rattle.sightlines.proofs.Heights.{kept}
use Rattle.sight.proofs.Rays.{past_onward}
use Rattle.sight.proofs.Spans.{near_index, none_outside, nothing_near, nothing_far, shows_ramp, shows_centre}
use Rattle.sight.proofs.family.Family.span.Goals as goal

pub returns-in_default-clause-shows : goal.returns-in_default-clause-shows
returns-in_default-clause-shows c t is_t slope among alone = record {
  at = c.nothing.ensures.at t is_t;
  hides = λ y rise stands later is.
      let cell = none_outside _ _ y _ t c.requires.family stands later (passes_one _ _ t among) in
      absurd (omega (arith, c.in_default.ensures cell.0 cell.1, cell.2));
}

pub returns-in_default-height_at-clause-shows : goal.returns-in_default-height_at-clause-shows
returns-in_default-height_at-clause-shows c t is_t slope among alone =
    let f = c.args.self in
    let k = c.args.line in
    let cells = c.args.cells.now in
    let cell = c.in-Some.ensures in
    let none = ap (λ n. get_or cells n None) (sym cell.3) ∙ sym c.height_at.ensures ∙ c.in_default-height_at.is in
    record {
      at = c.nothing.ensures.at t is_t;
      hides = λ y rise stands later is.
          c.nothing.ensures.below t rise is_t is ∙
          sym (nothing_near cells f k _ y _ rise t stands later (passes_one k _ t among) cell.2 none);
    }

pub returns-in-Some-height_at-2-clause-shows : goal.returns-in-Some-height_at-2-clause-shows
returns-in-Some-height_at-2-clause-shows c t is_t slope among alone =
    let f = c.args.self in
    let k = c.args.line in
    let cells = c.args.cells.now in
    let near = c.in-Some-height_at.near in
    let far = c.in-Some-height_at-2.far in
    let cell = c.in-Some.ensures in
    let here = ap (λ n. get_or cells n None) (sym cell.3) ∙ sym c.height_at.ensures ∙ c.in-Some-height_at.is in
    let next =
    ap (λ n. get_or cells (n + f.side.stride) None) (sym cell.3) ∙ sym c.height_at-2.ensures ∙
    c.in-Some-height_at-2.is in
    let ramp = rw (to_z-of_z w64 near (search rules), to_z-of_z w64 far (search rules)) at c.ramp-ramp.ensures.ramp in
    let last = c.last_of.result in
    let last_back = back_short last (omega (arith, ints, c.last_of.ensures.range, c.offset_at-offset.ensures.small)) in
    among_shows cells f k (to_z w32 (of_z w32 c.offset_at-offset.result)) last _ t is_t.line.0 (rw last_back at among)
    (λ passes. record {
      at = c.ramp-ramp.ensures.at t is_t passes;
      hides = λ y rise stands later is.
          ap (λ r. ramp_hides r t rise) ramp ∙
          shows_ramp cells f k _ y _ near far rise t stands later passes cell.2 here next;
    }) (λ b past below passes. c.last_of.ensures.shows b t past below is_t passes)

pub returns-then-not-is_at_centre-clause-shows : goal.returns-then-not-is_at_centre-clause-shows
returns-then-not-is_at_centre-clause-shows c t is_t slope among alone =
    let f = c.args.self in
    let k = c.args.line in
    let cells = c.args.cells.now in
    let target = c.args.target in
    let near = c.in-Some-height_at.near in
    let offset = to_z w32 (of_z w32 c.offset_at-offset.result) in
    let back = back_short c.offset_at-offset.result (omega arith) in
    let cell = c.in-Some.ensures in
    let here : get_or cells (near_index f k cell.0) None ≡ Some near =
    ap (λ n. get_or cells n None) (sym cell.3) ∙ sym c.height_at.ensures ∙ c.in-Some-height_at.is in
    let next : get_or cells (near_index f k cell.0 + f.side.stride) None ≡ None =
    ap (λ n. get_or cells (n + f.side.stride) None) (sym cell.3) ∙ sym c.height_at-2.ensures ∙
    c.in_default-height_at-2.is in
    let beyond : (offset *ℤ pos target.line) <ℤ (target.offset *ℤ pos k) =
    by_lt_z (offset *ℤ pos target.line) (target.offset *ℤ pos k) (λ less. less)
    (λ not.
    let yes =
    c.is_at_centre.ensures.1
    (omega (arith, ints, (rw (← back) at c.offset_at-offset.ensures.passes).low, not)) in
    absurd cc) in
    let past = past_onward offset target.offset t.offset target.line _ k is_t.line.0 slope beyond in
    record {
      at = c.nothing.ensures.at t is_t;
      hides = λ y rise stands later is.
          c.nothing.ensures.below t rise is_t is ∙
          sym (nothing_far cells f k _ y _ rise near t stands later (passes_one k offset t among) cell.2 here next
          past);
    }

pub ramp-ramp-requires-clause-heights : goal.ramp-ramp-requires-clause-heights
ramp-ramp-requires-clause-heights c = (
  kept _ (c.requires.heights c.in-Some.index c.in-Some-height_at.near
      (sym c.height_at.ensures ∙ c.in-Some-height_at.is)),
  kept _ (c.requires.heights (c.in-Some.index + c.args.self.side.stride) c.in-Some-height_at-2.far
      (sym c.height_at-2.ensures ∙ c.in-Some-height_at-2.is)),
)

pub ramp-requires-clause-heights : goal.ramp-requires-clause-heights
ramp-requires-clause-heights c =
    let is =
    kept _ (c.requires.heights c.in-Some.index c.in-Some-height_at.near
    (sym c.height_at.ensures ∙ c.in-Some-height_at.is)) in
    (is, is)

pub last_of-requires-clause-first : goal.last_of-requires-clause-first
last_of-requires-clause-first c = omega (arith, ints, c.in-Some.ensures.1, c.in-Some.ensures.2)

pub ramp-requires-clause-offset : goal.ramp-requires-clause-offset
ramp-requires-clause-offset c = omega (arith, ints, c.in-Some.ensures.1, c.in-Some.ensures.2)

pub returns-clause-shows : goal.returns-clause-shows
returns-clause-shows c t is_t slope among alone =
    let f = c.args.self in
    let k = c.args.line in
    let cells = c.args.cells.now in
    let target = c.args.target in
    let offset = to_z w32 (of_z w32 c.offset_at-offset.result) in
    let near = c.in-Some-height_at.near in
    let cell = c.in-Some.ensures in
    let here = ap (λ n. get_or cells n None) (sym cell.3) ∙ sym c.height_at.ensures ∙ c.in-Some-height_at.is in
    let ramp = rw (to_z-of_z w64 near (search rules)) at c.ramp.ensures.ramp in
    let same = alone refl in
    record {
      at = c.ramp.ensures.at t is_t (passes_one k offset t among);
      hides = λ y rise stands later is.
          ap (λ r. ramp_hides r t rise) ramp ∙
          shows_centre cells f k _ y offset near rise t stands later (ap (λ u. u.offset *ℤ pos k) same ∙
          (c.is_at_centre.ensures.0 c.if-not-is_at_centre.false) ∙ ap (λ u. offset *ℤ pos u.line) (sym same))
          cell.2 here;
    }

pub overflow_add-index : goal.overflow_add-index
overflow_add-index c =
    let f = c.args.self in
    let cell = c.in-Some.ensures in
    let lead : lead_of f c.args.line ≤ 8192 = grind arith in
    let lines = mul-le (lead_of f c.args.line) f.lines.stride 8192 4096 lead (omega arith) in
    let side = mul-le cell.0 f.side.stride 4096 4096 (omega arith) (omega arith) in
    omega (arith, lines, side)
