use Rattle.std.proofs.Common.{◌≡◌, ◌+◌, ◌-◌, ◌≤◌, ◌<◌, ◌⊎◌, None, Some, get_or, inl, inr, ap, sym, ◌∙◌, arith}
use Rattle.std.proofs.lemmas.Bool.{cases_lt, eq-eqb, eqb-true, false≢true}
use Rattle.std.proofs.lemmas.List.{get_or_default}
use Rattle.drain.specs.Search.{stored}
use Rattle.drain.specs.Codes.{IsOnwardWay, IsTooHigh, level_at, stored_at}
use Rattle.drain.proofs.Onward.{first_here, first_kept, more_ways}
use Rattle.drain.proofs.codes.onward_code.Goals as goal
use Rattle.drain.proofs.codes.onward_code.Goals.{then-is_level, else-is_level, then-is_level-count, else-is_level-count}

pub loop-turn-preserved : goal.loop-turn-preserved
loop-turn-preserved c =
    let cells = c.args.cells.now in
    let steps = c.args.steps.now in
    let at = c.args.at.now in
    let level = c.args.level in
    let own = c.args.own in
    let turn = c.loop-turn.turn in
    let inv = c.loop-turn.invariant in
    let below : 7 - turn < 8 = omega arith in
    let left : turn < 8 = c.loop-turn-test.true in
    let count : c.number-count.result ≡ stored_at steps at (7 - turn) = c.number-count.ensures.value
    ∙ ap stored (c.index-steps-index.is
    ∙ get_or_default steps (get_or at (7 - turn) 0) c.index-steps-index.result None
    (c.requires.steps (7 - turn) below)) in
    let cell : c.index-cells-index.result ≡ level_at cells at (7 - turn) = c.index-cells-index.is
    ∙ get_or_default cells (get_or at (7 - turn) 0) c.index-cells-index.result None
    (c.requires.cells (7 - turn) below) in
    let is = IsOnwardWay cells steps at level own in
    let before = c.loop-turn.least in
    let after = c.min-least.result in
    let least = c.min-least.ensures in
    let both = c.if-is_level-count in
    elim c.if-is_level.branch [
      | then-is_level w ↦
          (let high : level_at cells at (7 - turn) ≡ level =
          sym cell ∙ c.is_level_with-is_level.ensures.0 w.if-is_level.true in
          let few : after ≤ own = omega (arith, inv.few, least, w.next-is) in
          let each = more_ways (λ way. level_at cells at way ≡ level → after ≤ stored_at steps at way + 1) turn left
          (λ way past small on. omega (arith, inv.each way past small on, least, w.next-is))
          (λ _. omega (arith, least, w.next-is, count)) in
          let one : (after ≡ own) ⊎ IsTooHigh cells steps at level own after =
          elim (cases_lt (stored_at steps at (7 - turn) + 1) before) [
            | inl less ↦
                (let is : after ≡ stored_at steps at (7 - turn) + 1 = omega (arith, least, w.next-is, count, less) in
                inr (omega (arith, is, less, inv.few), 7 - turn, below, high, is))
            | inr more ↦ (let is : after ≡ before = omega (arith, least, w.next-is, count, more) in rw is inv.one)
          ] in
          elim both.branch [
            | then-is_level-count v ↦
                (let same = eqb-true _ _ (rw w.if-is_level.true at v.if-is_level-count.true) in
                record {
                  few = few;
                  each = each;
                  one = one;
                  found = Some (7 - turn);
                  code = v.code-is ∙ v.of_way-code.ensures;
                  first = first_here is turn left (high, omega (arith, same, count));
                })
            | else-is_level-count v ↦ record {
              few = few;
              each = each;
              one = one;
              found = inv.found;
              code = v.code-is ∙ inv.code;
              first = first_kept is turn inv.found left inv.first
                  (λ on. false≢true (sym v.if-is_level-count.false
                  ∙ rw w.if-is_level.true (eq-eqb _ _ (omega (arith, on.1, count)))));
            }
          ])
      | else-is_level w ↦
          (let off = λ (high : level_at cells at (7 - turn) ≡ level).
          false≢true (sym w.if-is_level.false ∙ c.is_level_with-is_level.ensures.1 (cell ∙ high)) in
          let same : after ≡ before = omega (arith, inv.few, least, w.next-is) in
          elim both.branch [
            | then-is_level-count v ↦ absurd (false≢true (rw w.if-is_level.false at v.if-is_level-count.true))
            | else-is_level-count v ↦ rw same (record {
              few = inv.few;
              each = more_ways (λ way. level_at cells at way ≡ level → before ≤ stored_at steps at way + 1) turn left
                  inv.each (λ high. absurd (off high));
              one = inv.one;
              found = inv.found;
              code = v.code-is ∙ inv.code;
              first = first_kept is turn inv.found left inv.first (λ on. off on.0);
            })
          ])
    ]
