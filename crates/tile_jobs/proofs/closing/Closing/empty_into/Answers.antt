use Rattle.std.proofs.Common.{arith, sym, ap, ◌≡◌, ℕ, ◌+◌, [], ◌∷◌, ◌++◌, List, length, ◌∙◌, true, false, true≢false}
use Rattle.std.proofs.lemmas.List.{append_assoc}
use Rattle.std.proofs.lemmas.Grind.{common_steps}
use lib.ListN.{length-append}
use Rattle.tile_jobs.specs.Ends.{ClosingState, PoppedJob, deal_of, position_of}
use Rattle.tile_jobs.proofs.Closings.{part_more, part_ends, now_deal, now_more, now_place, now_times}
use Rattle.tile_jobs.proofs.closing.Closing.empty_into.Goals as goal

pub loop-closing-preserved-in-Some : goal.loop-closing-preserved-in-Some
loop-closing-preserved-in-Some c =
    let s0 : ClosingState = c.args.self in
    let s : ClosingState = c.loop-closing.closing in
    let n : ClosingState = c.next.new.self in
    let p : List ℕ = c.loop-closing.invariant.0 in
    let inv = c.loop-closing.invariant.1 in
    let j = c.in-Some.job in
    let t : PoppedJob s j n = c.in-Some.ensures in
    let unmarked : s.marked ≡ false = grind (arith, common_steps) in
    let place = now_place s0 s p inv.now n j t.0 in
    let marks : n.marks ≡ s.marks = ap (λ (x : ClosingState). x.marks) t.0 in
    let marked : n.marked ≡ false = ap (λ (x : ClosingState). x.marked) t.0 ∙ unmarked in
    let size = length-append p (j ∷ []) in
    let low : length p + position_of s0 ≡ position_of s = inv.low in (
      p ++ j ∷ [],
      record {
        left = c.put.ensures.items ∙ ap (λ l. l ++ j ∷ []) inv.left
            ∙ append_assoc c.args.left.now.items p (j ∷ []);
        now = now_more s0 s p inv.now n j t.0;
        part = rw place (part_more (deal_of s0) p (position_of s0) (position_of s) j
            (omega arith) inv.part (rw (now_deal s0 s p inv.now) at t.2));
        low = omega arith;
        some = λ m. (let k = inv.same unmarked in let z = t.1 in absurd (omega arith));
        same = λ _. marks ∙ inv.same unmarked;
        ended = λ m. absurd (true≢false (sym m ∙ marked));
        capacity = (let a = c.put.ensures.capacity in let b = inv.capacity in omega arith);
      },
    )

pub returns-clause-left : goal.returns-clause-left
returns-clause-left c =
    let s0 : ClosingState = c.args.self in
    let s : ClosingState = c.loop-closing.closing in
    let p : List ℕ = c.loop-closing.invariant.0 in
    let inv = c.loop-closing.invariant.1 in
    let marked : s.marked ≡ true = grind (arith, common_steps) in (
      p,
      inv.left,
      part_ends (deal_of s0) p (position_of s0) (position_of s) s0.marks inv.part
          (inv.ended marked) inv.some,
      inv.some,
      (λ y. now_times s0 s p inv.now y (c.finish.ensures y)),
    )
