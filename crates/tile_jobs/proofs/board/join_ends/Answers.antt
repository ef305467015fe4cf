use Rattle.std.proofs.Common.{rules, arith, sym, ap, ◌≡◌, ◌≢◌, ◌<◌, ◌≤◌, ◌==◌, cond, length, drop, get_or, ◌∙◌, vec_len, below_more, eq-eqb}
use Rattle.std.proofs.lemmas.Grind.{common_steps}
use Rattle.tile_jobs.specs.Board.{times}
use Rattle.tile_jobs.specs.Sums.{sum_below}
use Rattle.tile_jobs.specs.Ends.{EndState, ClosingState, AbsorbedEnd}
use Rattle.tile_jobs.proofs.Entries.{times_append}
use Rattle.tile_jobs.proofs.Closings.{back_here, back_else, sum_here, sum_else}
use Rattle.std.proofs.lemmas.Bool.{ne_eqb}
use Rattle.std.proofs.lemmas.List.{get_or_default, get_or-set_same, get_or-set_other}
use Rattle.tile_jobs.proofs.board.join_ends.Goals as goal
use Rattle.tile_jobs.proofs.board.join_ends.Goals.{then-s-v, else-s-v}

pub remove-other-requires : goal.remove-other-requires
remove-other-requires c =
    let far = c.if-s-v.true in
    let at =
    c.index_mut.ensures.value in
    let same = c.loop-s.invariant.kept c.loop-s.s c.index_mut.result.now (omega arith)
    (grind (arith, common_steps)) in
    let some = (c.requires.ids c.loop-s.s c.index_mut.result.now c.args.own
    (grind (arith, common_steps)) far).0 in
    let items = ap (λ v. v.items) at
    ∙ same in
    let size : vec_len c.index_mut.result.now ≡ length c.index_mut.result.now.items =
    search rules in
    let some' : 0 < length c.index_mut.result.now.items = rw items some in
    omega (arith, size, some')

pub loop-s-preserved : goal.loop-s-preserved
loop-s-preserved c =
    let s = c.loop-s.s in
    let v = c.args.v in
    let was = c.args.rows.now.items in
    let rows = c.loop-s.rows.items in
    let inv = c.loop-s.invariant in
    let low : s < length was = grind (arith, common_steps) in
    let size : length rows ≡ length was = grind (arith, common_steps) in
    let vec : vec_len c.args.rows.now ≡ length was = grind (arith, common_steps) in
    let vecs : vec_len c.loop-s.rows ≡ length rows = grind (arith, common_steps) in
    elim c.if-s-v.branch [
      | then-s-v w ↦
          let far : s ≢ v = w.if-s-v.true in
          let x = w.index_mut.result.now in
          let row = w.remove-other.new.self in
          let other : EndState = w.remove-other.result in
          let n : ClosingState = w.absorb.new.self in
          let t : AbsorbedEnd c.loop-s.closing other n = w.absorb.ensures in
          let same : (d : _) → x.items ≡ (get_or was s d).items = λ d.
          ap (λ r. r.items) (w.index_mut.ensures.value ∙ get_or_default rows s x d (omega arith))
          ∙ inv.kept s d (omega arith) (omega arith) in
          let other_is : (d : _) (e : EndState) → other ≡ get_or (get_or was s d).items 0 e = λ d e.
          let some = (c.requires.ids s d e (omega arith) far).0 in
          w.remove-other.ensures.value ∙ ap (λ l. get_or l 0 other) (same d)
          ∙ get_or_default (get_or was s d).items 0 other e some in
          let grew : c.loop-s.closing.marks ≤ n.marks = t.7 in
          rw (w.closing-is, w.rows-is) (record {
            len = inv.len;
            id = t.0 ∙ inv.id;
            jobs = t.1 ∙ inv.jobs;
            seats = t.2 ∙ inv.seats;
            deque = t.3 ∙ inv.deque;
            took = t.4 ∙ inv.took;
            back = rw t.6 (back_else v s c.loop-s.closing.back far inv.back);
            done = below_more _ s (λ i l d.
                rw (get_or-set_other rows s i row d (λ e. absurd (omega arith))) (inv.done i l d))
                (λ d. rw (get_or-set_same rows s row d (omega arith), ne_eqb s v far)
                (w.remove-other.ensures.items ∙ ap (drop 1) (same d)));
            kept = λ i d l m. rw (get_or-set_other rows s i row d (λ e. absurd (omega arith)))
                (inv.kept i d (omega arith) (omega arith));
            counts = λ y f each.
                let a = inv.counts y f each in
                let b = each s x other (omega arith) far in
                let o = ap (λ (e : EndState). times y e.took) (other_is x other) in
                let g = ap (times y) t.5 ∙ times_append y c.loop-s.closing.gathered other.took in
                let k = sum_else s v f far in
                omega arith;
            own_mark = λ m. let k = inv.own_mark m in omega arith;
            marks = below_more _ s (λ i l d e f m. let k = inv.marks i l d e f m in omega arith)
                (λ d e f m. t.8 (ap (λ (q : EndState). q.marked) (other_is d e) ∙ m));
            flag = λ m. let k = inv.flag (sym t.9 ∙ m) in omega arith;
          })
      | else-s-v w ↦
          let here : s ≡ v = grind (arith, common_steps) in
          rw (w.closing-is, w.rows-is) (record {
            len = inv.len;
            id = inv.id;
            jobs = inv.jobs;
            seats = inv.seats;
            deque = inv.deque;
            took = inv.took;
            back = back_here v s c.loop-s.closing.back here inv.back;
            done = below_more _ s inv.done
                (λ d. rw (eq-eqb s v here) (inv.kept s d (omega arith) (omega arith)));
            kept = λ i d l m. inv.kept i d (omega arith) m;
            counts = λ y f each. inv.counts y f each ∙ sym (sum_here s v f here);
            own_mark = inv.own_mark;
            marks = below_more _ s inv.marks (λ d e f m. absurd (f here));
            flag = inv.flag;
          })
    ]

pub returns-clause-times : goal.returns-clause-times
returns-clause-times c = λ y f each. c.loop-s.invariant.counts y f each
    ∙ ap (sum_below (λ i. cond (i == c.args.v) 0 (f i))) (grind arith)
