use Rattle.std.proofs.Common.{arith, refl, ap, ◌≡◌, ℕ, List, drop, ◌∙◌, vec_len}
use Rattle.tile_jobs.specs.Board.{deal, times}
use Rattle.tile_jobs.specs.Ends.{ClosingState, deal_of}
use Rattle.tile_jobs.proofs.Entries.{times_append}
use Rattle.tile_jobs.proofs.Residues.{sum_skip}
use Rattle.tile_jobs.proofs.board.close_one.Goals as goal

pub returns-clause-left : goal.returns-clause-left
returns-clause-left c =
    let g = c.join_ends-closing.ensures in
    let s : ClosingState = c.join_ends-closing.result in
    let d = c.empty_into.ensures.left in
    let p : List ℕ = d.0 in
    let n = g.names in
    let deal_is : deal_of s ≡ deal c.args.own.jobs c.args.own.seats c.args.own.deque =
    rw (n.0, n.1, n.2) refl in (
      p,
      d.1,
      record {
        part = (d.2.0, d.2.1 ∙ ap (drop d.2.0) deal_is);
        own_mark = λ m. d.3 (g.own_mark m);
        marks = λ i x e l f m. d.3 (g.marks i x e l f m);
        once = λ y f each own.
            let a = d.4 y in
            let b = times_append y s.took s.gathered in
            let t = ap (times y) n.3 in
            let k = g.times y f each in
            let q = sum_skip (vec_len c.args.rows.now) c.args.v f c.requires.own.0 in
            let r = ap (times y) deal_is in
            omega arith;
      },
    )
