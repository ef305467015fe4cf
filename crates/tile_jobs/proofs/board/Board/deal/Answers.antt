use Rattle.std.proofs.Common.{arith, sym, subst, ◌≡◌, length, vec_len}
use Rattle.std.proofs.lemmas.Grind.{common_steps}
use Rattle.tile_jobs.specs.Ends.{IsNew}
use Rattle.tile_jobs.proofs.Seats.{deal_ends, new_seat}
use Rattle.tile_jobs.proofs.board.Board.deal.Goals as goal

pub returns-clause-deal : goal.returns-clause-deal
returns-clause-deal c =
    let all = c.in_ok-ends.ends.owns.items in
    let ss = c.in_ok-seat_all.field-0.items in
    let owns = c.in_ok-ends.ensures.count.0 in
    let size : length all ≡ c.args.seats = grind arith in
    let sizes : length ss ≡ c.args.seats = grind arith in
    deal_ends _ _ all ss c.in_ok-ends.ensures.owns size sizes (λ s d e low.
    c.in_ok-seat_all.ensures.each s d e (omega arith))

pub returns-clause-new : goal.returns-clause-new
returns-clause-new c = λ s d low.
    let all = c.in_ok-ends.ends.owns.items in
    let owns : vec_len c.in_ok-ends.ends.owns ≡ c.args.seats = c.in_ok-ends.ensures.count.0 in
    let size : length all ≡ c.args.seats = grind (arith, common_steps) in
    subst IsNew (sym (c.in_ok-seat_all.ensures.each s d d.own (omega (arith, owns))))
    (new_seat c.args.jobs c.args.seats s all d.own c.in_ok-ends.ensures.owns (omega (arith, size)))
