-- A take keeps a seat's number and its set of deques, so the seats stay those dealt.
use Rattle.std.proofs.Common.{rules, arith, ◌≡◌, ℕ, ◌<◌, List, ◌++◌, length, take, drop, get_or, sym, ap, ◌∙◌}
use Rattle.std.proofs.lemmas.Grind.{common_steps}
use Rattle.tile_jobs.specs.Ends.{SeatState, IsDeal, SameSeat}
use Rattle.tile_jobs.proofs.Seats.{deal_same}
use Rattle.base_tests.proofs.boards.take_with_threads.Goals as goal

pub close-requires : goal.close-requires
close-requires g c =
    let old : List SeatState = c.in_ok-dealt.dealt.items in
    let new : List SeatState = c.for_each_mut.new.s in
    let n = c.in_ok-dealt.dealt.len in
    let reported = c.in_ok-dealt.ensures in
    let size : length old ≡ n = search rules in
    let same_size : length new ≡ length old = grind (arith, common_steps) in
    let whole : take n (new ++ drop (length new) old) ≡ new = grind (arith, common_steps) in
    let count : n ≡ c.args.seats = sym size ∙ reported.deal.count in
    let deal : IsDeal c.args.jobs n old = rw count reported.deal in
    let same : (s : ℕ) (d : SeatState) → s < n → SameSeat (get_or old s d) (get_or new s d) =
    (λ s d low.
    let e = (c.for_each_mut.ensures s d (omega (arith, ap length c.deref_mut.ensures.value))).1 in
    let taken : SameSeat e.argument.now e.after_call.now = (let call = e.call in search rules) in
    let was : e.argument.now ≡ get_or old s d = e.argument_is
    ∙ ap (λ l. get_or l s d) c.deref_mut.ensures.value in
    let is : e.after_call.now ≡ get_or new s d = e.left in
    rw (← was, ← is) taken) in
    record {
      board = (
        c.args.jobs,
        omega (arith, reported.some.0, count),
        rw whole (deal_same c.args.jobs n old new deal (same_size ∙ size) same),
      );
    }
