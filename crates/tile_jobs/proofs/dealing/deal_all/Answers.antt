use Rattle.std.proofs.Common.{arith, ap, sym, refl, ◌≡◌, ◌∙◌, length, ◌++◌, ◌∷◌, []}
use Rattle.std.proofs.lemmas.Grind.{common_steps}
use Rattle.tile_jobs.specs.Ends.{EndState, fresh}
use Rattle.tile_jobs.proofs.Seats.{fresh_more, without_cond}
use Rattle.tile_jobs.proofs.dealing.deal_all.Goals as goal

pub loop-v-preserved : goal.loop-v-preserved
loop-v-preserved c =
    let was = c.loop-v.owns.items in
    let size : length was ≡ c.loop-v.v = grind (arith, common_steps) in
    let e : EndState = c.own.result in
    let items : c.push.new.self.items ≡ was ++ e ∷ [] = grind (arith, common_steps) in
    let x : EndState = fresh c.in_ok-dealer.dealer in
    let own_is : e ≡ x = c.own.ensures ∙ ap fresh c.in_ok-split_for_all.ensures.dealer in
    let made = c.in_ok-dealer.ensures in
    record {
      count = grind (arith, common_steps);
      size = grind (arith, common_steps);
      owns = rw items (fresh_more c.args.jobs c.args.seats was e c.loop-v.invariant.owns
          (rw own_is (made.0, made.1, made.2 ∙ sym size, refl, refl)));
      rows = λ s d low. rw (items, own_is)
          (let row = c.in_ok-split_for_all.ensures.rows s d
          (omega (arith, c.loop-v.invariant.size)) in (rw (c.loop-v.invariant.rows s d low) at row)
          ∙ without_cond was s c.loop-v.v x (sym size));
    }
