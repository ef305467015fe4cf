use Rattle.std.proofs.Common.{arith, rules, ◌≡◌, ◌+◌, ◌-◌, ◌<◌, length}
use Rattle.std.proofs.lemmas.List.{drop_all}
use Rattle.ascii_grid.proofs.Decimals.{div_pow_last, digit_before}
use Rattle.ascii_grid.proofs.cell_text.write_last_digits.Goals as goal

pub loop-done-init : goal.loop-done-init
loop-done-init c = record { left = search rules; written = drop_all 32 c.args.buffer.now (omega arith) }

pub loop-done-preserved : goal.loop-done-preserved
loop-done-preserved c =
    let before : 32 - (c.loop-done.done + 1) ≡ 31 - c.loop-done.done = omega arith in
    let after : 32 - c.loop-done.done ≡ (31 - c.loop-done.done) + 1 = omega arith in
    let within : 31 - c.loop-done.done < length c.loop-done.buffer = search rules in
    record {
      left = rw c.loop-done.invariant.left (div_pow_last _ _);
      written =
          rw before
          (digit_before _ _ _ _ _ c.loop-done.invariant.left within (rw after at c.loop-done.invariant.written));
    }
