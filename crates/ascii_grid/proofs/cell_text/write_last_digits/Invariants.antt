use Rattle.std.proofs.Common.{◌≡◌, ◌-◌, ◌/◌, ◌^◌, drop}
use Rattle.ascii_grid.specs.Text.{last_digits}
use Rattle.ascii_grid.proofs.cell_text.write_last_digits.Given as goal

abbrev pub invariant-loop-done : goal.invariant-loop-done
invariant-loop-done l = record {
  left : l.left ≡ l.size / 10 ^ l.done;
  written : drop (32 - l.done) l.buffer ≡ last_digits l.done l.size;
}
