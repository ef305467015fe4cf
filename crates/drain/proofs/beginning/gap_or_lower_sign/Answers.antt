use Rattle.drain.proofs.Signs.{gap_or_lower}
use Rattle.drain.proofs.beginning.gap_or_lower_sign.Goals as goal

pub returns : goal.returns
returns c high = rw (c.cast_unsigned.ensures, c.cast_unsigned-2.ensures, c.number-height.ensures)
    (gap_or_lower c.args.level c.args.cell high c.requires)
