use Rattle.ascii_grid.proofs.write.write_counts.Goals as goal

pub returns : goal.returns
returns g c = rw c.frame.ensures.value at c.write_framed_counts.ensures
