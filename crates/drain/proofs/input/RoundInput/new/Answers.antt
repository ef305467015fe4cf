use Rattle.drain.proofs.input.RoundInput.new.Goals as goal

pub invariant_of-result : goal.invariant_of-result
invariant_of-result c = (
  c.cells.ensures.value,
  record {
    lawful = c.cells.ensures.lawful.terrain;
    cuts = c.requires.cuts;
    counts = c.requires.counts;
  },
)
