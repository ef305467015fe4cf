use Rattle.map_tests.proofs.flats.round.Given as goal

abbrev pub ghost-flat_steps : goal.ghost-flat_steps
ghost-flat_steps g a = g.terrain
