use Rattle.map_tests.proofs.flats.first_round.Given as goal

abbrev pub ghost-round : goal.ghost-round
ghost-round g a = a.grid.now.terrain
