use Rattle.flow.proofs.streams.totals_of_few.Given as goal

abbrev pub ghost-send_all : goal.ghost-send_all
ghost-send_all g a = a.totals.now
