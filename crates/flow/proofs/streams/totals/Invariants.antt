use Rattle.flow.proofs.streams.totals.Given as goal

abbrev pub ghost-send_all : goal.ghost-send_all
ghost-send_all g a = a.totals.now
