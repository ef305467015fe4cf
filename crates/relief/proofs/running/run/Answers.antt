use Rattle.relief.proofs.running.run.Goals as goal

pub returns : goal.returns
returns g c = c.run_gated.ensures
