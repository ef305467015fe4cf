use Rattle.drain.proofs.WindowCodes.{codes_of_tile}
use Rattle.drain.proofs.codes.LastRoundWork.run.Goals as goal

pub returns-clause-given : goal.returns-clause-given
returns-clause-given c =
    let window = c.in_ok-window.ensures in
    codes_of_tile c.in_ok-window.window c.args.self.now.input.now c.args.job c.in_ok-codes.codes window.lawful
    window.bounds window.terrain window.counts c.in_ok-codes.ensures
