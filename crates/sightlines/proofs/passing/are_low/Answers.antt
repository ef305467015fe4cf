use Rattle.std.proofs.Common.{arith, ◌+◌, ◌*◌}
use Rattle.sightlines.proofs.Heights.{has_height, kept}
use Rattle.sightlines.proofs.passing.are_low.Goals as goal

pub weigh-requires-clause-height : goal.weigh-requires-clause-height
weigh-requires-clause-height c =
    let at = c.args.first + c.loop-i.i * c.args.stride in
    kept _ (c.requires.heights at c.in-Some.height (has_height c.args.tops.now at c.index-tops-first.is c.height.ensures
    c.in-Some.is (c.requires.room c.loop-i.i (omega arith))))
