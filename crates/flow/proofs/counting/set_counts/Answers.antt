use Rattle.std.proofs.Common.{◌+◌, ◌-◌, ◌≤◌, length, get_or, None, arith}
use Rattle.flow.specs.TileLinks.{where_data}
use Rattle.flow.proofs.Ranges.{set_all}
use Rattle.flow.proofs.counting.set_counts.Goals as goal

pub returns : goal.returns
returns c =
    let all : length c.args.links.now.codes ≤ c.loop-index.index = omega arith in
    set_all (λ i. where_data (get_or c.args.links.now.codes i None) (get_or c.args.totals.now i 0 + get_or
    c.args.added.now i 0 - 1)) all c.loop-index.invariant
