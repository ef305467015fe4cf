use Rattle.std.proofs.Common.{◌≡◌, length, ap, ◌∙◌, arith}
use Rattle.tiles.specs.Cutting.{tile_count}
use Rattle.drain.specs.Counts.{Counted}
use Rattle.drain.proofs.WindowCodes.{checked_all}
use Rattle.drain.proofs.codes.last_round.Goals as goal

pub returns-clause-checked : goal.returns-clause-checked
returns-clause-checked g c =
    let outs = c.in_ok-outs.outs in
    let size : length outs.items ≡ c.tiles.result = omega (arith, c.in_ok-outs.ensures.len, outs.ok.0) in
    let count = c.tiles.ensures.value ∙ ap (λ (v : Counted). tile_count v.cutting) c.input.view_is in
    checked_all c.args.input.now outs.items c.in_ok-found.found (size ∙ count)
    (λ tile out below. c.in_ok-outs.ensures.given tile out (rw count below))
    c.in_ok-found.ensures
