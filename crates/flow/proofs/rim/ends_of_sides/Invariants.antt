use Rattle.std.proofs.Common.{◌≡◌, map}
use Rattle.std.specs.List.{range_with_len}
use Rattle.flow.specs.Streams.{end_of}
use Rattle.flow.specs.Finding.{AreKnown}
use Rattle.tiles.specs.Cutting.{index_in}
use Rattle.tiles.specs.RimNumbers.{side_place}
use Rattle.flow.proofs.rim.ends_of_sides.Given as goal

abbrev pub invariant-loop-side : goal.invariant-loop-side
invariant-loop-side l = record {
  found : AreKnown l.paths.links.now.links (λ e. e) l.found;
  ends : l.ends.items ≡ map (λ side. end_of l.paths.links.now.links
      (index_in l.bounds (side_place l.bounds l.bounds side))) (range_with_len 0 l.side);
}
