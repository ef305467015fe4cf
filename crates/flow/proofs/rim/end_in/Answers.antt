use Rattle.std.proofs.Common.{◌<◌, length, get_or, sym, ap, ◌∙◌, arith}
use Rattle.std.proofs.lemmas.List.FromFn.{get_or-map-range_with_len, length-map-range_with_len}
use Rattle.terrain.proofs.Listed.{place_is}
use Rattle.flow.specs.Streams.{end_of}
use Rattle.tiles.specs.Cutting.{index_in}
use Rattle.tiles.specs.RimNumbers.{stride, side_place}
use Rattle.tiles.proofs.RimNumbered.{side_below}
use Rattle.flow.proofs.rim.end_in.Goals as goal

pub bounds-rim_ends-side : goal.bounds-rim_ends-side
bounds-rim_ends-side c =
    let b = c.args.bounds in
    omega (
      arith,
      side_below,
      ap length c.requires.rim,
      length-map-range_with_len (λ side. end_of c.args.links.now.links (index_in b (side_place b b side))) 0 (stride b),
    )

pub returns-then-is_place : goal.returns-then-is_place
returns-then-is_place c =
    let b = c.args.bounds in
    let side = c.side_number-side.result in
    let below : c.side_number-side.result < stride c.args.bounds = omega (arith, side_below) in
    ap (λ xs. get_or xs side 0) c.requires.rim ∙
    get_or-map-range_with_len (λ i. end_of c.args.links.now.links (index_in b (side_place b b i))) 0 _ side side 0 below
    (omega arith) ∙ ap (λ p. end_of c.args.links.now.links (index_in b p)) (sym c.side_place.ensures ∙
    place_is _ _ (cc))
