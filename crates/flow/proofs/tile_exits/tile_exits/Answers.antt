use Rattle.std.proofs.Common.{◌∙◌, arith}
use Rattle.flow.proofs.Piece.{lists_made, piece, streams, few, lists_are, ends_are, exits_are}
use Rattle.flow.proofs.tile_exits.tile_exits.Goals as goal

pub rim_ends-requires-clause-streams : goal.rim_ends-requires-clause-streams
rim_ends-requires-clause-streams c =
    let s = lists_made c.requires c.bounds-bounds.ensures.value c.bounds-bounds.ensures.inside
    c.bounds-bounds.ensures.lawful c.in_ok-cells.ensures c.deref.ensures.value c.in_ok-links.ensures.links in
    streams s

pub rim_ends-requires-clause-few : goal.rim_ends-requires-clause-few
rim_ends-requires-clause-few c =
    let s = lists_made c.requires c.bounds-bounds.ensures.value c.bounds-bounds.ensures.inside
    c.bounds-bounds.ensures.lawful c.in_ok-cells.ensures c.deref.ensures.value c.in_ok-links.ensures.links in
    omega (arith, few)

pub rim_ends-requires-clause-size : goal.rim_ends-requires-clause-size
rim_ends-requires-clause-size c =
    let s = lists_made c.requires c.bounds-bounds.ensures.value c.bounds-bounds.ensures.inside
    c.bounds-bounds.ensures.lawful c.in_ok-cells.ensures c.deref.ensures.value c.in_ok-links.ensures.links in
    (piece s).made.size

pub invariant_of-result : goal.invariant_of-result
invariant_of-result c =
    let s = lists_made c.requires c.bounds-bounds.ensures.value c.bounds-bounds.ensures.inside
    c.bounds-bounds.ensures.lawful c.in_ok-cells.ensures c.deref.ensures.value c.in_ok-links.ensures.links in
    rw (c.in_ok-links.ensures.codes ∙ c.deref.ensures.value) (lists_are s c.in_ok-rim_ends.ensures)

pub returns : goal.returns
returns c =
    let s = lists_made c.requires c.bounds-bounds.ensures.value c.bounds-bounds.ensures.inside
    c.bounds-bounds.ensures.lawful c.in_ok-cells.ensures c.deref.ensures.value c.in_ok-links.ensures.links in
    rw (c.in_ok-links.ensures.codes ∙ c.deref.ensures.value) (exits_are s (ends_are _))
