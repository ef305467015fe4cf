use Rattle.std.proofs.Common.{ap, ◌+◌, ◌*◌, ◌/◌, ◌%◌, ◌^◌, ◌<◌, arith, rules}
use Rattle.flow.proofs.Moved.{moves_below, next_read}
use Rattle.flow.proofs.tile_links.TileLinksLinks.next.Goals as goal

pub index-requires : goal.index-requires
index-requires c =
    let x = c.self.inside in
    let seen = ap (λ l. l.links) c.self.view_is in
    omega (arith, moves_below _ _ _ seen c.requires)

pub overflow_add-result : goal.overflow_add-result
overflow_add-result c =
    let seen = ap (λ l. l.links) c.self.view_is in
    let read = next_read _ c.self.invariant seen c.requires c.index.ensures in
    let fits : c.args.node + c.index.result.now / 64 * c.self.inside.cols < 2 ^ 64 = omega arith in
    search rules

pub overflow_add-result-2 : goal.overflow_add-result-2
overflow_add-result-2 c =
    let seen = ap (λ l. l.links) c.self.view_is in
    let read = next_read _ c.self.invariant seen c.requires c.index.ensures in
    let fits : c.args.node + c.index.result.now / 64 * c.self.inside.cols + c.index.result.now % 4 < 2 ^ 64 =
    omega arith in
    search rules

pub overflow_sub-result : goal.overflow_sub-result
overflow_sub-result c =
    let seen = ap (λ l. l.links) c.self.view_is in
    (next_read _ c.self.invariant seen c.requires c.index.ensures).0

pub returns : goal.returns
returns c =
    let seen = ap (λ l. l.links) c.self.view_is in
    (next_read _ c.self.invariant seen c.requires c.index.ensures).2
