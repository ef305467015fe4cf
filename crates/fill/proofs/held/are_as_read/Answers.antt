use Rattle.std.proofs.Common.{◌≡◌, None, get_or, take, ap, sym, ◌∙◌, arith}
use Rattle.std.proofs.lemmas.List.{get_or_read, take_all, take_more}
use Rattle.std.proofs.lemmas.List.Elements.{All-push}
use Rattle.terrain.specs.Neighbours.{index_of}
use Rattle.terrain.specs.declared.place.Place.{Place}
use Rattle.fill.proofs.held.are_as_read.Goals as goal

pub loop-place-preserved : goal.loop-place-preserved
loop-place-preserved c =
    let places = c.args.places.now in
    let k = c.loop-place.place-index in
    let cols = c.args.tiling.now.cols in
    let p : Place = get_or places k (record { row = 0; col = 0 }) in
    let at = c.node_of-index.ensures.value in
    let below = c.node_of-index.ensures.below in
    let cell =
    get_or_read c.args.cells.now c.node_of-index.result c.index-cells-index.result (omega arith) c.index-cells-index.is
    None in
    let read =
    get_or_read c.args.read.now c.node_of-index.result c.index-read-index.result (omega arith) c.index-read-index.is
    None in
    let same = c.is_level_with.ensures.0 (cc) in
    let own : get_or c.args.cells.now (index_of cols p) None ≡ get_or c.args.read.now (index_of cols p) None =
    ap (λ n. get_or c.args.cells.now n None) (sym at) ∙ sym cell ∙ same ∙ read ∙
    ap (λ n. get_or c.args.read.now n None) at in
    rw (take_more places k (record { row = 0; col = 0 }) c.loop-place-test.true)
    (All-push
    (λ (q : Place). get_or c.args.cells.now (index_of cols q) None ≡ get_or c.args.read.now (index_of cols q) None)
    (take k places) p c.loop-place.invariant own)

pub returns : goal.returns
returns c = rw (take_all _ _ c.loop-place-test.false) at c.loop-place.invariant
