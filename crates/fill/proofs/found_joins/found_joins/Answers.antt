use Rattle.std.proofs.Common.{◌<◌, length, refl, arith}
use Rattle.std.proofs.lemmas.Option.{slice_get_read}
use Rattle.std.proofs.lemmas.List.Elements.{All-append, All-nil}
use Rattle.fill.specs.Crests.{IsPassage}
use Rattle.fill.specs.Numbers.{places_of}
use Rattle.fill.proofs.LabelNets.{list_there}
use Rattle.fill.proofs.Passages.{meetings_few, passes_added, tile_passes}
use Rattle.fill.proofs.found_joins.found_joins.Goals as goal

pub push_meetings-requires : goal.push_meetings-requires
push_meetings-requires c =
    let k = c.args.tiles.now.tiling.now in
    let floods = c.args.tiles.now.floods.now in
    let numbers = c.args.tiles.now.numbers in
    let are = c.requires.1 in
    let tile = c.loop-tile.tile in
    let low : tile < length floods = omega arith in
    let f = list_there floods tile low in
    let list = c.index-meetings-index.result in
    rw (c.deref.ensures.value, numbers.each tile low) (meetings_few c.requires.0 k floods are tile f.0 f.1 list.items
    (c.requires.2.each tile f.0 list f.1 (slice_get_read _ _ tile list refl (omega arith) c.index-meetings-index.is))
    (numbers.few tile f.0 f.1))

pub loop-tile-init : goal.loop-tile-init
loop-tile-init c t are met = rw c.new-joins.ensures.items (All-nil _)

pub loop-tile-preserved : goal.loop-tile-preserved
loop-tile-preserved c t are met =
    let k = c.args.tiles.now.tiling.now in
    let floods = c.args.tiles.now.floods.now in
    let numbers = c.args.tiles.now.numbers in
    let tile = c.loop-tile.tile in
    let low : tile < length floods = omega arith in
    let f = list_there floods tile low in
    let list = c.index-meetings-index.result in
    passes_added t k floods are _ _ numbers.lawful c.in_ok-push_rim_joins.ensures
    (rw (c.in_ok-push_meetings.ensures, c.deref.ensures.value, numbers.each tile low)
    (All-append (IsPassage t (places_of floods)) _ _ (c.loop-tile.invariant t are met)
    (tile_passes t k floods are tile f.0 f.1 list.items
    (met.each tile f.0 list f.1
    (slice_get_read c.args.meetings.now _ tile list refl (omega arith) c.index-meetings-index.is)))))
