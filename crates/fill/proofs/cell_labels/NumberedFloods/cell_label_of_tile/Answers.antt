use Rattle.std.proofs.Common.{◌<◌, rules, length, get_or, arith, sym, ap, ◌∙◌}
use mir.Val.{SFits}
use Rattle.std.specs.Prelude.{option_map}
use Rattle.std.proofs.lemmas.Int.{to_z-of_z}
use Rattle.std.proofs.lemmas.Option.{slice_get-get_or}
use Rattle.terrain.proofs.Heights.{height_width}
use Rattle.tiles.proofs.Cut.{tile_of_place_below}
use Rattle.fill.specs.Numbers.{first_of}
use Rattle.fill.proofs.CellLabels.{among_shift, index_inside, shift}
use Rattle.fill.proofs.cell_labels.NumberedFloods.cell_label_of_tile.Goals as goal

pub bounds-self-own : goal.bounds-self-own
bounds-self-own c =
    let below = tile_of_place_below _ _ c.requires.lawful c.requires.place.0 in
    omega arith

pub returns-in_err-cell_label : goal.returns-in_err-cell_label
returns-in_err-cell_label c =
    let t = c.args.self.now.tiling.now in
    let floods = c.args.self.now.floods.now in
    let own = c.args.own in
    let below = tile_of_place_below t _ c.requires.lawful c.requires.place.0 in
    let there = slice_get-get_or floods own _ (omega arith) in
    c.from_residual.ensures ∙ sym (among_shift t floods own _ _ there c.requires.place.1 ∙
    ap (option_map (shift (first_of floods own))) (sym c.cell_label_in.ensures ∙ c.in_err-cell_label.was))

pub bounds-self-own-2 : goal.bounds-self-own-2
bounds-self-own-2 c =
    let below = tile_of_place_below _ _ c.requires.lawful c.requires.place.0 in
    omega arith

pub overflow_add-result : goal.overflow_add-result
overflow_add-result c =
    let numbers = c.args.self.now.numbers in
    let floods = c.args.self.now.floods.now in
    let own = c.args.own in
    let f = get_or floods own c.index-self-own.result in
    let below = tile_of_place_below _ _ c.requires.lawful c.requires.place.0 in
    let low : own < length floods = omega arith in
    let there = slice_get-get_or floods own _ low in
    let inside = index_inside f _ (numbers.lawful own f there) (sym c.cell_label_in.ensures ∙ c.in_ok-cell_label.was) in
    omega (arith, numbers.few own f there, numbers.each own low, inside)

pub returns : goal.returns
returns c =
    let t = c.args.self.now.tiling.now in
    let floods = c.args.self.now.floods.now in
    let own = c.args.own in
    let f = get_or floods own c.index-self-own.result in
    let m = c.in_ok-cell_label.cell_label in
    let below = tile_of_place_below t _ c.requires.lawful c.requires.place.0 in
    let low : own < length floods = omega arith in
    let there = slice_get-get_or floods own _ low in
    let fits : SFits height_width m.level = search rules in
    let known =
    among_shift t floods own f _ there c.requires.place.1 ∙
    ap (option_map (shift (first_of floods own))) (sym c.cell_label_in.ensures ∙ c.in_ok-cell_label.was) in
    rw (to_z-of_z height_width _ fits, c.args.self.now.numbers.each own low) (sym known)
