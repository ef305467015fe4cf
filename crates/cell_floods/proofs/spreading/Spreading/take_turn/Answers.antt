use Rattle.std.proofs.Common.{◌≡◌, ◌≢◌, ◌≤◌, ◌<◌, ℕ, ℤ, ap, refl, set, sym, subst, ◌∙◌, [], IsSome, is_some, None, Some, get_or, length, pos, unwrap_or, arith}
use Rattle.std.specs.List.{All}
use Rattle.std.specs.Vec.{with_item}
use Rattle.std.proofs.lemmas.Int.{ints, clamps}
use Rattle.std.proofs.lemmas.List.{get_or_default, set-get_or}
use Rattle.std.proofs.lemmas.List.Elements.{All-get_or}
use Rattle.std.proofs.lemmas.Option.{same_Some}
use Rattle.std.proofs.lemmas.Result.{on_ok_weaker}
use Rattle.terrain.specs.StoredCells.{no_data}
use Rattle.terrain.proofs.Options.{some_inside}
use Rattle.floods.specs.Flood.{entry_of}
use Rattle.floods.specs.Notes.{no_label}
use Rattle.cell_floods.specs.Cells.{IsBeside, cell_at, source_of}
use Rattle.cell_floods.specs.Spreading.{HasLabel, HasWalkTo, IsSound, Spreads, level_of, number_of, source_number, waiting}
use Rattle.cell_floods.specs.declared.spreading.Spreading.{Spreading}
use Rattle.cell_floods.proofs.CellArcs.{all_beside}
use Rattle.cell_floods.proofs.Rectangles.{data_is}
use Rattle.cell_floods.proofs.SpreadSteps.{no_source, number_inside, spreads_label, spreads_then, spreads_waiting, turned, walk_by}
use Rattle.cell_floods.proofs.spreading.Spreading.take_turn.Goals as goal
use Rattle.cell_floods.proofs.spreading.Spreading.take_turn.Goals.{After-index, After-numbers_around-least}

-- The state in which the node has this number.
abbrev with_number : Spreading → ℕ → ℕ → Spreading
with_number x node number = record {
  net = x.net;
  levels = x.levels;
  labels = with_item x.labels node number;
  woken = x.woken;
  meetings = x.meetings;
  sets = x.sets;
}

level_is : (x : Spreading) (node : ℕ) → IsSome (entry_of x.levels.items node) →
    entry_of x.levels.items node ≡ Some (level_of x node)
level_is x node some_height =
    let some = data_is _ some_height in
    some.1 ∙ ap Some (sym (ap (λ o. unwrap_or o no_data) some.1))

-- A node with a height lies in the net.
inside : (now : ℤ) (x : Spreading) (node : ℕ) → IsSome (entry_of x.levels.items node) →
    IsSound now x → node < length x.labels.items
inside now x node some_height s = omega (
  arith,
  some_inside x.levels.items node _ (data_is _ some_height).1,
  s.part.levels_size,
  s.part.labels_size,
)

-- The node gets a label at the level that is its height.
labelled : (x : Spreading) (node label : ℕ) → IsSome (entry_of x.levels.items node) →
    IsSound (level_of x node) x → waiting ≤ number_of x.labels.items node →
    HasWalkTo x.net.now node (level_of x node) label → label < waiting →
    ((h : ℤ) → source_of x.net.now node ≡ Some h → label ≡ node) →
    Spreads (level_of x node) x (with_number x node label)
labelled x node label some_height s free walk low own =
    let level = level_is x node some_height in
    spreads_label (level_of x node) node label x (with_number x node label) s free walk low
    (λ h is. (own h is, same_Some h _ (sym (s.part.sources node h is).0 ∙ level)))
    refl (sym (set-get_or x.levels.items node None) ∙ ap (set x.levels.items node) level) refl refl
    (omega arith)

-- A source gets itself as label.
own_label : (c : After-index) → c.index.result.now ≡ source_number →
    Spreads (level_of c.args.self.now c.args.node) c.args.self.now
    (with_number c.args.self.now c.args.node c.args.node)
own_label c is =
    let x = c.args.self.now in
    let node = c.args.node in
    let s = c.requires.sound in
    let low = inside _ x node c.requires.data s in
    let source = data_is _ (s.part.only node (get_or_default x.labels.items node no_label _ low
    ∙ sym c.index.ensures ∙ is)) in
    let height = same_Some source.0 (level_of x node)
    (sym (s.part.sources node source.0 source.1).0 ∙ level_is x node c.requires.data) in
    labelled x node node c.requires.data s c.requires.free (
      [],
      ap is_some source.1,
      ap (λ o. unwrap_or o (pos 0)) source.1 ∙ height,
      refl,
    ) (omega (arith, low, s.part.few, s.part.labels_size)) (λ h is. refl)

-- The number is not that of a source.
no_mark : (c : After-index) → (c.index.result.now ≡ source_number → ⊥) →
    number_of c.args.self.now.labels.items c.args.node ≢ source_number
no_mark c other is =
    let labels = c.args.self.now.labels.items in
    let low = number_inside labels c.args.node (omega (arith, is)) in
    other (c.index.ensures ∙ get_or_default labels c.args.node _ no_label low ∙ is)

-- A node gets the label of one beside it.
pulled : (c : After-numbers_around-least) →
    number_of c.args.self.now.labels.items c.args.node ≢ source_number →
    c.numbers_around-least.result.least < waiting → Spreads (level_of c.args.self.now c.args.node)
    c.args.self.now
    (with_number c.args.self.now c.args.node c.numbers_around-least.result.least)
pulled c other low =
    let x = c.args.self.now in
    let n = x.net.now in
    let node = c.args.node in
    let now = level_of x node in
    let s = c.requires.sound in
    let around = c.around.ensures in
    let found = c.numbers_around-least.ensures low in
    let b = get_or c.around.result found.0 0 in
    let near : All (IsBeside n.stride node) c.around.result =
    rw around.value (all_beside _ node around.above) in
    let beside = All-get_or (IsBeside n.stride node) c.around.result found.0 0 found.1 near in
    let number : number_of x.labels.items b ≡ c.numbers_around-least.result.least =
    ap (λ z. number_of z b) (sym c.deref.ensures.value) ∙ found.2 in
    let has : HasLabel x.labels.items b = omega (arith, low, number) in
    let reached = s.part.reached b has in
    let cell : cell_at n node ≡ Some now =
    sym (s.part.rest node c.requires.free) ∙ level_is x node c.requires.data in
    labelled x node c.numbers_around-least.result.least c.requires.data s c.requires.free
    (walk_by now now reached.0 n b node _ (subst (λ l. HasWalkTo n b reached.0 l) number reached.3)
    (turned n.stride node b beside) cell (omega (arith, ints, clamps, reached.2)))
    low (λ h is. absurd (no_source now n _ _ node s.part c.requires.free
    other h is))

pub spread_from-requires-clause-sound : goal.spread_from-requires-clause-sound
spread_from-requires-clause-sound c =
    (own_label (goal.at.spread_from-requires-clause-sound c).After-index c.if-index.true).sound

pub returns-then-index : goal.returns-then-index
returns-then-index c =
    on_ok_weaker c.spread_from.result (spreads_then _ _ _ _
    (own_label (goal.at.returns-then-index c).After-index c.if-index.true)) c.spread_from.ensures

pub returns-then-least-ge-WAITING : goal.returns-then-least-ge-WAITING
returns-then-least-ge-WAITING c =
    let x = c.args.self.now in
    let node = c.args.node in
    spreads_waiting (level_of x node) node x _ c.requires.sound c.requires.free
    (no_mark (goal.at.returns-then-least-ge-WAITING c).After-index c.if-index.false)
    (inside _ x node c.requires.data c.requires.sound) refl refl refl refl refl

pub spread_from-requires-then-differ-clause-sound : goal.spread_from-requires-then-differ-clause-sound
spread_from-requires-then-differ-clause-sound c =
    (pulled (goal.at.spread_from-requires-then-differ-clause-sound c).After-numbers_around-least
    (no_mark (goal.at.spread_from-requires-then-differ-clause-sound c).After-index c.if-index.false)
    (omega (arith, c.if-least-ge-WAITING.false))).sound

pub returns-then-differ : goal.returns-then-differ
returns-then-differ c =
    on_ok_weaker c.spread_from-then-differ.result (spreads_then _ _ _ _
    (pulled (goal.at.returns-then-differ c).After-numbers_around-least
    (no_mark (goal.at.returns-then-differ c).After-index c.if-index.false)
    (omega (arith, c.if-least-ge-WAITING.false)))) c.spread_from-then-differ.ensures

pub returns : goal.returns
returns c = pulled (goal.at.returns c).After-numbers_around-least
    (no_mark (goal.at.returns c).After-index c.if-index.false) (omega (arith, c.if-least-ge-WAITING.false))
