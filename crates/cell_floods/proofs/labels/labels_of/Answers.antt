use Rattle.std.proofs.Common.{◌≡◌, ◌+◌, ◌<◌, subst, ◌∙◌, ℕ, List, Option, None, Some, IfSome, refl, sym, ap, get_or, length, arith}
use Rattle.cell_floods.specs.Indexes.{places_of}
use Rattle.cell_floods.specs.Labels.{AreMet, IsListedAt, label_of_node}
use Rattle.std.proofs.lemmas.List.{length-map, length-set, get_or-map, get_or-set_other, take_more_set}
use Rattle.floods.specs.Notes.{label_of, numbered_labels}
use Rattle.floods.proofs.Noting.{written_back, mapped_more}
use Rattle.std.proofs.lemmas.Nat.{mul-le}
use Rattle.terrain.specs.declared.place.Place.{Place}
use Rattle.tiles.specs.declared.bounds.Bounds.{Bounds}
use Rattle.cell_floods.proofs.LabelTables.{listed_length, cell_listed, cell_label}
use Rattle.cell_floods.proofs.labels.labels_of.Goals as goal
use Rattle.cell_floods.proofs.labels.labels_of.Goals.{After-label_of}

-- There is a cell at the index, and the label that is read is that of the cell.
own : (c : goal.After-label_of) → (c.loop-index.index-index < length c.args.nodes.items)
    × (get_or (numbered_labels c.args.nodes.items) c.loop-index.index-index None ≡ c.label_of.result)
own c =
    let low : c.loop-index.index-index < length c.args.nodes.items =
    omega (arith, c.loop-index-test.true, ap length c.deref_mut-index-items.ensures.value) in (
      low,
      get_or-map label_of c.args.nodes.items c.loop-index.index-index 0 None low
          ∙ ap label_of (sym (c.loop-index.invariant.rest c.loop-index.index-index (omega arith)))
          ∙ sym c.label_of.ensures,
    )

met_by : {a b : Bounds} {met : List ℕ} {places : List (Option Place)} → a ≡ b → AreMet a met places →
    AreMet b met places
met_by {a} {b} {met} {places} same are = subst (λ (x : Bounds). AreMet x met places) same are

pub loop-index-preserved : goal.loop-index-preserved
loop-index-preserved c =
    let before = c.loop-index.invariant in
    let i = c.loop-index.index-index in
    let xs = c.loop-index.index-items in
    let nodes = c.args.nodes.items in
    let here = own (goal.at.loop-index-preserved c).After-label_of in
    let new = places_of c.index_of_label.new.table in
    let at = subst (λ (b : Bounds). IsListedAt c.in_ok-index.field-0 (label_of_node b c.label_of.result)
    (places_of c.loop-index.table) new) before.bounds c.in_ok-index.ensures.index in
    let some : 0 < length (places_of c.loop-index.table) = omega (arith, before.met.inside 0) in
    let more = take_more_set xs i c.in_ok-index.field-0 (omega (arith, here.0, before.whole)) in
    let written = written_back c.loop-index.met.len c.index_of_label.new.met c.loop-index.met.items
    (c.index_of_label.auto.met ∙ c.deref_mut.ensures.len) in
    record {
      few = omega (arith, before.few, listed_length _ _ _ _ at);
      bounds = c.in_ok-index.ensures.bounds ∙ before.bounds;
      table = cell_listed _ _ _ _ _ _ some before.table at more;
      met = rw written (met_by before.bounds c.in_ok-index.ensures.met);
      size = rw written (c.index_of_label.auto.met ∙ ap length c.deref_mut.ensures.value
          ∙ before.size);
      whole = length-set xs i c.in_ok-index.field-0 ∙ before.whole;
      rest = λ k past. get_or-set_other xs i k c.in_ok-index.field-0 0 (λ same. omega (arith, past, same))
          ∙ before.rest k (omega (arith, past));
      labels = mapped_more (label_of_node c.args.bounds) (numbered_labels nodes) i None _ _ _
          (omega (arith, here.0, length-map nodes label_of)) before.labels
          (cell_label _ _ _ _ _ _ before.table at more) (ap (label_of_node c.args.bounds) (sym here.1));
    }

pub index_of_label-requires-clause-node : goal.index_of_label-requires-clause-node
index_of_label-requires-clause-node c =
    let long = ap length c.deref_mut.ensures.value ∙ c.loop-index.invariant.size in
    let b = c.args.bounds in
    let few = mul-le (b.rows + 2) (b.cols + 2) 4098 4098
    (omega (arith, c.requires.limits)) (omega (arith, c.requires.limits)) in
    each c.label_of.result (λ node is.
    let low = c.requires.nodes c.loop-index.index-index node ((own c).1 ∙ is) in
    (omega (arith, low, long), omega (arith, low, few))) where
      each : {P : ℕ → Type 0} (o : Option ℕ) → ((x : ℕ) → o ≡ Some x → P x) → IfSome o P
      each None f = tt
      each (Some x) f = f x refl
