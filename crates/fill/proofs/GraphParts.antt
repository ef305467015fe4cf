-- In a list of joins in the order of their labels, the joins from one node stand together. They
-- give the node's arcs in the spill graph. A node is the index of a label's place in row order of
-- the grid.
use Rattle.std.proofs.Common.{◌≡◌, ℕ, ◌+◌, ◌<◌, inl, inr, List, length, get_or, sym, ap, subst, ◌∙◌, arith, ◌≢◌, ◌-◌, ◌≤◌, map, take, drop, length-drop}
use Rattle.std.specs.List.{Contains}
use Rattle.std.proofs.lemmas.Bool.{cases_eq, cases_lt}
use Rattle.std.proofs.lemmas.List.{get_or-map, length-map, get_or-drop, get_or-take, length-take-le, get_or_default}
use Rattle.fill.specs.Parts.{IsGraph}
use Rattle.fill.specs.declared.spill_graph.Join.{Join}
use Rattle.std.proofs.lemmas.List.Elements.{All-contains, Contains-get_or}
use Rattle.floods.specs.declared.net.Spill.{Spill}
use Rattle.floods.specs.Walk.{HasJust}
use Rattle.fill.specs.SpillGraph.{Graph, HasJoin}
use Rattle.fill.specs.Gathering.{AreRising, IsBefore, arc_of}
use Rattle.floods.proofs.Heaps.{all_by_contains}

-- Along joins in order, the label `from` never falls.
up : (joins : List Join) → AreRising joins → (m n : ℕ) (d : Join) → m ≤ n → n < length joins →
    (get_or joins m d).from ≤ (get_or joins n d).from
up joins rise m n d low below = elim (cases_eq m n) [
  | inl same ↦ let e = ap (λ k. (get_or joins k d).from) same in omega arith
  | inr other ↦ first_up (get_or joins m d) (get_or joins n d) (rise m n d (omega arith) below)
] where
  first_up : (x y : Join) → IsBefore x y → x.from ≤ y.from
  first_up x y (inl a) = omega arith
  first_up x y (inr a) = omega arith

-- If the join at `middle` begins before the node, so do all joins before it.
pub below_more : (joins : List Join) (node middle : ℕ) (e : Join) → AreRising joins → middle < length joins →
    (get_or joins middle e).from < node → (k : ℕ) (d : Join) → k < middle + 1 → (get_or joins k d).from < node
below_more joins node middle e rise inside low k d below =
    omega (
      arith,
      up joins rise k middle d (omega (arith, below)) inside,
      ap (λ j. j.from) (get_or_default joins middle d e inside),
      low,
    )

pub above_more : (joins : List Join) (node middle : ℕ) (e : Join) → AreRising joins → middle < length joins →
    node ≤ (get_or joins middle e).from → (k : ℕ) (d : Join) → middle ≤ k → k < length joins →
    node ≤ (get_or joins k d).from
above_more joins node middle e rise inside high k d above below =
    omega (arith, up joins rise middle k d above below, ap (λ j. j.from) (get_or_default joins middle d e inside), high)

-- If a join begins past the node, so do all joins after it.
pub past_node : (joins : List Join) {node : ℕ} (end : ℕ) (e : Join) → AreRising joins → end < length joins →
    node ≤ (get_or joins end e).from → (get_or joins end e).from ≢ node → (k : ℕ) (d : Join) → end ≤ k →
    k < length joins → node < (get_or joins k d).from
past_node joins {node} end e rise inside low differ k d above below =
    let far = above_more joins (node + 1) end e rise inside (omega arith) k d above below in
    omega arith

-- If the joins from index `start` on and before `end` are those from a node, their arcs are just
-- the node's arcs in the graph.
pub just_node : {g : Graph} (joins : List Join) (node start end : ℕ) → IsGraph g → joins ≡ g.joins → start ≤ end →
    end ≤ length joins → ((k : ℕ) (d : Join) → k < start → (get_or joins k d).from < node) →
    ((k : ℕ) (d : Join) → start ≤ k → k < length joins → node ≤ (get_or joins k d).from) →
    ((k : ℕ) (d : Join) → k < end → (get_or joins k d).from ≤ node) →
    ((k : ℕ) (d : Join) → end ≤ k → k < length joins → node < (get_or joins k d).from) →
    HasJust (HasJoin g node) (map arc_of (take (end - start) (drop start joins)))
just_node {g} joins node start end is same order inside before from upto after = record {
  only = all_by_contains (λ arc. HasJoin g node arc.to arc.height) arcs (λ arc h.
      let k = h.0 in
      let low : k < end - start = omega (arith, h.1, count) in
      let d : Join = record { from = node; to = arc.to; height = arc.height } in
      let j : Join = get_or joins (start + k) d in
      let there : Contains g.joins j =
      subst (λ (z : List Join). Contains z j) same
      (Contains-get_or joins (start + k) d (omega (arith, low, order, inside))) in
      let low_end = upto (start + k) d (omega (arith, low, order)) in
      let high_end = from (start + k) d (omega arith) (omega (arith, low, order, inside)) in
      let node_is : j.from ≡ node = omega (arith, low_end, high_end) in
      let arc_is : arc_of j ≡ arc =
      sym (get_or-map arc_of part k d arc (omega (arith, h.1, length-map part arc_of)) ∙
      ap arc_of (get_or-take (end - start) (drop start joins) k d low ∙ get_or-drop start joins k d)) ∙ h.2 in
      let join_is : j ≡ d =
      ap (λ n. record { from = n; to = j.to; height = j.height }) node_is ∙
      ap (λ (s : Spill). record { from = node; to = s.to; height = s.height }) arc_is in
      let ends = All-contains (λ (x : Join). (x.from < g.nodes) × (x.to < g.nodes)) g.joins j is.ends there in
      let both = subst (λ (x : Join). (x.from < g.nodes) × (x.to < g.nodes)) join_is ends in
      let at = subst (Contains g.joins) join_is there in
      record { from_node = both.0; to_node = both.1; there = at; back = is.back d at });
  every = λ b z join.
      let d : Join = record { from = node; to = b; height = z } in
      let held = subst (λ (z : List Join). Contains z d) (sym same) join.there in
      let k = held.0 in
      let here : get_or joins k d ≡ d = held.2 in
      let node_is : (get_or joins k d).from ≡ node = ap (λ (x : Join). x.from) here in
      let above : start ≤ k = elim (cases_lt k start) [
        | inr fine ↦ fine
        | inl less ↦ let a = before k d less in absurd (omega (arith, a, node_is))
      ] in
      let below : k < end = elim (cases_lt k end) [
        | inl fine ↦ fine
        | inr past ↦ let a = after k d past held.1 in absurd (omega (arith, a, node_is))
      ] in (
        k - start,
        omega (arith, count, above, below),
        get_or-map arc_of part (k - start) d (arc_of d) (omega (arith, part_length, above, below)) ∙
            ap arc_of (get_or-take (end - start) (drop start joins) (k - start) d (omega (arith, above, below)) ∙
            get_or-drop start joins (k - start) d ∙ ap (λ n. get_or joins n d) (forth start k above) ∙ here),
      );
} where
  part : List Join
  part = take (end - start) (drop start joins)

  arcs : List Spill
  arcs = map arc_of part

  part_length : length part ≡ end - start
  part_length = length-take-le (end - start) (drop start joins) (omega (arith, length-drop start joins, inside, order))

  count : length arcs ≡ end - start
  count = length-map part arc_of ∙ part_length

  forth : (a b : ℕ) → a ≤ b → a + (b - a) ≡ b
  forth a b h = omega arith
