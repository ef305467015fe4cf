use Rattle.std.proofs.Common.{rules, Vec, Global, None, inl, inr, ap, ◌+◌, ◌∙◌, sym, refl, ◌≡◌}
use Rattle.std.proofs.lemmas.List.{get_or_default, get_or-set_other}
use Rattle.std.proofs.lemmas.Option.{same_Some}
use Rattle.terrain.specs.declared.place.Place.{Place}
use Rattle.terrain.proofs.Places.{index_injective}
use Rattle.tiles.specs.Windows.{spot_index}
use Rattle.drain.specs.Search.{height_on}
use Rattle.drain.proofs.Beside.{beside}
use Rattle.drain.proofs.Spreading.{lowering_none, lowering_set, spot_from_inner}
use Rattle.drain.proofs.search.reach.Goals as goal
use Rattle.drain.proofs.search.reach.Goals.{in-Some+then-is_inner+in_ok-push, in-Some+else-is_inner, in_default}

pub returns-else-next-counts-clause-lowering : goal.returns-else-next-counts-clause-lowering
returns-else-next-counts-clause-lowering c = lowering_none

pub returns-after-place_on-clause-lowering : goal.returns-after-place_on-clause-lowering
returns-after-place_on-clause-lowering c =
    let w = c.args.window.now in
    let cells = c.deref-cells.result.now in
    let q = beside w.bounds c.args.from c.requires.from c.args.way c.requires.way in
    let at = c.requires.index ∙ q.1.index in
    let own : c.index-cells-index-then-next-counts.result ≡ height_on w c.args.from =
    rw (c.deref-cells.ensures.value, c.index.ensures.value) at (c.index-cells-index-then-next-counts.is
    ∙ get_or_default cells c.index.result c.index-cells-index-then-next-counts.result None (search rules)) in
    let other : c.index-cells-index.result ≡ height_on w q.0 =
    rw (c.deref-cells.ensures.value, at) at (c.index-cells-index.is
    ∙ get_or_default cells _ c.index-cells-index.result None (search rules)) in
    let level : height_on w c.args.from ≡ height_on w q.0 =
    sym own ∙ sym (c.is_level_with.ensures.0 c.if-is_level_with.true) ∙ other in
    elim c.match-place_on.branch [
      | in-Some+then-is_inner+in_ok-push v ↦
          (let to : v.in-Some.to ≡ q.0 =
          same_Some v.in-Some.to q.0 (sym v.in-Some.is ∙ c.place_on.ensures ∙ q.1.on) in
          rw c.requires.next (lowering_set (spot_index w.bounds c.args.from) _ _ _ refl at
          (spot_from_inner c.requires.from) (q.1.spot, q.1.touches) level (rw c.requires.next at c.if-next-counts.true)
          (inl (
            rw to at (v.is_inner.ensures.0 v.if-is_inner.true),
            ap (λ (v : Vec Place Global). v.items) v.reached-is ∙ rw to at v.in_ok-push.ensures.items,
          ))))
      | in-Some+else-is_inner v ↦ rw c.requires.next (lowering_set (spot_index w.bounds c.args.from) _ _ _ refl at
          (spot_from_inner c.requires.from) (q.1.spot, q.1.touches) level (rw c.requires.next at c.if-next-counts.true)
          (inr (ap (λ (v : Vec Place Global). v.items) v.reached-is)))
      | in_default v ↦ rw c.requires.next (lowering_set (spot_index w.bounds c.args.from) _ _ _ refl at
          (spot_from_inner c.requires.from) (q.1.spot, q.1.touches) level (rw c.requires.next at c.if-next-counts.true)
          (inr (ap (λ (v : Vec Place Global). v.items) v.reached-is)))
    ]

-- the spot on a way is another spot
pub returns-after-place_on-clause-kept : goal.returns-after-place_on-clause-kept
returns-after-place_on-clause-kept c =
    let b = c.args.window.now.bounds in
    let q = beside b c.args.from c.requires.from c.args.way c.requires.way in
    let at = c.requires.index ∙ q.1.index in
    get_or-set_other c.args.counts.now _ (spot_index b c.args.from) c.args.next 0 (λ same. q.1.apart
    (index_injective (b.cols + 2) c.args.from q.0 (spot_from_inner c.requires.from).1 q.1.spot.1 (same ∙ at)))
