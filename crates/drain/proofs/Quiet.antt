-- In a filled terrain, counts that a round over all tiles leaves unchanged are the steps. Each cell
-- that drains at once must have the count 0.
use Rattle.std.proofs.Common.{◌≡◌, inl, inr, ℕ, ◌*◌, ◌^◌, ◌<◌, ◌≤◌, List, [], ◌∷◌, length, Option, None, Some, is_some, IfSome, sym, ap, refl, ◌∙◌, arith}
use Rattle.std.proofs.lemmas.Bool.{false≢true}
use Rattle.std.proofs.lemmas.Option.{MatchOption-at_some}
use Rattle.terrain.proofs.Places.{inside_from_entry}
use Rattle.terrain.specs.Raster.{Terrain, IsTerrain}
use Rattle.terrain.specs.Neighbours.{height_at, entry_at, IsDataCell, IsNeighbour}
use Rattle.drainage.specs.Filled.{IsFilled}
use Rattle.terrain.specs.declared.place.Place.{Place}
use Rattle.tiles.specs.Cutting.{Cutting, Cuts, IsCutting, tile_of_place, IsInTile}
use Rattle.drain.specs.Beginning.{HasZeros, AreInitialCounts, KeepsCounts}
use Rattle.drain.specs.Steps.{DrainsAtOnce, IsWalkAtOneHeight, IsFlatWalk, IsSteps, AreSteps}
use Rattle.drain.specs.Rounds.{IsWalked, AreWalked, IsAtMostOneAbove}
use Rattle.drain.proofs.Counted.{has_steps}
use Rattle.drainage.proofs.Reach.{data_inside}
use Rattle.terrain.proofs.Options.{cases_option, match_of}
use Rattle.drain.proofs.Few.{steps_are_few, drains_data, data_on_walk}
use Rattle.tiles.proofs.Cut.{tile_of_place_below}

pub if_some : {X : Type 0} (o : Option X) (P : X → Type 0) → ((x : X) → o ≡ Some x → P x) →
    IfSome o P
if_some None P h = tt
if_some (Some x) P h = h x refl

pub ended : (Ends : Place → Type 0) (t : Terrain) (p : Place) (rest : List Place) →
    IsWalkAtOneHeight Ends t p rest → length rest ≡ 0 → Ends p
ended Ends t p [] walk none = walk
ended Ends t p (q ∷ rest) walk none = absurd (omega (arith, none))

-- Counts are the steps of a filled terrain under three conditions. Cells that drain at once have 0,
-- and known counts are lengths of flat walks. Each count is at most one above the known counts of
-- neighbours of equal height (`IsAtMostOneAbove`).
module _ (t : Terrain) (steps : List (Option ℕ)) (zeros : HasZeros t steps)
    (all_walked : AreWalked (DrainsAtOnce t) t steps)
    (near : (p q : Place) → IsNeighbour t p q → height_at t q ≡ height_at t p →
    IsAtMostOneAbove (entry_at t.cols t.rows steps p) (entry_at t.cols t.rows steps q)) where
  -- a flat walk of fewer than 2^24 moves bounds the count of its first cell
  count_steps : (rest : List Place) (p : Place) → IsFlatWalk t p rest → length rest < 2 ^ 24 →
      (n : ℕ) × (entry_at t.cols t.rows steps p ≡ Some n) × (n ≤ length rest)
  count_steps [] p w few = (0, zeros p w, omega arith)
  count_steps (q ∷ rest) p w few =
      let next = count_steps rest q w.2 (omega arith) in
      let here = near p q w.0 w.1 next.0 next.1 (omega (arith, next.2)) in
      (here.0, here.1, omega (arith, here.2, next.2))

  walked : (p : Place) (n : ℕ) → entry_at t.cols t.rows steps p ≡ Some n →
      IsWalked (DrainsAtOnce t) t p n
  walked p n e = MatchOption-at_some _ _ n e (all_walked p)

  data_counts : IsTerrain t → IsFilled t t.cells → (p : Place) → IsDataCell t p →
      (n : ℕ) × (entry_at t.cols t.rows steps p ≡ Some n) × IsSteps t p n
  data_counts lawful filled p is =
      let least = has_steps t p filled is in
      let few : least.0 < 2 ^ 24 = steps_are_few t p least.0 lawful least.1 in
      let count =
      count_steps least.1.reached.0 p least.1.reached.1 (omega (arith, few, least.1.reached.2)) in
      let real = walked p count.0 count.1 in
      let above : least.0 ≤ length real.1 = least.1.least real.1 real.2 in
      let same : least.0 ≡ count.0 = omega (arith, count.2, least.1.reached.2, real.3) in
      (count.0, count.1, rw same at least.1)

  uncounted : (p : Place) → height_at t p ≡ None → entry_at t.cols t.rows steps p ≡ None
  uncounted p none = elim (cases_option (entry_at t.cols t.rows steps p)) [
    | inl e ↦ e
    | inr n ↦ (let real = walked p n.0 n.1 in
        absurd (false≢true (ap is_some (sym none) ∙ data_on_walk t p real.1 real.2)))
  ]

  pub still_is_steps : IsTerrain t → IsFilled t t.cells → length steps ≡ t.cols * t.rows →
      AreSteps t steps
  still_is_steps lawful filled size = record {
    size = size;
    each = λ p inside. match_of (height_at t p) _ _ (uncounted p)
        (λ h some. data_counts lawful filled p (ap is_some some));
  }

pub in_own_tile : (t : Terrain) (c : Cutting) (p : Place) → Cuts c t → (p.row < t.rows)
    × (p.col < t.cols) → IsInTile c (tile_of_place c p) p
in_own_tile t c p cuts inside =
    ((omega (arith, inside.0, cuts.1), omega (arith, inside.1, cuts.0)), refl)

pub begun_zeros : (t : Terrain) (counts : List (Option ℕ)) → AreInitialCounts t counts → HasZeros t counts
begun_zeros t counts begun p drains = (begun.each p (data_inside t p (drains_data t p drains))).zero drains

-- each known initial count is 0, the length of a walk without moves
pub begun_walked : (Ends : Place → Type 0) (t : Terrain) (counts : List (Option ℕ)) →
    AreInitialCounts t counts → ((p : Place) → DrainsAtOnce t p → Ends p) → AreWalked Ends t counts
begun_walked Ends t counts begun to p =
    if_some (entry_at t.cols t.rows counts p) (IsWalked Ends t p) (λ n e.
    let at = (begun.each p (inside_from_entry t.cols t.rows counts p n e)).only n e in
    (omega (arith, at.1), [], to p at.0, sym at.1))

pub counts_are_steps : (t : Terrain) (c : Cutting) (steps : List (Option ℕ)) (lists : ℕ →
    List (Option ℕ)) → Cuts c t → IsCutting c → HasZeros t steps → KeepsCounts t c steps lists →
    IsTerrain t → IsFilled t t.cells → length steps ≡ t.cols * t.rows → AreSteps t steps
counts_are_steps t c steps lists cuts cutting zeros quiet lawful filled size =
    still_is_steps t steps zeros
    (λ p. if_some (entry_at t.cols t.rows steps p) (IsWalked (DrainsAtOnce t) t p) (λ n e.
    let here = in_own_tile t c p cuts (inside_from_entry t.cols t.rows steps p n e) in
    MatchOption-at_some _ _ n (quiet.same (tile_of_place c p) p here ∙ e)
    ((quiet.rounds (tile_of_place c p) (tile_of_place_below c p cutting here.0)).walked p here)))
    (λ p q next level m e less.
    let here = in_own_tile t c p cuts (data_inside t p next.from_data) in
    let near = (quiet.rounds (tile_of_place c p)
    (tile_of_place_below c p cutting here.0)).near p q here next level m e less in
    (near.0, sym (quiet.same (tile_of_place c p) p here) ∙ near.1, near.2))
    lawful filled size
