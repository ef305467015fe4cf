-- The windows of a tile, with heights and with counts, have those of each of its cells and of the cells
-- around it. These give the cell's direction, if the counts are the steps. A window is the tile and a
-- border of one cell around it.
use Rattle.std.proofs.Common.{◌≡◌, ℕ, MatchOption, ◌^◌, ◌+◌, ◌<◌, inl, inr, List, length, Vec, Global, get_or, Option, None, Some, is_some, IfSome, ℤ, sym, ap, subst, refl, ◌∙◌, arith}
use Rattle.std.specs.Option.{option_and_then}
use Rattle.std.proofs.lemmas.Bool.{cases_lt}
use Rattle.terrain.proofs.Heights.{height_in}
use Rattle.terrain.specs.Raster.{Terrain, IsTerrain, IsHeight}
use Rattle.terrain.specs.Neighbours.{height_at, entry_at, index_of, IsDataCell}
use Rattle.terrain.specs.Ways.{around_index, place_on, entry_on, code_of}
use Rattle.terrain.specs.declared.place.Place.{Place}
use Rattle.tiles.specs.Windows.{IsInner, Shows, spot_index}
use Rattle.tiles.proofs.SpotWays.{value_on_way}
use Rattle.tiles.specs.Cutting.{IsCutting, bounds_of, tile_count}
use Rattle.tile_maps.proofs.TileLists.{made_tile}
use Rattle.drain.specs.declared.codes.TileCodes.{TileCodes}
use Rattle.drain.specs.declared.codes.TileCodes.TheVariants.{Codes, TooHigh}
use Rattle.drain.specs.declared.codes.Checked.{Checked}
use Rattle.drain.specs.declared.codes.Checked.TheVariants.{Codes as LastCodes, TooHigh as LastTooHigh}
use Rattle.std.proofs.lemmas.List.{get_or-map, length-map}
use Rattle.drain.specs.Codes.{AreAll, CountedSpots, IsChecked, AreCodes, AreCountedSpots, IsDownCode, IsFirstWay, IsTileCodes, IsOnwardCode, IsOnwardWay, IsStillAround, IsTooHigh, level_at, stored_at, stored_on}
use Rattle.drain.specs.Counts.{AreSoundCounts, Counted, IsChange, IsCheckedCode, IsStill, count_of}
use Rattle.drain.specs.Directions.{IsDirection, IsCodeAt}
use Rattle.drain.specs.Steps.{DrainsAtOnce, AreSteps}
use Rattle.drain.specs.Drops.{IsFirstSteepest}
use Rattle.drain.proofs.AroundLemmas.{steps_at}
use Rattle.drain.proofs.Laid.{LeadsOn, code_is, down_is, leads, onward_is, outlet_is, with_steps, without_steps}
use Rattle.drain.proofs.Quiet.{if_some}
use Rattle.drain.proofs.Spreading.{spot_from_inner}
use Rattle.drain.specs.Search.{level_on, stored}
use Rattle.drain.proofs.Pointing.{next_on_way}
use Rattle.drain.proofs.Sound.{known_counted, lower_change, small}
use Rattle.drainage.proofs.Reach.{data_inside}
use Rattle.terrain.proofs.EightWays.{way_to}
use Rattle.terrain.proofs.Places.{entry-inside}
use Rattle.std.proofs.lemmas.Option.{get_or_from_slice_get, option_and_then_some, slice_get_within}

fits_on : (t : Terrain) (o : Option Place) → IsTerrain t →
    IfSome (option_and_then (entry_at t.cols t.rows t.cells) o) IsHeight
fits_on t None lawful = tt
fits_on t (Some q) lawful =
    if_some (height_at t q) IsHeight (λ h e. height_in t q h lawful e)

-- a spot has the height of the place that it shows
pub shown_height : (w : CountedSpots) (s p : Place) → AreCountedSpots w → IsInner w.bounds s →
    Shows w.bounds s p → level_on w.bounds w.levels s ≡ height_at w.terrain p
shown_height w s p are inner shows = (are.levels s (spot_from_inner inner)).0 p shows

-- The data cell p has height `level` and count `own`. The lists have heights and counts on its ways, at
-- the indexes `at`.
pub record IsSeen (t : Terrain) (all : List (Option ℕ)) (p : Place) (cells : List (Option ℤ))
    (steps : List (Option ℕ)) (at : List ℕ) (level : ℤ) (own : ℕ) : Type 0 where
  pub lawful : IsTerrain t
  pub counts : AreSoundCounts t all
  pub high : height_at t p ≡ Some level
  pub count : own ≡ count_of all (index_of t.cols p)
  pub levels : (way : ℕ) → way < 8 → level_at cells at way ≡ entry_on t.cols t.rows t.cells way p
  pub known : (way : ℕ) → way < 8 →
      get_or steps (get_or at way 0) None ≡ entry_on t.cols t.rows all way p

stored_is : (t : Terrain) (all : List (Option ℕ)) (q : Place) → IsDataCell t q →
    stored (entry_at t.cols t.rows all q) ≡ count_of all (index_of t.cols q)
stored_is t all q is = let inside = data_inside t q is in
    ap stored (entry-inside t.cols t.rows all q inside.0 inside.1)

pub seen : {v w : CountedSpots} {s : Place} {cells : List (Option ℤ)} {steps : List (Option ℕ)} {at : List ℕ}
    {level : ℤ} {own : ℕ} (p : Place) → v ≡ w → AreCountedSpots v → IsInner w.bounds s → Shows w.bounds s p →
    cells ≡ v.levels → steps ≡ v.steps → at ≡ around_index (v.bounds.cols + 2) (spot_index v.bounds s) →
    level_on w.bounds w.levels s ≡ Some level → own ≡ stored_on w s →
    IsSeen w.terrain w.all p cells steps at level own
seen {w = w} {s = s} {cells = cells} {steps = steps} {at = at} p same of_v inner shows levels_are steps_are at_is here
    count =
    let are = rw same at of_v in
    let around = rw same at at_is in
    let t = w.terrain in
    let high = sym (shown_height w s p are inner shows) ∙ here in
    record {
      lawful = are.lawful;
      counts = are.counts;
      high = high;
      count = count ∙ ap stored ((are.steps s (spot_from_inner inner)).0 p shows)
          ∙ stored_is t w.all p (ap is_some high);
      levels = value_on_way w.bounds s p inner shows t.cols t.rows t.cells cells at
          (rw (rw same at levels_are) are.levels) around;
      known = value_on_way w.bounds s p inner shows t.cols t.rows w.all steps at
          (rw (rw same at steps_are) are.steps) around;
    }

module _ {t : Terrain} {all : List (Option ℕ)} {p : Place} {cells : List (Option ℤ)} {steps : List (Option ℕ)}
    {at : List ℕ} {level : ℤ} {own : ℕ} (is : IsSeen t all p cells steps at level own) where
  pub heights_within : (way : ℕ) → way < 8 → IfSome (level_at cells at way) IsHeight
  heights_within way below = rw (is.levels way below) (fits_on t (place_on way p) is.lawful)

  is_data : IsDataCell t p
  is_data = ap is_some is.high

  known_on : (way : ℕ) (q : Place) → way < 8 → place_on way p ≡ Some q →
      stored_at steps at way ≡ stored (entry_at t.cols t.rows all q)
  known_on way q below e = ap stored (rw e at (is.known way below))

  -- a count that is at most one above those around the cell in the lists is so in the grid
  pub still : IsStillAround cells steps at (Some level) own → IsStill t all p
  still around q side =
      let way = way_to p q side.next.touches side.next.different in
      omega (
        arith,
        around way.0 way.1 ((rw way.2 at (is.levels way.0 way.1)) ∙ side.level ∙ is.high),
        known_on way.0 q way.1 way.2,
        stored_is t all q side.next.to_data,
        is.count,
      )

  -- a count that is too high by a neighbour gives a lower count of the cell
  pub lower : (n : ℕ) → IsTooHigh cells steps at (Some level) own n →
      IsChange t all (record { place = p; count = n })
  lower n (less, way, below, there, n_is) = option_and_then_some (λ q. entry_at t.cols t.rows t.cells q)
      (place_on way p) level (sym (is.levels way below) ∙ there) (λ q e height_q.
      let data_q = ap is_some height_q in
      let k = count_of all (index_of t.cols q) in
      let same : k + 1 ≡ n = omega (arith, n_is, known_on way q below e, stored_is t all q data_q) in
      let few : k < 2 ^ 24 = omega (arith, less, same, is.count, small t all (index_of t.cols p) is.counts) in
      let next = next_on_way t p q way below e is_data data_q in
      rw (← same) (lower_change is.counts
      (known_counted t all q k is.counts (data_inside t q data_q) refl few) (data_inside t p is_data)
      next.touches next.different (height_q ∙ sym is.high) (omega (arith, less, same, is.count))))

  module _ (are : AreSteps t all) where
    own_steps : entry_at t.cols t.rows all p ≡ Some own
    own_steps = let n = steps_at p are is_data in
        n.1 ∙ ap Some (sym (is.count ∙ sym (stored_is t all p is_data)
        ∙ ap stored n.1))

    down : (heights : List (Option ℤ)) → ((way : ℕ) → way < 8 → get_or heights way None ≡ level_at cells at way) →
        (found : Option ℕ) → IsFirstSteepest level heights found → own ≡ 0 → IsDirection t p (code_of found)
    down heights same None none zero = outlet_is t p level heights is.high
        (λ way below. same way below ∙ is.levels way below) none
        (without_steps p own are is_data own_steps zero)
    down heights same (Some way) steepest zero = down_is t p level heights is.high
        (λ way below. same way below ∙ is.levels way below) way steepest

    stays : 0 < own → DrainsAtOnce t p → ⊥
    stays some = with_steps p own are is_data own_steps some

    -- a way leads on in the lists as it does in the grid
    in_lists : (way : ℕ) (q : Place) → way < 8 → place_on way p ≡ Some q → LeadsOn t all p own q →
        IsOnwardWay cells steps at (Some level) own way
    in_lists way q below e (high, m, there, one) = (
      (rw e at (is.levels way below)) ∙ high ∙ is.high,
      omega (arith, one, known_on way q below e, ap stored there),
    )

    in_grid : (way : ℕ) → way < 8 → IsOnwardWay cells steps at (Some level) own way →
        (q : Place) × (place_on way p ≡ Some q) × LeadsOn t all p own q
    in_grid way below (high, count) = option_and_then_some (λ q. entry_at t.cols t.rows t.cells q)
        (place_on way p) level (sym (is.levels way below) ∙ high) (λ q e height_q.
        let m = steps_at q are (ap is_some height_q) in (
          q,
          e,
          (
            height_q ∙ sym is.high,
            m.0,
            m.1,
            omega (
              arith,
              count,
              known_on way q below e,
              ap stored m.1,
            ),
          ),
        ))

    onward : (found : Option ℕ) → IsFirstWay (IsOnwardWay cells steps at (Some level) own) 0 found → 0 < own →
        IsDirection t p (code_of found)
    onward None none some = let q = leads p own are is_data own_steps (stays some) in
        absurd (none q.1 (omega arith) q.2 (in_lists q.1 q.0 q.2 q.3 q.4))
    onward (Some way) (below, on, first) some =
        let q = in_grid way below on in
        onward_is p own are is_data own_steps q.0 way below q.1 q.2
        (λ k r small e leads. first k (omega arith) small (in_lists k r small e leads)) (stays some)

  -- the code of the cell is checked
  pub checked : (code : ℕ) → IsStillAround cells steps at (Some level) own →
      (own ≡ 0 → IsDownCode cells at level code) →
      (0 < own → IsOnwardCode cells steps at (Some level) own code) → IsCheckedCode t all p (Some code)
  checked code around steep flat = (
    still around,
    λ are. code_is t p level code is.high (elim (cases_lt 0 own) [
      | inl some ↦ (let by = flat some in
          rw by.1 (onward are by.0 by.2 some))
      | inr none ↦ (let zero : own ≡ 0 = omega arith in let by = steep zero in
          rw by.3 (down are by.0 by.1 by.2 by.4 zero))
    ]),
  )

-- a cell without data has no code
pub code_none : (t : Terrain) (p : Place) → height_at t p ≡ None → IsCodeAt t p None
code_none t p none = subst (λ (o : Option ℤ). MatchOption o (let c : Option ℕ = None in c ≡ None)
    (λ _. (n : ℕ) × (let c : Option ℕ = None in c ≡ Some n) × IsDirection t p n)) (sym none) refl

-- the codes of a window's tile are those of the tile
pub codes_of_tile : (w : CountedSpots) (c : Counted) (tile : ℕ) (out : TileCodes) → IsCutting c.cutting →
    w.bounds ≡ bounds_of c.cutting tile → w.terrain ≡ c.terrain → w.all ≡ c.steps → AreCodes w out →
    IsTileCodes c tile out
codes_of_tile w c tile (Codes list) lawful bounds e f made =
    rw (← e, ← f) (made_tile c.cutting tile w.bounds (IsCheckedCode w.terrain w.all) list.items lawful bounds made)
codes_of_tile w c tile (TooHigh change) lawful bounds e f high =
    rw (← e, ← f) high

-- what all jobs found, put together, is what the last round found
pub checked_all : (c : Counted) (outs : List TileCodes) (found : Checked) → length outs ≡ tile_count c.cutting →
    ((tile : ℕ) (out : TileCodes) → tile < tile_count c.cutting → IsTileCodes c tile (get_or outs tile out)) →
    AreAll outs found → IsChecked c found
checked_all c outs (LastCodes lists) size given all =
    let same : length outs ≡ length lists.items = ap length all
    ∙ length-map lists.items (λ (list : Vec (Option ℕ) Global). Codes list) in (
      sym same ∙ size,
      λ k list at.
          (let below = slice_get_within lists.items k list at in
          let is : get_or outs k (Codes list) ≡ Codes list =
          ap (λ (xs : List TileCodes). get_or xs k (Codes list)) all
          ∙ get_or-map (λ (l : Vec (Option ℕ) Global). Codes l) lists.items k list (Codes list) below
          ∙ ap Codes (get_or_from_slice_get lists.items k list list at) in
          rw is at (given k (Codes list) (omega (arith, below, same, size)))),
    )
checked_all c outs (LastTooHigh change) size given all =
    let below = slice_get_within outs all.0 (TooHigh change) all.1 in
    rw (get_or_from_slice_get outs all.0 (TooHigh change) (TooHigh change) all.1)
    at (given all.0 (TooHigh change) (omega (arith, below, size)))
