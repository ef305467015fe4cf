-- A count that is one more than that of a neighbour of equal height is the length of a flat walk. If
-- it is less than the cell's count, putting it lowers the sum of all counts.
use Rattle.std.proofs.Common.{◌≡◌, ◌≢◌, ℕ, ◌+◌, ◌*◌, ◌^◌, ◌<◌, ◌≤◌, ◌⊎◌, inl, inr, List, [], ◌∷◌, ◌++◌, length, get_or, slice_set, Option, Some, None, Vec, Global, IfSome, is_some, sym, ap, refl, ◌∙◌, arith}
use Rattle.std.specs.Prelude.{slice_get}
use Rattle.std.proofs.lemmas.Bool.{cases_eq, cases_lt}
use Rattle.std.proofs.lemmas.List.Elements.{All-push}
use Rattle.std.proofs.lemmas.List.{get_or_past, get_or-set_same, get_or-set_other, length-set}
use Rattle.std.proofs.lemmas.Option.{MatchOption-at_some, get_or_from_slice_get, slice_get_cases, slice_get_within, same_Some}
use Rattle.terrain.proofs.Places.{entry-inside, index_below, index_injective, inside_from_entry}
use Rattle.terrain.specs.Raster.{Terrain, IsTerrain}
use Rattle.terrain.specs.Neighbours.{height_at, entry_at, index_of, IsInside, IsNeighbour, Touches}
use Rattle.terrain.specs.declared.place.Place.{Place}
use Rattle.tile_jobs.proofs.Sums.{sum_below-less}
use Rattle.drainage.proofs.Reach.{data_inside}
use Rattle.tiles.specs.Cutting.{AreTileLists, Cutting, Cuts, IsCutting, IsPutBack, IsWithin, tile_count, tile_entry, tile_of_place}
use Rattle.tiles.proofs.Cut.{tile_of_place_below}
use Rattle.tiles.proofs.PutBack.{entry_at-put_back}
use Rattle.drain.specs.Search.{stored}
use Rattle.drain.specs.Beginning.{AreSoundInTile}
use Rattle.tile_maps.specs.Maps.{IsMadeTile}
use Rattle.tile_maps.proofs.TileLists.{entry_of_tile}
use Rattle.drainage.specs.Filled.{IsFilled}
use Rattle.drain.specs.Counts.{AreChanges, AreCoded, AreSoundCounts, IsChange, IsCheckedCode, IsCounted, IsStill, count_of, count_sum}
use Rattle.drain.specs.Rounds.{IsAtMostOneAbove, IsWalked}
use Rattle.drain.specs.Steps.{AreSteps, DrainsAtOnce}
use Rattle.drain.specs.declared.changes.Change.{Change}
use Rattle.drain.proofs.Few.{data_on_walk, drains_data}
use Rattle.drain.proofs.Quiet.{if_some, still_is_steps}
use Rattle.drain.proofs.TileRound.{some_of_known, walked_on}
use Rattle.drain.proofs.Unique.{at_place}

small_walk : (t : Terrain) (p : Place) (o : Option ℕ) → IfSome o (IsWalked (DrainsAtOnce t) t p) →
    stored o ≤ 2 ^ 24
small_walk t p None walked = omega arith
small_walk t p (Some n) walked = omega (arith, walked.0)

pub small : (t : Terrain) (steps : List (Option ℕ)) (k : ℕ) → AreSoundCounts t steps →
    count_of steps k ≤ 2 ^ 24
small t steps k counts = elim (cases_lt k (t.cols * t.rows)) [
  | inl below ↦ at_place (λ (i : ℕ). count_of steps i ≤ 2 ^ 24) t.cols t.rows (λ p row col.
      let here = small_walk t p (entry_at t.cols t.rows steps p) (counts.walked p) in
      let same = ap stored (entry-inside t.cols t.rows steps p row col) in
      omega (arith, here, same)) k below
  | inr past ↦ (let none = ap stored
      (get_or_past steps k None (omega (arith, past, counts.size))) in omega (arith, none))
]

-- a known count is the length of a flat walk
pub known_counted : (t : Terrain) (steps : List (Option ℕ)) (p : Place) (n : ℕ) → AreSoundCounts t steps →
    IsInside t p → n ≡ count_of steps (index_of t.cols p) → n < 2 ^ 24 →
    IsCounted t (record { place = p; count = n })
known_counted t steps p n counts inside is few =
    let same = ap stored
    (sym (entry-inside t.cols t.rows steps p inside.0 inside.1)) in
    let known = some_of_known (entry_at t.cols t.rows steps p) n (is ∙ same) few in
    record { inside = inside; walked = MatchOption-at_some _ _ n known (counts.walked p) }

-- a neighbour of equal height has a walk of one move more
pub lower_change : {t : Terrain} {steps : List (Option ℕ)} {from : Change} {to : Place} →
    AreSoundCounts t steps → IsCounted t from → IsInside t to → Touches to from.place → to ≢ from.place →
    height_at t from.place ≡ height_at t to → from.count + 1 < count_of steps (index_of t.cols to) →
    IsChange t steps (record { place = to; count = from.count + 1 })
lower_change {t} {steps} {from} {to} counts counted inside touch differ level less =
    let few : from.count + 1 < 2 ^ 24 = omega (arith, less, small t steps (index_of t.cols to) counts) in
    let is_data = data_on_walk t from.place counted.walked.1 counted.walked.2 in
    let next : IsNeighbour t to from.place = record {
      different = differ;
      touches = touch;
      from_data = ap is_some (sym level) ∙ is_data;
      to_data = is_data;
    } in
    record {
      counted = record {
        inside = inside;
        walked = walked_on from.count next level counted.walked few;
      };
      less = less;
    }

module _ {t : Terrain} {steps : List (Option ℕ)} (counts : AreSoundCounts t steps) {x : Change}
    (counted : IsCounted t x) {v : Option ℕ} (is : v ≡ Some x.count)
    (less : x.count < count_of steps (index_of t.cols x.place)) where
  abbrev index : ℕ
  index = index_of t.cols x.place

  abbrev after : List (Option ℕ)
  after = slice_set steps index v

  inside : index < length steps
  inside = omega (arith, counts.size, index_below t.cols t.rows x.place counted.inside.0 counted.inside.1)

  here : get_or after index None ≡ Some x.count
  here = get_or-set_same steps index v None inside ∙ is

  there : (k : ℕ) → k ≢ index → get_or after k None ≡ get_or steps k None
  there k ne = get_or-set_other steps index k v None ne

  count_here : count_of after index ≡ x.count
  count_here = ap stored here

  pub set_low : (k : ℕ) → count_of after k ≤ count_of steps k
  set_low k = elim (cases_eq k index) [
    | inl e ↦ (let a = ap (count_of after) e in let b = ap (count_of steps) e in
        omega (arith, a, b, count_here, less))
    | inr ne ↦ (let same = ap stored (there k ne) in omega (arith, same))
  ]

  pub set_less : count_sum after < count_sum steps
  set_less =
      let size = length-set steps index v in
      let sum = sum_below-less (count_of after) (count_of steps) (length steps) index inside (λ j l. set_low j)
      (omega (arith, count_here, less)) in
      rw size sum

  -- the entry of a place is that of the put change, or as before
  entry_put : (p : Place) → IsInside t p → (p ≡ x.place → entry_at t.cols t.rows after p ≡ Some x.count)
      × (p ≢ x.place → entry_at t.cols t.rows after p ≡ entry_at t.cols t.rows steps p)
  entry_put p within =
      let now = entry-inside t.cols t.rows after p within.0 within.1 in
      let before = entry-inside t.cols t.rows steps p within.0 within.1 in (
        λ e. now ∙ ap (λ (q : Place). get_or after (index_of t.cols q) None) e ∙ here,
        λ ne. now ∙ there (index_of t.cols p)
            (λ same. ne (index_injective t.cols p x.place within.1 counted.inside.1 same)) ∙ sym before,
      )

  pub set_counts : AreSoundCounts t after
  set_counts = record {
    size = length-set steps index v ∙ counts.size;
    zeros = λ p drains.
        let within = data_inside t p (drains_data t p drains) in
        let entry = entry_put p within in
        elim (cases_eq (index_of t.cols p) index) [
          | inl e ↦
              (let one = index_injective t.cols p x.place within.1 counted.inside.1 e in
              let zero = ap stored
              (sym (entry-inside t.cols t.rows steps p within.0 within.1) ∙ counts.zeros p drains) in
              let same = ap (count_of steps) e in
              absurd (omega (arith, zero, same, less)))
          | inr ne ↦ entry.1 (λ e. ne (ap (index_of t.cols) e)) ∙ counts.zeros p drains
        ];
    walked = λ p. if_some (entry_at t.cols t.rows after p) (IsWalked (DrainsAtOnce t) t p) (λ n e.
        let within = inside_from_entry t.cols t.rows after p n e in
        let entry = entry_put p within in
        elim (cases_eq (index_of t.cols p) index) [
          | inl same ↦
              (let one = index_injective t.cols p x.place within.1 counted.inside.1 same in
              let count : x.count ≡ n = same_Some x.count n (sym (entry.0 one) ∙ e) in
              rw (one, ← count) counted.walked)
          | inr ne ↦ MatchOption-at_some _ _ n
              (sym (entry.1 (λ e2. ne (ap (index_of t.cols) e2))) ∙ e) (counts.walked p)
        ]);
  }

-- there is a list for the tile of each place of the grid
list_of : {X : Type 0} (c : Cutting) (lists : List X) (p : Place) → IsCutting c →
    length lists ≡ tile_count c → IsWithin c p → (list : X) × (slice_get lists (tile_of_place c p) ≡ Some list)
list_of c lists p lawful count within = elim (slice_get_cases lists (tile_of_place c p)).1 [
  | inr past ↦ absurd (omega (arith, past.0, count, tile_of_place_below c p lawful within))
  | inl list ↦ (list.0, list.2)
]

-- The tiles' lists of the first round, put together, are counts of the terrain.
module _ (t : Terrain) (c : Cutting) (lists : List (Vec (Option ℕ) Global))
    (cuts : Cuts c t) (count : length lists ≡ tile_count c)
    (given : (tile : ℕ) (list : Vec (Option ℕ) Global) → tile < tile_count c →
    AreSoundInTile t c tile (get_or lists tile list).items) where
  sound_at : (tile : ℕ) (list : Vec (Option ℕ) Global) → slice_get lists tile ≡ Some list →
      AreSoundInTile t c tile list.items
  sound_at tile list at =
      let below : tile < tile_count c =
      rw count at (slice_get_within lists tile list at) in
      rw (get_or_from_slice_get lists tile list list at) at (given tile list below)

  pub first_lists : AreTileLists c lists
  first_lists = record { count = count; each = λ tile list at. (sound_at tile list at).size }

  module _ {whole : List (Option ℕ)} (lawful : IsCutting c) (put : IsPutBack c lists whole) where
    within : (p : Place) → IsInside t p → IsWithin c p
    within p inside = (omega (arith, inside.0, cuts.1), omega (arith, inside.1, cuts.0))

    -- the place's count is that of its tile's list
    counted_at : (p : Place) → IsInside t p → (list : List (Option ℕ))
        × AreSoundInTile t c (tile_of_place c p) list
        × (entry_at t.cols t.rows whole p ≡ tile_entry c (tile_of_place c p) list p)
    counted_at p inside =
        let list = list_of c lists p lawful count (within p inside) in
        let here = entry_at-put_back c lists whole (tile_of_place c p) list.0 p put
        (within p inside, refl) list.1 in
        let same : entry_at t.cols t.rows whole p ≡ entry_at c.cols c.rows whole p =
        rw (sym cuts.0, sym cuts.1) refl in
        (list.0.items, sound_at (tile_of_place c p) list.0 list.1, same ∙ here)

    pub first_counts : AreSoundCounts t whole
    first_counts = record {
      size = put.size ∙ (let same : c.cols * c.rows ≡ t.cols * t.rows = rw (cuts.0, cuts.1) refl in same);
      zeros = λ p drains.
          let inside = data_inside t p (drains_data t p drains) in
          let at = counted_at p inside in
          at.2 ∙ at.1.zeros p (within p inside, refl) drains;
      walked = λ p. if_some (entry_at t.cols t.rows whole p) (IsWalked (DrainsAtOnce t) t p) (λ n e.
          let inside = inside_from_entry t.cols t.rows whole p n e in
          let at = counted_at p inside in
          MatchOption-at_some _ _ n (sym at.2 ∙ e) (at.1.walked p (within p inside, refl)));
    }

-- A list of changes stays one where a change is recorded at its end, or none.
pub recorded : {t : Terrain} {steps : List (Option ℕ)} (old new : List Change) {x : Change} →
    AreChanges t steps old → IsChange t steps x → (new ≡ old) ⊎ (new ≡ old ++ x ∷ []) →
    AreChanges t steps new
recorded old new before change (inl same) =
    rw same before
recorded {t} {steps} old new {x} before change (inr pushed) =
    rw pushed (All-push (IsChange t steps) old x before change)

above_one : (m n : Option ℕ) → stored m ≤ stored n + 1 → IsAtMostOneAbove m n
above_one None n le k e less = absurd (let is : stored n ≡ k =
    ap stored e in omega (arith, is, le, less))
above_one (Some m) n le k e less = (let is : stored n ≡ k =
    ap stored e in (m, refl, omega (arith, is, le)))

-- The last round found the codes of all tiles, and no count more than one above a neighbour's.
module _ (t : Terrain) {c : Cutting} (steps : List (Option ℕ)) (lists : List (Vec (Option ℕ) Global))
    (cuts : Cuts c t) (lawful : IsCutting c) (size : length lists ≡ tile_count c)
    (each : (k : ℕ) (list : Vec (Option ℕ) Global) → slice_get lists k ≡ Some list →
    IsMadeTile c k (IsCheckedCode t steps) list.items) where
  still_at : (p : Place) → IsInside t p → IsStill t steps p
  still_at p inside =
      let within : IsWithin c p = (omega (arith, inside.0, cuts.1), omega (arith, inside.1, cuts.0)) in
      let list = list_of c lists p lawful size within in
      (entry_of_tile c (tile_of_place c p) (IsCheckedCode t steps) list.0.items lawful
      (each (tile_of_place c p) list.0 list.1) p (within, refl)).0

  -- the counts are the steps
  pub certified : AreSoundCounts t steps → IsTerrain t → IsFilled t t.cells → AreSteps t steps
  certified counts terrain filled = still_is_steps t steps counts.zeros counts.walked
      (λ p q next level.
      let at_p = data_inside t p next.from_data in
      let at_q = data_inside t q next.to_data in
      let still = still_at p at_p q (record { next = next; level = level }) in
      let here = ap stored (entry-inside t.cols t.rows steps p at_p.0 at_p.1) in
      let there = ap stored (entry-inside t.cols t.rows steps q at_q.0 at_q.1) in
      above_one _ _ (omega (arith, still, here, there)))
      terrain filled counts.size

  pub coded : AreSteps t steps → AreCoded t c lists
  coded are = record {
    size = size;
    each = λ k list at. record {
      size = (each k list at).size;
      each = λ p inside code is. ((each k list at).each p inside code is).1 are;
    };
  }
