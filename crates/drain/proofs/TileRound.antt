-- A search over a tile's window keeps counts lengths of flat walks, and searches until none lowers a
-- count give those of a round over the tile. The window has one row and one column more on each side.
use Rattle.std.proofs.Common.{◌≡◌, ◌≢◌, ℕ, ◌+◌, ◌-◌, ◌*◌, ◌^◌, ◌<◌, ◌≤◌, inl, inr, List, [], ◌∷◌, length, get_or, set, Option, None, Some, is_some, IfSome, ℤ, sym, ap, subst, refl, ◌∙◌, arith}
use Rattle.std.proofs.lemmas.Bool.{cases_eq, cases_lt}
use Rattle.std.proofs.lemmas.List.{get_or-map, get_or-set_same, get_or-set_other, get_or_past, length-map}
use Rattle.std.proofs.lemmas.Option.{MatchOption-at_some, none-some, same_Some}
use Rattle.terrain.proofs.Places.{make_place, same_place, index_injective, cases_place}
use Rattle.terrain.specs.Raster.{Terrain}
use Rattle.terrain.specs.Neighbours.{entry_or, height_at, entry_at, Touches, IsNeighbour, height_of}
use Rattle.terrain.specs.declared.place.Place.{Place}
use Rattle.tiles.specs.declared.bounds.Bounds.{Bounds}
use Rattle.tiles.specs.declared.window.Window.{Window}
use Rattle.terrain.specs.Sinks.{with_sinks}
use Rattle.tiles.specs.Cutting.{Cutting, IsCutting, IsInBounds, IsInTile, View, bounds_of, cell_count, terrain_of, tile_entry}
use Rattle.tiles.proofs.Cut.{in_bounds}
use Rattle.drain.specs.Beginning.{AreSoundSpots}
use Rattle.drain.specs.Rounds.{IsWalked, AreWalked, IsRound}
use Rattle.drain.specs.Steps.{DrainsAtOnce}
use Rattle.tile_maps.specs.Maps.{IsMadeUpTo, IsMadeTile}
use Rattle.tile_maps.proofs.TileLists.{made_tile, entry_of_tile}
use Rattle.drainage.specs.StepCounts.{known, no_count}
use Rattle.drainage.proofs.StoredCounts.{known-some, known-none}
use Rattle.tiles.specs.Windows.{spot_index, area_of, IsSpot, IsInner, Shows, IsShown}
use Rattle.drain.specs.Search.{AreEntriesShown, AreAtMostNoCount, AreLevel, height_on, count_on, IsSpread, same, moved, IsSearched, known_counts, IsCopied, AreWindowCounts, stored}
use Rattle.tiles.proofs.Spots.{spot_below}
use Rattle.drain.proofs.Spreading.{spread_low, spread_counts, spread-length, spot_from_inner}
use Rattle.drain.proofs.Counted.{height_is}
use Rattle.tiles.proofs.Spots.{shows_same}
use Rattle.drain.proofs.Unique.{at_place}
use Rattle.drain.proofs.Few.{data_on_walk}

-- a spot with a value shows a place that has this value in the list
pub is_on : {X : Type 0} (cols rows : ℕ) (entries : List (Option X)) (b : Bounds) (s : Place)
    (o : Option X) (x : X) → IsShown (entry_or cols rows entries None) None b s o → o ≡ Some x →
    (p : Place) × Shows b s p × (entry_at cols rows entries p ≡ Some x)
is_on {X = X} cols rows entries b s o x shown is =
    elim (cases_eq (b.top + s.row) 0) [
      | inl e ↦ absurd (none-some x (sym (shown.1 (inl e)) ∙ is))
      | inr row ↦ elim (cases_eq (b.left + s.col) 0) [
        | inl e ↦ absurd (none-some x (sym (shown.1 (inr e)) ∙ is))
        | inr col ↦
            (let here : Shows b s (make_place (b.top + s.row - 1) (b.left + s.col - 1)) =
            (omega arith, omega arith) in (
              make_place (b.top + s.row - 1) (b.left + s.col - 1),
              here,
              sym (shown.0 (make_place (b.top + s.row - 1) (b.left + s.col - 1)) here) ∙ is,
            ))
      ]
    ]

count-known : (b : Bounds) (shown : List (Option ℕ)) (s : Place) →
    length shown ≡ area_of b → IsSpot b s →
    count_on b (known_counts shown) s ≡ stored (get_or shown (spot_index b s) None)
count-known b shown s size spot = get_or-map stored shown (spot_index b s) None 0
    (omega (arith, size, spot_below b s spot))

pub some_of_known : (o : Option ℕ) (n : ℕ) → n ≡ stored o → n < no_count → o ≡ Some n
some_of_known None n e less = absurd (omega arith)
some_of_known (Some m) n e less = ap Some (sym e)

sound_begin : (t : Terrain) (b : Bounds) (steps shown : List (Option ℕ)) →
    length shown ≡ area_of b → AreEntriesShown t steps b shown →
    AreWalked (DrainsAtOnce t) t steps → AreSoundSpots t b (known_counts shown)
sound_begin t b steps shown size on walked = λ s spot less.
    let n = count_on b (known_counts shown) s in
    let some =
    some_of_known (get_or shown (spot_index b s) None) n (count-known b shown s size spot) less in
    let place =
    is_on t.cols t.rows steps b s (get_or shown (spot_index b s) None) n (on s spot) some in
    (place.0, place.1, MatchOption-at_some _ _ n place.2 (walked place.0))

-- a walk from a neighbour of equal height gives one of one move more, if that is below 2^24
pub walked_on : {t : Terrain} {p q : Place} (m : ℕ) → IsNeighbour t q p → height_at t p ≡ height_at t q →
    IsWalked (DrainsAtOnce t) t p m → m + 1 < 2 ^ 24 → IsWalked (DrainsAtOnce t) t q (m + 1)
walked_on {p = p} m next level walk less = (less, p ∷ walk.1, (next, level, walk.2), omega (arith, walk.3))

pub sound_set : (t : Terrain) (b : Bounds) (counts : List ℕ) (r : Place) (n : ℕ) → length counts ≡ area_of b →
    IsSpot b r → AreSoundSpots t b counts → ((q : Place) × Shows b r q × IsWalked (DrainsAtOnce t) t q n) →
    AreSoundSpots t b (set counts (spot_index b r) n)
sound_set t b counts r n size spot sound moved_to = λ s inside less. elim (cases_place s r) [
  | inl e ↦ (let at : count_on b (set counts (spot_index b r) n) r ≡ n =
      get_or-set_same counts (spot_index b r) n 0 (omega (arith, size, spot_below b r spot)) in
      rw e (
        moved_to.0,
        moved_to.1,
        rw at moved_to.2,
      ))
  | inr ne ↦ (let apart : spot_index b s ≢ spot_index b r =
      λ i. ne (index_injective (b.cols + 2) s r inside.1 spot.1 i) in
      let at : count_on b (set counts (spot_index b r) n) s ≡ count_on b counts s =
      get_or-set_other counts (spot_index b r) (spot_index b s) n 0 apart in
      let was = sound s inside (omega (arith, at)) in
      (was.0, was.1, subst (λ m. IsWalked (DrainsAtOnce t) t was.0 m) (sym at) was.2))
]

module _ (t : Terrain) (w : Window (Option ℤ)) (on : AreEntriesShown t t.cells w.bounds w.values.items) where
  sound_moved : (counts : List ℕ) (r s : Place) → AreSoundSpots t w.bounds counts → AreLevel w r s →
      count_on w.bounds counts r + 1 < no_count →
      (q : Place) × Shows w.bounds s q × IsWalked (DrainsAtOnce t) t q (count_on w.bounds counts r + 1)
  sound_moved counts r s sound are less =
      let from = sound r are.one (omega (arith, less)) in
      let is_data = data_on_walk t from.0 from.2.1 from.2.2 in
      let height = height_is t from.0 is_data in
      let to = is_on t.cols t.rows t.cells w.bounds s (height_on w s) (height_of t from.0) (on s are.other)
      (sym are.level ∙ (on r are.one).0 from.0 from.1 ∙ height) in
      let next : IsNeighbour t to.0 from.0 = record {
        different = λ e. are.apart (same_place r s
            (omega (arith, from.1.0, to.1.0, ap (λ (p : Place). p.row) e))
            (omega (arith, from.1.1, to.1.1, ap (λ (p : Place). p.col) e)));
        touches = record {
          row_down = omega (arith, from.1.0, to.1.0, are.touches.row_up);
          row_up = omega (arith, from.1.0, to.1.0, are.touches.row_down);
          col_right = omega (arith, from.1.1, to.1.1, are.touches.col_left);
          col_left = omega (arith, from.1.1, to.1.1, are.touches.col_right);
        };
        from_data = ap is_some to.2;
        to_data = is_data;
      } in
      (to.0, to.1, walked_on (count_on w.bounds counts r) next (height ∙ sym to.2) from.2 less)

  pub sound_after : {old new : List ℕ} → length old ≡ area_of w.bounds → AreAtMostNoCount old →
      AreSoundSpots t w.bounds old → IsSpread w old new → AreSoundSpots t w.bounds new
  sound_after size small sound same = sound
  sound_after size small sound (moved counts some r s before earlier are less) =
      sound_set t w.bounds counts s (count_on w.bounds some r + 1) (spread-length before ∙ size) are.other
      (sound_after size small sound before)
      (sound_moved some r s (sound_after size small sound earlier) are
      (omega (arith, less, spread_counts small before (spot_index w.bounds s))))

abbrev pub spot_of : Bounds → Place → Place
spot_of b p = make_place (p.row + 1 - b.top) (p.col + 1 - b.left)

pub spot_inner : (b : Bounds) (p : Place) → IsInBounds b p → IsInner b (spot_of b p)
    × Shows b (spot_of b p) p
spot_inner b p i = (
  record {
    first_row = omega (arith, i.0);
    last_row = omega (arith, i.1);
    first_col = omega (arith, i.2);
    last_col = omega (arith, i.3);
  },
  (omega (arith, i.0), omega (arith, i.2)),
)

-- a place that touches a place of the tile has a spot in the window
spot_beside : {b : Bounds} {p q s : Place} → IsInner b s → Shows b s p → Touches p q →
    IsSpot b (spot_of b q) × Shows b (spot_of b q) q × Touches s (spot_of b q)
spot_beside i f t = (
  (omega (arith, f.0, t.row_down, i.last_row), omega (arith, f.1, t.col_right, i.last_col)),
  (omega (arith, f.0, t.row_up, i.first_row), omega (arith, f.1, t.col_left, i.first_col)),
  record {
    row_down = omega (arith, f.0, t.row_down);
    row_up = omega (arith, f.0, t.row_up, i.first_row);
    col_right = omega (arith, f.1, t.col_right);
    col_left = omega (arith, f.1, t.col_left, i.first_col);
  },
)

pub known_is : (n m : ℕ) → known n ≡ Some m → n ≡ m
known_is n m e = elim (cases_lt n no_count) [
  | inl less ↦ same_Some n m (sym (known-some n less) ∙ e)
  | inr more ↦ absurd (none-some m (sym (known-none n more) ∙ e))
]

known-if : (n : ℕ) (P : ℕ → Type 0) → (n < no_count → P n) → IfSome (known n) P
known-if n P h = elim (cases_lt n no_count) [
  | inl less ↦ rw (known-some n less) (h less)
  | inr more ↦ rw (known-none n more) tt
]

count_small : (t : Terrain) (b : Bounds) (s : Place) (steps : List (Option ℕ)) (o : Option ℕ) →
    IsShown (entry_or t.cols t.rows steps None) None b s o →
    AreWalked (DrainsAtOnce t) t steps → stored o ≤ no_count
count_small t b s steps None on walks = omega arith
count_small t b s steps (Some n) on walks =
    let place = is_on t.cols t.rows steps b s (Some n) n on refl in
    let real = MatchOption-at_some _ _ n place.2 (walks place.0) in omega (arith, real.0)

pub counts_small : (t : Terrain) (b : Bounds) (steps shown : List (Option ℕ)) →
    length shown ≡ area_of b → AreEntriesShown t steps b shown →
    AreWalked (DrainsAtOnce t) t steps → AreAtMostNoCount (known_counts shown)
counts_small t b steps shown size seen walks k = elim (cases_lt k (area_of b)) [
  | inl less ↦ at_place (λ i. get_or (known_counts shown) i 0 ≤ no_count) (b.cols + 2) (b.rows + 2)
      (λ s row col. omega (
        arith,
        count-known b shown s size (row, col),
        count_small t b s steps (get_or shown (spot_index b s) None) (seen s (row, col)) walks,
      )) k less
  | inr past ↦ omega (
    arith,
    get_or_past (known_counts shown) k 0
        (omega (arith, size, length-map shown stored)),
  )
]

-- The list has the counts of a tile, copied from those of its window.
pub record IsCopiedTile (c : Cutting) (tile : ℕ) (b : Bounds) (new : List ℕ) (list : List (Option ℕ)) : Type 0 where
  pub cutting : IsCutting c
  pub bounds : b ≡ bounds_of c tile
  pub made : IsMadeUpTo b (IsCopied b new) (b.rows * b.cols) list

module _ {c : Cutting} {tile : ℕ} {b : Bounds} {new : List ℕ} {list : List (Option ℕ)}
    (of : IsCopiedTile c tile b new list) where
  pub inner_of : (p : Place) → IsInTile c tile p → IsInner b (spot_of b p) × Shows b (spot_of b p) p
  inner_of p i = spot_inner b p (rw of.bounds (in_bounds c tile p of.cutting i))

  copied : IsMadeTile c tile (IsCopied b new) list
  copied = made_tile c tile b (IsCopied b new) list of.cutting of.bounds of.made

  pub tile_size : length list ≡ cell_count c tile
  tile_size = copied.size

  -- the tile's list has the count of each place's spot
  pub entry_is : (p : Place) → IsInTile c tile p → tile_entry c tile list p ≡ known (count_on b new (spot_of b p))
  entry_is p i = entry_of_tile c tile (IsCopied b new) list of.cutting copied p i (spot_of b p) (inner_of p i).1

  pub at_most : (p : Place) (m : ℕ) → IsInTile c tile p → count_on b new (spot_of b p) ≤ m → m < no_count →
      (n : ℕ) × (tile_entry c tile list p ≡ Some n) × (n ≤ m)
  at_most p m i le few = (
    count_on b new (spot_of b p),
    entry_is p i ∙ known-some (count_on b new (spot_of b p)) (omega (arith, le, few)),
    le,
  )

  pub tile_walked : (t : Terrain) → AreSoundSpots t b new → (p : Place) → IsInTile c tile p →
      IfSome (tile_entry c tile list p) (IsWalked (DrainsAtOnce t) t p)
  tile_walked t sound p i =
      let s = spot_of b p in
      let inner = inner_of p i in
      rw (entry_is p i) (known-if (count_on b new s) (IsWalked (DrainsAtOnce t) t p) (λ less.
      let at = sound s (spot_from_inner inner.0) less in
      rw (shows_same b s at.0 p at.1 inner.1) at at.2))

-- The window counts of a tile of w are those of a tile of the terrain that v shows.
pub input_to : (t : Terrain) (v : View (Option ℤ)) (w : View (Option ℕ)) {b : Bounds} {old : List ℕ} →
    terrain_of v ≡ with_sinks t [] → w.cutting ≡ v.cutting → w.tile ≡ v.tile → b ≡ bounds_of v.cutting v.tile →
    AreWindowCounts w.cutting.cols w.cutting.rows w.cells (bounds_of w.cutting w.tile) old →
    AreWindowCounts t.cols t.rows w.cells b old
input_to t v w {b} {old} shown cutting tile bounds input =
    subst (λ (x : Terrain). AreWindowCounts x.cols x.rows w.cells b old) shown
    (rw (cutting, tile, ← bounds) at input)

-- searches from the counts of a window give the counts of a round over its tile
module _ (t : Terrain) {b : Bounds} {steps : List (Option ℕ)} {old : List ℕ}
    (input : AreWindowCounts t.cols t.rows steps b old) where
  pub input_small : AreWalked (DrainsAtOnce t) t steps → AreAtMostNoCount old
  input_small walks = rw input.value (counts_small t b steps input.shown input.size input.seen walks)

  pub input_size : length old ≡ area_of b
  input_size = rw input.value (length-map input.shown stored ∙ input.size)

  -- the old count of a place, if known, is that of the spot that shows the place
  input_is : (s q : Place) (m : ℕ) → IsSpot b s → Shows b s q → entry_at t.cols t.rows steps q ≡ Some m →
      count_on b old s ≡ m
  input_is s q m spot f e = rw input.value (count-known b input.shown s input.size spot
      ∙ ap stored ((input.seen s spot).0 q f ∙ e))

module _ (t : Terrain) {w : Window (Option ℤ)} {steps : List (Option ℕ)} {old : List ℕ}
    (input : AreWindowCounts t.cols t.rows steps w.bounds old) (walks : AreWalked (DrainsAtOnce t) t steps)
    (on : AreEntriesShown t t.cells w.bounds w.values.items) {c : Cutting} {tile : ℕ} {new : List ℕ}
    {list : List (Option ℕ)} (searched : IsSearched w old new) (of : IsCopiedTile c tile w.bounds new list) where
  abbrev b : Bounds
  b = w.bounds

  -- a new count is at most one above that of a neighbour of equal height
  beside : (p q : Place) → IsInTile c tile p → IsNeighbour t p q → height_at t q ≡ height_at t p →
      IsSpot b (spot_of b q) × Shows b (spot_of b q) q
      × (count_on b new (spot_of b p) ≤ count_on b new (spot_of b q) + 1)
  beside p q i next level =
      let s = spot_of b p in
      let inner = inner_of of p i in
      let there = spot_beside inner.0 inner.1 next.touches in (
        there.0,
        there.1,
        (searched.settled s inner.0).each (spot_of b q) there.2
            ((on (spot_of b q) there.0).0 q there.1 ∙ level ∙ sym ((on s (spot_from_inner inner.0)).0 p inner.1)),
      )

  pub is_round : IsRound (DrainsAtOnce t) t c tile steps list
  is_round = record {
    size = tile_size of;
    walked = tile_walked of t (sound_after t w on (input_size t input) (input_small t input walks)
        (rw input.value (sound_begin t b steps input.shown input.size input.seen walks)) searched.spread);
    kept = λ p m i e.
        let inner = inner_of of p i in
        at_most of p m i (omega (
          arith,
          spread_low searched.spread (spot_index b (spot_of b p)),
          input_is t input (spot_of b p) p m (spot_from_inner inner.0) inner.1 e,
        )) (MatchOption-at_some _ _ m e (walks p)).0;
    near = λ p q i next level m e less.
        let there = beside p q i next level in
        at_most of p (m + 1) i (omega (
          arith,
          there.2,
          spread_low searched.spread (spot_index b (spot_of b q)),
          input_is t input (spot_of b q) q m there.0 there.1 e,
        )) (omega (arith, less));
    within = λ p q i j next level m e less. at_most of p (m + 1) i
        (omega (
          arith,
          (beside p q i next level).2,
          known_is (count_on b new (spot_of b q)) m
              (sym (entry_is of q j) ∙ e),
        ))
        (omega (arith, less));
  }
