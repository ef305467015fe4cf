-- The initial counts of steps at the spots of a tile's window: 0 where a cell of the tile drains at
-- once, sinks included, else unknown. The window is the tile and a border of one cell around it.
use Rattle.std.proofs.Common.{◌≡◌, ℕ, ◌+◌, ◌<◌, ◌≤◌, ◌⊎◌, inl, inr, List, [], length, get_or, IfSome, Option, None, Some, slice_set, ℤ, sym, ap, refl, ◌∙◌, arith}
use Rattle.std.proofs.lemmas.Bool.{cases_eq, cases_lt}
use Rattle.std.proofs.lemmas.List.{get_or_default, get_or_past, get_or-set_same, get_or-set_other, length-set}
use Rattle.std.proofs.lemmas.Option.{none-some}
use Rattle.terrain.proofs.Heights.{height_in}
use Rattle.terrain.proofs.Places.{cases_place, index_injective, make_place, same_place}
use Rattle.terrain.specs.Raster.{Terrain, IsHeight, IsTerrain}
use Rattle.terrain.specs.Neighbours.{IsDataCell}
use Rattle.terrain.specs.declared.place.Place.{Place}
use Rattle.tiles.specs.declared.bounds.Bounds.{Bounds}
use Rattle.tiles.specs.declared.window.Window.{Window}
use Rattle.tiles.specs.Cutting.{Cutting}
use Rattle.drainage.specs.StepCounts.{no_count}
use Rattle.drainage.proofs.StoredCounts.{known-none, known-some}
use Rattle.drain.specs.Beginning.{AreBegun, AreBegunUpTo, AreHeights, AreSoundInTile, HasGapOrLower, IsBegunSpot, IsEdgeOrHasLower}
use Rattle.drain.specs.Steps.{DrainsAtOnce}
use Rattle.tiles.specs.Windows.{IsInner, IsSpot, Shows, area_of, spot_index}
use Rattle.drain.specs.Search.{AreEntriesShown, IsSpread, count_on}
use Rattle.drain.proofs.GapOrLower.{shown_drains, drains_shown}
use Rattle.drain.proofs.Spreading.{set_low, spot_from_inner, spread_low}
use Rattle.tiles.proofs.Spots.{spot_below}
use Rattle.tiles.proofs.SpotWays.{inner_shows}
use Rattle.drain.proofs.TileRound.{IsCopiedTile, at_most, inner_of, is_on, known_is, sound_after, sound_set, spot_of, tile_size, tile_walked}
use Rattle.drain.proofs.Quiet.{if_some}
use Rattle.drain.proofs.Unique.{at_place}

edge_drains : (t : Terrain) (p : Place) → IsEdgeOrHasLower t p → DrainsAtOnce t p
edge_drains t p (inl lower) = inl lower
edge_drains t p (inr edge) = inr (inl edge)

-- before a look at any spot of the tile each count is unknown
pub begun_none : {Drains : Place → Type 0} {b : Bounds} {counts : List ℕ} → length counts ≡ area_of b →
    ((s : Place) → Drains s → IsInner b s) →
    ((k : ℕ) → k < area_of b → get_or counts k 0 ≡ no_count) → AreBegunUpTo Drains b 1 0 counts
begun_none {b = b} size inside unknown = record {
  size = size;
  each = λ s spot before.
      let none = unknown (spot_index b s) (spot_below b s spot) in (
        omega (arith, none),
        record {
          zero = λ drains. let inner = inside s drains in
              absurd (elim (before inner) [
                | inl above ↦ omega (arith, above, inner.first_row)
                | inr beside ↦ omega (arith, beside.1)
              ]);
          only = λ n e. absurd (none-some n (sym (rw none (known-none no_count (omega arith))) ∙ e));
        },
      );
}

-- one spot more
pub begun_next : {Drains : Place → Type 0} {b : Bounds} {counts : List ℕ} (s : Place) (count index : ℕ) →
    index ≡ spot_index b s → IsSpot b s → IsBegunSpot Drains s count →
    AreBegunUpTo Drains b s.row s.col counts → AreBegunUpTo Drains b s.row (s.col + 1) (slice_set counts index count)
begun_next {b = b} {counts = counts} s count index is spot begun before = rw is (record {
  size = length-set counts (spot_index b s) count ∙ before.size;
  each = λ r on earlier. elim (cases_place r s) [
    | inl e ↦ rw e (rw (get_or-set_same counts (spot_index b s) count 0
        (omega (arith, before.size, spot_below b s spot))) begun)
    | inr ne ↦ rw (get_or-set_other counts (spot_index b s) (spot_index b r) count 0
        (λ i. ne (index_injective (b.cols + 2) r s on.1 spot.1 i)))
        (before.each r on (λ inner. elim (earlier inner) [
          | inl above ↦ inl above
          | inr beside ↦ elim (cases_eq r.col s.col) [
            | inl e ↦ absurd (ne (same_place r s beside.0 e))
            | inr other ↦ inr (beside.0, omega (arith, beside.1, other))
          ]
        ]))
  ];
})

-- the counts of all spots of a window are initial by its heights (`HasGapOrLower`): they are sound, and 0 where the
-- terrain has an edge cell or one with a lower neighbour
pub begun_shown : (t : Terrain) (w : Window (Option ℤ)) {counts : List ℕ} →
    AreEntriesShown t t.cells w.bounds w.values.items →
    AreBegunUpTo (HasGapOrLower w) w.bounds (w.bounds.rows + 1) 0 counts →
    AreBegun t w.bounds (IsEdgeOrHasLower t) counts
begun_shown t w {counts} on are =
    let b = w.bounds in
    let all : (s : Place) → IsSpot b s → IsBegunSpot (HasGapOrLower w) s (count_on b counts s) =
    λ s spot. are.each s spot (λ inner. inl (omega (arith, inner.last_row))) in
    record {
      size = are.size;
      few = λ k. elim (cases_lt k (area_of b)) [
        | inl less ↦ at_place (λ i. get_or counts i 0 ≤ no_count) (b.cols + 2) (b.rows + 2)
            (λ s row col. (all s (row, col)).0) k less
        | inr past ↦ omega (arith, get_or_past counts k 0 (omega (arith, are.size)))
      ];
      sound = λ s spot less.
          let n = count_on b counts s in
          let one = (all s spot).1.only n (known-some n less) in
          let p = inner_shows b s one.0.0 in
          let drains = edge_drains t p.0 (shown_drains t w on p.0 one.0.0 p.1 one.0) in
          (p.0, p.1, simp one.1 (omega arith, [], drains, refl));
      zeros = λ s p inner shows drains.
          known_is (count_on b counts s) 0 ((all s (spot_from_inner inner)).1.zero
          (drains_shown t w on p inner shows drains));
    }

-- the cells of a window of a terrain are heights within the limits, or have no data
pub heights_shown : (t : Terrain) (w : Window (Option ℤ)) → IsTerrain t → length w.values.items ≡ area_of w.bounds →
    AreEntriesShown t t.cells w.bounds w.values.items → AreHeights w.values.items
heights_shown t w lawful size on k =
    let b = w.bounds in
    let cells = w.values.items in
    elim (cases_lt k (area_of b)) [
      | inl less ↦ at_place (λ i. IfSome (get_or cells i None) IsHeight) (b.cols + 2) (b.rows + 2)
          (λ s row col. if_some (get_or cells (spot_index b s) None) IsHeight (λ h e.
          let p = is_on t.cols t.rows t.cells b s (get_or cells (spot_index b s) None) h (on s (row, col)) e in
          height_in t p.0 h lawful p.2)) k less
      | inr past ↦ rw (get_or_past cells k None (omega (arith, size))) tt
    ]

abbrev pub sink_at : List Place → ℕ → Place
sink_at sinks index = get_or sinks index (make_place 0 0)

-- the cell is an edge cell, has a lower neighbour, or is a data cell among the first `end` sinks
abbrev pub DrainsBefore : Terrain → List Place → ℕ → Place → Type 0
DrainsBefore t sinks end p = IsEdgeOrHasLower t p
    ⊎ (IsDataCell t p × (k : ℕ) × (k < end) × (k < length sinks) × (get_or sinks k p ≡ p))

-- the counts are 0 wherever B holds, if B implies A there
zeros_by : {t : Terrain} {A : Place → Type 0} (B : Place → Type 0) {b : Bounds} {counts : List ℕ} →
    ((s p : Place) → IsInner b s → Shows b s p → B p → A p) → AreBegun t b A counts → AreBegun t b B counts
zeros_by B from are = record {
  size = are.size;
  few = are.few;
  sound = are.sound;
  zeros = λ s p inner shows drains. are.zeros s p inner shows (from s p inner shows drains);
}

pub before_any : {t : Terrain} (sinks : List Place) {b : Bounds} {counts : List ℕ} →
    AreBegun t b (IsEdgeOrHasLower t) counts → AreBegun t b (DrainsBefore t sinks 0) counts
before_any {t} sinks {b} {counts} = zeros_by (DrainsBefore t sinks 0)
    (λ s p inner shows drains. elim drains [ inl anyway ↦ anyway | inr sink ↦ absurd (omega (arith, sink.2)) ])

pub before_all : {t : Terrain} {sinks : List Place} (end : ℕ) {b : Bounds} {counts : List ℕ} → sinks ≡ t.sinks →
    length sinks ≤ end → AreBegun t b (DrainsBefore t sinks end) counts → AreBegun t b (DrainsAtOnce t) counts
before_all {t} {sinks} end {b} {counts} named all =
    zeros_by (DrainsAtOnce t) (λ s p inner shows drains. elim drains [
      | inl lower ↦ inl (inl lower)
      | inr end ↦ elim end [
        | inl edge ↦ inl (inr edge)
        | inr sink ↦ (let is = rw (← named) at sink.1 in
            inr (sink.0, is.0, omega (arith, is.1, all), is.1, is.2))
      ]
    ])

module _ {t : Terrain} (sinks : List Place) (index : ℕ) {b : Bounds} {counts : List ℕ}
    (below : index < length sinks) (before : AreBegun t b (DrainsBefore t sinks index) counts) where
  abbrev sink : Place
  sink = sink_at sinks index

  named : (p : Place) → get_or sinks index p ≡ sink
  named p = get_or_default sinks index p (make_place 0 0) below

  earlier : (p : Place) → (p ≡ sink → IsDataCell t p → ⊥) → DrainsBefore t sinks (index + 1) p →
      DrainsBefore t sinks index p
  earlier p other (inl anyway) = inl anyway
  earlier p other (inr one) = elim (cases_eq one.1 index) [
    | inl last ↦ absurd (other (sym one.4 ∙ ap (λ n. get_or sinks n p) last ∙ named p) one.0)
    | inr ne ↦ inr (one.0, one.1, omega (arith, one.2, ne), one.3, one.4)
  ]

  -- one more sink, outside the tile or without data, changes no count
  pub sink_passed : ((s : Place) → IsInner b s → Shows b s (sink_at sinks index) →
      IsDataCell t (sink_at sinks index) → ⊥) → AreBegun t b (DrainsBefore t sinks (index + 1)) counts
  sink_passed out = zeros_by (DrainsBefore t sinks (index + 1))
      (λ s p inner shows. earlier p (λ same is. out s inner (rw same at shows)
      (rw same at is))) before

  -- one more sink, with data and in the tile, sets the count of its spot to 0
  pub sink_put : sinks ≡ t.sinks → (r : Place) → IsInner b r → Shows b r (sink_at sinks index) →
      IsDataCell t (sink_at sinks index) →
      AreBegun t b (DrainsBefore t sinks (index + 1)) (slice_set counts (spot_index b r) 0)
  sink_put own r inner on here =
      let spot = spot_from_inner inner in
      let drains : DrainsAtOnce t sink =
      inr (inr (here, rw (← own) (index, below, named sink))) in
      record {
        size = length-set counts (spot_index b r) 0 ∙ before.size;
        few = λ k. omega (arith, before.few k, set_low counts (spot_index b r) 0 k (omega arith));
        sound = sound_set t b counts r 0 before.size spot before.sound
            (sink, on, (omega arith, [], drains, refl));
        zeros = λ s p inside shows below_it. elim (cases_eq (spot_index b s) (spot_index b r)) [
          | inl e ↦ ap (λ (k : ℕ). get_or (slice_set counts (spot_index b r) 0) k 0) e
              ∙ get_or-set_same counts (spot_index b r) 0 0 (omega (arith, before.size, spot_below b r spot))
          | inr ne ↦ get_or-set_other counts (spot_index b r) (spot_index b s) 0 0 ne
              ∙ before.zeros s p inside shows (earlier p (λ same is. ne (ap (spot_index b)
              (same_place s r (omega (arith, shows.0, on.0, ap (λ (q : Place). q.row) same))
              (omega (arith, shows.1, on.1, ap (λ (q : Place). q.col) same))))) below_it)
        ];
      }

-- a search from the initial counts keeps the counts of the tile sound
pub begun_tile : {t : Terrain} {w : Window (Option ℤ)} {counts new : List ℕ} {c : Cutting} {tile : ℕ}
    {list : List (Option ℕ)} → AreBegun t w.bounds (DrainsAtOnce t) counts →
    AreEntriesShown t t.cells w.bounds w.values.items → IsSpread w counts new → IsCopiedTile c tile w.bounds new list →
    AreSoundInTile t c tile list
begun_tile {t} {w} are on spread of = record {
  size = tile_size of;
  zeros = λ p i drains.
      let inner = inner_of of p i in
      let s = spot_of w.bounds p in
      let at = at_most of p 0 i
      (omega (arith, spread_low spread (spot_index w.bounds s), are.zeros s p inner.0 inner.1 drains)) (omega arith) in
      at.1 ∙ ap Some (omega (arith, at.2));
  walked = tile_walked of t (sound_after t w on are.size are.few are.sound spread);
}
