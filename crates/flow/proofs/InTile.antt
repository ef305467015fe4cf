-- From data cells, paths along a tile's links are the parts of flow paths inside the tile, and end
-- at exits. A cell's link is the index of the next cell downstream in the tile, else its own.
use Rattle.std.proofs.Common.{◌≡◌, ◌↔◌, ℕ, zero, suc, ◌<◌, ◌≤◌, ◌⊎◌, inl, inr, List, length, sym, ap, subst, refl, ◌∙◌, arith, true, is_some}
use Rattle.std.specs.Prelude.{◌*◌, if◌then◌else◌, is_some, slice_index}
use Rattle.std.proofs.lemmas.Bool.{cases_eq, cases_Bool, cond-true, cond-false, false_from_ne_true, eq-eqb}
use Rattle.std.proofs.Math.Nat.{mul-le-mul}
use Rattle.terrain.specs.declared.place.Place.{Place}
use Rattle.tiles.specs.declared.bounds.Bounds.{Bounds}
use Rattle.tiles.specs.Cutting.{Cutting, IsCutting, IsWithin, IsInTile, IsInBounds, AreBounds, tile_of_place, is_in_bounds, place_in, index_in}
use Rattle.tiles.proofs.TileOrder.{place_in_bounds, index_in_below, index_in-place_in, place_in-index_in}
use Rattle.drainage.specs.Following.{Directed, code_at, next, follow, moves}
use Rattle.drainage.specs.Drained.{AllFlowEnds}
use Rattle.tiles.proofs.Cut.{in_bounds_parts, in_bounds_from}
use Rattle.flow.specs.Streams.{AreStreams, next_node, node_after, end_of}
use Rattle.flow.specs.TileFlow.{stays, IsExitOf}
use Rattle.flow.proofs.Ending.{IsStop, inside_along, streams_from, early_end, node_stays}
use Rattle.flow.proofs.Coded.{IsCoded, cases_coded, none_stays, outlet_stays, coded_inside, coded_along, outlet_from_stays}
use Rattle.flow.proofs.Ranges.{all_in_range}

-- The index of the next cell downstream, or i if none is in the tile.
abbrev pub link_in : Directed → Bounds → ℕ → ℕ
link_in d b i = if is_in_bounds b (next d (place_in b i)) then index_in b (next d (place_in b i)) else i

abbrev pub weight_in : Directed → Bounds → ℕ → ℕ
weight_in d b i = if is_some (code_at d (place_in b i)) then 1 else 0

pub record AreTileLinks (d : Directed) (b : Bounds) (links : List ℕ) : Type 0 where
  pub size : length links ≡ b.rows * b.cols
  pub each : (i : ℕ) → i < b.rows * b.cols → slice_index links i ≡ link_in d b i

pub record AreTileWeights (d : Directed) (b : Bounds) (weights : List ℕ) : Type 0 where
  pub size : length weights ≡ b.rows * b.cols
  pub each : (i : ℕ) → i < b.rows * b.cols → slice_index weights i ≡ weight_in d b i

pub cases_bounds : (b : Bounds) (p : Place) → IsInBounds b p ⊎ (IsInBounds b p → ⊥)
cases_bounds b p = elim (cases_Bool (is_in_bounds b p)) [
  | inl t ↦ inl (in_bounds_parts b p t)
  | inr f ↦ inr (λ h. let t = in_bounds_from b p h in absurd cc)
]

pub link-in : (d : Directed) (b : Bounds) (i : ℕ) → IsInBounds b (next d (place_in b i)) →
    link_in d b i ≡ index_in b (next d (place_in b i))
link-in d b i h = cond-true _ _ _ (in_bounds_from b _ h)

pub link-out : (d : Directed) (b : Bounds) (i : ℕ) → (IsInBounds b (next d (place_in b i)) → ⊥) → link_in d b i ≡ i
link-out d b i out = cond-false _ _ _ (false_from_ne_true _ (λ t. out (in_bounds_parts b _ t)))

-- A tile, with its links, of a map of directions whose flow paths all end.
pub record IsPiece (d : Directed) (c : Cutting) (tile : ℕ) (b : Bounds) (links : List ℕ) : Type 0 where
  pub cutting : IsCutting c
  pub cols : d.cols ≡ c.cols
  pub rows : d.rows ≡ c.rows
  pub ends : AllFlowEnds d
  pub inside : AreBounds c b
  pub places : (p : Place) → IsInTile c tile p ↔ IsInBounds b p
  pub made : AreTileLinks d b links

module _ {d : Directed} {c : Cutting} {tile : ℕ} {b : Bounds} {links : List ℕ} (s : IsPiece d c tile b links) where
  pub in_place : (i : ℕ) → i < length links → IsInBounds b (place_in b i)
  in_place i h = place_in_bounds b i s.inside.some_col (omega arith)

  pub link_is : (i : ℕ) → i < length links → next_node links i ≡ link_in d b i
  link_is i h = s.made.each i (omega arith)

  pub links_inside : (i : ℕ) → i < length links → next_node links i < length links
  links_inside i h = elim (cases_bounds b (next d (place_in b i))) [
    | inl y ↦ omega (arith, link-in, index_in_below b (next d (place_in b i)) y)
    | inr n ↦ omega (arith, link-out)
  ]

  pub node_inside : (i : ℕ) → i < length links → (k : ℕ) → node_after links i k < length links
  node_inside = inside_along links links_inside

  pub self_link : (i : ℕ) → i < length links → next d (place_in b i) ≡ place_in b i → next_node links i ≡ i
  self_link i h e = cc (link_is i h, link-in d b i (rw e (in_place i h)), index_in-place_in b i)

  pub link_place : (i : ℕ) → i < length links → IsInBounds b (next d (place_in b i)) →
      place_in b (next_node links i) ≡ next d (place_in b i)
  link_place i h y = ap (place_in b) (link_is i h ∙ link-in d b i y) ∙ place_in-index_in b _ y

  -- k moves along links from node j lead where the first `met` moves of cell j's flow path lead,
  -- inside the bounds. `met` is k, unless the path along links has ended after k moves.
  pub record FollowsLinks (j k : ℕ) : Type 0 where
    pub met : ℕ
    pub few : met ≤ k
    pub way : (l : ℕ) → l ≤ met → IsInBounds b (follow d (place_in b j) l)
    pub here : place_in b (node_after links j k) ≡ follow d (place_in b j) met
    pub done : (met ≡ k) ⊎ IsStop links j k

  stopped : {j k : ℕ} → FollowsLinks j k → IsStop links j k → FollowsLinks j (suc k)
  stopped t stop = record { met = t.met; few = omega arith; way = t.way; here = cc; done = inr (cc) }

  way_on : (j m : ℕ) → ((l : ℕ) → l ≤ m → IsInBounds b (follow d (place_in b j) l)) →
      IsInBounds b (follow d (place_in b j) (suc m)) → (l : ℕ) → l ≤ suc m → IsInBounds b (follow d (place_in b j) l)
  way_on j m way more l le = elim (cases_eq l (suc m)) [
    | inl e ↦ rw e more
    | inr ne ↦ way l (omega arith)
  ]

  pub follows_links : (j : ℕ) → j < length links → (k : ℕ) → FollowsLinks j k
  follows_links j h zero = record {
    met = 0;
    few = omega arith;
    way = λ l le. (let z : 0 ≡ l = omega arith in
        rw (← z) (in_place j h));
    here = refl;
    done = inl refl;
  }
  follows_links j h (suc k) =
      let t = follows_links j h k in
      elim t.done [
        | inr stop ↦ stopped t stop
        | inl same ↦ elim (cases_bounds b (next d (place_in b (node_after links j k)))) [
          | inr out ↦ stopped t (link_is _ (node_inside j h k) ∙ link-out d b _ out)
          | inl y ↦ (let on = ap (next d) t.here in
              record {
                met = suc t.met;
                few = omega arith;
                way = way_on j _ t.way (rw on at y);
                here = link_place _ (node_inside j h k) y ∙ on;
                done = inl (ap suc same);
              })
        ]
      ]

  pub stops : (j : ℕ) → j < length links → (k : ℕ) × IsStop links j k
  stops j h = elim (cases_coded d (place_in b j)) [
    | inl none ↦ (0, self_link j h (none_stays d _ none))
    | inr is ↦ let t = follows_links j h _ in elim t.done [
      | inr stop ↦ (moves d, stop)
      | inl same ↦ (let last = t.here ∙ ap (follow d (place_in b j)) same in (
        moves d,
        self_link _ (node_inside j h _) (ap (next d) last ∙ outlet_stays d _ (s.ends _ _ is.is) ∙ sym last),
      ))
    ]
  ]

  pub tile_streams : AreStreams links
  tile_streams = streams_from links links_inside stops

  pub coded_within : {p : Place} → IsCoded d p → IsWithin c p
  coded_within {p} is = let w = coded_inside is in
      omega arith

  pub few_cells : length links ≤ moves d
  few_cells =
      let r : b.rows ≤ d.rows = omega arith in
      let k : b.cols ≤ d.cols = omega arith in
      omega (arith, mul-le-mul r k)

  pub tile_is : (q : Place) → IsInBounds b q → tile_of_place c q ≡ tile
  tile_is q h = ((s.places q).1 h).1

  pub stays_from_way : (q : Place) (k : ℕ) → ((l : ℕ) → l ≤ k → IsInBounds b (follow d q l)) → stays d c q k ≡ true
  stays_from_way q k way = all_in_range _ _ (λ l h. eq-eqb _ _ (tile_is _ (way l (omega arith)) ∙
      sym (tile_is q (way 0 (omega arith)))))

  pub exit_is : (i : ℕ) → i < length links → IsCoded d (place_in b i) →
      IsExitOf d c (place_in b i) (place_in b (end_of links i))
  exit_is i h is =
      let r = early_end links tile_streams.inside i h (length links) (tile_streams.ends i h) in
      let last : node_after links i r.0 ≡ end_of links i =
      sym (node_stays links i r.0 (length links) (omega arith) r.2) in
      let t = follows_links i h r.0 in
      let at : follow d (place_in b i) t.met ≡ place_in b (end_of links i) = sym t.here ∙ ap (place_in b) last in
      let coded = subst (λ q. IsCoded d q) at (coded_along s.ends is t.met) in
      let stop : next_node links (end_of links i) ≡ end_of links i = tile_streams.ends i h in
      let inside = node_inside i h (length links) in (
        t.met,
        omega (arith, few_cells),
        stays_from_way (place_in b i) t.met t.way,
        at,
        (
          ap is_some coded.is,
          elim (cases_bounds b (next d (place_in b (end_of links i)))) [
            | inl y ↦ inl (outlet_from_stays s.ends coded (sym (link_place (end_of links i) inside y) ∙
                ap (place_in b) stop))
            | inr out ↦ inr (λ same. out ((s.places (next d (place_in b (end_of links i)))).0 (
              coded_within (coded_along s.ends coded 1),
              same ∙ tile_is (place_in b (end_of links i)) (in_place (end_of links i) inside),
            )))
          ],
        ),
      )
