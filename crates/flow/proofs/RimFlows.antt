-- Links lead from each exit into another tile to the next such exit on its flow path, and paths
-- along links end (`AreStreams`). Water that leaves by the last such exit ends in the next tile. So
-- the end of an exit's path along links gives the exit's outlet (`AreOutlets`).
use Rattle.std.proofs.Common.{◌≡◌, ◌≢◌, ℕ, zero, suc, ◌+◌, ◌*◌, ◌/◌, ◌%◌, ◌<◌, ◌⊎◌, inl, inr, true, false, cond, eqb, List, length, get_or, Option, None, Some, IfSome, is_some, slice_get, sym, ap, subst, refl, ◌∙◌, arith}
use Rattle.std.specs.Option.{option_and_then}
use Rattle.std.proofs.lemmas.Bool.{cases_eq, cases_Bool, eqb-true, cond-true, cond-false, false_from_ne_true, false≢true}
use Rattle.std.proofs.lemmas.List.FromFn.{get_or-map-range_with_len, length-map-range_with_len}
use Rattle.std.proofs.lemmas.Option.{slice_get_cases, slice_get_within, MatchOption-at_none, MatchOption-at_some, none-some, same_Some}
use Rattle.terrain.specs.Neighbours.{is_place}
use Rattle.terrain.specs.declared.place.Place.{Place}
use Rattle.tiles.specs.declared.bounds.Bounds.{Bounds}
use Rattle.tiles.specs.Cutting.{Cutting, IsWithin, IsInTile, IsInBounds, tile_count, bounds_of, tile_of_place, is_in_bounds}
use Rattle.tiles.proofs.Cut.{in_bounds, in_tile, tile_of_place_below, in_bounds_parts, in_bounds_from}
use Rattle.drainage.specs.Following.{Directed, code_at, next, follow, moves, last_of, IsOutlet}
use Rattle.terrain.proofs.Listed.{is_place_from, place_is}
use Rattle.flow.specs.Streams.{AreStreams, AreEnds, next_node, node_after, end_of}
use Rattle.flow.specs.TileFlow.{Flow, stays, IsTileExits, IsExitOf, IsExitCell}
use Rattle.flow.specs.Whole.{is_outlet_code}
use Rattle.flow.specs.TileLinks.{without_counts}
use Rattle.tiles.specs.RimNumbers.{stride, side_number, rim_number_count, rim_number, rim_place}
use Rattle.flow.specs.RimGraph.{code_in, AreFlowsOf, exit_by, side_cell, next_in, target_in, target_by, targets_by, next_exit_by, number_or, rim_link, rim_links_by, rim_outlet, rim_outlets_by, outlet_by, AreOutlets}
use Rattle.flow.proofs.Ranges.{every_in_range}
use Rattle.flow.proofs.Moved.{next_touches}
use Rattle.flow.proofs.Ending.{IsStop, streams_from, node_after-first, node_after-inside}
use Rattle.terrain.proofs.Options.{cases_option}
use Rattle.flow.proofs.Coded.{IsCoded, cases_coded, coded_along, coded_inside, coded_from_some, none_stays, outlet_stays, follow_stays, follow_more, follow_first, StopsAt, stops_sooner, cycle_stops}
use Rattle.tiles.proofs.RimNumbered.{IsSide, side_back, side_below, no_wider, no_higher, number_below, number_back}
use Rattle.flow.proofs.RimCells.{IsCellOf, cell_from, cell_at, number_from_side, own_bounds}
use Rattle.std.proofs.lemmas.Nat.{div-mul-add, mod-mul-add, div-add-mod'}

pub outlet_from_code : (o : Option ℕ) → is_outlet_code o ≡ true → o ≡ Some 0
outlet_from_code None h = cc
outlet_from_code (Some n) h = cc (eqb-true _ _ h)

-- What `read` finds in the exits of p's tile, it finds in that tile's entry of `flows`.
pub read_of_tile : {X : Type 0} (read : Flow → Option X) → ((f : Flow) → read (without_counts f) ≡ read f) →
    (t : Cutting) (flows : List Flow) (p : Place) (tile : ℕ) (exits : Flow) (x : Option X) → tile ≡ tile_of_place t p →
    (f : Flow) × (slice_get flows tile ≡ Some f) × (without_counts exits ≡ without_counts f) → x ≡ read exits →
    x ≡ option_and_then read (slice_get flows (tile_of_place t p))
read_of_tile read same t flows p tile exits x at of value =
    value ∙ sym (same exits) ∙ ap read of.2 ∙ same _ ∙ ap (option_and_then read) (sym of.1 ∙ ap (slice_get flows) at)

-- On the rim, a place that is no outlet has the outlet listed for its rim number, if any.
pub outlet_listed : (t : Cutting) (flows : List Flow) (listed : List (Option Place)) (p : Place) →
    is_outlet_code (code_in t flows p) ≡ false → is_place (rim_place t (rim_number t p)) p ≡ true →
    outlet_by t flows listed p ≡ get_or listed (rim_number t p) None
outlet_listed t flows listed p f y = rw (f, y)

pub outlet_unlisted : (t : Cutting) (flows : List Flow) (listed : List (Option Place)) (p : Place) →
    is_outlet_code (code_in t flows p) ≡ false → is_place (rim_place t (rim_number t p)) p ≡ false →
    outlet_by t flows listed p ≡ None
outlet_unlisted t flows listed p f n = rw (f, n)

pub targets_size : (t : Cutting) (flows : List Flow) {targets : List (Option Place)} → targets ≡ targets_by t flows →
    length targets ≡ rim_number_count t
targets_size t flows made = ap length made ∙ length-map-range_with_len _ 0 _

pub target_listed : (t : Cutting) (flows : List Flow) {targets : List (Option Place)} → targets ≡ targets_by t flows →
    (i : ℕ) → i < rim_number_count t → get_or targets i None ≡ target_by t flows i
target_listed t flows made i h =
    cc (get_or-map-range_with_len (target_by t flows) 0 (rim_number_count t) i i None h (omega arith))

-- the target of a rim number is the entry read from a list of the targets
pub target_is : (t : Cutting) (flows : List Flow) {targets : List (Option Place)} {o : Option Place} →
    targets ≡ targets_by t flows → (i : ℕ) → i < rim_number_count t → get_or targets i None ≡ o →
    target_by t flows i ≡ o
target_is t flows made i h read = cc (target_listed t flows made i h)

pub target_in_tile : (t : Cutting) (flows : List Flow) (tile side : ℕ) (f : Flow) → side < stride (bounds_of t 0) →
    slice_get flows tile ≡ Some f → target_by t flows (tile * stride (bounds_of t 0) + side) ≡ target_in (bounds_of t 0)
    f side
target_in_tile t flows tile side f below is =
    let largest = bounds_of t 0 in
    let number = tile * stride largest + side in
    cc (div-mul-add tile (stride largest) side below, mod-mul-add tile (stride largest) side below)

module _ {d : Directed} {t : Cutting} {flows : List Flow} (s : AreFlowsOf d t flows) where
  pub within_of : {p : Place} → IsCoded d p → IsWithin t p
  within_of {p} is = let z = coded_inside is in
      omega arith

  stops_of : {p : Place} → IsCoded d p → StopsAt d p (moves d)
  stops_of {p} is = outlet_stays d _ (s.ends p _ is.is)

  pub last_same : {p e : Place} (k : ℕ) → IsCoded d p → follow d p k ≡ e → last_of d e ≡ last_of d p
  last_same {p} k is way =
      cc (follow_more d p k (moves d), follow_stays d p (moves d) (k + moves d) (omega arith) (stops_of is))

  last_here : (p : Place) → IsOutlet d p → last_of d p ≡ p
  last_here p out = follow_stays d p 0 _ (omega arith) (outlet_stays d p out)

  -- The flow of the tile of p.
  pub record HasFlow (p : Place) : Type 0 where
    pub flow : Flow
    pub is : slice_get flows (tile_of_place t p) ≡ Some flow
    pub right : IsTileExits d t (tile_of_place t p) flow

  pub flow_of : (p : Place) → IsWithin t p → HasFlow p
  flow_of p w = elim (slice_get_cases flows (tile_of_place t p)).1 [
    | inl r ↦ record { flow = r.0; is = r.2; right = s.of_tiles.each _ _ r.2 }
    | inr r ↦ absurd (omega (arith, tile_of_place_below t p s.cutting w))
  ]

  pub code_here : (p : Place) → IsWithin t p → code_in t flows p ≡ code_at d p
  code_here p w =
      let f = flow_of p w in
      cc (f.right.same_codes p (w, refl))

  next_here : {tile : ℕ} {f : Flow} (p : Place) → IsTileExits d t tile f → IsInTile t tile p → next_in f p ≡ next d p
  next_here p right i = cc (right.same_codes p i)

  -- A data cell whose direction leads into another tile.
  pub record LeavesTile (p : Place) : Type 0 where
    pub coded : IsCoded d p
    pub apart : tile_of_place t (next d p) ≢ tile_of_place t p

  on_side : (p : Place) → LeavesTile p → IsSide (own_bounds t p) p
  on_side p c a b e =
      let w = within_of c.coded in
      let i = in_bounds t _ p s.cutting (w, refl) in
      let below = tile_of_place_below t p s.cutting w in
      let touch = next_touches p (code_at d p) in
      elim (cases_eq (p.col + 1) ((own_bounds t p).left + (own_bounds t p).cols)) [
        | inl y ↦ y
        | inr ne ↦ absurd (c.apart (in_tile t _ _ s.cutting below (omega arith)).1)
      ]

  pub back : {p : Place} → LeavesTile p → rim_place t (rim_number t p) ≡ p
  back {p} c = number_back t s.cutting p (within_of c.coded) (on_side p c)

  abbrev going_out : Flow → Place → Option Place
  going_out f p = cond (is_in_bounds f.bounds (next_in f p)) None (Some (next_in f p))

  out_of_bounds : (p : Place) → LeavesTile p → is_in_bounds (own_bounds t p) (next d p) ≡ false
  out_of_bounds p c =
      let below = tile_of_place_below t p s.cutting (within_of c.coded) in
      false_from_ne_true _ (λ y. c.apart (in_tile t _ _ s.cutting below (in_bounds_parts _ _ y)).1)

  pub target_on : {p : Place} → LeavesTile p → target_by t flows (rim_number t p) ≡ Some (next d p)
  target_on {p} c =
      let w = within_of c.coded in
      let f = flow_of p w in
      let i = in_bounds t _ p s.cutting (w, refl) in
      let wide = no_wider t s.cutting _ in
      let high = no_higher t s.cutting _ in
      let side = side_number (bounds_of t 0) (own_bounds t p) p in
      let cell =
      ap (λ (b : Bounds). side_cell (bounds_of t 0) b side) f.right.bounds ∙
      cell_at (bounds_of t 0) (own_bounds t p) p i (side_back (bounds_of t 0) (own_bounds t p) p wide high i
      (on_side p c)) in
      let next_is = next_here p f.right (w, refl) in
      let out =
      ap (is_in_bounds f.flow.bounds) next_is ∙ ap (λ b. is_in_bounds b (next d p)) f.right.bounds ∙
      out_of_bounds p c in
      target_in_tile t flows _ side _ (side_below (bounds_of t 0) _ p wide high i) f.is ∙
      ap (option_and_then (going_out f.flow)) cell ∙ cond-false _ None _ out ∙ ap Some next_is

  pub record IsTarget (i : ℕ) (q : Place) : Type 0 where
    pub crosses : LeavesTile (rim_place t i)
    pub number : rim_number t (rim_place t i) ≡ i
    pub is : q ≡ next d (rim_place t i)

  crosses_from : (tile : ℕ) (p : Place) → IsInTile t tile p → is_in_bounds (bounds_of t tile) (next d p) ≡ false →
      LeavesTile p
  crosses_from tile p i f =
      let out : (IsInBounds (bounds_of t tile) (next d p) → ⊥) =
      λ inside. false≢true (sym f ∙ in_bounds_from _ _ inside) in
      elim (cases_coded d p) [
        | inl none ↦ absurd (out (rw (none_stays) (in_bounds t tile p s.cutting i)))
        | inr is ↦ record {
          coded = is;
          apart = λ same. out (in_bounds t tile _ s.cutting (within_of (coded_along s.ends is 1), cc));
        }
      ]

  target_of_cell : {i : ℕ} {p q : Place} → rim_place t i ≡ p → rim_number t p ≡ i → LeavesTile p → q ≡ next d p →
      IsTarget i q
  target_of_cell place number crosses is = record { crosses = rw place crosses; number = cc; is = cc }

  -- The target of a rim number is the place in another tile that its cell flows into.
  target_from_cell : (i : ℕ) {f : Flow} {p : Place} (q : Place) → IsTileExits d t (i / stride (bounds_of t 0)) f →
      i / stride (bounds_of t 0) < tile_count t → IsCellOf (bounds_of t 0) (bounds_of t (i / stride (bounds_of t 0)))
      (i % stride (bounds_of t 0)) p → going_out f p ≡ Some q → IsTarget i q
  target_from_cell i {f} {p} q right below cell goes =
      let here = in_tile t _ p s.cutting below cell.inside in
      let next_is = next_here p right here in
      elim (cases_Bool (is_in_bounds f.bounds (next_in f p))) [
        | inl y ↦ absurd (none-some q (sym (cond-true _ None _ y) ∙ goes))
        | inr out ↦ target_of_cell cell.place (number_from_side t _ p here cell.number ∙ div-add-mod' i _)
            (crosses_from _ p here (cc)) (sym (same_Some _ _ (sym (cond-false _ None _ out) ∙ goes)) ∙ next_is)
      ]

  pub target_from : (i : ℕ) (q : Place) → target_by t flows i ≡ Some q → IsTarget i q
  target_from i q e =
      let side : ℕ = i % stride (bounds_of t 0) in
      elim (cases_option (slice_get flows (i / stride (bounds_of t 0)))) [
        | inl none ↦ absurd (none-some q (sym (ap (option_and_then (λ (f : Flow). target_in (bounds_of t 0) f side))
            none) ∙ e))
        | inr f ↦ (let right = s.of_tiles.each _ _ f.1 in
            let below : i / stride (bounds_of t 0) < tile_count t = omega (arith, slice_get_within) in
            let at = sym (ap (option_and_then (λ f. target_in (bounds_of t 0) f side)) f.1) ∙ e in
            elim (cases_option (side_cell (bounds_of t 0) f.0.bounds side)) [
              | inl none ↦ absurd (none-some q (sym (ap (option_and_then (going_out f.0)) none) ∙ at))
              | inr p ↦ target_from_cell i q right below (cell_from _ _ side _ (cc))
                  (sym (ap (option_and_then (going_out f.0)) p.1) ∙ at)
            ])
      ]

  pub target_within : (i : ℕ) (q : Place) → target_by t flows i ≡ Some q → IsCoded d q × IsWithin t q
  target_within i q e =
      let x = target_from i q e in
      let is = rw (← x.is) at (coded_along s.ends x.crosses.coded 1) in
      (is, within_of is)

  pub targets_within : (i : ℕ) → IfSome (target_by t flows i) (IsWithin t)
  targets_within i = elim (cases_option (target_by t flows i)) [
    | inl none ↦ rw none tt
    | inr q ↦ rw q.1 (target_within i _ q.1).1
  ]

  -- e is the exit of q, by the flows and by the map of directions.
  pub record HasExit (q e : Place) : Type 0 where
    pub exit : exit_by t flows q ≡ Some e
    pub leads : IsExitOf d t q e
    pub out : next_exit_by t flows q ≡ cond (is_outlet_code (code_at d e)) None (Some e)

  pub exit_in_tile : {q : Place} (e : Place) → IsCoded d q → IsExitOf d t q e →
      IsCoded d e × (tile_of_place t e ≡ tile_of_place t q)
  exit_in_tile {q} e is x =
      let at : x.0 < x.0 + 1 = omega arith in
      let there =
      eqb-true _ _ (every_in_range (λ j. eqb (tile_of_place t (follow d q j)) (tile_of_place t q)) _ x.2 _ at) in
      (rw x.3 at (coded_along s.ends is x.0), cc)

  pub exit_of_exit : (e x : Place) → IsExitCell d t e → IsExitOf d t e x → x ≡ e
  exit_of_exit e x cell h = elim (cases_eq h.0 0) [
    | inl z ↦ cc
    | inr ne ↦ elim cell.1 [
      | inl out ↦ sym h.3 ∙ follow_stays d e 0 _ (omega arith) (outlet_stays d e out)
      | inr apart ↦ (let one : 1 < h.0 + 1 = omega arith in
          absurd (apart (eqb-true _ _ (every_in_range (λ j. eqb (tile_of_place t (follow d e j)) (tile_of_place t e)) _
          h.2 1 one))))
    ]
  ]

  pub exit_here : {q : Place} → IsCoded d q → (e : Place) × HasExit q e
  exit_here {q} is =
      let w = within_of is in
      let f = flow_of q w in
      let m = MatchOption-at_some _ _ _ is.is (f.right.each q (w, refl)) in
      let x = exit_in_tile _ is m.2 in
      let same = f.right.same_codes _ (within_of x.0, x.1) in (m.0, record { exit = cc; leads = m.2; out = cc })

  pub not_outlet : {e : Place} → LeavesTile e → is_outlet_code (code_at d e) ≡ false
  not_outlet {e} c = false_from_ne_true _ (λ y. c.apart (cc (outlet_stays d e (outlet_from_code (code_at d e) y))))

  pub next_exit_within : (q e : Place) → IsWithin t q → next_exit_by t flows q ≡ Some e → IsWithin t e
  next_exit_within q e w x = elim (cases_coded d q) [
    | inr is ↦ let y = exit_here is in elim (cases_Bool (is_outlet_code (code_at d y.0))) [
      | inl out ↦ absurd (none-some e (sym (cond-true _ None (Some y.0) out) ∙ sym y.1.out ∙ x))
      | inr goes ↦ rw (same_Some y.0 e (cc (cond-false _ None (Some y.0) goes))) at
          (within_of (exit_in_tile _ is y.1.leads).0)
    ]
    | inl none ↦ let f = flow_of q w in
        let m = MatchOption-at_none _ _ none (f.right.each q (w, refl)) in
        absurd (none-some e (cc))
  ]

  -- Rim number i has a next exit into another tile, `to`, and is linked to the rim number of `to`.
  pub record NextExit (i : ℕ) : Type 0 where
    pub to : Place
    pub crosses : LeavesTile to
    pub steps : ℕ
    pub still : stays d t (next d (rim_place t i)) steps ≡ true
    pub way : follow d (rim_place t i) (suc steps) ≡ to
    pub link : rim_link t flows i ≡ rim_number t to

  -- Rim number i is a last exit, linked to itself: its water ends at outlet `to` in the next tile.
  pub record LastExit (i : ℕ) : Type 0 where
    pub to : Place
    pub steps : ℕ
    pub way : follow d (rim_place t i) (suc steps) ≡ to
    pub outlet : IsOutlet d to
    pub exit : option_and_then (exit_by t flows) (target_by t flows i) ≡ Some to
    pub link : rim_link t flows i ≡ i

  abbrev link_by : ℕ → Option Place → ℕ
  link_by i o = number_or t i (option_and_then (next_exit_by t flows) o)

  pub next_or_last_exit : (i : ℕ) (q : Place) → target_by t flows i ≡ Some q → NextExit i ⊎ LastExit i
  next_or_last_exit i q e =
      let x = target_from i q e in
      let is = (target_within i q e).0 in
      let y = exit_here is in
      let leads = y.1.leads in
      let way = sym (ap (λ r. follow d r leads.0) x.is ∙ follow_first d (rim_place t i) leads.0) ∙ leads.3 in
      let link = ap (link_by i) e ∙ ap (number_or t i) y.1.out in
      elim leads.4.1 [
        | inl out ↦ inr (record {
          to = y.0;
          steps = leads.0;
          way = way;
          outlet = out;
          exit = ap (option_and_then (exit_by t flows)) e ∙ y.1.exit;
          link = link ∙ ap (number_or t i) (cond-true _ None (Some y.0) (ap is_outlet_code out));
        })
        | inr apart ↦ (let c : LeavesTile y.0 =
            record { coded = (exit_in_tile _ is leads).0; apart = apart } in
            inl (record {
              to = y.0;
              crosses = c;
              steps = leads.0;
              still = rw (← x.is) leads.2;
              way = way;
              link = link ∙ ap (number_or t i) (cond-false _ None (Some y.0) (not_outlet c));
            }))
      ]

  pub untargeted : (i : ℕ) → target_by t flows i ≡ None → rim_link t flows i ≡ i
  untargeted i e = cc

  pub to_below : {p : Place} → LeavesTile p → rim_number t p < rim_number_count t
  to_below {p} c = number_below t s.cutting p (within_of c.coded)

  no_cycle : (n : ℕ) {p e : Place} (k : ℕ) → follow d p (suc k) ≡ e → e ≡ p → LeavesTile p → StopsAt d p n → ⊥
  no_cycle n {p} k way same c stop = c.apart (cc (cycle_stops d n k (way ∙ same) stop))

  module _ {links : List ℕ} (made : links ≡ rim_links_by t flows) where
    pub links_size : length links ≡ rim_number_count t
    links_size = ap length made ∙ length-map-range_with_len _ 0 _

    pub link_at : (i : ℕ) → i < rim_number_count t → next_node links i ≡ rim_link t flows i
    link_at i h = cc (made, get_or-map-range_with_len (rim_link t flows) 0 (rim_number_count t) i i 0 h (omega arith))

    links_in : (i : ℕ) → i < rim_number_count t → next_node links i < rim_number_count t
    links_in i h = elim (cases_option (target_by t flows i)) [
      | inl none ↦ omega (arith, link_at, untargeted)
      | inr q ↦ elim (next_or_last_exit i q.0 q.1) [
        | inl g ↦ omega (arith, link_at, to_below g.crosses)
        | inr e ↦ omega (arith, link_at)
      ]
    ]

    stop_within : (n i : ℕ) → i < rim_number_count t → ((q : Place) → target_by t flows i ≡ Some q →
        StopsAt d (rim_place t i) n) → (m : ℕ) × IsStop links i m
    stop_within zero i h stop = elim (cases_option (target_by t flows i)) [
      | inl none ↦ (0, link_at i h ∙ untargeted i none)
      | inr q ↦ absurd ((target_from i _ q.1).crosses.apart (ap (tile_of_place t) (stop q.0 q.1)))
    ]
    stop_within (suc n) i h stop = elim (cases_option (target_by t flows i)) [
      | inl none ↦ (0, link_at i h ∙ untargeted i none)
      | inr q ↦ elim (next_or_last_exit i _ q.1) [
        | inr e ↦ (0, link_at i h ∙ e.link)
        | inl g ↦ (let there = subst (λ z. StopsAt d z n) (sym (back g.crosses))
            (stops_sooner d _ _ n g.way (stop q.0 q.1)) in
            let r = stop_within n _ (to_below g.crosses) (λ z e. there) in
            let same = ap (λ j. node_after links j r.0) (sym (link_at i h ∙ g.link)) ∙ node_after-first links i r.0 in
            (suc r.0, sym (ap (next_node links) same) ∙ r.1 ∙ same))
      ]
    ]

    pub rim_streams : AreStreams links
    rim_streams = streams_from links (λ i h. omega (arith, links_in, links_size))
        (λ i h. stop_within _ i (omega (arith, links_size)) (λ q e. stops_of (target_from i q e).crosses.coded))

    -- Rim number j has a target, and the flow paths of its cell and of the cell of i end at one
    -- outlet.
    record SharesOutlet (i j : ℕ) : Type 0 where
      pub entry : Place
      pub target : target_by t flows j ≡ Some entry
      pub last : last_of d (rim_place t j) ≡ last_of d (rim_place t i)

    step_on : {i j : ℕ} → j < rim_number_count t → SharesOutlet i j → SharesOutlet i (next_node links j)
    step_on {j = j} h o =
        let c = (target_from j _ o.target).crosses in
        elim (next_or_last_exit j _ o.target) [
          | inr e ↦ rw (link_at j h ∙ e.link) o
          | inl g ↦ rw (link_at j h ∙ g.link) (record {
            entry = next d _;
            target = target_on g.crosses;
            last = cc (back g.crosses, last_same (suc g.steps) c.coded g.way);
          })
        ]

    on_way : (i : ℕ) → i < rim_number_count t → (q : Place) → target_by t flows i ≡ Some q → (k : ℕ) →
        SharesOutlet i (node_after links i k)
    on_way i h q e zero = record { entry = q; target = e; last = refl }
    on_way i h q e (suc k) =
        step_on (omega (arith, node_after-inside rim_streams i (omega (arith, links_size)) k, links_size))
        (on_way i h q e k)

    module _ {ends : List ℕ} (found : AreEnds links ends) where
      -- If water leaves its tile at rim number i, `rim_outlet` finds the water's outlet from the
      -- end of i's path along links.
      pub outlet_of : (i : ℕ) → i < rim_number_count t → (q : Place) → target_by t flows i ≡ Some q →
          rim_outlet t flows ends i ≡ Some (last_of d (rim_place t i))
      outlet_of i h q e =
          let here : i < length links = omega (arith, links_size) in
          let below : end_of links i < rim_number_count t =
          omega (arith, node_after-inside rim_streams i here (length links), links_size) in
          let o = on_way i h q e _ in
          let c = (target_from _ _ o.target).crosses in
          let first =
          ap (option_and_then (λ (y : Place). option_and_then (exit_by t flows) (target_by t flows (get_or ends i 0))))
          e ∙ ap (λ n. option_and_then (exit_by t flows) (target_by t flows n)) (found.each i here) in
          elim (next_or_last_exit _ _ o.target) [
            | inr x ↦ first ∙ x.exit ∙ ap Some (sym (last_here x.to x.outlet) ∙ last_same (suc x.steps) c.coded x.way ∙
                o.last)
            | inl g ↦ (let same = sym (link_at (end_of links i) below ∙ g.link) ∙ rim_streams.ends i here in
                absurd (no_cycle _ _ g.way (sym (back g.crosses) ∙ ap (rim_place t) same) c (stops_of c.coded)))
          ]

      module _ {outlets : List (Option Place)} (listed : outlets ≡ rim_outlets_by t flows ends) where
        listed_at : (i : ℕ) → i < rim_number_count t → get_or outlets i None ≡ rim_outlet t flows ends i
        listed_at i h = cc (
          listed,
          get_or-map-range_with_len (rim_outlet t flows ends) 0 (rim_number_count t) i i None h (omega arith),
        )

        exit_outlet : (p : Place) → IsExitCell d t p → outlet_by t flows outlets p ≡ Some (last_of d p)
        exit_outlet p x =
            let is = coded_from_some d p x.0 in
            let w = within_of is in
            elim x.1 [
              | inl out ↦ cond-true _ _ _ (ap is_outlet_code (code_here p w ∙ out)) ∙ ap Some (sym (last_here p out))
              | inr apart ↦ (let c : LeavesTile p = record { coded = is; apart = apart } in
                  cc (
                    outlet_listed t flows outlets p (ap is_outlet_code (code_here p w) ∙ not_outlet c)
                        (is_place_from _ _ (back c)),
                    listed_at (rim_number t p) (to_below c),
                    outlet_of (rim_number t p) (to_below c) (next d p) (target_on c),
                    back c,
                  ))
            ]

        no_exit_outlet : (p : Place) → IsWithin t p → (IsExitCell d t p → ⊥) → outlet_by t flows outlets p ≡ None
        no_exit_outlet p w out =
            let off = false_from_ne_true _ (λ y.
            let o = outlet_from_code _ (sym (ap is_outlet_code (code_here p w)) ∙ y) in
            out (ap is_some o, inl o)) in
            elim (cases_Bool (is_place (rim_place t (rim_number t p)) p)) [
              | inr f ↦ outlet_unlisted t flows outlets p off f
              | inl y ↦ outlet_listed t flows outlets p off y ∙ listed_at _ (number_below t s.cutting p w) ∙
                  elim (cases_option (target_by t flows (rim_number t p))) [
                    | inl none ↦ ap (option_and_then (λ (z : Place). option_and_then (exit_by t flows)
                        (target_by t flows (get_or ends (rim_number t p) 0)))) none
                    | inr q ↦ let c = subst (λ z. LeavesTile z) (place_is _ _ y) (target_from _ _ q.1).crosses in
                        absurd (out (ap is_some c.coded.is, inr c.apart))
                  ]
            ]

        pub outlets_are : AreOutlets d t flows (record { cutting = t; listed = outlets })
        outlets_are = record { outlets = exit_outlet; no_outlets = no_exit_outlet }
