-- Water passes between two labels at the height at which cells of theirs meet: joins over rims, and
-- meetings in a tile. So crests found over such joins are levels at which water leaves.
use Rattle.std.proofs.Common.{◌≡◌, ℕ, ◌+◌, ◌-◌, ◌<◌, ◌≤◌, inl, inr, ℤ, ◌≤ℤ◌, List, [], ◌∷◌, length, get_or, map, Option, None, Some, sym, ap, subst, refl, ◌∙◌, arith}
use Rattle.std.specs.Prelude.{slice_get, option_and_then}
use Rattle.std.specs.Int.{int_max}
use Rattle.std.specs.List.{All, Contains}
use Rattle.std.proofs.lemmas.Bool.{cases_lt}
use Rattle.std.proofs.lemmas.List.{get_or_append_left, get_or-append_right}
use Rattle.std.proofs.lemmas.Option.{MatchOption-at_some, same_Some, slice_get_read, slice_get_within}
use Rattle.std.proofs.lemmas.List.Elements.{All-contains, All-map}
use Rattle.terrain.specs.Raster.{Terrain}
use Rattle.terrain.specs.Neighbours.{IsDataCell, IsNeighbour}
use Rattle.terrain.specs.declared.place.Place.{Place}
use Rattle.terrain.proofs.Heights.{height_is}
use Rattle.terrain.proofs.Options.{cases_option, none_some}
use Rattle.terrain.proofs.Orders.{le_of_same, max_left, max_right, trans}
use Rattle.tiles.specs.Cutting.{Cutting, tile_of_place}
use Rattle.tiles.proofs.Cut.{in_tile}
use Rattle.tiles.proofs.TileOrder.{bounds_from_entry}
use Rattle.cell_floods.specs.TileFlood.{AreEndHeights, Flood, IsMeeting, level_in, label_in}
use Rattle.cell_floods.specs.declared.tile.Meeting.{Meeting}
use Rattle.floods.proofs.Heaps.{all_by_contains, cons_head, cons_tail}
use Rattle.fill.specs.Crests.{AreCrests, ArePassages, HasNoCrestWithoutPlace, IsPassage, Leaves, numbered as join_of_meeting}
use Rattle.fill.specs.Gathering.{AddsMeetings, Meets, cell_label_among}
use Rattle.fill.specs.Numbers.{ends_of, first_of, places_of}
use Rattle.fill.specs.SpillGraph.{AreFloods, label_among, level_among}
use Rattle.fill.specs.declared.spill_graph.Join.{Join}
use Rattle.fill.specs.declared.cell_labels.CellLabel.{CellLabel}
use Rattle.fill.proofs.CellLabels.{labelled_within, some_below}
use Rattle.fill.proofs.LabelNets.{among_is, has_tile_level, level_has_data, level_high, low_at_label, low_from_label, low_step, neighbour_back}
use Rattle.fill.proofs.Numbered.{AreLawful, fit_of, number_label, numbered, place_at}

module _ (t : Terrain) (c : Cutting) (floods : List Flood) (are : AreFloods t c floods) where
  abbrev places : List (Option Place)
  places = places_of floods

  -- Water that leaves the label `b` of cell q at a level as high as two neighbours p and q leaves the
  -- label `a` of p.
  pass_over : {p q : Place} (a b : ℕ) {from to : ℤ} (level : ℤ) → IsNeighbour t p q →
      level_among c floods p ≡ Some from → level_among c floods q ≡ Some to →
      label_among c floods p ≡ get_or places a None → label_among c floods q ≡ get_or places b None → from ≤ℤ level →
      to ≤ℤ level → Leaves t places b level → Leaves t places a level
  pass_over {p} {q} a b {from} {to} level next from_is to_is a_is b_is from_low to_low leaves =
      let x = has_tile_level t are.lawful are p next.from_data in
      let y = has_tile_level t are.lawful are q next.to_data in
      let x_low = subst (λ z. z ≤ℤ level) (same_Some from x.level (cc)) from_low in
      let same = same_Some leaves.0 y.label (cc) in
      let at_q =
      low_from_label t c y.right level (subst (λ z. z ≤ℤ level) (same_Some to y.level (cc)) to_low)
      (rw same at leaves.2) in (
        x.label,
        cc,
        low_at_label t c x.right level x_low (low_step t level next (trans _ _ _ (level_high t c x.right) x_low) at_q),
      )

  passage : {p q : Place} (j : Join) {from to : ℤ} → IsNeighbour t p q → level_among c floods p ≡ Some from →
      level_among c floods q ≡ Some to → label_among c floods p ≡ get_or places j.from None →
      label_among c floods q ≡ get_or places j.to None → int_max from to ≡ j.height → IsPassage t places j
  passage j {from} {to} next from_is to_is a_is b_is greater level high =
      let most = trans _ _ _ (le_of_same _ _ greater) high in
      let from_low = trans _ _ _ (max_left from to) most in
      let to_low = trans _ _ _ (max_right from to) most in (
        pass_over _ _ level (neighbour_back t next) to_is from_is b_is a_is to_low from_low,
        pass_over _ _ level next from_is to_is a_is b_is from_low to_low,
      )

  -- Adding joins of cells to passages gives passages.
  pub passes_added : (old new : List Join) → AreLawful floods → AddsMeetings c floods old new →
      ArePassages t places old → ArePassages t places new
  passes_added old new lawful adds all = all_by_contains (IsPassage t places) new (λ j there. elim (adds j there) [
    | inl was ↦ All-contains (IsPassage t places) old j all was
    | inr m ↦ meeting m.0 m.1 j m.2
  ])
    where
      has_data : (r : Place) (n : CellLabel) → cell_label_among c floods r ≡ Some n → IsDataCell t r
      has_data r n is =
          level_has_data t are.lawful are r (labelled_within c floods r are.lawful (fit_of are) is)
          (numbered c floods r lawful is).level_is

      meeting : (p q : Place) (j : Join) → Meets (cell_label_among c floods) p q j → IsPassage t places j
      meeting p q j meets =
          let x = numbered c floods p lawful meets.from_is in
          let y = numbered c floods q lawful meets.to_is in
          passage j (record {
            different =
                λ e. meets.different
                (ap (λ z. z.node) (same_Some _ _ (sym meets.from_is ∙ ap (cell_label_among c floods) e ∙ meets.to_is)));
            touches = meets.touches;
            from_data = has_data p _ meets.from_is;
            to_data = has_data q _ meets.to_is;
          }) x.level_is y.level_is (cc (number_label c floods p x)) (cc (number_label c floods q y)) meets.greater

  module _ (tile : ℕ) (f : Flood) (there : slice_get floods tile ≡ Some f) where
    among : {X : Type 0} (look : Flood → Option X) (p : Place) {l : ℤ} → level_in f p ≡ Some l →
        option_and_then look (slice_get floods (tile_of_place c p)) ≡ look f
    among look p {l} is =
        let low = slice_get_within floods tile f there in
        let inside =
        in_tile c tile p are.lawful (omega arith)
        (rw (are.each tile f there).bounds at (bounds_from_entry f.bounds f.levels p l is)) in
        among_is look floods (tile_of_place c p) (ap (slice_get floods) inside.1 ∙ there)

    has_data : (p : Place) (l : ℤ) → level_in f p ≡ Some l → IsDataCell t p
    has_data p l level =
        level_has_data t are.lawful are p
        (in_tile c tile p are.lawful (omega (arith, are.count, slice_get_within floods tile f there))
        (rw (are.each tile f there).bounds at (bounds_from_entry _ _ p l level))).0 (among _ p level ∙ level)

    entry_below : (p : Place) {l : ℤ} (k : ℕ) → level_in f p ≡ Some l → label_in f p ≡ get_or f.table.places k None →
        k < length f.table.places
    entry_below p {l} k level label =
        some_below _ k
        (sym label ∙ sym (among _ p level) ∙ (has_tile_level t are.lawful are p (has_data p l level)).label_is)

    meeting_pass : {m : Meeting} → IsMeeting t f m → IsPassage t places (join_of_meeting (first_of floods tile) m)
    meeting_pass {m} x =
        passage _ x.neighbours (among _ _ x.from_is ∙ x.from_is) (among _ _ x.to_is ∙ x.to_is)
        (cc (among _ _ x.from_is, place_at floods tile _ there (entry_below _ _ x.from_is x.from_label)))
        (cc (among _ _ x.to_is, place_at floods tile _ there (entry_below _ _ x.to_is x.to_label))) x.greater

    pub tile_passes : (met : List Meeting) → All (IsMeeting t f) met →
        ArePassages t places (map (join_of_meeting (first_of floods tile)) met)
    tile_passes met all =
        All-map (IsPassage t places) (join_of_meeting (first_of floods tile)) met
        (λ i d low. meeting_pass (all i d low))

    -- The numbers of a tile's meetings fit in 32 bits.
    pub meetings_few : (met : List Meeting) → All (IsMeeting t f) met →
        first_of floods tile + length f.table.places ≤ 4294967295 →
        All (λ (m : Meeting). (first_of floods tile + m.from ≤ 4294967295) × (first_of floods tile + m.to ≤ 4294967295))
        met
    meetings_few met all few i d low =
        let x = all i d low in
        let m = get_or met i d in
        let from = entry_below _ _ x.from_is x.from_label in
        let to = entry_below _ _ x.to_is x.to_label in
        (omega arith, omega arith)

  -- A label that is an end cell has its height as crest.
  end_leaves : (fs : List Flood) → ((f : Flood) → Contains fs f → AreEndHeights t f.table.places f.ends) →
      (a : ℕ) (h : ℤ) → get_or (ends_of fs) a None ≡ Some h → Leaves t (places_of fs) a h
  end_leaves [] each a h some = absurd cc
  end_leaves (f ∷ rest) each a h some =
      let own = each f (cons_head f rest) in
      elim (cases_lt a (length f.ends)) [
        | inl low ↦ at a a h _ _ (get_or_append_left f.table.places (places_of rest) None a (omega arith))
            (label_at f own a h (sym (get_or_append_left f.ends (ends_of rest) None a low) ∙ some))
        | inr past ↦ at a (a - length f.ends) h _ _
            (get_or-append_right f.table.places (places_of rest) (length f.ends) a None (cc) past)
            (end_leaves rest (λ g there. each g (cons_tail f rest g there)) (a - length f.ends) h
            (sym (get_or-append_right f.ends (ends_of rest) (length f.ends) a None refl past) ∙ some))
      ]
    where
      label_at : (f : Flood) → AreEndHeights t f.table.places f.ends → (k : ℕ) (h : ℤ) → get_or f.ends k None ≡ Some h →
          Leaves t f.table.places k h
      label_at f are_ends k h some = elim (cases_option (get_or f.table.places k None)) [
        | inl none ↦ none_some (get_or f.ends k None) h (are_ends.none k none) some
        | inr label ↦
            let end = MatchOption-at_some _ _ h some (are_ends.each k label.0 label.1) in
            (label.0, label.1, ([], end.0, le_of_same _ _ (height_is t label.0 h end.1)))
      ]

      at : (a k : ℕ) (h : ℤ) (xs ys : List (Option Place)) → get_or xs a None ≡ get_or ys k None → Leaves t ys k h →
          Leaves t xs a h
      at a k h xs ys same leaves = (leaves.0, cc, leaves.2)

  pub ends_leave : {ends : List (Option ℤ)} → ends ≡ ends_of floods → AreCrests t places ends
  ends_leave is a h some =
      end_leaves floods (λ f at. (are.each at.0 f (slice_get_read floods _ at.0 f refl at.1 (sym at.2))).ends) a h (cc)

  -- A number without a place has no crest.
  pub bare_crests : (crests : List (Option ℤ)) → AreCrests t places crests → HasNoCrestWithoutPlace places crests
  bare_crests crests all a none = elim (cases_option _) [
    | inl lacks ↦ lacks
    | inr some ↦
        let leaves = all a some.0 some.1 in
        none_some _ _ none leaves.1
  ]
