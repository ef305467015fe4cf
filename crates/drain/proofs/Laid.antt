-- The direction of a data cell by the eight heights around it and by the steps of its neighbours. So
-- it is `direction_of` its surroundings: heights and steps of the cell and its neighbours, and
-- whether it is an end cell.
use Rattle.std.proofs.Common.{◌≡◌, ℕ, ◌+◌, ◌*◌, ◌<◌, ◌≤◌, ◌<ℤ◌, ◌-ℤ◌, inl, inr, true, ltb, cond, max, fold, List, [], ◌∷◌, length, get_or, map, Option, None, Some, is_some, ℤ, sym, ap, refl, ◌∙◌, arith}
use Rattle.std.proofs.lemmas.Bool.{cases_Bool, cases_lt, and_from, eq-eqb, lt-ltb, cond-true, false≢true}
use Rattle.std.proofs.lemmas.Bool.Decides.{Decides-int_eq}
use Rattle.std.proofs.lemmas.List.{get_or_past, get_or-map}
use Rattle.std.proofs.lemmas.List.Folds.{list_any_at}
use Rattle.std.proofs.lemmas.List.Quantifiers.{position-Some}
use Rattle.std.proofs.lemmas.Option.{none-some, option_and_then_some, same_Some}
use Rattle.std.specs.Int.{int_gap}
use Rattle.std.specs.List.{list_any}
use Rattle.std.specs.Option.{option_map}
use Rattle.terrain.proofs.Heights.{height_in, height_is}
use Rattle.terrain.specs.Raster.{Terrain, IsTerrain, IsHeight}
use Rattle.terrain.specs.Neighbours.{height_at, entry_at, IsDataCell, height_of}
use Rattle.terrain.specs.Ways.{place_on, entry_on, code_of}
use Rattle.terrain.specs.declared.place.Place.{Place}
use Rattle.drain.specs.Steps.{IsLower, HasLower, DrainsAtOnce, IsFlatWalk, IsSteps, AreSteps}
use Rattle.drain.specs.Steepness.{weight, weights, positive_part, drop_to, leads_on, direction_of}
use Rattle.drain.specs.Drops.{HasHeights, HasNoWayDown, IsSteepestWay, drop_by, drop_on, weight_on}
use Rattle.drain.specs.Fitting.{IsFitting, IsLaidAround, IsAround}
use Rattle.drain.specs.Directions.{weight_of, IsSteepest, IsOnward, PointsToFirst, IsDirection, IsCodeAt}
use Rattle.drain.specs.declared.around.Around.{Around}
use Rattle.drain.proofs.AroundLemmas.{on_way, positive_part-below, gap-below, steps_at, some_drop, some_onward, zip_heights}
use Rattle.drain.proofs.Counted.{height_is as data_height}
use Rattle.drain.proofs.Greatest.{first_passes}
use Rattle.drain.proofs.Local.{one_number_of_steps}
use Rattle.drain.proofs.Nearby.{drains_at_once}
use Rattle.drain.proofs.Pointing.{way_toward, codes_rise, next_on_way}
use Rattle.drain.proofs.Quiet.{if_some, ended}
use Rattle.drain.proofs.Steepest.{direction_down, direction_flat, direction_onward, drop_is, flat_from, some_steepest}
use Rattle.terrain.proofs.EightWays.{along, way_to, toward-code}

-- the code of a way points first to such a place, if no earlier way leads to one
points_first : (IsSuch : Place → Type 0) (p q : Place) (way : ℕ) → way < 8 → place_on way p ≡ Some q →
    IsSuch q → ((k : ℕ) (r : Place) → k < 8 → place_on k p ≡ Some r → IsSuch r → way ≤ k) →
    PointsToFirst IsSuch p (code_of (Some way))
points_first IsSuch p q way below e such first = record {
  one = (q, toward-code p way below ∙ e, such);
  first = λ other r at is.
      let k = way_toward p r other at in
      omega (arith, codes_rise way k.0 (first k.0 r k.1 k.3 is) k.1, k.2);
}

-- The cell has height `level`, and `heights` are those on the eight ways.
module _ (t : Terrain) (p : Place) (level : ℤ) (heights : List (Option ℤ))
    (high : height_at t p ≡ Some level) (on : (way : ℕ) → way < 8 →
    get_or heights way None ≡ entry_on t.cols t.rows t.cells way p) where
  here : height_of t p ≡ level
  here = height_is t p level high

  -- the weight on the way to a lower neighbour q is `weight_of t p q`
  weighs : (q : Place) (way : ℕ) → way < 8 → place_on way p ≡ Some q → IsLower t p q →
      (weight_on level heights way ≡ weight_of t p q) × (0 < drop_on level heights way)
  weighs q way below e (next, less) =
      let h = height_of t q in
      let lower : h <ℤ level = rw here at less in
      let drop : drop_on level heights way ≡ positive_part (level -ℤ h) =
      ap (drop_by level) ((rw e at (on way below)) ∙ data_height t q next.to_data) in
      let gap = int_gap h (height_of t p) in
      let is : drop_on level heights way ≡ gap = drop ∙ gap-below level h lower
      ∙ ap (λ z. int_gap h z) (sym here) in
      let whole : weight_of t p q ≡ weight way gap =
      ap (λ b. cond b (2 * (gap * gap)) (gap * gap)) (along p q way below e) in
      (ap (weight way) is ∙ sym whole, omega (arith, drop, positive_part-below level h lower))

  pub lower_drops : (q : Place) → IsLower t p q → (way : ℕ) × (way < 8) × (0 < drop_on level heights way)
  lower_drops q lower = let way = way_to p q lower.0.touches lower.0.different in
      (way.0, way.1, (weighs q way.0 way.1 way.2 lower).1)

  no_lower : HasNoWayDown level heights → HasLower t p → ⊥
  no_lower none (q, lower) = let way = lower_drops q lower in omega (arith, none.each way.0 way.1, way.2)

  -- a way with a drop leads to a lower neighbour
  lower_on : (way : ℕ) → way < 8 → 0 < drop_on level heights way →
      (q : Place) × (place_on way p ≡ Some q) × IsLower t p q
  lower_on way below some =
      let w = some_drop (get_or heights way None) level some in
      option_and_then_some (λ q. entry_at t.cols t.rows t.cells q) (place_on way p) w.0
      (sym (on way below) ∙ w.1) (λ q e there. (
        q,
        e,
        (
          next_on_way t p q way below e (ap is_some high) (ap is_some there),
          rw (height_is t q w.0 there) (rw here w.2),
        ),
      ))

  pub down_is : (way : ℕ) → IsSteepestWay level heights way → IsDirection t p (code_of (Some way))
  down_is way is =
      let q = lower_on way is.below is.down in
      let own = weighs q.0 way is.below q.1 q.2 in
      record {
        steepest = λ _. points_first (IsSteepest t p) p q.0 way is.below q.1 (
          q.2,
          λ r lower.
              let k = way_to p r lower.0.touches lower.0.different in
              omega (arith, (weighs r k.0 k.1 k.2 lower).0, is.bound k.0 k.1, own.0),
        )
            (λ k r below e such. elim (cases_lt k way) [
              | inl less ↦ absurd
                  (omega (arith, is.first k less, (weighs r k below e such.0).0, such.1 q.0 q.2, own.0))
              | inr after ↦ after
            ]);
        outlet = λ high. absurd (high (q.0, q.2));
        onward = λ stays. absurd (stays (inl (q.0, q.2)));
      }

  pub outlet_is : HasNoWayDown level heights → DrainsAtOnce t p → IsDirection t p 0
  outlet_is none drains = record {
    steepest = λ lower. absurd (no_lower none lower);
    outlet = λ _ _. refl;
    onward = λ stays. absurd (stays drains);
  }

-- q has the height of p and one step fewer than n.
abbrev pub LeadsOn : Terrain → List (Option ℕ) → Place → ℕ → Place → Type 0
LeadsOn t steps p n q = (height_at t q ≡ height_at t p) × (m : ℕ)
    × (entry_at t.cols t.rows steps q ≡ Some m) × (m + 1 ≡ n)

-- The data cell p has n steps.
module _ {t : Terrain} {steps : List (Option ℕ)} (p : Place) (n : ℕ) (are : AreSteps t steps)
    (is_data : IsDataCell t p) (count : entry_at t.cols t.rows steps p ≡ Some n) where
  own : IsSteps t p n
  own = let m = steps_at p are is_data in
      rw (same_Some _ _ (sym m.1 ∙ count)) at m.2

  pub without_steps : n ≡ 0 → DrainsAtOnce t p
  without_steps none = ended (DrainsAtOnce t) t p own.reached.0 own.reached.1 (own.reached.2 ∙ none)

  pub with_steps : 0 < n → DrainsAtOnce t p → ⊥
  with_steps some drains = let least : n ≤ length {A = Place} [] = own.least [] drains in
      omega (arith, some, least)

  such_leads : (q : Place) → IsOnward t p q → LeadsOn t steps p n q
  such_leads q (next, level, m, there, above) =
      let at = steps_at q are next.to_data in (
        level,
        at.0,
        at.1,
        omega (
          arith,
          one_number_of_steps at.2 there,
          one_number_of_steps above own,
        ),
      )

  pub onward_is : (q : Place) (way : ℕ) → way < 8 → place_on way p ≡ Some q → LeadsOn t steps p n q →
      ((k : ℕ) (r : Place) → k < 8 → place_on k p ≡ Some r → LeadsOn t steps p n r → way ≤ k) →
      (DrainsAtOnce t p → ⊥) → IsDirection t p (code_of (Some way))
  onward_is q way below e (level, m, there, one) first stays =
      let next = next_on_way t p q way below e is_data (ap is_some level ∙ is_data) in
      let at = steps_at q are next.to_data in
      let same : n ≡ at.0 + 1 = sym (ap (λ k. k + 1) (same_Some _ _ (sym at.1 ∙ there)) ∙ one) in
      record {
        steepest = λ lower. absurd (stays (inl lower));
        outlet = λ _ end. absurd (stays (inr end));
        onward = λ _. points_first (IsOnward t p) p q way below e
            (next, level, at.0, at.2, rw same at own)
            (λ k r small on such. first k r small on (such_leads r such));
      }

  leads_by : (rest : List Place) → IsFlatWalk t p rest → length rest ≡ n → (DrainsAtOnce t p → ⊥) →
      (q : Place) × (way : ℕ) × (way < 8) × (place_on way p ≡ Some q) × LeadsOn t steps p n q
  leads_by [] walk size stays = absurd (stays walk)
  leads_by (q ∷ rest) walk size stays =
      let m = steps_at q are walk.0.to_data in
      let way = way_to p q walk.0.touches walk.0.different in
      let under : m.0 ≤ length rest = m.2.least rest walk.2 in
      let above : n ≤ length (q ∷ m.2.reached.0) =
      own.least (q ∷ m.2.reached.0) (walk.0, walk.1, m.2.reached.1) in
      (q, way.0, way.1, way.2, (walk.1, m.0, m.1, omega (arith, under, above, m.2.reached.2, size)))

  pub leads : (DrainsAtOnce t p → ⊥) →
      (q : Place) × (way : ℕ) × (way < 8) × (place_on way p ≡ Some q) × LeadsOn t steps p n q
  leads stays = leads_by own.reached.0 own.reached.1 own.reached.2 stays

module _ {t : Terrain} {steps : List (Option ℕ)} {p : Place} {a : Around} (are : AreSteps t steps)
    (laid : IsLaidAround t steps p a) where
  is_data : IsDataCell t p
  is_data = ap is_some laid.level

  heights : List (Option ℤ)
  heights = map (λ o. option_map (λ w. w.0) o) a.ways

  has : HasHeights a a.level heights
  unfolding heights
  has = record {
    own_level = refl;
    count = laid.count;
    each = λ way below. get_or-map (λ o. option_map (λ w. w.0) o) a.ways way None None
        (omega (arith, laid.count, below));
  }

  on : (way : ℕ) → way < 8 → get_or heights way None ≡ entry_on t.cols t.rows t.cells way p
  on way below = has.each way below ∙ ap (λ o. option_map (λ w. w.0) o) (laid.ways way below)
      ∙ zip_heights t steps (place_on way p) are

  leading : (way : ℕ) → way < 8 → leads_on a (get_or a.ways way None) ≡ true →
      (q : Place) × (place_on way p ≡ Some q) × LeadsOn t steps p a.steps q
  leading way below e =
      let w = some_onward a (get_or a.ways way None) e in
      let q = on_way t steps p a way w.0 laid below w.1 in
      (q.0, q.1, (q.2 ∙ ap Some w.2 ∙ sym laid.level, w.0.1, q.3, w.3))

  leads_to : (way : ℕ) (q : Place) → way < 8 → place_on way p ≡ Some q → LeadsOn t steps p a.steps q →
      leads_on a (get_or a.ways way None) ≡ true
  leads_to way q below e (level, m, there, one) =
      rw (rw (e, level ∙ laid.level, there) at (laid.ways way below))
      (and_from _ _ ((Decides-int_eq a.level a.level).1 refl) (eq-eqb _ _ one))

  leads_any : (DrainsAtOnce t p → ⊥) → list_any (leads_on a) a.ways ≡ true
  leads_any stays = let q = leads p a.steps are is_data laid.own_steps stays in
      list_any_at (leads_on a) a.ways q.1 None (omega (arith, laid.count, q.2)) (leads_to q.1 q.0 q.2 q.3 q.4)

  drops : HasLower t p → list_any (λ w. ltb 0 (drop_to a.level w)) a.ways ≡ true
  drops (q, lower) =
      let way = lower_drops t p a.level heights laid.level on q lower in
      list_any_at (λ w. ltb 0 (drop_to a.level w)) a.ways way.0 None (omega (arith, laid.count, way.1))
      (lt-ltb _ _ (omega (arith, drop_is has way.0 way.1, way.2)))

  pub fitting : IsTerrain t → IsAround t steps p a → IsFitting a
  fitting lawful around = record {
    level = height_in t p a.level lawful laid.level;
    ways = λ way.
        if_some (get_or a.ways way None) (λ w. IsHeight w.0) (λ w e. elim (cases_lt way 8) [
          | inl below ↦
              (let at = on_way t steps p a way w laid below e in height_in t at.0 w.0 lawful at.2)
          | inr past ↦
              absurd (none-some w (sym (get_or_past a.ways way None (omega (arith, laid.count, past)))
              ∙ e))
        ]);
    drains = elim (drains_at_once t p) [
      | inl now ↦ elim now [
        | inl lower ↦ inr (inl (drops lower))
        | inr end ↦ inl (around.edge.1 end)
      ]
      | inr later ↦ inr (inr (leads_any later))
    ];
  }

  direction_by : IsAround t steps p a → IsDirection t p (direction_of a)
  direction_by around = elim (cases_lt 0 (fold max 0 (weights a))) [
    | inl some ↦
        (let way = some_steepest has some in
        rw (direction_down has way.0 way.1) (down_is t p a.level heights laid.level on way.0 way.1))
    | inr none ↦
        (let flat = flat_from has none in
        elim (cases_Bool a.edge) [
          | inl end ↦ rw (direction_flat has flat ∙ cond-true _ _ _ end)
              (outlet_is t p a.level heights laid.level on flat (inr (around.edge.0 end)))
          | inr off ↦
              (let stays : DrainsAtOnce t p → ⊥ = λ drains. elim drains [
                | inl lower ↦ no_lower t p a.level heights laid.level on flat lower
                | inr end ↦ false≢true (sym off ∙ around.edge.1 end)
              ] in
              let way = first_passes (leads_on a) a.ways None (leads_any stays) in
              let found = position-Some (leads_on a) a.ways way.0 None way.1 in
              let below : way.0 < 8 = omega (arith, found.0, laid.count) in
              let q = leading way.0 below found.1 in
              rw (direction_onward has way.0 flat off way.1) (onward_is p a.steps are is_data laid.own_steps q.0 way.0
              below q.1 q.2
              (λ k r small e such. elim (cases_lt k way.0) [
                | inl less ↦ absurd (false≢true (sym (found.2 k less) ∙ leads_to k r small e such))
                | inr after ↦ after
              ]) stays))
        ])
  ]

pub direction_is : {t : Terrain} {steps : List (Option ℕ)} {p : Place} {a : Around} →
    AreSteps t steps → IsAround t steps p a → IsDirection t p (direction_of a)
direction_is are around = direction_by are around.laid around

pub code_is : (t : Terrain) (p : Place) (level : ℤ) (code : ℕ) → height_at t p ≡ Some level →
    IsDirection t p code → IsCodeAt t p (Some code)
code_is t p level code e is =
    rw e (code, refl, is)
