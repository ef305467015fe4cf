-- The steepest way has the greatest drop on the even ways, along a row or column, or that on the
-- odd ways, the diagonals. The drop of greater weight decides, of equal ones the first. Ways are the
-- directions, 0 to 7 in code order.
use Rattle.std.proofs.Common.{◌≡◌, ℕ, zero, suc, ◌+◌, ◌*◌, ◌<◌, ◌≤◌, ◌/◌, ◌%◌, inl, inr, eqb, ltb, Bool, length, get_or, List, Option, None, Some, fold, max, cond, true, false, ℤ, pos, negsuc, ◌-ℤ◌, ◌≤ℤ◌, ◌<ℤ◌, IfSome, unwrap_or, refl, sym, ap, ◌∙◌, arith}
use Rattle.std.proofs.lemmas.Bool.{cases_eq, cases_lt, eq-eqb, eqb-true, ne_eqb, lt-ltb, le-ltb, cond-true, cond-false, false≢true}
use Rattle.std.proofs.lemmas.List.Folds.{list_any_at}
use Rattle.std.proofs.lemmas.List.Quantifiers.{position-Some}
use Rattle.std.proofs.lemmas.Int.{ints}
use Rattle.std.proofs.lemmas.Nat.{mul-le, mul-lt}
use Rattle.terrain.specs.Raster.{IsHeight}
use Rattle.terrain.specs.StoredCells.{no_data}
use Rattle.terrain.specs.Ways.{code_of}
use Rattle.std.specs.Prelude.{option_map}
use Rattle.std.specs.Bool.{then_some}
use Rattle.std.specs.List.{list_any, position}
use Rattle.drain.specs.Drops.{HasHeights, drop_by, drop_on, weight_on, IsGreatestFall, HasNoWayDown, IsSteepestWay, IsFirstSteepest}
use Rattle.drain.specs.Steepness.{positive_part, weight, weights, drop_to, leads_on, direction_of}
use Rattle.drain.specs.Fitting.{IsFitting}
use Rattle.drain.specs.declared.around.Around.{Around}
use Rattle.drain.proofs.Greatest.{first_passes, fold_attained, fold-max_least, le-fold_max, none_passes, position_is}
use Rattle.drain.proofs.Weights.{length-weights, get_or-weights, drop_from_weight, some_weight, weighed_rises, weightless}

pub weight_even : (way drop : ℕ) → way % 2 ≡ 0 → weight way drop ≡ 2 * (drop * drop)
weight_even way drop even = cond-true _ _ _ (eq-eqb _ _ even)

pub weight_odd : (way drop : ℕ) → way % 2 ≡ 1 → weight way drop ≡ drop * drop
weight_odd way drop odd = cond-false _ _ _ (ne_eqb (way % 2) 0 (λ e. omega arith))

part_low : (x y : ℤ) → x ≤ℤ y → positive_part x ≤ positive_part y
part_low (pos a) (pos b) le = omega (arith, ints)
part_low (pos a) (negsuc b) le = absurd (omega (arith, ints))
part_low (negsuc a) y le = omega arith

part_less : (x y : ℤ) → x <ℤ y → 0 < positive_part y → positive_part x < positive_part y
part_less (pos a) (pos b) less some = omega (arith, ints)
part_less (pos a) (negsuc b) less some = absurd (omega arith)
part_less (negsuc a) y less some = some

-- to the lower of two cells the drop is not less, and greater if it is above 0
drops : (level : ℤ) (a b : Option ℤ) → IfSome b IsHeight →
    (unwrap_or a no_data ≤ℤ unwrap_or b no_data → drop_by level b ≤ drop_by level a)
    × (unwrap_or a no_data <ℤ unwrap_or b no_data → 0 < drop_by level a → drop_by level b < drop_by level a)
drops level a None within = (λ le. omega arith, λ less some. some)
drops level None (Some h) within =
    (λ le. absurd (omega (arith, ints, le, within.1)), λ less some. absurd (omega (arith, some)))
drops level (Some g) (Some h) within = (
  λ le. part_low (level -ℤ h) (level -ℤ g) (omega (arith, ints, le)),
  λ less. part_less (level -ℤ h) (level -ℤ g) (omega (arith, ints, less)),
)

-- so is its weight, on ways of one parity
weights_rise : (level : ℤ) (way k : ℕ) (a b : Option ℤ) → k % 2 ≡ way % 2 → IfSome b IsHeight →
    (unwrap_or a no_data ≤ℤ unwrap_or b no_data → weight k (drop_by level b) ≤ weight way (drop_by level a))
    × (unwrap_or a no_data <ℤ unwrap_or b no_data → 0 < weight way (drop_by level a) →
    weight k (drop_by level b) < weight way (drop_by level a))
weights_rise level way k a b same within =
    let drop = drops level a b within in
    let rises = weighed_rises (eqb (way % 2) 0) (drop_by level b) (drop_by level a) in
    rw same (
      λ le. rises.0 (drop.0 le),
      λ less some. rises.1 (drop.1 less (elim (cases_eq (drop_by level a) 0) [
        | inl none ↦ absurd (omega (arith, some, weightless way none))
        | inr down ↦ omega (arith, down)
      ])),
    )

-- one way more, to a cell lower than those before it or not
pub fall_next : {level : ℤ} {heights : List (Option ℤ)} {parity turn way next : ℕ} {cell other : Option ℤ} →
    next ≡ 2 * turn + parity → parity < 2 → turn < 4 → ((k : ℕ) → k < 8 → IfSome (get_or heights k None) IsHeight) →
    cell ≡ get_or heights way None → other ≡ get_or heights next None → IsGreatestFall level heights parity turn way →
    (unwrap_or other no_data <ℤ unwrap_or cell no_data → IsGreatestFall level heights parity (turn + 1) next)
    × (unwrap_or cell no_data ≤ℤ unwrap_or other no_data → IsGreatestFall level heights parity (turn + 1) way)
fall_next {level = level} {heights = heights} {parity = parity} {way = way} {next = next} is two few within cell_is
    other_is fall =
    let among : next % 2 ≡ parity = omega (arith, is, two) in
    rw (cell_is, other_is) (
      λ less.
          let rises = weights_rise level next way (get_or heights next None) (get_or heights way None)
          (fall.among ∙ sym among) (within way (omega (arith, few, fall.within))) in
          record {
            within = omega (arith, is, two);
            among = among;
            bound = λ k below e. elim (cases_eq k next) [
              | inl here ↦ rw here (omega arith)
              | inr ne ↦ omega (
                arith,
                rises.0 (omega (arith, ints, less)),
                fall.bound k (omega (arith, is, two, below, e, ne)) e,
              )
            ];
            first = λ some k under e.
                omega (arith, rises.1 less some, fall.bound k (omega (arith, is, two, under, e)) e);
          },
      λ le. record {
        within = omega (arith, fall.within);
        among = fall.among;
        bound = λ k below e. elim (cases_eq k next) [
          | inl here ↦ rw here ((weights_rise level way next (get_or heights way None) (get_or heights next None)
              (among ∙ sym fall.among) (within next (omega (arith, is, two, few)))).0 le)
          | inr ne ↦ fall.bound k (omega (arith, is, two, below, e, ne)) e
        ];
        first = fall.first;
      },
    )

-- no square but 0 is twice another: the roots would be even, and have halves of the same kind
pub root_of_two : (n a b : ℕ) → a ≤ n → 2 * (a * a) ≡ b * b → a ≡ 0
root_of_two zero a b few twice = omega (arith, few)
root_of_two (suc n) a b few twice = elim (cases_eq a 0) [
  | inl none ↦ none
  | inr some ↦
      (let half = b / 2 in
      let even : b ≡ half + half = elim (cases_eq (b % 2) 0) [
        | inl e ↦ omega (arith, e)
        | inr odd ↦ (let is : b ≡ half + half + 1 = omega (arith, odd) in
            absurd (omega (arith, rw is at twice, square_of half 1)))
      ] in
      let halved : 2 * (half * half) ≡ a * a = omega (arith, rw even at twice, square_of half 0) in
      let squared : 0 < a * a = mul-lt 0 0 a a (omega (arith, some)) (omega (arith, some)) in
      let below : half < a = elim (cases_lt half a) [
        | inl less ↦ less
        | inr more ↦ absurd (omega (arith, mul-le a a half half more more, squared, halved))
      ] in
      let none = root_of_two n half a (omega (arith, few, below)) halved in
      absurd (omega (arith, rw none at halved, squared)))
]
  where
    square_of : (h r : ℕ) → (h + h + r) * (h + h + r) ≡ 4 * (h * h) + 4 * (h * r) + r * r
    square_of h r = omega arith

-- The fall of one parity weighs no less than that of the other, and more unless both weigh 0.
module _ {level : ℤ} {heights : List (Option ℤ)} {x y way other : ℕ}
    (own : IsGreatestFall level heights x 4 way) (beside : IsGreatestFall level heights y 4 other)
    (apart : x + y ≡ 1) (before : weight_on level heights other ≤ weight_on level heights way)
    (unequal : weight_on level heights other ≡ weight_on level heights way → weight_on level heights way ≡ 0) where
  bounded : (k : ℕ) → k < 8 → weight_on level heights k ≤ weight_on level heights way
  bounded k below = elim (cases_eq (k % 2) x) [
    | inl e ↦ own.bound k below e
    | inr ne ↦ omega (arith, beside.bound k below (omega (arith, ne, apart)), before)
  ]

  flat : drop_on level heights way ≡ 0 → (k : ℕ) → k < 8 → drop_on level heights k ≡ 0
  flat none k below = drop_from_weight k (drop_on level heights k)
      (omega (arith, bounded k below, weightless way none))

  pub steepest_is : (sum : ℕ) → sum ≡ drop_on level heights way + drop_on level heights other →
      IsFirstSteepest level heights (then_some (ltb 0 sum) way)
  steepest_is sum is = elim (cases_eq (drop_on level heights way) 0) [
    | inl none ↦ rw (le-ltb 0 sum (omega (arith, is, none, flat none other (omega (arith, beside.within)))))
        (record { each = flat none })
    | inr some ↦ (let weighs = some_weight way (drop_on level heights way) (omega (arith, some)) in
        rw (lt-ltb 0 sum (omega (arith, is, some))) (record {
          below = omega (arith, own.within);
          down = omega (arith, some);
          bound = bounded;
          first = λ k less. elim (cases_eq (k % 2) x) [
            | inl e ↦ own.first weighs k less e
            | inr ne ↦ (let le = beside.bound k (omega (arith, less, own.within)) (omega (arith, ne, apart)) in
                elim (cases_eq (weight_on level heights other) (weight_on level heights way)) [
                  | inl same ↦ absurd (omega (arith, unequal same, weighs))
                  | inr differ ↦ omega (arith, le, before, differ)
                ])
          ];
        }))
  ]

-- The surroundings have these heights.
module _ {a : Around} {level : ℤ} {heights : List (Option ℤ)}
    (has : HasHeights a level heights) where
  pub drop_is : (way : ℕ) → way < 8 →
      drop_on level heights way ≡ drop_to a.level (get_or a.ways way None)
  drop_is way below = ap (drop_by level) (has.each way below)
      ∙ without_steps level (get_or a.ways way None)
      ∙ ap (λ (z : ℤ). drop_to z (get_or a.ways way None)) (sym has.own_level)
    where
      without_steps : (level : ℤ) (w : Option (ℤ × ℕ)) →
          drop_by level (option_map (λ (v : ℤ × ℕ). v.0) w) ≡ drop_to level w
      without_steps level None = refl
      without_steps level (Some w) = refl

  weight_is : (way : ℕ) → way < 8 → get_or (weights a) way 0 ≡ weight_on level heights way
  weight_is way below = get_or-weights a way (omega (arith, has.count, below))
      ∙ ap (weight way) (sym (drop_is way below))

  within : (way : ℕ) → way < 8 → way < length (weights a)
  within way below = omega (arith, length-weights a, has.count, below)

  all_below : (most : ℕ) → ((way : ℕ) → way < 8 → weight_on level heights way ≤ most) →
      fold max 0 (weights a) ≤ most
  all_below most bound = fold-max_least (weights a) 0 most (omega arith)
      (λ k less. let below : k < 8 = omega (arith, length-weights a, has.count, less) in
      omega (arith, weight_is k below, bound k below))

  -- if no way leads down, `direction_of` goes by the flat
  pub direction_flat : HasNoWayDown level heights →
      direction_of a ≡ cond a.edge 0 (code_of (position (leads_on a) a.ways))
  direction_flat none = cond-false _ _ _ (le-ltb 0 (fold max 0 (weights a)) (all_below 0
      (λ way below. omega (arith, weightless way (none.each way below)))))

  pub direction_onward : (way : ℕ) → HasNoWayDown level heights → a.edge ≡ false →
      position (leads_on a) a.ways ≡ Some way → direction_of a ≡ code_of (Some way)
  direction_onward way none inside first = direction_flat none ∙ cond-false _ _ _ inside ∙ ap code_of first

  -- if no way leads down, a cell with fitting surroundings (`IsFitting`) that is no end cell has a
  -- neighbour of its height with one step fewer
  pub drains_onward : IsFitting a → HasNoWayDown level heights →
      a.edge ≡ false → list_any (leads_on a) a.ways ≡ true
  drains_onward fits none inside = elim fits.drains [
    | inl edge ↦ absurd (false≢true (sym inside ∙ edge))
    | inr other ↦ elim other [
      | inl down ↦ absurd (false≢true (sym (none_passes (λ w. ltb 0 (drop_to a.level w)) a.ways None
          (λ k less. let below : k < 8 = omega (arith, less, has.count) in
          le-ltb _ _ (omega (arith, drop_is k below, none.each k below)))) ∙ down))
      | inr onward ↦ onward
    ]
  ]

  -- the first of the steepest ways has the code that `direction_of` gives
  pub direction_down : (way : ℕ) → IsSteepestWay level heights way → direction_of a ≡ code_of (Some way)
  direction_down way is =
      let here = weight_is way is.below in
      let most : fold max 0 (weights a) ≡ weight_on level heights way =
      omega (
        arith,
        all_below (weight_on level heights way) is.bound,
        here,
        (le-fold_max (weights a) 0 way).1 (within way is.below),
      ) in
      cond-true _ _ _ (lt-ltb 0 (fold max 0 (weights a))
      (omega (arith, most, some_weight way (drop_on level heights way) is.down)))
      ∙ ap code_of (position_is (λ w. eqb w (fold max 0 (weights a))) (weights a) way 0 (within way is.below)
      (λ k less. ne_eqb _ _ (λ e. absurd (omega (
        arith,
        e,
        most,
        is.first k less,
        weight_is k (omega (arith, less, is.below)),
      ))))
      (eq-eqb _ _ (here ∙ sym most)))

  pub flat_from : fold max 0 (weights a) ≤ 0 → HasNoWayDown level heights
  flat_from none = record {
    each = λ way below. drop_from_weight way (drop_on level heights way)
        (omega (arith, none, (le-fold_max (weights a) 0 way).1 (within way below), weight_is way below));
  }

  -- if a weight is above 0, some way is the first of the steepest
  pub some_steepest : 0 < fold max 0 (weights a) → (way : ℕ) × IsSteepestWay level heights way
  some_steepest some = elim (fold_attained (weights a) 0) [
    | inl none ↦ absurd (omega (arith, some, none))
    | inr at ↦
        (let test : ℕ → Bool = λ w. eqb w (fold max 0 (weights a)) in
        let first = first_passes test (weights a) 0
        (list_any_at test (weights a) at.0 0 at.1 (eq-eqb _ _ at.2)) in
        let found = position-Some test (weights a) first.0 0 first.1 in
        let below : first.0 < 8 = omega (arith, found.0, length-weights a, has.count) in
        let own : weight_on level heights first.0 ≡ fold max 0 (weights a) =
        sym (weight_is first.0 below) ∙ eqb-true _ _ found.1 in
        let under = λ (k : ℕ) (less : k < 8). (let low = (le-fold_max (weights a) 0 k).1 (within k less) in
        let same = weight_is k less in
        let le : weight_on level heights k ≤ weight_on level heights first.0 = omega (arith, low, same, own) in le) in (
          first.0,
          record {
            below = below;
            down = elim (cases_eq (drop_on level heights first.0) 0) [
              | inl none ↦ absurd (omega (arith, weightless first.0 none, own, some))
              | inr ne ↦ omega (arith, ne)
            ];
            bound = under;
            first = λ k less. elim (cases_lt (weight_on level heights k) (weight_on level heights first.0)) [
              | inl lt ↦ lt
              | inr ge ↦
                  (let small : k < 8 = omega (arith, less, below) in
                  absurd (false≢true (sym (found.2 k less) ∙ eq-eqb _ _
                  (omega (arith, weight_is k small, under k small, ge, own)))))
            ];
          },
        ))
  ]
