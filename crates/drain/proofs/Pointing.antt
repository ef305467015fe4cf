-- A code that points to a place is that of a way, one of the eight directions. A cell has at most
-- one direction. A direction other than 0 leads to a lower data cell, or to one as high with fewer
-- steps.
use Rattle.std.proofs.Common.{◌≡◌, ◌≢◌, ℕ, ◌+◌, ◌^◌, ◌<◌, ◌≤◌, inl, inr, List, Option, None, Some, eqb, sym, ap, refl, ◌∙◌, arith}
use Rattle.std.proofs.Math.Nat.{pow-le-pow_right}
use Rattle.std.proofs.lemmas.Bool.{eqb-true}
use Rattle.std.proofs.lemmas.List.{get_or_default}
use Rattle.std.proofs.lemmas.List.Quantifiers.{position-Some}
use Rattle.std.proofs.lemmas.Option.{none-some, same_Some}
use Rattle.std.specs.Option.{option_and_then}
use Rattle.terrain.specs.Raster.{Terrain}
use Rattle.terrain.specs.Neighbours.{IsDataCell, IsNeighbour, IsEnd, Touches}
use Rattle.terrain.specs.Ways.{way_codes, ways_from, way_of, code_of, place_on, place_toward}
use Rattle.terrain.specs.declared.place.Place.{Place}
use Rattle.terrain.proofs.EightWays.{eight, Touches-from_ways}
use Rattle.drain.specs.Steps.{HasLower, DrainsAtOnce, AreSteps}
use Rattle.drain.specs.Directions.{PointsToFirst, IsDirection}
use Rattle.drainage.specs.Drained.{Falls}
use Rattle.drain.proofs.Local.{one_number_of_steps}
use Rattle.terrain.proofs.Options.{cases_option}
use Rattle.drain.proofs.Nearby.{has_lower, end_cell}
use Rattle.drain.proofs.AroundLemmas.{steps_at}

-- the place to which a code points lies on the way of that code
pub way_toward : (p q : Place) (code : ℕ) → place_toward code p ≡ Some q → (way : ℕ) × (way < 8)
    × (code ≡ code_of (Some way)) × (place_on way p ≡ Some q)
way_toward p q code e = elim (cases_option (way_of code)) [
  | inl none ↦ absurd (none-some q
      (sym (ap (option_and_then (λ way. place_on way p)) none) ∙ e))
  | inr way ↦
      (let found = position-Some (λ c. eqb c code) way_codes way.0 0 way.1 in (
        way.0,
        found.0,
        sym (eqb-true _ _ found.1),
        sym (ap (option_and_then (λ way. place_on way p)) way.1) ∙ e,
      ))
]

code_power : (way : ℕ) → way < 8 → code_of (Some way) ≡ 2 ^ way
code_power = eight (λ way. code_of (Some way) ≡ 2 ^ way) refl refl refl refl refl refl refl refl

pub codes_rise : (way other : ℕ) → way ≤ other → other < 8 →
    code_of (Some way) ≤ code_of (Some other)
codes_rise way other le below =
    let powers : 2 ^ way ≤ 2 ^ other = pow-le-pow_right (omega arith) le in
    omega (arith, powers, code_power way (omega arith), code_power other below)

pub on_way_beside : (p q : Place) (way : ℕ) → way < 8 → place_on way p ≡ Some q → Touches p q × (p ≢ q)
on_way_beside p q way below e = Touches-from_ways p q
    (way, below, get_or_default (ways_from p) way (Some q) None below ∙ e)

pub next_on_way : (t : Terrain) (p q : Place) (way : ℕ) → way < 8 → place_on way p ≡ Some q →
    IsDataCell t p → IsDataCell t q → IsNeighbour t p q
next_on_way t p q way below e from to =
    let beside = on_way_beside p q way below e in
    record { different = beside.1; touches = beside.0; from_data = from; to_data = to }

one_first : {IsSuch : Place → Type 0} {p : Place} {m n : ℕ} → PointsToFirst IsSuch p m →
    PointsToFirst IsSuch p n → m ≡ n
one_first {m = m} {n = n} a b =
    omega (arith, a.first n b.one.0 b.one.1 b.one.2, b.first m a.one.0 a.one.1 a.one.2)

off_both : (t : Terrain) (p : Place) → (HasLower t p → ⊥) → (IsEnd t p → ⊥) → DrainsAtOnce t p → ⊥
off_both t p high off (inl lower) = high lower
off_both t p high off (inr end) = off end

pub one_direction : (t : Terrain) (p : Place) (m n : ℕ) → IsDirection t p m → IsDirection t p n →
    m ≡ n
one_direction t p m n a b = elim (has_lower t p) [
  | inl lower ↦ one_first (a.steepest lower) (b.steepest lower)
  | inr high ↦ elim (end_cell t p) [
    | inl end ↦ a.outlet high end ∙ sym (b.outlet high end)
    | inr off ↦ one_first (a.onward (off_both t p high off))
        (b.onward (off_both t p high off))
  ]
]

-- a direction other than 0 leads to a lower data cell, or to one as high with fewer steps
pub direction_leads : (t : Terrain) (steps codes : List (Option ℕ)) (p : Place) (code : ℕ) →
    AreSteps t steps → IsDirection t p code → code ≢ 0 →
    (q : Place) × (place_toward code p ≡ Some q) × IsDataCell t q
    × Falls (record { terrain = t; steps = steps; codes = codes }) p q
direction_leads t steps codes p code are d some = elim (has_lower t p) [
  | inl lower ↦ (let to = (d.steepest lower).one in (to.0, to.1, to.2.0.0.to_data, inl to.2.0.1))
  | inr high ↦ elim (end_cell t p) [
    | inl end ↦ absurd (some (d.outlet high end))
    | inr off ↦
        (let to = (d.onward (off_both t p high off)).one in
        let next = to.2.0 in
        let here = steps_at p are next.from_data in
        let there = steps_at to.0 are next.to_data in (
          to.0,
          to.1,
          next.to_data,
          inr (
            to.2.1,
            λ m n own other.
                let own_is : m ≡ to.2.2 + 1 = same_Some _ _ (sym own ∙ here.1)
                ∙ one_number_of_steps here.2 to.2.4 in
                let other_is : n ≡ to.2.2 = same_Some _ _ (sym other ∙ there.1)
                ∙ one_number_of_steps there.2 to.2.3 in
                omega arith,
          ),
        ))
  ]
]
