-- The surroundings of a cell have, on each way, height and steps of the place on that way, if both
-- are known. Ways are the eight directions, from 0 to 7 in code order.
use Rattle.std.proofs.Common.{◌≡◌, ℕ, ◌+◌, ◌<◌, ◌<ℤ◌, ◌-ℤ◌, Bool, true, List, [], ◌∷◌, get_or, Option, None, Some, is_some, ℤ, pos, negsuc, sym, ap, refl, ◌∙◌, arith}
use Rattle.std.proofs.lemmas.Int.{ints}
use Rattle.std.proofs.lemmas.Bool.{and_parts, eqb-true, false≢true}
use Rattle.std.proofs.lemmas.Option.{MatchOption-at_some, none-some}
use Rattle.std.specs.Int.{int_gap}
use Rattle.std.specs.Option.{option_and_then, option_map, option_zip}
use Rattle.std.proofs.lemmas.Bool.Decides.{Decides-int_eq}
use Rattle.terrain.specs.Raster.{Terrain}
use Rattle.terrain.specs.Neighbours.{height_at, entry_at, IsDataCell, height_of}
use Rattle.terrain.specs.Ways.{place_on, entry_on}
use Rattle.terrain.specs.declared.place.Place.{Place}
use Rattle.drain.specs.Steps.{IsSteps, AreSteps}
use Rattle.drain.specs.Steepness.{positive_part, leads_on}
use Rattle.drain.specs.Drops.{drop_by}
use Rattle.drain.specs.Fitting.{IsLaidAround}
use Rattle.drain.specs.declared.around.Around.{Around}
use Rattle.drain.proofs.Counted.{height_is}
use Rattle.drainage.proofs.Reach.{data_inside}
use Rattle.terrain.proofs.EightWays.{eight, zip_some}

-- height and steps on a way, if known, are those of the place on it
pub on_way : (t : Terrain) (steps : List (Option ℕ)) (p : Place) (a : Around) (way : ℕ)
    (w : ℤ × ℕ) → IsLaidAround t steps p a → way < 8 → get_or a.ways way None ≡ Some w →
    (q : Place) × (place_on way p ≡ Some q) × (height_at t q ≡ Some w.0)
    × (entry_at t.cols t.rows steps q ≡ Some w.1)
on_way t steps p a way w f below e =
    zip_some (λ q. entry_at t.cols t.rows t.cells q) (λ q. entry_at t.cols t.rows steps q)
    (place_on way p) w.0 w.1 (sym (f.ways way below) ∙ e)

pub positive_part-below : (x y : ℤ) → y <ℤ x → 0 < positive_part (x -ℤ y)
positive_part-below x y less = part (x -ℤ y) (omega (arith, ints))
  where
    part : (z : ℤ) → pos 0 <ℤ z → 0 < positive_part z
    part (pos n) h = omega (arith, ints)
    part (negsuc n) h = absurd (omega (arith, ints))

difference : (x y : ℤ) → y <ℤ x → x -ℤ y ≡ pos (int_gap y x)
difference (pos a) (pos b) less = omega (arith, ints)
difference (pos a) (negsuc b) less = omega (arith, ints)
difference (negsuc a) (pos b) less = absurd (omega (arith, ints))
difference (negsuc a) (negsuc b) less = omega (arith, ints)

pub gap-below : (x y : ℤ) → y <ℤ x → positive_part (x -ℤ y) ≡ int_gap y x
gap-below x y less = ap positive_part (difference x y less)

below-positive_part : (x y : ℤ) → 0 < positive_part (x -ℤ y) → y <ℤ x
below-positive_part x y h = let above : pos 0 <ℤ (x -ℤ y) = part (x -ℤ y) h in omega (arith, ints)
  where
    part : (z : ℤ) → 0 < positive_part z → pos 0 <ℤ z
    part (pos n) h = omega (arith, ints)
    part (negsuc n) h = absurd (omega arith)

pub steps_at : {t : Terrain} {steps : List (Option ℕ)} (q : Place) → AreSteps t steps →
    IsDataCell t q → (n : ℕ) × (entry_at t.cols t.rows steps q ≡ Some n) × IsSteps t q n
steps_at {t} q are is =
    MatchOption-at_some _ _ (height_of t q) (height_is t q is) (are.each q (data_inside t q is))

pub some_drop : (o : Option ℤ) (level : ℤ) → 0 < drop_by level o → (h : ℤ) × (o ≡ Some h) × (h <ℤ level)
some_drop None level some = absurd (omega arith)
some_drop (Some h) level some = (h, refl, below-positive_part level h some)

-- the height of `option_zip` is the place's height, since each data cell has steps
pub zip_heights : (t : Terrain) (steps : List (Option ℕ)) (o : Option Place) → AreSteps t steps →
    option_map (λ (w : ℤ × ℕ). w.0)
    (option_zip (option_and_then (entry_at t.cols t.rows t.cells) o)
    (option_and_then (entry_at t.cols t.rows steps) o))
    ≡ option_and_then (entry_at t.cols t.rows t.cells) o
zip_heights t steps None are = refl
zip_heights t steps (Some q) are = zipped (height_at t q) (entry_at t.cols t.rows steps q)
    (λ h is. let n = steps_at q are (ap is_some is) in (n.0, n.1))
  where
    zipped : (o : Option ℤ) (n : Option ℕ) → ((h : ℤ) → o ≡ Some h → (m : ℕ) × (n ≡ Some m)) →
        option_map (λ (w : ℤ × ℕ). w.0) (option_zip o n) ≡ o
    zipped None n known = refl
    zipped (Some h) None known = absurd (none-some (known h refl).0 (known h refl).1)
    zipped (Some h) (Some m) known = refl

pub some_onward : (a : Around) (o : Option (ℤ × ℕ)) → leads_on a o ≡ true →
    (w : ℤ × ℕ) × (o ≡ Some w) × (w.0 ≡ a.level) × (w.1 + 1 ≡ a.steps)
some_onward a None h = absurd (false≢true h)
some_onward a (Some w) h =
    let both = and_parts _ _ h in
    (w, refl, (Decides-int_eq w.0 a.level).0 both.0, eqb-true _ _ both.1)

abbrev shown_on : Terrain → List (Option ℕ) → Place → ℕ → Option (ℤ × ℕ)
shown_on t steps p way =
    option_zip (entry_on t.cols t.rows t.cells way p) (entry_on t.cols t.rows steps way p)

abbrev pub around_with : Terrain → List (Option ℕ) → Place → ℤ → ℕ → Bool → Around
around_with t steps p level own edge = record {
  level = level;
  steps = own;
  edge = edge;
  ways = shown_on t steps p 0 ∷ shown_on t steps p 1 ∷ shown_on t steps p 2 ∷ shown_on t steps p 3
      ∷ shown_on t steps p 4 ∷ shown_on t steps p 5 ∷ shown_on t steps p 6 ∷ shown_on t steps p 7
      ∷ [];
}

pub laid_with : (t : Terrain) (steps : List (Option ℕ)) (p : Place) (level : ℤ) (own : ℕ)
    (edge : Bool) → height_at t p ≡ Some level → entry_at t.cols t.rows steps p ≡ Some own →
    IsLaidAround t steps p (around_with t steps p level own edge)
laid_with t steps p level own edge high count = record {
  level = high;
  own_steps = count;
  count = refl;
  ways = eight (λ (way : ℕ). get_or (around_with t steps p level own edge).ways way None
      ≡ shown_on t steps p way) refl refl refl refl refl refl refl refl;
}
