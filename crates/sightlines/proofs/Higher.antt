-- A target that is seen is also seen at a greater height: its line of sight is nowhere lower.
use Rattle.std.proofs.Common.{arith, refl, ◌≡◌, ◌+◌, ◌-◌, ◌≤◌, ℕ, ℤ, pos, ◌+ℤ◌, ◌≤ℤ◌, Bool, true, false, not, ◌&&◌, Option, None, Some, int_lt, is_some}
use borrow.Author.Differences.{up, down}
use Rattle.std.specs.Int.{abs_diff}
use Rattle.std.specs.Option.{option_map_or}
use Rattle.std.proofs.lemmas.Int.{ints}
use Rattle.std.proofs.lemmas.Nat.{mul-le}
use Rattle.std.proofs.lemmas.Bool.{false_from_ne_true}
use Rattle.terrain.specs.Raster.{Terrain}
use Rattle.terrain.specs.Neighbours.{height_at, height_of}
use Rattle.terrain.specs.declared.place.Place.{Place}
use Rattle.terrain.specs.declared.observer.Observer.{Observer}
use Rattle.sightlines.specs.Sight.{sight, ground, column_crossing, row_crossing, column_blocks, row_blocks, is_near, is_seen, place_of}
use Rattle.sightlines.proofs.Ranges.{none_at, none_from}

sight_higher : (e f g : ℤ) (n k : ℕ) → f ≤ℤ g → sight e f n k ≤ℤ sight e g n k
sight_higher e f g n k h = omega (
  arith,
  ints,
  h,
  mul-le k (up f + down g) k (up g + down f) (omega arith) (omega (arith, ints, h)),
)

not_below : (z w g : ℤ) → z ≤ℤ w → int_lt z g ≡ false → int_lt w g ≡ false
not_below z w g h low = grind (arith, ints)

ground_not_above : (g : Option ℤ) (z w : ℤ) → z ≤ℤ w → option_map_or (λ x. int_lt z x) g false ≡ false →
    option_map_or (λ x. int_lt w x) g false ≡ false
ground_not_above None z w h clear = refl
ground_not_above (Some g) z w h clear = not_below z w g h clear

pub columns_clear : (t : Terrain) (p q : Place) (e f g : ℤ) → f ≤ℤ g → column_blocks t p q e f ≡ false →
    column_blocks t p q e g ≡ false
columns_clear t p q e f g h clear =
    let n = abs_diff p.col q.col in
    none_from _ 1 (n - 1) (λ k low high.
    ground_not_above (ground t (column_crossing p q n k)) _ _ (sight_higher e f g n k h)
    (none_at _ 1 (n - 1) k clear low high))

rows_clear : (t : Terrain) (p q : Place) (e f g : ℤ) → f ≤ℤ g → row_blocks t p q e f ≡ false →
    row_blocks t p q e g ≡ false
rows_clear t p q e f g h clear =
    let n = abs_diff p.row q.row in
    none_from _ 1 (n - 1) (λ k low high.
    ground_not_above (ground t (row_crossing p q n k)) _ _ (sight_higher e f g n k h)
    (none_at _ 1 (n - 1) k clear low high))

both_clear : (a b c d : Bool) → (a ≡ false → c ≡ false) → (b ≡ false → d ≡ false) → (not a && not b) ≡ true →
    (not c && not d) ≡ true
both_clear true b c d p q clear = absurd cc
both_clear false true c d p q clear = absurd cc
both_clear false false c d p q clear = rw (p refl, q refl) refl

last_of_four : (a b c d e : Bool) → (d ≡ true → e ≡ true) → (a && b && c && d) ≡ true → (a && b && c && e) ≡ true
last_of_four true true true d e h is = h is
last_of_four true true false d e h is = absurd cc
last_of_four true false c d e h is = absurd cc
last_of_four false b c d e h is = absurd cc

pub seen_higher : (t : Terrain) (o : Observer) (q : Place) (low high radius : ℕ) → low ≤ high →
    is_seen t o q low radius ≡ true → is_seen t o q high radius ≡ true
seen_higher t o q low high radius h seen =
    let p = place_of o in
    let e = height_of t p +ℤ pos o.eye in
    let f = height_of t q +ℤ pos low in
    let g = height_of t q +ℤ pos high in
    let rises : f ≤ℤ g = omega (arith, ints, h) in
    last_of_four (is_some (height_at t p)) (is_some (height_at t q)) (is_near p q radius) _ _
    (both_clear _ _ _ _ (columns_clear t p q e f g rises) (rows_clear t p q e f g rises)) seen

pub hidden_lower : (t : Terrain) (o : Observer) (q : Place) (low high radius : ℕ) → low ≤ high →
    is_seen t o q high radius ≡ false → is_seen t o q low radius ≡ false
hidden_lower t o q low high radius h hidden =
    false_from_ne_true _ (λ seen.
    absurd (let higher = seen_higher t o q low high radius h seen in
    cc))
