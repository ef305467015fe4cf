-- A cell has at most one filled height.
use Rattle.std.proofs.Common.{◌≡◌, ℤ, ◌≤ℤ◌, subst, arith}
use Rattle.terrain.specs.Raster.{Terrain}
use Rattle.drainage.specs.Filled.{IsFilledHeight}
use Rattle.terrain.specs.declared.place.Place.{Place}

pub between : (l m : ℤ) → l ≤ℤ m → m ≤ℤ l → l ≡ m
between l m a b = grind (arith, a, b)

pub not_above : (t : Terrain) (p : Place) (l m : ℤ) → IsFilledHeight t p l → IsFilledHeight t p m →
    l ≤ℤ m
not_above t p l m a b = subst (λ z. l ≤ℤ z) b.reached.2 (a.least b.reached.0 b.reached.1)

pub one_filled_height : (t : Terrain) (p : Place) (l m : ℤ) → IsFilledHeight t p l →
    IsFilledHeight t p m → l ≡ m
one_filled_height t p l m a b = between l m (not_above t p l m a b) (not_above t p m l b a)
