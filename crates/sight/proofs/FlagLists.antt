-- If each flag has a property as it is stored, place by place in row order, all flags have it.
-- After a check of the first crossings of lines of sight, a sweep clears all flags but those of
-- places that are seen.
use Rattle.std.proofs.Common.{arith, sym, ap, subst, ◌∙◌, ◌≡◌, ◌+◌, ◌<◌, ℕ, Bool, false, List, length, get_or, set, inl, inr}
use Rattle.std.proofs.lemmas.Bool.{cases_eq}
use Rattle.std.proofs.lemmas.List.{length-set, get_or-set_same, get_or-set_other}
use Rattle.terrain.specs.Raster.{Terrain}
use Rattle.terrain.specs.declared.place.Place.{Place}
use Rattle.tiles.specs.declared.bounds.Bounds.{Bounds}
use Rattle.tiles.specs.Cutting.{IsInBounds, index_in}
use Rattle.tiles.proofs.TileOrder.{index_in_below}
use Rattle.tile_maps.proofs.TileLists.{within_injective}
use Rattle.sightlines.specs.Sight.{is_open}
use Rattle.sight.specs.Flags.{AreFlagsBelow, AreFlags, AreLeft, FlagsSeen, FlagsSeenIfOpen}
use Rattle.terrain.specs.declared.observer.Observer.{Observer}

pub flagged_more : (b : Bounds) (Holds : Place → Bool → Type 0) (p : Place) (flags : List Bool) (i : ℕ) (x : Bool) →
    IsInBounds b p → i ≡ index_in b p → AreFlagsBelow b Holds i flags → Holds p x →
    AreFlagsBelow b Holds (i + 1) (set flags i x)
flagged_more b Holds p flags i x inside at before is = record {
  size = length-set flags i x ∙ before.size;
  each = λ q within below. elim (cases_eq (index_in b q) i) [
    | inl e ↦
        let one = within_injective b p q inside within (sym at ∙ sym e) in
        let room : i < length flags = omega (arith, index_in_below b p inside) in
        let here = ap (λ k. get_or (set flags i x) k false) e ∙ get_or-set_same flags i x false room in
        subst (Holds q) (sym here) (subst (λ (r : Place). Holds r x) one is)
    | inr ne ↦
        subst (Holds q) (sym (get_or-set_other flags i (index_in b q) x false ne)) (before.each q within (omega arith))
  ];
}

-- let a place be seen exactly if its old flag is set and no crossing blocks its line of sight. If
-- its new flag is set exactly if both are true, the new flags are those of the seen places.
pub left_seen : (b : Bounds) (t : Terrain) (o : Observer) (target radius : ℕ) (old new : List Bool) →
    AreFlags b (FlagsSeenIfOpen t o target radius) old → AreLeft b (λ (p : Place). is_open t o p target) old new →
    AreFlags b (FlagsSeen t o target radius) new
left_seen b t o target radius old new flagged left = record {
  size = left.size ∙ flagged.size;
  each = λ p inside below. left.each p inside ∙ flagged.each p inside below;
}
