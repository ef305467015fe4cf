-- Laws of `IsSpread` (`Search`): a relaxation lowers a spot's count to one more than a count that
-- an adjacent spot of its height has after some relaxations. Relaxations after relaxations are
-- relaxations. They keep the length of the list of counts and raise no count.
use Rattle.std.proofs.Common.{◌≡◌, ◌≢◌, ℕ, ◌+◌, ◌<◌, ◌≤◌, ◌⊎◌, inl, inr, All, List, [], ◌∷◌, ◌++◌, length, get_or, set, sum, ℤ, Option, sym, ap, refl, ◌∙◌, arith}
use Rattle.std.proofs.lemmas.Bool.{cases_eq, cases_lt}
use Rattle.std.proofs.lemmas.List.{length_push, length-set, get_or-set_same, get_or-set_other, get_or_past}
use Rattle.std.proofs.lemmas.List.Elements.{All-push}
use Rattle.std.proofs.lemmas.List.Sums.{sum_by-set}
use Rattle.terrain.specs.Neighbours.{Touches}
use Rattle.terrain.specs.declared.place.Place.{Place}
use Rattle.tiles.specs.declared.bounds.Bounds.{Bounds}
use Rattle.tiles.specs.declared.window.Window.{Window}
use Rattle.tiles.specs.Windows.{spot_index, IsSpot, IsInner}
use Rattle.drain.specs.Search.{AreAtMostNoCount, height_on, count_on, IsLowering, IsPulled, IsSpread, same, moved}

pub set_low : (xs : List ℕ) (i n k : ℕ) → n ≤ get_or xs i 0 → get_or (set xs i n) k 0 ≤ get_or xs k 0
set_low xs i n k le = elim (cases_eq k i) [
  | inl e ↦ rw e (elim (cases_lt i (length xs)) [
    | inl lt ↦ omega (arith, get_or-set_same xs i n 0 lt)
    | inr past ↦ omega (arith, get_or_past (set xs i n) i 0 (omega (arith, length-set xs i n)))
  ])
  | inr ne ↦ omega (arith, get_or-set_other xs i k n 0 ne)
]

sum-set : (xs : List ℕ) (i n : ℕ) → n < get_or xs i 0 → sum (set xs i n) + 1 ≤ sum xs
sum-set xs i n less = elim (cases_lt i (length xs)) [
  | inl lt ↦ omega (arith, sum_by-set (λ (m : ℕ). m) xs i n 0 lt)
  | inr past ↦ absurd (omega (arith, get_or_past xs i 0 past))
]

pub spread_low : {w : Window (Option ℤ)} {old new : List ℕ} → IsSpread w old new → (k : ℕ) →
    get_or new k 0 ≤ get_or old k 0
spread_low same k = omega arith
spread_low {w} (moved counts some r s before earlier level less) k =
    omega (
      arith,
      set_low counts (spot_index w.bounds s) (count_on w.bounds some r + 1) k (omega arith),
      spread_low
          before k,
    )

pub spread-length : {w : Window (Option ℤ)} {old new : List ℕ} → IsSpread w old new → length new ≡ length old
spread-length same = refl
spread-length (moved counts some r s before earlier level less) = simp length-set (spread-length before)

pub spread_on : {w : Window (Option ℤ)} {old mid new : List ℕ} → IsSpread w old mid → IsSpread w mid new →
    IsSpread w old new
spread_on first same = first
spread_on first (moved counts some r s before earlier level less) =
    moved counts some r s (spread_on first before) (spread_on first earlier) level less

pub spread_counts : {w : Window (Option ℤ)} {old new : List ℕ} → AreAtMostNoCount old → IsSpread w old new →
    AreAtMostNoCount new
spread_counts small spread k = omega (arith, small k, spread_low spread k)

pub sum_spread : {w : Window (Option ℤ)} {old new : List ℕ} → IsSpread w old new → sum new ≤ sum old
sum_spread same = omega arith
sum_spread {w} (moved counts some r s before earlier level less) =
    omega (arith, sum-set counts (spot_index w.bounds s) (count_on w.bounds some r + 1) less, sum_spread before)

pub spot_from_inner : {b : Bounds} {s : Place} → IsInner b s → IsSpot b s
spot_from_inner i = (omega (arith, i.last_row), omega (arith, i.last_col))

pub lowering_none : {w : Window (Option ℤ)} {counts : List ℕ} {xs : List Place} → IsLowering w counts counts xs xs
lowering_none = record { spread = same; inner = λ all. all; left = omega arith }

pub lowering_then : {w : Window (Option ℤ)} {old mid new : List ℕ} {xs ys zs : List Place} →
    IsLowering w old mid xs ys → IsLowering w mid new ys zs → IsLowering w old new xs zs
lowering_then f g = record {
  spread = spread_on f.spread g.spread;
  inner = λ all. g.inner (f.inner all);
  left = omega (arith, f.left, g.left);
}

all_inner : {b : Bounds} {s : Place} (xs : List Place) {ys : List Place} → ys ≡ xs ++ s ∷ [] → IsInner b s →
    All (IsInner b) xs → All (IsInner b) ys
all_inner {b} {s} xs is inner all = rw is (All-push (IsInner b) xs s all inner)

-- spots are apart where one has a lower count
apart : (b : Bounds) (counts : List ℕ) (r s : Place) → count_on b counts r < count_on b counts s → r ≢ s
apart b counts r s less one = omega (arith, less, ap (count_on b counts) one)

-- a neighbour's count falls; the neighbour is appended if it lies in the tile
pub lowering_set : {w : Window (Option ℤ)} {counts : List ℕ} {from to : Place} (i j : ℕ) (xs ys : List Place) →
    i ≡ spot_index w.bounds from → j ≡ spot_index w.bounds to → IsSpot w.bounds from →
    IsSpot w.bounds to × Touches from to → height_on w from ≡ height_on w to →
    get_or counts i 0 + 1 < get_or counts j 0 → (IsInner w.bounds to × (ys ≡ xs ++ to ∷ [])) ⊎ (ys ≡ xs) →
    IsLowering w counts (set counts j (get_or counts i 0 + 1)) xs ys
lowering_set {w} {counts} {from} {to} i j xs ys e f spot other level less added =
    let falls = rw (e, f) at less in
    record {
      spread = rw (e, f) (moved counts counts from to same same (record {
        one = spot;
        other = other.0;
        touches = other.1;
        apart = apart w.bounds counts from to (omega (arith, falls));
        level = level;
      }) falls);
      inner = λ all. elim added [
        | inl h ↦ all_inner xs h.1 h.0 all
        | inr h ↦ rw h all
      ];
      left = elim added [
        | inl h ↦ rw h.1 (omega (arith, length_push xs to, sum-set counts j (get_or counts i 0 + 1) less))
        | inr h ↦ rw h (omega (arith, sum-set counts j (get_or counts i 0 + 1) less))
      ];
    }

pub pulled_none : {w : Window (Option ℤ)} {old counts : List ℕ} {xs : List Place} → counts ≡ old → xs ≡ [] →
    IsPulled w old counts xs
pulled_none is none = rw (none, is) (record {
  spread = same;
  inner = λ k s below. absurd (omega arith);
  left = omega arith;
  still = λ _. refl;
})

-- a spot's count falls to one more than the old count of an adjacent spot of its height
pub pulled_set : {w : Window (Option ℤ)} {old counts : List ℕ} {s : Place} (i n : ℕ) (xs ys : List Place) →
    i ≡ spot_index w.bounds s → IsInner w.bounds s → IsPulled w old counts xs →
    ((n ≡ get_or counts i 0) ⊎ ((r : Place) × IsSpot w.bounds r × Touches r s × (height_on w r ≡ height_on w s)
    × (n ≡ count_on w.bounds old r + 1) × (n < get_or counts i 0))) →
    n < get_or counts i 0 → ys ≡ xs ++ s ∷ [] → IsPulled w old (set counts i n) ys
pulled_set i n xs ys e inner before (inl is) less longer = absurd (omega arith)
pulled_set {w} {old} {counts} {s} i n xs ys e inner before (inr (r, spot, touch, level, is, _)) less longer =
    let falls = rw (is, e) at less in
    record {
      spread = rw (is, e) (moved counts old r s before.spread same (record {
        one = spot;
        other = spot_from_inner inner;
        touches = touch;
        apart = apart w.bounds old r s (omega (arith, falls, spread_low before.spread (spot_index w.bounds s)));
        level = level;
      }) falls);
      inner = all_inner xs longer inner before.inner;
      left = rw longer (omega (arith, length_push xs s, sum-set counts i n less, before.left));
      still = λ none. absurd (omega (arith, length_push xs s, ap length (sym longer ∙ none)));
    }
