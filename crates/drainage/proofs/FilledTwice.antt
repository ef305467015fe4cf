-- Filling a filled terrain changes nothing.
use Rattle.std.proofs.Common.{◌≡◌, List, [], ◌∷◌, Option, None, Some, is_some, ℤ, pos, ◌≤ℤ◌, sym, ap, subst, refl, ◌∙◌, inl, inr}
use Rattle.std.specs.Prelude.{unwrap_or, IsSome, MatchOption}
use Rattle.std.proofs.lemmas.Bool.{cases_lt}
use Rattle.std.proofs.lemmas.Option.{MatchOption-at_some, MatchOption-at_none}
use Rattle.terrain.proofs.Orders.{max_right, max_least, trans}
use Rattle.terrain.specs.Raster.{Terrain}
use Rattle.terrain.specs.Neighbours.{height_at, entry_at, HasGapAround, height_of}
use Rattle.drainage.specs.Filled.{IsPath, crest, IsFilledHeight, IsFilled}
use Rattle.terrain.specs.declared.place.Place.{Place}
use Rattle.terrain.proofs.Places.{entry-below, entry-beside, inside_from_entry, gap_where}
use Rattle.drainage.proofs.Uniqueness.{between}
use Rattle.drainage.proofs.Heights.{known, first_is_data, height_below_crest}

abbrev pub filled_terrain : Terrain → List (Option ℤ) → Terrain
filled_terrain t levels = record t { cells = levels }

record HasLevel (t : Terrain) (levels : List (Option ℤ)) (p : Place) (level : ℤ) : Type 0 where
  entry : entry_at t.cols t.rows levels p ≡ Some level
  filled : IsFilledHeight t p level

level_at : (t : Terrain) (levels : List (Option ℤ)) → IsFilled t levels → (p : Place) (x : ℤ) →
    height_at t p ≡ Some x → (level : ℤ) × HasLevel t levels p level
level_at t levels h p x e =
    let inside = inside_from_entry t.cols t.rows t.cells p x e in
    let m = MatchOption-at_some _ _ x e (h.each p inside) in
    (m.0, record { entry = m.1; filled = m.2 })

no_level_at : (t : Terrain) (levels : List (Option ℤ)) → IsFilled t levels → (p : Place) →
    height_at t p ≡ None → entry_at t.cols t.rows levels p ≡ None
no_level_at t levels h p e = elim (cases_lt p.row t.rows) [
  | inl a ↦ elim (cases_lt p.col t.cols) [
    | inl b ↦ MatchOption-at_none _ _ e (h.each p (a, b))
    | inr n ↦ entry-beside t.cols t.rows levels p n
  ]
  | inr n ↦ entry-below t.cols t.rows levels p n
]

same_data_at : (t : Terrain) (levels : List (Option ℤ)) → IsFilled t levels → (p : Place)
    (o : Option ℤ) → height_at t p ≡ o → is_some (entry_at t.cols t.rows levels p) ≡ is_some o
same_data_at t levels h p None e = ap is_some (no_level_at t levels h p e)
same_data_at t levels h p (Some x) e = ap is_some (level_at t levels h p x e).1.entry

same_data : (t : Terrain) (levels : List (Option ℤ)) → IsFilled t levels → (p : Place) →
    is_some (height_at (filled_terrain t levels) p) ≡ is_some (height_at t p)
same_data t levels h p = same_data_at t levels h p (height_at t p) refl

data_level : (t : Terrain) (levels : List (Option ℤ)) → IsFilled t levels → (p : Place) →
    IsSome (height_at t p) → (level : ℤ) × HasLevel t levels p level
data_level t levels h p d = level_at t levels h p (height_of t p) (known (height_at t p) d)

gap_again : (t : Terrain) (levels : List (Option ℤ)) → IsFilled t levels → (p : Place) →
    HasGapAround t p → HasGapAround (filled_terrain t levels) p
gap_again t levels h p gap = gap_where p (λ q _ none. same_data t levels h q ∙ none) gap

path_again : (t : Terrain) (levels : List (Option ℤ)) → IsFilled t levels →
    (p : Place) (rest : List Place) → IsPath t p rest → IsPath (filled_terrain t levels) p rest
path_again t levels h p [] (inl edge) =
    inl (same_data t levels h p ∙ edge.0, gap_again t levels h p edge.1)
path_again t levels h p [] (inr sink) = inr (same_data t levels h p ∙ sink.0, sink.1)
path_again t levels h p (q ∷ rest) path = (
  record {
    different = path.0.different;
    touches = path.0.touches;
    from_data = same_data t levels h p ∙ path.0.from_data;
    to_data = same_data t levels h q ∙ path.0.to_data;
  },
  path_again t levels h q rest path.1,
)

new_height : (t : Terrain) (levels : List (Option ℤ)) (p : Place) (level : ℤ) →
    HasLevel t levels p level → height_of (filled_terrain t levels) p ≡ level
new_height t levels p level h = ap (λ (o : Option ℤ). unwrap_or o (pos 0)) h.entry

new_height_below : (t : Terrain) (levels : List (Option ℤ)) → IsFilled t levels → (p : Place)
    (rest : List Place) → IsPath t p rest → height_of (filled_terrain t levels) p ≤ℤ crest t p rest
new_height_below t levels h p rest path =
    let l = data_level t levels h p (first_is_data t p rest path) in
    subst (λ z. z ≤ℤ crest t p rest) (sym (new_height t levels p l.0 l.1))
    (l.1.filled.least rest path)

-- filling raises the crest of no path
crest_again : (t : Terrain) (levels : List (Option ℤ)) → IsFilled t levels → (p : Place)
    (rest : List Place) → IsPath t p rest → crest (filled_terrain t levels) p rest ≤ℤ crest t p rest
crest_again t levels h p [] path = new_height_below t levels h p [] path
crest_again t levels h p (q ∷ rest) path =
    max_least (height_of (filled_terrain t levels) p) (crest (filled_terrain t levels) q rest)
    (crest t p (q ∷ rest))
    (new_height_below t levels h p (q ∷ rest) path)
    (trans (crest (filled_terrain t levels) q rest) (crest t q rest) (crest t p (q ∷ rest))
    (crest_again t levels h q rest path.1) (max_right (height_of t p) (crest t q rest)))

filled_again : (t : Terrain) (levels : List (Option ℤ)) → IsFilled t levels → (p : Place)
    (level : ℤ) → HasLevel t levels p level → IsFilledHeight (filled_terrain t levels) p level
filled_again t levels h p level l =
    let rest = l.filled.reached.0 in
    let path = l.filled.reached.1 in
    let below : (w : List Place) → level ≤ℤ crest (filled_terrain t levels) p w =
    λ w. subst (λ z. z ≤ℤ crest (filled_terrain t levels) p w) (new_height t levels p level l)
    (height_below_crest (filled_terrain t levels) p w) in
    record {
      reached = (
        rest,
        path_again t levels h p rest path,
        between (crest (filled_terrain t levels) p rest) level
            (subst (λ z. crest (filled_terrain t levels) p rest ≤ℤ z) l.filled.reached.2
            (crest_again t levels h p rest path))
            (below rest),
      );
      least = λ w _. below w;
    }

each_again : (t : Terrain) (levels : List (Option ℤ)) → IsFilled t levels →
    (p : Place) (o : Option ℤ) → entry_at t.cols t.rows levels p ≡ o → MatchOption o
    (entry_at t.cols t.rows levels p ≡ None) (λ _. (level : ℤ) × (entry_at t.cols t.rows levels p
    ≡ Some level) × IsFilledHeight (filled_terrain t levels) p level)
each_again t levels h p None e = e
each_again t levels h p (Some x) e =
    let seen : IsSome (height_at t p) = sym (same_data t levels h p) ∙ ap is_some e in
    let l = data_level t levels h p seen in
    (l.0, l.1.entry, filled_again t levels h p l.0 l.1)

pub filled_twice : (t : Terrain) (levels : List (Option ℤ)) → IsFilled t levels →
    IsFilled (filled_terrain t levels) levels
filled_twice t levels h = record {
  size = h.size;
  each = λ p _. each_again t levels h p (entry_at t.cols t.rows levels p) refl;
}
