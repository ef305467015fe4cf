-- A terrain's heights are from -10^15 to 10^15 units. Code keeps them in an `i64`.
use Rattle.std.proofs.Common.{◌≡◌, ℕ, ◌<◌, ℤ, pos, List, length, get_or, Option, None, Some, IfSome, unwrap_or, sym, ap, ◌∙◌, arith}
use mir.Syntax.{Width, w64}
use Rattle.std.specs.List.{All}
use Rattle.std.proofs.lemmas.List.Elements.{All-get_or}
use Rattle.std.proofs.lemmas.Option.{MatchOption-at_some}
use Rattle.terrain.specs.Raster.{Terrain, IsTerrain, IsHeight}
use Rattle.terrain.specs.Neighbours.{height_at, height_of, index_of}
use Rattle.terrain.specs.declared.place.Place.{Place}
use Rattle.terrain.proofs.Places.{inside_from_entry, entry-inside, index_below}

abbrev pub height_width : Width
height_width = w64

pub height_is : (t : Terrain) (p : Place) (h : ℤ) → height_at t p ≡ Some h → height_of t p ≡ h
height_is t p h e = ap (λ (o : Option ℤ). unwrap_or o (pos 0)) e

pub listed_height : (cells : List (Option ℤ)) (i : ℕ) (h : ℤ) → All (λ c. IfSome c IsHeight) cells →
    i < length cells → get_or cells i None ≡ Some h → IsHeight h
listed_height cells i h heights within e = MatchOption-at_some _ _ h e
    (All-get_or (λ (c : Option ℤ). IfSome c IsHeight) cells i None within heights)

pub height_in : (t : Terrain) (q : Place) (h : ℤ) → IsTerrain t → height_at t q ≡ Some h →
    IsHeight h
height_in t q h lawful e =
    let inside = inside_from_entry t.cols t.rows t.cells q h e in
    listed_height t.cells (index_of t.cols q) h lawful.heights
    (omega (arith, lawful.size, index_below t.cols t.rows q inside.0 inside.1))
    (sym (entry-inside t.cols t.rows t.cells q inside.0 inside.1) ∙ e)
