-- The lists made for tiles, of codes and of counts. The codes of all tiles, put together, are the
-- directions of the terrain.
use Rattle.std.proofs.Common.{◌≡◌, ℕ, ◌+◌, List, Option, Vec, Global, vec_len, get_or, sym, ap, refl, ◌∙◌, arith}
use Rattle.terrain.specs.Raster.{Terrain}
use Rattle.terrain.specs.declared.place.Place.{Place}
use Rattle.terrain.proofs.Places.{make_place, same_place}
use Rattle.tiles.specs.declared.bounds.Bounds.{Bounds}
use Rattle.tiles.specs.Cutting.{Cutting, Cuts, IsCutting, IsPutBack, tile_count}
use Rattle.tile_maps.proofs.Whole.{made_whole, map_of_size}
use Rattle.drainage.specs.StepCounts.{known}
use Rattle.std.proofs.lemmas.Option.{slice_get-get_or}
use Rattle.drain.specs.Counts.{AreCoded}
use Rattle.drain.specs.Directions.{IsCodeAt, AreDirections}
use Rattle.drain.specs.Search.{IsCopied, count_on}

-- the directions of all tiles, put together, are those of the terrain
pub coded_whole : {t : Terrain} {c : Cutting} (lists : Vec (Vec (Option ℕ) Global) Global)
    {whole : List (Option ℕ)} → Cuts c t → IsCutting c → AreCoded t c lists.items →
    IsPutBack c lists.items whole → AreDirections t whole
coded_whole {t} {c} lists {whole} cuts lawful coded put =
    let count : vec_len lists ≡ tile_count c = omega (arith, lists.ok.0, coded.size) in
    let made = made_whole c (IsCodeAt t) (tile_count c) lists count refl
    (λ j list below. coded.each j (get_or lists.items j list)
    (slice_get-get_or lists.items j list (omega (arith, below, coded.size)))) whole lawful put in
    let all = map_of_size c t.cols t.rows (IsCodeAt t) whole cuts.0 cuts.1 made in
    record { size = all.0; each = all.1 }

pub copied : (b : Bounds) (counts : List ℕ) (row col : ℕ) (x : Option ℕ) →
    x ≡ known (count_on b counts (make_place (row + 1) (col + 1))) →
    IsCopied b counts (make_place (b.top + row) (b.left + col)) x
copied b counts row col x is s shows = is ∙ ap (λ (r : Place). known (count_on b counts r)) (sym (same_place s
    (make_place (row + 1) (col + 1)) (omega (arith, shows.0)) (omega (arith, shows.1))))
