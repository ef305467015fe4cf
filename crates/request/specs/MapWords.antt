-- Which drainage map a word names, and the fault of the words of `relief maps`.
-- Trust base.
use Rattle.std.specs.Prelude.{◌==◌, Bool, false, ◌||◌, List, [], ◌∷◌, length, Option, None, Some, codes, is_none, option_map, if◌then◌else◌}
use Rattle.std.specs.List.{list_any, position}
use Rattle.std.specs.Option.{option_or}
use Rattle.std.specs.Str.{bytes_eq}
use Rattle.clap.specs.Words.{Text}
use Rattle.request.specs.declared.map.DrainageMap.{DrainageMap}
use Rattle.request.specs.declared.map.DrainageMap.TheVariants.{Fill, Flow, Accumulate, Basins, Catchments}
use Rattle.request.specs.declared.map_words.MapsFault.{MapsFault}
use Rattle.request.specs.declared.map_words.MapsFault.TheVariants.{UnknownMap, RepeatedMap, NoGauge, NoCatchments}

-- The drainage map that the word names, or `None`.
abbrev pub drainage_map_of : Text → Option DrainageMap
drainage_map_of word =
    if bytes_eq word (codes "fill") then Some Fill
    else if bytes_eq word (codes "flow") then Some Flow
    else if bytes_eq word (codes "accumulate") then Some Accumulate
    else if bytes_eq word (codes "basins") then Some Basins
    else if bytes_eq word (codes "catchments") then Some Catchments
    else None

-- The word is one of the words.
abbrev pub is_among : Text → List Text → Bool
is_among word words = list_any (λ other. bytes_eq other word) words

-- A word is in the list twice.
abbrev pub has_repeat : List Text → Bool
has_repeat [] = false
has_repeat (word ∷ words) = is_among word words || has_repeat words

-- The fault of map words that each name a map, beside these gauge words: a map named twice,
-- catchments without a gauge, or a gauge without catchments. `None` if there is none.
abbrev pub list_fault : List Text → List Text → Option MapsFault
list_fault words gauges =
    if has_repeat words then Some RepeatedMap
    else if is_among (codes "catchments") words
    then (if length gauges == 0 then Some NoGauge else None)
    else (if length gauges == 0 then None else Some NoCatchments)

-- The fault of map words beside these gauge words, or `None`. A word that names no map comes first.
abbrev pub maps_fault : List Text → List Text → Option MapsFault
maps_fault words gauges =
    option_or (option_map UnknownMap (position (λ word. is_none (drainage_map_of word)) words))
    (list_fault words gauges)
