-- Subcommands and options for `clap`, and what a command line means: a request, help or refusal.
-- Trust base.
use Rattle.std.specs.Prelude.{◌≡◌, ◌⊎◌, ℕ, Bool, ◌<◌, ◌^◌, pos, true, false, ◌||◌, List, [], ◌∷◌, ◌++◌, map, Option, Some, None, codes, Any, is_none, unwrap_or, if◌then◌else◌}
use Rattle.std.specs.List.{position}
use Rattle.std.specs.Option.{option_map_or}
use Rattle.std.specs.Str.{bytes_eq}
use Rattle.std.specs.Str.Parse.{IsNumeral, digits_value, without_leading_plus}
use Rattle.clap.specs.Lexer.{usize_max}
use Rattle.clap.specs.Words.{App, Row, Rule, Shape, Text, all_of, first_of, new_rule, one_of, subcommand_of}
use Rattle.clap.specs.Simple.{new_shape}
use Rattle.clap.specs.Faults.{fault_of}
use Rattle.clap.specs.declared.builder.action.ArgAction.TheVariants.{Append, SetTrue}
use Rattle.clap.specs.declared.builder.value_parser.ValueParser.{ValueParser}
use Rattle.clap.specs.declared.builder.value_parser.ValueParser.TheVariants.{Signed}
use Rattle.clap.specs.declared.error.kind.ErrorKind.{ErrorKind}
use Rattle.clap.specs.declared.error.kind.ErrorKind.TheVariants.{DisplayHelp, DisplayVersion}
use Rattle.terrain.specs.declared.observer.Observer.{Observer}
use Rattle.terrain.specs.declared.place.Place.{Place}
use Rattle.request.specs.declared.map.Map.{Map}
use Rattle.request.specs.declared.map.Map.TheVariants.{Fill, Flow, Accumulate, Basins, Catchments, View, Rise, Several}
use Rattle.request.specs.declared.map_words.MapsFault.{MapsFault}
use Rattle.request.specs.MapWords.{drainage_map_of, maps_fault}
use Rattle.request.specs.PlaceWords.{observer_of, place_of_word}
use Rattle.request.specs.Request.{Request, IsRequest}

-- ---- subcommands and options

-- A parser that accepts the whole numbers from `low` to `high`, both included.
abbrev pub from_to : ℕ → ℕ → ValueParser
from_to low high = Signed (pos low) (pos high)

-- The option `name` takes one number that `numbers` accepts. Without the option, the number is
-- `default`.
abbrev pub number_rule : Text → ValueParser → Text → Rule
number_rule name numbers default = record (new_rule name) {
  long = Some name;
  value_names = 1;
  defaults = default ∷ [];
  parser = Some numbers;
}

-- `--tile N`: the side of tiles in cells.
abbrev pub tile_rule : Rule
tile_rule = number_rule (codes "tile") (from_to 1 4096) (codes "256")

-- `--workers N`: the number of workers. One runs on the caller's thread; several have a thread
-- each.
abbrev pub workers_rule : Rule
workers_rule = number_rule (codes "workers") (from_to 1 64) (codes "1")

-- `--scale D`: the decimals of heights.
abbrev pub scale_rule : Rule
scale_rule = number_rule (codes "scale") (from_to 0 6) (codes "0")

-- `--progress`: a flag, which takes no value.
abbrev pub progress_rule : Rule
progress_rule = record (new_rule (codes "progress")) {
  long = Some (codes "progress");
  action = Some SetTrue;
}

-- `--target N`: the height of targets above the ground, in units of 10^-D.
abbrev pub target_rule : Rule
target_rule = number_rule (codes "target") (from_to 0 4294967295) (codes "0")

-- `--radius N`: the greatest distance of a target, in cells.
abbrev pub radius_rule : Rule
radius_rule = number_rule (codes "radius") (from_to 0 4294967295) (codes "8192")

-- Positional words, at least one.
abbrev pub words_rule : Text → Rule
words_rule name = record (new_rule name) {
  action = Some Append;
  range = Some (record { start_inclusive = 1; end_inclusive = usize_max });
  value_names = 1;
  required = true;
}

-- Observer words `ROW,COL,EYE`.
abbrev pub observers_rule : Rule
observers_rule = words_rule (codes "observers")

-- Gauge words `ROW,COL`.
abbrev pub gauges_rule : Rule
gauges_rule = words_rule (codes "gauges")

-- `--sink ROW,COL`: an option that may be repeated.
abbrev pub sink_rule : Rule
sink_rule = record (new_rule (codes "sink")) {
  long = Some (codes "sink");
  action = Some Append;
  value_names = 1;
}

-- `--gauge ROW,COL`: an option that may be repeated.
abbrev pub gauge_rule : Rule
gauge_rule = record (new_rule (codes "gauges")) {
  long = Some (codes "gauge");
  action = Some Append;
  value_names = 1;
}

-- Positional sink words `ROW,COL`, any number of them.
abbrev pub sinks_rule : Rule
sinks_rule = record (new_rule (codes "sinks")) {
  action = Some Append;
  range = Some (record { start_inclusive = 0; end_inclusive = usize_max });
  value_names = 1;
}

-- Subcommand `name` with the options that all maps share.
abbrev pub map_shape : Text → Shape
map_shape name = record
    (new_shape name) { rules = tile_rule ∷ workers_rule ∷ scale_rule ∷ progress_rule ∷ [] }

-- The subcommand `name` of filled heights, directions, accumulation or basins. It takes sink words,
-- and sinks by `--sink`.
abbrev pub drainage_shape : Text → Shape
drainage_shape name = record (new_shape name) {
  rules = tile_rule ∷ workers_rule ∷ scale_rule ∷ progress_rule ∷ sink_rule ∷ sinks_rule ∷ [];
}

-- The subcommand of catchments. It takes gauge words, and sinks by `--sink`.
abbrev pub catchments_shape : Shape
catchments_shape = record (new_shape (codes "catchments")) {
  rules = tile_rule ∷ workers_rule ∷ scale_rule ∷ progress_rule ∷ sink_rule ∷ gauges_rule ∷ [];
}

-- The subcommand of a viewshed. It takes observer words, `--target` and `--radius`.
abbrev pub view_shape : Shape
view_shape = record (new_shape (codes "view")) {
  rules = tile_rule ∷ workers_rule ∷ scale_rule ∷ progress_rule ∷ target_rule ∷ radius_rule
      ∷ observers_rule ∷ [];
}

-- The subcommand of a rise. It takes observer words and `--radius`.
abbrev pub rise_shape : Shape
rise_shape = record (new_shape (codes "rise")) {
  rules = tile_rule ∷ workers_rule ∷ scale_rule ∷ progress_rule ∷ radius_rule ∷ observers_rule ∷ [];
}

-- The subcommand of several maps. It takes map words, sinks by `--sink` and gauges by `--gauge`.
abbrev pub maps_shape : Shape
maps_shape = record (new_shape (codes "maps")) {
  rules = tile_rule ∷ workers_rule ∷ scale_rule ∷ progress_rule ∷ sink_rule ∷ gauge_rule
      ∷ words_rule (codes "maps") ∷ [];
}

-- The program, which has a version and requires one of these subcommands.
abbrev pub program_app : App
program_app = record {
  top = record (new_shape (codes "relief")) {
    disable_help_subcommand = true;
    has_version = true;
    subcommand_required = true;
    is_leaf = false;
  };
  subs = drainage_shape (codes "fill") ∷ drainage_shape (codes "flow")
      ∷ drainage_shape (codes "accumulate") ∷ drainage_shape (codes "basins") ∷ catchments_shape
      ∷ view_shape ∷ rise_shape ∷ maps_shape ∷ [];
}

-- ---- what a command line requests

-- An error of `clap` of this kind answers a request for help or the version.
abbrev pub IsHelp : ErrorKind → Type 0
IsHelp kind = (kind ≡ DisplayHelp) ⊎ (kind ≡ DisplayVersion)

-- `clap` answers the words with help or the version.
abbrev pub AskForHelp : List Text → Type 0
AskForHelp words = Any IsHelp (fault_of program_app words)

-- `clap` accepts the words as subcommand `name`, and `rows` has the values of its arguments.
pub record AreCommand (words : List Text) (name : Text) (rows : List Row) : Type 0 where
  pub accepted : fault_of program_app words ≡ []
  pub found : subcommand_of program_app words ≡ Some (name, rows)

-- The value of option `id` spells the number `n`, which is below 2^32.
pub record HasNumber (rows : List Row) (id : Text) (n : ℕ) : Type 0 where
  pub text : Text
  pub given : one_of id rows ≡ Some text
  pub numeral : IsNumeral 10 (without_leading_plus text)
  pub spelled : digits_value 10 (without_leading_plus text) ≡ n
  pub small : n < 2 ^ 32

-- The flag `id` is given: `clap` keeps the value `true` for that flag.
abbrev pub is_flag_given : Text → List Row → Bool
is_flag_given id rows =
    option_map_or (λ text. bytes_eq text (codes "true")) (first_of id rows) false

-- The words given for the argument `id`.
abbrev pub words_of : Text → List Row → List Text
words_of id rows = unwrap_or (all_of id rows) []

-- Each word spells one item, and the words in order spell the items in order.
abbrev pub Spell : {X : Type 0} → (Text → Option X) → List Text → List X → Type 0
Spell spelled words items = map spelled words ≡ map Some items

-- The first word that spells nothing is number `place` of the words, counted from 0.
abbrev pub IsFirstBad : {X : Type 0} → (Text → Option X) → List Text → ℕ → Type 0
IsFirstBad spelled words place = position (λ word. is_none (spelled word)) words ≡ Some place

-- The observer words spell these observers.
abbrev pub HasObservers : List Row → List Observer → Type 0
HasObservers rows observers = Spell observer_of (words_of (codes "observers") rows) observers

-- The gauge words spell these gauges.
abbrev pub HasGauges : List Row → List Place → Type 0
HasGauges rows gauges = Spell place_of_word (words_of (codes "gauges") rows) gauges

-- The map words beside the gauge words have this fault, or none.
abbrev pub fault_of_maps : List Row → Option MapsFault
fault_of_maps rows = maps_fault (words_of (codes "maps") rows) (words_of (codes "gauges") rows)

-- Subcommand `name`, with the argument values `rows`, requests this map.
abbrev pub Names : Text → List Row → Map → Type 0
Names name rows Fill = name ≡ codes "fill"
Names name rows Flow = name ≡ codes "flow"
Names name rows Accumulate = name ≡ codes "accumulate"
Names name rows Basins = name ≡ codes "basins"
Names name rows (Catchments gauges) = (name ≡ codes "catchments") × HasGauges rows gauges.items
Names name rows (View observers target radius) =
    (name ≡ codes "view") × HasObservers rows observers.items
    × HasNumber rows (codes "target") target × HasNumber rows (codes "radius") radius
Names name rows (Rise observers radius) =
    (name ≡ codes "rise") × HasObservers rows observers.items
    × HasNumber rows (codes "radius") radius
Names name rows (Several maps gauges) =
    (name ≡ codes "maps") × HasGauges rows gauges.items
    × Spell drainage_map_of (words_of (codes "maps") rows) maps.items
    × (fault_of_maps rows ≡ None)

-- The subcommand is `view` or `rise`, which take no sinks.
abbrev pub is_of_sight : Text → Bool
is_of_sight name = bytes_eq name (codes "view") || bytes_eq name (codes "rise")

-- The sink words, then the values of `--sink`; none for subcommands `view` and `rise`.
abbrev pub sink_words : Text → List Row → List Text
sink_words name rows =
    if is_of_sight name then [] else words_of (codes "sinks") rows ++ words_of (codes "sink") rows

-- `--tile`, `--workers` and `--scale` have these values.
abbrev pub HasOptions : List Row → ℕ → ℕ → ℕ → Type 0
HasOptions rows tile workers scale =
    HasNumber rows (codes "tile") tile × HasNumber rows (codes "workers") workers
    × HasNumber rows (codes "scale") scale

-- The words spell the map, sinks and options of `request`; tile side, workers and scale are within
-- their limits.
pub record RequestFor (words : List Text) (request : Request) : Type 0 where
  pub name : Text
  pub rows : List Row
  pub command : AreCommand words name rows
  pub map : Names name rows request.map
  pub sinks : Spell place_of_word (sink_words name rows) request.sinks
  pub options : HasOptions rows request.tile request.workers request.scale
  pub progress : request.progress ≡ is_flag_given (codes "progress") rows
  pub limits : IsRequest request

-- `clap` refuses the words, or accepts them although they have no request.
abbrev pub AreRefused : List Text → Type 0
AreRefused words = Any (λ kind. ¬ IsHelp kind) (fault_of program_app words)
    ⊎ ((fault_of program_app words ≡ []) × ((request : Request) → ¬ RequestFor words request))

-- The subcommand takes observers.
abbrev pub TakesObservers : Text → Type 0
TakesObservers name = (name ≡ codes "view") ⊎ (name ≡ codes "rise")

-- The subcommand is `view` or `rise`, and the first observer word that spells no observer is number
-- `place` of the observer words, counted from 0.
pub record HasBadObserver (words : List Text) (place : ℕ) : Type 0 where
  pub name : Text
  pub rows : List Row
  pub command : AreCommand words name rows
  pub takes : TakesObservers name
  pub first : IsFirstBad observer_of (words_of (codes "observers") rows) place

-- The subcommand takes gauges.
abbrev pub TakesGauges : Text → Type 0
TakesGauges name = (name ≡ codes "catchments") ⊎ (name ≡ codes "maps")

-- The subcommand is `catchments` or `maps`, and the first gauge word that spells no gauge is number
-- `place` of the gauge words, counted from 0.
pub record HasBadGauge (words : List Text) (place : ℕ) : Type 0 where
  pub name : Text
  pub rows : List Row
  pub command : AreCommand words name rows
  pub takes : TakesGauges name
  pub first : IsFirstBad place_of_word (words_of (codes "gauges") rows) place

-- The subcommand is `maps`, no gauge word is bad, and the map words beside the gauge words have
-- this fault.
pub record HasMapsFault (words : List Text) (fault : MapsFault) : Type 0 where
  pub rows : List Row
  pub command : AreCommand words (codes "maps") rows
  pub gauges : List Place
  pub spelled : HasGauges rows gauges
  pub faulty : fault_of_maps rows ≡ Some fault

-- The words name a map, and the first sink word that spells no sink is number `place` of the sink
-- words, counted from 0.
pub record HasBadSink (words : List Text) (place : ℕ) : Type 0 where
  pub name : Text
  pub rows : List Row
  pub command : AreCommand words name rows
  pub map : Map
  pub named : Names name rows map
  pub first : IsFirstBad place_of_word (sink_words name rows) place

-- The words of the command line; an empty list counts as the program's name alone.
abbrev pub words_given : List Text → List Text
words_given [] = codes "relief" ∷ []
words_given (word ∷ words) = word ∷ words
