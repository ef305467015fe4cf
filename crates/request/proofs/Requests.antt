-- Requests of one command line have the same map, options and sinks. A command line with a request
-- is not refused and asks for no help. The examples of `specs/Laws` hold.
use Rattle.std.proofs.Common.{◌≡◌, ◌+◌, ◌*◌, ◌<◌, ◌^◌, ℕ, List, [], ◌∷◌, map, drop, get_or, slice_index, codes, arith, rules, Option, Some, None, sym, ap, ap₂, subst, refl, inl, inr, ◌∙◌}
use Rattle.std.specs.Prelude.{Any}
use Rattle.std.specs.Option.{option_map_or}
use Rattle.std.specs.Str.Parse.{IsNumeral, digits_value, without_leading_plus}
use Rattle.std.proofs.lemmas.Option.{same_Some}
use Rattle.clap.specs.Words.{Row, Text, one_of, subcommand_of}
use Rattle.clap.specs.Kinds.{Kinds}
use Rattle.clap.specs.declared.error.kind.ErrorKind.{ErrorKind}
use Rattle.clap.specs.declared.error.kind.ErrorKind.TheVariants as kind
use Rattle.clap.proofs.OnLiterals.{clap_on_literals}
use Rattle.terrain.specs.declared.observer.Observer.{Observer}
use Rattle.terrain.specs.declared.place.Place.{Place}
use Rattle.request.specs.CommandLine.{AreRefused, AskForHelp, HasNumber, HasOptions, IsHelp, Names, Spell, RequestFor, is_flag_given, program_app, sink_words}
use Rattle.request.specs.Laws.{AreSame, BasinsOfSinks, CatchmentsOfAGauge, FillAlone, HelpOfView, MapsInOrder, NoSideOfZero, NoTargetOfARise, RiseWithRadius, SinkOfAnOption, VersionAlone, ViewWithRadius}
use Rattle.request.specs.PlaceWords.{place_of_word}
use Rattle.request.specs.Request.{Request}
use Rattle.request.specs.declared.map.DrainageMap.{DrainageMap}
use Rattle.request.specs.declared.map.Map.{Map}
use Rattle.request.specs.declared.map.Map.TheVariants.{Fill, Flow, Accumulate, Basins, Catchments, View, Rise, Several}
use Rattle.request.proofs.Given.{same_number}

-- the second and third letters of a map's name, 256 times the one and the other: they differ for all
-- seven and for `maps`
abbrev letters : Map → ℕ
letters Fill = 26988
letters Flow = 27759
letters Accumulate = 25443
letters Basins = 24947
letters (Catchments gauges) = 24948
letters (View observers target radius) = 26981
letters (Rise observers radius) = 26995
letters (Several maps gauges) = 24944

abbrev letters_of : Text → ℕ
letters_of t = slice_index t 1 * 256 + slice_index t 2

name_letters : (name : Text) (rows : List Row) (m : Map) → Names name rows m → letters_of name ≡ letters m
name_letters name rows (Catchments gauges) n = ap letters_of n.0
name_letters name rows (View observers target radius) n = ap letters_of n.0
name_letters name rows (Rise observers radius) n = ap letters_of n.0
name_letters name rows (Several maps gauges) n = ap letters_of n.0
name_letters name rows m n = ap letters_of n

same_somes : {X : Type 0} (xs ys : List X) → map Some xs ≡ map Some ys → xs ≡ ys
same_somes [] [] e = refl
same_somes [] (y ∷ ys) e = absurd (cc)
same_somes (x ∷ xs) [] e = absurd (cc)
same_somes {X} (x ∷ xs) (y ∷ ys) e =
    ap₂ (λ (z : X) (zs : List X). z ∷ zs) (same_Some x y (ap (λ (zs : List (Option X)). get_or zs 0 None) e))
    (same_somes xs ys (ap (drop 1) e))

one_map : (name : Text) (rows : List Row) (m n : Map) → Names name rows m → Names name rows n → letters m ≡ letters n →
    AreSame m n
one_map name rows Fill Fill a b e = refl
one_map name rows Flow Flow a b e = refl
one_map name rows Accumulate Accumulate a b e = refl
one_map name rows Basins Basins a b e = refl
one_map name rows (Catchments gauges) (Catchments others) a b e = same_somes gauges.items others.items (sym a.1 ∙ b.1)
one_map name rows (View observers target radius) (View others height reach) a b e = (
  same_somes observers.items others.items (sym a.1 ∙ b.1),
  same_number rows (codes "target") target height a.2 b.2,
  same_number rows (codes "radius") radius reach a.3 b.3,
)
one_map name rows (Rise observers radius) (Rise others reach) a b e = (
  same_somes observers.items others.items (sym a.1 ∙ b.1),
  same_number rows (codes "radius") radius reach a.2 b.2,
)
one_map name rows (Several maps gauges) (Several others places) a b e = (
  same_somes maps.items others.items (sym a.2 ∙ b.2),
  same_somes gauges.items places.items (sym a.1 ∙ b.1),
)
one_map name rows m n a b e = absurd (omega arith)

pub one_request : (words : List Text) (request other : Request) → RequestFor words request → RequestFor words other →
    AreSame request.map other.map × (request.tile ≡ other.tile) × (request.workers ≡ other.workers) ×
    (request.scale ≡ other.scale) × (request.sinks ≡ other.sinks) × (request.progress ≡ other.progress)
one_request words request other a b =
    let command = same_Some _ _ (sym b.command.found ∙ a.command.found) in
    let map = subst (λ (p : Text × List Row). Names p.0 p.1 other.map) command b.map in
    let options =
    subst (λ (p : Text × List Row). HasOptions p.1 other.tile other.workers other.scale) command b.options in (
      one_map a.name a.rows request.map other.map a.map map
          (sym (name_letters a.name a.rows request.map a.map) ∙ name_letters a.name a.rows other.map map),
      same_number a.rows (codes "tile") _ _ a.options.0 options.0,
      same_number a.rows (codes "workers") _ _ a.options.1 options.1,
      same_number a.rows (codes "scale") _ _ a.options.2 options.2,
      same_somes request.sinks other.sinks (sym a.sinks ∙
          subst (λ (p : Text × List Row). Spell place_of_word (sink_words p.0 p.1) other.sinks) command b.sinks),
      a.progress ∙ ap (λ (p : Text × List Row). is_flag_given (codes "progress") p.1) (sym command) ∙ sym b.progress,
    )

none_any : (P : ErrorKind → Type 0) (ks : Kinds) → ks ≡ [] → Any P ks → ⊥
none_any P ks none any = let some = rw none at any in absurd (omega (arith, some.2))

pub request_accepted : (words : List Text) (request : Request) →
    RequestFor words request → ¬ AskForHelp words × ¬ AreRefused words
request_accepted words request w = (
  none_any IsHelp _ w.command.accepted,
  λ refused. elim refused [
    | inl fault ↦
        none_any (λ kind. ¬ IsHelp kind) _ w.command.accepted fault
    | inr none ↦ none.1 request w
  ],
)

abbrev rows_in : List Text → List Row
rows_in words = option_map_or (λ p. p.1) (subcommand_of program_app words) []

spelled : (rows : List Row) (id text : Text) (n : ℕ) → one_of id rows ≡ Some text →
    IsNumeral 10 (without_leading_plus text) → digits_value 10 (without_leading_plus text) ≡ n → n < 2 ^ 32 →
    HasNumber rows id n
spelled rows id text n given numeral value small =
    record { text = text; given = given; numeral = numeral; spelled = value; small = small }

default_options : (given : List Row) → one_of (codes "tile") given ≡ Some (codes "256") →
    one_of (codes "workers") given ≡ Some (codes "1") → one_of (codes "scale") given ≡ Some (codes "0") →
    HasOptions given 256 1 0
default_options given tile workers scale = (
  spelled given (codes "tile") (codes "256") 256 tile (search rules) refl (omega arith),
  spelled given (codes "workers") (codes "1") 1 workers (search rules) refl (omega arith),
  spelled given (codes "scale") (codes "0") 0 scale (search rules) refl (omega arith),
)

abbrev fill_words : List Text
fill_words = codes "relief" ∷ codes "fill" ∷ []

pub fill_alone : FillAlone
unfolding clap_on_literals
fill_alone = record {
  name = codes "fill";
  rows = rows_in fill_words;
  command = record { accepted = refl; found = refl };
  map = refl;
  sinks = refl;
  options = default_options (rows_in fill_words) refl refl refl;
  progress = refl;
  limits = record { in_limits = search rules; view = λ v. absurd v };
}

abbrev basins_words : List Text
basins_words = codes "relief" ∷ codes "basins" ∷ codes "1,2" ∷ codes "0,3" ∷ []

pub basins_of_sinks : BasinsOfSinks
unfolding clap_on_literals
basins_of_sinks = record {
  name = codes "basins";
  rows = rows_in basins_words;
  command = record { accepted = refl; found = refl };
  map = refl;
  sinks = refl;
  options = default_options (rows_in basins_words) refl refl refl;
  progress = refl;
  limits = record { in_limits = search rules; view = λ v. absurd v };
}

abbrev option_words : List Text
option_words = codes "relief" ∷ codes "basins" ∷ codes "--sink" ∷ codes "0,3" ∷ codes "1,2" ∷ []

pub sink_of_an_option : SinkOfAnOption
unfolding clap_on_literals
sink_of_an_option = record {
  name = codes "basins";
  rows = rows_in option_words;
  command = record { accepted = refl; found = refl };
  map = refl;
  sinks = refl;
  options = default_options (rows_in option_words) refl refl refl;
  progress = refl;
  limits = record { in_limits = search rules; view = λ v. absurd v };
}

abbrev catchments_words : List Text
catchments_words =
    codes "relief" ∷ codes "catchments" ∷ codes "--progress" ∷ codes "--sink" ∷ codes "1,2" ∷ codes "--sink" ∷
    codes "0,3" ∷ codes "4,5" ∷ []

pub catchments_of_a_gauge : CatchmentsOfAGauge
unfolding clap_on_literals
catchments_of_a_gauge gauges one = record {
  name = codes "catchments";
  rows = rows_in catchments_words;
  command = record { accepted = refl; found = refl };
  map = (refl, ap (λ (ps : List Place). map Some ps) (sym one));
  sinks = refl;
  options = default_options (rows_in catchments_words) refl refl refl;
  progress = refl;
  limits = record { in_limits = search rules; view = λ v. absurd v };
}

abbrev maps_words : List Text
maps_words = codes "relief" ∷ codes "maps" ∷ codes "--gauge" ∷ codes "4,5" ∷ codes "flow" ∷ codes "catchments" ∷ []

pub maps_in_order : MapsInOrder
unfolding clap_on_literals
maps_in_order maps gauges these one = record {
  name = codes "maps";
  rows = rows_in maps_words;
  command = record { accepted = refl; found = refl };
  map = (
    refl,
    ap (λ (ps : List Place). map Some ps) (sym one),
    ap (λ (ms : List DrainageMap). map Some ms) (sym these),
    refl,
  );
  sinks = refl;
  options = default_options (rows_in maps_words) refl refl refl;
  progress = refl;
  limits = record { in_limits = search rules; view = λ v. absurd v };
}

abbrev view_words : List Text
view_words = codes "relief" ∷ codes "view" ∷ codes "--radius" ∷ codes "5" ∷ codes "1,2,3" ∷ []

pub view_with_radius : ViewWithRadius
unfolding clap_on_literals
view_with_radius observers one = record {
  name = codes "view";
  rows = rows_in view_words;
  command = record { accepted = refl; found = refl };
  map = (
    refl,
    ap (λ (os : List Observer). map Some os) (sym one),
    spelled (rows_in view_words) (codes "target") (codes "0") 0 refl (search rules) refl (omega arith),
    spelled (rows_in view_words) (codes "radius") (codes "5") 5 refl (search rules) refl (omega arith),
  );
  sinks = refl;
  options = default_options (rows_in view_words) refl refl refl;
  progress = refl;
  limits = record { in_limits = search rules; view = λ v. refl };
}

abbrev rise_words : List Text
rise_words = codes "relief" ∷ codes "rise" ∷ codes "--radius" ∷ codes "5" ∷ codes "1,2,3" ∷ []

pub rise_with_radius : RiseWithRadius
unfolding clap_on_literals
rise_with_radius observers one = record {
  name = codes "rise";
  rows = rows_in rise_words;
  command = record { accepted = refl; found = refl };
  map = (
    refl,
    ap (λ (os : List Observer). map Some os) (sym one),
    spelled (rows_in rise_words) (codes "radius") (codes "5") 5 refl (search rules) refl (omega arith),
  );
  sinks = refl;
  options = default_options (rows_in rise_words) refl refl refl;
  progress = refl;
  limits = record { in_limits = search rules; view = λ v. refl };
}

pub no_target_of_a_rise : NoTargetOfARise
unfolding clap_on_literals
no_target_of_a_rise = inl (
  0,
  kind.UnknownArgument,
  omega arith,
  refl,
  λ help. elim help [ inl same ↦ cc | inr same ↦ cc ],
)

pub no_side_of_zero : NoSideOfZero
unfolding clap_on_literals
no_side_of_zero = inl (0, kind.ValueValidation, omega arith, refl, λ help. elim help [ inl same ↦ cc | inr same ↦ cc ])

pub help_of_view : HelpOfView
unfolding clap_on_literals
help_of_view = (0, kind.DisplayHelp, omega arith, refl, inl refl)

pub version_alone : VersionAlone
unfolding clap_on_literals
version_alone = (refl, (0, kind.DisplayVersion, omega arith, refl, inr refl))
