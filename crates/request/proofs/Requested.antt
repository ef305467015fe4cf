-- The subcommand that `clap` finds, with its values, decides what a command line requests, or which
-- fault the command line has.
use Rattle.std.proofs.Common.{◌≡◌, ℕ, List, [], length, map, eqb, Option, Some, None, true, false, codes, sym, ap, ap₂, subst, refl, inl, ◌∙◌, Bor, Box}
use Rattle.std.specs.Prelude.{option_map}
use Rattle.std.specs.Box.{box_value}
use Rattle.std.proofs.lemmas.Option.{none-some, same_Some}
use Rattle.clap.specs.Words.{App, Row, Text, is_simple, subcommand_of, subcommand_rows, subcommand_rows_of}
use Rattle.clap.specs.Simple.{HasMatchesOf}
use Rattle.clap.specs.Faults.{fault_of, is_simple_and_free}
use Rattle.clap.specs.declared.parser.matches.ArgMatches.{ArgMatches}
use Rattle.clap.specs.declared.parser.matches.ArgMatches.TheViews.{out-SubCommand}
use Rattle.clap.specs.declared.parser.matches.SubCommand.{SubCommand}
use Rattle.clap.proofs.OnLiterals.{clap_on_literals}
use Rattle.request.specs.CommandLine.{HasBadGauge, HasBadObserver, HasBadSink, HasMapsFault, HasOptions, IsFirstBad, Names, Spell, RequestFor, is_flag_given, program_app, sink_words, words_given}
use Rattle.request.specs.PlaceWords.{place_of_word}
use Rattle.request.specs.Request.{AreLimits, IsSightMap, Request}
use Rattle.request.specs.WordsFaults.{IsBadObserverAfter, IsBadGaugeAfter, IsFaultWith, IsFaultOf, IsMapFault, IsMapsFaultAfter}
use Rattle.request.specs.declared.words.WordsFault.{WordsFault}
use Rattle.request.specs.declared.words.WordsFault.TheVariants.{Clap, BadObserver, BadGauge, BadSink, BadMaps, NoMap}
use Rattle.request.specs.declared.map.Map.{Map}
use Rattle.request.specs.declared.map_words.MapsFault.{MapsFault}
use Rattle.terrain.specs.declared.place.Place.{Place}
use Rattle.request.proofs.Given.{map_without_bad, map_without_bad_gauge, map_without_maps_fault, none_bad, sight_without_gauges, sight_without_maps_fault}

program_simple : is_simple program_app ≡ true
unfolding clap_on_literals
program_simple = refl

pub program_free : is_simple_and_free program_app ≡ true
unfolding clap_on_literals
program_free = refl

pub found_in : (app : App) (words : List Text) (m : ArgMatches) → app ≡ program_app →
    HasMatchesOf app words m → subcommand_of program_app words ≡ subcommand_rows_of m
found_in app words m is has = ap (λ a. subcommand_of a words) (sym is)
    ∙ sym (has (ap is_simple is ∙ program_simple)).1

pub accepted : (app : App) (words : List Text) → app ≡ program_app →
    (is_simple_and_free app ≡ true → fault_of app words ≡ []) → fault_of program_app words ≡ []
accepted app words is none = ap (λ a. fault_of a words) (sym is)
    ∙ none (ap is_simple_and_free is ∙ program_free)

pub named_by : {Z : Type 0} (x : Option (Box SubCommand Z)) (n : Text) (rs : List Row) →
    Some n ≡ option_map (λ b. (out-SubCommand (box_value b)).name.now) x →
    Some rs ≡ option_map (λ (p : Text × List Row). p.1) (subcommand_rows x) →
    subcommand_rows x ≡ Some (n, rs)
named_by None n rs name rows = absurd (none-some n (sym name))
named_by b n rs name rows = ap₂ (λ (k : Text) (r : List Row).
    Some (k, r)) (sym (same_Some _ _ name)) (sym (same_Some _ _ rows))

pub none_by : {Z : Type 0} (x : Option (Box SubCommand Z)) →
    None ≡ option_map (λ (p : Text × List Row). p.1) (subcommand_rows x) → subcommand_rows x ≡ None
none_by None none = refl
none_by b none = absurd (cc)

module _ (words : List Text) (accepted : fault_of program_app words ≡ []) where
  pub none_named : subcommand_of program_app words ≡ None → IsFaultOf words NoMap
  none_named none = (
    accepted,
    λ request w. none-some _ (sym none ∙ w.command.found),
    λ place bad. none-some _ (sym none ∙ bad.command.found),
    λ place bad. none-some _ (sym none ∙ bad.command.found),
    λ place bad. none-some _ (sym none ∙ bad.command.found),
    λ fault bad. none-some _ (sym none ∙ bad.command.found),
  )

  module _ (n : Text) (rs : List Row) (found : subcommand_of program_app words ≡ Some (n, rs)) where
    same_found : (p : Text × List Row) → subcommand_of program_app words ≡ Some p → p ≡ (n, rs)
    same_found p is = same_Some p (n, rs) (sym is ∙ found)

    map_of_request : (request : Request) → RequestFor words request → Names n rs request.map
    map_of_request request w = subst (λ (p : Text × List Row).
        Names p.0 p.1 request.map) (same_found _ w.command.found) w.map

    bad_after : (place : ℕ) → HasBadObserver words place → IsBadObserverAfter n rs place
    bad_after place bad = subst (λ (p : Text × List Row). IsBadObserverAfter p.0 p.1 place)
        (same_found _ bad.command.found) (bad.takes, bad.first)

    bad_gauge_after : (place : ℕ) → HasBadGauge words place → IsBadGaugeAfter n rs place
    bad_gauge_after place bad = subst (λ (p : Text × List Row). IsBadGaugeAfter p.0 p.1 place)
        (same_found _ bad.command.found) (bad.takes, bad.first)

    maps_fault_after : (fault : MapsFault) → HasMapsFault words fault → IsMapsFaultAfter n rs fault
    maps_fault_after fault bad = subst (λ (p : Text × List Row). IsMapsFaultAfter p.0 p.1 fault)
        (same_found _ bad.command.found) (refl, (bad.gauges, bad.spelled), bad.faulty)

    pub requested : (map : Map) (request : Request) →
        Names n rs map → request.map ≡ map → Spell place_of_word (sink_words n rs) request.sinks →
        HasOptions rs request.tile request.workers request.scale →
        AreLimits request.tile request.workers request.scale
        → request.progress ≡ is_flag_given (codes "progress") rs →
        (IsSightMap request.map → request.sinks ≡ []) → RequestFor words request
    requested map request named same spelled options limits progress view = record {
      name = n;
      rows = rs;
      command = record { accepted = accepted; found = found };
      map = subst (Names n rs) (sym same) named;
      sinks = spelled;
      options = options;
      progress = progress;
      limits = record { in_limits = limits; view = view };
    }

    named_of_bad : (place : ℕ) (bad : HasBadSink words place) → Names n rs bad.map
    named_of_bad place bad = subst (λ (p : Text × List Row).
        Names p.0 p.1 bad.map) (same_found _ bad.command.found) bad.named

    pub map_refused : (f : WordsFault) → IsMapFault n rs f → IsFaultOf words f
    map_refused (Clap e) h = inl h
    map_refused (BadObserver place) h = record {
      name = n;
      rows = rs;
      command = record { accepted = accepted; found = found };
      takes = h.0;
      first = h.1;
    }
    map_refused (BadGauge place) h = record {
      name = n;
      rows = rs;
      command = record { accepted = accepted; found = found };
      takes = h.0;
      first = h.1;
    }
    map_refused (BadMaps fault) h = record {
      rows = rs;
      command = record { accepted = accepted; found = found ∙ ap (λ name. Some (name, rs)) h.0 };
      gauges = h.1.0;
      spelled = h.1.1;
      faulty = h.2;
    }
    map_refused (BadSink place) h = absurd h
    map_refused NoMap h = (
      accepted,
      λ request w. h.0 request.map (map_of_request request w),
      λ place bad. h.1 place (bad_after place bad),
      λ place bad. h.0 bad.map (named_of_bad place bad),
      λ place bad. h.2 place (bad_gauge_after place bad),
      λ fault bad. h.3 fault (maps_fault_after fault bad),
    )

    words_of_bad : (place : ℕ) → HasBadSink words place →
        IsFirstBad place_of_word (sink_words n rs) place
    words_of_bad place bad = subst (λ (p : Text × List Row).
        IsFirstBad place_of_word (sink_words p.0 p.1) place)
        (same_found _ bad.command.found) bad.first

    pub sinks_refused : (map : Map) → Names n rs map → (f : WordsFault) →
        IsFaultWith (λ _. ⊥) (λ _. ⊥) (IsFirstBad place_of_word (sink_words n rs)) (λ _. ⊥) ⊥ f →
        IsFaultOf words f
    sinks_refused map named (Clap e) h = inl h
    sinks_refused map named (BadObserver place) h = absurd h
    sinks_refused map named (BadGauge place) h = absurd h
    sinks_refused map named (BadMaps fault) h = absurd h
    sinks_refused map named (BadSink place) h = record {
      name = n;
      rows = rs;
      command = record { accepted = accepted; found = found };
      map = map;
      named = named;
      first = h;
    }
    sinks_refused map named NoMap h = absurd h

    pub options_refused : (map : Map) (sinks : List Place) → Names n rs map →
        Spell place_of_word (sink_words n rs) sinks
        → ((tile workers scale : ℕ) → AreLimits tile workers scale →
        HasOptions rs tile workers scale → ⊥) → IsFaultOf words NoMap
    options_refused map sinks named spelled never = (
      accepted,
      λ request w. never request.tile request.workers request.scale w.limits.in_limits (subst
          (λ (p : Text × List Row). HasOptions p.1 request.tile request.workers request.scale)
          (same_found _ w.command.found) w.options),
      λ place bad. map_without_bad n rs map place named (bad_after place bad),
      λ place bad. none_bad place_of_word _ sinks place spelled (words_of_bad place bad),
      λ place bad. map_without_bad_gauge n rs map place named (bad_gauge_after place bad),
      λ fault bad. map_without_maps_fault n rs map fault named (maps_fault_after fault bad),
    )

    pub bad_requests_none : (place : ℕ) → HasBadObserver words place → (request : Request) →
        ¬ RequestFor words request
    bad_requests_none place bad request w =
        map_without_bad n rs request.map place (map_of_request request w) (bad_after place bad)

    pub bad_gauge_requests_none : (place : ℕ) → HasBadGauge words place → (request : Request) →
        ¬ RequestFor words request
    bad_gauge_requests_none place bad request w = map_without_bad_gauge n rs request.map place
        (map_of_request request w) (bad_gauge_after place bad)

    pub bad_sink_requests_none : (place : ℕ) → HasBadSink words place → (request : Request) →
        ¬ RequestFor words request
    bad_sink_requests_none place bad request w =
        none_bad place_of_word _ request.sinks place
        (subst (λ (p : Text × List Row). Spell place_of_word (sink_words p.0 p.1) request.sinks)
        (same_found _ w.command.found) w.sinks)
        (words_of_bad place bad)

    pub one_bad_sink : (place other : ℕ) → HasBadSink words place → HasBadSink words other →
        place ≡ other
    one_bad_sink place other bad b =
        same_Some _ _ (sym (words_of_bad place bad) ∙ words_of_bad other b)

    pub bad_alone : (place other : ℕ) → HasBadObserver words place → HasBadSink words other → ⊥
    bad_alone place other bad b =
        map_without_bad n rs b.map place (named_of_bad other b) (bad_after place bad)

    pub bad_gauge_alone : (place other : ℕ) → HasBadGauge words place → HasBadSink words other → ⊥
    bad_gauge_alone place other bad b =
        map_without_bad_gauge n rs b.map place (named_of_bad other b) (bad_gauge_after place bad)

    pub no_gauge_observed : (place other : ℕ) → HasBadGauge words place →
        HasBadObserver words other → ⊥
    no_gauge_observed place other bad b =
        sight_without_gauges n rs place (bad_after other b).0 (bad_gauge_after place bad)

    pub maps_fault_requests_none : (fault : MapsFault) → HasMapsFault words fault →
        (request : Request) → ¬ RequestFor words request
    maps_fault_requests_none fault bad request w = map_without_maps_fault n rs request.map fault
        (map_of_request request w) (maps_fault_after fault bad)

    pub no_maps_observed : (fault : MapsFault) (place : ℕ) → HasMapsFault words fault →
        HasBadObserver words place → ⊥
    no_maps_observed fault place bad b =
        sight_without_maps_fault n rs fault (bad_after place b).0 (maps_fault_after fault bad)

    pub maps_fault_without_bad_gauge : (fault : MapsFault) (place : ℕ) → HasMapsFault words fault →
        HasBadGauge words place → ⊥
    maps_fault_without_bad_gauge fault place bad b =
        let m = maps_fault_after fault bad in
        none_bad place_of_word _ m.1.0 place m.1.1 (bad_gauge_after place b).1

    pub maps_fault_alone : (fault : MapsFault) (place : ℕ) → HasMapsFault words fault →
        HasBadSink words place → ⊥
    maps_fault_alone fault place bad b = map_without_maps_fault n rs b.map fault
        (named_of_bad place b) (maps_fault_after fault bad)

    pub one_maps_fault : (fault other : MapsFault) → HasMapsFault words fault →
        HasMapsFault words other → fault ≡ other
    one_maps_fault fault other bad b =
        same_Some _ _ (sym (maps_fault_after fault bad).2 ∙ (maps_fault_after other b).2)

    pub one_bad_gauge : (place other : ℕ) → HasBadGauge words place → HasBadGauge words other →
        place ≡ other
    one_bad_gauge place other bad b =
        same_Some _ _ (sym (bad_gauge_after place bad).1 ∙ (bad_gauge_after other b).1)

    pub one_bad : (place other : ℕ) → HasBadObserver words place → HasBadObserver words other →
        place ≡ other
    one_bad place other bad b =
        same_Some _ _ (sym (bad_after place bad).1 ∙ (bad_after other b).1)

pub words_given_some : (words : List (Bor Text)) → eqb (length words) 0 ≡ false →
    words_given (map (λ w. w.now) words) ≡ map (λ w. w.now) words
words_given_some [] some = absurd (cc)
words_given_some words some = refl
