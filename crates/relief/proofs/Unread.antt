-- If the words ask for help or are refused, or memory is refused before the run, the program ends
-- without reading, with status 0, 1 or 3, and has written what `EndsUnread` says.
use Rattle.std.proofs.Common.{◌≡◌, ◌++◌, ℕ, suc, List, [], ◌∷◌, codes, arith, Option, sym, ap, subst, refl, inl, inr}
use Rattle.std.specs.Prelude.{Any, decimal}
use Rattle.clap.specs.Words.{Text, kind_of}
use Rattle.clap.specs.Faults.{fault_of}
use Rattle.clap.specs.Kinds.{HasKind, IsAmong, Kinds}
use Rattle.clap.specs.declared.error.Error.{Error}
use Rattle.clap.specs.declared.error.kind.ErrorKind.{ErrorKind}
use Rattle.clap.specs.declared.error.kind.ErrorKind.TheVariants.{OutOfMemory}
use Rattle.ascii_grid.specs.Device.{Device}
use Rattle.request.specs.CommandLine.{HasBadGauge, HasBadObserver, HasBadSink, HasMapsFault, IsHelp, program_app}
use Rattle.relief.specs.Ends.{EndsLine, EndsShowing, EndsUnread, IsRefusalText, WritesLine, maps_fault_line}
use Rattle.request.specs.WordsFaults.{IsFaultOf}
use Rattle.request.specs.declared.words.WordsFault.TheVariants.{NoMap}
use Rattle.request.specs.declared.map_words.MapsFault.{MapsFault}
use Rattle.request.specs.declared.map_words.MapsFault.TheVariants.{UnknownMap, RepeatedMap, NoGauge, NoCatchments}
use Rattle.request.proofs.Requested.{bad_alone, bad_gauge_alone, bad_gauge_requests_none, bad_sink_requests_none, bad_requests_none, maps_fault_alone, maps_fault_requests_none, maps_fault_without_bad_gauge, no_gauge_observed, no_maps_observed, one_bad, one_bad_gauge, one_bad_sink, one_maps_fault}

any_among : (P : ErrorKind → Type 0) (k : ErrorKind) (ks : Kinds) → P k → IsAmong k ks → Any P ks
any_among P k [] p among = absurd among
any_among P k (x ∷ xs) p (inl same) = (0, k, omega arith, sym same, p)
any_among P k (x ∷ xs) p (inr rest) =
    let found = any_among P k xs p rest in
    (suc found.0, found.1, omega (arith, found.2), found.3, found.4)

none_among : (k : ErrorKind) (ks : Kinds) → ks ≡ [] → IsAmong k ks → ⊥
none_among k ks none among = subst (IsAmong k) none among

help_is_not_out_of_memory : (k : ErrorKind) → IsHelp k → k ≡ OutOfMemory → ⊥
help_is_not_out_of_memory k (inl help) want = absurd (cc)
help_is_not_out_of_memory k (inr version) want = absurd (cc)

module _ {R W E : Type 0} (contents : W → Option (List ℕ)) (lines : E → Option (List ℕ))
    (words : List Text) (reader : Device R) (writer grown : Device W) (errors reported : Device E)
    (status : ℕ) where
  abbrev Unread : Type 0
  Unread = EndsUnread contents lines words reader reader writer grown errors reported status

  pub words_refused : (text : List ℕ) → IsRefusalText words text →
      WritesLine lines errors reported text → grown ≡ writer → status ≡ 1 → Unread
  words_refused text refusal written_text same refused =
      record { unread = refl; reason = inr (inl ((text, refusal, written_text), refused, same)) }

  pub shown : (e : Error) → EndsShowing contents lines (kind_of e)
      writer grown errors reported status → HasKind (fault_of program_app words) e → Unread
  shown e (inl help) (inl want) = absurd (help_is_not_out_of_memory (kind_of e) help.0 want)
  shown e (inl help) (inr among) = record {
    unread = refl;
    reason = inl (any_among IsHelp (kind_of e) _ help.0 among, help.1, help.2, help.3);
  }
  shown e (inr (inl refused)) (inl want) = absurd (refused.0.1 want)
  shown e (inr (inl refused)) (inr among) = words_refused refused.1.0 (record {
    refused = inl (any_among (λ kind. ¬ IsHelp kind) (kind_of e) _ refused.0.0 among);
    line = refused.1.1;
    bad_observer = λ place bad. absurd (none_among (kind_of e) _ bad.command.accepted among);
    bad_gauge = λ place bad. absurd (none_among (kind_of e) _ bad.command.accepted among);
    bad_sink = λ place bad. absurd (none_among (kind_of e) _ bad.command.accepted among);
    bad_maps = λ fault bad. absurd (none_among (kind_of e) _ bad.command.accepted among);
  }) refused.1.2 refused.3 refused.2
  shown e (inr (inr want)) kind = record { unread = refl; reason = inr (inr want) }

ends_line : (front : List ℕ) (place : ℕ) → EndsLine (front ++ decimal place ++ codes "\n")
ends_line front place = (front ++ decimal place, refl)

ends_maps_line : (fault : MapsFault) → EndsLine (maps_fault_line fault)
ends_maps_line (UnknownMap place) = ends_line (codes "relief: bad map word ") place
ends_maps_line RepeatedMap = (codes "relief: a map is named twice", refl)
ends_maps_line NoGauge = (codes "relief: catchments without a gauge", refl)
ends_maps_line NoCatchments = (codes "relief: a gauge without catchments", refl)

module _ (words : List Text) where
  pub bad_observer_refused : (place : ℕ) → HasBadObserver words place → IsRefusalText words (codes "relief: bad observer word " ++ decimal place ++ codes "\n")
  bad_observer_refused place bad = record {
    refused = inr (
      bad.command.accepted,
      bad_requests_none words bad.command.accepted _ _ bad.command.found place bad,
    );
    line = ends_line (codes "relief: bad observer word ") place;
    bad_observer = λ other b. ap (λ k. codes "relief: bad observer word " ++ decimal k ++ codes "\n") (one_bad words bad.command.accepted _ _ bad.command.found place other bad b);
    bad_gauge = λ other b. absurd
        (no_gauge_observed words bad.command.accepted _ _ bad.command.found other place b bad);
    bad_sink = λ other b.
        absurd (bad_alone words bad.command.accepted _ _ bad.command.found place other bad b);
    bad_maps = λ fault b. absurd
        (no_maps_observed words bad.command.accepted _ _ bad.command.found fault place b bad);
  }

  pub bad_gauge_refused : (place : ℕ) → HasBadGauge words place → IsRefusalText words (codes "relief: bad gauge word " ++ decimal place ++ codes "\n")
  bad_gauge_refused place bad = record {
    refused = inr (
      bad.command.accepted,
      bad_gauge_requests_none words bad.command.accepted _ _ bad.command.found place bad,
    );
    line = ends_line (codes "relief: bad gauge word ") place;
    bad_observer = λ other b. absurd
        (no_gauge_observed words bad.command.accepted _ _ bad.command.found place other bad b);
    bad_gauge = λ other b. ap (λ k. codes "relief: bad gauge word " ++ decimal k ++ codes "\n") (one_bad_gauge words bad.command.accepted _ _ bad.command.found place other bad b);
    bad_sink = λ other b.
        absurd (bad_gauge_alone words bad.command.accepted _ _ bad.command.found place other bad b);
    bad_maps = λ fault b. absurd (maps_fault_without_bad_gauge words bad.command.accepted _ _
        bad.command.found fault place b bad);
  }

  pub bad_sink_refused : (place : ℕ) → HasBadSink words place → IsRefusalText words (codes "relief: bad sink word " ++ decimal place ++ codes "\n")
  bad_sink_refused place bad = record {
    refused = inr (
      bad.command.accepted,
      bad_sink_requests_none words bad.command.accepted _ _ bad.command.found place bad,
    );
    line = ends_line (codes "relief: bad sink word ") place;
    bad_observer = λ other b.
        absurd (bad_alone words bad.command.accepted _ _ bad.command.found other place b bad);
    bad_gauge = λ other b.
        absurd (bad_gauge_alone words bad.command.accepted _ _ bad.command.found other place b bad);
    bad_sink = λ other b. ap (λ k. codes "relief: bad sink word " ++ decimal k ++ codes "\n") (one_bad_sink words bad.command.accepted _ _ bad.command.found place other bad b);
    bad_maps = λ fault b. absurd
        (maps_fault_alone words bad.command.accepted _ _ bad.command.found fault place b bad);
  }

  pub maps_refused : (fault : MapsFault) → HasMapsFault words fault →
      IsRefusalText words (maps_fault_line fault)
  maps_refused fault bad = record {
    refused = inr (
      bad.command.accepted,
      maps_fault_requests_none words bad.command.accepted _ _ bad.command.found fault bad,
    );
    line = ends_maps_line fault;
    bad_observer = λ place b. absurd
        (no_maps_observed words bad.command.accepted _ _ bad.command.found fault place bad b);
    bad_gauge = λ place b. absurd (maps_fault_without_bad_gauge words bad.command.accepted _ _
        bad.command.found fault place bad b);
    bad_sink = λ place b. absurd
        (maps_fault_alone words bad.command.accepted _ _ bad.command.found fault place bad b);
    bad_maps = λ other b. ap maps_fault_line
        (one_maps_fault words bad.command.accepted _ _ bad.command.found fault other bad b);
  }

  pub no_map_refused : (text : List ℕ) → IsFaultOf words NoMap → EndsLine text →
      IsRefusalText words text
  no_map_refused text fault line = record {
    refused = inr (fault.0, fault.1);
    line = line;
    bad_observer = λ place bad. absurd (fault.2 place bad);
    bad_gauge = λ place bad. absurd (fault.4 place bad);
    bad_sink = λ place bad. absurd (fault.3 place bad);
    bad_maps = λ other bad. absurd (fault.5 other bad);
  }
