use Rattle.std.proofs.Common.{List, inl, map, subst, refl}
use Rattle.clap.specs.Words.{Text}
use Rattle.request.specs.CommandLine.{words_given}
use Rattle.request.specs.WordsFaults.{IsFaultOf}
use Rattle.relief.proofs.Unread.{bad_gauge_refused, bad_observer_refused, bad_sink_refused, maps_refused, no_map_refused, words_refused, shown}
use Rattle.relief.proofs.command.run_words_reported.Goals as goal

pub returns-in-Err-Clap-clause-ends : goal.returns-in-Err-Clap-clause-ends
returns-in-Err-Clap-clause-ends g c =
    let words : List Text = words_given (map (λ w. w.now) c.args.words.now) in
    inl (shown g.W.Write.contents g.E.Write.contents words c.args.reader.now c.args.writer.now _
    c.args.errors.now _ _ c.in-Err-Clap.error c.show_error.ensures
    (subst (IsFaultOf words) c.in-Err-Clap.field-0-is c.in-Err-Clap.ensures.fault))

pub returns-in-Err-BadObserver-clause-ends : goal.returns-in-Err-BadObserver-clause-ends
returns-in-Err-BadObserver-clause-ends g c =
    let words : List Text = words_given (map (λ w. w.now) c.args.words.now) in
    inl (words_refused g.W.Write.contents g.E.Write.contents words c.args.reader.now
    c.args.writer.now _ c.args.errors.now _ _ _
    (bad_observer_refused words c.in-Err-BadObserver.place
    (subst (IsFaultOf words) c.in-Err-BadObserver.field-0-is c.in-Err-BadObserver.ensures.fault))
    (c.write_bad_word.result, c.write_bad_word.ensures) refl refl)

pub returns-in-Err-BadGauge-clause-ends : goal.returns-in-Err-BadGauge-clause-ends
returns-in-Err-BadGauge-clause-ends g c =
    let words : List Text = words_given (map (λ w. w.now) c.args.words.now) in
    inl (words_refused g.W.Write.contents g.E.Write.contents words c.args.reader.now
    c.args.writer.now _ c.args.errors.now _ _ _
    (bad_gauge_refused words c.in-Err-BadGauge.place
    (subst (IsFaultOf words) c.in-Err-BadGauge.field-0-is c.in-Err-BadGauge.ensures.fault))
    (c.write_bad_word-in-Err-BadGauge.result, c.write_bad_word-in-Err-BadGauge.ensures) refl refl)

pub returns-in-Err-BadSink-clause-ends : goal.returns-in-Err-BadSink-clause-ends
returns-in-Err-BadSink-clause-ends g c =
    let words : List Text = words_given (map (λ w. w.now) c.args.words.now) in
    inl (words_refused g.W.Write.contents g.E.Write.contents words c.args.reader.now
    c.args.writer.now _ c.args.errors.now _ _ _
    (bad_sink_refused words c.in-Err-BadSink.place
    (subst (IsFaultOf words) c.in-Err-BadSink.field-0-is c.in-Err-BadSink.ensures.fault))
    (c.write_bad_word-in-Err-BadSink.result, c.write_bad_word-in-Err-BadSink.ensures) refl refl)

pub returns-in-Err-BadMaps-clause-ends : goal.returns-in-Err-BadMaps-clause-ends
returns-in-Err-BadMaps-clause-ends g c =
    let words : List Text = words_given (map (λ w. w.now) c.args.words.now) in
    inl (words_refused g.W.Write.contents g.E.Write.contents words c.args.reader.now
    c.args.writer.now _ c.args.errors.now _ _ _
    (maps_refused words c.in-Err-BadMaps.fault
    (subst (IsFaultOf words) c.in-Err-BadMaps.field-0-is c.in-Err-BadMaps.ensures.fault))
    (c.write_maps_fault.result, c.write_maps_fault.ensures) refl refl)

pub returns-in-Err-NoMap-clause-ends : goal.returns-in-Err-NoMap-clause-ends
returns-in-Err-NoMap-clause-ends g c =
    let words : List Text = words_given (map (λ w. w.now) c.args.words.now) in
    inl (words_refused g.W.Write.contents g.E.Write.contents words c.args.reader.now
    c.args.writer.now _ c.args.errors.now _ _ _
    (no_map_refused words _
    (subst (IsFaultOf words) c.in-Err-NoMap.field-0-is c.in-Err-NoMap.ensures.fault)
    c.show.ensures.line.1) c.show.ensures.line.2 refl c.show.ensures.status)
