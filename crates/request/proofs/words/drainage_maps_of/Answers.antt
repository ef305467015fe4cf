use Rattle.std.proofs.Common.{List, map, ap, ◌∙◌, sym}
use Rattle.std.specs.Prelude.{option_map}
use Rattle.std.specs.Option.{option_or}
use Rattle.clap.specs.Words.{Text}
use Rattle.request.specs.MapWords.{drainage_map_of, list_fault}
use Rattle.request.specs.declared.map_words.MapsFault.TheVariants.{UnknownMap}
use Rattle.request.proofs.Given.{no_first_bad}
use Rattle.request.proofs.words.drainage_maps_of.Goals as goal

-- where each word names a map, the fault is that of the list
pub returns-in-Some-clause-none : goal.returns-in-Some-clause-none
returns-in-Some-clause-none c =
    let words : List Text = map (λ w. w.now) c.args.words.now in
    let gauges : List Text = map (λ w. w.now) c.args.gauges.now in
    ap (λ o. option_or (option_map UnknownMap o) (list_fault words gauges))
    (no_first_bad drainage_map_of words _ c.in-Ok.ensures.some)
    ∙ sym c.list_fault.ensures ∙ c.in-Some.is

pub returns-in-None-clause-sound : goal.returns-in-None-clause-sound
returns-in-None-clause-sound c =
    let words : List Text = map (λ w. w.now) c.args.words.now in
    let gauges : List Text = map (λ w. w.now) c.args.gauges.now in
    ap (λ o. option_or (option_map UnknownMap o) (list_fault words gauges))
    (no_first_bad drainage_map_of words _ c.in-Ok.ensures.some)
    ∙ sym c.list_fault.ensures ∙ c.in-None.is
