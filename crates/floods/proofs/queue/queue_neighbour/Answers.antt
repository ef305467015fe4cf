use Rattle.std.proofs.Common.{rules, ◌≡◌, sym, is_some, true, Option, IsSome}
use Rattle.floods.specs.Flood.{entry_of}
use Rattle.terrain.proofs.Orders.{trans, le_of_same}
use Rattle.terrain.proofs.Options.{none_from_is_some}
use Rattle.floods.proofs.Noting.{no_entry_if_low, passed_done, stays, neighbour_queued, noted, keeps_done, own_by_arc, kept_crest}
use Rattle.floods.proofs.queue.queue_neighbour.Goals as goal

pub returns-then-is_no_higher : goal.returns-then-is_no_higher
returns-then-is_no_higher c =
    let value =
    kept_crest c.args.arc.height c.args.from.now.height.0 (search rules) (search rules)
    (search rules) c.max-crest.ensures.value in
    let known = c.is_no_higher.ensures.0 c.if-is_no_higher.true in
    stays c.requires.order c.requires.noted (no_entry_if_low c.args.from.now c.args.arc _ c.requires.noted known.1
    (trans _ _ _ known.2 (le_of_same _ _ value)))

pub returns-then-has : goal.returns-then-has
returns-then-has c =
    stays c.requires.order c.requires.noted
    (passed_done c.args.from.now c.args.arc _ (has (entry_of c.args.labels.now c.args.arc.to) (cc))) where
      has : {X : Type 0} (o : Option X) → is_some o ≡ true → IsSome o
      has o e = e

pub returns : goal.returns
returns c =
    let value =
    kept_crest c.args.arc.height c.args.from.now.height.0 (search rules) (search rules)
    (search rules) c.max-crest.ensures.value in
    let pushed = rw value at c.in_ok-put.ensures.puts in
    let none = none_from_is_some (entry_of c.args.labels.now c.args.arc.to) (cc) in
    rw (c.put-2.ensures, value) (record {
      order = c.in_ok-put.ensures.order;
      noted = noted c.args.from.now c.args.arc pushed _ c.requires.inside c.requires.noted;
      kept = keeps_done c.args.labels.now _ c.args.arc.to _ none;
      own = λ source s.
          own_by_arc c.args.from.now c.args.arc pushed source _ c.requires.inside c.requires.noted.size none (λ noted.
          let yes = c.is_no_higher.ensures.1 (noted.0, noted.1, trans _ _ _ noted.2 (le_of_same _ _ (sym value))) in
          absurd (cc (yes, c.if-is_no_higher.false))) s;
      queue = neighbour_queued c.args.from.now c.args.arc pushed;
    })
