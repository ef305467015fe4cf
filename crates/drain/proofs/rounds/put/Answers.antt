use Rattle.std.proofs.Common.{◌≡◌, ◌<◌, ℕ, List, Option, None, Some, length, slice_set, ap, ◌∙◌, arith}
use Rattle.std.proofs.lemmas.List.{get_or_default}
use Rattle.terrain.proofs.Places.{index_below}
use Rattle.terrain.specs.Neighbours.{index_of}
use Rattle.drain.specs.Search.{stored}
use Rattle.drain.specs.Counts.{count_of, count_sum}
use Rattle.drain.proofs.Sound.{set_counts, set_less}
use Rattle.drain.proofs.rounds.put.Goals as goal
use Rattle.drain.proofs.rounds.put.Goals.{After-of}

module _ (c : After-of) where
  abbrev steps : List (Option ℕ)
  steps = c.args.steps.now

  index_is : c.index_in-index.result ≡ index_of c.args.grid.now.terrain.cols c.args.change.place
  index_is = c.index_in-index.ensures
      ∙ ap (λ (n : ℕ). index_of n c.args.change.place) c.cols.ensures.value

  below : c.index_in-index.result < length steps
  below =
      let inside = c.requires.change.inside in
      let t = c.args.grid.now.terrain in
      omega (
        arith,
        index_is,
        c.requires.counts.size,
        index_below t.cols t.rows c.args.change.place inside.0
            inside.1,
      )

  less : c.args.change.count < count_of steps (index_of c.args.grid.now.terrain.cols c.args.change.place)
  less =
      let read = ap stored
      (get_or_default steps c.index_in-index.result c.index-steps-index.result None below) in
      let whole : c.number.result ≡ count_of steps c.index_in-index.result = c.number.ensures.value ∙ read in
      simp (← index_is) (omega (arith, c.if-change-number.false, whole))

  stored_is : c.of.result ≡ Some c.args.change.count
  stored_is = c.of.ensures.number c.requires.change.walked.0

  pub lower_sum : count_sum (slice_set steps c.index_in-index.result c.of.result) < count_sum steps
  lower_sum = simp index_is
      (set_less c.requires.counts c.requires.change
      stored_is less)

pub returns-clause-counts : goal.returns-clause-counts
returns-clause-counts c =
    let t = c.args.grid.now.terrain in
    simp (index_is c)
    (set_counts c.requires.counts c.requires.change (stored_is c)
    (less c))

pub returns-clause-low : goal.returns-clause-low
returns-clause-low c = omega (arith, lower_sum c)

pub returns-clause-put : goal.returns-clause-put
returns-clause-put c = λ _. lower_sum c

pub returns-clause-less : goal.returns-clause-less
returns-clause-less c = λ _. lower_sum c
