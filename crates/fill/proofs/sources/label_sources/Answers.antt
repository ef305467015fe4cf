use Rattle.std.proofs.Common.{refl, ◌∙◌}
use Rattle.std.proofs.lemmas.Option.{slice_get_read}
use Rattle.fill.proofs.Gathered.{labels_within}
use Rattle.fill.proofs.EndSources.{one_tile, all_tiles}
use Rattle.fill.proofs.sources.label_sources.Goals as goal

pub put_ends-requires-clause-labels : goal.put_ends-requires-clause-labels
put_ends-requires-clause-labels c =
    let floods = c.args.floods.now in
    labels_within _ _ floods _ _ c.requires.1 (slice_get_read floods _ _ _ refl c.loop-flood-test.true c.flood-item.is)

pub put_ends-requires-clause-ends : goal.put_ends-requires-clause-ends
put_ends-requires-clause-ends c =
    let floods = c.args.floods.now in
    (c.requires.1.each c.loop-flood.flood-index c.flood-item.result
    (slice_get_read floods _ _ _ refl c.loop-flood-test.true c.flood-item.is)).ends.size

pub loop-flood-preserved : goal.loop-flood-preserved
loop-flood-preserved c =
    let floods = c.args.floods.now in
    record {
      size = c.put_ends.ensures.puts.size ∙ c.loop-flood.invariant.size;
      have = λ t are.
          one_tile floods _ are (slice_get_read floods _ _ _ refl c.loop-flood-test.true c.flood-item.is)
          c.put_ends.ensures.lawful c.put_ends.ensures.puts (c.loop-flood.invariant.have t are);
    }

pub returns-clause-right : goal.returns-clause-right
returns-clause-right c t are = all_tiles are c.loop-flood-test.false (c.loop-flood.invariant.have t are)
