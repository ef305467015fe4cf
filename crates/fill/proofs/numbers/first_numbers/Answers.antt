use Rattle.std.proofs.Common.{◌≡◌, ◌+◌, ◌*◌, ◌≤◌, ◌∙◌, ap, length, Some, refl, arith}
use Rattle.std.specs.Prelude.{slice_get}
use Rattle.std.proofs.lemmas.Option.{slice_get_read}
use Rattle.cell_floods.specs.Labels.{LabelTable}
use Rattle.fill.proofs.Firsts.{all_few, all_firsts, few_labels, no_first, one_first}
use Rattle.fill.proofs.numbers.first_numbers.Goals as goal

pub loop-flood-init : goal.loop-flood-init
loop-flood-init c = record { firsts = no_first _ _ c.in_ok-firsts.ensures.items; few = omega arith }

pub overflow_cast-count : goal.overflow_cast-count
overflow_cast-count c = omega arith

pub loop-flood-preserved : goal.loop-flood-preserved
loop-flood-preserved c =
    let floods = c.args.floods.now in
    let tiling = c.args.tiling.now in
    let i = c.loop-flood.flood-index in
    let f = c.flood-item.result in
    let are = c.requires.1 in
    let sum = c.count-count.ensures.value ∙ ap (λ (z : LabelTable). length z.places) c.labels.ensures.value in
    let there : slice_get floods i ≡ Some f =
    slice_get_read floods (length floods) i f refl c.loop-flood-test.true c.flood-item.is in
    let labels = few_labels tiling floods i f are there c.labels.ensures.lawful in
    let few : c.loop-flood.count + length f.table.places ≤ (i + 1) * (tiling.side * tiling.side + 1) = omega arith in
    let all = all_few tiling (i + 1) are.lawful (omega arith) in
    record {
      firsts = one_first floods i f _ _ c.loop-flood-test.true c.flood-item.is c.labels.ensures.lawful
          c.in_ok-push.ensures.items (omega arith) (omega arith) c.loop-flood.invariant.firsts;
      few = omega arith;
    }

pub returns : goal.returns
returns c = all_firsts c.loop-flood.auto.flood-index-end c.loop-flood-test.false c.loop-flood.invariant.firsts
