use Rattle.std.proofs.Common.{◌+◌, arith, inl, inr, refl}
use Rattle.std.proofs.lemmas.Bool.{cases_lt}
use Rattle.terrain.specs.Neighbours.{HasGapAround}
use Rattle.terrain.specs.declared.place.Place.{Place}
use Rattle.terrain.proofs.Places.{make_place, none_outside}
use Rattle.tiles.specs.Cutting.{terrain_of}
use Rattle.cell_floods.proofs.EndCells.{gap_beside, no_gap_beside}
use Rattle.cell_floods.proofs.ends.has_gap.Goals as goal

pub returns-in_default : goal.returns-in_default
returns-in_default c =
    let t = terrain_of c.args.view.now in
    let cell = c.args.cell in
    let row = c.loop-row.row in
    let gap : HasGapAround t cell = elim c.in_default.ensures.none [
      | inl low ↦ inr (inr (
        make_place row cell.col,
        record {
          row_down = omega arith;
          row_up = omega arith;
          col_right = omega arith;
          col_left = omega arith;
        },
        none_outside t _ (inl low),
      ))
      | inr side ↦ elim side [
        | inl first ↦ inr (inl first)
        | inr last ↦ inr (inr (
          make_place row (cell.col + 1),
          record {
            row_down = omega arith;
            row_up = omega arith;
            col_right = omega arith;
            col_left = omega arith;
          },
          none_outside t _ (inr last),
        ))
      ]
    ] in
    (λ _. gap, λ _. refl)

pub returns-then-not-have_data : goal.returns-then-not-have_data
returns-then-not-have_data c =
    let cell = c.args.cell in
    let gap =
    gap_beside c.args.view.now cell (make_place c.loop-row.row cell.col) c.in-Some.cells.now
    c.in-Some.ensures.size c.in-Some.ensures.value refl (omega arith) (omega arith) (omega arith)
    (λ all. absurd (cc (c.have_data.ensures.1 all, c.if-not-have_data.true))) in
    (λ _. gap, λ _. refl)

pub loop-row-preserved : goal.loop-row-preserved
loop-row-preserved c q touch before none =
    let cell = c.args.cell in
    let p : Place = make_place c.loop-row.row cell.col in
    elim (cases_lt q.row c.loop-row.row) [
      | inl early ↦ c.loop-row.invariant q touch (inl early) none
      | inr late ↦ elim before [
        | inr past ↦ absurd (omega (arith, past.1))
        | inl here ↦
            no_gap_beside c.args.view.now cell p q c.in-Some.cells.now c.in-Some.ensures.size
            c.in-Some.ensures.value refl c.in-Some.ensures.inside touch (omega (arith, here, late))
            (c.if-not-have_data.ensures.0 refl) none
      ]
    ]
