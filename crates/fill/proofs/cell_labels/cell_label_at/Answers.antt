use Rattle.std.proofs.Common.{rules, ◌≡◌, ◌+◌, inl, inr, is_none, get_or, None, Some, sym, ap, ◌∙◌, arith}
use mir.Val.{SFits}
use Rattle.std.proofs.lemmas.Int.{to_z-of_z}
use Rattle.terrain.proofs.Heights.{height_width}
use Rattle.terrain.proofs.Options.{cases_option}
use Rattle.fill.proofs.CellLabels.{cell_label_some}
use Rattle.fill.proofs.cell_labels.cell_label_at.Goals as goal

pub returns : goal.returns
returns c =
    let f = c.args.flood.now in
    let level = c.in_ok-level.level in
    let fits : SFits height_width level = search rules in
    let index : get_or f.table.indexes c.args.index 0 ≡ c.index.result = cc in
    rw (to_z-of_z height_width level fits) (elim (cases_option (get_or f.labels c.args.index None)) [
      | inl none ↦ absurd (cc (c.level_at.ensures.label, ap is_none none, ap is_none c.in_ok-level.was))
      | inr found ↦
          sym (cell_label_some (0 + get_or f.table.indexes c.args.index 0)
          (sym c.level_at.ensures.value ∙ c.in_ok-level.was) found.1 ∙
          ap (λ n. Some (record { level = level; node = n })) (omega (arith, index)))
    ])
