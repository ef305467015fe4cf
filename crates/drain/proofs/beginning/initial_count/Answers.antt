use Rattle.std.proofs.Common.{rules, ◌≡◌, ◌<◌, ◌∙◌, length, get_or, None, inl, inr, IfSome, unwrap_or, ap, refl, subst, sym, to_z-of_z, arith}
use mir.Val.{SFits}
use Rattle.terrain.proofs.Heights.{height_width}
use Rattle.terrain.specs.StoredCells.{no_data}
use Rattle.std.proofs.lemmas.Bool.{cases_Bool, false≢true}
use Rattle.std.proofs.lemmas.List.{get_or_default}
use Rattle.std.proofs.lemmas.Option.{none-some}
use Rattle.terrain.specs.Raster.{IsHeight}
use Rattle.tiles.specs.Windows.{spot_index}
use Rattle.drain.proofs.beginning.initial_count.Goals as goal

pub returns-else-drains-is_some : goal.returns-else-drains-is_some
returns-else-drains-is_some c =
    let w = c.args.window.now in
    let cells = c.deref-cells.result.now in
    let below : c.index.result < length cells = search rules in
    let cell : c.index-cells-index.result ≡ get_or w.values.items (spot_index w.bounds c.args.spot) None =
    rw (c.deref-cells.ensures.value, c.index.ensures.value) at (c.index-cells-index.is
    ∙ get_or_default cells c.index.result c.index-cells-index.result None below) in
    let fits : SFits height_width c.number.result = search rules in
    let none =
    rw (to_z-of_z fits, c.deref-cells.ensures.value, c.around.ensures.value) at c.any_gap_or_lower-drains.ensures in (
      omega arith,
      record {
        zero = λ has.
            let own = cell ∙ has.2 in
            let number : c.number.result ≡ has.1 = c.number.ensures ∙ ap (λ o. unwrap_or o no_data) own in
            let high = subst (λ o. IfSome o IsHeight) has.2 (c.requires.heights (spot_index w.bounds c.args.spot)) in
            elim (cases_Bool c.any_gap_or_lower-drains.result) [
              | inl drains ↦ absurd (false≢true (sym c.if-drains-is_some.false
                  ∙ rw (drains, c.is_some.ensures, c.height.ensures, own) refl))
              | inr still ↦ absurd ((rw (still, number) at none) high has.3 has.4 has.5)
            ];
        only = λ n e. absurd (none-some n e);
      },
    )
