use Rattle.std.proofs.Common.{arith, rules, ap, length, ◌+◌, ◌<◌, ◌∙◌, sym, refl, Some}
use Rattle.std.proofs.lemmas.Int.{to_z-of_z}
use mir.Val.{SFits}
use mir.Syntax.{w64}
use Rattle.std.proofs.lemmas.List.{take_rest, length-drop}
use Rattle.ascii_grid.specs.declared.builder.GridBuilder.{GridBuilder}
use Rattle.ascii_grid.proofs.Ending.{plain_word}
use Rattle.ascii_grid.proofs.tokenizer.Tokenizer.take_scaled.Goals as goal

pub loop-at-preserved : goal.loop-at-preserved
loop-at-preserved c =
    let before = c.loop-at.invariant.taken in
    let between = c.loop-at.invariant.between in
    let self = c.loop-at.self in
    let bytes = c.args.bytes.now in
    let at = c.loop-at.at in
    let plain = rw (c.requires.scale.0 ∙ sym before.scale) at c.in-Some.ensures in
    let kept = c.in-Ok.ensures.kept in
    let fits : SFits w64 c.in-Some.value = search rules in
    let inside : at + c.in-Some.len < length bytes = omega (
      arith,
      plain.within,
      ap length (take_rest bytes at),
      length-drop at bytes,
      c.if-end-bytes.false,
    ) in
    record {
      taken = record {
        scale = ap (λ (k : GridBuilder). k.scale) kept ∙ before.scale;
        further = omega (arith, before.further);
        within = omega (arith, inside);
        words = λ text h. plain_word self text bytes _ at c.in-Some.len _ (before.words text h) between
            (take_rest bytes at) plain inside refl (sym c.is_separator.ensures ∙ c.if-not-is_separator.false) kept
            (λ ps hs w k short e. c.in-Ok.ensures.word ps hs w k short (c.value_cell-meaning.ensures self.builder.scale
            self.builder.nodata w (e ∙ ap Some (sym (to_z-of_z w64 c.in-Some.value fits))) k.value));
      };
      between = (ap (λ (k : GridBuilder). k.expected) kept ∙ between.0, between.1);
    }
