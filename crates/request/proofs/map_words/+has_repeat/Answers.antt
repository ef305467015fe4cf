use Rattle.std.proofs.Common.{◌||◌, ap, sym, ◌∙◌}
use Rattle.request.specs.MapWords.{has_repeat}
use Rattle.request.proofs.MapLists.{after_first, repeat_step}
use Rattle.request.proofs.map_words.+has_repeat.Goals as goal

pub returns-then-is_among : goal.returns-then-is_among
returns-then-is_among t c = c.if-is_among.true ∙ sym (repeat_step c.args.words.now _ c.in-len1-up.len_at_least
    ∙ ap (λ b. b || has_repeat (after_first c.args.words.now)) (sym c.is_among.ensures ∙ c.if-is_among.true))

pub returns-else-is_among : goal.returns-else-is_among
returns-else-is_among t c = c.has_repeat.ensures ∙ sym (repeat_step c.args.words.now _ c.in-len1-up.len_at_least
    ∙ ap (λ b. b || has_repeat (after_first c.args.words.now)) (sym c.is_among.ensures ∙ c.if-is_among.false))
