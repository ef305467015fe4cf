use Rattle.std.proofs.Common.{◌∙◌}
use Rattle.request.proofs.MapLists.{any_of_texts}
use Rattle.request.proofs.map_words.is_among.Goals as goal

pub returns : goal.returns
returns c = c.contains.ensures.value ∙ any_of_texts _ c.args.words.now
