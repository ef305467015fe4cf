use Rattle.std.proofs.Common.{map, take}
use Rattle.request.specs.CommandLine.{Spell}
use Rattle.request.proofs.words.read_words.Given as goal

abbrev pub invariant-loop-place : goal.invariant-loop-place
invariant-loop-place g l =
    Spell g.T.FromWord.spelled (map (λ w. w.now) (take l.place l.words)) l.items.items
