-- A word is among texts if it is among what they refer to. A list repeats a word if its first word is
-- among the others, or they repeat one.
use Rattle.std.proofs.Common.{◌≡◌, ◌-◌, ◌≤◌, ◌||◌, Bool, Bor, List, [], ◌∷◌, length, map, take, drop, get_or, arith, ap, refl}
use Rattle.std.specs.List.{list_any}
use Rattle.std.proofs.lemmas.List.{take_all}
use Rattle.clap.specs.Words.{Text}
use Rattle.request.specs.MapWords.{has_repeat, is_among}

pub any_of_texts : (test : Text → Bool) (words : List (Bor Text)) →
    list_any (λ (w : Bor Text). test w.now) words ≡ list_any test (map (λ w. w.now) words)
any_of_texts test [] = refl
any_of_texts test (w ∷ words) = rw (any_of_texts test words) refl

-- what follows the first word, as the slice pattern takes it
abbrev pub after_first : List (Bor Text) → List Text
after_first words = map (λ w. w.now) (take (length words - 1) (drop 1 words))

pub repeat_step : (words : List (Bor Text)) (d : Bor Text) → 1 ≤ length words →
    has_repeat (map (λ w. w.now) words)
    ≡ (is_among (get_or words 0 d).now (after_first words) || has_repeat (after_first words))
repeat_step [] d some = absurd (omega arith)
repeat_step (w ∷ words) d some =
    let rest : take (length (w ∷ words) - 1) words ≡ words = take_all _ _ (omega arith) in
    rw rest refl
