use Rattle.std.proofs.Common.{ℕ, ◌≤◌, length, get_or, map, Option, None, is_some, cond, sym, ap, ◌∙◌, arith}
use Rattle.std.proofs.Math.ListN.{length-map}
use Rattle.std.proofs.lemmas.Grind.{same_number_lists}
use Rattle.std.proofs.lemmas.List.{get_or-map}
use Rattle.flow.specs.TileLinks.{code_told, weights_by}
use Rattle.flow.proofs.Ranges.{set_next}
use Rattle.flow.proofs.tile_links.set_weights.Goals as goal

pub loop-index-preserved : goal.loop-index-preserved
loop-index-preserved c =
    let moves = c.args.moves.now in
    let k = c.loop-index.index in
    let weight : Option ℕ → ℕ = λ code. cond {A = ℕ} (is_some code) 1 0 in
    let told = ap weight (get_or-map code_told moves k 0 None (omega arith)) in
    let read = get_or-map weight (map code_told moves) k None 0 (omega (arith, length-map moves code_told)) in
    set_next (λ i. get_or (weights_by (map code_told moves)) i 0) (omega arith) c.loop-index.invariant
    (c.weight.ensures ∙ sym (read ∙ told))

pub returns : goal.returns
returns c =
    let moves = c.args.moves.now in
    let all : length moves ≤ c.loop-index.index = omega arith in
    let s = c.loop-index.invariant in
    same_number_lists _ _ (s.size ∙ sym (length-map (map code_told moves) (λ code. cond (is_some code) 1 0) ∙
    length-map moves code_told)) (λ i h. s.each i 0 (omega arith))
