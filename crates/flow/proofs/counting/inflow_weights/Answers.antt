use Rattle.std.proofs.Common.{◌≡◌, ℕ, ◌++◌, List, drop, length, get_or, take, subst, sym, ap, ◌∙◌, arith}
use Rattle.std.proofs.lemmas.List.{take_at}
use Rattle.tiles.specs.Cutting.{bounds_of, index_in}
use Rattle.flow.specs.Counting.{AreInflowWeights}
use Rattle.flow.proofs.counting.inflow_weights.Goals as goal

pub add_to-requires-clause-size : goal.add_to-requires-clause-size
add_to-requires-clause-size c = ap length c.deref_mut.ensures.value ∙ c.in_ok-weights.ensures.size ∙ c.requires.size

pub add_to-requires-clause-fits : goal.add_to-requires-clause-fits
add_to-requires-clause-fits c p h =
    let i = index_in (bounds_of c.args.inflows.now.cutting c.args.tile) p in
    omega (arith, ap (λ l. get_or l i 0) c.deref_mut.ensures.value, c.in_ok-weights.ensures.zeros i)

pub returns : goal.returns
returns c =
    let b = bounds_of c.args.inflows.now.cutting c.args.tile in
    let same : take c.in_ok-weights.weights.len (c.add_to.new.weights ++ drop (length c.add_to.new.weights)
    c.in_ok-weights.weights.items) ≡ c.add_to.new.weights = take_at c.add_to.new.weights
    (drop (length c.add_to.new.weights) c.in_ok-weights.weights.items) c.in_ok-weights.weights.len
    (c.add_to.ensures.size ∙ c.deref_mut.ensures.len) in
    subst (λ w. AreInflowWeights c.args.inflows.now b w) (sym same) (record {
      size = c.add_to.ensures.size ∙ ap length c.deref_mut.ensures.value ∙ c.in_ok-weights.ensures.size ∙
          c.requires.size;
      each = λ p h. omega (
        arith,
        c.add_to.ensures.each p h,
        ap (λ (l : List ℕ). get_or l (index_in b p) 0) c.deref_mut.ensures.value,
        c.in_ok-weights.ensures.zeros (index_in b p),
      );
    })
