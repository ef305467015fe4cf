use Rattle.std.proofs.Common.{◌≡◌, ℕ, None, ◌∷◌, [], option_map, get_or, refl, arith}
use Rattle.terrain.proofs.EightWays.{eight}
use Rattle.drain.proofs.steepness.heights_around.Goals as goal

pub returns : goal.returns
returns c = record {
  own_level = refl;
  count = omega arith;
  each = eight (λ (way : ℕ). get_or (c.height_of.result ∷ c.height_of-2.result
      ∷ c.height_of-3.result ∷ c.height_of-4.result ∷ c.height_of-5.result ∷ c.height_of-6.result
      ∷ c.height_of-7.result ∷ c.height_of-8.result ∷ []) way None
      ≡ option_map (λ w. w.0) (get_or c.args.around.now.ways way None))
      c.height_of.ensures c.height_of-2.ensures c.height_of-3.ensures c.height_of-4.ensures
      c.height_of-5.ensures c.height_of-6.ensures c.height_of-7.ensures c.height_of-8.ensures;
}
