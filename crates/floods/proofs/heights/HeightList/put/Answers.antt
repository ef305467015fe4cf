use Rattle.std.proofs.Common.{rules, length, ap, arith}
use Rattle.std.proofs.lemmas.Int.{to_z-of_z}
use Rattle.terrain.proofs.Heights.{height_width}
use Rattle.floods.proofs.HeightLists.{length-where, where-set, where-flagged}
use Rattle.floods.proofs.heights.HeightList.put.Goals as goal

pub index_mut-requires : goal.index_mut-requires
index_mut-requires c = omega (arith, c.requires, ap length c.self.view_is, length-where _ _ c.self.inside.size)

pub index_mut-requires-then-is_lack : goal.index_mut-requires-then-is_lack
index_mut-requires-then-is_lack c = omega (
  arith,
  c.requires,
  ap length c.self.view_is,
  length-where _ _ c.self.inside.size,
  c.self.inside.size,
)

pub returns-then-is_lack : goal.returns-then-is_lack
returns-then-is_lack c =
    rw (to_z-of_z height_width c.args.height (search rules), ← c.self.view_is)
    (where-flagged c.args.height _ _ c.args.index c.self.inside.size)

pub returns-else-is_lack : goal.returns-else-is_lack
returns-else-is_lack c =
    let height = to_z-of_z height_width c.args.height (search rules) in
    rw (height, ← c.self.view_is) (where-set c.args.height _ _ c.args.index c.self.inside.size (cc))
