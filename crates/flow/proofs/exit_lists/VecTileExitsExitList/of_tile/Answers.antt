use Rattle.std.proofs.Common.{refl, arith}
use Rattle.std.proofs.lemmas.Option.{slice_get_read}
use Rattle.flow.proofs.exit_lists.VecTileExitsExitList.of_tile.Goals as goal

pub returns : goal.returns
returns c = (
  c.index.result.now,
  slice_get_read c.args.self.now.items _ c.args.tile _ refl (omega (arith, c.requires)) c.index.ensures,
  refl,
)
