use Rattle.std.proofs.Common.{length, ap, arith}
use Rattle.flow.proofs.numbering.TileNumbersEndNumbering.number.Goals as goal

pub has_data-requires : goal.has_data-requires
has_data-requires g c = omega (arith, c.args.self.now.ready.codes_size, ap length c.links.ensures.codes)
