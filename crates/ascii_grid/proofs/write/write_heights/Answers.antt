use Rattle.ascii_grid.proofs.ReadBack.{read_back}
use Rattle.ascii_grid.proofs.write.write_heights.Goals as goal

pub returns : goal.returns
returns g c = record {
  text = rw (
    c.as_bytes.ensures.value,
    c.nodata.ensures,
    c.cells.ensures.value,
    c.frame-frame.ensures.value,
  ) at c.write_cells.ensures;
  again = read_back c.args.grid.now c.cells.ensures.lawful;
}
