use Rattle.ascii_grid.proofs.RowText.{whole_rows}
use Rattle.ascii_grid.proofs.write.write_cells.Goals as goal

pub returns : goal.returns
returns g c =
    rw (
      c.header_page-page.ensures,
      c.cols-cols.ensures.value,
      c.scale.ensures.value,
      whole_rows _ _ _ c.requires.size c.cols-cols.ensures.lawful.terrain.some_col,
    ) at c.write_page_and_rows.ensures
