use Rattle.ascii_grid.proofs.write.header_page.Goals as goal

pub returns : goal.returns
returns c = rw (
  c.push_line-2.ensures.text,
  c.push_line.ensures.text,
  c.push_anchor-2.ensures.text,
  c.push_anchor.ensures.text,
  c.push_number_line-2.ensures.text,
  c.push_number_line.ensures.text,
  c.new-page.ensures,
  c.cols.ensures.value,
  c.rows.ensures.value,
  c.xll.ensures.centre,
  c.xll.ensures.word,
  c.yll.ensures.centre,
  c.yll.ensures.word,
  c.as_bytes.ensures.value,
  c.cellsize.ensures,
)
