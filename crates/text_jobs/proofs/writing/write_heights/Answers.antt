use Rattle.text_jobs.proofs.writing.write_heights.Goals as goal

pub returns : goal.returns
returns g c = rw
    (c.as_bytes.ensures.value, c.nodata.ensures, c.cells.ensures.value, c.frame-frame.ensures.value)
    at c.write_map.ensures
