use Rattle.relief.proofs.fault_line.write_bad_word.Goals as goal

pub returns : goal.returns
returns g c =
    rw (c.push_byte.ensures, c.push_number.ensures.text, c.push.ensures, c.new-line.ensures)
    at c.write_to.ensures
