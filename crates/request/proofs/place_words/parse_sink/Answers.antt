use Rattle.request.proofs.Commas.{no_sink}
use Rattle.request.proofs.place_words.parse_sink.Goals as goal

pub returns-in-Some : goal.returns-in-Some
returns-in-Some c =
    no_sink c.args.word.now
    c.in_ok-row.col.now c.in_ok-row.row.now c.in-Some.field-0-0.now c.in-Some.field-0-1.now
    (rw c.as_bytes.ensures.value at c.in_ok-row.ensures.some) c.in-Some.ensures.some
