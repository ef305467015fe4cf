use Rattle.request.proofs.Commas.{too_many_parts}
use Rattle.request.proofs.place_words.parse_observer.Goals as goal

pub returns-in-Some : goal.returns-in-Some
returns-in-Some c =
    too_many_parts c.args.word.now c.in_ok-row.rest.now c.in_ok-col.eye.now c.in_ok-row.row.now
    c.in_ok-col.col.now c.in-Some.field-0-0.now c.in-Some.field-0-1.now (rw c.as_bytes.ensures.value
    at c.in_ok-row.ensures.some) c.in_ok-col.ensures.some c.in-Some.ensures.some
