use Rattle.std.proofs.Common.{rules, arith, ◌++◌}
use Rattle.ascii_grid.proofs.Feeding.{Feeds-taken, answered_more, as_reading}
use Rattle.ascii_grid.proofs.reader.GridReader.feed.Goals as goal

pub returns-in-Some : goal.returns-in-Some
returns-in-Some c =
    Feeds-taken (search rules) (λ text h. rw (← c.self.view_is)
    (answered_more _ text c.args.piece.now c.in-Some.fault c.in-Some.is (rw (← c.self.view_is) at h))) (search rules)
    (search rules)

pub invariant_of-self : goal.invariant_of-self
invariant_of-self c =
    let fed = c.self.invariant.1 in (
      omega arith,
      (
        fed.0 ++ c.args.piece.now,
        rw c.in-Err.ensures.scale (c.in-Err.ensures.read fed.0 (as_reading _ fed.0 c.in_default.is fed.1)),
      ),
    )

pub returns-in-Err : goal.returns-in-Err
returns-in-Err c =
    Feeds-taken (search rules) (λ text h. rw c.in-Err.ensures.scale
    (c.in-Err.ensures.read text (as_reading _ text c.in_default.is (rw (← c.self.view_is) at h)))) (search rules)
    (search rules)

pub invariant_of-self-in_default-read_piece : goal.invariant_of-self-in_default-read_piece
invariant_of-self-in_default-read_piece c =
    let fed = c.self.invariant.1 in (
      omega arith,
      (
        fed.0 ++ c.args.piece.now,
        rw c.in_default.is (c.in_default-read_piece.ensures.read fed.0 (as_reading _ fed.0 c.in_default.is fed.1)),
      ),
    )

pub returns : goal.returns
returns c =
    Feeds-taken (search rules) (λ text h. rw c.in_default.is
    (c.in_default-read_piece.ensures.read text (as_reading _ text c.in_default.is (rw (← c.self.view_is) at h))))
    (search rules) (search rules)
