-- What the exit of a `?` returns, where it passes its fault on.
use Rattle.std.proofs.Common.{◌≡◌, ap, Result, Ok, Err}
use Rattle.std.specs.Result.{IsErrAnd}

pub err_is : {T E : Type 0} {r : Result T E} {e : E} → IsErrAnd r (λ y. y ≡ e) → r ≡ Err e
err_is {r = Ok x} h = absurd h
err_is {r = Err y} h = ap Err h
