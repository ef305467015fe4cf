-- Two reads in turn, or two writes in turn, read or write the bytes of both and count them. One
-- call reads or writes, and counts, as many bytes as it returns.
use Rattle.std.proofs.Common.{ℕ, List, ◌++◌, ◌≡◌, ◌≤◌, length, take, Option, ◌∙◌, arith}
use Rattle.std.specs.Io.KnownBytes.{Appends, Consumes, Keeps}
use Rattle.std.proofs.KnownBytes.{Appends-trans, Consumes-trans, Consumes-kept}
use Rattle.std.proofs.lemmas.List.{length-append, length-take-le}
use Rattle.ascii_grid.specs.Device.{Device, HasRead, HasWritten, Moves}

Moves-more : {b c : ℕ} (a : ℕ) (x y : List ℕ) → Moves a b (length x) → Moves b c (length y) →
    Moves a c (length (x ++ y))
Moves-more a x y h k = omega (arith, length-append x y, k)

pub written_more : {W : Type 0} {contents : W → Option (List ℕ)} {a b c : Device W} {x y : List ℕ} →
    HasWritten contents a b x → HasWritten contents b c y → HasWritten contents a c (x ++ y)
written_more {x} {y} h k = record {
  known = Appends-trans _ _ _ x y h.known k.known;
  moved = Moves-more _ x y h.moved k.moved;
}

pub read_more : {R : Type 0} (remaining : R → Option (List ℕ)) (a b c : Device R) (x y : List ℕ) →
    HasRead remaining a b x → HasRead remaining b c y → HasRead remaining a c (x ++ y)
read_more remaining a b c x y h k = record {
  known = Consumes-trans _ _ _ x y h.known k.known;
  moved = Moves-more _ x y h.moved k.moved;
}

pub written_some : {W : Type 0} {contents : W → Option (List ℕ)} {a b : Device W} {n : ℕ} (bytes : List ℕ) →
    n ≤ length bytes → Appends (contents a.device) (contents b.device) (take n bytes) → Moves a.moved b.moved n →
    HasWritten contents a b (take n bytes)
written_some bytes within known moved =
    record { known = known; moved = rw length-take-le moved }

module _ {R : Type 0} (remaining : R → Option (List ℕ)) (a b : Device R) where
  pub read_some : (n : ℕ) (bytes : List ℕ) → n ≤ length bytes →
      Consumes (remaining a.device) (remaining b.device) (take n bytes) → Moves a.moved b.moved n →
      HasRead remaining a b (take n bytes)
  read_some n bytes within known moved =
      record { known = known; moved = rw length-take-le moved }

  -- a call that read nothing leaves what was read before
  pub read_kept : (c : Device R) (x : List ℕ) → HasRead remaining a b x →
      Keeps (remaining b.device) (remaining c.device) → c.moved ≡ b.moved → HasRead remaining a c x
  read_kept c x h kept same =
      record { known = Consumes-kept _ _ _ x h.known kept; moved = same ∙ h.moved }
