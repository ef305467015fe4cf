use Rattle.std.proofs.Common.{arith, ap, ◌≡◌, ◌+◌, ◌-◌, ◌*◌, ◌/◌, ◌%◌, ◌<◌, ◌≤◌, ℕ}
use Rattle.std.proofs.lemmas.Nat.{div-mul-add, div-add-mod', mod_below}
use Rattle.sightlines.specs.Walk.{steps_of, whole_at}
use Rattle.sightlines.proofs.Toward.{lead_up_is, lead_down_is}
use Rattle.sightlines.proofs.passing.block_end.Goals as goal
use Rattle.sightlines.proofs.passing.block_end.Goals.{then-line, else-line}

same_block : (x y size : ℕ) → 0 < size → x / size * size ≤ y → y < x / size * size + size → y / size ≡ x / size
same_block x y size some low high =
    let split : y ≡ x / size * size + (y - x / size * size) = omega arith in
    rw split (div-mul-add (x / size) size (y - x / size * size) (omega arith))

pub returns-clause-same : goal.returns-clause-same
returns-clause-same c k low high =
    let line = c.args.line in
    let n = steps_of line in
    let x = whole_at line.lead n c.args.step in
    let y = whole_at line.lead n k in
    let size = c.args.size in
    let at = ap (λ z. z % size) c.lead_at.ensures in
    let parts = div-add-mod' x size in
    let below = mod_below x size (omega arith) in
    elim c.if-line.branch [
      | then-line w ↦
          let here = lead_up_is line.lead.from line.lead.to n c.args.step (omega arith) (omega arith) (omega arith) in
          let there = lead_up_is line.lead.from line.lead.to n k (omega arith) (omega arith) (omega arith) in
          same_block x y size (omega arith) (omega (arith, here, there, parts))
          (omega (arith, here, there, at, parts, below))
      | else-line w ↦
          let here = lead_down_is line.lead.from line.lead.to n c.args.step (omega arith) (omega arith) (omega arith) in
          let there = lead_down_is line.lead.from line.lead.to n k (omega arith) (omega arith) (omega arith) in
          same_block x y size (omega arith) (omega (arith, here, there, at, parts))
          (omega (arith, here, there, parts, below))
    ]
