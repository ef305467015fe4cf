-- All cells of a slice have data exactly if all of the list's cells at the slice's indexes have.
use Rattle.std.proofs.Common.{◌≡◌, ℕ, ◌+◌, ◌-◌, ◌<◌, ◌≤◌, ℤ, List, length, get_or, drop, slice_range, Option, None, IsSome, ◌∙◌, sym, ap, subst, arith}
use Rattle.std.specs.List.{EachIndex}
use Rattle.std.proofs.lemmas.List.{get_or-take, get_or-drop, length-take-le, length-drop}
use Rattle.cell_floods.specs.Cells.{HaveData}

part_at : (entries : List (Option ℤ)) (first count index : ℕ) → index < count → get_or
    (slice_range entries first (first + count)) index None ≡ get_or entries (first + index) None
part_at entries first count index below = get_or-take (first + count - first)
    (drop first entries) index None (omega (arith, below)) ∙ get_or-drop first entries index None

part_length : (entries : List (Option ℤ)) (first count : ℕ) → first + count ≤ length entries →
    length (slice_range entries first (first + count)) ≡ count
part_length entries first count inside =
    length-take-le (first + count - first) (drop first entries)
    (omega (arith, inside, length-drop first entries)) ∙ omega arith

pub part_there : (entries : List (Option ℤ)) (first count : ℕ) → first + count ≤ length entries →
    EachIndex (slice_range entries first (first + count)) (λ k. IsSome (get_or
    (slice_range entries first (first + count)) k None)) → HaveData entries first (first + count)
part_there entries first count inside all index from below =
    let at : index ≡ first + (index - first) = omega (arith, from) in
    let low : index - first < length (slice_range entries first (first + count)) =
    omega (arith, from, below, part_length entries first count inside) in
    subst (λ (o : Option ℤ). IsSome o) (part_at entries first count (index - first) (omega
    (arith, from, below)) ∙ ap (λ k. get_or entries k None) (sym at)) (all (index - first) low)

pub there_part : (entries : List (Option ℤ)) (first count : ℕ) → first + count ≤ length entries →
    HaveData entries first (first + count) → EachIndex (slice_range entries first
    (first + count)) (λ k. IsSome (get_or (slice_range entries first (first + count)) k None))
there_part entries first count inside all index below =
    let low : index < count = omega (arith, below, part_length entries first count inside) in
    subst (λ (o : Option ℤ). IsSome o) (sym (part_at entries first count index low))
    (all (first + index) (omega arith) (omega (arith, low)))
