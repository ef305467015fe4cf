-- Ray by ray, the entries of cells are met: their flags are cleared where a family's lines hide them,
-- or their targets raised over these lines. A ray leads from the observer to a target, seen from
-- above. A family's lines are the columns, or the rows, on one side of the observer.
use Rattle.std.proofs.Common.{arith, refl, sym, ap, subst, ◌∙◌, ◌≡◌, ◌≢◌, ◌⊎◌, ℕ, ◌+◌, ◌-◌, ◌*◌, ◌<◌, ◌≤◌, Bool, true, false, ℤ, pos, ◌+ℤ◌, unsigned_abs, to_z, of_z, w32, List, length, get_or, Option, Some, inl, inr}
use Rattle.std.specs.Prelude.{slice_get, if◌then◌else◌}
use Rattle.std.proofs.lemmas.Bool.{cases_lt, cases_eq}
use Rattle.std.proofs.lemmas.Int.{ints, to_z_pos}
use Rattle.horizons.proofs.Sizes.{back_short}
use Rattle.std.proofs.lemmas.Nat.{mul-le}
use Rattle.std.proofs.lemmas.Option.{same_Some, slice_get_within, slice_get-get_or, slice_get_read, get_or_from_slice_get}
use Rattle.horizons.specs.declared.target.Target.{Target}
use Rattle.horizons.specs.Horizons.{IsTarget, IsUpTo}
use Rattle.sight.specs.Sweep.{lead_of, HidesBefore, IsFamily, IsAtCell}
use Rattle.sight.specs.Ranks.{IsRanked}
use Rattle.sight.specs.Looking.{LooksFrom}
use Rattle.sight.specs.Hiding.{entry_in_extent, flag_index, target_at, AreMet, AreRays, Crosses, IsApart, IsInRun, IsRay, IsExtent, KeepsOthers}
use Rattle.sight.specs.declared.family.Family.{Family}
use Rattle.sight.specs.declared.extent.Extent.{Extent}
use Rattle.sight.specs.declared.sweep.Sweep.{Sweep}
use Rattle.sight.specs.declared.looking.SweepLookup.{SweepLookup}

-- if x * s + y and a * s + b are equal, and y and b are below s, then x is a and y is b
parts_of : (x y a b s : ℕ) → y < s → b < s → x * s + y ≡ a * s + b → (x ≡ a) × (y ≡ b)
parts_of x y a b s small_y small_b e = elim (cases_lt x a) [
  | inl less ↦ absurd (omega (arith, mul-le (x + 1) s a s (omega arith) (omega arith)))
  | inr not_less ↦ elim (cases_lt a x) [
    | inl more ↦ absurd (omega (arith, mul-le (a + 1) s x s (omega arith) (omega arith)))
    | inr not_more ↦
        let x_is : x ≡ a = omega arith in
        let row = ap (λ k. k * s) x_is in
        (x_is, omega (arith, row))
  ]
]

pub same_cell : (w : Extent) (x y a b : ℕ) → IsApart w → IsInRun w.lines x → IsInRun w.side y → IsInRun w.lines a →
    IsInRun w.side b → flag_index w x y ≡ flag_index w a b → (x ≡ a) × (y ≡ b)
same_cell w x y a b is in_x in_y in_a in_b e =
    let r = x - w.lines.first in
    let c = y - w.side.first in
    let q = a - w.lines.first in
    let d = b - w.side.first in
    elim is.apart [
      | inl h ↦
          let here : r * w.lines.stride + c ≡ q * w.lines.stride + d = omega (
            arith,
            e,
            ap (λ k. c * k) h.0,
            ap (λ k. d * k) h.0,
          ) in
          let same = parts_of r c q d w.lines.stride (omega (arith, h.1, in_y)) (omega (arith, h.1, in_b)) here in
          (omega (arith, same.0, in_x, in_a), omega (arith, same.1, in_y, in_b))
      | inr h ↦
          let here : c * w.side.stride + r ≡ d * w.side.stride + q = omega (
            arith,
            e,
            ap (λ k. r * k) h.0,
            ap (λ k. q * k) h.0,
          ) in
          let same = parts_of c r d q w.side.stride (omega (arith, h.1, in_x)) (omega (arith, in_a)) here in
          (omega (arith, in_x, in_a), omega (arith, in_y, in_b))
    ]

-- different lines have different coordinates
pub line_from : (back : Bool) (at m n : ℕ) → (back ≡ true → m ≤ at) → (back ≡ true → n ≤ at) →
    (if back then at - m else at + m) ≡ (if back then at - n else at + n) → m ≡ n
line_from true at m n a b e =
    let p = a refl in
    let q = b refl in
    omega arith
line_from false at m n a b e = omega arith

near_line : (back : Bool) (at n : ℕ) → at < 4096 → (back ≡ true → n ≤ at) → (if back then at - n else at + n) < 4096 →
    n < 4096
near_line true at n few a is =
    let p = a refl in
    omega arith
near_line false at n few a is = omega arith

pub ray_is_target : (f : Family) (w : Extent) (flags : List Bool) (t : Target) → IsFamily f → IsExtent f w flags →
    IsRay f w t → IsTarget t
ray_is_target f w flags t is_f is_w ray = record {
  line = (omega arith, near_line _ _ _ is_f.lines ray.crosses.line.2 (omega arith));
  offset = omega (arith, ints);
}

pub ray_at : (f : Family) (w : Extent) (flags : List Bool) (rays same : List Target) (n : ℕ) → same ≡ rays →
    n < length same → AreRays f w flags 4097 0 rays → IsRay f w (get_or same n (record { offset = pos 0; line = 0 }))
ray_at f w flags rays same n e within are =
    let at = slice_get-get_or same n (record { offset = pos 0; line = 0 }) within in
    (are.each n (get_or same n (record { offset = pos 0; line = 0 })) (ap (λ xs. slice_get xs n) (sym e) ∙ at)).0

-- the target of ray n is at index `rank` of the targets, if `rank` is the rank of ray n
pub rank_at : (rays targets : List Target) (ranks : List ℕ) (n rank : ℕ) → n < length rays →
    IsRanked rays targets ranks → rank ≡ get_or ranks n rank →
    slice_get targets rank ≡ Some (get_or rays n (record { offset = pos 0; line = 0 }))
rank_at rays targets ranks n rank within are at =
    let has = slice_get_read ranks (length ranks) n rank refl (omega (arith, are.size)) at in
    ap (slice_get targets) (sym (get_or_from_slice_get ranks n rank 0 has)) ∙
    are.each n (get_or rays n (record { offset = pos 0; line = 0 }))
    (slice_get-get_or rays n (record { offset = pos 0; line = 0 }) within)

-- `LooksFrom` stays true for a new cursor and last rank, if the cursor may be used at that rank
pub looked_on : (cells : List (Option ℤ)) (f : Family) (targets : List Target) (k : ℕ) (old new : SweepLookup) →
    LooksFrom cells f targets k old → new.line ≡ old.line → new.sweep ≡ old.sweep →
    IsUpTo new.sweep.highest new.cursor new.last → LooksFrom cells f targets new.line new
looked_on cells f targets k old new were line sweep cursor = record {
  line = refl;
  hides = subst (λ (n : ℕ). HidesBefore cells f targets n new.sweep.highest) (sym (line ∙ were.line))
      (subst (λ (s : Sweep). HidesBefore cells f targets k s.highest) (sym sweep) were.hides);
  cursor = cursor;
}

pub extent_kept : (f : Family) (w : Extent) (old new : List Bool) → length new ≡ length old → IsExtent f w old →
    IsExtent f w new
extent_kept f w old new size is = record {
  lines = is.lines;
  first = is.first;
  side = is.side;
  strides = is.strides;
  inside = λ x y a b. omega (arith, is.inside x y a b);
}

-- a target is at only one cell of one line
pub same_target : (f : Family) (t : Target) (m z y : ℕ) → IsAtCell f y t → t ≡ target_at f m z → (m ≡ t.line) × (z ≡ y)
same_target f t m z y stands e = (ap (λ q. q.line) (sym e), omega (arith, ints, stands.offset, ap (λ q. q.offset) e))

-- after the rays of index below `end`: `Met` is true of the old and the new entry of a cell on line 2
-- or beyond; or the entry is the old one, and none of those rays leads to the cell
pub record AreMetBelow {A : Type 0} (default : A) (Met : ℕ → ℕ → A → A → Type 0) (f : Family) (w : Extent)
    (rays : List Target) (end : ℕ) (old new : List A) : Type 0 where
  pub size : length new ≡ length old
  pub crossed : (n y : ℕ) → Crosses f w n → IsInRun w.side y →
      Met n y (entry_in_extent default w (lead_of f n) y old) (entry_in_extent default w (lead_of f n) y new) ⊎
      ((entry_in_extent default w (lead_of f n) y new ≡ entry_in_extent default w (lead_of f n) y old) ×
      ((u : ℕ) → u < end → slice_get rays u ≡ Some (target_at f n y) → ⊥))
  pub kept : KeepsOthers default f w old new

module _ {A : Type 0} (default : A) (Met : ℕ → ℕ → A → A → Type 0) (f : Family) (w : Extent) (rays : List Target) where
  pub none_met : (entries : List A) → AreMetBelow default Met f w rays 0 entries entries
  none_met entries = record {
    size = refl;
    crossed = λ n y crosses in_y. inr (refl, λ u below at. absurd (omega arith));
    kept = λ x y in_x in_y off. refl;
  }

  -- ray n leads to cell y of its line, and no other entry changes
  pub ray_met : (n : ℕ) (old mid new : List A) (t : Target) (y : ℕ) → IsApart w → slice_get rays n ≡ Some t →
      IsAtCell f y t → IsInRun w.side y → Crosses f w t.line → length new ≡ length mid →
      ((k : ℕ) → k ≢ flag_index w (lead_of f t.line) y → get_or new k default ≡ get_or mid k default) →
      Met t.line y (entry_in_extent default w (lead_of f t.line) y old)
      (entry_in_extent default w (lead_of f t.line) y new) → AreMetBelow default Met f w rays n old mid →
      AreMetBelow default Met f w rays (n + 1) old new
  ray_met n old mid new t y apart at_t stands in_y crosses size others met were = record {
    size = size ∙ were.size;
    crossed = λ m z crossed in_z. elim (cases_eq (flag_index w (lead_of f m) z) (flag_index w (lead_of f t.line) y)) [
      | inl same ↦
          let cell = same_cell w _ z _ y apart crossed.within in_z crosses.within in_y same in
          let line = line_from _ _ m _ crossed.line.2 crosses.line.2 cell.0 in
          let Holds : ℕ → ℕ → Type 0 =
          λ k c.
          Met k c (entry_in_extent default w (lead_of f k) c old)
          (entry_in_extent default w (lead_of f k) c new) in
          inl (subst (λ (k : ℕ). Holds k z) (sym line) (subst (λ (c : ℕ). Holds t.line c) (sym cell.1) met))
      | inr other ↦
          let now = others (flag_index w (lead_of f m) z) other in
          elim (were.crossed m z crossed in_z) [
            | inl is ↦ inl (subst (Met m z (entry_in_extent default w (lead_of f m) z old)) (sym now) is)
            | inr e ↦ inr (
              now ∙ e.0,
              λ u below at. elim (cases_lt u n) [
                | inl before ↦ e.1 u before at
                | inr last ↦
                    let u_is : n ≡ u = omega arith in
                    let is =
                    same_target f t m z y stands
                    (same_Some t (target_at f m z) (sym at_t ∙ ap (slice_get rays) u_is ∙ at)) in
                    other (ap (λ k. flag_index w (lead_of f k) z) is.0 ∙ ap (flag_index w (lead_of f t.line)) is.1)
              ],
            )
          ]
    ];
    kept = λ x z in_x in_z off.
        others (flag_index w x z)
        (λ same. off t.line crosses (sym (same_cell w x z _ y apart in_x in_z crosses.within in_y same).0)) ∙
        were.kept x z in_x in_z off;
  }

  -- a cell to which no ray leads may keep its entry
  pub all_met : (old new : List A) →
      ((n y : ℕ) → Crosses f w n → IsInRun w.side y →
      Met n y (entry_in_extent default w (lead_of f n) y old) (entry_in_extent default w (lead_of f n) y old) ⊎
      ((u : ℕ) × (slice_get rays u ≡ Some (target_at f n y)))) →
      AreMetBelow default Met f w rays (length rays) old new → AreMet default Met f w old new
  all_met old new each are = record {
    size = are.size;
    crossed = λ n y crosses in_y. elim (are.crossed n y crosses in_y) [
      | inl met ↦ met
      | inr e ↦ elim (each n y crosses in_y) [
        | inl met ↦ subst (Met n y (entry_in_extent default w (lead_of f n) y old)) (sym e.0) met
        | inr ray ↦ absurd (e.1 ray.0 (slice_get_within rays ray.0 (target_at f n y) ray.1) ray.1)
      ]
    ];
    kept = are.kept;
  }

-- the code's 32-bit sum of the observer's coordinate and a ray's offset is the ray's cell
pub cell_back : (f : Family) (y : ℕ) (ray : Target) → IsFamily f → IsAtCell f y ray →
    unsigned_abs (to_z w32 (of_z w32 (to_z w32 f.side.at +ℤ to_z w32 (of_z w32 ray.offset)))) ≡ y
cell_back f y ray is stands =
    let sum : pos f.side.at +ℤ ray.offset ≡ pos y = omega (arith, ints) in
    let offset = back_short ray.offset (omega (arith, ints, is)) in
    rw (to_z_pos w32 f.side.at (omega (arith, is)), offset, sum, back_short (pos y) (omega (arith, is))) refl
