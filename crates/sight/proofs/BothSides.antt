-- A family's lines are the columns, or the rows, on one side of an observer. Two opposite families
-- meet all cells but those beside the observer. So they clear exactly the flags of cells whose line of
-- sight a crossing with their lines blocks.
use Rattle.std.proofs.Common.{arith, refl, sym, ap, subst, ◌∙◌, ◌≡◌, ◌+◌, ◌-◌, ◌*◌, ◌<◌, ◌≤◌, ℕ, ℤ, pos, ◌+ℤ◌, ◌-ℤ◌, Bool, true, false, not, ◌&&◌, List, Option, None, get_or, unwrap_or, inl, inr}
use Rattle.std.specs.Int.{abs_diff}
use Rattle.std.specs.List.{list_any, range_with_len}
use Rattle.std.proofs.lemmas.Bool.{cases_lt}
use Rattle.std.proofs.lemmas.Int.{ints}
use Rattle.sight.specs.Sweep.{lead_of, is_blocked_before}
use Rattle.sightlines.specs.Walk.{step_blocks, steps_of, walk_blocks}
use Rattle.sight.specs.Hiding.{entry_in_extent, rise_at, AreHidden, AreMet, Crosses, IsFlagLeft, IsInRun}
use Rattle.sight.specs.Sides.{facing, sightline_to, AreOpen}
use Rattle.sight.specs.declared.family.Family.{Family}
use Rattle.sightlines.specs.declared.walk.Axis.{Axis}
use Rattle.sightlines.specs.declared.walk.Sightline.{Sightline}
use Rattle.sight.specs.declared.extent.Extent.{Extent}
use Rattle.sight.proofs.Families.{walk_is_blocked}

rises : (e g h : ℤ) → g +ℤ h ≡ e +ℤ ((g +ℤ h) -ℤ e)
rises e g h = omega (arith, ints)

-- the walk to a cell of line n is blocked exactly where a line before line n blocks the cell
pub lines_block : (cells : List (Option ℤ)) (f : Family) (height n x y : ℕ) → lead_of f n ≡ x →
    abs_diff f.lines.at x ≡ n →
    walk_blocks cells (sightline_to cells f height x y) ≡ is_blocked_before cells f n y (rise_at cells f height n y) n
lines_block cells f height n x y at away =
    let ground : ℕ → ℤ = λ to. unwrap_or (get_or cells (to * f.lines.stride + y * f.side.stride) None) (pos 0) in
    let axis : ℕ → Axis = λ to. record { from = f.lines.at; to = to; stride = f.lines.stride } in
    let high = ap (λ to. ground to +ℤ pos height) (sym at) ∙ rises f.eye (ground (lead_of f n)) (pos height) in
    walk_is_blocked cells f n y (rise_at cells f height n y) (sightline_to cells f height x y) (ap axis (sym at)) refl
    refl high away

-- a walk of at most one step meets no crossing, so nothing blocks it
pub none_between : (cells : List (Option ℤ)) (l : Sightline) → steps_of l ≤ 1 → walk_blocks cells l ≡ false
none_between cells l few =
    let none : steps_of l - 1 ≡ 0 = omega arith in
    ap (λ m.
    list_any (λ k. step_blocks cells l.lead l.side l.from_elevation l.to_elevation (steps_of l) k)
    (range_with_len 1 m)) none

unchanged : (m b : Bool) → b ≡ false → m ≡ (m && not b)
unchanged true b e = rw e refl
unchanged false b e = refl

-- after both families, `P` is true of a cell's old and new entry: where the cell is on a line, since
-- that was met; elsewhere, since nothing blocks a walk of at most one step
pub both_met :
    {A : Type 0} (default : A) (Met : Bool → ℕ → ℕ → A → A → Type 0) (f : Family) (w : Extent) (old mid new : List A) →
    f.lines.at < 4096 → w.lines.first + w.lines.cells ≤ 4096 → AreMet default (Met false) (facing f false) w old mid →
    AreMet default (Met true) (facing f true) w mid new → (x y : ℕ) → IsInRun w.lines x → IsInRun w.side y →
    (P : A → A → Type 0) →
    ((back : Bool) (n : ℕ) → lead_of (facing f back) n ≡ x → abs_diff f.lines.at x ≡ n → (a b : A) → Met back n y a b →
    P a b) → ((a : A) → abs_diff f.lines.at x ≤ 1 → P a a) →
    P (entry_in_extent default w x y old) (entry_in_extent default w x y new)
both_met {A} default Met f w old mid new few inside one two x y in_x in_y P met stays =
    let at = entry_in_extent default w x y in
    elim (cases_lt (f.lines.at + 1) x) [
      | inl ahead ↦
          let n = x - f.lines.at in
          let line : f.lines.at + n ≡ x = omega arith in
          let crosses : Crosses (facing f false) w n = record {
            later = omega arith;
            line = (omega arith, omega arith, λ e. absurd cc);
            within = (omega arith, omega arith);
          } in
          subst (P (at old)) (sym (two.kept x y in_x in_y (λ m c e. omega (arith, e, c.later))))
          (met false n line (omega arith) _ _ (subst
          (λ (z : ℕ). Met false n y (entry_in_extent default w z y old) (entry_in_extent default w z y mid))
          line (one.crossed n y crosses in_y)))
      | inr not_ahead ↦ elim (cases_lt (x + 1) f.lines.at) [
        | inl behind ↦
            let n = f.lines.at - x in
            let line : f.lines.at - n ≡ x = omega arith in
            let crosses : Crosses (facing f true) w n = record {
              later = omega arith;
              line = (omega arith, omega arith, λ e. omega arith);
              within = (omega arith, omega arith);
            } in
            subst (λ (a : A). P a (at new)) (one.kept x y in_x in_y (λ m c e. omega (arith, e, c.later)))
            (met true n line (omega arith) _ _ (subst (λ (z : ℕ).
            Met true n y (entry_in_extent default w z y mid) (entry_in_extent default w z y new)) line
            (two.crossed n y crosses in_y)))
        | inr beside ↦ subst (P (at old)) (sym (two.kept x y in_x in_y
            (λ m c e. omega (arith, e, c.later, c.line.2 refl)) ∙
            one.kept x y in_x in_y (λ m c e. omega (arith, e)))) (stays (at old) (omega arith))
      ]
    ]

pub both_sides : (cells : List (Option ℤ)) (f : Family) (w : Extent) (height : ℕ) (old mid new : List Bool) →
    f.lines.at < 4096 → w.lines.first + w.lines.cells ≤ 4096 → AreHidden cells (facing f false) w height old mid →
    AreHidden cells (facing f true) w height mid new → AreOpen cells f w height old new
both_sides cells f w height old mid new few inside one two = record {
  size = two.size ∙ one.size;
  each = λ x y in_x in_y.
      let walked = walk_blocks cells (sightline_to cells f height x y) in
      both_met false (λ back. IsFlagLeft cells (facing f back) height) f w old mid new few inside one two x y in_x in_y
      (λ a b. b ≡ (a && not walked)) (λ back n at away a b is.
      is ∙ ap (λ q. a && not q) (sym (lines_block cells (facing f back) height n x y at away)))
      (λ a near. unchanged a walked (none_between cells (sightline_to cells f height x y) near));
}
