-- A data cell's arcs lead to exactly the data cells around it, each at the greater height of the
-- two: these are the cell's joins in the net.
use Rattle.std.proofs.Common.{◌≡◌, ℕ, ◌+◌, ◌-◌, ◌<◌, ◌⊎◌, inl, inr, ℤ, List, [], ◌∷◌, ◌++◌, length, get_or, take, Option, None, Some, ◌∙◌, sym, ap, subst, refl, arith}
use Rattle.std.specs.Int.{int_max}
use Rattle.std.specs.List.{Contains, All, filter_map, cons_option}
use Rattle.std.proofs.lemmas.Option.{same_Some}
use Rattle.std.proofs.lemmas.List.{take_more}
use Rattle.std.proofs.lemmas.List.Elements.{filter_map-append, All-cons, All-nil, All-contains}
use Rattle.floods.specs.declared.net.Spill.{Spill}
use Rattle.floods.specs.Walk.{HasJust}
use Rattle.cell_floods.specs.Cells.{Cells, cell_at, IsBeside, IsCellJoin, cells_around, arc_to}
use Rattle.terrain.proofs.Options.{cases_option}
use Rattle.floods.proofs.Heaps.{cons_head, cons_tail, cons_cases, all_by_contains}

put_first : {Y : Type 0} (o : Option Y) (ys : List Y) (y : Y) → o ≡ Some y →
    Contains (cons_option o ys) y
put_first None ys y e = absurd (cc)
put_first (Some x) ys y e =
    subst (λ z. Contains (z ∷ ys) y) (sym (same_Some x y e)) (cons_head y ys)

put_later : {Y : Type 0} (o : Option Y) (ys : List Y) (y : Y) → Contains ys y →
    Contains (cons_option o ys) y
put_later None ys y h = h
put_later (Some x) ys y h = cons_tail x ys y h

put_cases : {Y : Type 0} (o : Option Y) (ys : List Y) (y : Y) → Contains (cons_option o ys) y →
    (o ≡ Some y) ⊎ Contains ys y
put_cases None ys y h = inr h
put_cases (Some x) ys y h =
    elim (cons_cases x ys y h) [ inl same ↦ inl (ap Some (sym same)) | inr later ↦ inr later ]

pub Contains-filter_map : {X Y : Type 0} (f : X → Option Y) (xs : List X) (x : X) (y : Y) →
    Contains xs x → f x ≡ Some y → Contains (filter_map f xs) y
Contains-filter_map f [] x y h e = absurd (omega (arith, h.1))
Contains-filter_map f (z ∷ zs) x y h e = elim (cons_cases z zs x h) [
  | inl same ↦ put_first (f z) (filter_map f zs) y (ap f (sym same) ∙ e)
  | inr later ↦ put_later (f z) (filter_map f zs) y (Contains-filter_map f zs x y later e)
]

pub Contains-from_filter_map : {X Y : Type 0} (f : X → Option Y) (xs : List X) (y : Y) →
    Contains (filter_map f xs) y → (x : X) × Contains xs x × (f x ≡ Some y)
Contains-from_filter_map f [] y h = absurd (omega (arith, h.1))
Contains-from_filter_map f (z ∷ zs) y h = elim (put_cases (f z) (filter_map f zs) y h) [
  | inl first ↦ (z, cons_head z zs, first)
  | inr later ↦ let x = Contains-from_filter_map f zs y later in (x.0, cons_tail z zs x.0 x.1, x.2)
]

pub filter_map_more : {X Y : Type 0} (f : X → Option Y) (xs : List X) (i : ℕ) (d : X) →
    i < length xs →
    filter_map f (take (i + 1) xs) ≡ filter_map f (take i xs) ++ cons_option (f (get_or xs i d)) []
filter_map_more f xs i d below = ap (filter_map f) (take_more xs i d below)
    ∙ filter_map-append f (take i xs) (get_or xs i d ∷ [])

pub arc_some : (cells : List (Option ℤ)) (height : ℤ) (b : ℕ) (other : ℤ) → get_or cells b None
    ≡ Some other → arc_to cells height b ≡ Some (record { to = b; height = int_max other height })
arc_some cells height b other e = ap (λ (o : Option ℤ). elim o as (λ _. Option Spill) [
  | None ↦
      None
  | Some x ↦ Some (record { to = b; height = int_max x height })
]) e

pub arc_none : (cells : List (Option ℤ)) (height : ℤ) (b : ℕ) → get_or cells b None ≡ None →
    arc_to cells height b ≡ None
arc_none cells height b e = ap (λ (o : Option ℤ). elim o as (λ _. Option Spill) [
  | None ↦
      None
  | Some x ↦ Some (record { to = b; height = int_max x height })
]) e

pub none_by : {X : Type 0} (o : Option X) → ((x : X) → o ≡ Some x → ⊥) → o ≡ None
none_by None h = refl
none_by (Some x) h = absurd (h x refl)

all_eight : {X : Type 0} (P : X → Type 0) (a b c d e f g h : X) → P a → P b → P c → P d → P e →
    P f → P g → P h → All P (a ∷ b ∷ c ∷ d ∷ e ∷ f ∷ g ∷ h ∷ [])
all_eight P a b c d e f g h pa pb pc pd pe pf pg ph = All-cons P a (b ∷ c ∷ d ∷ e ∷ f ∷ g ∷ h
    ∷ []) pa (All-cons P b (c ∷ d ∷ e ∷ f ∷ g ∷ h ∷ []) pb (All-cons P c (d ∷ e ∷ f ∷ g ∷ h ∷ []) pc
    (All-cons P d (e ∷ f ∷ g ∷ h ∷ []) pd (All-cons P e (f ∷ g ∷ h ∷ []) pe
    (All-cons P f (g ∷ h ∷ []) pf (All-cons P g (h ∷ []) pg (All-cons P h [] ph (All-nil P))))))))

pub all_beside : (s a : ℕ) → s < a → All (IsBeside s a) (cells_around s a)
all_beside s a h =
    let nw : a ≡ (a - s - 1) + s + 1 = omega arith in
    let n : a ≡ (a - s) + s = omega arith in
    let ne : a + 1 ≡ (a - s + 1) + s = omega arith in
    let w : a ≡ (a - 1) + 1 = omega arith in
    let sw : (a + s - 1) + 1 ≡ a + s = omega arith in
    all_eight (IsBeside s a) (a - s - 1) (a - s) (a - s + 1) (a - 1) (a + 1) (a + s - 1) (a + s) (a
    + s + 1)
    (inr (inr (inr (inr nw)))) (inr (inr (inr (inl n)))) (inr (inr (inl ne))) (inr (inl w))
    (inl (inl refl)) (inl (inr (inl sw))) (inl (inr (inr (inl refl)))) (inl (inr (inr (inr refl))))

pub beside_around : (s a b : ℕ) → s < a → IsBeside s a b → Contains (cells_around s a) b
beside_around s a b h (inl (inl e)) = (4, omega arith, omega arith)
beside_around s a b h (inl (inr (inl e))) = (5, omega arith, omega arith)
beside_around s a b h (inl (inr (inr (inl e)))) = (6, omega arith, omega arith)
beside_around s a b h (inl (inr (inr (inr e)))) = (7, omega arith, omega arith)
beside_around s a b h (inr (inl e)) = (3, omega arith, omega arith)
beside_around s a b h (inr (inr (inl e))) = (2, omega arith, omega arith)
beside_around s a b h (inr (inr (inr (inl e)))) = (1, omega arith, omega arith)
beside_around s a b h (inr (inr (inr (inr e)))) = (0, omega arith, omega arith)

arc_found : (cells : List (Option ℤ)) (x : ℤ) (b : ℕ) (arc : Spill) → arc_to cells x b ≡ Some arc →
    (y : ℤ) × (get_or cells b None ≡ Some y) × (record { to = b; height = int_max y x } ≡ arc)
arc_found cells x b arc e = elim (cases_option (get_or cells b None)) [
  | inl none ↦ let no = arc_none cells x b none in absurd (cc)
  | inr found ↦ (found.0, found.1, same_Some _ arc (sym (arc_some cells x b found.0 found.1) ∙ e))
]

-- If the number a of a data cell is above the stride, the arcs from the cell are just its joins.
pub just_arcs : (n : Cells) (a : ℕ) (x : ℤ) → cell_at n a ≡ Some x → n.stride < a →
    HasJust (IsCellJoin n a) (filter_map (arc_to n.cells x) (cells_around n.stride a))
just_arcs n a x here above = record {
  only = all_by_contains (λ arc. IsCellJoin n a arc.to arc.height) _ (λ arc h.
      let from = Contains-from_filter_map (arc_to n.cells x) (cells_around n.stride a) arc h in
      let found = arc_found n.cells x from.0 arc from.2 in
      let beside = All-contains (IsBeside n.stride a) (cells_around n.stride a) from.0
      (all_beside n.stride a above) from.1 in
      subst (λ (z : Spill). IsCellJoin n a z.to z.height) found.2 (record {
        beside = beside;
        from_height = x;
        to_height = found.0;
        from_cell = here;
        to_cell = found.1;
        greater = refl;
      }));
  every = λ b h j.
      let same = same_Some j.from_height x (sym j.from_cell ∙ here) in
      Contains-filter_map (arc_to n.cells x) (cells_around n.stride a) b
      (record { to = b; height = h }) (beside_around n.stride a b above j.beside)
      (arc_some n.cells x b j.to_height j.to_cell ∙ ap (λ z. Some (record { to = b; height = z }))
      (ap (λ z. int_max j.to_height z) (sym same) ∙ j.greater));
}
