-- A cell added to runs, a row's cells added, and runs put into their places in a list.
use Rattle.std.proofs.Common.{◌≡◌, ℕ, ◌+◌, ◌-◌, ◌*◌, ◌<◌, ◌≤◌, ◌⊎◌, ◌↔◌, ℤ, List, [], ◌∷◌, ◌++◌, get_or, Option, None, arith, refl, ap, sym, ◌∙◌, subst, inl, inr}
use Rattle.std.specs.List.{Contains}
use Rattle.std.proofs.lemmas.Bool.{cases_eq, cases_lt}
use Rattle.std.proofs.lemmas.List.Elements.{Contains-append_left, Contains-push, Contains-push_cases}
use Rattle.terrain.specs.Neighbours.{index_of}
use Rattle.terrain.specs.declared.place.Place.{Place}
use Rattle.tiles.specs.Cutting.{Cutting, IsInBounds, View, bounds_of, index_in, row_shown}
use Rattle.tiles.proofs.TileRows.{row_has}
use Rattle.fill.specs.RaisedTiles.{HasRow, HasTile}
use Rattle.fill.specs.declared.raised_tiles.RaisedTile.{RaisedTile}
use Rattle.fill.specs.RaisedRuns.{AddsRow, AddsRun, AreRaised, IsFound, IsInRun, IsInRuns, IsPatched, PutsRun}
use Rattle.fill.specs.declared.raised_runs.RaisedRun.{RaisedRun}

-- ---- a cell added

pub new_run : (runs : List RaisedRun) (i : ℕ) (cell : Option ℤ) →
    AddsRun i cell runs (runs ++ record { first = i; count = 1; cell = cell } ∷ [])
new_run runs i cell =
    let run : RaisedRun = record { first = i; count = 1; cell = cell } in
    record {
      kept = λ k x. (x.0, Contains-append_left runs _ _ x.1, x.2);
      added = (run, Contains-push runs run, (omega arith));
      sound = λ raised is all r k there inside. elim (Contains-push_cases runs run r there) [
        | inl before ↦ all r k before inside
        | inr same ↦
            let at : i ≡ k = omega (arith, inside, ap (λ q. q.first) same, ap (λ q. q.count) same) in
            sym (cc) ∙ is ∙ ap raised at
      ];
    }

pub longer_run : (ended : List RaisedRun) (last : RaisedRun) (i : ℕ) {cell : Option ℤ} → last.first + last.count ≡ i →
    last.cell ≡ cell →
    AddsRun i cell (ended ++ last ∷ [])
    (ended ++ record { first = last.first; count = last.count + 1; cell = last.cell } ∷ [])
longer_run ended last i {cell} e level =
    let run : RaisedRun = record { first = last.first; count = last.count + 1; cell = last.cell } in
    record {
      kept = λ k x. elim (Contains-push_cases ended last x.0 x.1) [
        | inl before ↦ (x.0, Contains-append_left ended _ x.0 before, x.2)
        | inr same ↦
            let first = ap (λ (q : RaisedRun). q.first) same in
            let count = ap (λ (q : RaisedRun). q.count) same in
            (run, Contains-push ended run, (omega arith, omega arith))
      ];
      added = (run, Contains-push ended run, (omega arith, omega arith));
      sound = λ raised is all r k there inside. elim (Contains-push_cases ended run r there) [
        | inl before ↦ all r k (Contains-append_left ended _ r before) inside
        | inr same ↦
            let first = ap (λ (q : RaisedRun). q.first) same in
            let count = ap (λ (q : RaisedRun). q.count) same in
            sym (cc) ∙ elim (cases_eq k i) [
              | inl at ↦ level ∙ is ∙ ap raised (sym at)
              | inr other ↦ all last k (Contains-push ended last) (omega arith, omega arith)
            ]
      ];
    }

-- ---- a row's cells added

module _ {raised : ℕ → Option ℤ} {read : List (Option ℤ)} {first : ℕ} where
  pub no_cells : (runs : List RaisedRun) → AddsRow raised read first 0 runs runs
  no_cells runs = record { kept = λ k x. x; sound = λ all. all; each = λ k below. absurd (omega arith) }

  -- From index k on and before m the cells read are the raised ones.
  pub cells_stay : {k : ℕ} (m : ℕ) {old now : List RaisedRun} → AddsRow raised read first k old now →
      ((j : ℕ) → k ≤ j → j < m → get_or read j None ≡ raised (first + j)) → AddsRow raised read first m old now
  cells_stay {k} m s stay = record {
    kept = s.kept;
    sound = s.sound;
    each = λ j below. elim (cases_lt j k) [
      | inl before ↦ s.each j before
      | inr after ↦ inr (stay j after below)
    ];
  }

  pub cell_rises : (k : ℕ) {cell : Option ℤ} (old now next : List RaisedRun) → AddsRow raised read first k old now →
      AddsRun (first + k) cell now next → cell ≡ raised (first + k) → AddsRow raised read first (k + 1) old next
  cell_rises k old now next s more is = record {
    kept = λ j x. more.kept j (s.kept j x);
    sound = λ all. more.sound raised is (s.sound all);
    each = λ j below. elim (cases_eq j k) [
      | inl same ↦ inl (subst (λ n. IsInRuns next (first + n)) (sym same) more.added)
      | inr other ↦ elim (s.each j (omega arith)) [
        | inl found ↦ inl (more.kept (first + j) found)
        | inr level ↦ inr level
      ]
    ];
  }

-- ---- the rows of a tile

-- The runs of the tile's first `rows` rows: `AreTileRuns` but for the other rows.
pub record AreFirstRows (raised : ℕ → Option ℤ) (v : View (Option ℤ)) (rows : ℕ) (runs : List RaisedRun)
    : Type 0 where
  pub sound : AreRaised raised runs
  pub each : (p : Place) → IsInBounds (bounds_of v.cutting v.tile) p →
      p.row < (bounds_of v.cutting v.tile).top + rows →
      let i = index_of v.cutting.cols p in
      IsFound raised runs (get_or v.cells i None) i

-- A tile's row `row` has these cells if the tile has them.
pub row_of_tile : (x : RaisedTile) (raised : ℕ → Option ℤ) (c : Cutting) (tile row : ℕ) →
    row < (bounds_of c tile).rows → HasTile x raised c tile →
    let b = bounds_of c tile in
    HasRow x raised (row * b.cols) ((b.top + row) * c.cols + b.left) b.cols
row_of_tile x raised c tile row low all k below =
    let b = bounds_of c tile in
    let p : Place = record { row = b.top + row; col = b.left + k } in
    let grid : (b.top + row) * c.cols + b.left + k ≡ index_of c.cols p = omega arith in
    let r : p.row - b.top ≡ row = omega arith in
    let own : index_in b p ≡ row * b.cols + k =
    ap (λ n. n * b.cols + (p.col - b.left)) r ∙ ap (λ n. row * b.cols + n) (omega arith) in
    cc (all p (omega arith, omega (arith, low), omega arith, omega (arith, below)))

pub next_row : (raised : ℕ → Option ℤ) (v : View (Option ℤ)) (row : ℕ) (old new : List RaisedRun) →
    let b = bounds_of v.cutting v.tile in
    AddsRow raised (row_shown v row) ((b.top + row) * v.cutting.cols + b.left) b.cols old new →
    AreFirstRows raised v row old → AreFirstRows raised v (row + 1) new
next_row raised v row old new adds are =
    let b = bounds_of v.cutting v.tile in
    let first = (b.top + row) * v.cutting.cols + b.left in
    record {
      sound = adds.sound are.sound;
      each = λ p inside under. elim (cases_lt p.row (b.top + row)) [
        | inl before ↦ elim (are.each p inside before) [
          | inl found ↦ inl (adds.kept (index_of v.cutting.cols p) found)
          | inr same ↦ inr same
        ]
        | inr after ↦
            let k = p.col - b.left in
            let below : k < b.cols = omega arith in
            let here : b.top + row ≡ p.row = omega arith in
            let at : first + k ≡ index_of v.cutting.cols p =
            ap (λ n. n * v.cutting.cols + b.left + k) here ∙ omega arith in
            let cell : get_or (row_shown v row) k None ≡ get_or v.cells (index_of v.cutting.cols p) None =
            row_has v None b row k refl below ∙ ap (λ n. get_or v.cells n None) at in
            subst (λ n. IsFound raised new (get_or v.cells (index_of v.cutting.cols p) None) n) at
            (rw cell at (adds.each k below))
      ];
    }

-- ---- runs in their places

-- The run without its cells from index i on.
abbrev pub up_to : RaisedRun → ℕ → RaisedRun
up_to r i = record { first = r.first; count = i - r.first; cell = r.cell }

in_run : (r : RaisedRun) (i : ℕ) → IsInRun r i ⊎ (IsInRun r i → ⊥)
in_run r i = elim (cases_lt i r.first) [
  | inl before ↦ inr (λ is. omega arith)
  | inr from ↦ elim (cases_lt i (r.first + r.count)) [
    | inl below ↦ inl (omega arith, below)
    | inr past ↦ inr (λ is. omega arith)
  ]
]

module _ {raised : ℕ → Option ℤ} {old : List (Option ℤ)} where
  pub patched_then : {now next : List (Option ℤ)} {A B : ℕ → Type 0} (C : ℕ → Type 0) → ((i : ℕ) → C i ↔ (A i ⊎ B i)) →
      IsPatched raised old A now → IsPatched raised now B next → IsPatched raised old C next
  patched_then C part a b = record {
    size = cc;
    each = λ i below. elim (b.each i (omega arith)) [
      | inl is ↦ inl ((part i).1 (inr is.0), is.1)
      | inr still ↦ elim (a.each i below) [
        | inl is ↦ inl ((part i).1 (inl is.0), cc)
        | inr as_read ↦ inr (
          cc,
          λ x. elim ((part i).0 x) [
            | inl there ↦ as_read.1 there
            | inr there ↦ still.1 there
          ],
        )
      ]
    ];
  }

  pub patched_run : (r : RaisedRun) {new : List (Option ℤ)} → ((i : ℕ) → IsInRun r i → r.cell ≡ raised i) →
      PutsRun r old new → IsPatched raised old (IsInRun r) new
  patched_run r sound s = record {
    size = s.size;
    each = λ i below. elim (in_run r i) [
      | inl inside ↦ inl (inside, s.inside i below inside ∙ sound i inside)
      | inr outside ↦ inr (s.outside i outside, outside)
    ];
  }

-- What is in one of `front` and `x` is in one of `front` or in `x`.
pub in_pushed : {X : Type 0} (IsIn : X → ℕ → Type 0) (front : List X) (x : X) (i : ℕ) →
    ((y : X) × Contains (front ++ x ∷ []) y × IsIn y i) ↔ (((y : X) × Contains front y × IsIn y i) ⊎ IsIn x i)
in_pushed IsIn front x i = (
  λ is. elim (Contains-push_cases front x _ is.1) [
    | inl there ↦ inl (is.0, there, is.2)
    | inr same ↦ inr (subst (λ y. IsIn y i) (sym same) is.2)
  ],
  λ is. elim is [
    | inl there ↦ (there.0, Contains-append_left front _ _ there.1, there.2)
    | inr own ↦ (x, Contains-push front x, own)
  ],
)

pub patched_none : {X : Type 0} (IsIn : X → ℕ → Type 0) (raised : ℕ → Option ℤ) (cells : List (Option ℤ)) →
    IsPatched raised cells (λ i. (y : X) × Contains [] y × IsIn y i) cells
patched_none IsIn raised cells = record { size = refl; each = λ i below. inr (refl, λ x. omega arith) }
