-- A table lists the places of labels, and each cell has an index into it. If the next cell's label
-- is found in the table or appended to it, table and indexes still fit (`IsTable`). The earlier
-- cells keep their labels.
use Rattle.std.proofs.Common.{◌≡◌, ◌≢◌, ◌==◌, ℕ, ◌+◌, ◌<◌, ◌≤◌, inl, inr, zero, suc, List, [], ◌∷◌, ◌++◌, length, get_or, Option, None, Some, ◌∙◌, sym, ap, subst, refl, arith}
use Rattle.std.specs.Prelude.{IsSome}
use Rattle.std.specs.List.{All}
use Rattle.std.proofs.lemmas.Bool.{cases_eq, cases_lt, eq-eqb, or_left}
use Rattle.std.proofs.lemmas.List.{map-append, get_or_past, get_or_append_left, get_or_push, length_push}
use Rattle.std.proofs.lemmas.List.Elements.{All-push}
use Rattle.std.proofs.lemmas.List.Folds.{list_any-append, list_any_at}
use Rattle.terrain.proofs.Options.{none_some}
use Rattle.terrain.specs.declared.place.Place.{Place}
use Rattle.cell_floods.specs.Labels.{labels_by, IsTable, IsListedAt}

-- If `new` has each entry of `old` at its index, cells with indexes into `old` keep their labels.
labels_kept : (old new : List (Option Place)) (cells : List ℕ) → All (λ k. k < length old) cells →
    ((k : ℕ) → k < length old → get_or new k None ≡ get_or old k None) →
    labels_by new cells ≡ labels_by old cells
labels_kept old new [] inside kept = refl
labels_kept old new (k ∷ cells) inside kept =
    ap (λ z. z ∷ labels_by new cells) (kept k (inside zero k (omega arith)))
    ∙ ap (λ z. get_or old k None
    ∷ z) (labels_kept old new cells (λ i d low. inside (suc i) d (omega (arith, low))) kept)

listed_kept : (index : ℕ) (label : Option Place) (old new : List (Option Place)) →
    IsListedAt index label old new → (k : ℕ) → k < length old →
    get_or new k None ≡ get_or old k None
listed_kept index label old new at k low = elim at.only [
  | inl same ↦ ap (λ (z : List (Option Place)). get_or z k None) same
  | inr added ↦ ap (λ (z : List (Option Place)). get_or z k None) added.1
      ∙ get_or_append_left old (label ∷ []) None k low
]

pub listed_length : (index : ℕ) (label : Option Place) (old new : List (Option Place)) →
    IsListedAt index label old new → (length old ≤ length new) × (length new ≤ length old + 1)
listed_length index label old new at = elim at.only [
  | inl same ↦ (omega (arith, ap length same), omega (arith, ap length same))
  | inr added ↦ (
    omega (arith, ap length added.1, length_push old label),
    omega (arith, ap length added.1, length_push old label),
  )
]

-- Each place of the new table, but for that at `index`, has the same index in the old table.
listed_before : (index : ℕ) (label : Option Place) (old new : List (Option Place)) →
    IsListedAt index label old new → (k : ℕ) (p : Place) → k ≢ index → get_or new k None ≡ Some p →
    get_or old k None ≡ Some p
listed_before index label old new at k p other e = elim at.only [
  | inl same ↦ ap (λ (z : List (Option Place)). get_or z k None) (sym same) ∙ e
  | inr added ↦
      let there : get_or (old ++ label ∷ []) k None ≡ Some p =
      ap (λ (z : List (Option Place)). get_or z k None) (sym added.1) ∙ e in
      elim (cases_lt k (length old)) [
        | inl low ↦ sym (get_or_append_left old (label ∷ []) None k low) ∙ there
        | inr past ↦ none_some _ p (get_or_past (old ++ label ∷ []) k None
            (omega (arith, past, other, added.0, length_push old label))) there
      ]
]

-- Let the next cell's label be listed at `index`, in a table that was not empty. Then the new
-- table, and the cells' indexes with `index` appended, are again a table of labels (`IsTable`).
pub cell_listed : (index : ℕ) (label : Option Place) (old new : List (Option Place))
    (cells more : List ℕ) → 0 < length old → IsTable old cells → IsListedAt index label old new →
    more ≡ cells ++ index ∷ [] → IsTable new more
cell_listed index label old new cells more some table at is =
    let long = listed_length index label old new at in
    subst (IsTable new) (sym is) (record {
      few = omega (arith, long, table.few, length_push cells index);
      first = listed_kept index label old new at 0 some ∙ table.first;
      rest = λ k above low. elim (cases_lt k (length old)) [
        | inl early ↦ subst IsSome (sym (listed_kept index label old new at k early))
            (table.rest k above early)
        | inr late ↦ elim at.only [
          | inl same ↦ absurd (omega (arith, late, low, ap length same))
          | inr added ↦
              let here : index ≡ k =
              omega (arith, late, low, added.0, ap length added.1, length_push old label) in
              subst IsSome (sym at.is ∙ ap (λ n. get_or new n None) here) added.2
        ]
      ];
      inside = All-push (λ k. k < length new) cells index (λ k d low.
          omega (arith, long, table.inside k d low)) at.inside;
      used = λ k p e. elim (cases_eq k index) [
        | inl same ↦
            list_any_at (λ n. n == k) (cells ++ index ∷ []) (length cells) 0
            (omega (arith, length_push cells index))
            (ap (λ n. n == k) (get_or_push cells index 0 (length cells) refl)
            ∙ eq-eqb index k (sym same))
        | inr other ↦
            list_any-append (λ n. n == k) cells (index ∷ [])
            ∙ or_left _ _ (table.used k p (listed_before index label old new at k p other e))
      ];
    })

pub cell_label : (index : ℕ) (label : Option Place) (old new : List (Option Place))
    (cells more : List ℕ) → IsTable old cells → IsListedAt index label old new →
    more ≡ cells ++ index ∷ [] → labels_by new more ≡ labels_by old cells ++ label ∷ []
cell_label index label old new cells more table at is =
    ap (labels_by new) is ∙ map-append (λ k. get_or new k None) cells (index ∷ [])
    ∙ ap (λ z. z ++ get_or new index None
    ∷ []) (labels_kept old new cells table.inside (listed_kept index label old new at))
    ∙ ap (λ z. labels_by old cells ++ z ∷ []) at.is
