-- If 0, an outlet's code, is written at one gauge after another, the codes are cut at all gauges.
-- If cells are numbered gauge by gauge, each has the number of the first gauge that names it.
use Rattle.std.proofs.Common.{◌≡◌, ◌≢◌, ℕ, ◌+◌, ◌*◌, ◌<◌, inl, inr, true, cond, ◌||◌, List, length, get_or, set, take, Option, None, Some, is_some, sym, ap, refl, ◌∙◌, arith}
use Rattle.std.specs.Prelude.{◌==◌}
use Rattle.std.specs.Option.{option_or}
use Rattle.std.specs.List.{list_any}
use Rattle.std.proofs.lemmas.Bool.{cases_Bool, cases_lt, or_parts, false≢true}
use Rattle.std.proofs.lemmas.List.{get_or_default, get_or-set_other, length-set, length-take, take_more}
use Rattle.std.proofs.lemmas.List.Folds.{list_any_at, list_any_more}
use Rattle.std.proofs.lemmas.Grind.{get_or-set_at}
use Rattle.terrain.specs.Neighbours.{entry_at, index_of, is_place}
use Rattle.terrain.specs.declared.place.Place.{Place}
use Rattle.terrain.proofs.Listed.{place_is, is_place_from}
use Rattle.terrain.proofs.Places.{cases_place, entry-inside, entry-below, entry-beside, inside_from_entry, index_below, index_injective}
use Rattle.flow.specs.CutCodes.{AreCutCodes, HaveCodes, number_of_index}
use Rattle.flow.proofs.CutPaths.{position_push}

entry_set_other : (cols rows : ℕ) (xs : List (Option ℕ)) (x : Option ℕ) (p g : Place) → g.col < cols → p ≢ g →
    entry_at cols rows (set xs (index_of cols g) x) p ≡ entry_at cols rows xs p
entry_set_other cols rows xs x p g col apart = elim (cases_lt p.row rows) [
  | inr below ↦ entry-below cols rows _ p below ∙ sym (entry-below cols rows xs p below)
  | inl row ↦ elim (cases_lt p.col cols) [
    | inr beside ↦ entry-beside cols rows _ p beside ∙ sym (entry-beside cols rows xs p beside)
    | inl inside ↦
        entry-inside cols rows _ p row inside ∙
        get_or-set_other xs _ _ x None (λ e. apart (index_injective cols p g inside col e)) ∙
        sym (entry-inside cols rows xs p row inside)
  ]
]

-- Setting the code at gauge k, a cell of the grid, to 0 turns codes cut at the first k gauges into
-- codes cut at the first k + 1. Gauges are counted from 0.
pub cut_next : {cols rows : ℕ} {codes : List (Option ℕ)} (gauges : List Place) (k : ℕ) {cut new : List (Option ℕ)}
    (d : Place) → length codes ≡ cols * rows → k < length gauges → let g = get_or gauges k d in
    (g.row < rows) × (g.col < cols) → new ≡ set cut (index_of cols g) (Some 0) →
    AreCutCodes cols rows codes (take k gauges) cut → AreCutCodes cols rows codes (take (k + 1) gauges) new
cut_next {cols = cols} {rows = rows} gauges k {cut = cut} d size below inside made was =
    let g = get_or gauges k d in
    let more = λ (p : Place). list_any_more (is_place p) gauges k d below in
    record {
      size = ap length made ∙ length-set cut (index_of cols g) (Some 0) ∙ was.size;
      at_gauges = λ p named. elim (cases_place p g) [
        | inl same ↦
            ap (λ l. entry_at cols rows l p) made ∙ ap (entry_at cols rows (set cut (index_of cols g) (Some 0))) same ∙
            entry-inside cols rows (set cut (index_of cols g) (Some 0)) g inside.0 inside.1 ∙
            get_or-set_at cut (index_of cols g) (index_of cols g) (Some 0) None refl
            (omega (arith, index_below cols rows g inside.0 inside.1))
        | inr apart ↦
            ap (λ l. entry_at cols rows l p) made ∙ entry_set_other cols rows cut (Some 0) p g inside.1 apart ∙
            was.at_gauges p (elim (cases_Bool (list_any (is_place p) (take k gauges))) [
              | inl t ↦ t
              | inr f ↦ absurd (apart (place_is p g (sym (ap (λ b. b || is_place p g) f) ∙ sym (more p) ∙ named)))
            ])
      ];
      elsewhere = λ p none.
          let parts = or_parts (list_any (is_place p) (take k gauges)) (is_place p g) (sym (more p) ∙ none) in
          ap (λ l. entry_at cols rows l p) made ∙ entry_set_other cols rows cut (Some 0) p g inside.1
          (λ e. false≢true (sym parts.1 ∙ is_place_from p g e)) ∙ was.elsewhere p parts.0;
    }

some_inside : (cols rows : ℕ) (codes : List (Option ℕ)) (p : Place) (o : Option ℕ) → entry_at cols rows codes p ≡ o →
    is_some o ≡ true → (p.row < rows) × (p.col < cols)
some_inside cols rows codes p None e some = absurd (false≢true some)
some_inside cols rows codes p (Some code) e some = inside_from_entry cols rows codes p code e

pub gauge_inside : (cols rows : ℕ) (codes : List (Option ℕ)) (gauges : List Place) (k : ℕ) (d : Place) →
    k < length gauges → HaveCodes cols rows codes gauges →
    let g = get_or gauges k d in (g.row < rows) × (g.col < cols)
gauge_inside cols rows codes gauges k d below coded =
    let g = get_or gauges k d in
    some_inside cols rows codes g _ refl (coded g (list_any_at _ gauges k d below (is_place_from g g refl)))

pub index_at : {cols n : ℕ} (gauges : List Place) (k : ℕ) {i : ℕ} (d e : Place) → k < length gauges → n ≡ cols →
    i ≡ index_of n (get_or gauges k d) → i ≡ index_of cols (get_or gauges k e)
index_at {cols} gauges k d e below same read = cc (get_or_default gauges k d e below)

-- If row-order index i has a number by the first k gauges, it has the same number by the first
-- k + 1. If not, its number by these is k + 1 if gauge k, counted from 0, has index i, else `None`.
pub number_next : (cols : ℕ) (gauges : List Place) (k i : ℕ) (d : Place) → k < length gauges →
    number_of_index cols (take (k + 1) gauges) i ≡ option_or (number_of_index cols (take k gauges) i)
    (cond (index_of cols (get_or gauges k d) == i) (Some (k + 1)) None)
number_next cols gauges k i d below =
    let size : 1 + length (take k gauges) ≡ k + 1 = omega (arith, length-take k gauges) in
    cc (
      take_more gauges k d below,
      position_push (λ (g : Place). index_of cols g == i) 1 (take k gauges) (get_or gauges k d),
    )
