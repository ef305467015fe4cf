-- A search that gives crests to labels keeps `AreCrests`, and rings of joined labels keep `AreRings`.
use Rattle.std.proofs.Common.{◌≡◌, ℕ, ◌<◌, inl, inr, ℤ, ◌≤ℤ◌, List, [], ◌∷◌, length, get_or, set, Option, None, Some, sym, subst, ◌∙◌, arith}
use Rattle.std.proofs.lemmas.Bool.{cases_Bool, cases_eq, cases_lt, cond-true, cond-false}
use Rattle.std.proofs.lemmas.Option.{same_Some}
use Rattle.std.specs.List.{swap}
use Rattle.std.proofs.lemmas.List.{get_or_default, get_or-set_same, get_or-set_other, get_or_past, length-set}
use Rattle.std.specs.Ordering.{int_eq}
use Rattle.terrain.specs.Raster.{Terrain}
use Rattle.terrain.specs.StoredCells.{no_data, stored_cell}
use Rattle.terrain.specs.declared.place.Place.{Place}
use Rattle.terrain.proofs.Options.{none_some}
use Rattle.terrain.proofs.Orders.{trans}
use Rattle.fill.specs.Crests.{AreCrests, AreRings, IsPassage, Leaves}
use Rattle.fill.specs.declared.spill_graph.Join.{Join}

module _ (t : Terrain) (places : List (Option Place)) where
  pub leaves_above : (a : ℕ) (low high : ℤ) → low ≤ℤ high → Leaves t places a low → Leaves t places a high
  leaves_above a low high le leaves = (leaves.0, leaves.1, (leaves.2.0, leaves.2.1, trans _ _ _ leaves.2.2 le))

  stored_is : (z level : ℤ) → stored_cell z ≡ Some level → z ≡ level
  stored_is z level is = elim (cases_Bool (int_eq z no_data)) [
    | inl lacks ↦ none_some (stored_cell z) level (cond-true _ _ _ lacks) is
    | inr other ↦ same_Some z level (sym (cond-false _ _ _ other) ∙ is)
  ]

  -- Giving a label a crest at which its water leaves keeps `AreCrests`.
  pub given_crest : (crests : List (Option ℤ)) (a : ℕ) (crest : ℤ) → Leaves t places a crest →
      AreCrests t places crests → AreCrests t places (set crests a (stored_cell crest))
  given_crest crests a crest leaves all b level is = elim (cases_eq b a) [
    | inr other ↦ all b level (sym (get_or-set_other crests a b (stored_cell crest) None other) ∙ is)
    | inl same ↦ elim (cases_lt a (length crests)) [
      | inl low ↦
          subst (λ n. Leaves t places n level) (sym same)
          (rw (stored_is crest level (cc (get_or-set_same crests a (stored_cell crest) None low))) at leaves)
      | inr past ↦
          none_some (get_or (set crests a (stored_cell crest)) b None) level
          (get_or_past (set crests a (stored_cell crest)) b None
          (omega (arith, past, same, length-set crests a (stored_cell crest)))) is
    ]
  ]

  module _ (now : ℤ) (j : Join) (pass : IsPassage t places j) (low : j.height ≤ℤ now) where
    -- Two labels that are joined exchange their next ones.
    united : (next : List ℕ) {after_from after_to : ℕ} → j.from < length next → j.to < length next →
        after_from ≡ get_or next j.to 0 → after_to ≡ get_or next j.from 0 → AreRings t places now next →
        AreRings t places now (set (set next j.from after_from) j.to after_to)
    united next {after_from} {after_to} from to from_is to_is rings a level below above leaves =
        let first = set next j.from after_from in
        let over = pass level (trans _ _ _ low above) in
        elim (cases_eq a j.to) [
          | inl own ↦
              subst (λ n. Leaves t places n level)
              (cc (get_or-set_same first j.to after_to 0 (omega (arith, to, length-set next j.from after_from))))
              (rings j.from level from above (over.1 (rw own at leaves)))
          | inr not_to ↦ elim (cases_eq a j.from) [
            | inl own ↦
                subst (λ n. Leaves t places n level)
                (cc (get_or-set_other first j.to a after_to 0 not_to, get_or-set_same next j.from after_from 0 from))
                (rings j.to level to above (over.0 (rw own at leaves)))
            | inr not_from ↦
                rw (get_or-set_other first j.to a after_to 0 not_to ∙
                get_or-set_other next j.from a after_from 0 not_from)
                (rings a level
                (omega (arith, below, length-set first j.to after_to ∙ length-set next j.from after_from)) above leaves)
          ]
        ]

    pub united_rings : (next : List ℕ) → j.from < length next → j.to < length next → AreRings t places now next →
        AreRings t places now (swap next j.from j.to)
    united_rings [] from to rings = absurd (omega arith)
    united_rings (d ∷ rest) from to rings =
        united (d ∷ rest) from to (get_or_default (d ∷ rest) j.to d 0 to) (get_or_default (d ∷ rest) j.from d 0 from)
        rings

  module _ (crests : List (Option ℤ)) (j : Join) {own : ℤ} (level : ℤ) (all : AreCrests t places crests)
      (pass : IsPassage t places j) (low : own ≤ℤ level) (high : j.height ≤ℤ level) where
    -- Over a join, the crest of either label is passed on at a level as high as both.
    pub passed_on : get_or crests j.from None ≡ Some own → Leaves t places j.to level
    passed_on is = (pass level high).0 (leaves_above _ own level low (all j.from own is))

    pub passed_back : get_or crests j.to None ≡ Some own → Leaves t places j.from level
    passed_back is = (pass level high).1 (leaves_above _ own level low (all j.to own is))

  -- Rings from a level on are rings from each higher level on.
  pub rings_above : (low high : ℤ) (next : List ℕ) → low ≤ℤ high → AreRings t places low next →
      AreRings t places high next
  rings_above low high next le rings a level below above leaves = rings a level below (trans _ _ _ le above) leaves
