-- A cell's total along a tile's links, its weight and all weights upstream, is how many cells drain
-- through it. Without inflows in the weights, it is how many do so without leaving the tile.
use Rattle.std.proofs.Common.{◌≡◌, ◌≢◌, ℕ, suc, ◌+◌, ◌*◌, ◌<◌, ◌≤◌, Bool, true, false, ◌&&◌, inl, inr, List, length, get_or, is_some, sym, ap, subst, refl, ◌∙◌, arith}
use Rattle.std.proofs.lemmas.Bool.{cases_eq, cases_Bool, and_from, and_parts, cond-true, cond-false, false_from_ne_true, false≢true}
use Rattle.terrain.specs.declared.place.Place.{Place}
use Rattle.terrain.proofs.Places.{cases_place}
use Rattle.tiles.specs.declared.bounds.Bounds.{Bounds}
use Rattle.tiles.specs.Cutting.{Cutting, IsInBounds, place_in, index_in}
use Rattle.tiles.proofs.TileOrder.{index_in_below, index_in-place_in, place_in-index_in}
use Rattle.drainage.specs.Following.{Directed, code_at, next, follow}
use Rattle.terrain.proofs.Listed.{is_place_from, place_is}
use Rattle.terrain.specs.Neighbours.{is_place}
use Rattle.flow.specs.Counts.{drains_through}
use Rattle.tile_jobs.specs.Sums.{sum_below}
use Rattle.flow.specs.Streams.{next_node, leads_to, upstream_sum}
use Rattle.flow.specs.TileFlow.{stays, reaches_inside, inflow_of}
use Rattle.tile_jobs.proofs.Sums.{sum_below-add, sum_below-none, one_term}
use Rattle.flow.proofs.Ranges.{some_in_range, any_in_range, grid_of}
use Rattle.flow.proofs.Totals.{AreTotals, leads_parts, leads_from, upstream}
use Rattle.flow.proofs.Sending.{and_on}
use Rattle.flow.proofs.Coded.{IsCoded, coded_along}
use Rattle.flow.proofs.InTile.{weight_in, AreTileWeights, IsPiece, cases_bounds, in_place, link_is, link-in, link-out, link_place, coded_within, tile_is}
use Rattle.flow.proofs.Reaching.{IsEnding, still_at, still_from, reached_early, drains_at, drains_from, EntersRegion, stays_or_enters, never_enters, enters_from_one, one_move, enters_from, enters_at}
use Rattle.flow.proofs.DrainedCells.{cell, all_drained, all_drained_inside, entered, inflow_sum, counted_on, counted_off, counted_none, counted, counts_upstream}

module _ {d : Directed} (e : IsEnding d) {t : Cutting} {tile : ℕ} {b : Bounds} {links : List ℕ}
    (s : IsPiece d t tile b links) where
  -- A link to another cell is one move of the flow path.
  leads_place : (j i : ℕ) → j < length links → leads_to links j i ≡ true → (next d (place_in b j) ≡ place_in b i) ×
      (place_in b j ≢ place_in b i)
  leads_place j i h on =
      let l = leads_parts links j i on in (
        elim (cases_bounds b (next d (place_in b j))) [
          | inl y ↦ sym (link_place s j h y) ∙ ap (place_in b) l.0
          | inr out ↦ absurd (l.1 (sym (link_is s j h ∙ link-out d b j out) ∙ l.0))
        ],
        λ z. l.1 (sym (index_in-place_in b j) ∙ ap (index_in b) z ∙ index_in-place_in b i),
      )

  abbrev own : Place → Place → ℕ
  own p q = counted d (is_place p q) q

  -- The flow path of one data cell q. T k says that the first k moves of the path are allowed, R p
  -- that allowed moves reach p. `over` is 1 if an allowed move enters cell i from outside the
  -- bounds, else 0.
  module _ {q : Place} (is : IsCoded d q) (i : ℕ) (h : i < length links) (R : Place → Bool) (T : ℕ → Type 0)
      (start : T 0) (from : (p : Place) → R p ≡ true → (k : ℕ) × (follow d q k ≡ p) × T k) (at : (p : Place) (k : ℕ) →
      follow d q k ≡ p → T k → R p ≡ true) (less : (k m : ℕ) → m ≤ k → T k → T m) (more : (k : ℕ) → T k →
      IsInBounds b (follow d q k) → IsInBounds b (follow d q (suc k)) → T (suc k)) (over : ℕ)
      (off : ((a : ℕ) → follow d q (suc a) ≡ place_in b i → T (suc a) → (IsInBounds b (follow d q a) → ⊥) → ⊥) →
      over ≡ 0) (on : (a : ℕ) → follow d q (suc a) ≡ place_in b i → T (suc a) → (IsInBounds b (follow d q a) → ⊥) →
      over ≡ 1) where
    abbrev term : ℕ → ℕ
    term j = upstream links j i (counted d (R (place_in b j)) q)

    term_off : (j : ℕ) → j < length links → ((a : ℕ) → follow d q (suc a) ≡ place_in b i → follow d q a ≢ place_in b i →
        T (suc a) → follow d q a ≡ place_in b j → ⊥) → term j ≡ 0
    term_off j l none = elim (cases_Bool (leads_to links j i)) [
      | inr n ↦ cond-false _ _ 0 n
      | inl y ↦ cond-true _ _ 0 y ∙ counted_off d q (false_from_ne_true _ (λ r. (let m = from _ r in
          let x = leads_place j i l y in
          let goes = ap (next d) m.1 ∙ x.0 in
          none _ goes (λ z. x.1 (sym m.1 ∙ z)) (more _ m.2 (rw m.1 (in_place s j l)) (rw goes (in_place s i h))) m.1)))
    ]

    pub parts : counted d (R (place_in b i)) q ≡ own (place_in b i) q + over + sum_below term (length links)
    parts = elim (cases_Bool (R (place_in b i))) [
      | inr n ↦ omega (
        arith,
        counted_off,
        counted_off d q
            (false_from_ne_true _ (λ y. false≢true (sym n ∙ at (place_in b i) 0 (sym (place_is (place_in b i) q y))
            start))),
        off (λ a goes far _. false≢true (sym n ∙ at (place_in b i) (suc a) goes far)),
        sum_below-none term (length links) (λ j l. term_off j l (λ a goes _ far _. false≢true (sym n ∙
            at (place_in b i) (suc a) goes far))),
      )
      | inl y ↦ (let r = from (place_in b i) y in
          elim (stays_or_enters e (λ z. z ≡ place_in b i) (λ z. cases_place z (place_in b i)) q r.0 r.1) [
            | inl way ↦ (let here : (a : ℕ) → follow d q (suc a) ≡ place_in b i → follow d q a ≢ place_in b i →
                ⊥ = λ a goes apart. never_enters e (λ z. z ≡ place_in b i) is r.0 (r.1 ∙ sym goes) way
                (one_move e q (place_in b i) a goes apart) in
                omega (
                  arith,
                  counted_on,
                  counted_on is (is_place_from (place_in b i) q (sym (way 0 (omega arith)))),
                  off (λ a goes far out. here a goes (λ z. out (rw z (in_place s i h)))),
                  sum_below-none term (length links) (λ j l. term_off j l (λ a goes apart _ _. here a goes apart)),
                ))
            | inr c ↦ arrives y r.0 r.1 r.2 c
          ])
    ]
      where
        arrives : R (place_in b i) ≡ true → (k : ℕ) → follow d q k ≡ place_in b i → T k →
            EntersRegion e (λ z. z ≡ place_in b i) q k → counted d (R (place_in b i)) q ≡ own (place_in b i) q + over +
            sum_below term (length links)
        arrives y k way far c =
            let goes : follow d q (suc c.from) ≡ place_in b i = c.inside (suc c.from) (omega arith) (omega arith) in
            let there : T (suc c.from) = less k (suc c.from) (omega arith) far in
            let same : (a : ℕ) → follow d q (suc a) ≡ place_in b i → follow d q a ≢ place_in b i →
            a ≡ c.from = λ a moves apart. enters_from_one e (λ z. z ≡ place_in b i) is (moves ∙ sym way)
            (one_move e q (place_in b i) a moves apart) c in
            let not_own : is_place (place_in b i) q ≡ false =
            false_from_ne_true _ (λ z. never_enters e (λ z. z ≡ place_in b i) is 0 (sym (place_is (place_in b i) q z) ∙
            sym way) (λ l le. (let w : l ≡ 0 = omega arith in ap (follow d q) w ∙ sym (place_is (place_in b i) q z)))
            c) in
            elim (cases_bounds b (follow d q c.from)) [
              | inr out ↦ omega (
                arith,
                counted_on,
                counted_off,
                on c.from goes there out,
                sum_below-none term (length links)
                    (λ j l. term_off j l (λ a moves apart _ at_j. out (subst (λ p. IsInBounds b p) (sym at_j ∙
                    ap (follow d q) (same a moves apart)) (in_place s j l)))),
              )
              | inl within ↦
                  let below : index_in b (follow d q c.from) < length links =
                  omega (arith, index_in_below b (follow d q c.from) within) in
                  let back : place_in b (index_in b (follow d q c.from)) ≡ follow d q c.from =
                  place_in-index_in b (follow d q c.from) within in
                  let to : next d (place_in b (index_in b (follow d q c.from))) ≡ place_in b i =
                  ap (next d) back ∙ goes in
                  let link : next_node links (index_in b (follow d q c.from)) ≡ i =
                  link_is s (index_in b (follow d q c.from)) below ∙ link-in d b (index_in b (follow d q c.from))
                  (rw to (in_place s i h)) ∙ ap (index_in b) to ∙ index_in-place_in b i in
                  let leads : leads_to links (index_in b (follow d q c.from)) i ≡ true =
                  leads_from links _ link (λ z. c.outside (sym back ∙ ap (place_in b) z)) in
                  omega (
                    arith,
                    counted_on,
                    counted_off,
                    off (λ a moves _ out. out (rw (same a moves (λ z. out (rw z (in_place s i h)))) within)),
                    one_term term (length links) (index_in b (follow d q c.from)) below
                        (λ n l ne. term_off n l (λ a moves apart _ at_n. ne (sym (index_in-place_in b n) ∙
                        ap (index_in b) (sym at_n ∙ ap (follow d q) (same a moves apart))))),
                    cond-true _ (counted d (R (place_in b (index_in b (follow d q c.from)))) q) 0 leads,
                    counted_on is (at _ c.from (sym back) (less k c.from (omega arith) far)),
                  )
            ]

  -- For a data cell q, the term at cell i is 1 if R holds of i and q, else 0. Suppose that for each
  -- q the term at i is `own` plus `over` plus the terms at i's donors, the other cells linked to i.
  -- If `over` is 0 at NODATA, sums over all cells q obey this equation, with i's weight for `own`.
  tallied : (R : Place → Place → Bool) (over : Place → Place → ℕ) (i : ℕ) → i < length links →
      ((q : Place) → IsCoded d q → counted d (R (place_in b i) q) q ≡ own (place_in b i) q + over (place_in b i) q +
      sum_below (λ j. upstream links j i (counted d (R (place_in b j) q) q)) (length links)) →
      ((q : Place) → is_some (code_at d q) ≡ false → over (place_in b i) q ≡ 0) →
      sum_below (λ c. counted d (R (place_in b i) (cell d c)) (cell d c)) (d.rows * d.cols) ≡ weight_in d b i +
      sum_below (λ c. over (place_in b i) (cell d c)) (d.rows * d.cols) + upstream_sum links
      (λ j. sum_below (λ c. counted d (R (place_in b j) (cell d c)) (cell d c)) (d.rows * d.cols)) i
  tallied R over i h each none = omega (
    arith,
    counts_upstream d links i (λ j. R _) (λ q. own _ q + over _ q) each (λ q n. omega (arith, counted_none)),
    sum_below-add (λ c. own (place_in b i) (cell d c)) (λ c. over (place_in b i) (cell d c)) (d.rows * d.cols),
    own_sum,
  )
    where
      own_sum : sum_below (λ c. own (place_in b i) (cell d c)) (d.rows * d.cols) ≡ weight_in d b i
      own_sum =
          let inside : IsInBounds (grid_of d) (place_in b i) = (let x = in_place s i h in omega arith) in
          cc (
            one_term (λ c. own (place_in b i) (cell d c)) (d.rows * d.cols) (index_in (grid_of d) (place_in b i))
                (index_in_below (grid_of d) (place_in b i) inside) (λ j l ne. counted_off d (cell d j)
                (false_from_ne_true _ (λ y. ne (sym (index_in-place_in (grid_of d) j) ∙
                ap (index_in (grid_of d)) (sym (place_is (place_in b i) (cell d j) y)))))),
            place_in-index_in (grid_of d) (place_in b i) inside,
            and_on (is_some (code_at d (place_in b i))) (is_place_from (place_in b i) (place_in b i) refl),
          )

  -- The weights of a tile's cells: 1 for each data cell, plus the inflow.
  abbrev pub AreWeights : List ℕ → Type 0
  AreWeights weights = (j : ℕ) → j < length links → get_or weights j 0 ≡ weight_in d b j + inflow_of d t (place_in b j)

  -- With the inflows added, totals count all cells that drain through a cell, itself included.
  pub all_totals : (weights : List ℕ) → AreWeights weights → AreTotals links weights (λ i. all_drained d (place_in b i))
  all_totals weights weighed = record {
    each = λ i h. omega (
      arith,
      inflow_sum,
      tallied (drains_through d) (entered d t) i h (λ q is. parts is i h (λ p. drains_through d p q) (λ k. Unit) tt
          (λ p y. let m = drains_from e q p y in (m.0, m.1, tt)) (λ p k way _. drains_at e is k way) (λ k m le _. tt)
          (λ k _ x y. tt) _ (λ none. counted_off d q (false_from_ne_true _ (λ y.
          let x = enters_from e t _ q y in
          none _ x.1 tt (λ z. x.2 (tile_is s _ z ∙ sym (tile_is s _ (in_place s i h)))))))
          (λ a goes _ out. counted_on is (enters_at e t _ q is a goes (λ same. out ((s.places _).0 (
            coded_within s (coded_along s.ends is a),
            same ∙ tile_is s _ (in_place s i h),
          )))))) (λ q n. counted_none d q _ n),
    );
  }

  -- Without inflows, totals count the cells whose flow paths reach a cell without leaving the tile,
  -- itself included.
  pub own_totals : {weights : List ℕ} → AreTileWeights d b weights →
      AreTotals links weights (λ i. all_drained_inside d t (place_in b i))
  own_totals weighed = record {
    each = λ i h. omega (
      arith,
      weighed.each i (omega arith),
      sum_below-none (λ c. 0) (d.rows * d.cols) (λ c _. refl),
      tallied (reaches_inside d t) (λ p q. 0) i h (λ q is. parts is i h (λ p. reaches_inside d t p q)
          (λ k. stays d t q k ≡ true) (begins q) (λ p y.
          let r = some_in_range (λ k. is_place p (follow d q k) && stays d t q k) _ y in
          let w = and_parts _ _ r.2 in (r.0, sym (place_is p _ w.0), w.1)) (λ p k way still. let m = reached_early e is
          k way in
          any_in_range (λ k. is_place p (follow d q k) && stays d t q k) _ _ m.1 (and_from _ _ (is_place_from p _ (cc))
          (sooner q k _ m.2 still))) (sooner q) (later q) 0 (λ _. refl)
          (λ a goes still out. absurd (out ((s.places _).0 (
            coded_within s (coded_along s.ends is a),
            cc (
              still_at d t q (suc a) still a (omega arith),
              still_at d t q (suc a) still (suc a) (omega arith),
              tile_is s _ (in_place s i h),
            ),
          ))))) (λ q n. refl),
    );
  }
    where
      begins : (q : Place) → stays d t q 0 ≡ true
      begins q = still_from d t q 0 (λ l le. (let z : l ≡ 0 = omega arith in cc))

      sooner : (q : Place) (k m : ℕ) → m ≤ k → stays d t q k ≡ true → stays d t q m ≡ true
      sooner q k m le still = still_from d t q m (λ l less. still_at d t q k still l (omega arith))

      later : (q : Place) (k : ℕ) → stays d t q k ≡ true → IsInBounds b (follow d q k) →
          IsInBounds b (follow d q (suc k)) → stays d t q (suc k) ≡ true
      later q k still here next_here = still_from d t q _ (λ l le. elim (cases_eq l (suc k)) [
        | inl z ↦ cc (tile_is s _ next_here, tile_is s _ here, still_at d t q k still k (omega arith))
        | inr ne ↦ still_at d t q k still l (omega arith)
      ])
