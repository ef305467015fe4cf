use Rattle.std.proofs.Common.{◌≡◌, ◌<◌, ◌∙◌, inl, inr, length, sym, arith}
use Rattle.std.proofs.lemmas.Bool.{cases_eq, eq-eqb, false≢true}
use Rattle.std.proofs.lemmas.List.{take_at}
use Rattle.drain.proofs.Spreading.{spread_counts, spread-length, spread_on, sum_spread}
use Rattle.drain.proofs.search.lowered.Goals as goal

pub search-requires-clause-counts : goal.search-requires-clause-counts
search-requires-clause-counts c =
    let pulled = c.in_ok-reached.ensures.pulled in
    let size : length c.pull.new.counts ≡ c.in_ok-counts.counts.len =
    omega (arith, spread-length pulled.spread, c.in_ok-counts.ensures.len) in
    rw (c.deref_mut-2.ensures.value, take_at c.pull.new.counts _ c.in_ok-counts.counts.len size)
    (spread_counts c.requires.counts pulled.spread)

pub returns-clause-lower : goal.returns-clause-lower
returns-clause-lower c =
    let mid = c.pull.new.counts in
    let new = c.search.new.counts in
    let pulled = c.in_ok-reached.ensures.pulled in
    let reached = c.in_ok-reached.reached in
    let size : length mid ≡ c.in_ok-counts.counts.len =
    omega (arith, spread-length pulled.spread, c.in_ok-counts.ensures.len) in
    let spread = rw (c.deref_mut-2.ensures.value, take_at mid _ c.in_ok-counts.counts.len size)
    at c.in_ok-search.ensures in
    let long : length new ≡ c.in_ok-counts.counts.len = omega (arith, spread-length spread, size) in
    let some : 0 < length reached.items = elim (cases_eq reached.len 0) [
      | inl none ↦ absurd (false≢true (sym c.if-is_empty.false ∙ c.is_empty.ensures ∙ eq-eqb _ _ none))
      | inr ne ↦ omega (arith, reached.ok.0)
    ] in
    rw (take_at new _ c.in_ok-counts.counts.len long)
    (spread_on pulled.spread spread, omega (arith, pulled.left, sum_spread spread, some))
