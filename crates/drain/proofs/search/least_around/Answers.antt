use Rattle.std.proofs.Common.{rules, ◌≡◌, ◌<◌, None, get_or, length, inl, inr, ap, sym, ◌∙◌, arith}
use Rattle.std.proofs.lemmas.Bool.{cases_eq, cases_lt}
use Rattle.std.proofs.lemmas.List.{get_or_default}
use Rattle.terrain.proofs.Places.{cases_place}
use Rattle.drain.specs.Search.{height_on}
use Rattle.drain.proofs.Beside.{beside, way_beside}
use Rattle.drain.proofs.search.least_around.Goals as goal

pub loop-way-preserved : goal.loop-way-preserved
loop-way-preserved c =
    let way = c.loop-way.way in
    let inv = c.loop-way.invariant in
    elim c.count_beside.ensures [
      | inl level ↦ record {
        low = omega (arith, inv.low, c.min-least.ensures);
        each = λ k below same. elim (cases_eq k way) [
          | inl e ↦ rw e (omega (arith, c.min-least.ensures, level.1))
          | inr ne ↦ omega (arith, c.min-least.ensures, inv.each k (omega (arith, below, ne)) same)
        ];
        one = elim (cases_lt c.count_beside.result c.loop-way.least) [
          | inl less ↦ inr (
            way,
            c.loop-way-test.true,
            level.0,
            omega (arith, c.min-least.ensures, level.1, less),
            omega (arith, c.min-least.ensures, less, inv.low),
          )
          | inr more ↦ (let same : c.min-least.result ≡ c.loop-way.least = omega (arith, c.min-least.ensures, more) in
              rw same inv.one)
        ];
      }
      | inr other ↦ record {
        low = omega (arith, inv.low, c.min-least.ensures);
        each = λ k below same. elim (cases_eq k way) [
          | inl e ↦ absurd (other.0 (rw e at same))
          | inr ne ↦ omega (arith, c.min-least.ensures, inv.each k (omega (arith, below, ne)) same)
        ];
        one = (let same : c.min-least.result ≡ c.loop-way.least =
            omega (arith, c.min-least.ensures, other.1, inv.low) in
            rw same inv.one);
      }
    ]

pub returns : goal.returns
returns c =
    let w = c.args.window.now in
    let spot = c.args.spot in
    let inv = rw (c.deref-cells.ensures.value, c.around-at.ensures.value) at c.loop-way.invariant in
    let below : c.index.result < length c.deref-cells.result.now = search rules in
    let own : c.index-cells-index.result ≡ height_on w spot =
    rw (c.deref-cells.ensures.value, c.index.ensures.value) at (c.index-cells-index.is
    ∙ get_or_default c.deref-cells.result.now c.index.result c.index-cells-index.result None below) in
    record {
      bound = inv.low;
      each = λ r touch same. elim (cases_place r spot) [
        | inl e ↦ rw e (omega (arith, c.requires.own, inv.low))
        | inr ne ↦ (let way = way_beside w.bounds spot r c.requires.spot touch (λ e. ne (sym e)) in
            let least = inv.each way.0 (omega (arith, way.1))
            (ap (λ n. get_or w.values.items n None) way.2 ∙ same ∙ sym own) in
            rw way.2 at least)
      ];
      one = elim inv.one [
        | inl e ↦ inl e
        | inr found ↦ (let q = beside w.bounds spot c.requires.spot found.0 found.1 in
            inr (q.0, q.1.spot, q.1.back, rw q.1.index at found.2 ∙ own, rw q.1.index at found.3, found.4))
      ];
    }
