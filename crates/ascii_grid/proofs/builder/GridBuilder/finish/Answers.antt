use Rattle.std.proofs.Common.{arith, ◌≡◌, length, ap, sym, ◌∙◌, Some}
use Rattle.std.proofs.lemmas.Bool.{cond-true, cond-false, lt-ltb, le-ltb}
use Rattle.ascii_grid.specs.declared.fault.GridFault.TheVariants.{TooFew}
use Rattle.ascii_grid.proofs.Spelled.{whole-grid, lawful-grid, spelled-grid, end-value, end-key, end-none, end-heights}
use Rattle.ascii_grid.proofs.Exits.{err_is}
use Rattle.ascii_grid.proofs.builder.GridBuilder.finish.Goals as goal

pub into_grid-requires-clause-whole : goal.into_grid-requires-clause-whole
into_grid-requires-clause-whole c = whole-grid _ _ c.requires.judged.1 c.in-AtHeights.is

pub into_grid-requires-clause-lawful : goal.into_grid-requires-clause-lawful
into_grid-requires-clause-lawful c =
    lawful-grid _ _ c.requires.judged.1 c.in-AtHeights.is c.requires.scale (omega (arith, c.args.self.cells.ok.0))

pub returns-in-AtValue : goal.returns-in-AtValue
returns-in-AtValue c = λ ws h. end-value _ ws _ _ h c.in-AtValue.is

pub returns-in_err-begin_heights-in-AtKey : goal.returns-in_err-begin_heights-in-AtKey
returns-in_err-begin_heights-in-AtKey c = λ ws h. rw (err_is c.from_residual.ensures.1)
    (end-key _ ws _ h c.in-AtKey.is (c.in_err-begin_heights-in-AtKey.ensures.none h.pairs h.header))

pub returns-in_ok-begin_heights-in-AtKey : goal.returns-in_ok-begin_heights-in-AtKey
returns-in_ok-begin_heights-in-AtKey c =
    λ ws h. end-none ws h c.in-AtKey.is (c.in_ok-begin_heights-in-AtKey.ensures.none h.pairs h.header)

pub returns-then-place-self : goal.returns-then-place-self
returns-then-place-self c = λ ws h.
    let at : c.len-place.result ≡ length c.args.self.cells.items = omega (arith, c.args.self.cells.ok.0) in
    end-heights h c.in-AtHeights.is ∙
    cond-true _ _ _ (lt-ltb (length c.args.self.cells.items) c.args.self.wanted (omega (arith, at))) ∙
    ap (λ n. Some (TooFew n)) (sym at)

pub returns-else-place-self : goal.returns-else-place-self
returns-else-place-self c = λ ws h. (
  end-heights h c.in-AtHeights.is ∙
      cond-false _ _ _ (le-ltb _ c.args.self.wanted (omega (arith, c.args.self.cells.ok.0))),
  c.into_grid.ensures ∙ spelled-grid _ ws h c.in-AtHeights.is,
)
