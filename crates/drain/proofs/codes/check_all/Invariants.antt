use Rattle.std.proofs.Common.{◌≡◌, ◌++◌, map}
use Rattle.drain.specs.declared.codes.TileCodes.TheVariants.{Codes}
use Rattle.drain.proofs.codes.check_all.Given as goal

abbrev pub invariant-loop-out : goal.invariant-loop-out
invariant-loop-out l = record {
  past : l.yielded ≡ map (λ list. Codes list) l.lists.items;
  parts : l.yielded ++ l.out-iterator.rest.items ≡ l.fn.outs.items;
}
