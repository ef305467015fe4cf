use Rattle.std.proofs.Common.{◌≡◌, length, take}
use Rattle.cell_floods.proofs.labels.short_indexes.Given as goal

abbrev pub invariant-loop-cell : goal.invariant-loop-cell
invariant-loop-cell l = record {
  size : length l.short.items ≡ length l.indexes;
  same : take l.cell l.short.items ≡ take l.cell l.indexes;
}
