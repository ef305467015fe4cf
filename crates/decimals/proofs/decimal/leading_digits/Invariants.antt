use Rattle.std.proofs.Common.{◌≡◌, ◌<◌, ◌^◌, take, true}
use Rattle.std.specs.List.{list_all}
use Rattle.std.specs.Char.{is_ascii_digit}
use Rattle.terrain.specs.Decimal.{number_of}
use Rattle.decimals.proofs.decimal.leading_digits.Given as goal

abbrev pub invariant-loop-at : goal.invariant-loop-at
invariant-loop-at l = record {
  digits : list_all is_ascii_digit (take l.at l.bytes) ≡ true;
  number : l.number ≡ number_of (take l.at l.bytes);
  small : l.number < 10 ^ l.at;
}
