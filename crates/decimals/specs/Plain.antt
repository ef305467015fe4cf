-- Defines that the first bytes of a text spell a value, as `plain_number` promises.
-- Source: this project.
-- Public.
use Rattle.std.specs.Prelude.{◌≡◌, ℕ, ◌≤◌, ◌<◌, ◌*◌, ◌^◌, ℤ, List, length, take, true, false, Some}
use Rattle.std.specs.List.{list_any, list_all}
use Rattle.std.specs.Char.{is_ascii_digit}
use Rattle.terrain.specs.Words.{is_separator}
use Rattle.terrain.specs.Decimal.{number_of, scaled_value}

-- The first `len` of these bytes, at most 17 and none a separator, spell `value` in units of 10^-d.
pub record IsPlain (d : ℕ) (bytes : List ℕ) (len : ℕ) (value : ℤ) : Type 0 where
  pub some : 0 < len
  pub short : len ≤ 17
  pub within : len ≤ length bytes
  pub scaled : scaled_value d (take len bytes) ≡ Some value
  pub whole : list_any is_separator (take len bytes) ≡ false

-- The first `len` of these bytes, 1 to 16 digits, spell `size` in units of 10^-d.
pub record IsPlainSize (d : ℕ) (bytes : List ℕ) (len size : ℕ) : Type 0 where
  pub some : 0 < len
  pub short : len ≤ 16
  pub within : len ≤ length bytes
  pub digits : list_all is_ascii_digit (take len bytes) ≡ true
  pub value : size ≡ number_of (take len bytes) * 10 ^ d
  pub small : size ≤ 10 ^ 18
