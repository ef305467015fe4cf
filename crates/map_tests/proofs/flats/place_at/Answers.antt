use Rattle.std.proofs.Common.{◌≡◌, ◌+◌, ◌*◌, ◌/◌, ◌%◌, ◌<◌, ℕ, sym, subst, arith}
use Rattle.std.proofs.lemmas.Nat.{div_below, mod_below, div-add-mod'}
use Rattle.map_tests.proofs.flats.place_at.Goals as goal

pub returns : goal.returns
returns c =
    let t = c.args.grid.now.terrain in
    let same = c.cols-cols.ensures.value in
    let some = c.cols-cols.ensures.lawful.terrain.some_col in
    record {
      inside = (
        subst (λ (n : ℕ). c.args.index / n < t.rows) (sym same)
            (div_below c.args.index t.cols t.rows some (omega arith)),
        subst (λ (n : ℕ). c.args.index % n < t.cols) (sym same)
            (mod_below c.args.index t.cols some),
      );
      index = subst (λ (n : ℕ). c.args.index / n * t.cols + c.args.index % n ≡ c.args.index)
          (sym same) (div-add-mod' c.args.index t.cols);
    }
