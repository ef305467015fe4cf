use Rattle.std.proofs.Common.{◌≡◌, Some, refl}
use Rattle.std.specs.Prelude.{slice_get}
use Rattle.std.proofs.lemmas.Option.{slice_get_read}
use Rattle.horizons.proofs.Pieces.{ramp_of_piece, within_count, later}
use Rattle.horizons.proofs.horizon.Horizon.piece.Goals as goal

found : (c : goal.After-result-1) →
    slice_get c.self.inside.pieces.items c.first_above-cursor.result ≡ Some c.index.result.now
found c =
    let few = rw c.deref.ensures.value at c.first_above-cursor.ensures.inside in
    slice_get_read _ _ _ _ refl few c.index.ensures

pub returns-clause-range : goal.returns-clause-range
returns-clause-range c =
    let above = rw c.deref.ensures.value at (c.first_above-cursor.ensures.above c.index.result.now) in
    rw (← c.self.view_is) (above (found c), within_count c.self.inside.pieces.items _ _ (found c))

pub returns-clause-ramp : goal.returns-clause-ramp
returns-clause-ramp c i low high =
    let before = rw c.deref.ensures.value at c.first_above-cursor.ensures.before in
    rw (← c.self.view_is) (ramp_of_piece _ c.first_above-cursor.result _ i (found c) (later _ _ _ i before low) high)
