use Rattle.std.proofs.Common.{arith, ap, subst, ◌∙◌, ◌≡◌, ◌*◌, ◌<◌, ℕ, Bool, true, false, not, List, get_or, None}
use Rattle.std.proofs.lemmas.List.{with_items_is}
use Rattle.std.proofs.lemmas.Option.{slice_get-get_or}
use Rattle.sightlines.specs.Sight.{is_open}
use Rattle.sight.specs.Flags.{flag_at}
use Rattle.tiles.specs.Cutting.{place_in}
use Rattle.tiles.proofs.TileOrder.{index_in-place_in}
use Rattle.sight.specs.Lowered.{lowered_to}
use Rattle.sight.specs.Raising.{IsRaised}
use Rattle.sight.proofs.Indexed.{place_inside}
use Rattle.sight.proofs.Swept.{swept_lowered}
use Rattle.sight.proofs.tile.ViewshedInput.lower_values.Goals as goal

pub returns-in-Ok : goal.returns-in-Ok
returns-in-Ok c k less =
    let self = c.args.self.now in
    let t = self.grid.now.terrain in
    let o = c.args.observer.now in
    let b = c.args.bounds in
    let flags = c.in_ok-flags.flags.items in
    let old = c.in_ok-targets.targets in
    let targets = c.raise_blocked.new.targets in
    let below : k < b.rows * b.cols = omega (arith, less) in
    let at = index_in-place_in b k in
    let made = c.in_ok-flags.ensures in
    let candidate =
    made.each (place_in b k) (place_inside b k below) (rw at below) (get_or flags k false)
    (rw at (slice_get-get_or flags k false (omega (arith, below)))) in
    let whole = with_items_is old targets (omega arith) in
    let raised : get_or flags k false ≡ true →
    IsRaised (λ h. not (is_open t o (place_in b k) h)) 0 (get_or targets k 0) =
    λ flagged.
    subst (λ (j : ℕ). IsRaised (λ h. not (is_open t o (place_in b k) h)) 0 (get_or targets j 0)) at
    (c.in-Ok.ensures (place_in b k) (place_inside b k below) (ap
    (λ (xs : List Bool). flag_at b xs (place_in b k)) c.deref.ensures.value ∙
    ap (λ j. get_or flags j false) at ∙ flagged)) in
    let new =
    c.lower_to.ensures k less ∙
    ap (λ (xs : List Bool).
    lowered_to (get_or xs k false) (get_or c.deref-in-Ok-2.result.now k 0)
    (get_or c.args.values.now k None)) c.deref-in-Ok.ensures.value ∙
    ap (λ (xs : List ℕ). lowered_to (get_or flags k false) (get_or xs k 0) (get_or c.args.values.now k None))
    (c.deref-in-Ok-2.ensures.value ∙ whole) in
    swept_lowered t o self.radius (place_in b k) (get_or flags k false) (get_or targets k 0)
    (get_or c.args.values.now k None) (get_or c.lower_to.new.values k None) (c.requires.low k) candidate raised new
