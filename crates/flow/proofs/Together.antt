-- The flow paths of a drained terrain, one with steps and codes for which `IsDraining` holds, all
-- end. A list with each data cell's value at its place, and `None` at NODATA, is the map of these
-- values for the terrain.
use Rattle.std.proofs.Common.{◌≡◌, ℕ, ◌*◌, List, length, Option, subst, sym, ◌∙◌, Some, Vec, Global, vec_len, slice_get, arith}
use Rattle.std.specs.Prelude.{Result, Ok, Err, IfOk}
use Rattle.std.proofs.lemmas.Option.{get_or_from_slice_get, slice_get_within}
use Rattle.tiles.specs.Cutting.{Cutting, Cuts, IsWithin}
use Rattle.drainage.specs.Following.{Directed}
use Rattle.drainage.specs.Drained.{Drained, IsDraining, AllFlowEnds, directed_of}
use Rattle.drainage.proofs.Ends.{falling_ends}
use Rattle.terrain.specs.Neighbours.{entry_at, IsDataCell}
use Rattle.terrain.specs.Raster.{IsTerrain}
use Rattle.terrain.specs.declared.place.Place.{Place}
use Rattle.tile_jobs.specs.Results.{AreResults}
use Rattle.flow.specs.Whole.{IsGridFlow, directed_on}
use Rattle.flow.specs.Counts.{IsMapOf, IsValueAt}
use Rattle.flow.proofs.Coded.{IsCoded, coded_from_some}
use Rattle.flow.proofs.Reaching.{IsEnding}

pub directed_same : (d : Drained) (t : Cutting) {codes : List (Option ℕ)} → Cuts t d.terrain → codes ≡ d.codes →
    directed_on t codes ≡ directed_of d
directed_same d t {codes} cuts e = cc

pub grid_flow : {d : Drained} (t : Cutting) {codes : List (Option ℕ)} → IsDraining d → Cuts t d.terrain →
    codes ≡ d.codes → IsGridFlow t.cols t.rows codes
grid_flow {d} t {codes} draining cuts e = record {
  size = cc;
  ends = subst (λ x. AllFlowEnds x) (sym (directed_same d t cuts e)) (falling_ends d draining);
}

pub drained_ending : (d : Drained) → IsTerrain d.terrain → IsDraining d → IsEnding (directed_of d)
drained_ending d terrain draining = record {
  ends = falling_ends d draining;
  some_col = terrain.some_col;
  some_row = terrain.some_row;
  few_cols = terrain.few_cols;
  few_rows = terrain.few_rows;
}

pub drained_coded : (d : Drained) → IsDraining d → (p : Place) → IsDataCell d.terrain p → IsCoded (directed_of d) p
drained_coded d draining p is = coded_from_some _ p (draining.same_data p ∙ is)

-- Let P k hold of the result of each job k, of n jobs. If Q holds of every list of n entries where
-- P k holds of entry k, Q holds of the list that the jobs return.
pub jobs_gave : {X E : Type 0} (P : ℕ → X → Type 0) (r : Result (Vec X Global) E) {n m : ℕ} (Q : List X → Type 0) →
    n ≡ m → ((outs : List X) → length outs ≡ m → ((k : ℕ) (x : X) → slice_get outs k ≡ Some x → P k x) → Q outs) →
    IfOk r (λ v. vec_len v ≡ n) → IfOk r (λ v. AreResults P n v.items) → IfOk r (λ v. Q v.items)
jobs_gave P (Ok v) Q same made len given = made _ (omega arith) (λ k x there. rw (get_or_from_slice_get _ k x x there)
    at (given k x (omega (arith, slice_get_within))))
jobs_gave P (Err e) Q same made len given = len

-- A list with each data cell's value at its place, and `None` at NODATA, is the map of these values
-- for the drained terrain.
pub whole_map : (d : Drained) (t : Cutting) {codes : List (Option ℕ)} → Cuts t d.terrain → codes ≡ d.codes →
    (value : Directed → Place → ℕ) (whole : List (Option ℕ)) → length whole ≡ t.cols * t.rows →
    ((p : Place) → IsWithin t p → IsValueAt (directed_on t codes) (value (directed_on t codes)) p
    (entry_at t.cols t.rows whole p)) → IsMapOf (directed_of d) (value (directed_of d)) whole
whole_map d t cuts same value whole size each = rw (← directed_same d t cuts same) (record { size = size; each = each })
