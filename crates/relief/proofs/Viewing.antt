-- A run may return the fault that forbids its map and, if tiles, sinks and gauges have none, the
-- fault that ends its viewshed or catchments. What it may return for a grid, it may for its text.
use Rattle.std.proofs.Common.{◌≡◌, ◌⊎◌, ℕ, ◌<◌, ◌≤◌, Option, None, Some, Ok, Err, sym, ap, subst, refl, ◌∙◌, arith, inl, inr, Bool, true, false, cond, List}
use Rattle.std.specs.Option.{option_map, option_or}
use Rattle.terrain.specs.Raster.{Raster}
use Rattle.tile_jobs.specs.declared.JobFault.{JobFault}
use Rattle.tile_jobs.specs.declared.JobFault.TheVariants as jobs
use Rattle.sight.specs.declared.fault.SightFault.{SightFault}
use Rattle.sight.specs.declared.fault.SightFault.TheVariants as sight
use Rattle.sight.specs.Refusals.{RefusesSight}
use Rattle.relief.specs.declared.fault.RunFault.TheVariants.{Sight, Grid, Tiling, Jobs, Sinks, Gauges, Read, Write}
use Rattle.flow.specs.Catchments.{RefusesGauges}
use Rattle.flow.specs.declared.gauges.GaugeFault.{GaugeFault}
use Rattle.flow.specs.declared.gauges.GaugeFault.TheVariants as gauges
use Rattle.relief.specs.Faults.{of_gauges, of_sight}
use Rattle.request.specs.Request.{Request}
use Rattle.relief.specs.MadeMap.{IsOfJobs}
use Rattle.relief.specs.Refusals.{gauge_fault, view_fault, named_place_fault, request_fault, IsFaultOnGrid, tiles_of, IsFaultOnText}
use Rattle.std.specs.Prelude.{⊤, nat_lt}
use Rattle.terrain.specs.Sinks.{sinks_fault}
use Rattle.terrain.specs.declared.sinks.SinkFault.{SinkFault}
use Rattle.ascii_grid.specs.GridText.{IsGridText}
use Rattle.tiles.specs.declared.tiling.TilingFault.TheVariants.{TooManyTiles}
use Rattle.tiles.specs.Cutting.{most_tiles}
use Rattle.relief.specs.declared.fault.RunFault.{RunFault}

pub no_fault : {T : Type 0} (fault : Option SightFault) (workers : ℕ) (x : T) →
    RefusesSight fault workers (Ok x) → fault ≡ None
no_fault None workers x h = refl
no_fault (Some f) workers x h = let bad = h.reported f refl in absurd (cc)

-- If the fault `f` of a viewshed forbids the map and is no fault of jobs, a run may return `f`.
sight_refused : (w : Request) (g : Raster) (f : SightFault) → ((x : JobFault) → f ≡ sight.Jobs x →
    ⊥) → request_fault w g ≡ Some (Sight f) → IsFaultOnGrid w g (of_sight f)
sight_refused w g (sight.Outside i) other h = h
sight_refused w g (sight.OnNodata i) other h = h
sight_refused w g sight.TooManyObservers other h = h
sight_refused w g (sight.BadEye i) other h = h
sight_refused w g sight.BadRadius other h = h
sight_refused w g (sight.Jobs x) other h = absurd (other x refl)

module _ (w : Request) (g : Raster) (some : 1 ≤ w.workers) (few : w.workers ≤ 64)
    (ready : request_fault w g ≡ None) where
  pub job_refused : (x : JobFault) → (x ≡ jobs.BadWorkers → (w.workers ≡ 0) ⊎ (64 < w.workers)) →
      (x ≡ jobs.NoThread → 1 < w.workers) → IsFaultOnGrid w g (Jobs x)
  job_refused jobs.Memory bad_workers no_thread = ready
  job_refused jobs.BadWorkers bad_workers no_thread =
      absurd (elim (bad_workers refl) [ inl none ↦ omega arith | inr many ↦ omega arith ])
  job_refused jobs.NoThread bad_workers no_thread = (ready, no_thread refl)

  pub of_jobs_refused : (f : RunFault) → IsOfJobs w.workers f → IsFaultOnGrid w g f
  of_jobs_refused (Jobs jobs.Memory) h = ready
  of_jobs_refused (Jobs jobs.BadWorkers) h =
      absurd (elim h [ inl none ↦ omega arith | inr many ↦ omega arith ])
  of_jobs_refused (Jobs jobs.NoThread) h = (ready, h)
  of_jobs_refused (Tiling fault) h = absurd h
  of_jobs_refused (Sight fault) h = absurd h
  of_jobs_refused (Sinks fault) h = absurd h
  of_jobs_refused (Gauges fault) h = absurd h
  of_jobs_refused (Grid fault) h = absurd h
  of_jobs_refused Read h = absurd h
  of_jobs_refused Write h = absurd h

of_jobs : {F : Type 0} (fault : JobFault → F) (f : F) → (f ≡ fault jobs.Memory)
    ⊎ (f ≡ fault jobs.BadWorkers) ⊎ (f ≡ fault jobs.NoThread) → (x : JobFault) × (f ≡ fault x)
of_jobs fault f (inl e) = (jobs.Memory, e)
of_jobs fault f (inr (inl e)) = (jobs.BadWorkers, e)
of_jobs fault f (inr (inr e)) = (jobs.NoThread, e)

pub view_refused :
    {T : Type 0} (w : Request) (g : Raster) (fault : Option SightFault) (f : SightFault) →
    1 ≤ w.workers → w.workers ≤ 64 → ((x : JobFault) → fault ≡ Some (sight.Jobs x) → ⊥)
    → request_fault w g ≡ option_map Sight fault → RefusesSight {T = T} fault w.workers (Err f) →
    IsFaultOnGrid w g (of_sight f)
view_refused w g None f some few other is h =
    let reported = of_jobs sight.Jobs f (h.jobs refl f refl) in
    subst (λ (s : SightFault). IsFaultOnGrid w g (of_sight s)) (sym reported.1)
    (job_refused w g some few is reported.0 (λ e. (h.bad_workers refl).0 (ap Err (reported.1
    ∙ ap sight.Jobs e))) (λ e. h.no_thread (ap Err (reported.1 ∙ ap sight.Jobs e))))
view_refused w g (Some k) f some few other is h =
    let same : k ≡ f = let reported = h.reported k refl in cc in
    sight_refused w g f (λ x bad. other x (ap Some (same ∙ bad))) (is
    ∙ ap (λ (s : SightFault). Some (Sight s)) same)

pub catchments_refused : {T : Type 0} (w : Request) (g : Raster) (fault : Option GaugeFault)
    (f : GaugeFault) → 1 ≤ w.workers → w.workers ≤ 64 → fault ≡ None
    → request_fault w g ≡ None → RefusesGauges {T = T} fault w.workers (Err f) →
    IsFaultOnGrid w g (of_gauges f)
catchments_refused w g fault f some few sound is h =
    let reported = of_jobs gauges.Jobs f (h.jobs sound f refl) in
    subst (λ (k : GaugeFault). IsFaultOnGrid w g (of_gauges k)) (sym reported.1)
    (job_refused w g some few is reported.0 (λ e. (h.bad_workers sound).0 (ap Err (reported.1
    ∙ ap gauges.Jobs e))) (λ e. h.no_thread (ap Err (reported.1 ∙ ap gauges.Jobs e))))

-- The fault is one of tiles, a viewshed, sinks or gauges. By `request_forbids`, no other fault
-- forbids a map.
abbrev pub Forbids : RunFault → Type 0
Forbids (Tiling fault) = ⊤
Forbids (Sight fault) = ⊤
Forbids (Sinks fault) = ⊤
Forbids (Gauges fault) = ⊤
Forbids fault = ⊥

pub request_forbids : (w : Request) (g : Raster) (f : RunFault) → request_fault w g ≡ Some f →
    Forbids f
request_forbids w g f e = go (nat_lt most_tiles (tiles_of g w.tile)) e where
  sights : (o : Option SightFault) → option_map Sight o ≡ Some f → Forbids f
  sights None h = absurd (cc)
  sights (Some s) h = let same : Sight s ≡ f = cc in subst Forbids same tt

  of_gauge : (o : Option GaugeFault) → option_or (option_map Gauges o)
      (option_map Sight (view_fault g w.map)) ≡ Some f → Forbids f
  of_gauge None h = sights (view_fault g w.map) h
  of_gauge (Some s) h = let same : Gauges s ≡ f = cc in subst Forbids same tt

  sinks : (o : Option SinkFault) → option_or (option_or (option_map Sinks o) (option_map Gauges
      (gauge_fault g w.map))) (option_map Sight (view_fault g w.map)) ≡ Some f → Forbids f
  sinks None h = of_gauge (gauge_fault g w.map) h
  sinks (Some s) h = let same : Sinks s ≡ f = cc in subst Forbids same tt

  go : (t : Bool) → cond t (Some (Tiling TooManyTiles)) (option_or (named_place_fault w g)
      (option_map Sight (view_fault g w.map))) ≡ Some f → Forbids f
  go true h = let same : Tiling TooManyTiles ≡ f = cc in subst Forbids same tt
  go false h = sinks (sinks_fault g.terrain w.sinks) h

pub forbidden : (w : Request) (g : Raster) (f : RunFault) → request_fault w g ≡ Some f →
    IsFaultOnGrid w g f
forbidden w g (Jobs fault) h = absurd (request_forbids w g _ h)
forbidden w g (Tiling fault) h = h
forbidden w g (Sight fault) h = h
forbidden w g (Sinks fault) h = h
forbidden w g (Gauges fault) h = h
forbidden w g (Grid fault) h = h
forbidden w g Read h = h
forbidden w g Write h = h

pub fault_on_grid_is_on_text : (w : Request) (text : List ℕ) (g : Raster) (f : RunFault) →
    IsGridText w.scale text g → IsFaultOnGrid w g f → IsFaultOnText w text f
fault_on_grid_is_on_text w text g (Jobs fault) is h = (g, is, h)
fault_on_grid_is_on_text w text g (Tiling fault) is h = (g, is, h)
fault_on_grid_is_on_text w text g (Sight fault) is h = (g, is, h)
fault_on_grid_is_on_text w text g (Sinks fault) is h = (g, is, h)
fault_on_grid_is_on_text w text g (Gauges fault) is h = (g, is, h)
fault_on_grid_is_on_text w text g (Grid fault) is h = absurd (request_forbids w g _ h)
fault_on_grid_is_on_text w text g Read is h = tt
fault_on_grid_is_on_text w text g Write is h = absurd (request_forbids w g _ h)

pub fault_on_grid_is_no_device : (w : Request) (g : Raster) (f : RunFault) → IsFaultOnGrid w g f →
    (f ≡ Read → ⊥) × (f ≡ Write → ⊥)
fault_on_grid_is_no_device w g (Jobs fault) h = (λ e. cc, λ e. cc)
fault_on_grid_is_no_device w g (Tiling fault) h = (λ e. cc, λ e. cc)
fault_on_grid_is_no_device w g (Sight fault) h = (λ e. cc, λ e. cc)
fault_on_grid_is_no_device w g (Sinks fault) h = (λ e. cc, λ e. cc)
fault_on_grid_is_no_device w g (Gauges fault) h = (λ e. cc, λ e. cc)
fault_on_grid_is_no_device w g (Grid fault) h = (λ e. cc, λ e. cc)
fault_on_grid_is_no_device w g Read h = absurd (request_forbids w g _ h)
fault_on_grid_is_no_device w g Write h = absurd (request_forbids w g _ h)
