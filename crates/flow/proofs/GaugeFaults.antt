-- Gauges without a fault are on cells that have codes. A gauge in the grid on a cell without a code
-- has a fault.
use Rattle.std.proofs.Common.{◌≡◌, ◌≢◌, ℕ, ◌+◌, ◌<◌, ◌≤◌, Bool, true, false, not, List, [], ◌∷◌, length, Option, None, Some, Err, is_some, is_none, refl, ap₂, ◌∙◌, inl, inr}
use Rattle.std.specs.Prelude.{nat_lt, if◌then◌else◌, option_map}
use Rattle.std.specs.List.{All}
use Rattle.std.specs.Option.{option_or}
use Rattle.std.proofs.lemmas.Bool.{and_from, cases_Bool, lt-ltb, ltb-false}
use Rattle.terrain.specs.Raster.{Terrain, is_in_grid}
use Rattle.terrain.specs.Neighbours.{height_at}
use Rattle.terrain.specs.Faults.{first_fault, place_fault}
use Rattle.terrain.specs.Sinks.{sinks_fault, most_sinks}
use Rattle.terrain.specs.declared.place.Place.{Place}
use Rattle.terrain.specs.declared.sinks.SinkFault.{SinkFault}
use Rattle.terrain.specs.declared.sinks.SinkFault.TheVariants as sink
use Rattle.terrain.proofs.Listed.{listed_from_any}
use Rattle.terrain.proofs.Naming.{IsSound, sinks_sound, few_sinks}
use Rattle.tile_jobs.specs.declared.JobFault.TheVariants.{NoThread}
use Rattle.tiles.specs.Cutting.{Cutting, Cuts}
use Rattle.drainage.specs.Following.{code_at}
use Rattle.drainage.specs.Drained.{Drained, IsDraining, directed_of}
use Rattle.flow.specs.Catchments.{RefusesGauges, gauges_fault}
use Rattle.flow.specs.CutCodes.{HaveCodes, fault_of_gauge}
use Rattle.flow.specs.declared.gauges.GaugeFault.{GaugeFault}
use Rattle.flow.specs.declared.gauges.GaugeFault.TheVariants.{Outside, OnNodata, Jobs}

pub fault_inside : (t : Terrain) (i : ℕ) (p : Place) → p.row < t.rows → p.col < t.cols →
    place_fault Outside OnNodata t i p ≡ (if is_none (height_at t p) then Some (OnNodata i) else None)
fault_inside t i p row col =
    cc (and_from (nat_lt p.row t.rows) (nat_lt p.col t.cols) (lt-ltb _ _ row) (lt-ltb _ _ col))

none_is : {X : Type 0} (o : Option X) → is_none o ≡ not (is_some o)
none_is None = refl
none_is (Some x) = refl

not_not : (b : Bool) → not (not b) ≡ b
not_not true = refl
not_not false = refl

-- If `none` says whether p lacks a code, it says whether p lacks a height.
pub none_of_code : {d : Drained} → IsDraining d → (p : Place) {code : Option ℕ} (none : Bool) →
    code ≡ code_at (directed_of d) p → is_some code ≡ not none → is_none (height_at d.terrain p) ≡ none
none_of_code {d} draining p none read is = cc (none_is (height_at d.terrain p), draining.same_data p, not_not none)

no_sink_fault : (o : Option SinkFault) → option_map fault_of_gauge o ≡ None → o ≡ None
no_sink_fault None e = refl
no_sink_fault (Some f) e = absurd (cc)

-- no fault of gauges is that no thread can start
no_thread : (o : Option SinkFault) → option_map fault_of_gauge o ≢ Some (Jobs NoThread)
no_thread None e = absurd (cc)
no_thread (Some (sink.Outside i)) e = absurd (cc)
no_thread (Some (sink.OnNodata i)) e = absurd (cc)
no_thread (Some sink.TooManySinks) e = absurd (cc)
no_thread (Some sink.Memory) e = absurd (cc)

mapped_or : (a b : Option SinkFault) →
    option_map fault_of_gauge (option_or a b) ≡ option_or (option_map fault_of_gauge a) (option_map fault_of_gauge b)
mapped_or None b = refl
mapped_or (Some f) b = refl

module _ (t : Terrain) where
  same_place : (i : ℕ) (p : Place) →
      option_map fault_of_gauge (place_fault sink.Outside sink.OnNodata t i p) ≡ place_fault Outside OnNodata t i p
  same_place i p = elim (cases_Bool (is_in_grid t.cols t.rows p)) [
    | inl inside ↦ elim (cases_Bool (is_none (height_at t p))) [ inl none ↦ cc | inr some ↦ cc ]
    | inr outside ↦ cc
  ]

  same_first : (i : ℕ) (ps : List Place) →
      option_map fault_of_gauge (first_fault (place_fault sink.Outside sink.OnNodata t) i ps)
      ≡ first_fault (place_fault Outside OnNodata t) i ps
  same_first i [] = refl
  same_first i (p ∷ rest) = mapped_or _ _ ∙ ap₂ option_or (same_place i p) (same_first (i + 1) rest)

  -- gauges have the fault that sinks at these places have
  pub fault_of_sinks : (gauges : List Place) → option_map fault_of_gauge (sinks_fault t gauges) ≡ gauges_fault t gauges
  fault_of_sinks gauges = elim (cases_Bool (nat_lt most_sinks (length gauges))) [
    | inl many ↦ cc
    | inr few ↦ cc (same_first 0 gauges)
  ]

  -- a fault of gauges refuses catchments
  pub refuses : {T : Type 0} (gauges : List Place) (f : GaugeFault) (workers : ℕ) → gauges_fault t gauges ≡ Some f →
      RefusesGauges {T = T} (gauges_fault t gauges) workers (Err f)
  refuses gauges f workers is = record {
    reported = λ h e. cc;
    jobs = λ none. absurd cc;
    bad_workers = λ none. absurd cc;
    no_thread = λ e. absurd (no_thread _ (fault_of_sinks gauges ∙ cc));
  }

module _ {d : Drained} (draining : IsDraining d) (gauges : List Place) (none : gauges_fault d.terrain gauges ≡ None)
  where
    no_fault : sinks_fault d.terrain gauges ≡ None
    no_fault = no_sink_fault _ (fault_of_sinks d.terrain gauges ∙ none)

    pub all_sound : All (IsSound d.terrain) gauges
    all_sound = sinks_sound d.terrain gauges no_fault

    pub few_gauges : length gauges ≤ most_sinks
    few_gauges = ltb-false most_sinks _ (few_sinks d.terrain gauges no_fault)

    have_codes : HaveCodes d.terrain.cols d.terrain.rows d.codes gauges
    have_codes p named =
        let there = listed_from_any p gauges named in
        rw there.2 at (draining.same_data _ ∙ (all_sound _ p there.1).1)

    pub have_codes_in : (t : Cutting) {codes : List (Option ℕ)} → Cuts t d.terrain → codes ≡ d.codes →
        HaveCodes t.cols t.rows codes gauges
    have_codes_in t cuts same p named = rw (same, cuts.0, cuts.1) (have_codes p named)
