-- The contracts of reading a grid, making its map and writing the map imply `Runs`, the contract of
-- a run.
use Rattle.std.proofs.Common.{◌≡◌, ℕ, ◌+◌, List, Option, None, Some, Ok, Err, refl, sym, subst, ◌∙◌, arith}
use Rattle.terrain.specs.Raster.{Raster}
use Rattle.ascii_grid.specs.Device.{Device, Writes}
use Rattle.ascii_grid.specs.GridText.{IsGridText}
use Rattle.ascii_grid.specs.Input.{ReadsGrid}
use Rattle.ascii_grid.specs.declared.counted.WriteFailed.{WriteFailed}
use Rattle.ascii_grid.specs.declared.input.InputFault.{InputFault}
use Rattle.ascii_grid.specs.declared.input.InputFault.TheVariants as input
use Rattle.relief.specs.declared.fault.RunFault.{RunFault}
use Rattle.relief.specs.declared.fault.RunFault.TheVariants.{Read, Write}
use Rattle.request.specs.Request.{Request}
use Rattle.relief.specs.Faults.{of_input}
use Rattle.relief.specs.MadeMap.{grid_with_sinks}
use Rattle.relief.specs.MapText.{IsMapText}
use Rattle.relief.specs.Refusals.{request_fault, IsFaultOnGrid}
use Rattle.relief.specs.Runs.{Runs}
use Rattle.ascii_grid.proofs.Pieces.{consumed_end}
use Rattle.relief.proofs.Draining.{request_fault_without_sinks, map_of_text}
use Rattle.relief.proofs.Viewing.{fault_on_grid_is_on_text, fault_on_grid_is_no_device}

pub reading_refused : {R W : Type 0} (remaining : R → Option (List ℕ)) (contents : W →
    Option (List ℕ)) (w : Request) (reader left : Device R) (writer : Device W) (e : InputFault)
    → ReadsGrid remaining w.scale reader left (Err e)
    → Runs {T = Unit {0}} remaining contents w reader left writer writer (Err (of_input e))
reading_refused remaining contents w reader left writer (input.Grid f) reads =
    let same : left.failures ≡ reader.failures = reads.sound (λ e. cc) in record {
      taken = reads.taken;
      written = tt;
      refused = λ text reported. reads.fault text f reported refl;
      unwritten = λ other. refl;
      part = λ e. absurd (cc);
      read = (λ e. absurd (cc), λ more. absurd (omega arith));
      write = (λ e. absurd (cc), λ more. absurd (omega arith));
      sound = tt;
      clean = λ e. absurd (cc);
    }
reading_refused remaining contents w reader left writer input.Read reads =
    let more : left.failures ≡ reader.failures + 1 = reads.read refl in record {
      taken = reads.taken;
      written = tt;
      refused = λ text reported. tt;
      unwritten = λ other. refl;
      part = λ e. absurd (cc);
      read = (λ e. omega arith, λ less. refl);
      write = (λ e. absurd (cc), λ more. absurd (omega arith));
      sound = tt;
      clean = λ e. reads.clean refl;
    }

module _ {R W : Type 0} (remaining : R → Option (List ℕ)) (contents : W → Option (List ℕ))
    (w : Request) (reader left : Device R) (writer grown : Device W) (g : Raster)
    (reads : ReadsGrid remaining w.scale reader left (Ok g)) where
  same : left.failures ≡ reader.failures
  same = reads.sound (λ bad. cc)

  whole : (text : List ℕ) → remaining reader.device ≡ Some text → IsGridText w.scale text g
  whole text reported = subst (λ (z : List ℕ). IsGridText w.scale z g) (consumed_end _ _ text
      reads.taken.bytes reported reads.taken.read.known reads.grid.1) reads.grid.0

  pub making_refused : (f : RunFault) → IsFaultOnGrid w g f →
      Runs {T = Unit {0}} remaining contents w reader left writer writer (Err f)
  making_refused f refusal =
      let other = fault_on_grid_is_no_device w g f refusal in record {
        taken = reads.taken;
        written = tt;
        refused = λ text reported. fault_on_grid_is_on_text w text g f
            (whole text reported) refusal;
        unwritten = λ no_write. refl;
        part = λ e. absurd (other.1 (let same_fault : f ≡ Write = cc in same_fault));
        read = (
          λ e. absurd (other.0 (let same_fault : f ≡ Read = cc in same_fault)),
          λ more. absurd (omega (arith, same)),
        );
        write = (
          λ e. absurd (other.1 (let same_fault : f ≡ Write = cc in same_fault)),
          λ more. absurd (omega arith),
        );
        sound = tt;
        clean = λ e. absurd (other.0 (let same_fault : f ≡ Read = cc in same_fault));
      }

  module _ (map : List ℕ) (made : IsMapText (grid_with_sinks w.sinks g) w.map map) where
    pub writing_failed : (e : WriteFailed) → request_fault w (grid_with_sinks w.sinks g) ≡ None →
        Writes {T = Unit {0}} {E = WriteFailed} contents writer grown map (Err e)
        → Runs {T = Unit {0}} remaining contents w reader left writer grown (Err Write)
    writing_failed e ready writes =
        let more : grown.failures ≡ writer.failures + 1 = writes.count.err in record {
          taken = reads.taken;
          written = tt;
          refused =
              λ text reported. (
                g,
                whole text reported,
                sym (request_fault_without_sinks w g
                    w.sinks) ∙ ready,
              );
          unwritten = λ other. absurd (other refl);
          part = λ failed. (
            map,
            map_of_text w reads.taken.bytes map g reads.grid.0 made,
            writes.part,
            reads.grid.1,
          );
          read = (λ failed. absurd (cc), λ less. absurd (omega (arith, same)));
          write = (λ failed. omega arith, λ less. refl);
          sound = tt;
          clean = λ failed. absurd (cc);
        }

    pub ran : Writes {T = Unit {0}} {E = WriteFailed} contents writer grown map (Ok tt) →
        Runs {T = Unit {0}} remaining contents w reader left writer grown (Ok tt)
    ran writes = record {
      taken = reads.taken;
      written =
          (map, map_of_text w reads.taken.bytes map g reads.grid.0 made, writes.all, reads.grid.1);
      refused = λ text reported. tt;
      unwritten = tt;
      part = λ e. absurd (cc);
      read = (λ e. absurd (cc), λ more. absurd (omega (arith, same)));
      write = (λ e. absurd (cc), λ more. absurd (omega (arith, writes.count.ok)));
      sound = (same, writes.count.ok);
      clean = λ e. absurd (cc);
    }
