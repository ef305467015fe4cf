use Rattle.std.proofs.Common.{ap, refl, sym, ◌∙◌, unwrap_or}
use Rattle.std.specs.Prelude.{codes}
use Rattle.terrain.specs.Decimal.{scaled_value}
use Rattle.ascii_grid.specs.Slots.{missing_of, wanted_of}
use Rattle.ascii_grid.specs.Reading.{flat}
use Rattle.ascii_grid.proofs.AddedWords.{reported, not_memory_missing}
use Rattle.ascii_grid.proofs.Judging.{missing_of-slots_of, wanted_of-slots_of, pairs-flat}
use Rattle.ascii_grid.proofs.Exits.{err_is}
use Rattle.ascii_grid.proofs.builder.GridBuilder.begin_heights.Goals as goal

pub returns-in_err-self-clause-none : goal.returns-in_err-self-clause-none
returns-in_err-self-clause-none c = λ ps k. rw (err_is c.from_residual.ensures.1) (reported _ _
    (not_memory_missing (flat ps))
    (sym (missing_of-slots_of ps) ∙ ap missing_of (sym k.slots) ∙ c.in_err-self.ensures.err))

pub returns-in_default-clause-none : goal.returns-in_default-clause-none
returns-in_default-clause-none c =
    λ ps k. sym (missing_of-slots_of ps) ∙ ap missing_of (sym k.slots) ∙ c.in_ok-self.ensures.ok.0

pub returns-clause-none : goal.returns-clause-none
returns-clause-none c = λ ps k. record {
  whole = sym (missing_of-slots_of ps) ∙ ap missing_of (sym k.slots) ∙ c.in_ok-self.ensures.ok.0;
  wanted = c.in_ok-self.ensures.ok.1 ∙ ap wanted_of k.slots ∙ wanted_of-slots_of ps;
  nodata = c.nodata_word-self.ensures ∙ ap (λ h. unwrap_or h.nodata (codes "-9999")) k.slots ∙ rw pairs-flat;
  value = c.scaled_value-self.ensures ∙ ap (scaled_value c.args.self.now.scale) c.as_bytes.ensures.value;
  faultless = refl;
  cells = c.in-Ok.ensures.items;
}
