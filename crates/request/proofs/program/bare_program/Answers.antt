use Rattle.std.proofs.Common.{ap, true}
use Rattle.clap.specs.Words.{App}
use Rattle.request.proofs.program.bare_program.Goals as goal

pub returns : goal.returns
returns c =
    rw (
      c.disable_help_subcommand.ensures,
      c.subcommand_required.ensures,
      c.after_help.ensures,
      c.override_usage.ensures,
      c.version.ensures,
      c.about.ensures,
    )
    (ap (λ (a : App). record a {
      top = record a.top
          { disable_help_subcommand = true; has_version = true; subcommand_required = true };
    })
    c.new.ensures.app)
