use Rattle.std.proofs.Common.{rules, ◌≢◌, refl, inl, inr}
use Rattle.clap.specs.Words.{kind_of}
use Rattle.clap.specs.declared.error.kind.ErrorKind.TheVariants.{DisplayHelp, DisplayVersion, OutOfMemory}
use Rattle.request.specs.CommandLine.{IsHelp}
use Rattle.relief.proofs.command.show_error.Goals as goal

pub returns-then-use_stderr : goal.returns-then-use_stderr
returns-then-use_stderr g c =
    let kind = kind_of c.args.error.now in
    let other : (kind ≢ DisplayHelp) × (kind ≢ DisplayVersion) = search rules in
    let some : kind ≢ OutOfMemory = search rules in
    inr (inl (
      (λ help. elim help [ inl same ↦ other.0 same | inr same ↦ other.1 same ], some),
      c.show.ensures.line,
      c.show.ensures.status,
      refl,
    ))

pub returns : goal.returns
returns g c =
    let help : IsHelp (kind_of c.args.error.now) = search rules in
    inl (help, c.show-else-use_stderr.ensures.status, c.show-else-use_stderr.ensures.line, refl)
