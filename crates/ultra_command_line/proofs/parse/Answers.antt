-- the words of a run of two paths, of help and of the version
use Rattle.std.proofs.Common.{List, map}
use Rattle.clap.specs.Words.{Text}
use Rattle.ultra_command_line.specs.declared.Parsed.TheVariants as parsed
use Rattle.ultra_command_line.proofs.{Flags.{help_alone, text_asked, version_alone}, RunWords.run_of_paths}
use Rattle.ultra_command_line.proofs.parse.Goals as goal

pub returns-in-Ok-clause-run : goal.returns-in-Ok-clause-run
returns-in-Ok-clause-run c = run_of_paths (map (λ w. w.now) c.args.words.now) (parsed.Invocation c.in-Ok.command) c.in-Ok.ensures

pub returns-in-Ok-clause-help : goal.returns-in-Ok-clause-help
returns-in-Ok-clause-help c = help_alone (map (λ w. w.now) c.args.words.now) (parsed.Invocation c.in-Ok.command) c.in-Ok.ensures

pub returns-in-Ok-clause-version : goal.returns-in-Ok-clause-version
returns-in-Ok-clause-version c = version_alone (map (λ w. w.now) c.args.words.now) (parsed.Invocation c.in-Ok.command) c.in-Ok.ensures

pub returns-in-Ok-error_text-clause-run : goal.returns-in-Ok-error_text-clause-run
returns-in-Ok-error_text-clause-run c =
    let words : List Text = map (λ w. w.now) c.args.words.now in
    run_of_paths words c.text_of_kind.result (text_asked words c.kind.result _ c.text_of_kind.result c.kind.ensures c.in-Err.ensures c.in-Ok-error_text.ensures c.text_of_kind.ensures)

pub returns-in-Ok-error_text-clause-help : goal.returns-in-Ok-error_text-clause-help
returns-in-Ok-error_text-clause-help c =
    let words : List Text = map (λ w. w.now) c.args.words.now in
    help_alone words c.text_of_kind.result (text_asked words c.kind.result _ c.text_of_kind.result c.kind.ensures c.in-Err.ensures c.in-Ok-error_text.ensures c.text_of_kind.ensures)

pub returns-in-Ok-error_text-clause-version : goal.returns-in-Ok-error_text-clause-version
returns-in-Ok-error_text-clause-version c =
    let words : List Text = map (λ w. w.now) c.args.words.now in
    version_alone words c.text_of_kind.result (text_asked words c.kind.result _ c.text_of_kind.result c.kind.ensures c.in-Err.ensures c.in-Ok-error_text.ensures c.text_of_kind.ensures)
