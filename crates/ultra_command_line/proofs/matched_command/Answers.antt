-- what `clap` says of the program's grammar
use Rattle.std.proofs.Common.{◌∙◌, ◌≡◌, List, ap, map, refl, subst, sym, true}
use Rattle.clap.specs.Words.{App, Text, fault_of, is_simple, is_simple_and_free, subcommand_of, HasKind}
use Rattle.clap.proofs.OnLiterals.{clap_on_literals}
use Rattle.ultra_args.specs.{Asked.named_in, Grammar.ultra_app}
use Rattle.ultra_command_line.proofs.matched_command.Goals as goal

simple : is_simple ultra_app ≡ true
unfolding clap_on_literals ultra_app
simple = refl

free : is_simple_and_free ultra_app ≡ true
unfolding clap_on_literals ultra_app
free = refl

pub returns-in-Ok : goal.returns-in-Ok
returns-in-Ok c = λ is.
    let words : List Text = map (λ w. w.now) c.args.words.now in
    let found = c.in-Ok.ensures.ok.2 (ap is_simple is.0 ∙ simple) in
    let none = c.in-Ok.ensures.kinds (ap is_simple_and_free is.0 ∙ free) in (
      ap (λ (a : App). fault_of a words) (sym is.0) ∙ none,
      c.named_command.ensures ∙ ap named_in (found.1 ∙ ap (λ (a : App). subcommand_of a words) is.0),
    )

pub returns-in-Err : goal.returns-in-Err
returns-in-Err c = λ is.
    let words : List Text = map (λ w. w.now) c.args.words.now in
    subst (λ (a : App). HasKind (fault_of a words) c.in-Err.error) is.0 (c.in-Err.ensures.kinds (ap is_simple_and_free is.0 ∙ free))
