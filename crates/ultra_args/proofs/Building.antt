-- a command with one more argument or subcommand
use Rattle.std.proofs.Common.{◌∙◌, ◌≡◌, ℕ, List, [], ◌∷◌, Some, ap, ap₂}
use Rattle.std.specs.{Borrow.Bor, Prelude.{◌||◌, true}}
use Rattle.clap.specs.Words.{AddsArg, AddsSubcommand, App, Rule, rule_of, with_rule, with_subcommand}
use Rattle.clap.specs.declared.builder.{Arg.Arg, ArgAction.ArgAction, ValueParser.ValueParser, texts.Texts.TheVariants.One, Command.{Command, TheViews.out-Command}}
use Rattle.ultra_args.specs.Grammar.{IsRead, IsApp}

pub with_argument : (app : App) (rule : Rule) (old : Command) (a : Arg) (new : Command) → IsApp app old → IsRead rule a → AddsArg old a new → IsApp (with_rule app rule) new
with_argument app rule old a new is read added = (added.shape read.1 ∙ ap₂ with_rule is.0 read.0, added.globals ∙ ap₂ ◌||◌ is.1 read.1)

pub with_command : (app sub : App) (old c new : Command) → IsApp app old → IsApp sub c → AddsSubcommand old c new → IsApp (with_subcommand app sub.top) new
with_command app sub old c new is named added = (added.shape named.1 ∙ ap₂ with_subcommand is.0 (ap (λ (a : App). a.top) named.0), added.globals ∙ ap₂ ◌||◌ is.1 named.1)

-- a command that needs a command below it
pub requires_command : (app : App) (old new : Command) → IsApp app old → out-Command new ≡ record (out-Command old) { subcommand_required = true } → IsApp (record app { top = record app.top { subcommand_required = true } }) new
requires_command app old new is e = (rw e (ap (λ (a : App). record a { top = record a.top { subcommand_required = true } }) is.0), rw e is.1)

-- a command that has a version
pub with_version : (app : App) (old new : Command) (t : Bor (List ℕ)) → IsApp app old → out-Command new ≡ record (out-Command old) { version = Some t } → IsApp (record app { top = record app.top { has_version = true } }) new
with_version app old new t is e = (rw e (ap (λ (a : App). record a { top = record a.top { has_version = true } }) is.0), rw e is.1)

-- a command with a text for its help is read as before
module _ (app : App) (old new : Command) (t : Bor (List ℕ)) (is : IsApp app old) where
  pub with_about : out-Command new ≡ record (out-Command old) { about = Some t } → IsApp app new
  with_about e = (rw e is.0, rw e is.1)

  pub with_long_about : out-Command new ≡ record (out-Command old) { long_about = Some t } → IsApp app new
  with_long_about e = (rw e is.0, rw e is.1)

  pub with_after_long_help : out-Command new ≡ record (out-Command old) { after_long_help = Some t } → IsApp app new
  with_after_long_help e = (rw e is.0, rw e is.1)

-- an argument with one more setting
module _ (rule : Rule) (old new : Arg) (is : IsRead rule old) where
  pub with_help : (t : Bor (List ℕ)) → new ≡ record old { help = Some t } → IsRead rule new
  with_help t e = (ap rule_of e ∙ is.0, ap (λ (a : Arg). a.global) e ∙ is.1)

  pub with_long_help : (t : Bor (List ℕ)) → new ≡ record old { long_help = Some t } → IsRead rule new
  with_long_help t e = (ap rule_of e ∙ is.0, ap (λ (a : Arg). a.global) e ∙ is.1)

  pub with_required : new ≡ record old { required = true } → IsRead (record rule { required = true }) new
  with_required e = (ap rule_of e ∙ ap (λ (r : Rule). record r { required = true }) is.0, ap (λ (a : Arg). a.global) e ∙ is.1)

  pub with_long : (t : Bor (List ℕ)) → new ≡ record old { long = Some t } → IsRead (record rule { long = Some t.now }) new
  with_long t e = (ap rule_of e ∙ ap (λ (r : Rule). record r { long = Some t.now }) is.0, ap (λ (a : Arg). a.global) e ∙ is.1)

  pub with_value_name : (t : Bor (List ℕ)) → new ≡ record old { val_names = One t } → IsRead (record rule { value_names = 1 }) new
  with_value_name t e = (ap rule_of e ∙ ap (λ (r : Rule). record r { value_names = 1 }) is.0, ap (λ (a : Arg). a.global) e ∙ is.1)

  pub with_default : (t : Bor (List ℕ)) → new ≡ record old { default_vals = One t } → IsRead (record rule { defaults = t.now ∷ [] }) new
  with_default t e = (ap rule_of e ∙ ap (λ (r : Rule). record r { defaults = t.now ∷ [] }) is.0, ap (λ (a : Arg). a.global) e ∙ is.1)

  pub with_action : (k : ArgAction) → new ≡ record old { action = Some k } → IsRead (record rule { action = Some k }) new
  with_action k e = (ap rule_of e ∙ ap (λ (r : Rule). record r { action = Some k }) is.0, ap (λ (a : Arg). a.global) e ∙ is.1)

  pub with_parser : (p : ValueParser) → new ≡ record old { value_parser = new.value_parser } → new.value_parser ≡ Some p → IsRead (record rule { parser = Some p }) new
  with_parser p e given = (ap rule_of e ∙ ap₂ (λ (r : Rule) q. record r { parser = q }) is.0 given, ap (λ (a : Arg). a.global) e ∙ is.1)
