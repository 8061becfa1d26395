-- a command with the next argument of its row, and the program with the next command
use Rattle.std.proofs.Common.{◌≡◌, ℕ, ◌+◌, ◌<◌, Bool, true, false, List, [], ◌∷◌, Some, cond, length, get_or, map, option_map, take, refl, sym, subst}
use Rattle.std.specs.{Prelude.find, Str.bytes_eq}
use Rattle.std.proofs.lemmas.List.Sums.{fold_more}
use Rattle.clap.specs.Words.{AddsArg, AddsSubcommand, App, Text, with_rule, with_subcommand}
use Rattle.clap.specs.declared.builder.{Arg.Arg, Command.Command}
use Rattle.ultra_args.specs.{Asked.command_among, declared.table.{Argument.Argument, CommandName.CommandName, CommandRow.CommandRow}}
use Rattle.ultra_args.specs.Grammar.{app_in, program_app, program_in, rule_in, with_arguments, IsApp, IsRead}
use Rattle.ultra_args.proofs.Building.{with_argument, with_command}

module _ {T : Type 0} (text : T → Text) where
  pub next_argument : (start : App) (xs : List (Argument T)) (k : ℕ) (d : Argument T) (old : Command) (a : Arg) (new : Command) → k < length xs → IsApp (with_arguments text start (take k xs)) old → IsRead (rule_in text (get_or xs k d)) a → AddsArg old a new → IsApp (with_arguments text start (take (k + 1) xs)) new
  next_argument start xs k d old a new lt is read added =
      subst (λ app. IsApp app new) (sym (fold_more (λ app a. with_rule app (rule_in text a)) start xs k d lt)) (with_argument (with_arguments text start (take k xs)) (rule_in text (get_or xs k d)) old a new is read added)

  pub next_command : {R : Type 0} (arguments : R → List (Argument T)) (rows : List (CommandRow T R)) (k : ℕ) (d : CommandRow T R) (old c new : Command) → k < length rows → IsApp (program_in text arguments (take k rows)) old → IsApp (app_in text arguments (get_or rows k d)) c → AddsSubcommand old c new → IsApp (program_in text arguments (take (k + 1) rows)) new
  next_command arguments rows k d old c new lt is named added =
      subst (λ app. IsApp app new) (sym (fold_more (λ app row. with_subcommand app (app_in text arguments row).top) program_app rows k d lt)) (with_command (program_in text arguments (take k rows)) (app_in text arguments (get_or rows k d)) old c new is named added)

  -- a command is found by the names and the commands of the rows alone
  pub by_names : {R : Type 0} (rows : List (CommandRow T R)) (word : Text) → command_among text rows word ≡ option_map (λ (p : Text × CommandName). p.1) (find (λ (p : Text × CommandName). bytes_eq p.0 word) (map (λ row. (text row.name, row.command)) rows))
  unfolding command_among
  by_names [] word = refl
  by_names (row ∷ rows) word = step (bytes_eq (text row.name) word) (by_names rows word)
    where
      step : (b : Bool) → command_among text rows word ≡ option_map (λ (p : Text × CommandName). p.1) (find (λ (p : Text × CommandName). bytes_eq p.0 word) (map (λ row. (text row.name, row.command)) rows)) → option_map (λ row. row.command) (cond b (Some row) (find (λ row. bytes_eq (text row.name) word) rows)) ≡ option_map (λ (p : Text × CommandName). p.1) (cond b (Some (text row.name, row.command)) (find (λ (p : Text × CommandName). bytes_eq p.0 word) (map (λ row. (text row.name, row.command)) rows)))
      step true rest = refl
      step false rest = rest
