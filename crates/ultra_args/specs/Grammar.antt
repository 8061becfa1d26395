-- the commands and their arguments, as `clap` knows them
use Rattle.std.specs.Prelude.{◌≡◌, false, true, None, Option, Some, List, [], ◌∷◌, codes, fold}
use Rattle.clap.specs.Words.{App, Rule, Text, app_of, new_app, new_rule, rule_of, with_rule, with_subcommand}
use Rattle.clap.specs.declared.builder.{Arg.Arg, Command.{Command, TheViews.out-Command}, ArgAction.TheVariants.{Append, SetTrue}, ValueParser.ValueParser}
use Rattle.clap.specs.declared.builder.ValueParser.TheVariants as vp
use Rattle.ultra_args.specs.declared.table.{Argument.Argument, ArgumentKind.ArgumentKind, CommandRow.CommandRow, Presence.{Presence, TheVariants.{Required, Optional, Default}}, TheConstants.COMMANDS}
use Rattle.ultra_args.specs.declared.table.ArgumentKind.TheVariants as kind

-- a program that has a version, and that a command has to be named for
abbrev pub program_app : App
program_app =
    let new = new_app (codes "ultra") in
    record new { top = record new.top { has_version = true; subcommand_required = true } }

-- the option of this name with a value, which a parser accepts if there is one
abbrev pub option_rule : Text → Option ValueParser → Rule
option_rule name parser = record (new_rule name) {
  long = Some name;
  value_names = 1;
  parser = parser;
}

-- A reference in a constant has another type than one in code. T is the type of a reference to a
-- text, and R that of one to the arguments of a command
module _ {T : Type 0} (text : T → Text) where
  -- how an argument of this name and kind is read
  abbrev pub kind_rule : Text → ArgumentKind T → Rule
  kind_rule name kind.Text = new_rule name
  kind_rule name kind.Numbers =
      record (new_rule name) { parser = Some (vp.Unsigned 0 4294967295); action = Some Append }
  kind_rule name (kind.Number number least most) = option_rule name (Some (vp.Unsigned least most))
  kind_rule name (kind.Word word) = option_rule name None
  kind_rule name kind.Flag = record (new_rule name) { long = Some name; action = Some SetTrue }

  -- what holds where it isn't given
  abbrev pub with_presence : Presence T → Rule → Rule
  with_presence Required rule = record rule { required = true }
  with_presence Optional rule = rule
  with_presence (Default value) rule = record rule { defaults = text value ∷ [] }

  abbrev pub rule_in : Argument T → Rule
  rule_in a = with_presence a.presence (kind_rule (text a.name) a.kind)

  abbrev pub with_arguments : App → List (Argument T) → App
  with_arguments = fold (λ app a. with_rule app (rule_in a))

  module _ {R : Type 0} (arguments : R → List (Argument T)) where
    -- the command of a row
    abbrev pub app_in : CommandRow T R → App
    app_in row = with_arguments (new_app (text row.name)) (arguments row.arguments)

    -- the program with these commands
    abbrev pub program_in : List (CommandRow T R) → App
    program_in = fold (λ app row. with_subcommand app (app_in row).top) program_app

-- the command line of the program
unfoldable pub ultra_app : App
ultra_app = program_in (λ t. t.now) (λ r. r.now) COMMANDS

-- the argument is read by this rule
abbrev pub IsRead : Rule → Arg → Type 0
IsRead rule a = (rule_of a ≡ rule) × (a.global ≡ false)

-- the command is this one to a reader of arguments
abbrev pub IsApp : App → Command → Type 0
IsApp app c = (app_of c ≡ app) × ((out-Command c).has_globals ≡ false)
