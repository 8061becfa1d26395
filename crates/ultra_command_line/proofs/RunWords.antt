-- the words of a run of two paths
use Rattle.std.proofs.Common.{◌∙◌, ◌≡◌, ap, inl, inr, subst, sym, false, List, [], ◌∷◌, Some, None, codes, refl}
use Rattle.std.proofs.lemmas.{Bool.ne_eqb, Option.same_Some}
use Rattle.std.specs.{Prelude.◌==◌, Str.bytes_eq}
use Rattle.clap.specs.{Lexer.{long_of, short_of}, Words.{Row, Text, fault_of, subcommand_of, IsAmong}, declared.{parser.matches.ValueSource.{ValueSource, TheVariants.{CommandLine, DefaultValue}}, builder.value_parser.Reading.TheVariants.AsWritten, error.ErrorKind.ErrorKind}}
use Rattle.clap.proofs.OnLiterals.{clap_on_literals}
use Rattle.ultra_command_line.specs.{declared.Parsed.Parsed, Answer.{AreRunOf, IsAskedBy, IsFault, IsPath, IsRunOf}}
use Rattle.ultra_command_line.specs.declared.Parsed.TheVariants as parsed
use Rattle.ultra_args.specs.Asked.{Asked, asked, command_among, command_named, named_in, run}
use Rattle.ultra_args.specs.{declared.LineFilter.TheVariants.All, Grammar.ultra_app}

-- a word that begins with no hyphen is no flag
record IsPlainWord (t : Text) : Type 0 where
  trailing : bytes_eq t (45 ∷ 45 ∷ []) ≡ false
  long : long_of t ≡ None
  short : short_of t ≡ None

plain_word : (t : Text) → IsPath t → IsPlainWord t
plain_word [] path = record { trailing = refl; long = refl; short = refl }
plain_word (c ∷ cs) path =
    let other : (c == 45) ≡ false = ne_eqb _ _ path in
    record { trailing = rw other refl; long = rw other refl; short = rw other refl }

pub run_words : (name conf prog : Text) → IsPath conf → IsPath prog → fault_of ultra_app (name ∷ codes "run" ∷ conf ∷ prog ∷ []) ≡ []
unfolding clap_on_literals ultra_app
run_words name conf prog a b =
    let c = plain_word conf a in
    let p = plain_word prog b in
    rw (c.trailing, c.long, c.short, p.trailing, p.long, p.short) refl

unfoldable found : Text → Text → ValueSource → Row
found id value source = record {
  id = id;
  values = value ∷ [];
  count = None;
  source = Some source;
  reading = AsWritten;
}

unfoldable run_rows : Text → Text → List Row
run_rows conf prog =
    found (codes "CONF") conf CommandLine ∷ found (codes "PROG") prog CommandLine
    ∷ found (codes "workers") (codes "1") DefaultValue ∷ found (codes "from") (codes "0") DefaultValue
    ∷ found (codes "to") (codes "1000000") DefaultValue ∷ found (codes "only") (codes "all") DefaultValue ∷ []

rows_found : (name conf prog : Text) → IsPath conf → IsPath prog → subcommand_of ultra_app (name ∷ codes "run" ∷ conf ∷ prog ∷ []) ≡ Some (codes "run", run_rows conf prog)
unfolding clap_on_literals ultra_app run_rows found
rows_found name conf prog a b =
    let c = plain_word conf a in
    let p = plain_word prog b in
    rw (c.trailing, c.long, c.short, p.trailing, p.long, p.short) refl

run_named : (conf prog : Text) → named_in (Some (codes "run", run_rows conf prog)) ≡ Some (run conf prog 1 0 1000000 All)
unfolding command_named command_among run_rows found
run_named conf prog = refl

pub run_asked : (name conf prog : Text) → IsPath conf → IsPath prog → asked (name ∷ codes "run" ∷ conf ∷ prog ∷ []) ≡ Some (run conf prog 1 0 1000000 All)
run_asked name conf prog a b = ap named_in (rows_found name conf prog a b) ∙ run_named conf prog

-- words that ask for something have no fault
no_fault : (words : List Text) (a : Asked) (k : ErrorKind) → fault_of ultra_app words ≡ [] → asked words ≡ Some a → ¬ IsFault words k
no_fault words a k none is (inl among) = subst (IsAmong k) none among
no_fault words a k none is (inr rest) =
    let bad : None ≡ Some a = sym rest.2 ∙ is in
    cc

-- two paths after `run` are a run of them
pub run_of_paths : (words : List Text) (p : Parsed) → IsAskedBy words p → (conf prog : Text) → AreRunOf words conf prog → IsRunOf conf prog p
run_of_paths words p by conf prog are = go p by
  where
    none : fault_of ultra_app words ≡ []
    none = ap (fault_of ultra_app) are.1 ∙ run_words are.0 conf prog are.2 are.3

    is : asked words ≡ Some (run conf prog 1 0 1000000 All)
    is = ap asked are.1 ∙ run_asked are.0 conf prog are.2 are.3

    go : (p : Parsed) → IsAskedBy words p → IsRunOf conf prog p
    go (parsed.Invocation c) h = same_Some _ _ (sym h.1 ∙ is)
    go (parsed.Help text) h = no_fault words _ _ none is h
    go (parsed.Version text) h = no_fault words _ _ none is h
    go (parsed.Usage text) h = no_fault words _ h.0 none is h.1
    go parsed.NoMemory h = tt
