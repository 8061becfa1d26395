-- the words `--help` and `--version`
use Rattle.std.proofs.Common.{◌∙◌, ◌≡◌, ◌≢◌, ◌⊎◌, ap, inl, inr, subst, sym, List, [], ◌∷◌, codes, refl}
use Rattle.clap.specs.{Words.{Text, fault_of, IsAmong}, declared.error.ErrorKind.ErrorKind}
use Rattle.clap.proofs.OnLiterals.{clap_on_literals}
use Rattle.clap.specs.declared.error.ErrorKind.TheVariants as kind
use Rattle.ultra_command_line.specs.declared.Parsed.{Parsed}
use Rattle.ultra_command_line.specs.declared.Parsed.TheVariants as parsed
use Rattle.ultra_command_line.specs.Answer.{AreOnly, IsAskedBy, IsFault, IsHelp, IsTextOfKind, IsVersion}
use Rattle.ultra_args.specs.Grammar.{ultra_app}

help_fault : (name : Text) → fault_of ultra_app (name ∷ codes "--help" ∷ []) ≡ kind.DisplayHelp ∷ []
unfolding clap_on_literals ultra_app
help_fault name = refl

version_fault : (name : Text) → fault_of ultra_app (name ∷ codes "--version" ∷ []) ≡ kind.DisplayVersion ∷ []
unfolding clap_on_literals ultra_app
version_fault name = refl

-- words that have one fault
module _ (words : List Text) (only : ErrorKind) (is : fault_of ultra_app words ≡ only ∷ []) where
  some_fault : ¬ (fault_of ultra_app words ≡ [])
  some_fault none =
      let bad : [] ≡ only ∷ [] = sym none ∙ is in
      cc

  same_kind : (k : ErrorKind) → IsFault words k → k ≡ only
  same_kind k (inr rest) = absurd (some_fault rest.1)
  same_kind k (inl among) = first (subst (IsAmong k) is among)
    where
      first : IsAmong k (only ∷ []) → k ≡ only
      first (inl e) = e
      first (inr none) = absurd none

pub help_alone : (words : List Text) (p : Parsed) → IsAskedBy words p → AreOnly words (codes "--help") → IsHelp p
help_alone words p by are = go p by
  where
    is : fault_of ultra_app words ≡ kind.DisplayHelp ∷ []
    is = ap (fault_of ultra_app) are.1 ∙ help_fault are.0

    go : (p : Parsed) → IsAskedBy words p → IsHelp p
    go (parsed.Invocation c) h = some_fault words _ is h.0
    go (parsed.Help text) h = tt
    go (parsed.Version text) h =
        let bad : kind.DisplayVersion ≡ kind.DisplayHelp = same_kind words _ is _ h in
        cc
    go (parsed.Usage text) h = h.2 (same_kind words _ is h.0 h.1)
    go parsed.NoMemory h = tt

pub version_alone : (words : List Text) (p : Parsed) → IsAskedBy words p → AreOnly words (codes "--version") → IsVersion p
version_alone words p by are = go p by
  where
    is : fault_of ultra_app words ≡ kind.DisplayVersion ∷ []
    is = ap (fault_of ultra_app) are.1 ∙ version_fault are.0

    go : (p : Parsed) → IsAskedBy words p → IsVersion p
    go (parsed.Invocation c) h = some_fault words _ is h.0
    go (parsed.Help text) h =
        let bad : kind.DisplayHelp ≡ kind.DisplayVersion = same_kind words _ is _ h in
        cc
    go (parsed.Version text) h = tt
    go (parsed.Usage text) h = h.3 (same_kind words _ is h.0 h.1)
    go parsed.NoMemory h = tt

-- the text of an error of kind k is what its words ask for
pub text_asked : (words : List Text) (j k : ErrorKind) (p : Parsed) → j ≡ k → (k ≡ kind.OutOfMemory) ⊎ IsFault words k → k ≢ kind.OutOfMemory → IsTextOfKind j p → IsAskedBy words p
text_asked words j k p same (inl full) other is = absurd (other full)
text_asked words j k p same (inr fault) other is = go p is
  where
    here : IsFault words j
    here = subst (IsFault words) (sym same) fault

    go : (p : Parsed) → IsTextOfKind j p → IsAskedBy words p
    go (parsed.Invocation c) e = absurd e
    go (parsed.Help text) e = subst (IsFault words) e here
    go (parsed.Version text) e = subst (IsFault words) e here
    go (parsed.Usage text) e = (j, here, e.0, e.1)
    go parsed.NoMemory e = absurd e
