use Rattle.std.proofs.{Common.{◌∙◌, rules, tests}, lemmas.Iterator.{YieldsList-from_slice, Search.find_from_yields_List}}
use Rattle.std.specs.Str.{bytes_eq}
use Rattle.ultra_asm.specs.Instruction.{mnemonic_word}
use Rattle.ultra_asm.proofs.instruction.Mnemonic.first_named.Goals as goal

pub returns : goal.returns
returns c = c.copied.ensures ∙ find_from_yields_List (λ m. bytes_eq (mnemonic_word m) c.args.word.now) _ _ c.find.result c.find.ensures.ran (YieldsList-from_slice c.args.list.now (cc)) (λ x b q k. search (rules, tests))
