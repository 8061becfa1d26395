-- the instruction's words
use Rattle.std.proofs.Common.{◌∙◌}
use Rattle.std.proofs.Common.{ap}
use Rattle.ultra_asm.specs.{Instruction.mnemonic_word, Listing.operands_text}
use Rattle.ultra_io.proofs.Writing.{◌then◌}
use Rattle.ultra_asm.proofs.canonical.put_instruction.Goals as goal

pub returns : goal.returns
returns g c =
    let word = rw (c.word.ensures ∙ ap mnemonic_word c.mnemonic_of-mnemonic.ensures) at c.put.ensures in
    let operands = rw (c.as_slice.ensures ∙ c.operands_of-operands.ensures) at c.put_operands.ensures in
    word then operands
