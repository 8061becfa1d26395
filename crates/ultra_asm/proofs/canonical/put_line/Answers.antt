use Rattle.std.proofs.Common.{append_assoc, sym}
use Rattle.ultra_asm.specs.{Instruction.{mnemonic_word, mnemonic_of, operands_of}, Listing.{newline, operands_text}}
use Rattle.ultra_io.proofs.Writing.{◌then◌}
use Rattle.ultra_asm.proofs.canonical.put_line.Goals as goal

pub returns : goal.returns
returns g c =
    let i = c.args.instruction in
    rw (append_assoc (mnemonic_word (mnemonic_of i)) (operands_text (operands_of i)) newline) at (c.put_instruction.ensures then c.put.ensures)
