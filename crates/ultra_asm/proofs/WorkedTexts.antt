-- texts with their programs and their faults, computed from the definitions
use Rattle.std.proofs.Common.{◌≡◌, ℕ, zero, suc, ◌<◌, [], ◌∷◌, codes, Some, None, refl, arith, lit≤}
use Rattle.ultra_isa.specs.declared.Instr.TheVariants as instr
use Rattle.ultra_asm.specs.declared.AsmFaultKind.TheVariants.{UnknownWord, BadRegister, BadNumber, UnknownLabel, DoubleLabel, WrongOperands}
use Rattle.ultra_asm.specs.{Words.text_words, ProgramText.{line_at, IsLabelled, line_fault, IsProgramText}}

words : text_words (codes "x:,li r1\t007 # seven\n\n;x") ≡ (codes "x:" ∷ codes "li" ∷ codes "r1" ∷ codes "007" ∷ []) ∷ [] ∷ [] ∷ []
words = refl

-- ---- programs
seven_labelled : (k : ℕ) → k < 1 → IsLabelled (text_words (codes "li r1 007 # seven")) k (line_at (text_words (codes "li r1 007 # seven")) k)
seven_labelled zero lt = tt
seven_labelled (suc k) lt = absurd (omega arith)

seven : IsProgramText (codes "li r1 007 # seven") (instr.Set 1 7 ∷ [])
seven = record { labels = seven_labelled; instructions = ((refl, (refl, (refl, tt))), tt); short = lit≤ tt }

end_labelled : (k : ℕ) → k < 2 → IsLabelled (text_words (codes "jmp end\nend:")) k (line_at (text_words (codes "jmp end\nend:")) k)
end_labelled zero lt = tt
end_labelled (suc zero) lt = (refl, refl)
end_labelled (suc (suc k)) lt = absurd (omega arith)

jump_to_end : IsProgramText (codes "jmp end\nend:") (instr.Jump 1 ∷ [])
jump_to_end = record { labels = end_labelled; instructions = ((refl, (refl, tt)), tt); short = lit≤ tt }

-- ---- faults
second_label : line_fault (text_words (codes "x: x: halt")) 0 ≡ Some UnknownWord
second_label = refl

no_name : line_fault (text_words (codes "9x:")) 0 ≡ Some UnknownWord
no_name = refl

no_label : line_fault (text_words (codes "jmp q\nfoo")) 0 ≡ Some UnknownLabel
no_label = refl

label_of_faulty_line : line_fault (text_words (codes "jmp q\nq: foo")) 0 ≡ None
label_of_faulty_line = refl

faulty_line : line_fault (text_words (codes "jmp q\nq: foo")) 1 ≡ Some UnknownWord
faulty_line = refl

label_twice : line_fault (text_words (codes "a:\nhalt\na: foo")) 2 ≡ Some DoubleLabel
label_twice = refl

leading_zero : line_fault (text_words (codes "li r00 1")) 0 ≡ Some BadRegister
leading_zero = refl

register_first : line_fault (text_words (codes "jnz 5 a")) 0 ≡ Some BadRegister
register_first = refl

too_large : line_fault (text_words (codes "li r1 4294967296")) 0 ≡ Some BadNumber
too_large = refl

too_far : line_fault (text_words (codes "shr r1 r1 32")) 0 ≡ Some BadNumber
too_far = refl

too_few : line_fault (text_words (codes "add r1 x")) 0 ≡ Some WrongOperands
too_few = refl
