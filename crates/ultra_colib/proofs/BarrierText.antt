-- the barrier: its text is written for its program
use Rattle.std.proofs.Common.{◌≡◌, ℕ, ◌+◌, ◌<◌, ◌^◌, List, [], ◌∷◌, ◌++◌, drop, codes, decimal, refl, sym, ap, subst, arith, lit≤}
use Rattle.std.proofs.lemmas.Fmt.{decimal_digit}
use Rattle.ultra_asm.specs.{declared.instruction.{Mnemonic.TheVariants.Set, Operand.TheVariants.{Number, Register}}, Words.text_words, Labels.label_pc, ProgramText.{AreInstructions, statements, AreLinesOf, IsProgramText}}
use Rattle.ultra_asm.proofs.Spelled.{operands_back}
use Rattle.ultra_colib.specs.{Barrier.barrier, Texts.{text_of_lines, barrier_lines, barrier_text}}
use Rattle.ultra_colib.proofs.Reading.{Lines, words, words_from, number_line, labels_of}

module _ (rounds : ℕ) (rounds_small : rounds < 2 ^ 32) where
  abbrev lines : List (List ℕ)
  lines = barrier_lines rounds

  -- the text behind line i
  abbrev rest : ℕ → List ℕ
  rest i = text_of_lines (drop (i + 1) lines)

  line_7 : text_words (codes "li r8 " ++ (decimal rounds ++ 10 ∷ rest 7)) ≡ words Set (Register 8 ∷ Number rounds ∷ []) ∷ text_words (rest 7)
  line_7 = number_line Set (Register 8 ∷ Number rounds ∷ []) (codes "li r8 ") rounds (rest 7) (omega arith, (omega arith, tt)) (rw (decimal_digit 8 (omega arith)) refl)

  abbrev all_lines : Lines
  all_lines = words_from 0 7 lines ++ (words Set (Register 8 ∷ Number rounds ∷ []) ∷ text_words (rest 7))

  lines_are : text_words (barrier_text rounds) ≡ all_lines
  lines_are = ap (λ ls. words_from 0 7 lines ++ ls) line_7

  instructions : AreInstructions (label_pc all_lines) (statements all_lines) (barrier rounds)
  instructions = (
    (refl, (refl, tt)),
    (
      (refl, (refl, (refl, (refl, tt)))),
      (
        (refl, (refl, tt)),
        (
          (refl, (refl, (refl, (refl, tt)))),
          (
            (refl, (refl, (refl, tt))),
            (
              (refl, (refl, (refl, (refl, tt)))),
              (
                (refl, (refl, (refl, tt))),
                (
                  (refl, operands_back (label_pc all_lines) (Register 8 ∷ Number rounds ∷ []) (omega arith, (omega arith, tt)) (tt, (tt, tt))),
                  (
                    (refl, (refl, (refl, (refl, tt)))),
                    (
                      (refl, (refl, (refl, tt))),
                      (
                        (refl, tt),
                        (
                          (refl, (refl, (refl, (refl, tt)))),
                          (
                            (refl, tt),
                            (
                              (refl, (refl, (refl, (refl, tt)))),
                              (
                                (refl, (refl, (refl, (refl, tt)))),
                                (
                                  (refl, (refl, (refl, (refl, tt)))),
                                  (
                                    (refl, (refl, (refl, tt))),
                                    (
                                      (refl, tt),
                                      (
                                        (refl, (refl, (refl, (refl, tt)))),
                                        (
                                          (refl, (refl, (refl, tt))),
                                          (
                                            (refl, (refl, (refl, tt))),
                                            (
                                              (refl, tt),
                                              (
                                                (refl, (refl, (refl, (refl, tt)))),
                                                (
                                                  (refl, (refl, (refl, tt))),
                                                  (
                                                    (refl, tt),
                                                    tt,
                                                  ),
                                                ),
                                              ),
                                            ),
                                          ),
                                        ),
                                      ),
                                    ),
                                  ),
                                ),
                              ),
                            ),
                          ),
                        ),
                      ),
                    ),
                  ),
                ),
              ),
            ),
          ),
        ),
      ),
    ),
  )

  pub reads : IsProgramText (barrier_text rounds) (barrier rounds)
  reads = subst (λ (ls : Lines). AreLinesOf ls (barrier rounds)) (sym lines_are) record { labels = labels_of all_lines refl; instructions = instructions; short = lit≤ tt }
