-- the gate: its text is written for its program
use Rattle.std.proofs.Common.{◌≡◌, ℕ, ◌+◌, ◌<◌, ◌^◌, List, [], ◌∷◌, ◌++◌, drop, codes, decimal, refl, sym, ◌∙◌, ap, subst, arith, lit≤}
use Rattle.std.proofs.lemmas.Fmt.{decimal_digit}
use Rattle.ultra_asm.specs.{declared.instruction.{Mnemonic.TheVariants.Set, Operand.TheVariants.{Number, Register}}, Words.text_words, Labels.label_pc, ProgramText.{AreInstructions, statements, AreLinesOf, IsProgramText}}
use Rattle.ultra_asm.proofs.Spelled.{operands_back}
use Rattle.ultra_colib.specs.{Gate.gate, Texts.{text_of_lines, gate_lines, gate_text}}
use Rattle.ultra_colib.proofs.Reading.{Lines, words, words_from, number_line, labels_of}

module _ (bound : ℕ) (bound_small : bound < 2 ^ 32) (rounds : ℕ) (rounds_small : rounds < 2 ^ 32) where
  abbrev lines : List (List ℕ)
  lines = gate_lines bound rounds

  -- the text behind line i
  abbrev rest : ℕ → List ℕ
  rest i = text_of_lines (drop (i + 1) lines)

  line_3 : text_words (codes "li r4 " ++ (decimal bound ++ 10 ∷ rest 3)) ≡ words Set (Register 4 ∷ Number bound ∷ []) ∷ text_words (rest 3)
  line_3 = number_line Set (Register 4 ∷ Number bound ∷ []) (codes "li r4 ") bound (rest 3) (omega arith, (omega arith, tt)) (rw (decimal_digit 4 (omega arith)) refl)

  line_4 : text_words (codes "li r5 " ++ (decimal rounds ++ 10 ∷ rest 4)) ≡ words Set (Register 5 ∷ Number rounds ∷ []) ∷ text_words (rest 4)
  line_4 = number_line Set (Register 5 ∷ Number rounds ∷ []) (codes "li r5 ") rounds (rest 4) (omega arith, (omega arith, tt)) (rw (decimal_digit 5 (omega arith)) refl)

  abbrev all_lines : Lines
  all_lines = words_from 0 3 lines ++ (words Set (Register 4 ∷ Number bound ∷ []) ∷ (words Set (Register 5 ∷ Number rounds ∷ []) ∷ text_words (rest 4)))

  lines_are : text_words (gate_text bound rounds) ≡ all_lines
  lines_are = ap (λ ls. words_from 0 3 lines ++ ls) (line_3 ∙ ap (λ ls. words Set (Register 4 ∷ Number bound ∷ []) ∷ ls) (line_4))

  instructions : AreInstructions (label_pc all_lines) (statements all_lines) (gate bound rounds)
  instructions = (
    (refl, (refl, tt)),
    (
      (refl, (refl, (refl, (refl, tt)))),
      (
        (refl, (refl, (refl, tt))),
        (
          (refl, operands_back (label_pc all_lines) (Register 4 ∷ Number bound ∷ []) (omega arith, (omega arith, tt)) (tt, (tt, tt))),
          (
            (refl, operands_back (label_pc all_lines) (Register 5 ∷ Number rounds ∷ []) (omega arith, (omega arith, tt)) (tt, (tt, tt))),
            (
              (refl, (refl, (refl, tt))),
              (
                (refl, (refl, (refl, tt))),
                (
                  (refl, tt),
                  (
                    (refl, (refl, (refl, (refl, tt)))),
                    (
                      (refl, (refl, (refl, tt))),
                      (
                        (refl, (refl, (refl, (refl, tt)))),
                        (
                          (refl, tt),
                          (
                            (refl, (refl, (refl, (refl, tt)))),
                            (
                              (refl, (refl, (refl, tt))),
                              (
                                (refl, (refl, (refl, (refl, tt)))),
                                (
                                  (refl, tt),
                                  (
                                    (refl, (refl, tt)),
                                    (
                                      (refl, (refl, (refl, tt))),
                                      (
                                        (refl, tt),
                                        (
                                          (refl, (refl, (refl, tt))),
                                          (
                                            (refl, tt),
                                            (
                                              (refl, (refl, (refl, (refl, tt)))),
                                              (
                                                (refl, tt),
                                                (
                                                  (refl, (refl, (refl, (refl, tt)))),
                                                  (
                                                    (refl, (refl, (refl, tt))),
                                                    (
                                                      (refl, tt),
                                                      tt,
                                                    ),
                                                  ),
                                                ),
                                              ),
                                            ),
                                          ),
                                        ),
                                      ),
                                    ),
                                  ),
                                ),
                              ),
                            ),
                          ),
                        ),
                      ),
                    ),
                  ),
                ),
              ),
            ),
          ),
        ),
      ),
    ),
  )

  pub reads : IsProgramText (gate_text bound rounds) (gate bound rounds)
  reads = subst (λ (ls : Lines). AreLinesOf ls (gate bound rounds)) (sym lines_are) record { labels = labels_of all_lines refl; instructions = instructions; short = lit≤ tt }
