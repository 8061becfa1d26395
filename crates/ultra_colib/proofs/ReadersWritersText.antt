-- readers and writers: its text is written for its program
use Rattle.std.proofs.Common.{◌≡◌, ℕ, ◌+◌, ◌<◌, ◌^◌, List, [], ◌∷◌, ◌++◌, drop, codes, decimal, refl, sym, ◌∙◌, ap, subst, arith, lit≤}
use Rattle.std.proofs.lemmas.Fmt.{decimal_digit}
use Rattle.ultra_asm.specs.{declared.instruction.{Mnemonic.TheVariants.Set, Operand.TheVariants.{Number, Register}}, Words.text_words, Labels.label_pc, ProgramText.{AreInstructions, statements, AreLinesOf, IsProgramText}}
use Rattle.ultra_asm.proofs.Spelled.{operands_back}
use Rattle.ultra_colib.specs.{ReadersWriters.readers_writers, Texts.{text_of_lines, rw_lines, rw_text}}
use Rattle.ultra_colib.proofs.Reading.{Lines, words, words_from, number_line, labels_of}

module _ (writers : ℕ) (writers_small : writers < 2 ^ 32) (rounds : ℕ) (rounds_small : rounds < 2 ^ 32) where
  abbrev lines : List (List ℕ)
  lines = rw_lines writers rounds

  -- the text behind line i
  abbrev rest : ℕ → List ℕ
  rest i = text_of_lines (drop (i + 1) lines)

  line_4 : text_words (codes "li r5 " ++ (decimal rounds ++ 10 ∷ rest 4)) ≡ words Set (Register 5 ∷ Number rounds ∷ []) ∷ text_words (rest 4)
  line_4 = number_line Set (Register 5 ∷ Number rounds ∷ []) (codes "li r5 ") rounds (rest 4) (omega arith, (omega arith, tt)) (rw (decimal_digit 5 (omega arith)) refl)

  line_5 : text_words (codes "li r6 " ++ (decimal writers ++ 10 ∷ rest 5)) ≡ words Set (Register 6 ∷ Number writers ∷ []) ∷ text_words (rest 5)
  line_5 = number_line Set (Register 6 ∷ Number writers ∷ []) (codes "li r6 ") writers (rest 5) (omega arith, (omega arith, tt)) (rw (decimal_digit 6 (omega arith)) refl)

  abbrev all_lines : Lines
  all_lines = words_from 0 4 lines ++ (words Set (Register 5 ∷ Number rounds ∷ []) ∷ (words Set (Register 6 ∷ Number writers ∷ []) ∷ text_words (rest 5)))

  lines_are : text_words (rw_text writers rounds) ≡ all_lines
  lines_are = ap (λ ls. words_from 0 4 lines ++ ls) (line_4 ∙ ap (λ ls. words Set (Register 5 ∷ Number rounds ∷ []) ∷ ls) (line_5))

  instructions : AreInstructions (label_pc all_lines) (statements all_lines) (readers_writers writers rounds)
  instructions = (
    (refl, (refl, tt)),
    (
      (refl, (refl, (refl, (refl, tt)))),
      (
        (refl, (refl, (refl, tt))),
        (
          (refl, (refl, (refl, tt))),
          (
            (refl, operands_back (label_pc all_lines) (Register 5 ∷ Number rounds ∷ []) (omega arith, (omega arith, tt)) (tt, (tt, tt))),
            (
              (refl, operands_back (label_pc all_lines) (Register 6 ∷ Number writers ∷ []) (omega arith, (omega arith, tt)) (tt, (tt, tt))),
              (
                (refl, (refl, (refl, tt))),
                (
                  (refl, (refl, (refl, tt))),
                  (
                    (refl, (refl, (refl, (refl, tt)))),
                    (
                      (refl, (refl, (refl, (refl, tt)))),
                      (
                        (refl, (refl, (refl, tt))),
                        (
                          (refl, (refl, (refl, (refl, tt)))),
                          (
                            (refl, tt),
                            (
                              (refl, (refl, (refl, (refl, tt)))),
                              (
                                (refl, (refl, (refl, tt))),
                                (
                                  (refl, (refl, (refl, (refl, tt)))),
                                  (
                                    (refl, tt),
                                    (
                                      (refl, (refl, tt)),
                                      (
                                        (refl, (refl, (refl, tt))),
                                        (
                                          (refl, tt),
                                          (
                                            (refl, (refl, (refl, tt))),
                                            (
                                              (refl, tt),
                                              (
                                                (refl, (refl, (refl, (refl, tt)))),
                                                (
                                                  (refl, tt),
                                                  (
                                                    (refl, (refl, (refl, (refl, tt)))),
                                                    (
                                                      (refl, (refl, (refl, tt))),
                                                      (
                                                        (refl, tt),
                                                        (
                                                          (refl, (refl, (refl, (refl, tt)))),
                                                          (
                                                            (refl, tt),
                                                            (
                                                              (refl, (refl, (refl, tt))),
                                                              (
                                                                (refl, (refl, (refl, (refl, tt)))),
                                                                (
                                                                  (refl, tt),
                                                                  (
                                                                    (refl, (refl, tt)),
                                                                    (
                                                                      (refl, (refl, (refl, tt))),
                                                                      (
                                                                        (refl, tt),
                                                                        (
                                                                          (refl, (refl, (refl, tt))),
                                                                          (
                                                                            (refl, tt),
                                                                            (
                                                                              (refl, (refl, (refl, (refl, tt)))),
                                                                              (
                                                                                (refl, tt),
                                                                                (
                                                                                  (refl, (refl, (refl, (refl, tt)))),
                                                                                  (
                                                                                    (refl, (refl, (refl, tt))),
                                                                                    (
                                                                                      (refl, tt),
                                                                                      tt,
                                                                                    ),
                                                                                  ),
                                                                                ),
                                                                              ),
                                                                            ),
                                                                          ),
                                                                        ),
                                                                      ),
                                                                    ),
                                                                  ),
                                                                ),
                                                              ),
                                                            ),
                                                          ),
                                                        ),
                                                      ),
                                                    ),
                                                  ),
                                                ),
                                              ),
                                            ),
                                          ),
                                        ),
                                      ),
                                    ),
                                  ),
                                ),
                              ),
                            ),
                          ),
                        ),
                      ),
                    ),
                  ),
                ),
              ),
            ),
          ),
        ),
      ),
    ),
  )

  pub reads : IsProgramText (rw_text writers rounds) (readers_writers writers rounds)
  reads = subst (λ (ls : Lines). AreLinesOf ls (readers_writers writers rounds)) (sym lines_are) record { labels = labels_of all_lines refl; instructions = instructions; short = lit≤ tt }
