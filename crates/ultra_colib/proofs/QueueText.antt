-- the queue: its text is written for its program
use Rattle.std.proofs.Common.{◌≡◌, ℕ, ◌+◌, ◌-◌, ◌*◌, ◌<◌, ◌≤◌, ◌^◌, List, [], ◌∷◌, ◌++◌, drop, codes, decimal, refl, sym, ◌∙◌, ap, subst, arith, lit≤}
use Rattle.std.proofs.{lemmas.Fmt.decimal_digit, Math.Pow.pow_mono}
use Rattle.ultra_asm.specs.{declared.instruction.{Mnemonic.TheVariants.{AddWord, Set, ShiftRight}, Operand.TheVariants.{Bits, Number, Register}}, Words.text_words, Labels.label_pc, ProgramText.{AreInstructions, statements, AreLinesOf, IsProgramText}}
use Rattle.ultra_asm.proofs.Spelled.{operands_back}
use Rattle.ultra_colib.specs.{Queue.queue, Texts.{text_of_lines, queue_lines, queue_text}}
use Rattle.ultra_colib.proofs.Reading.{Lines, words, words_from, number_line, decimal_eleven, labels_of}

module _ (z : ℕ) (z_small : z ≤ 6) (rounds : ℕ) (rounds_small : rounds < 2 ^ 32) where
  places_small : 2 ^ z ≤ 64
  places_small = pow_mono z_small

  abbrev lines : List (List ℕ)
  lines = queue_lines z rounds (2 ^ z) (2 ^ z - 1) (8 + 2 ^ z) (7 + 2 * 2 ^ z)

  -- the text behind line i
  abbrev rest : ℕ → List ℕ
  rest i = text_of_lines (drop (i + 1) lines)

  line_4 : text_words (codes "li r4 " ++ (decimal (2 ^ z) ++ 10 ∷ rest 4)) ≡ words Set (Register 4 ∷ Number (2 ^ z) ∷ []) ∷ text_words (rest 4)
  line_4 = number_line Set (Register 4 ∷ Number (2 ^ z) ∷ []) (codes "li r4 ") (2 ^ z) (rest 4) (let few = places_small in (omega arith, (omega arith, tt))) (rw (decimal_digit 4 (omega arith)) refl)

  line_5 : text_words (codes "li r5 " ++ (decimal rounds ++ 10 ∷ rest 5)) ≡ words Set (Register 5 ∷ Number rounds ∷ []) ∷ text_words (rest 5)
  line_5 = number_line Set (Register 5 ∷ Number rounds ∷ []) (codes "li r5 ") rounds (rest 5) (let few = places_small in (omega arith, (omega arith, tt))) (rw (decimal_digit 5 (omega arith)) refl)

  line_24 : text_words (codes "shr r8 r7 " ++ (decimal z ++ 10 ∷ rest 24)) ≡ words ShiftRight (Register 8 ∷ Register 7 ∷ Bits z ∷ []) ∷ text_words (rest 24)
  line_24 = number_line ShiftRight (Register 8 ∷ Register 7 ∷ Bits z ∷ []) (codes "shr r8 r7 ") z (rest 24) (let few = places_small in (omega arith, (omega arith, (omega arith, tt)))) (rw (decimal_digit 8 (omega arith), decimal_digit 7 (omega arith)) refl)

  line_26 : text_words (codes "li r9 " ++ (decimal (2 ^ z - 1) ++ 10 ∷ rest 26)) ≡ words Set (Register 9 ∷ Number (2 ^ z - 1) ∷ []) ∷ text_words (rest 26)
  line_26 = number_line Set (Register 9 ∷ Number (2 ^ z - 1) ∷ []) (codes "li r9 ") (2 ^ z - 1) (rest 26) (let few = places_small in (omega arith, (omega arith, tt))) (rw (decimal_digit 9 (omega arith)) refl)

  line_29 : text_words (codes "addi r11 r9 " ++ (decimal (8 + 2 ^ z) ++ 10 ∷ rest 29)) ≡ words AddWord (Register 11 ∷ Register 9 ∷ Number (8 + 2 ^ z) ∷ []) ∷ text_words (rest 29)
  line_29 = number_line AddWord (Register 11 ∷ Register 9 ∷ Number (8 + 2 ^ z) ∷ []) (codes "addi r11 r9 ") (8 + 2 ^ z) (rest 29) (let few = places_small in (omega arith, (omega arith, (omega arith, tt)))) (rw (decimal_eleven, decimal_digit 9 (omega arith)) refl)

  line_62 : text_words (codes "shr r8 r7 " ++ (decimal z ++ 10 ∷ rest 62)) ≡ words ShiftRight (Register 8 ∷ Register 7 ∷ Bits z ∷ []) ∷ text_words (rest 62)
  line_62 = number_line ShiftRight (Register 8 ∷ Register 7 ∷ Bits z ∷ []) (codes "shr r8 r7 ") z (rest 62) (let few = places_small in (omega arith, (omega arith, (omega arith, tt)))) (rw (decimal_digit 8 (omega arith), decimal_digit 7 (omega arith)) refl)

  line_65 : text_words (codes "li r9 " ++ (decimal (2 ^ z - 1) ++ 10 ∷ rest 65)) ≡ words Set (Register 9 ∷ Number (2 ^ z - 1) ∷ []) ∷ text_words (rest 65)
  line_65 = number_line Set (Register 9 ∷ Number (2 ^ z - 1) ∷ []) (codes "li r9 ") (2 ^ z - 1) (rest 65) (let few = places_small in (omega arith, (omega arith, tt))) (rw (decimal_digit 9 (omega arith)) refl)

  line_68 : text_words (codes "addi r11 r9 " ++ (decimal (8 + 2 ^ z) ++ 10 ∷ rest 68)) ≡ words AddWord (Register 11 ∷ Register 9 ∷ Number (8 + 2 ^ z) ∷ []) ∷ text_words (rest 68)
  line_68 = number_line AddWord (Register 11 ∷ Register 9 ∷ Number (8 + 2 ^ z) ∷ []) (codes "addi r11 r9 ") (8 + 2 ^ z) (rest 68) (let few = places_small in (omega arith, (omega arith, (omega arith, tt)))) (rw (decimal_eleven, decimal_digit 9 (omega arith)) refl)

  line_82 : text_words (codes "addi r6 r1 " ++ (decimal (7 + 2 * 2 ^ z) ++ 10 ∷ rest 82)) ≡ words AddWord (Register 6 ∷ Register 1 ∷ Number (7 + 2 * 2 ^ z) ∷ []) ∷ text_words (rest 82)
  line_82 = number_line AddWord (Register 6 ∷ Register 1 ∷ Number (7 + 2 * 2 ^ z) ∷ []) (codes "addi r6 r1 ") (7 + 2 * 2 ^ z) (rest 82) (let few = places_small in (omega arith, (omega arith, (omega arith, tt)))) (rw (decimal_digit 6 (omega arith), decimal_digit 1 (omega arith)) refl)

  abbrev all_lines : Lines
  all_lines = words_from 0 4 lines ++ (words Set (Register 4 ∷ Number (2 ^ z) ∷ []) ∷ (words Set (Register 5 ∷ Number rounds ∷ []) ∷ words_from 6 18 lines ++ (words ShiftRight (Register 8 ∷ Register 7 ∷ Bits z ∷ []) ∷ words_from 25 1 lines ++ (words Set (Register 9 ∷ Number (2 ^ z - 1) ∷ []) ∷ words_from 27 2 lines ++ (words AddWord (Register 11 ∷ Register 9 ∷ Number (8 + 2 ^ z) ∷ []) ∷ words_from 30 32 lines ++ (words ShiftRight (Register 8 ∷ Register 7 ∷ Bits z ∷ []) ∷ words_from 63 2 lines ++ (words Set (Register 9 ∷ Number (2 ^ z - 1) ∷ []) ∷ words_from 66 2 lines ++ (words AddWord (Register 11 ∷ Register 9 ∷ Number (8 + 2 ^ z) ∷ []) ∷ words_from 69 13 lines ++ (words AddWord (Register 6 ∷ Register 1 ∷ Number (7 + 2 * 2 ^ z) ∷ []) ∷ text_words (rest 82))))))))))

  lines_are : text_words (queue_text z rounds) ≡ all_lines
  lines_are = ap (λ ls. words_from 0 4 lines ++ ls) (line_4 ∙ ap (λ ls. words Set (Register 4 ∷ Number (2 ^ z) ∷ []) ∷ ls) ((line_5 ∙ ap (λ ls. words Set (Register 5 ∷ Number rounds ∷ []) ∷ ls) (ap (λ ls. words_from 6 18 lines ++ ls) (line_24 ∙ ap (λ ls. words ShiftRight (Register 8 ∷ Register 7 ∷ Bits z ∷ []) ∷ ls) (ap (λ ls. words_from 25 1 lines ++ ls) (line_26 ∙ ap (λ ls. words Set (Register 9 ∷ Number (2 ^ z - 1) ∷ []) ∷ ls) (ap (λ ls. words_from 27 2 lines ++ ls) (line_29 ∙ ap (λ ls. words AddWord (Register 11 ∷ Register 9 ∷ Number (8 + 2 ^ z) ∷ []) ∷ ls) (ap (λ ls. words_from 30 32 lines ++ ls) (line_62 ∙ ap (λ ls. words ShiftRight (Register 8 ∷ Register 7 ∷ Bits z ∷ []) ∷ ls) (ap (λ ls. words_from 63 2 lines ++ ls) (line_65 ∙ ap (λ ls. words Set (Register 9 ∷ Number (2 ^ z - 1) ∷ []) ∷ ls) (ap (λ ls. words_from 66 2 lines ++ ls) (line_68 ∙ ap (λ ls. words AddWord (Register 11 ∷ Register 9 ∷ Number (8 + 2 ^ z) ∷ []) ∷ ls) (ap (λ ls. words_from 69 13 lines ++ ls) line_82))))))))))))))))

  instructions : AreInstructions (label_pc all_lines) (statements all_lines) (queue z rounds)
  instructions = (
    (refl, (refl, tt)),
    (
      (refl, (refl, (refl, (refl, tt)))),
      (
        (refl, (refl, tt)),
        (
          (refl, (refl, (refl, tt))),
          (
            (refl, operands_back (label_pc all_lines) (Register 4 ∷ Number (2 ^ z) ∷ []) (let few = places_small in (omega arith, (omega arith, tt))) (tt, (tt, tt))),
            (
              (refl, operands_back (label_pc all_lines) (Register 5 ∷ Number rounds ∷ []) (let few = places_small in (omega arith, (omega arith, tt))) (tt, (tt, tt))),
              (
                (refl, (refl, (refl, tt))),
                (
                  (refl, (refl, (refl, tt))),
                  (
                    (refl, (refl, (refl, tt))),
                    (
                      (refl, tt),
                      (
                        (refl, (refl, (refl, (refl, tt)))),
                        (
                          (refl, (refl, (refl, tt))),
                          (
                            (refl, (refl, (refl, (refl, tt)))),
                            (
                              (refl, tt),
                              (
                                (refl, (refl, (refl, (refl, tt)))),
                                (
                                  (refl, (refl, (refl, tt))),
                                  (
                                    (refl, (refl, (refl, (refl, tt)))),
                                    (
                                      (refl, tt),
                                      (
                                        (refl, (refl, tt)),
                                        (
                                          (refl, (refl, (refl, tt))),
                                          (
                                            (refl, (refl, (refl, (refl, tt)))),
                                            (
                                              (refl, tt),
                                              (
                                                (refl, operands_back (label_pc all_lines) (Register 8 ∷ Register 7 ∷ Bits z ∷ []) (let few = places_small in (omega arith, (omega arith, (omega arith, tt)))) (tt, (tt, (tt, tt)))),
                                                (
                                                  (refl, (refl, (refl, (refl, tt)))),
                                                  (
                                                    (refl, operands_back (label_pc all_lines) (Register 9 ∷ Number (2 ^ z - 1) ∷ []) (let few = places_small in (omega arith, (omega arith, tt))) (tt, (tt, tt))),
                                                    (
                                                      (refl, (refl, (refl, (refl, tt)))),
                                                      (
                                                        (refl, (refl, (refl, (refl, tt)))),
                                                        (
                                                          (refl, operands_back (label_pc all_lines) (Register 11 ∷ Register 9 ∷ Number (8 + 2 ^ z) ∷ []) (let few = places_small in (omega arith, (omega arith, (omega arith, tt)))) (tt, (tt, (tt, tt)))),
                                                          (
                                                            (refl, (refl, (refl, tt))),
                                                            (
                                                              (refl, tt),
                                                              (
                                                                (refl, (refl, (refl, (refl, tt)))),
                                                                (
                                                                  (refl, (refl, (refl, tt))),
                                                                  (
                                                                    (refl, (refl, (refl, tt))),
                                                                    (
                                                                      (refl, tt),
                                                                      (
                                                                        (refl, (refl, (refl, (refl, tt)))),
                                                                        (
                                                                          (refl, (refl, (refl, tt))),
                                                                          (
                                                                            (refl, tt),
                                                                            (
                                                                              (refl, (refl, (refl, tt))),
                                                                              (
                                                                                (refl, (refl, (refl, (refl, tt)))),
                                                                                (
                                                                                  (refl, tt),
                                                                                  (
                                                                                    (refl, (refl, (refl, tt))),
                                                                                    (
                                                                                      (refl, (refl, (refl, tt))),
                                                                                      (
                                                                                        (refl, tt),
                                                                                        (
                                                                                          (refl, (refl, (refl, (refl, tt)))),
                                                                                          (
                                                                                            (refl, (refl, (refl, (refl, tt)))),
                                                                                            (
                                                                                              (refl, (refl, (refl, tt))),
                                                                                              (
                                                                                                (refl, (refl, (refl, (refl, tt)))),
                                                                                                (
                                                                                                  (refl, tt),
                                                                                                  (
                                                                                                    (refl, (refl, (refl, (refl, tt)))),
                                                                                                    (
                                                                                                      (refl, (refl, (refl, (refl, tt)))),
                                                                                                      (
                                                                                                        (refl, (refl, (refl, tt))),
                                                                                                        (
                                                                                                          (refl, (refl, (refl, (refl, tt)))),
                                                                                                          (
                                                                                                            (refl, tt),
                                                                                                            (
                                                                                                              (refl, (refl, tt)),
                                                                                                              (
                                                                                                                (refl, (refl, (refl, tt))),
                                                                                                                (
                                                                                                                  (refl, (refl, (refl, (refl, tt)))),
                                                                                                                  (
                                                                                                                    (refl, tt),
                                                                                                                    (
                                                                                                                      (refl, operands_back (label_pc all_lines) (Register 8 ∷ Register 7 ∷ Bits z ∷ []) (let few = places_small in (omega arith, (omega arith, (omega arith, tt)))) (tt, (tt, (tt, tt)))),
                                                                                                                      (
                                                                                                                        (refl, (refl, (refl, (refl, tt)))),
                                                                                                                        (
                                                                                                                          (refl, (refl, (refl, (refl, tt)))),
                                                                                                                          (
                                                                                                                            (refl, operands_back (label_pc all_lines) (Register 9 ∷ Number (2 ^ z - 1) ∷ []) (let few = places_small in (omega arith, (omega arith, tt))) (tt, (tt, tt))),
                                                                                                                            (
                                                                                                                              (refl, (refl, (refl, (refl, tt)))),
                                                                                                                              (
                                                                                                                                (refl, (refl, (refl, (refl, tt)))),
                                                                                                                                (
                                                                                                                                  (refl, operands_back (label_pc all_lines) (Register 11 ∷ Register 9 ∷ Number (8 + 2 ^ z) ∷ []) (let few = places_small in (omega arith, (omega arith, (omega arith, tt)))) (tt, (tt, (tt, tt)))),
                                                                                                                                  (
                                                                                                                                    (refl, (refl, (refl, tt))),
                                                                                                                                    (
                                                                                                                                      (refl, tt),
                                                                                                                                      (
                                                                                                                                        (refl, (refl, (refl, (refl, tt)))),
                                                                                                                                        (
                                                                                                                                          (refl, (refl, (refl, tt))),
                                                                                                                                          (
                                                                                                                                            (refl, (refl, (refl, tt))),
                                                                                                                                            (
                                                                                                                                              (refl, tt),
                                                                                                                                              (
                                                                                                                                                (refl, (refl, (refl, (refl, tt)))),
                                                                                                                                                (
                                                                                                                                                  (refl, (refl, (refl, tt))),
                                                                                                                                                  (
                                                                                                                                                    (refl, tt),
                                                                                                                                                    (
                                                                                                                                                      (refl, (refl, (refl, tt))),
                                                                                                                                                      (
                                                                                                                                                        (refl, (refl, (refl, (refl, tt)))),
                                                                                                                                                        (
                                                                                                                                                          (refl, tt),
                                                                                                                                                          (
                                                                                                                                                            (refl, operands_back (label_pc all_lines) (Register 6 ∷ Register 1 ∷ Number (7 + 2 * 2 ^ z) ∷ []) (let few = places_small in (omega arith, (omega arith, (omega arith, tt)))) (tt, (tt, (tt, tt)))),
                                                                                                                                                            (
                                                                                                                                                              (refl, (refl, (refl, tt))),
                                                                                                                                                              (
                                                                                                                                                                (refl, tt),
                                                                                                                                                                (
                                                                                                                                                                  (refl, (refl, (refl, (refl, tt)))),
                                                                                                                                                                  (
                                                                                                                                                                    (refl, (refl, (refl, (refl, tt)))),
                                                                                                                                                                    (
                                                                                                                                                                      (refl, (refl, (refl, tt))),
                                                                                                                                                                      (
                                                                                                                                                                        (refl, tt),
                                                                                                                                                                        tt,
                                                                                                                                                                      ),
                                                                                                                                                                    ),
                                                                                                                                                                  ),
                                                                                                                                                                ),
                                                                                                                                                              ),
                                                                                                                                                            ),
                                                                                                                                                          ),
                                                                                                                                                        ),
                                                                                                                                                      ),
                                                                                                                                                    ),
                                                                                                                                                  ),
                                                                                                                                                ),
                                                                                                                                              ),
                                                                                                                                            ),
                                                                                                                                          ),
                                                                                                                                        ),
                                                                                                                                      ),
                                                                                                                                    ),
                                                                                                                                  ),
                                                                                                                                ),
                                                                                                                              ),
                                                                                                                            ),
                                                                                                                          ),
                                                                                                                        ),
                                                                                                                      ),
                                                                                                                    ),
                                                                                                                  ),
                                                                                                                ),
                                                                                                              ),
                                                                                                            ),
                                                                                                          ),
                                                                                                        ),
                                                                                                      ),
                                                                                                    ),
                                                                                                  ),
                                                                                                ),
                                                                                              ),
                                                                                            ),
                                                                                          ),
                                                                                        ),
                                                                                      ),
                                                                                    ),
                                                                                  ),
                                                                                ),
                                                                              ),
                                                                            ),
                                                                          ),
                                                                        ),
                                                                      ),
                                                                    ),
                                                                  ),
                                                                ),
                                                              ),
                                                            ),
                                                          ),
                                                        ),
                                                      ),
                                                    ),
                                                  ),
                                                ),
                                              ),
                                            ),
                                          ),
                                        ),
                                      ),
                                    ),
                                  ),
                                ),
                              ),
                            ),
                          ),
                        ),
                      ),
                    ),
                  ),
                ),
              ),
            ),
          ),
        ),
      ),
    ),
  )

  pub reads : IsProgramText (queue_text z rounds) (queue z rounds)
  reads = subst (λ (ls : Lines). AreLinesOf ls (queue z rounds)) (sym lines_are) record { labels = labels_of all_lines refl; instructions = instructions; short = lit≤ tt }
