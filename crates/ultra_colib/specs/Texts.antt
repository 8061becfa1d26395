-- the texts of the coordination programs, with their parameters put in as numbers; the programs are
-- this project's profile
use Rattle.std.specs.Prelude.{ℕ, ◌+◌, ◌-◌, ◌*◌, ◌^◌, List, [], ◌∷◌, ◌++◌, codes, decimal}

-- the text of these lines, each of which byte 10 ends
abbrev pub text_of_lines : List (List ℕ) → List ℕ
text_of_lines [] = []
text_of_lines (line ∷ lines) = line ++ 10 ∷ text_of_lines lines

-- the gate: `bound` processing elements at most are inside at once, `rounds` times each
abbrev pub gate_lines : ℕ → ℕ → List (List ℕ)
gate_lines bound rounds =
    codes "pid r1"
    ∷ codes "addi r1 r1 8"
    ∷ codes "li r3 1"
    ∷ (codes "li r4 " ++ decimal bound)
    ∷ (codes "li r5 " ++ decimal rounds)
    ∷ codes "li r8 4294967295"
    ∷ codes "again:"
    ∷ codes "ld r6 r0"
    ∷ codes "fence"
    ∷ codes "slt r7 r6 r4"
    ∷ codes "jz r7 again"
    ∷ codes "faa r6 r0 r3"
    ∷ codes "fence"
    ∷ codes "slt r7 r6 r4"
    ∷ codes "jnz r7 inside"
    ∷ codes "faa r6 r0 r8"
    ∷ codes "fence"
    ∷ codes "jmp again"
    ∷ codes "inside:"
    ∷ codes "st r1 r3"
    ∷ codes "fence"
    ∷ codes "st r1 r0"
    ∷ codes "fence"
    ∷ codes "faa r6 r0 r8"
    ∷ codes "fence"
    ∷ codes "sub r5 r5 r3"
    ∷ codes "jnz r5 again"
    ∷ codes "halt"
    ∷ []

abbrev pub gate_text : ℕ → ℕ → List ℕ
gate_text bound rounds = text_of_lines (gate_lines bound rounds)

-- readers and writers: the first `writers` processing elements write, the others read
abbrev pub rw_lines : ℕ → ℕ → List (List ℕ)
rw_lines writers rounds =
    codes "pid r1"
    ∷ codes "addi r2 r1 8"
    ∷ codes "li r3 1"
    ∷ codes "li r4 65536"
    ∷ (codes "li r5 " ++ decimal rounds)
    ∷ (codes "li r6 " ++ decimal writers)
    ∷ codes "li r10 4294967295"
    ∷ codes "li r11 2"
    ∷ codes "sub r12 r0 r4"
    ∷ codes "slt r7 r1 r6"
    ∷ codes "jnz r7 write"
    ∷ codes "read:"
    ∷ codes "faa r8 r0 r3"
    ∷ codes "fence"
    ∷ codes "slt r9 r8 r4"
    ∷ codes "jnz r9 reading"
    ∷ codes "faa r8 r0 r10"
    ∷ codes "fence"
    ∷ codes "jmp read"
    ∷ codes "reading:"
    ∷ codes "st r2 r3"
    ∷ codes "fence"
    ∷ codes "st r2 r0"
    ∷ codes "fence"
    ∷ codes "faa r8 r0 r10"
    ∷ codes "fence"
    ∷ codes "sub r5 r5 r3"
    ∷ codes "jnz r5 read"
    ∷ codes "halt"
    ∷ codes "write:"
    ∷ codes "faa r8 r0 r4"
    ∷ codes "fence"
    ∷ codes "jz r8 writing"
    ∷ codes "faa r8 r0 r12"
    ∷ codes "fence"
    ∷ codes "jmp write"
    ∷ codes "writing:"
    ∷ codes "st r2 r11"
    ∷ codes "fence"
    ∷ codes "st r2 r0"
    ∷ codes "fence"
    ∷ codes "faa r8 r0 r12"
    ∷ codes "fence"
    ∷ codes "sub r5 r5 r3"
    ∷ codes "jnz r5 write"
    ∷ codes "halt"
    ∷ []

abbrev pub rw_text : ℕ → ℕ → List ℕ
rw_text writers rounds = text_of_lines (rw_lines writers rounds)

-- the barrier
abbrev pub barrier_lines : ℕ → List (List ℕ)
barrier_lines rounds =
    codes "pid r1"
    ∷ codes "addi r2 r1 8"
    ∷ codes "np r3"
    ∷ codes "add r4 r2 r3"
    ∷ codes "li r5 1"
    ∷ codes "sub r6 r3 r5"
    ∷ codes "li r7 0"
    ∷ (codes "li r8 " ++ decimal rounds)
    ∷ codes "round:"
    ∷ codes "addi r7 r7 1"
    ∷ codes "st r2 r7"
    ∷ codes "fence"
    ∷ codes "faa r9 r0 r5"
    ∷ codes "fence"
    ∷ codes "and r10 r9 r6"
    ∷ codes "sub r9 r9 r10"
    ∷ codes "add r9 r9 r3"
    ∷ codes "wait:"
    ∷ codes "ld r10 r0"
    ∷ codes "fence"
    ∷ codes "slt r11 r10 r9"
    ∷ codes "jnz r11 wait"
    ∷ codes "st r4 r7"
    ∷ codes "fence"
    ∷ codes "seq r11 r7 r8"
    ∷ codes "jz r11 round"
    ∷ codes "halt"
    ∷ []

abbrev pub barrier_text : ℕ → List ℕ
barrier_text rounds = text_of_lines (barrier_lines rounds)

-- the queue, with these numbers in it
abbrev pub queue_lines : ℕ → ℕ → ℕ → ℕ → ℕ → ℕ → List (List ℕ)
queue_lines log_size rounds places last items results =
    codes "pid r1"
    ∷ codes "addi r1 r1 1"
    ∷ codes "np r2"
    ∷ codes "li r3 1"
    ∷ (codes "li r4 " ++ decimal places)
    ∷ (codes "li r5 " ++ decimal rounds)
    ∷ codes "li r15 4294967295"
    ∷ codes "ins:"
    ∷ codes "li r6 0"
    ∷ codes "ld r7 r6"
    ∷ codes "fence"
    ∷ codes "slt r8 r7 r4"
    ∷ codes "jz r8 ins"
    ∷ codes "faa r7 r6 r3"
    ∷ codes "fence"
    ∷ codes "slt r8 r7 r4"
    ∷ codes "jnz r8 put"
    ∷ codes "faa r7 r6 r15"
    ∷ codes "fence"
    ∷ codes "jmp ins"
    ∷ codes "put:"
    ∷ codes "li r6 2"
    ∷ codes "faa r7 r6 r3"
    ∷ codes "fence"
    ∷ (codes "shr r8 r7 " ++ decimal log_size)
    ∷ codes "add r8 r8 r8"
    ∷ (codes "li r9 " ++ decimal last)
    ∷ codes "and r9 r7 r9"
    ∷ codes "addi r10 r9 8"
    ∷ (codes "addi r11 r9 " ++ decimal items)
    ∷ codes "turn1:"
    ∷ codes "ld r12 r10"
    ∷ codes "fence"
    ∷ codes "seq r13 r12 r8"
    ∷ codes "jz r13 turn1"
    ∷ codes "st r11 r1"
    ∷ codes "fence"
    ∷ codes "addi r8 r8 1"
    ∷ codes "st r10 r8"
    ∷ codes "fence"
    ∷ codes "li r6 1"
    ∷ codes "faa r7 r6 r3"
    ∷ codes "fence"
    ∷ codes "del:"
    ∷ codes "li r6 1"
    ∷ codes "ld r7 r6"
    ∷ codes "fence"
    ∷ codes "sub r8 r7 r3"
    ∷ codes "slt r8 r8 r4"
    ∷ codes "jz r8 del"
    ∷ codes "faa r7 r6 r15"
    ∷ codes "fence"
    ∷ codes "sub r8 r7 r3"
    ∷ codes "slt r8 r8 r4"
    ∷ codes "jnz r8 take"
    ∷ codes "faa r7 r6 r3"
    ∷ codes "fence"
    ∷ codes "jmp del"
    ∷ codes "take:"
    ∷ codes "li r6 3"
    ∷ codes "faa r7 r6 r3"
    ∷ codes "fence"
    ∷ (codes "shr r8 r7 " ++ decimal log_size)
    ∷ codes "add r8 r8 r8"
    ∷ codes "addi r8 r8 1"
    ∷ (codes "li r9 " ++ decimal last)
    ∷ codes "and r9 r7 r9"
    ∷ codes "addi r10 r9 8"
    ∷ (codes "addi r11 r9 " ++ decimal items)
    ∷ codes "turn2:"
    ∷ codes "ld r12 r10"
    ∷ codes "fence"
    ∷ codes "seq r13 r12 r8"
    ∷ codes "jz r13 turn2"
    ∷ codes "ld r14 r11"
    ∷ codes "fence"
    ∷ codes "addi r8 r8 1"
    ∷ codes "st r10 r8"
    ∷ codes "fence"
    ∷ codes "li r6 0"
    ∷ codes "faa r7 r6 r15"
    ∷ codes "fence"
    ∷ (codes "addi r6 r1 " ++ decimal results)
    ∷ codes "st r6 r14"
    ∷ codes "fence"
    ∷ codes "add r1 r1 r2"
    ∷ codes "sub r5 r5 r3"
    ∷ codes "jnz r5 ins"
    ∷ codes "halt"
    ∷ []

-- the queue with 2 ^ z places
abbrev pub queue_text : ℕ → ℕ → List ℕ
queue_text z rounds =
    text_of_lines
    (queue_lines z rounds (2 ^ z) (2 ^ z - 1) (8 + 2 ^ z) (7 + 2 * 2 ^ z))

-- the ticket counter, from which each processing element draws `rounds` tickets
abbrev pub tickets_lines : ℕ → List (List ℕ)
tickets_lines rounds =
    codes "li r2 1"
    ∷ (codes "li r5 " ++ decimal rounds)
    ∷ codes "again:"
    ∷ codes "faa r1 r0 r2"
    ∷ codes "fence"
    ∷ codes "sub r5 r5 r2"
    ∷ codes "jnz r5 again"
    ∷ codes "halt"
    ∷ []

abbrev pub tickets_text : ℕ → List ℕ
tickets_text rounds = text_of_lines (tickets_lines rounds)
