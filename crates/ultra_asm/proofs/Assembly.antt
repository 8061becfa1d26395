-- the instructions of a text, line by line
use Rattle.std.proofs.Common.{◌≡◌, ℕ, suc, ◌+◌, ◌-◌, ◌<◌, ◌≤◌, Bool, true, false, nat_lt, List, [], ◌∷◌, ◌++◌, length, take, drop, filter, Option, Some, None, Result, Ok, Err, IsTrue, refl, sym, ◌∙◌, ap, length-append, below_more, arith, lit≤, length-drop, IfSome, not}
use Rattle.std.specs.{List.cons_option, Option.option_map}
use Rattle.std.proofs.lemmas.{Bool.{and_from, le-leb}, List.{take_more, take_all, take-append-drop, drop_more}}
use Rattle.ultra_isa.specs.{declared.Instr.Instr, Program.{jumps_within, all_jump_within, is_program}}
use Rattle.ultra_isa.specs.declared.Instr.TheVariants as instr
use Rattle.ultra_asm.specs.{declared.{AsmFault.AsmFault, AsmFaultKind.AsmFaultKind, labels.Definition.Definition, instruction.Operand.Operand}, Words.{before_colon, is_name}, Instruction.operands_of, Reading.{LabelPcs, read_line}}
use Rattle.ultra_asm.specs.declared.instruction.Operand.TheVariants as operand
use Rattle.ultra_asm.specs.Labels.{statement, definition_of, near_definition_of, label_pc, is_defined_before, near_pc}
use Rattle.ultra_asm.specs.ProgramText.{IsOperand, AreOperands, IsInstruction, AreInstructions, has_words, statements, line_at, IsNewLabel, IsLabelled, AreLinesOf, fault_if, or_else, statement_fault, label_fault, first_word_fault, line_fault, IsFirstFault}
use Rattle.ultra_asm.proofs.{Operands.fault_in, Definitions.{Lines, statements-append, pc_within, near_twice, near_is}, Lines.{line_is, line_fault_is, line_has_room, no_fault, instruction_same}}

-- ---- the instructions of statements, in order
module _ (pcs : LabelPcs) where
  pub instructions_append : (ss ts : Lines) (is js : List Instr) → AreInstructions pcs ss is → AreInstructions pcs ts js → AreInstructions pcs (ss ++ ts) (is ++ js)
  instructions_append [] ts [] js h k = k
  instructions_append [] ts (i ∷ is) js h k = absurd h
  instructions_append (s ∷ ss) ts [] js h k = absurd h
  instructions_append (s ∷ ss) ts (i ∷ is) js h k = (h.0, instructions_append ss ts is js h.1 k)

  pub instructions_length : (ss : Lines) (is : List Instr) → AreInstructions pcs ss is → length ss ≡ length is
  instructions_length [] [] h = refl
  instructions_length [] (i ∷ is) h = absurd h
  instructions_length (s ∷ ss) [] h = absurd h
  instructions_length (s ∷ ss) (i ∷ is) h = ap suc (instructions_length ss is h.1)

  -- they are the only ones
  pub instructions_same : (ss : Lines) (is js : List Instr) → AreInstructions pcs ss is → AreInstructions pcs ss js → is ≡ js
  instructions_same [] [] [] h k = refl
  instructions_same [] [] (j ∷ js) h k = absurd k
  instructions_same [] (i ∷ is) js h k = absurd h
  instructions_same (s ∷ ss) [] js h k = absurd h
  instructions_same (s ∷ ss) (i ∷ is) [] h k = absurd k
  instructions_same (s ∷ ss) (i ∷ is) (j ∷ js) h k =
      let first = instruction_same pcs s i j h.0 k.0 in
      let rest = instructions_same ss is js h.1 k.1 in
      cc

  pub instructions_rest : (ss ts : Lines) (is : List Instr) → AreInstructions pcs (ss ++ ts) is → AreInstructions pcs ts (drop (length ss) is)
  instructions_rest [] ts is h = h
  instructions_rest (s ∷ ss) ts [] h = absurd h
  instructions_rest (s ∷ ss) ts (i ∷ is) h = instructions_rest ss ts is h.1

  -- ---- where their jumps go
  label_within : (n k : ℕ) (ws : List (List ℕ)) → ((w : List ℕ) (j : ℕ) → pcs w ≡ Some j → j ≤ n) → AreOperands pcs (operand.Label k ∷ []) ws → k ≤ n
  label_within n k [] all h = absurd h
  label_within n k (w ∷ ws) all h = all w k h.0

  behind_first : (o : Operand) (os : List Operand) (ws : List (List ℕ)) → AreOperands pcs (o ∷ os) ws → (vs : List (List ℕ)) × AreOperands pcs os vs
  behind_first o os [] h = absurd h
  behind_first o os (w ∷ ws) h = (ws, h.1)

  module _ (n : ℕ) (all : (w : List ℕ) (j : ℕ) → pcs w ≡ Some j → j ≤ n) where
    second_within : (a k : ℕ) (ws : List (List ℕ)) → AreOperands pcs (operand.Register a ∷ operand.Label k ∷ []) ws → k ≤ n
    second_within a k ws h = let (vs, r) = behind_first (operand.Register a) (operand.Label k ∷ []) ws h in label_within n k vs all r

    operands_within : (ws : List (List ℕ)) (i : Instr) → AreOperands pcs (operands_of i) ws → IsTrue (jumps_within n i)
    operands_within ws (instr.Set d m) h = refl
    operands_within ws (instr.Add d a b) h = refl
    operands_within ws (instr.AddWord d a m) h = refl
    operands_within ws (instr.Subtract d a b) h = refl
    operands_within ws (instr.And d a b) h = refl
    operands_within ws (instr.ShiftRight d a m) h = refl
    operands_within ws (instr.IsBelow d a b) h = refl
    operands_within ws (instr.IsEqual d a b) h = refl
    operands_within ws (instr.JumpIfZero a target) h = le-leb _ _ (second_within a target ws h)
    operands_within ws (instr.JumpIfNotZero a target) h = le-leb _ _ (second_within a target ws h)
    operands_within ws (instr.Jump target) h = le-leb _ _ (label_within n target ws all h)
    operands_within ws (instr.Number d) h = refl
    operands_within ws (instr.Size d) h = refl
    operands_within ws (instr.Load d a) h = refl
    operands_within ws (instr.Store a b) h = refl
    operands_within ws (instr.Faa d a b) h = refl
    operands_within ws (instr.Swap d a b) h = refl
    operands_within ws instr.Fence h = refl
    operands_within ws instr.Halt h = refl

    instruction_within : (s : List (List ℕ)) (i : Instr) → IsInstruction pcs s i → IsTrue (jumps_within n i)
    instruction_within [] i h = absurd h
    instruction_within (w ∷ ws) i h = operands_within ws i h.1

    pub instructions_within : (ss : Lines) (is : List Instr) → AreInstructions pcs ss is → IsTrue (all_jump_within n is)
    instructions_within [] [] h = refl
    instructions_within [] (i ∷ is) h = absurd h
    instructions_within (s ∷ ss) [] h = absurd h
    instructions_within (s ∷ ss) (i ∷ is) h = and_from _ _ (instruction_within s i h.0) (instructions_within ss is h.1)

-- the program counters of labels may be said in another way
module _ (p q : LabelPcs) (same : (w : List ℕ) → p w ≡ q w) where
  operand_at : (o : Operand) (w : List ℕ) → IsOperand p o w → IsOperand q o w
  operand_at (operand.Register r) w h = h
  operand_at (operand.Number n) w h = h
  operand_at (operand.Bits n) w h = h
  operand_at (operand.Label k) w h = sym (same w) ∙ h

  operands_at : (os : List Operand) (ws : List (List ℕ)) → AreOperands p os ws → AreOperands q os ws
  operands_at [] [] h = tt
  operands_at [] (w ∷ ws) h = absurd h
  operands_at (o ∷ os) [] h = absurd h
  operands_at (o ∷ os) (w ∷ ws) h = (operand_at o w h.0, operands_at os ws h.1)

  instruction_at : (s : List (List ℕ)) (i : Instr) → IsInstruction p s i → IsInstruction q s i
  instruction_at [] i h = absurd h
  instruction_at (w ∷ ws) i h = (h.0, operands_at (operands_of i) ws h.1)

  pub instructions_at : (ss : Lines) (is : List Instr) → AreInstructions p ss is → AreInstructions q ss is
  instructions_at [] [] h = tt
  instructions_at [] (i ∷ is) h = absurd h
  instructions_at (s ∷ ss) [] h = absurd h
  instructions_at (s ∷ ss) (i ∷ is) h = (instruction_at s i h.0, instructions_at ss is h.1)

-- ---- no fault in the first word
none_first : (a b : Option AsmFaultKind) → or_else a b ≡ None → a ≡ None
none_first None b h = refl
none_first (Some e) b h = absurd cc

none_second : (a b : Option AsmFaultKind) → or_else a b ≡ None → b ≡ None
none_second None b h = h
none_second (Some e) b h = absurd cc

good_name : (b c : Bool) (e f : AsmFaultKind) → or_else (fault_if (not b) e) (fault_if c f) ≡ None → (b ≡ true) × (c ≡ false)
good_name false c e f h = absurd cc
good_name true true e f h = absurd cc
good_name true false e f h = (refl, refl)

good_name_back : (b c : Bool) (e f : AsmFaultKind) → b ≡ true → c ≡ false → or_else (fault_if (not b) e) (fault_if c f) ≡ None
good_name_back b c e f t u = rw (t, u) refl

module _ (ls : Lines) (k : ℕ) where
  good_label : (o : Option (List ℕ)) → label_fault ls k o ≡ None → IfSome o (IsNewLabel ls k)
  good_label None h = tt
  good_label (Some name) h = good_name (is_name name) (is_defined_before ls k name) _ _ h

  labelled : (ws : List (List ℕ)) → first_word_fault ls k ws ≡ None → IsLabelled ls k ws
  labelled [] h = tt
  labelled (w ∷ ws) h = good_label (before_colon w) h

  good_label_back : (o : Option (List ℕ)) → IfSome o (IsNewLabel ls k) → label_fault ls k o ≡ None
  good_label_back None h = refl
  good_label_back (Some name) h = good_name_back (is_name name) (is_defined_before ls k name) _ _ h.0 h.1

  labelled_back : (ws : List (List ℕ)) → IsLabelled ls k ws → first_word_fault ls k ws ≡ None
  labelled_back [] h = refl
  labelled_back (w ∷ ws) h = good_label_back (before_colon w) h

-- ---- what a text of the grammar is
module _ (ls : Lines) (is : List Instr) (m : AreLinesOf ls is) where
  line_split : (k : ℕ) → k < length ls → statements ls ≡ statements (take k ls) ++ (filter has_words (statement (line_at ls k) ∷ []) ++ statements (drop (k + 1) ls))
  line_split k lt =
      ap statements (sym (take-append-drop k ls)) ∙ (statements-append (take k ls) (drop k ls) ∙ ap (λ (ms : Lines). statements (take k ls) ++ statements ms) (drop_more ls k [] lt) ∙ ap (λ (ms : Lines). statements (take k ls) ++ ms) (statements-append (line_at ls k ∷ []) (drop (k + 1) ls)))

  statement_good : (n : ℕ) (s : List (List ℕ)) (ts : Lines) (js : List Instr) → n + length js ≤ 4096 → AreInstructions (label_pc ls) (filter has_words (s ∷ []) ++ ts) js → statement_fault (label_pc ls) n s ≡ None
  statement_good n [] ts js few h = refl
  statement_good n (w ∷ ws) ts [] few h = absurd h
  statement_good n (w ∷ ws) ts (j ∷ js) few h = no_fault (label_pc ls) n (w ∷ ws) j (omega arith) h.0

  -- none of its lines has a fault
  pub faultless : (k : ℕ) → k < length ls → line_fault ls k ≡ None
  faultless k lt =
      let n = length (statements (take k ls)) in
      let after = filter has_words (statement (line_at ls k) ∷ []) ++ statements (drop (k + 1) ls) in
      let all : AreInstructions (label_pc ls) (statements (take k ls) ++ after) is = rw (line_split k lt) at m.instructions in
      let rest = instructions_rest (label_pc ls) (statements (take k ls)) after is all in
      let count = instructions_length (label_pc ls) (statements (take k ls) ++ after) is all in
      let short = m.short in
      let few : n + length (drop n is) ≤ 4096 = omega (arith, length-append (statements (take k ls)) after, length-drop n is) in
      rw (labelled_back ls k (line_at ls k) (m.labels k lt), statement_good n (statement (line_at ls k)) (statements (drop (k + 1) ls)) (drop n is) few rest) refl

  pub no_first_fault : (f : AsmFault) → IsFirstFault ls f → ⊥
  no_first_fault f h =
      let (low, high) = h.within in
      let none : line_fault ls (f.line - 1) ≡ None = faultless (f.line - 1) (omega arith) in
      let some = h.kind in
      absurd cc

  -- it is the text of no other program
  pub only : (js : List Instr) → AreLinesOf ls js → js ≡ is
  only js n = instructions_same (label_pc ls) (statements ls) js is n.instructions m.instructions

-- ---- the instructions of the first k lines, where these have no fault
module _ (ls : Lines) (defined : List ℕ → Option Definition) where
  abbrev pub near : LabelPcs
  near w = option_map near_pc (defined w)

  pub record IsSoFar (k : ℕ) (is : List Instr) : Type 0 where
    pub instructions : AreInstructions near (statements (take k ls)) is
    pub faultless_lines : (j : ℕ) → j < k → line_fault ls j ≡ None
    pub short : length is ≤ 4096

  pub so_far_none : IsSoFar 0 []
  so_far_none = record {
    instructions = tt;
    faultless_lines = λ j lt. absurd (omega arith);
    short = lit≤ tt;
  }

  module _ (table : (q : List ℕ) → defined q ≡ near_definition_of ls q) (k : ℕ) (is : List Instr) (lt : k < length ls) (m : IsSoFar k is) where
    -- the result of line k
    abbrev pub result : Result (Option Instr) AsmFaultKind
    result = read_line defined k (nat_lt (length is) 4096) (line_at ls k)

    within : k ≤ length ls
    within = omega arith

    counted : length (statements (take k ls)) ≡ length is
    counted = instructions_length near (statements (take k ls)) is m.instructions

    fault_is : (r : Result (Option Instr) AsmFaultKind) → result ≡ r → line_fault ls k ≡ fault_in r
    fault_is r e = line_fault_is ls defined table k within ∙ ap (λ n. fault_in (read_line defined k (nat_lt n 4096) (line_at ls k))) counted ∙ ap fault_in e

    more_lines : statements (take (k + 1) ls) ≡ statements (take k ls) ++ filter has_words (statement (line_at ls k) ∷ [])
    more_lines = ap statements (take_more ls k [] lt) ∙ statements-append (take k ls) (line_at ls k ∷ [])

    short_more : (o : Option Instr) → result ≡ Ok o → length (is ++ cons_option o []) ≤ 4096
    short_more None e = let s = m.short in omega (arith, length-append is [])
    short_more (Some i) e = omega (arith, line_has_room ls defined table k within (length is) i e, length-append is (i ∷ []))

    pub so_far_more : (o : Option Instr) → result ≡ Ok o → IsSoFar (k + 1) (is ++ cons_option o [])
    so_far_more o e = record {
      instructions = rw more_lines (instructions_append near (statements (take k ls)) (filter has_words (statement (line_at ls k) ∷ [])) is (cons_option o []) m.instructions (line_is ls defined table k within (nat_lt (length is) 4096) o e));
      faultless_lines = below_more (λ j. line_fault ls j ≡ None) k m.faultless_lines (fault_is (Ok o) e);
      short = short_more o e;
    }

    pub first_fault : (e : AsmFaultKind) → result ≡ Err e → IsFirstFault ls (record { line = k + 1; kind = e })
    first_fault e h =
        let back : k + 1 - 1 ≡ k = omega arith in
        record {
          within = (omega arith, omega arith);
          kind = ap (line_fault ls) back ∙ fault_is (Err e) h;
          first = λ j before. m.faultless_lines j (omega arith);
        }

  module _ (table : (q : List ℕ) → defined q ≡ near_definition_of ls q) (k : ℕ) (is : List Instr) (end : length ls ≤ k) (m : IsSoFar k is) where
    all : AreInstructions near (statements ls) is
    all = rw (take_all k ls end) at m.instructions

    few : length (statements ls) ≤ 4096
    few = let s = m.short in omega (arith, instructions_length near (statements ls) is all)

    true_pcs : (w : List ℕ) → near w ≡ label_pc ls w
    true_pcs w = ap (option_map near_pc) (table w) ∙ near_twice (definition_of ls w) ∙ near_is ls w few

    at_pcs : AreInstructions (label_pc ls) (statements ls) is
    at_pcs = instructions_at near (label_pc ls) true_pcs (statements ls) is all

    pub so_far_all : AreLinesOf ls is
    so_far_all = record {
      labels = λ j lt. labelled ls j (line_at ls j) (none_first _ _ (m.faultless_lines j (omega arith)));
      instructions = at_pcs;
      short = m.short;
    }

    pub so_far_program : IsTrue (is_program is)
    so_far_program =
        let count = instructions_length (label_pc ls) (statements ls) is at_pcs in
        and_from _ _ (le-leb _ _ m.short) (instructions_within (label_pc ls) (length is) (λ w j h. omega (arith, pc_within ls w j h)) (statements ls) is at_pcs)
