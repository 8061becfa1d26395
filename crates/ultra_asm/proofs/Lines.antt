-- what is read from a line is what the grammar gives, or its fault
use Rattle.std.proofs.Common.{◌≡◌, ℕ, ◌<◌, ◌≤◌, Bool, true, false, not, nat_lt, List, [], ◌∷◌, length, take, filter, Option, Some, None, Result, Ok, Err, cond, refl, sym, ◌∙◌, ap, inl, inr}
use Rattle.std.specs.{List.{find, cons_option}, Option.option_map, Str.bytes_eq}
use Rattle.std.proofs.lemmas.Bool.{cases_Bool, cases_lt, cond-true, cond-false, lt-ltb, le-ltb, le-leb, lt-leb}
use Rattle.std.proofs.lemmas.Slice.Eq.{bytes_eq-Decides}
use Rattle.ultra_isa.specs.declared.Instr.{Instr}
use Rattle.ultra_asm.specs.{declared.{AsmFaultKind.{AsmFaultKind, TheVariants.{UnknownWord, UnknownLabel, DoubleLabel}}, instruction.Mnemonic.Mnemonic, labels.Definition.Definition}, Words.{before_colon, is_name}}
use Rattle.ultra_asm.specs.declared.instruction.Mnemonic.TheVariants.{Set, Add, AddWord, Subtract, And, ShiftRight, IsBelow, IsEqual, JumpIfZero, JumpIfNotZero, Jump, Number, Size, Load, Store, Faa, Swap, Fence, Halt}
use Rattle.ultra_asm.specs.Labels.{statement, definition_of, label_pc, is_defined_before, near_pc, near_definition, near_definition_of}
use Rattle.ultra_asm.specs.Instruction.{mnemonic_word, mnemonics, mnemonic_named, mnemonic_of, Sort, a_register, a_number, a_shift, a_label, sorts_of}
use Rattle.ultra_asm.specs.ProgramText.{IsInstruction, AreInstructions, has_words, statements, line_at, fault_if, fault_unless, or_else, operand_fault, operands_fault, instruction_fault, statement_fault, label_fault, first_word_fault, line_fault}
use Rattle.ultra_asm.specs.Reading.{LabelPcs, map_ok, read_instruction, next_instruction, read_statement, check_definition, check_name, check_colon, check_label, and_then, read_line}
use Rattle.ultra_asm.proofs.{Operands.{fault_in, read_sound, read_complete, read_fault, made_fault}, Definitions.{Lines, is_before, before_is}}

-- ---- mnemonics
find_true : {X : Type 0} (test : X → Bool) (xs : List X) (x : X) → find test xs ≡ Some x → test x ≡ true
find_true test [] x h = absurd cc
find_true test (y ∷ ys) x h = elim (cases_Bool (test y)) [
  | inl t ↦ let found : Some y ≡ Some x = sym (cond-true (test y) (Some y) (find test ys) t) ∙ h in let same : y ≡ x = cc in ap test (sym same) ∙ t
  | inr f ↦ find_true test ys x (sym (cond-false (test y) (Some y) (find test ys) f) ∙ h)
]

pub named_word : (w : List ℕ) (m : Mnemonic) → mnemonic_named w ≡ Some m → mnemonic_word m ≡ w
named_word w m h = (bytes_eq-Decides (mnemonic_word m) w).0 (find_true (λ n. bytes_eq (mnemonic_word n) w) mnemonics m h)

pub word_named : (m : Mnemonic) → mnemonic_named (mnemonic_word m) ≡ Some m
word_named Set = refl
word_named Add = refl
word_named AddWord = refl
word_named Subtract = refl
word_named And = refl
word_named ShiftRight = refl
word_named IsBelow = refl
word_named IsEqual = refl
word_named JumpIfZero = refl
word_named JumpIfNotZero = refl
word_named Jump = refl
word_named Number = refl
word_named Size = refl
word_named Load = refl
word_named Store = refl
word_named Faa = refl
word_named Swap = refl
word_named Fence = refl
word_named Halt = refl

-- ---- the instruction of a line
unmade : {A B : Type 0} (f : A → B) (r : Result A AsmFaultKind) (b : B) → map_ok f r ≡ Ok b → (a : A) × ((r ≡ Ok a) × (f a ≡ b))
unmade f (Err e) b h = absurd cc
unmade f (Ok a) b h = (a, (refl, cc))

module _ (pcs : LabelPcs) where
  instruction_is : (room : Bool) (o : Option Mnemonic) (w : List ℕ) (ws : List (List ℕ)) (i : Instr) → mnemonic_named w ≡ o → next_instruction pcs room o ws ≡ Ok i → IsInstruction pcs (w ∷ ws) i
  instruction_is room None w ws i e h = absurd cc
  instruction_is false (Some m) w ws i e h = absurd cc
  instruction_is true (Some m) w ws i e h = let p = read_sound pcs m ws i h in (sym (named_word w m e) ∙ ap mnemonic_word (sym p.0), p.1)

  pub statement_is : (room : Bool) (ws : List (List ℕ)) (o : Option Instr) → read_statement pcs room ws ≡ Ok o → AreInstructions pcs (filter has_words (ws ∷ [])) (cons_option o [])
  statement_is room [] None h = tt
  statement_is room [] (Some i) h = absurd cc
  statement_is room (w ∷ ws) None h = let (i, (e, f)) = unmade (λ j. Some j) _ _ h in absurd cc
  statement_is room (w ∷ ws) (Some i) h =
      let (j, (e, f)) = unmade (λ j. Some j) _ _ h in
      let same : j ≡ i = cc in
      (instruction_is room (mnemonic_named w) w ws i refl (e ∙ ap (λ k. Ok k) same), tt)

  full_is : (o : Option Mnemonic) (ws : List (List ℕ)) (i : Instr) → next_instruction pcs false o ws ≡ Ok i → ⊥
  full_is None ws i h = absurd cc
  full_is (Some m) ws i h = absurd cc

  pub room_needed : (ws : List (List ℕ)) (i : Instr) → read_statement pcs false ws ≡ Ok (Some i) → ⊥
  room_needed [] i h = absurd cc
  room_needed (w ∷ ws) i h = let (j, (e, f)) = unmade (λ k. Some k) _ _ h in full_is (mnemonic_named w) ws j e

  -- ---- its fault
  instruction_fault_is : (n : ℕ) (o : Option Mnemonic) (ws : List (List ℕ)) → instruction_fault pcs n o ws ≡ fault_in (next_instruction pcs (nat_lt n 4096) o ws)
  instruction_fault_is n None ws = refl
  instruction_fault_is n (Some m) ws = elim (cases_lt n 4096) [
    | inl l ↦ rw (lt-leb 4096 n l, lt-ltb n 4096 l) (read_fault pcs m ws)
    | inr l ↦ rw (le-leb 4096 n l, le-ltb n 4096 l) refl
  ]

  pub statement_fault_is : (n : ℕ) (ws : List (List ℕ)) → statement_fault pcs n ws ≡ fault_in (read_statement pcs (nat_lt n 4096) ws)
  statement_fault_is n [] = refl
  statement_fault_is n (w ∷ ws) = instruction_fault_is n (mnemonic_named w) ws ∙ made_fault pcs (λ i. Some i) (next_instruction pcs (nat_lt n 4096) (mnemonic_named w) ws)

  -- where the words are an instruction, and the program has room for it, there is none
  pub no_fault : (n : ℕ) (ws : List (List ℕ)) (i : Instr) → n < 4096 → IsInstruction pcs ws i → statement_fault pcs n ws ≡ None
  no_fault n [] i l h = absurd h
  no_fault n (w ∷ ws) i l h =
      let m : mnemonic_named w ≡ Some (mnemonic_of i) = ap mnemonic_named h.0 ∙ word_named (mnemonic_of i) in
      ap (λ o. instruction_fault pcs n o ws) m ∙ instruction_fault_is n (Some (mnemonic_of i)) ws ∙ ap (λ b. fault_in (next_instruction pcs b (Some (mnemonic_of i)) ws)) (lt-ltb n 4096 l) ∙ ap fault_in (read_complete pcs i ws h.1)

  -- the words are one instruction at most
  pub instruction_same : (ws : List (List ℕ)) (i j : Instr) → IsInstruction pcs ws i → IsInstruction pcs ws j → i ≡ j
  instruction_same [] i j h k = absurd h
  instruction_same (w ∷ ws) i j h k =
      let m : Some (mnemonic_of i) ≡ Some (mnemonic_of j) = sym (ap mnemonic_named h.0 ∙ word_named (mnemonic_of i)) ∙ (ap mnemonic_named k.0 ∙ word_named (mnemonic_of j)) in
      let same : mnemonic_of i ≡ mnemonic_of j = cc in
      let read : Ok i ≡ Ok j = sym (read_complete pcs i ws h.1) ∙ (ap (λ n. read_instruction pcs n ws) same ∙ read_complete pcs j ws k.1) in
      cc

-- the fault of an operand asks only whether there is a label, and not where
module _ (p q : LabelPcs) (same : (w : List ℕ) → fault_unless (p w) UnknownLabel ≡ fault_unless (q w) UnknownLabel) where
  operand_same : (s : Sort) (w : List ℕ) → operand_fault p s w ≡ operand_fault q s w
  operand_same a_register w = refl
  operand_same a_number w = refl
  operand_same a_shift w = refl
  operand_same a_label w = same w

  operands_same : (ss : List Sort) (ws : List (List ℕ)) → operands_fault p ss ws ≡ operands_fault q ss ws
  operands_same [] ws = refl
  operands_same (s ∷ ss) [] = refl
  operands_same (s ∷ ss) (w ∷ ws) = rw (operand_same s w, operands_same ss ws) refl

  named_same : (n : ℕ) (o : Option Mnemonic) (ws : List (List ℕ)) → instruction_fault p n o ws ≡ instruction_fault q n o ws
  named_same n None ws = refl
  named_same n (Some m) ws = rw (operands_same (sorts_of m) ws) refl

  pub statement_fault_same : (n : ℕ) (ws : List (List ℕ)) → statement_fault p n ws ≡ statement_fault q n ws
  statement_fault_same n [] = refl
  statement_fault_same n (w ∷ ws) = named_same n (mnemonic_named w) ws

-- ---- a line
and_then_fault : {A : Type 0} (a : Result (Unit {0}) AsmFaultKind) (r : Result A AsmFaultKind) → or_else (fault_in a) (fault_in r) ≡ fault_in (and_then a r)
and_then_fault (Err e) r = refl
and_then_fault (Ok t) r = refl

and_then_ok : {A : Type 0} (a : Result (Unit {0}) AsmFaultKind) (r : Result A AsmFaultKind) (x : A) → and_then a r ≡ Ok x → r ≡ Ok x
and_then_ok (Err e) r x h = absurd cc
and_then_ok (Ok t) r x h = h

double_fault : (k : ℕ) (d : Option Definition) → fault_if (is_before k d) DoubleLabel ≡ fault_in (check_definition k d)
double_fault k None = refl
double_fault k (Some d) = elim (nat_lt d.line k) as (λ b. fault_if b DoubleLabel ≡ fault_in (cond b (Err DoubleLabel) (Ok tt))) [ true ↦ refl | false ↦ refl ]

before_near : (k : ℕ) (d : Option Definition) → is_before k d ≡ is_before k (option_map near_definition d)
before_near k None = refl
before_near k (Some d) = refl

-- a text, and what its table of labels says
module _ (ls : Lines) (defined : List ℕ → Option Definition) (table : (q : List ℕ) → defined q ≡ near_definition_of ls q) (k : ℕ) (within : k ≤ length ls) where
  name_fault : (name : List ℕ) → or_else (fault_if (not (is_name name)) UnknownWord) (fault_if (is_defined_before ls k name) DoubleLabel) ≡ fault_in (check_name defined k name)
  name_fault name = elim (cases_Bool (is_name name)) [
    | inl t ↦ rw t (ap (λ b. fault_if b DoubleLabel) (sym (before_is ls k name within) ∙ before_near k (definition_of ls name) ∙ ap (is_before k) (sym (table name))) ∙ double_fault k (defined name))
    | inr f ↦ rw f refl
  ]

  colon_fault : (o : Option (List ℕ)) → label_fault ls k o ≡ fault_in (check_colon defined k o)
  colon_fault None = refl
  colon_fault (Some name) = name_fault name

  first_fault : (ws : List (List ℕ)) → first_word_fault ls k ws ≡ fault_in (check_label defined k ws)
  first_fault [] = refl
  first_fault (w ∷ ws) = colon_fault (before_colon w)

  found_same : (d : Option Definition) → fault_unless (option_map (λ e. e.pc) d) UnknownLabel ≡ fault_unless (option_map near_pc (option_map near_definition d)) UnknownLabel
  found_same None = refl
  found_same (Some d) = refl

  pcs_same : (w : List ℕ) → fault_unless (label_pc ls w) UnknownLabel ≡ fault_unless (option_map near_pc (defined w)) UnknownLabel
  pcs_same w = found_same (definition_of ls w) ∙ ap (λ d. fault_unless (option_map near_pc d) UnknownLabel) (sym (table w))

  -- the line as it is read, where n instructions are before it
  abbrev pub read_at : ℕ → Result (Option Instr) AsmFaultKind
  read_at n = read_line defined k (nat_lt n 4096) (line_at ls k)

  pub line_fault_is : line_fault ls k ≡ fault_in (read_at (length (statements (take k ls))))
  line_fault_is =
      let n = length (statements (take k ls)) in
      let near = λ (w : List ℕ). option_map near_pc (defined w) in
      let behind = statement (line_at ls k) in
      ap (λ e. or_else e (statement_fault (label_pc ls) n behind)) (first_fault (line_at ls k))
      ∙ ap (or_else (fault_in (check_label defined k (line_at ls k)))) (statement_fault_same (label_pc ls) near pcs_same n behind ∙ statement_fault_is near n behind)
      ∙ and_then_fault (check_label defined k (line_at ls k)) (read_statement near (nat_lt n 4096) behind)

  pub line_is : (room : Bool) (o : Option Instr) → read_line defined k room (line_at ls k) ≡ Ok o → AreInstructions (λ w. option_map near_pc (defined w)) (filter has_words (statement (line_at ls k) ∷ [])) (cons_option o [])
  line_is room o h = statement_is (λ w. option_map near_pc (defined w)) room (statement (line_at ls k)) o (and_then_ok _ _ o h)

  pub line_has_room : (n : ℕ) (i : Instr) → read_at n ≡ Ok (Some i) → n < 4096
  line_has_room n i h = elim (cases_lt n 4096) [
    | inl l ↦ l
    | inr l ↦ absurd (room_needed (λ w. option_map near_pc (defined w)) (statement (line_at ls k)) i (sym (ap (λ b. read_statement (λ w. option_map near_pc (defined w)) b (statement (line_at ls k))) (le-ltb n 4096 l)) ∙ and_then_ok _ _ (Some i) h))
  ]
