-- what is read from the words of an instruction is the instruction that the grammar gives, or the fault
use Rattle.std.proofs.Common.{◌≡◌, ℕ, ◌==◌, not, List, [], ◌∷◌, length, Option, Some, None, Result, Ok, Err, ◌<◌, arith, refl, ◌∙◌, ap, subst}
use Rattle.std.proofs.lemmas.Bool.{ne_eqb}
use Rattle.std.specs.Option.{ok_or}
use Rattle.ultra_isa.specs.declared.Instr.{Instr}
use Rattle.ultra_isa.specs.declared.Instr.TheVariants as instr
use Rattle.ultra_asm.specs.{declared.{AsmFaultKind.{AsmFaultKind, TheVariants.{BadRegister, BadNumber, UnknownLabel, WrongOperands}}, instruction.{Mnemonic.Mnemonic, Operand.Operand}}, Words.{decimal_value, register_of, shift_of}}
use Rattle.ultra_asm.specs.declared.instruction.Mnemonic.TheVariants.{Set, Add, AddWord, Subtract, And, ShiftRight, IsBelow, IsEqual, JumpIfZero, JumpIfNotZero, Jump, Number, Size, Load, Store, Faa, Swap, Fence, Halt}
use Rattle.ultra_asm.specs.declared.instruction.Operand.TheVariants as operand
use Rattle.ultra_asm.specs.Instruction.{mnemonic_of, operands_of, Sort, a_register, a_number, a_shift, a_label, sorts_of}
use Rattle.ultra_asm.specs.ProgramText.{IsOperand, AreOperands, fault_unless, fault_if, or_else, operand_fault, fault_of_operands}
use Rattle.ultra_asm.specs.Reading.{LabelPcs, read_register, read_number, read_shift, read_label, both_operands, all_three_operands, none_in, one_in, two_in, three_in, map_ok, read_instruction}

-- the fault of a result
abbrev pub fault_in : {A : Type 0} → Result A AsmFaultKind → Option AsmFaultKind
fault_in (Ok a) = None
fault_in (Err e) = Some e

-- ---- what is found or isn't
found : (o : Option ℕ) (e : AsmFaultKind) (n : ℕ) → ok_or o e ≡ Ok n → o ≡ Some n
found None e n h = absurd cc
found (Some m) e n h = cc

found_back : (o : Option ℕ) (e : AsmFaultKind) (n : ℕ) → o ≡ Some n → ok_or o e ≡ Ok n
found_back o e n h = rw h refl

found_fault : (o : Option ℕ) (e : AsmFaultKind) → fault_unless o e ≡ fault_in (ok_or o e)
found_fault None e = refl
found_fault (Some n) e = refl

-- another number of operands is a fault whatever they are
wrong_number : (n k : ℕ) (o : Option AsmFaultKind) → k < n → or_else (fault_if (not (n == k)) WrongOperands) o ≡ Some WrongOperands
wrong_number n k o more = let apart : n ≡ k → ⊥ = λ h. omega arith in rw (ne_eqb n k apart) refl

module _ (pcs : LabelPcs) where
  -- what it is to read an operand of a sort
  record IsReader (s : Sort) (form : ℕ → Operand) (read : List ℕ → Result ℕ AsmFaultKind) : Type 0 where
    sound : (w : List ℕ) (n : ℕ) → read w ≡ Ok n → IsOperand pcs (form n) w
    complete : (w : List ℕ) (n : ℕ) → IsOperand pcs (form n) w → read w ≡ Ok n
    fault : (w : List ℕ) → operand_fault pcs s w ≡ fault_in (read w)

  registers : IsReader a_register operand.Register (read_register pcs)
  registers = record {
    sound = λ w n. found (register_of w) BadRegister n;
    complete = λ w n. found_back (register_of w) BadRegister n;
    fault = λ w. found_fault (register_of w) BadRegister;
  }

  numbers : IsReader a_number operand.Number (read_number pcs)
  numbers = record {
    sound = λ w n. found (decimal_value w) BadNumber n;
    complete = λ w n. found_back (decimal_value w) BadNumber n;
    fault = λ w. found_fault (decimal_value w) BadNumber;
  }

  shifts : IsReader a_shift operand.Bits (read_shift pcs)
  shifts = record {
    sound = λ w n. found (shift_of w) BadNumber n;
    complete = λ w n. found_back (shift_of w) BadNumber n;
    fault = λ w. found_fault (shift_of w) BadNumber;
  }

  labels : IsReader a_label operand.Label (read_label pcs)
  labels = record {
    sound = λ w n. found (pcs w) UnknownLabel n;
    complete = λ w n. found_back (pcs w) UnknownLabel n;
    fault = λ w. found_fault (pcs w) UnknownLabel;
  }

  -- ---- no operand
  none_sound : (ws : List (List ℕ)) (t : Unit {0}) → none_in ws ≡ Ok t → AreOperands pcs [] ws
  none_sound [] t h = tt
  none_sound (w ∷ ws) t h = absurd cc

  none_complete : (ws : List (List ℕ)) → AreOperands pcs [] ws → none_in ws ≡ Ok tt
  none_complete [] h = refl
  none_complete (w ∷ ws) h = absurd h

  none_fault : (ws : List (List ℕ)) → fault_of_operands pcs [] ws ≡ fault_in (none_in ws)
  none_fault [] = refl
  none_fault (w ∷ ws) = wrong_number (length (w ∷ ws)) 0 None (omega arith)

  -- ---- one operand
  module _ {s : Sort} {form : ℕ → Operand} {read : List ℕ → Result ℕ AsmFaultKind} (r : IsReader s form read) where
    one_sound : (ws : List (List ℕ)) (n : ℕ) → one_in read ws ≡ Ok n → AreOperands pcs (form n ∷ []) ws
    one_sound [] n h = absurd cc
    one_sound (w ∷ []) n h = (r.sound w n h, tt)
    one_sound (w ∷ v ∷ ws) n h = absurd cc

    one_complete : (ws : List (List ℕ)) (n : ℕ) → AreOperands pcs (form n ∷ []) ws → one_in read ws ≡ Ok n
    one_complete [] n h = absurd h
    one_complete (w ∷ []) n h = r.complete w n h.0
    one_complete (w ∷ v ∷ ws) n h = absurd h.1

    last_fault : (w : List ℕ) → or_else (operand_fault pcs s w) None ≡ fault_in (read w)
    last_fault w = rw (r.fault w) (elim (read w) as (λ v. or_else (fault_in v) None ≡ fault_in v) [ Ok n ↦ refl | Err e ↦ refl ])

    one_fault : (ws : List (List ℕ)) → fault_of_operands pcs (s ∷ []) ws ≡ fault_in (one_in read ws)
    one_fault [] = refl
    one_fault (w ∷ []) = last_fault w
    one_fault (w ∷ v ∷ ws) = wrong_number (length (w ∷ v ∷ ws)) 1 (or_else (operand_fault pcs s w) None) (omega arith)

  -- ---- two operands
  pair_parts : (a b : Result ℕ AsmFaultKind) (t : ℕ × ℕ) → both_operands a b ≡ Ok t → (a ≡ Ok t.0) × (b ≡ Ok t.1)
  pair_parts (Err e) b t h = absurd cc
  pair_parts (Ok a) (Err e) t h = absurd cc
  pair_parts (Ok a) (Ok b) t h = let same : (a, b) ≡ t = cc in (ap (λ (p : ℕ × ℕ). Ok p.0) same, ap (λ (p : ℕ × ℕ). Ok p.1) same)

  pair_fault : (a b : Result ℕ AsmFaultKind) → or_else (fault_in a) (fault_in b) ≡ fault_in (both_operands a b)
  pair_fault (Err e) b = refl
  pair_fault (Ok a) (Err e) = refl
  pair_fault (Ok a) (Ok b) = refl

  module _ {s₁ s₂ : Sort} {form₁ form₂ : ℕ → Operand} {read₁ read₂ : List ℕ → Result ℕ AsmFaultKind} (r₁ : IsReader s₁ form₁ read₁) (r₂ : IsReader s₂ form₂ read₂) where
    two_sound : (ws : List (List ℕ)) (t : ℕ × ℕ) → two_in read₁ read₂ ws ≡ Ok t → AreOperands pcs (form₁ t.0 ∷ form₂ t.1 ∷ []) ws
    two_sound [] t h = absurd cc
    two_sound (v ∷ []) t h = absurd cc
    two_sound (v ∷ w ∷ []) t h = let p = pair_parts (read₁ v) (read₂ w) t h in (r₁.sound v t.0 p.0, (r₂.sound w t.1 p.1, tt))
    two_sound (v ∷ w ∷ x ∷ ws) t h = absurd cc

    two_complete : (ws : List (List ℕ)) (a b : ℕ) → AreOperands pcs (form₁ a ∷ form₂ b ∷ []) ws → two_in read₁ read₂ ws ≡ Ok (a, b)
    two_complete [] a b h = absurd h
    two_complete (v ∷ []) a b h = absurd h.1
    two_complete (v ∷ w ∷ []) a b h = rw (r₁.complete v a h.0, r₂.complete w b h.1.0) refl
    two_complete (v ∷ w ∷ x ∷ ws) a b h = absurd h.1.1

    two_faults : (v w : List ℕ) → or_else (operand_fault pcs s₁ v) (or_else (operand_fault pcs s₂ w) None) ≡ fault_in (both_operands (read₁ v) (read₂ w))
    two_faults v w = rw (r₁.fault v, last_fault r₂ w) (pair_fault (read₁ v) (read₂ w))

    two_fault : (ws : List (List ℕ)) → fault_of_operands pcs (s₁ ∷ s₂ ∷ []) ws ≡ fault_in (two_in read₁ read₂ ws)
    two_fault [] = refl
    two_fault (v ∷ []) = refl
    two_fault (v ∷ w ∷ []) = two_faults v w
    two_fault (v ∷ w ∷ x ∷ ws) = wrong_number (length (v ∷ w ∷ x ∷ ws)) 2 (or_else (operand_fault pcs s₁ v) (or_else (operand_fault pcs s₂ w) None)) (omega arith)

  -- ---- three operands
  triple_parts : (a b c : Result ℕ AsmFaultKind) (t : ℕ × ℕ × ℕ) → all_three_operands a b c ≡ Ok t → (a ≡ Ok t.0) × (b ≡ Ok t.1) × (c ≡ Ok t.2)
  triple_parts (Err e) b c t h = absurd cc
  triple_parts (Ok a) (Err e) c t h = absurd cc
  triple_parts (Ok a) (Ok b) (Err e) t h = absurd cc
  triple_parts (Ok a) (Ok b) (Ok c) t h = let same : (a, b, c) ≡ t = cc in (ap (λ (p : ℕ × ℕ × ℕ). Ok p.0) same, ap (λ (p : ℕ × ℕ × ℕ). Ok p.1) same, ap (λ (p : ℕ × ℕ × ℕ). Ok p.2) same)

  triple_fault : (a b c : Result ℕ AsmFaultKind) → or_else (fault_in a) (or_else (fault_in b) (fault_in c)) ≡ fault_in (all_three_operands a b c)
  triple_fault (Err e) b c = refl
  triple_fault (Ok a) (Err e) c = refl
  triple_fault (Ok a) (Ok b) (Err e) = refl
  triple_fault (Ok a) (Ok b) (Ok c) = refl

  module _ {s₁ s₂ s₃ : Sort} {form₁ form₂ form₃ : ℕ → Operand} {read₁ read₂ read₃ : List ℕ → Result ℕ AsmFaultKind} (r₁ : IsReader s₁ form₁ read₁) (r₂ : IsReader s₂ form₂ read₂) (r₃ : IsReader s₃ form₃ read₃) where
    three_sound : (ws : List (List ℕ)) (t : ℕ × ℕ × ℕ) → three_in read₁ read₂ read₃ ws ≡ Ok t → AreOperands pcs (form₁ t.0 ∷ form₂ t.1 ∷ form₃ t.2 ∷ []) ws
    three_sound [] t h = absurd cc
    three_sound (v ∷ []) t h = absurd cc
    three_sound (v ∷ w ∷ []) t h = absurd cc
    three_sound (v ∷ w ∷ x ∷ []) t h = let p = triple_parts (read₁ v) (read₂ w) (read₃ x) t h in (r₁.sound v t.0 p.0, (r₂.sound w t.1 p.1, (r₃.sound x t.2 p.2, tt)))
    three_sound (v ∷ w ∷ x ∷ y ∷ ws) t h = absurd cc

    three_complete : (ws : List (List ℕ)) (a b c : ℕ) → AreOperands pcs (form₁ a ∷ form₂ b ∷ form₃ c ∷ []) ws → three_in read₁ read₂ read₃ ws ≡ Ok (a, b, c)
    three_complete [] a b c h = absurd h
    three_complete (v ∷ []) a b c h = absurd h.1
    three_complete (v ∷ w ∷ []) a b c h = absurd h.1.1
    three_complete (v ∷ w ∷ x ∷ []) a b c h = rw (r₁.complete v a h.0, r₂.complete w b h.1.0, r₃.complete x c h.1.1.0) refl
    three_complete (v ∷ w ∷ x ∷ y ∷ ws) a b c h = absurd h.1.1.1

    three_faults : (v w x : List ℕ) → or_else (operand_fault pcs s₁ v) (or_else (operand_fault pcs s₂ w) (or_else (operand_fault pcs s₃ x) None)) ≡ fault_in (all_three_operands (read₁ v) (read₂ w) (read₃ x))
    three_faults v w x = rw (r₁.fault v, r₂.fault w, last_fault r₃ x) (triple_fault (read₁ v) (read₂ w) (read₃ x))

    three_fault : (ws : List (List ℕ)) → fault_of_operands pcs (s₁ ∷ s₂ ∷ s₃ ∷ []) ws ≡ fault_in (three_in read₁ read₂ read₃ ws)
    three_fault [] = refl
    three_fault (v ∷ []) = refl
    three_fault (v ∷ w ∷ []) = refl
    three_fault (v ∷ w ∷ x ∷ []) = three_faults v w x
    three_fault (v ∷ w ∷ x ∷ y ∷ ws) = wrong_number (length (v ∷ w ∷ x ∷ y ∷ ws)) 3 (or_else (operand_fault pcs s₁ v) (or_else (operand_fault pcs s₂ w) (or_else (operand_fault pcs s₃ x) None))) (omega arith)

  -- ---- what is made of what is read
  made_from : {A B : Type 0} (P : B → Type 0) (f : A → B) (r : Result A AsmFaultKind) → ((a : A) → r ≡ Ok a → P (f a)) → (b : B) → map_ok f r ≡ Ok b → P b
  made_from P f (Err e) from b h = absurd cc
  made_from P f (Ok a) from b h = let same : f a ≡ b = cc in subst P same (from a refl)

  pub made_fault : {A B : Type 0} (f : A → B) (r : Result A AsmFaultKind) → fault_in r ≡ fault_in (map_ok f r)
  made_fault f (Err e) = refl
  made_fault f (Ok a) = refl

  -- the instruction has this mnemonic, and these are its operands
  abbrev pub IsOf : Mnemonic → List (List ℕ) → Instr → Type 0
  IsOf m ws i = (mnemonic_of i ≡ m) × AreOperands pcs (operands_of i) ws

  pub read_sound : (m : Mnemonic) (ws : List (List ℕ)) (i : Instr) → read_instruction pcs m ws ≡ Ok i → IsOf m ws i
  read_sound Set ws i = made_from (IsOf Set ws) (λ (t : ℕ × ℕ). instr.Set t.0 t.1) _ (λ t h. (refl, two_sound registers numbers ws t h)) i
  read_sound Add ws i = made_from (IsOf Add ws) (λ (t : ℕ × ℕ × ℕ). instr.Add t.0 t.1 t.2) _ (λ t h. (refl, three_sound registers registers registers ws t h)) i
  read_sound AddWord ws i = made_from (IsOf AddWord ws) (λ (t : ℕ × ℕ × ℕ). instr.AddWord t.0 t.1 t.2) _ (λ t h. (refl, three_sound registers registers numbers ws t h)) i
  read_sound Subtract ws i = made_from (IsOf Subtract ws) (λ (t : ℕ × ℕ × ℕ). instr.Subtract t.0 t.1 t.2) _ (λ t h. (refl, three_sound registers registers registers ws t h)) i
  read_sound And ws i = made_from (IsOf And ws) (λ (t : ℕ × ℕ × ℕ). instr.And t.0 t.1 t.2) _ (λ t h. (refl, three_sound registers registers registers ws t h)) i
  read_sound ShiftRight ws i = made_from (IsOf ShiftRight ws) (λ (t : ℕ × ℕ × ℕ). instr.ShiftRight t.0 t.1 t.2) _ (λ t h. (refl, three_sound registers registers shifts ws t h)) i
  read_sound IsBelow ws i = made_from (IsOf IsBelow ws) (λ (t : ℕ × ℕ × ℕ). instr.IsBelow t.0 t.1 t.2) _ (λ t h. (refl, three_sound registers registers registers ws t h)) i
  read_sound IsEqual ws i = made_from (IsOf IsEqual ws) (λ (t : ℕ × ℕ × ℕ). instr.IsEqual t.0 t.1 t.2) _ (λ t h. (refl, three_sound registers registers registers ws t h)) i
  read_sound JumpIfZero ws i = made_from (IsOf JumpIfZero ws) (λ (t : ℕ × ℕ). instr.JumpIfZero t.0 t.1) _ (λ t h. (refl, two_sound registers labels ws t h)) i
  read_sound JumpIfNotZero ws i = made_from (IsOf JumpIfNotZero ws) (λ (t : ℕ × ℕ). instr.JumpIfNotZero t.0 t.1) _ (λ t h. (refl, two_sound registers labels ws t h)) i
  read_sound Jump ws i = made_from (IsOf Jump ws) (λ (t : ℕ). instr.Jump t) _ (λ t h. (refl, one_sound labels ws t h)) i
  read_sound Number ws i = made_from (IsOf Number ws) (λ (t : ℕ). instr.Number t) _ (λ t h. (refl, one_sound registers ws t h)) i
  read_sound Size ws i = made_from (IsOf Size ws) (λ (t : ℕ). instr.Size t) _ (λ t h. (refl, one_sound registers ws t h)) i
  read_sound Load ws i = made_from (IsOf Load ws) (λ (t : ℕ × ℕ). instr.Load t.0 t.1) _ (λ t h. (refl, two_sound registers registers ws t h)) i
  read_sound Store ws i = made_from (IsOf Store ws) (λ (t : ℕ × ℕ). instr.Store t.0 t.1) _ (λ t h. (refl, two_sound registers registers ws t h)) i
  read_sound Faa ws i = made_from (IsOf Faa ws) (λ (t : ℕ × ℕ × ℕ). instr.Faa t.0 t.1 t.2) _ (λ t h. (refl, three_sound registers registers registers ws t h)) i
  read_sound Swap ws i = made_from (IsOf Swap ws) (λ (t : ℕ × ℕ × ℕ). instr.Swap t.0 t.1 t.2) _ (λ t h. (refl, three_sound registers registers registers ws t h)) i
  read_sound Fence ws i = made_from (IsOf Fence ws) (λ t. instr.Fence) (none_in ws) (λ t h. (refl, none_sound ws t h)) i
  read_sound Halt ws i = made_from (IsOf Halt ws) (λ t. instr.Halt) (none_in ws) (λ t h. (refl, none_sound ws t h)) i

  pub read_complete : (i : Instr) (ws : List (List ℕ)) → AreOperands pcs (operands_of i) ws → read_instruction pcs (mnemonic_of i) ws ≡ Ok i
  read_complete (instr.Set d n) ws h = ap (map_ok (λ (t : ℕ × ℕ). instr.Set t.0 t.1)) (two_complete registers numbers ws d n h)
  read_complete (instr.Add d a b) ws h = ap (map_ok (λ (t : ℕ × ℕ × ℕ). instr.Add t.0 t.1 t.2)) (three_complete registers registers registers ws d a b h)
  read_complete (instr.AddWord d a n) ws h = ap (map_ok (λ (t : ℕ × ℕ × ℕ). instr.AddWord t.0 t.1 t.2)) (three_complete registers registers numbers ws d a n h)
  read_complete (instr.Subtract d a b) ws h = ap (map_ok (λ (t : ℕ × ℕ × ℕ). instr.Subtract t.0 t.1 t.2)) (three_complete registers registers registers ws d a b h)
  read_complete (instr.And d a b) ws h = ap (map_ok (λ (t : ℕ × ℕ × ℕ). instr.And t.0 t.1 t.2)) (three_complete registers registers registers ws d a b h)
  read_complete (instr.ShiftRight d a n) ws h = ap (map_ok (λ (t : ℕ × ℕ × ℕ). instr.ShiftRight t.0 t.1 t.2)) (three_complete registers registers shifts ws d a n h)
  read_complete (instr.IsBelow d a b) ws h = ap (map_ok (λ (t : ℕ × ℕ × ℕ). instr.IsBelow t.0 t.1 t.2)) (three_complete registers registers registers ws d a b h)
  read_complete (instr.IsEqual d a b) ws h = ap (map_ok (λ (t : ℕ × ℕ × ℕ). instr.IsEqual t.0 t.1 t.2)) (three_complete registers registers registers ws d a b h)
  read_complete (instr.JumpIfZero a target) ws h = ap (map_ok (λ (t : ℕ × ℕ). instr.JumpIfZero t.0 t.1)) (two_complete registers labels ws a target h)
  read_complete (instr.JumpIfNotZero a target) ws h = ap (map_ok (λ (t : ℕ × ℕ). instr.JumpIfNotZero t.0 t.1)) (two_complete registers labels ws a target h)
  read_complete (instr.Jump target) ws h = ap (map_ok (λ (t : ℕ). instr.Jump t)) (one_complete labels ws target h)
  read_complete (instr.Number d) ws h = ap (map_ok (λ (t : ℕ). instr.Number t)) (one_complete registers ws d h)
  read_complete (instr.Size d) ws h = ap (map_ok (λ (t : ℕ). instr.Size t)) (one_complete registers ws d h)
  read_complete (instr.Load d a) ws h = ap (map_ok (λ (t : ℕ × ℕ). instr.Load t.0 t.1)) (two_complete registers registers ws d a h)
  read_complete (instr.Store a b) ws h = ap (map_ok (λ (t : ℕ × ℕ). instr.Store t.0 t.1)) (two_complete registers registers ws a b h)
  read_complete (instr.Faa d a b) ws h = ap (map_ok (λ (t : ℕ × ℕ × ℕ). instr.Faa t.0 t.1 t.2)) (three_complete registers registers registers ws d a b h)
  read_complete (instr.Swap d a b) ws h = ap (map_ok (λ (t : ℕ × ℕ × ℕ). instr.Swap t.0 t.1 t.2)) (three_complete registers registers registers ws d a b h)
  read_complete instr.Fence ws h = ap (map_ok (λ (t : Unit {0}). instr.Fence)) (none_complete ws h)
  read_complete instr.Halt ws h = ap (map_ok (λ (t : Unit {0}). instr.Halt)) (none_complete ws h)

  pub read_fault : (m : Mnemonic) (ws : List (List ℕ)) → fault_of_operands pcs (sorts_of m) ws ≡ fault_in (read_instruction pcs m ws)
  read_fault Set ws = two_fault registers numbers ws ∙ made_fault (λ (t : ℕ × ℕ). instr.Set t.0 t.1) _
  read_fault Add ws = three_fault registers registers registers ws ∙ made_fault (λ (t : ℕ × ℕ × ℕ). instr.Add t.0 t.1 t.2) _
  read_fault AddWord ws = three_fault registers registers numbers ws ∙ made_fault (λ (t : ℕ × ℕ × ℕ). instr.AddWord t.0 t.1 t.2) _
  read_fault Subtract ws = three_fault registers registers registers ws ∙ made_fault (λ (t : ℕ × ℕ × ℕ). instr.Subtract t.0 t.1 t.2) _
  read_fault And ws = three_fault registers registers registers ws ∙ made_fault (λ (t : ℕ × ℕ × ℕ). instr.And t.0 t.1 t.2) _
  read_fault ShiftRight ws = three_fault registers registers shifts ws ∙ made_fault (λ (t : ℕ × ℕ × ℕ). instr.ShiftRight t.0 t.1 t.2) _
  read_fault IsBelow ws = three_fault registers registers registers ws ∙ made_fault (λ (t : ℕ × ℕ × ℕ). instr.IsBelow t.0 t.1 t.2) _
  read_fault IsEqual ws = three_fault registers registers registers ws ∙ made_fault (λ (t : ℕ × ℕ × ℕ). instr.IsEqual t.0 t.1 t.2) _
  read_fault JumpIfZero ws = two_fault registers labels ws ∙ made_fault (λ (t : ℕ × ℕ). instr.JumpIfZero t.0 t.1) _
  read_fault JumpIfNotZero ws = two_fault registers labels ws ∙ made_fault (λ (t : ℕ × ℕ). instr.JumpIfNotZero t.0 t.1) _
  read_fault Jump ws = one_fault labels ws ∙ made_fault (λ (t : ℕ). instr.Jump t) _
  read_fault Number ws = one_fault registers ws ∙ made_fault (λ (t : ℕ). instr.Number t) _
  read_fault Size ws = one_fault registers ws ∙ made_fault (λ (t : ℕ). instr.Size t) _
  read_fault Load ws = two_fault registers registers ws ∙ made_fault (λ (t : ℕ × ℕ). instr.Load t.0 t.1) _
  read_fault Store ws = two_fault registers registers ws ∙ made_fault (λ (t : ℕ × ℕ). instr.Store t.0 t.1) _
  read_fault Faa ws = three_fault registers registers registers ws ∙ made_fault (λ (t : ℕ × ℕ × ℕ). instr.Faa t.0 t.1 t.2) _
  read_fault Swap ws = three_fault registers registers registers ws ∙ made_fault (λ (t : ℕ × ℕ × ℕ). instr.Swap t.0 t.1 t.2) _
  read_fault Fence ws = none_fault ws ∙ made_fault (λ (t : Unit {0}). instr.Fence) _
  read_fault Halt ws = none_fault ws ∙ made_fault (λ (t : Unit {0}). instr.Halt) _
