-- what is written for an operand is read as it again
use Rattle.std.proofs.Common.{◌≡◌, ℕ, ◌+◌, ◌-◌, ◌<◌, ◌≤◌, ◌^◌, Bool, true, false, not, ◌||◌, List, [], ◌∷◌, ◌++◌, map, length, take, drop, get_or, codes, decimal, Option, Some, None, refl, ◌∙◌, ap, arith, length-append}
use Rattle.std.specs.{List.list_all, Int.IsInRange, Str.Parse.{AllDigits, digits_value}}
use Rattle.std.proofs.lemmas.{Bool.{and_from, eq-eqb, le-leb, lt-ltb, cond-true}, List.{Folds.list_all-append, take_at, get_or_at}, Fmt.{decimal_is_IsNumeral, length-decimal-le, decimal_injective}, Str.Parse.digit_from_value}
use Rattle.ultra_asm.specs.{declared.instruction.{Mnemonic.Mnemonic, Operand.Operand}, Instruction.mnemonic_word, ProgramText.{IsOperand, AreOperands}, Listing.{label_text, operand_text, IsWritable, AreWritable}}
use Rattle.ultra_asm.specs.declared.instruction.Mnemonic.TheVariants.{Set, Add, AddWord, Subtract, And, ShiftRight, IsBelow, IsEqual, JumpIfZero, JumpIfNotZero, Jump, Number, Size, Load, Store, Faa, Swap, Fence, Halt}
use Rattle.ultra_asm.specs.declared.instruction.Operand.TheVariants as operand
use Rattle.ultra_asm.specs.Words.{is_letter, is_name_byte, is_name, before_colon, has_leading_zero, is_register, register_of, shift_of}
use Rattle.ultra_io.proofs.Numerals.{no_leading_zero, is_number_back, number_back}
use Rattle.ultra_asm.proofs.Cutting.{IsPlain, ArePlain, is_plain, digits_plain}

-- ---- numbers
shift_back : (n : ℕ) → n < 32 → shift_of (decimal n) ≡ Some n
shift_back n small =
    let value : digits_value 10 (decimal n) ≡ n = (decimal_is_IsNumeral n (omega arith)).1 in
    cond-true _ _ _ (and_from _ _ (is_number_back n (omega arith)) (rw value (lt-ltb n 32 small))) ∙ ap Some value

-- ---- registers
register_back : (n : ℕ) → n < 16 → register_of (codes "r" ++ decimal n) ≡ Some n
register_back n small =
    let value : digits_value 10 (decimal n) ≡ n = (decimal_is_IsNumeral n (omega arith)).1 in
    let zero_free : not (has_leading_zero (decimal n)) ≡ true = ap not (no_leading_zero n (omega arith)) in
    cond-true (is_register (codes "r" ++ decimal n)) _ _ (and_from _ _ (and_from _ _ (and_from _ _ refl zero_free) (is_number_back n (omega arith))) (rw value (lt-ltb n 16 small))) ∙ ap Some value

-- ---- labels
or_yes : (b : Bool) → (b || true) ≡ true
or_yes true = refl
or_yes false = refl

digit_in_name : (c : ℕ) → IsInRange 48 57 c → is_name_byte c ≡ true
digit_in_name c (low, high) = rw (le-leb 48 c low, le-leb c 57 high) (or_yes (is_letter c))

digits_in_name : (ds : List ℕ) → AllDigits 10 ds → list_all is_name_byte ds ≡ true
digits_in_name [] h = refl
digits_in_name (c ∷ cs) h = and_from (is_name_byte c) (list_all is_name_byte cs) (digit_in_name c (digit_from_value c h.0)) (digits_in_name cs h.1)

pub label_name : (k : ℕ) → k < 2 ^ 16 → is_name (label_text k) ≡ true
label_name k small =
    let short : length (decimal k) ≤ 5 = length-decimal-le 5 k (omega arith) (omega arith) (omega arith) in
    and_from _ _ (and_from _ _ (and_from _ _ (lt-ltb 0 (length (label_text k)) (omega arith)) (le-leb (length (label_text k)) 32 (omega arith))) refl) (digits_in_name (decimal k) (decimal_is_IsNumeral k (omega arith)).0.1)

pub label_apart : (j k : ℕ) → j < 2 ^ 16 → k < 2 ^ 16 → label_text j ≡ label_text k → j ≡ k
label_apart j k small low same =
    let digits : decimal j ≡ decimal k = ap (drop 1) same in
    decimal_injective j k (omega arith) (omega arith) digits

pub colon_back : (name : List ℕ) → before_colon (name ++ codes ":") ≡ Some name
colon_back name =
    let n : length (name ++ codes ":") ≡ length name + 1 = length-append name (codes ":") in
    let back : length (name ++ codes ":") - 1 ≡ length name = omega arith in
    let last : get_or (name ++ codes ":") (length (name ++ codes ":") - 1) 0 ≡ 58 = ap (λ k. get_or (name ++ codes ":") k 0) back ∙ get_or_at name 58 [] 0 (length name) refl in
    cond-true _ _ _ (and_from _ _ (lt-ltb 0 (length (name ++ codes ":")) (omega arith)) (eq-eqb _ 58 last)) ∙ ap Some (ap (λ k. take k (name ++ codes ":")) back ∙ take_at name (codes ":") (length name) refl)

-- ---- plain words
decimal_plain : (n : ℕ) → n < 2 ^ 64 → IsPlain (decimal n)
decimal_plain n small = let p = decimal_is_IsNumeral n small in record { bytes = digits_plain (decimal n) p.0.1; some = p.0.0 }

pub operand_plain : (o : Operand) → IsWritable o → IsPlain (operand_text o)
operand_plain (operand.Register r) h = let p = decimal_plain r (omega arith) in record { bytes = p.bytes; some = omega arith }
operand_plain (operand.Number n) h = decimal_plain n (omega arith)
operand_plain (operand.Bits n) h = decimal_plain n (omega arith)
operand_plain (operand.Label k) h = let p = decimal_plain k (omega arith) in record { bytes = p.bytes; some = omega arith }

pub operands_plain : (os : List Operand) → AreWritable os → ArePlain os
operands_plain [] h = tt
operands_plain (o ∷ os) h = (operand_plain o h.0, operands_plain os h.1)

append_plain : (w v : List ℕ) → IsPlain w → list_all is_plain v ≡ true → IsPlain (w ++ v)
append_plain w v p h = let some = p.some in record { bytes = list_all-append is_plain w v ∙ and_from _ _ p.bytes h; some = omega (arith, length-append w v) }

pub label_plain : (k : ℕ) → k < 2 ^ 16 → IsPlain (label_text k ++ codes ":")
label_plain k small = append_plain (label_text k) (codes ":") (operand_plain (operand.Label k) small) refl

pub word_plain : (m : Mnemonic) → IsPlain (mnemonic_word m)
word_plain Set = record { bytes = refl; some = omega arith }
word_plain Add = record { bytes = refl; some = omega arith }
word_plain AddWord = record { bytes = refl; some = omega arith }
word_plain Subtract = record { bytes = refl; some = omega arith }
word_plain And = record { bytes = refl; some = omega arith }
word_plain ShiftRight = record { bytes = refl; some = omega arith }
word_plain IsBelow = record { bytes = refl; some = omega arith }
word_plain IsEqual = record { bytes = refl; some = omega arith }
word_plain JumpIfZero = record { bytes = refl; some = omega arith }
word_plain JumpIfNotZero = record { bytes = refl; some = omega arith }
word_plain Jump = record { bytes = refl; some = omega arith }
word_plain Number = record { bytes = refl; some = omega arith }
word_plain Size = record { bytes = refl; some = omega arith }
word_plain Load = record { bytes = refl; some = omega arith }
word_plain Store = record { bytes = refl; some = omega arith }
word_plain Faa = record { bytes = refl; some = omega arith }
word_plain Swap = record { bytes = refl; some = omega arith }
word_plain Fence = record { bytes = refl; some = omega arith }
word_plain Halt = record { bytes = refl; some = omega arith }

-- no mnemonic ends with a colon
pub word_no_colon : (m : Mnemonic) → before_colon (mnemonic_word m) ≡ None
word_no_colon Set = refl
word_no_colon Add = refl
word_no_colon AddWord = refl
word_no_colon Subtract = refl
word_no_colon And = refl
word_no_colon ShiftRight = refl
word_no_colon IsBelow = refl
word_no_colon IsEqual = refl
word_no_colon JumpIfZero = refl
word_no_colon JumpIfNotZero = refl
word_no_colon Jump = refl
word_no_colon Number = refl
word_no_colon Size = refl
word_no_colon Load = refl
word_no_colon Store = refl
word_no_colon Faa = refl
word_no_colon Swap = refl
word_no_colon Fence = refl
word_no_colon Halt = refl

-- ---- operands, where a jump's label is at its target
module _ (pcs : List ℕ → Option ℕ) where
  abbrev pub IsPlaced : Operand → Type 0
  IsPlaced (operand.Register r) = Unit {0}
  IsPlaced (operand.Number n) = Unit {0}
  IsPlaced (operand.Bits n) = Unit {0}
  IsPlaced (operand.Label k) = pcs (label_text k) ≡ Some k

  abbrev pub ArePlaced : List Operand → Type 0
  ArePlaced [] = Unit {0}
  ArePlaced (o ∷ os) = IsPlaced o × ArePlaced os

  operand_back : (o : Operand) → IsWritable o → IsPlaced o → IsOperand pcs o (operand_text o)
  operand_back (operand.Register r) h p = register_back r h
  operand_back (operand.Number n) h p = number_back n h
  operand_back (operand.Bits n) h p = shift_back n h
  operand_back (operand.Label k) h p = p

  pub operands_back : (os : List Operand) → AreWritable os → ArePlaced os → AreOperands pcs os (map operand_text os)
  operands_back [] h p = tt
  operands_back (o ∷ os) h p = (operand_back o h.0 p.0, operands_back os h.1 p.1)
