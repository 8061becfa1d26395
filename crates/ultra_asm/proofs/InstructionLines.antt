-- the lines of a text's instructions: the program counter of a line is how many are before it
use Rattle.std.proofs.Common.{◌≡◌, ℕ, zero, suc, ◌+◌, ◌-◌, ◌<◌, ◌≤◌, ◌⊎◌, true, false, List, [], ◌∷◌, ◌++◌, length, get_or, take, nat_lt, min, Some, refl, ◌∙◌, ap, inl, inr, arith}
use Rattle.std.specs.List.Sorted.{IsNonDecreasing}
use Rattle.std.proofs.lemmas.{Bool.{cases_Bool, cases_lt, lt-ltb, le-ltb}, List.{get_or_append_left, get_or_push, get_or_default, length_push, Sorted.{IsNonDecreasingBy-push, IsNonDecreasingBy-short}, Sums.prefix_len_is}}
use Rattle.ultra_asm.specs.{declared.labels.Definition.Definition, Label.pc_at, Labels.{instructions_on, defines, definition_from}, ProgramText.statements}
use Rattle.ultra_asm.proofs.Definitions.{Lines, count_cons, count_next}

-- how many instructions are before line k
abbrev pub count : Lines → ℕ → ℕ
count ls k = length (statements (take k ls))

count_none : (a : ℕ) → count [] a ≡ 0
count_none zero = refl
count_none (suc a) = refl

count_rises : (ls : Lines) (a b : ℕ) → a ≤ b → count ls a ≤ count ls b
count_rises [] a b h = omega (arith, count_none a, count_none b)
count_rises (ws ∷ ls) zero b h = omega arith
count_rises (ws ∷ ls) (suc a) zero h = absurd (omega arith)
count_rises (ws ∷ ls) (suc a) (suc b) h = omega (arith, count_cons ws (take a ls), count_cons ws (take b ls), count_rises ls a b (omega arith))

-- ---- the program counter of a definition
pub record IsPlaced (line pc : ℕ) (ls : Lines) (d : Definition) : Type 0 where
  pub on : ℕ
  pub within : on < length ls
  pub lines : d.line ≡ line + on
  pub pcs : d.pc ≡ pc + count ls on

placed_here : (line pc : ℕ) (ws : List (List ℕ)) (ls : Lines) (d : Definition) → Some (record { line = line; pc = pc }) ≡ Some d → IsPlaced line pc (ws ∷ ls) d
placed_here line pc ws ls d h =
    let at : d.line ≡ line = cc in
    let near : d.pc ≡ pc = cc in
    record { on = 0; within = omega arith; lines = omega arith; pcs = omega arith }

placed_next : (line pc : ℕ) (ws : List (List ℕ)) (ls : Lines) (d : Definition) → IsPlaced (line + 1) (pc + instructions_on ws) ls d → IsPlaced line pc (ws ∷ ls) d
placed_next line pc ws ls d p =
    let within = p.within in
    let lines = p.lines in
    let pcs = p.pcs in
    record { on = suc p.on; within = omega arith; lines = omega arith; pcs = omega (arith, count_cons ws (take p.on ls)) }

pub definition_placed : (line pc : ℕ) (ls : Lines) (name : List ℕ) (d : Definition) → definition_from line pc ls name ≡ Some d → IsPlaced line pc ls d
definition_placed line pc [] name d h = absurd cc
definition_placed line pc (ws ∷ ls) name d h = elim (cases_Bool (defines ws name)) [
  | inl t ↦ placed_here line pc ws ls d (rw t at h)
  | inr f ↦ placed_next line pc ws ls d (definition_placed (line + 1) (pc + instructions_on ws) ls name d (rw f at h))
]

-- ---- the lines of the first instructions, up to line k
pub record AreInstructionLines (ls : Lines) (k : ℕ) (is : List ℕ) : Type 0 where
  pub number : length is ≡ min (count ls k) 4096
  pub before : (j : ℕ) → j < length is → count ls (get_or is j 0) ≡ j
  pub behind : (j : ℕ) → j < length is → count ls (get_or is j 0 + 1) ≡ j + 1
  pub earlier : (j : ℕ) → j < length is → get_or is j 0 < k
  pub rising : IsNonDecreasing is

pub no_instruction_lines : (ls : Lines) → AreInstructionLines ls 0 []
no_instruction_lines ls = record {
  number = omega arith;
  before = λ j h. absurd (omega arith);
  behind = λ j h. absurd (omega arith);
  earlier = λ j h. absurd (omega arith);
  rising = IsNonDecreasingBy-short (λ x. x) [] (omega arith);
}

module _ (ls : Lines) (k : ℕ) (is : List ℕ) (lt : k < length ls) (are : AreInstructionLines ls k is) where
  -- a line that isn't kept
  pub lines_same : (instructions_on (get_or ls k []) ≡ 0) ⊎ (4096 ≤ length is) → AreInstructionLines ls (k + 1) is
  lines_same h =
      let number = are.number in
      record {
        number = elim h [ inl none ↦ omega (arith, count_next ls k lt) | inr full ↦ omega (arith, count_next ls k lt) ];
        before = are.before;
        behind = are.behind;
        earlier = λ j l. let e = are.earlier j l in omega arith;
        rising = are.rising;
      }

  -- one that is
  pub lines_push : instructions_on (get_or ls k []) ≡ 1 → length is < 4096 → AreInstructionLines ls (k + 1) (is ++ k ∷ [])
  lines_push one room =
      let number = are.number in
      let here : count ls k ≡ length is = omega arith in
      let longer = length_push is k in
      let old : (j : ℕ) → j < length is → get_or (is ++ k ∷ []) j 0 ≡ get_or is j 0 = λ j l. get_or_append_left is (k ∷ []) 0 j l in
      let new : (j : ℕ) → length is ≡ j → get_or (is ++ k ∷ []) j 0 ≡ k = λ j e. get_or_push is k 0 j e in
      record {
        number = omega (arith, count_next ls k lt);
        before = λ j l. elim (cases_lt j (length is)) [
          | inl m ↦ ap (count ls) (old j m) ∙ are.before j m
          | inr m ↦ let last : length is ≡ j = omega arith in ap (count ls) (new j last) ∙ here ∙ last
        ];
        behind = λ j l. elim (cases_lt j (length is)) [
          | inl m ↦ ap (λ n. count ls (n + 1)) (old j m) ∙ are.behind j m
          | inr m ↦ let last : length is ≡ j = omega arith in ap (λ n. count ls (n + 1)) (new j last) ∙ omega (arith, count_next ls k lt)
        ];
        earlier = λ j l. elim (cases_lt j (length is)) [
          | inl m ↦ let e = are.earlier j m in omega (arith, old j m)
          | inr m ↦ let last : length is ≡ j = omega arith in omega (arith, new j last)
        ];
        rising = IsNonDecreasingBy-push (λ x. x) is k are.rising (λ d some. let e = are.earlier (length is - 1) (omega arith) in omega (arith, get_or_default is (length is - 1) d 0 (omega arith)));
      }

-- all of them
module _ (ls : Lines) (k : ℕ) (is : List ℕ) (all : length ls ≤ k) (are : AreInstructionLines ls k is) (line : ℕ) (within : line ≤ k) where
  below : (j : ℕ) → j < min (count ls line) 4096 → nat_lt (get_or is j 0) line ≡ true
  below j h =
      let number = are.number in
      let rises = count_rises ls line k within in
      let at = are.before j (omega arith) in
      elim (cases_lt (get_or is j 0) line) [
        | inl l ↦ lt-ltb _ _ l
        | inr l ↦ absurd (omega (arith, count_rises ls line (get_or is j 0) l))
      ]

  above : min (count ls line) 4096 < length is → nat_lt (get_or is (min (count ls line) 4096) 0) line ≡ false
  above h =
      let number = are.number in
      let at = are.behind (min (count ls line) 4096) h in
      elim (cases_lt (get_or is (min (count ls line) 4096) 0) line) [
        | inl l ↦ absurd (omega (arith, count_rises ls (get_or is (min (count ls line) 4096) 0 + 1) line (omega arith)))
        | inr l ↦ le-ltb _ _ l
      ]

  pub pc_is : pc_at is line ≡ min (count ls line) 4096
  pc_is = prefix_len_is (λ n. nat_lt n line) is (min (count ls line) 4096) 0 (let number = are.number in omega (arith, count_rises ls line k within)) below above
