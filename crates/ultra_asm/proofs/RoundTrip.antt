-- the canonical text is written for its program
use Rattle.std.proofs.Common.{◌≡◌, ℕ, zero, suc, ◌+◌, ◌<◌, ◌≤◌, ◌^◌, Bool, true, false, ◌||◌, List, [], ◌∷◌, ◌++◌, map, length, take, filter, get_or, codes, Option, Some, None, is_some, IsTrue, refl, sym, ◌∙◌, ap, inl, inr, append_assoc, append-nil, subst, IfSome, arith}
use Rattle.std.specs.{List.AllByRecursion, Option.option_map, Str.bytes_eq}
use Rattle.std.proofs.lemmas.{Bool.{and_parts, leb-true, cases_eq, eq-eqb, false_from_ne_true}, Slice.Eq.bytes_eq-Decides}
use Rattle.ultra_isa.specs.{declared.Instr.Instr, Program.{jumps_within, all_jump_within, is_program}}
use Rattle.ultra_isa.specs.declared.Instr.TheVariants as instr
use Rattle.ultra_asm.specs.{Words.{text_words, before_colon, is_name}, Instruction.{mnemonic_word, mnemonic_of, operands_of}}
use Rattle.ultra_asm.specs.Labels.{if_name, line_label, after_label, statement, one_or_none, instructions_on, defines, definition_from, definition_of, label_pc}
use Rattle.ultra_asm.specs.ProgramText.{IsInstruction, AreInstructions, has_words, statements, IsLabelled, AreLinesOf, IsProgramText}
use Rattle.ultra_asm.specs.Listing.{newline, label_text, operand_text, operands_text, instruction_line, jump_target, is_at, is_target, label_if, listing_from, listing_text, AreWritable, IsListable}
use Rattle.ultra_asm.proofs.{Definitions.{Lines, definition_append}, Places.target_within, Cutting.text_next}
use Rattle.ultra_asm.proofs.Spelled.{label_name, label_apart, colon_back, label_plain, word_plain, operands_plain, word_no_colon, ArePlaced, operands_back}

-- ---- the words of the canonical lines
abbrev pub instruction_words : Instr → List (List ℕ)
instruction_words i = mnemonic_word (mnemonic_of i) ∷ map operand_text (operands_of i)

abbrev pub label_words : ℕ → List (List ℕ)
label_words k = (label_text k ++ codes ":") ∷ []

abbrev pub label_lines : Bool → ℕ → Lines
label_lines true k = label_words k ∷ []
label_lines false k = []

-- those from program counter k on; the text ends with an empty line
abbrev pub lines_from : List Instr → ℕ → List Instr → Lines
lines_from all k [] = label_lines (is_target all k) k ++ [] ∷ []
lines_from all k (i ∷ is) = label_lines (is_target all k) k ++ (instruction_words i ∷ lines_from all (k + 1) is)

-- the end of a line, apart from what follows
regroup : (name rest : List ℕ) → (name ++ (codes ":" ++ newline)) ++ rest ≡ ((name ++ codes ":") ++ []) ++ 10 ∷ rest
regroup name rest =
    append_assoc name (codes ":" ++ newline) rest ∙ sym (append_assoc name (codes ":") (10 ∷ rest)) ∙ ap (λ xs. xs ++ 10 ∷ rest) (sym (append-nil (name ++ codes ":")))

regroup_words : (word operands rest : List ℕ) → (word ++ (operands ++ newline)) ++ rest ≡ (word ++ operands) ++ 10 ∷ rest
regroup_words word operands rest = ap (λ xs. xs ++ rest) (sym (append_assoc word operands newline)) ∙ append_assoc (word ++ operands) newline rest

label_cut : (b : Bool) (k : ℕ) (rest : List ℕ) → k < 2 ^ 16 → text_words (label_if b k ++ rest) ≡ label_lines b k ++ text_words rest
label_cut false k rest small = refl
label_cut true k rest small =
    ap text_words (regroup (label_text k) rest) ∙ text_next (label_text k ++ codes ":") rest [] (label_plain k small) tt

instruction_cut : (i : Instr) (rest : List ℕ) → AreWritable (operands_of i) → text_words (instruction_line i ++ rest) ≡ instruction_words i ∷ text_words rest
instruction_cut i rest w =
    ap text_words (regroup_words (mnemonic_word (mnemonic_of i)) (operands_text (operands_of i)) rest) ∙ text_next (mnemonic_word (mnemonic_of i)) rest (operands_of i) (word_plain (mnemonic_of i)) (operands_plain (operands_of i) w)

text_is : (all : List Instr) (k : ℕ) (is : List Instr) → k + length is < 2 ^ 16 → IsListable is → text_words (listing_from all k is) ≡ lines_from all k is
text_is all k [] small h = ap text_words (sym (append-nil (label_if (is_target all k) k))) ∙ label_cut (is_target all k) k [] (omega arith)
text_is all k (i ∷ is) small h =
    label_cut (is_target all k) k (instruction_line i ++ listing_from all (k + 1) is) (omega arith)
    ∙ ap (λ ls. label_lines (is_target all k) k ++ ls) (instruction_cut i (listing_from all (k + 1) is) h.0 ∙ ap (λ ls. instruction_words i ∷ ls) (text_is all (k + 1) is (omega arith) h.1))

-- ---- what these lines are
instruction_label : (i : Instr) → line_label (instruction_words i) ≡ None
instruction_label i = ap if_name (word_no_colon (mnemonic_of i))

instruction_statement : (i : Instr) → statement (instruction_words i) ≡ instruction_words i
instruction_statement i = ap (λ o. after_label o (instruction_words i)) (instruction_label i)

label_label : (k : ℕ) → k < 2 ^ 16 → line_label (label_words k) ≡ Some (label_text k)
label_label k small = ap if_name (colon_back (label_text k)) ∙ rw (label_name k small) refl

label_statement : (k : ℕ) → k < 2 ^ 16 → statement (label_words k) ≡ []
label_statement k small = ap (λ o. after_label o (label_words k)) (label_label k small)

kept : (s t : List (List ℕ)) (ss : Lines) → s ≡ t → filter has_words (s ∷ ss) ≡ filter has_words (t ∷ ss)
kept s t ss e = ap (λ u. filter has_words (u ∷ ss)) e

labels_dropped : (b : Bool) (k : ℕ) (ls : Lines) → k < 2 ^ 16 → statements (label_lines b k ++ ls) ≡ statements ls
labels_dropped false k ls small = refl
labels_dropped true k ls small = kept (statement (label_words k)) [] (map statement ls) (label_statement k small)

statements_are : (all : List Instr) (k : ℕ) (is : List Instr) → k + length is < 2 ^ 16 → statements (lines_from all k is) ≡ map instruction_words is
statements_are all k [] small = labels_dropped (is_target all k) k ([] ∷ []) (omega arith)
statements_are all k (i ∷ is) small =
    labels_dropped (is_target all k) k (instruction_words i ∷ lines_from all (k + 1) is) (omega arith)
    ∙ (kept (statement (instruction_words i)) (instruction_words i) (map statement (lines_from all (k + 1) is)) (instruction_statement i) ∙ ap (λ ss. instruction_words i ∷ ss) (statements_are all (k + 1) is (omega arith)))

-- ---- where the labels are
name_same : (name : List ℕ) → bytes_eq name name ≡ true
name_same name = (bytes_eq-Decides name name).1 refl

name_other : (j k : ℕ) → j < 2 ^ 16 → k < 2 ^ 16 → (j ≡ k → ⊥) → bytes_eq (label_text j) (label_text k) ≡ false
name_other j k low small apart = false_from_ne_true _ (λ h. apart (label_apart j k low small ((bytes_eq-Decides (label_text j) (label_text k)).0 h)))

instruction_defines : (i : Instr) (name : List ℕ) → defines (instruction_words i) name ≡ false
instruction_defines i name = rw (instruction_label i) refl

label_defines : (k : ℕ) (name : List ℕ) → k < 2 ^ 16 → defines (label_words k) name ≡ bytes_eq (label_text k) name
label_defines k name small = rw (label_label k small) refl

abbrev pc_from : ℕ → ℕ → Lines → List ℕ → Option ℕ
pc_from line pc ls name = option_map (λ d. d.pc) (definition_from line pc ls name)

skip : (line pc : ℕ) (ws : List (List ℕ)) (ls : Lines) (name : List ℕ) → defines ws name ≡ false → pc_from line pc (ws ∷ ls) name ≡ pc_from (line + 1) (pc + instructions_on ws) ls name
skip line pc ws ls name h = rw h refl

hit : (line pc : ℕ) (ws : List (List ℕ)) (ls : Lines) (name : List ℕ) → defines ws name ≡ true → pc_from line pc (ws ∷ ls) name ≡ Some pc
hit line pc ws ls name h = rw h refl

label_count : (k : ℕ) → k < 2 ^ 16 → instructions_on (label_words k) ≡ 0
label_count k small = ap one_or_none (label_statement k small)

instruction_count : (i : Instr) → instructions_on (instruction_words i) ≡ 1
instruction_count i = ap one_or_none (instruction_statement i)

-- the label of another program counter doesn't matter
past_label : (b : Bool) (line k t : ℕ) (ls : Lines) → k < 2 ^ 16 → t < 2 ^ 16 → (k ≡ t → ⊥) → ((l : ℕ) → pc_from l k ls (label_text t) ≡ Some t) → pc_from line k (label_lines b k ++ ls) (label_text t) ≡ Some t
past_label false line k t ls low small apart h = h line
past_label true line k t ls low small apart h =
    let here : k + instructions_on (label_words k) ≡ k = omega (arith, label_count k low) in
    skip line k (label_words k) ls (label_text t) (label_defines k (label_text t) low ∙ name_other k t low small apart) ∙ (ap (λ p. pc_from (line + 1) p ls (label_text t)) here ∙ h (line + 1))

past_instruction : (line k t : ℕ) (i : Instr) (ls : Lines) → ((l : ℕ) → pc_from l (k + 1) ls (label_text t) ≡ Some t) → pc_from line k (instruction_words i ∷ ls) (label_text t) ≡ Some t
past_instruction line k t i ls h =
    let here : k + instructions_on (instruction_words i) ≡ k + 1 = omega (arith, instruction_count i) in
    skip line k (instruction_words i) ls (label_text t) (instruction_defines i (label_text t)) ∙ (ap (λ p. pc_from (line + 1) p ls (label_text t)) here ∙ h (line + 1))

at_label : (all : List Instr) (t : ℕ) → is_target all t ≡ true → t < 2 ^ 16 → (line k : ℕ) (ls : Lines) → k ≡ t → pc_from line k (label_lines (is_target all k) k ++ ls) (label_text t) ≡ Some t
at_label all t target low line k ls same =
    let here : is_target all k ≡ true = ap (is_target all) same ∙ target in
    ap (λ b. pc_from line k (label_lines b k ++ ls) (label_text t)) here ∙ (hit line k (label_words k) ls (label_text t) (label_defines k (label_text t) (omega arith) ∙ (ap (λ j. bytes_eq (label_text j) (label_text t)) same ∙ name_same (label_text t))) ∙ ap Some same)

-- the label of a target is at its program counter
label_at : (all : List Instr) (t : ℕ) → is_target all t ≡ true → t < 2 ^ 16 → (line k : ℕ) (is : List Instr) → k ≤ t → t ≤ k + length is → k + length is < 2 ^ 16 → pc_from line k (lines_from all k is) (label_text t) ≡ Some t
label_at all t target low line k [] from to small = at_label all t target low line k ([] ∷ []) (omega arith)
label_at all t target low line k (i ∷ is) from to small = elim (cases_eq k t) [
  | inl same ↦ at_label all t target low line k (instruction_words i ∷ lines_from all (k + 1) is) same
  | inr other ↦
      past_label (is_target all k) line k t (instruction_words i ∷ lines_from all (k + 1) is) (omega arith) low other
      (λ l. past_instruction l k t i (lines_from all (k + 1) is) (λ m. label_at all t target low m (k + 1) is (omega arith) (omega arith) (omega arith)))
]

-- ---- no label occurs twice
abbrev IsLabelledAfter : Lines → List (List ℕ) → Type 0
IsLabelledAfter before [] = Unit {0}
IsLabelledAfter before (w ∷ ws) = IfSome (before_colon w) (λ name. (is_name name ≡ true) × (is_some (definition_of before name) ≡ false))

-- of lines that come after others
abbrev AreLabelled : Lines → Lines → Type 0
AreLabelled before [] = Unit {0}
AreLabelled before (ws ∷ ls) = IsLabelledAfter before ws × AreLabelled (before ++ ws ∷ []) ls

labelled_at : (before ls : Lines) → AreLabelled before ls → (j : ℕ) → j < length ls → IsLabelledAfter (before ++ take j ls) (get_or ls j [])
labelled_at before [] h j lt = absurd (omega arith)
labelled_at before (ws ∷ ls) h zero lt = rw (append-nil before) h.0
labelled_at before (ws ∷ ls) h (suc j) lt = rw append_assoc at (labelled_at (before ++ ws ∷ []) ls h.1 j (omega arith))

labelled_is : (ls : Lines) (j : ℕ) (ws : List (List ℕ)) → IsLabelledAfter (take j ls) ws → IsLabelled ls j ws
labelled_is ls j [] h = tt
labelled_is ls j (w ∷ ws) h = h

-- these lines define the labels of no program counter from k on
abbrev AreUnseen : Lines → ℕ → Type 0
AreUnseen before k = (t : ℕ) → k ≤ t → t < 2 ^ 16 → definition_of before (label_text t) ≡ None

unseen_more : (before : Lines) (ws : List (List ℕ)) (k : ℕ) → AreUnseen before k → ((t : ℕ) → k ≤ t → t < 2 ^ 16 → defines ws (label_text t) ≡ false) → AreUnseen (before ++ ws ∷ []) k
unseen_more before ws k unseen other t from small =
    definition_append 0 0 before (ws ∷ []) (label_text t) ∙ rw (unseen t from small, other t from small) refl

label_labelled : (before : Lines) (k : ℕ) → k < 2 ^ 16 → AreUnseen before k → IsLabelledAfter before (label_words k)
label_labelled before k small unseen = rw (colon_back (label_text k)) (label_name k small, ap is_some (unseen k (omega arith) small))

label_part : (b : Bool) (k : ℕ) (before ls : Lines) → k < 2 ^ 16 → AreUnseen before k → ((q : Lines) → AreUnseen q (k + 1) → AreLabelled q ls) → AreLabelled before (label_lines b k ++ ls)
label_part false k before ls small unseen next = next before (λ t from low. unseen t (omega arith) low)
label_part true k before ls small unseen next = (
  label_labelled before k small unseen,
  next (before ++ label_words k ∷ []) (unseen_more before (label_words k) (k + 1) (λ t from low. unseen t (omega arith) low) (λ t from low. label_defines k (label_text t) small ∙ name_other k t small low (λ h. omega arith))),
)

instruction_labelled : (before : Lines) (i : Instr) → IsLabelledAfter before (instruction_words i)
instruction_labelled before i = rw (word_no_colon (mnemonic_of i)) tt

are_labelled : (all : List Instr) (k : ℕ) (is : List Instr) (before : Lines) → k + length is < 2 ^ 16 → AreUnseen before k → AreLabelled before (lines_from all k is)
are_labelled all k [] before small unseen = label_part (is_target all k) k before ([] ∷ []) (omega arith) unseen (λ q h. (tt, tt))
are_labelled all k (i ∷ is) before small unseen =
    label_part (is_target all k) k before (instruction_words i ∷ lines_from all (k + 1) is) (omega arith) unseen
    (λ q h. (instruction_labelled q i, are_labelled all (k + 1) is (q ++ instruction_words i ∷ []) (omega arith) (unseen_more q (instruction_words i) (k + 1) h (λ t from low. instruction_defines i (label_text t)))))

-- ---- targets
all_map : (P Q : Instr → Type 0) (is : List Instr) → ((i : Instr) → P i → Q i) → AllByRecursion P is → AllByRecursion Q is
all_map P Q [] f h = tt
all_map P Q (i ∷ is) f h = (f i h.0, all_map P Q is f h.1)

or_yes : (b : Bool) → (b || true) ≡ true
or_yes true = refl
or_yes false = refl

abbrev TargetsIn : List Instr → Instr → Type 0
TargetsIn all i = (t : ℕ) → jump_target i ≡ Some t → is_target all t ≡ true

targets_in : (is : List Instr) → AllByRecursion (TargetsIn is) is
targets_in [] = tt
targets_in (i ∷ is) = (
  λ t e. rw (e, eq-eqb t t refl) refl,
  all_map (TargetsIn is) (TargetsIn (i ∷ is)) is (λ j h t e. ap (λ b. is_at t (jump_target i) || b) (h t e) ∙ or_yes (is_at t (jump_target i))) (targets_in is),
)

placed : (pcs : List ℕ → Option ℕ) (i : Instr) → ((t : ℕ) → jump_target i ≡ Some t → pcs (label_text t) ≡ Some t) → ArePlaced pcs (operands_of i)
placed pcs (instr.Set d n) h = (tt, (tt, tt))
placed pcs (instr.Add d a b) h = (tt, (tt, (tt, tt)))
placed pcs (instr.AddWord d a n) h = (tt, (tt, (tt, tt)))
placed pcs (instr.Subtract d a b) h = (tt, (tt, (tt, tt)))
placed pcs (instr.And d a b) h = (tt, (tt, (tt, tt)))
placed pcs (instr.ShiftRight d a n) h = (tt, (tt, (tt, tt)))
placed pcs (instr.IsBelow d a b) h = (tt, (tt, (tt, tt)))
placed pcs (instr.IsEqual d a b) h = (tt, (tt, (tt, tt)))
placed pcs (instr.JumpIfZero a target) h = (tt, (h target refl, tt))
placed pcs (instr.JumpIfNotZero a target) h = (tt, (h target refl, tt))
placed pcs (instr.Jump target) h = (h target refl, tt)
placed pcs (instr.Number d) h = (tt, tt)
placed pcs (instr.Size d) h = (tt, tt)
placed pcs (instr.Load d a) h = (tt, (tt, tt))
placed pcs (instr.Store a b) h = (tt, (tt, tt))
placed pcs (instr.Faa d a b) h = (tt, (tt, (tt, tt)))
placed pcs (instr.Swap d a b) h = (tt, (tt, (tt, tt)))
placed pcs instr.Fence h = tt
placed pcs instr.Halt h = tt

-- ---- the instructions
module _ (pcs : List ℕ → Option ℕ) (n : ℕ) (all : List Instr) (at : (t : ℕ) → is_target all t ≡ true → t ≤ n → pcs (label_text t) ≡ Some t) where
  instruction_back : (i : Instr) → AreWritable (operands_of i) → TargetsIn all i → IsTrue (jumps_within n i) → IsInstruction pcs (instruction_words i) i
  instruction_back i w t j = (refl, operands_back pcs (operands_of i) w (placed pcs i (λ k e. at k (t k e) (target_within n i k j (sym e)))))

  instructions_back : (is : List Instr) → IsListable is → AllByRecursion (TargetsIn all) is → IsTrue (all_jump_within n is) → AreInstructions pcs (map instruction_words is) is
  instructions_back [] w t j = tt
  instructions_back (i ∷ is) w t j = let p = and_parts (jumps_within n i) (all_jump_within n is) j in (instruction_back i w.0 t.0 p.0, instructions_back is w.1 t.1 p.1)

lines_back : (is : List Instr) → IsTrue (is_program is) → IsListable is → AreLinesOf (lines_from is 0 is) is
lines_back is valid listable =
    let ls = lines_from is 0 is in
    let (short, jumps) = and_parts _ _ valid in
    let few : length is ≤ 4096 = leb-true (length is) 4096 short in
    let small : 0 + length is < 2 ^ 16 = omega arith in
    let at : (t : ℕ) → is_target is t ≡ true → t ≤ length is → label_pc ls (label_text t) ≡ Some t = λ t target low. label_at is t target (omega arith) 0 0 is (omega arith) (omega arith) small in
    record {
      labels = λ j lt. labelled_is ls j (get_or ls j []) (labelled_at [] ls (are_labelled is 0 is [] small (λ t from low. refl)) j lt);
      instructions = rw (statements_are is 0 is small) (instructions_back (label_pc ls) (length is) is at is listable (targets_in is) jumps);
      short = few;
    }

pub reads_back : (is : List Instr) → IsTrue (is_program is) → IsListable is → IsProgramText (listing_text is) is
reads_back is valid listable =
    let (short, jumps) = and_parts _ _ valid in
    let few : length is ≤ 4096 = leb-true (length is) 4096 short in
    let small : 0 + length is < 2 ^ 16 = omega arith in
    let P : Lines → Type 0 = λ ls. AreLinesOf ls is in
    subst P (sym (text_is is 0 is small listable)) (lines_back is valid listable)
