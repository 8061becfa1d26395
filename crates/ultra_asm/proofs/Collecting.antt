-- the labels of a text, collected line by line
use Rattle.std.proofs.Common.{◌≡◌, ℕ, ◌+◌, ◌<◌, ◌≤◌, Bool, true, false, cond, List, [], ◌∷◌, ◌++◌, length, get_or, take, min, Option, Some, None, option_map, refl, sym, ◌∙◌, ap, inl, inr, arith}
use Rattle.std.specs.{List.{find, All, Sorted.IsPermutation}, Option.option_or}
use Rattle.std.proofs.lemmas.{Bool.cases_Bool, List.{take_all, Elements.{All-nil, All-push, All-weaker}}}
use Rattle.ultra_asm.specs.{declared.labels.{Definition.Definition, Label.Label}, Label.{has_name, pc_at, AreInOrder}, Labels.{line_label, definition_of, near_definition, near_definition_of}}
use Rattle.ultra_asm.proofs.{Definitions.{Lines, first_of, definition_at, definition_next, first_none}, InOrder.{AreInTurn, turns_push, turns_in_order, same_first}, InstructionLines.{AreInstructionLines, count, definition_placed, pc_is}}

-- the line of the first label of a name
abbrev pub found : List ℕ → List Label → Option ℕ
found q xs = option_map (λ l. l.line) (find (has_name q) xs)

abbrev line_of : Option Definition → Option ℕ
line_of d = option_map (λ e. e.line) d

found_one : (m : Label) (b : Bool) → option_map (λ l. l.line) (cond b (Some m) None) ≡ cond b (Some m.line) None
found_one m true = refl
found_one m false = refl

found_push : (q : List ℕ) (xs : List Label) (m : Label) → found q (xs ++ m ∷ []) ≡ option_or (found q xs) (cond (has_name q m) (Some m.line) None)
found_push q [] m = found_one m (has_name q m)
found_push q (l ∷ xs) m = elim (cases_Bool (has_name q l)) [
  | inl y ↦ rw y refl
  | inr n ↦ rw n (found_push q xs m)
]

line_at : (line pc : ℕ) (b : Bool) → cond b (Some line) None ≡ line_of (cond b (Some (record { line = line; pc = pc })) None)
line_at line pc true = refl
line_at line pc false = refl

line_first : (d e : Option Definition) → option_or (line_of d) (line_of e) ≡ line_of (first_of d e)
line_first None e = refl
line_first (Some d) e = refl

-- these are the labels of the first lines
pub record AreOfLines (ls : Lines) (k : ℕ) (xs : List Label) : Type 0 where
  pub table : (q : List ℕ) → found q xs ≡ line_of (definition_of (take k ls) q)
  pub turns : (q : List ℕ) → AreInTurn q xs
  pub earlier : All (λ l. l.line < k) xs

pub no_labels : (ls : Lines) → AreOfLines ls 0 []
no_labels ls = record {
  table = λ q. refl;
  turns = λ q. tt;
  earlier = All-nil (λ l. l.line < 0);
}

-- one more line
module _ (ls : Lines) (k : ℕ) (xs : List Label) (lt : k < length ls) (are : AreOfLines ls k xs) where
  earlier_next : All (λ l. l.line < k + 1) xs
  earlier_next = All-weaker (λ l. l.line < k) (λ l. l.line < k + 1) (λ l h. omega arith) xs are.earlier

  pub line_unlabelled : None ≡ line_label (get_or ls k []) → AreOfLines ls (k + 1) xs
  line_unlabelled none = record {
    table = λ q. are.table q ∙ ap line_of (first_none (definition_of (take k ls) q) ∙ ap (λ n. first_of (definition_of (take k ls) q) (definition_at k (count ls k) n q)) none ∙ sym (definition_next ls k q lt));
    turns = are.turns;
    earlier = earlier_next;
  }

  pub line_labelled : (m : Label) → Some m.name.now ≡ line_label (get_or ls k []) → m.line ≡ k → AreOfLines ls (k + 1) (xs ++ m ∷ [])
  line_labelled m named line = record {
    table = λ q.
        found_push q xs m
        ∙ ap (λ d. option_or d (cond (has_name q m) (Some m.line) None)) (are.table q)
        ∙ ap (λ n. option_or (line_of (definition_of (take k ls) q)) (cond (has_name q m) (Some n) None)) line
        ∙ ap (option_or (line_of (definition_of (take k ls) q))) (line_at k (count ls k) (has_name q m))
        ∙ line_first (definition_of (take k ls) q) (definition_at k (count ls k) (Some m.name.now) q)
        ∙ ap line_of (ap (λ n. first_of (definition_of (take k ls) q) (definition_at k (count ls k) n q)) named ∙ sym (definition_next ls k q lt));
    turns = λ q. turns_push q xs m (are.turns q) (All-weaker (λ l. l.line < k) (λ l. l.line ≤ m.line) (λ l h. omega arith) xs are.earlier);
    earlier = All-push (λ l. l.line < k + 1) xs m earlier_next (omega arith);
  }

-- ---- all lines, and the labels in order
-- the definition on a line, where these are the lines of instructions
abbrev pub on_line : List ℕ → ℕ → Definition
on_line is n = record { line = n; pc = pc_at is n }

on_its_line : (is : List ℕ) (o : Option Label) → option_map (λ l. on_line is l.line) o ≡ option_map (on_line is) (option_map (λ l. l.line) o)
on_its_line is None = refl
on_its_line is (Some l) = refl

module _ (ls : Lines) (k : ℕ) (is : List ℕ) (all : length ls ≤ k) (lines : AreInstructionLines ls k is) (q : List ℕ) where
  near_by : (d : Option Definition) → definition_of ls q ≡ d → option_map (on_line is) (line_of d) ≡ option_map near_definition d
  near_by None e = refl
  near_by (Some d) e =
      let p = definition_placed 0 0 ls q d e in
      let within = p.within in
      let on : p.on ≡ d.line = let l = p.lines in omega arith in
      let before : d.pc ≡ count ls d.line = (let n = p.pcs in let zero_more : 0 + count ls p.on ≡ count ls p.on = omega arith in n ∙ zero_more) ∙ ap (count ls) on in
      let pc : pc_at is d.line ≡ min d.pc 4096 = pc_is ls k is all lines d.line (omega arith) ∙ ap (λ n. min n 4096) (sym before) in
      let there : ℕ → Option Definition = λ n. Some (record { line = d.line; pc = n }) in
      ap there pc

  pub in_order_found : (xs ys : List Label) → AreOfLines ls k xs → IsPermutation xs ys → AreInOrder ys → option_map (λ l. on_line is l.line) (find (has_name q) ys) ≡ near_definition_of ls q
  in_order_found xs ys are moved up =
      on_its_line is (find (has_name q) ys)
      ∙ ap (option_map (on_line is)) (same_first q xs ys moved (are.turns q) (turns_in_order q ys up) ∙ are.table q ∙ ap (λ ms. line_of (definition_of ms q)) (take_all k ls all))
      ∙ near_by (definition_of ls q) refl
