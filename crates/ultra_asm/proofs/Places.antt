-- the canonical text, line by line
use Rattle.std.proofs.Common.{◌≡◌, ℕ, zero, suc, ◌+◌, ◌<◌, ◌≤◌, Bool, true, false, ◌||◌, List, [], ◌∷◌, ◌++◌, length, take, drop, get_or, set, slice_get, codes, Option, Some, None, IsTrue, refl, sym, ◌∙◌, ap, inl, inr, append_assoc, arith}
use Rattle.std.specs.List.{list_any, AllByRecursion}
use Rattle.std.proofs.{lemmas.{Bool.{cases_eq, ne_eqb, eq-eqb, leb-true}, List.{drop_more, take_more, drop_all, get_or-set_same, get_or-set_other}}, Math.Bool.{or-false, or_assoc}}
use Rattle.ultra_isa.specs.{declared.Instr.Instr, Program.jumps_within}
use Rattle.ultra_isa.specs.declared.Instr.TheVariants as instr
use Rattle.ultra_asm.specs.{declared.instruction.Operand.Operand, Instruction.operands_of}
use Rattle.ultra_asm.specs.Listing.{operand_text, operands_text, label_if, instruction_line, listing_from, jump_target, is_at, is_target, AreWritable, IsListable}

-- ---- operands
pub next_operand : (os : List Operand) (k : ℕ) (o : Operand) → k < length os → o ≡ get_or os k o → operands_text (drop k os) ≡ (codes " " ++ operand_text o) ++ operands_text (drop (k + 1) os)
next_operand os k o lt e = ap operands_text (drop_more os k o lt) ∙ ap (λ p. (codes " " ++ operand_text p) ++ operands_text (drop (k + 1) os)) (sym e)

-- ---- lines
pub get_at : {X : Type 0} (xs : List X) (k : ℕ) (x : X) → Some x ≡ slice_get xs k → (k < length xs) × (x ≡ get_or xs k x)
get_at [] k x e = absurd cc
get_at (y ∷ ys) zero x e = let same : x ≡ y = cc in (omega arith, same)
get_at (y ∷ ys) (suc k) x e = let (l, s) = get_at ys k x e in (omega arith, s)

pub get_none : {X : Type 0} (xs : List X) (k : ℕ) → None ≡ slice_get xs k → length xs ≤ k
get_none [] k e = omega arith
get_none (y ∷ ys) zero e = absurd cc
get_none (y ∷ ys) (suc k) e = let l = get_none ys k e in omega arith

pub next_lines : (is : List Instr) (k : ℕ) (i : Instr) → Some i ≡ slice_get is k → listing_from is k (drop k is) ≡ (label_if (is_target is k) k ++ instruction_line i) ++ listing_from is (k + 1) (drop (k + 1) is)
next_lines is k i e =
    let (lt, at) = get_at is k i e in
    ap (listing_from is k) (drop_more is k i lt) ∙ (ap (λ j. label_if (is_target is k) k ++ (instruction_line j ++ listing_from is (k + 1) (drop (k + 1) is))) (sym at) ∙ sym (append_assoc (label_if (is_target is k) k) (instruction_line i) (listing_from is (k + 1) (drop (k + 1) is))))

pub last_line : (is : List Instr) (k : ℕ) → length is ≤ k → listing_from is k (drop k is) ≡ label_if (is_target is k) k
last_line is k end = ap (listing_from is k) (drop_all k is end)

-- ---- targets
pub target_within : (n : ℕ) (i : Instr) (target : ℕ) → IsTrue (jumps_within n i) → Some target ≡ jump_target i → target ≤ n
target_within n (instr.JumpIfZero a to) target h e = let same : target ≡ to = cc in omega (arith, leb-true to n h)
target_within n (instr.JumpIfNotZero a to) target h e = let same : target ≡ to = cc in omega (arith, leb-true to n h)
target_within n (instr.Jump to) target h e = let same : target ≡ to = cc in omega (arith, leb-true to n h)
target_within n (instr.Set d m) target h e = absurd cc
target_within n (instr.Add d a b) target h e = absurd cc
target_within n (instr.AddWord d a m) target h e = absurd cc
target_within n (instr.Subtract d a b) target h e = absurd cc
target_within n (instr.And d a b) target h e = absurd cc
target_within n (instr.ShiftRight d a m) target h e = absurd cc
target_within n (instr.IsBelow d a b) target h e = absurd cc
target_within n (instr.IsEqual d a b) target h e = absurd cc
target_within n (instr.Number d) target h e = absurd cc
target_within n (instr.Size d) target h e = absurd cc
target_within n (instr.Load d a) target h e = absurd cc
target_within n (instr.Store a b) target h e = absurd cc
target_within n (instr.Faa d a b) target h e = absurd cc
target_within n (instr.Swap d a b) target h e = absurd cc
target_within n instr.Fence target h e = absurd cc
target_within n instr.Halt target h e = absurd cc

or_yes : (b : Bool) → (b || true) ≡ true
or_yes true = refl
or_yes false = refl

any_push : {X : Type 0} (p : X → Bool) (xs : List X) (x : X) → list_any p (xs ++ x ∷ []) ≡ (list_any p xs || p x)
any_push p [] x = or-false (p x)
any_push p (y ∷ ys) x = ap (λ b. p y || b) (any_push p ys x) ∙ sym (or_assoc (p y) (list_any p ys) (p x))

-- the targets of one more instruction
pub more_targets : (is : List Instr) (n : ℕ) (i : Instr) (k : ℕ) → Some i ≡ slice_get is n → is_target (take (n + 1) is) k ≡ (is_target (take n is) k || is_at k (jump_target i))
more_targets is n i k e =
    let (lt, at) = get_at is n i e in
    ap (λ js. is_target js k) (take_more is n i lt) ∙ (any_push (λ j. is_at k (jump_target j)) (take n is) (get_or is n i) ∙ ap (λ j. is_target (take n is) k || is_at k (jump_target j)) (sym at))

pub marks_none : (b : Bool) (k : ℕ) (o : Option ℕ) → None ≡ o → b ≡ (b || is_at k o)
marks_none b k o e = rw (← e) (sym (or-false b))

pub marks_one : (marked : List Bool) (b : Bool) (k target : ℕ) (o : Option ℕ) → Some target ≡ o → target < length marked → get_or marked k false ≡ b → get_or (set marked target true) k false ≡ (b || is_at k o)
marks_one marked b k target o e lt h = elim (cases_eq k target) [
  | inl same ↦ rw (← e, same, eq-eqb target target refl) (get_or-set_same marked target true false lt ∙ sym (or_yes b))
  | inr other ↦ let apart : target ≡ k → ⊥ = λ s. other (sym s) in rw (← e, ne_eqb target k apart) (get_or-set_other marked target k true false other ∙ h ∙ sym (or-false b))
]

-- ---- what can be listed
all_push : (P : Instr → Type 0) (xs : List Instr) (x : Instr) → AllByRecursion P xs → P x → AllByRecursion P (xs ++ x ∷ [])
all_push P [] x h k = (k, tt)
all_push P (y ∷ ys) x h k = (h.0, all_push P ys x h.1 k)

pub more_listable : (is : List Instr) (n : ℕ) (i : Instr) → Some i ≡ slice_get is n → IsListable (take n is) → AreWritable (operands_of i) → IsListable (take (n + 1) is)
more_listable is n i e h w =
    let (lt, at) = get_at is n i e in
    rw (take_more is n i lt, ← at) (all_push (λ j. AreWritable (operands_of j)) (take n is) i h w)
