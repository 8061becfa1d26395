-- where the names of a text are defined
use Rattle.std.proofs.Common.{◌≡◌, ℕ, ◌+◌, ◌<◌, ◌≤◌, Bool, false, List, [], ◌∷◌, ◌++◌, length, take, drop, filter, map, get_or, Option, Some, None, is_some, refl, sym, ◌∙◌, ap, inl, inr, arith, nat_lt, min, cond, add-zero}
use Rattle.std.specs.Option.{option_map}
use Rattle.std.proofs.lemmas.{List.{Elements.filter-append, take-append-drop, length-take-le, take_more, map-append, length-append}, Bool.{cases_Bool, lt-ltb, le-ltb}}
use Rattle.ultra_asm.specs.{declared.labels.Definition.Definition, ProgramText.{statements, has_words}}
use Rattle.ultra_asm.specs.Labels.{statement, line_label, is_label_named, one_or_none, instructions_on, defines, definition_from, definition_of, label_pc, is_defined_before, near_pc, near_pc_of, near_definition}

abbrev pub Lines : Type 0
Lines = List (List (List ℕ))

-- the first that is there
abbrev pub first_of : Option Definition → Option Definition → Option Definition
first_of None e = e
first_of (Some d) e = Some d

kept_one : (s : List (List ℕ)) (ss : Lines) → length (cond (has_words s) (s ∷ ss) ss) ≡ one_or_none s + length ss
kept_one [] ss = omega arith
kept_one (w ∷ ws) ss = omega arith

-- how many instructions are on lines
pub count_cons : (ws : List (List ℕ)) (ls : Lines) → length (statements (ws ∷ ls)) ≡ instructions_on ws + length (statements ls)
count_cons ws ls = kept_one (statement ws) (statements ls)

pub definition_append : (line pc : ℕ) (ls ms : Lines) (name : List ℕ) → definition_from line pc (ls ++ ms) name ≡ first_of (definition_from line pc ls name) (definition_from (line + length ls) (pc + length (statements ls)) ms name)
definition_append line pc [] ms name =
    let l : line + 0 ≡ line = omega arith in
    let p : pc + 0 ≡ pc = omega arith in
    rw (l, p) refl
definition_append line pc (ws ∷ ls) ms name = elim (cases_Bool (defines ws name)) [
  | inl t ↦ rw t refl
  | inr f ↦
      let l : line + 1 + length ls ≡ line + length (ws ∷ ls) = omega arith in
      let p : pc + instructions_on ws + length (statements ls) ≡ pc + length (statements (ws ∷ ls)) = omega (arith, count_cons ws ls) in
      rw f (definition_append (line + 1) (pc + instructions_on ws) ls ms name ∙ ap (λ e. first_of (definition_from (line + 1) (pc + instructions_on ws) ls name) e) (ap (λ k. definition_from k (pc + instructions_on ws + length (statements ls)) ms name) l ∙ ap (λ k. definition_from (line + length (ws ∷ ls)) k ms name) p))
]

-- where a definition can be
pub record IsWithin (line pc : ℕ) (ls : Lines) (d : Definition) : Type 0 where
  pub from : line ≤ d.line
  pub to : d.line < line + length ls
  pub by : d.pc ≤ pc + length (statements ls)

within_next : (line pc : ℕ) (ws : List (List ℕ)) (ls : Lines) (d : Definition) → IsWithin (line + 1) (pc + instructions_on ws) ls d → IsWithin line pc (ws ∷ ls) d
within_next line pc ws ls d w =
    let from = w.from in
    let to = w.to in
    let at = w.by in
    record { from = omega arith; to = omega arith; by = omega (arith, count_cons ws ls) }

within_here : (line pc : ℕ) (ws : List (List ℕ)) (ls : Lines) (d : Definition) → Some (record { line = line; pc = pc }) ≡ Some d → IsWithin line pc (ws ∷ ls) d
within_here line pc ws ls d h =
    let at : d.line ≡ line = cc in
    let near : d.pc ≡ pc = cc in
    record { from = omega arith; to = omega arith; by = omega arith }

pub definition_within : (line pc : ℕ) (ls : Lines) (name : List ℕ) (d : Definition) → definition_from line pc ls name ≡ Some d → IsWithin line pc ls d
definition_within line pc [] name d h = absurd cc
definition_within line pc (ws ∷ ls) name d h = elim (cases_Bool (defines ws name)) [
  | inl t ↦ within_here line pc ws ls d (rw t at h)
  | inr f ↦ within_next line pc ws ls d (definition_within (line + 1) (pc + instructions_on ws) ls name d (rw f at h))
]

-- the definitions of a text, by those of its first lines
first_lines : (ls : Lines) (k : ℕ) (name : List ℕ) → k ≤ length ls → definition_of ls name ≡ first_of (definition_of (take k ls) name) (definition_from k (length (statements (take k ls))) (drop k ls) name)
first_lines ls k name h =
    let here = definition_append 0 0 (take k ls) (drop k ls) name in
    let l : 0 + length (take k ls) ≡ k = omega (arith, length-take-le k ls h) in
    let p : 0 + length (statements (take k ls)) ≡ length (statements (take k ls)) = omega arith in
    ap (λ ms. definition_of ms name) (sym (take-append-drop k ls)) ∙ here ∙ ap (λ n. first_of (definition_of (take k ls) name) (definition_from n (0 + length (statements (take k ls))) (drop k ls) name)) l ∙ ap (λ n. first_of (definition_of (take k ls) name) (definition_from k n (drop k ls) name)) p

-- whether the line of a definition is before line k
abbrev pub is_before : ℕ → Option Definition → Bool
is_before k None = false
is_before k (Some d) = nat_lt d.line k

before_later : (k pc : ℕ) (ls : Lines) (name : List ℕ) (e : Option Definition) → definition_from k pc ls name ≡ e → is_before k e ≡ false
before_later k pc ls name None h = refl
before_later k pc ls name (Some d) h = le-ltb _ _ (definition_within k pc ls name d h).from

before_either : (k : ℕ) (ls ms : Lines) (pc : ℕ) (name : List ℕ) (d : Option Definition) → length ls ≡ k → definition_of ls name ≡ d → is_before k (first_of d (definition_from k pc ms name)) ≡ is_some d
before_either k ls ms pc name None n h = before_later k pc ms name (definition_from k pc ms name) refl
before_either k ls ms pc name (Some d) n h = lt-ltb _ _ (let to = (definition_within 0 0 ls name d h).to in omega arith)

pub before_is : (ls : Lines) (k : ℕ) (name : List ℕ) → k ≤ length ls → is_before k (definition_of ls name) ≡ is_defined_before ls k name
before_is ls k name h =
    ap (is_before k) (first_lines ls k name h) ∙ before_either k (take k ls) (drop k ls) (length (statements (take k ls))) name (definition_of (take k ls) name) (length-take-le k ls h) refl

-- ---- program counters
pc_in : (ls : Lines) (name : List ℕ) (k : ℕ) (d : Option Definition) → definition_of ls name ≡ d → option_map (λ e. e.pc) d ≡ Some k → k ≤ length (statements ls)
pc_in ls name k None h e = absurd cc
pc_in ls name k (Some d) h e = let same : d.pc ≡ k = cc in omega (arith, (definition_within 0 0 ls name d h).by)

pub pc_within : (ls : Lines) (name : List ℕ) (k : ℕ) → label_pc ls name ≡ Some k → k ≤ length (statements ls)
pc_within ls name k e = pc_in ls name k (definition_of ls name) refl e

near_in : (ls : Lines) (name : List ℕ) (d : Option Definition) → length (statements ls) ≤ 4096 → definition_of ls name ≡ d → option_map near_pc d ≡ option_map (λ e. e.pc) d
near_in ls name None short h = refl
near_in ls name (Some d) short h =
    let at = (definition_within 0 0 ls name d h).by in
    let same : min d.pc 4096 ≡ d.pc = omega arith in
    ap Some same

-- in a text that isn't too long all program counters are near
pub near_is : (ls : Lines) (name : List ℕ) → length (statements ls) ≤ 4096 → near_pc_of ls name ≡ label_pc ls name
near_is ls name short = near_in ls name (definition_of ls name) short refl

-- near program counters are near already
pub near_twice : (d : Option Definition) → option_map near_pc (option_map near_definition d) ≡ option_map near_pc d
near_twice None = refl
near_twice (Some d) = let same : min (min d.pc 4096) 4096 ≡ min d.pc 4096 = omega arith in ap Some same

-- ---- one more line
pub statements-append : (ls ms : Lines) → statements (ls ++ ms) ≡ statements ls ++ statements ms
statements-append ls ms = ap (filter has_words) (map-append statement ls ms) ∙ filter-append has_words (map statement ls) (map statement ms)

last_count : (ws : List (List ℕ)) → length (statements (ws ∷ [])) ≡ instructions_on ws
last_count ws = count_cons ws [] ∙ add-zero (instructions_on ws)

pub count_next : (ls : Lines) (k : ℕ) → k < length ls → length (statements (take (k + 1) ls)) ≡ length (statements (take k ls)) + instructions_on (get_or ls k [])
count_next ls k h =
    ap (λ ms. length (statements ms)) (take_more ls k [] h) ∙ ap length (statements-append (take k ls) (get_or ls k [] ∷ [])) ∙ length-append (statements (take k ls)) (statements (get_or ls k [] ∷ [])) ∙ ap (λ n. length (statements (take k ls)) + n) (last_count (get_or ls k []))

-- the definition on one line
abbrev pub definition_at : ℕ → ℕ → Option (List ℕ) → List ℕ → Option Definition
definition_at line pc label name = cond (is_label_named label name) (Some (record { line = line; pc = pc })) None

pub definition_next : (ls : Lines) (k : ℕ) (name : List ℕ) → k < length ls → definition_of (take (k + 1) ls) name ≡ first_of (definition_of (take k ls) name) (definition_at k (length (statements (take k ls))) (line_label (get_or ls k [])) name)
definition_next ls k name h =
    let short : k ≤ length ls = omega arith in
    let l : 0 + length (take k ls) ≡ k = omega (arith, length-take-le k ls short) in
    let p : 0 + length (statements (take k ls)) ≡ length (statements (take k ls)) = omega arith in
    ap (λ ms. definition_of ms name) (take_more ls k [] h) ∙ definition_append 0 0 (take k ls) (get_or ls k [] ∷ []) name
    ∙ ap (λ n. first_of (definition_of (take k ls) name) (definition_at n (0 + length (statements (take k ls))) (line_label (get_or ls k [])) name)) l
    ∙ ap (λ n. first_of (definition_of (take k ls) name) (definition_at k n (line_label (get_or ls k [])) name)) p

pub first_none : (d : Option Definition) → d ≡ first_of d None
first_none None = refl
first_none (Some d) = refl
