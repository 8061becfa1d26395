-- the labels of a text as a list; this project's profile
use Rattle.std.specs.{Prelude.{ℕ, Bool, List, bytes_eq, nat_lt}, List.{prefix_len, Sorted.IsSortedBy}, declared.cmp.Ordering.Ordering, Cmp.Lexicographic.slice_cmp, Ordering.{is_lt, nat_cmp, ordering_then}}
use Rattle.ultra_asm.specs.declared.labels.Label.{Label}

-- whether it has this name
abbrev pub has_name : List ℕ → Label → Bool
has_name name l = bytes_eq l.name.now name

-- by name, and then by line
abbrev pub label_cmp : Label → Label → Ordering
label_cmp a b = ordering_then (slice_cmp nat_cmp a.name.now b.name.now) (nat_cmp a.line b.line)

abbrev pub AreInOrder : List Label → Type 0
AreInOrder ls = IsSortedBy (λ a b. is_lt (label_cmp a b)) ls

-- how many instructions are before a line, where these are the lines of instructions
abbrev pub pc_at : List ℕ → ℕ → ℕ
pc_at lines line = prefix_len (λ n. nat_lt n line) lines
