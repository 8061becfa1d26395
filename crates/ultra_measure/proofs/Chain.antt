-- measures that are written in order
use Rattle.std.proofs.Common.{ℕ, ◌≡◌, ◌+◌, ◌<◌, List, [], ◌∷◌, ◌++◌, Bool, true, false, append-nil, append_assoc, refl, sym, ap, ◌∙◌, subst, nat_lt, arith}
use Rattle.std.proofs.lemmas.{Bool.Decides.nat_tests, List.Concat.flat_map-append}
use Rattle.std.specs.{Prelude.{Option, None}, List.{flat_map, range_with_len}}
use Rattle.ultra_io.specs.{declared.text_buffer.TextBuffer.TextBuffer, TextBuffer.Writes}
use Rattle.ultra_io.proofs.Writing.{◌then◌}
use Rattle.ultra_holders.proofs.Skipped.{range_parts}
use Rattle.ultra_measure.specs.{declared.columns.Form.{Form, TheVariants.{Lines, Values, JobValues}}, Columns.{Column, number}, Rows.{column_text, columns_text, first_text, row_end, row_text}}

-- of each form
parts_of : (form : Form) (i : Column) (is : List Column) → first_text form i ++ columns_text form is ++ row_end form ≡ row_text form (i ∷ is)
parts_of Lines i is = append-nil (first_text Lines i ++ columns_text Lines is)
parts_of Values i is = refl
parts_of (JobValues job) i is = simp append_assoc

-- columns were written; antt finds them in the type
pub record WritesColumns {S : Type 0} (taken : S → List ℕ) (failures : S → ℕ) (form : Form) (is : List Column) (s t : TextBuffer S) : Type 0 where
  pub wrote : Writes taken failures (columns_text form is) s t

module _ (form : Form) where
  columns_append : (is js : List Column) → columns_text form (is ++ js) ≡ columns_text form is ++ columns_text form js
  columns_append is js = flat_map-append (column_text form) is js

  module _ {S : Type 0} {taken : S → List ℕ} {failures : S → ℕ} where
    -- the first of them
    pub one_column : {i : Column} (j : Column) {s t : TextBuffer S} → i ≡ j → Writes taken failures (column_text form i) s t → WritesColumns taken failures form (j ∷ []) s t
    one_column {i} j {s} {t} same w = record { wrote = subst (λ text. Writes taken failures text s t) (ap (column_text form) same ∙ sym (append-nil (column_text form j))) w }

    -- one more
    pub more_columns : {is : List Column} {i : Column} (j : Column) {s t u : TextBuffer S} → i ≡ j → WritesColumns taken failures form is s t → Writes taken failures (column_text form i) t u → WritesColumns taken failures form (is ++ j ∷ []) s u
    more_columns {is} {i} j {s} {t} {u} same v w = record {
      wrote =
          subst (λ text. Writes taken failures text s u)
          (ap (λ text. columns_text form is ++ text) (ap (column_text form) same ∙ sym (append-nil (column_text form j))) ∙ sym (columns_append is (j ∷ [])))
          (v.wrote then w);
    }

    -- and several
    pub both_columns : (is js : List Column) {s t u : TextBuffer S} → Writes taken failures (columns_text form is) s t → Writes taken failures (columns_text form js) t u → Writes taken failures (columns_text form (is ++ js)) s u
    both_columns is js {s} {t} {u} v w = subst (λ text. Writes taken failures text s u) (sym (columns_append is js)) (v then w)

    -- a whole row: the first column, the others, and its end
    pub whole_row : {i j : Column} (is : List Column) {s t u v : TextBuffer S} → i ≡ j → Writes taken failures (first_text form i) s t → Writes taken failures (columns_text form is) t u → Writes taken failures (row_end form) u v → Writes taken failures (row_text form (j ∷ is)) s v
    whole_row {i} {j} is {s} {t} {u} {v} same a b e =
        subst (λ text. Writes taken failures text s v) (ap (λ k. first_text form k ++ columns_text form is ++ row_end form) same ∙ parts_of form j is) ((a then b) then e)

-- columns stage by stage
next_stage : (f : ℕ → List Column) (n : ℕ) → flat_map f (range_with_len 0 (n + 1)) ≡ flat_map f (range_with_len 0 n) ++ f n
next_stage f n =
    let start : 0 + n ≡ n = omega arith in
    ap (flat_map f) (range_parts 0 n 1 (n + 1) refl)
    ∙ flat_map-append f (range_with_len 0 n) (range_with_len (0 + n) 1)
    ∙ ap (λ xs. flat_map f (range_with_len 0 n) ++ xs) (append-nil (f (0 + n)))
    ∙ ap (λ k. flat_map f (range_with_len 0 n) ++ f k) start

module _ (form : Form) {S : Type 0} {taken : S → List ℕ} {failures : S → ℕ} (f : ℕ → List Column) (n : ℕ) where
  pub more_stages : {s t u : TextBuffer S} → Writes taken failures (columns_text form (flat_map f (range_with_len 0 n))) s t → Writes taken failures (columns_text form (f n)) t u → Writes taken failures (columns_text form (flat_map f (range_with_len 0 (n + 1)))) s u
  more_stages {s} {t} {u} v w = subst (λ is. Writes taken failures (columns_text form is) s u) (sym (next_stage f n)) (both_columns form (flat_map f (range_with_len 0 n)) (f n) v w)

-- a value of a stage, where the machine has the stage
pub same_in_stage : (s stages : ℕ) (there : Bool) {a v : ℕ} → there ≡ nat_lt s stages → (s < stages → a ≡ v)
    → ◌≡◌ {A = Option (List ℕ)} (elim there [ true ↦ number a | false ↦ None ]) (elim (nat_lt s stages) [ true ↦ number v | false ↦ None ])
same_in_stage s stages true is same = let here : s < stages = grind (arith, nat_tests) in rw (← is) (ap number (same here))
same_in_stage s stages false is same = rw (← is) refl

-- a measure with a number
abbrev pub numbered : List ℕ → ℕ → Column
numbered name n = (name, number n)

-- with a value, where there is one
abbrev pub valued : List ℕ → Option (List ℕ) → Column
valued name v = (name, v)
