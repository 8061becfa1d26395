-- which texts are conditions and sums; this project's profile
use Rattle.std.specs.Prelude.{ℕ, zero, suc, ◌+◌, ◌-◌, ◌*◌, ◌^◌, Bool, false, ◌&&◌, ◌||◌, List, [], ◌∷◌, ◌++◌, length, slice_get, codes, Option, Some, None, if◌then◌else◌, nat_lt, nat_le}
use Rattle.ultra_isa.specs.declared.Instr.{Instr}
use Rattle.ultra_model.specs.Machine.{Settings, size}
use Rattle.ultra_asm.specs.{Words.{decimal_value, register_of, text_words}, Labels.near_pc_of}
use Rattle.ultra_list.specs.Reading.{read_on, read_or}
use Rattle.ultra_para.specs.Careful.{refers_to_cell}
use Rattle.ultra_condition.specs.{Words.{word_at, after, is_at_end}, Limits.most_sum}
use Rattle.ultra_condition.specs.Condition.{Condition, compare, negate, both, either}
use Rattle.ultra_condition.specs.declared.{sum.Sign.Sign, value.{Group.Group, Measure.Measure, Term.Term, Value.Value}, TheConstants.MOST_NESTED}
use Rattle.ultra_condition.specs.declared.sum.Sign.TheVariants.{Below, AtMost, Equal, Unequal, AtLeast, Above}
use Rattle.ultra_condition.specs.declared.value.Group.TheVariants as group
use Rattle.ultra_condition.specs.declared.value.Measure.TheVariants.{Total, Least, Greatest}
use Rattle.ultra_condition.specs.declared.value.Value.TheVariants.{One, Cells, Register, Elements}

-- what a condition can name: this many cells and processing elements, and the places of a program
-- by the labels of its text
pub record Scope : Type 0 where
  pub cells : ℕ
  pub elements : ℕ
  pub program : List Instr
  pub text : List ℕ

-- of these settings, this program and its text
abbrev pub scope_of : Settings → List Instr → List ℕ → Scope
scope_of c program text =
    record { cells = size c * c.cells; elements = size c; program = program; text = text }

-- what a text begins with, and the text behind it
abbrev pub Reader : Type 0 → Type 0
Reader A = List ℕ → Option (A × List ℕ)

-- a sign
unfoldable pub sign_at : Reader Sign
sign_at text =
    read_or (after (codes "<") text) (λ rest. Some (Below, rest))
    (read_or (after (codes "<=") text) (λ rest. Some (AtMost, rest))
    (read_or (after (codes "=") text) (λ rest. Some (Equal, rest))
    (read_or (after (codes "!=") text) (λ rest. Some (Unequal, rest))
    (read_or (after (codes ">=") text) (λ rest. Some (AtLeast, rest))
    (read_on (after (codes ">") text) (λ rest. Some (Above, rest)))))))

-- a number below 2^32
unfoldable pub number_at : Reader ℕ
number_at text =
    read_on (decimal_value (word_at text).0) (λ n. Some (n, (word_at text).1))

-- more parts, each behind this word; n is at least how many bytes are left
abbrev pub parts_at : {A B : Type 0} → List ℕ → Reader A → (B → A → B) → ℕ → B → Reader B
parts_at word part add zero so_far text = Some (so_far, text)
parts_at word part add (suc n) so_far text =
    read_or (after word text)
    (λ rest. read_on (part rest) (λ p. parts_at word part add n (add so_far p.0) p.1))
    (Some (so_far, text))

-- one part or more, with this word between two
abbrev pub parts_between : {A B : Type 0} → List ℕ → Reader A → (A → B) → (B → A → B) → Reader B
parts_between word part first add text =
    read_on (part text) (λ p. parts_at word part add (length p.1) (first p.0) p.1)

abbrev pub some_refers : Option Instr → Bool
some_refers None = false
some_refers (Some i) = refers_to_cell i

-- whether one of the n places from this one on holds a reference to a cell
abbrev pub has_reference : List Instr → ℕ → ℕ → Bool
has_reference program from zero = false
has_reference program from (suc n) =
    has_reference program from n || some_refers (slice_get program (from + n))

module _ (s : Scope) where
  -- ---- values
  -- behind the first and the last of some cells
  unfoldable pub cells_to : Measure → ℕ → ℕ → Reader Value
  cells_to m a b text =
      if nat_le a b && nat_lt b s.cells
      then read_on (after (codes "]") text) (λ rest. Some (Cells m a b, rest)) else None

  -- `[A]` or `[A..B]`
  unfoldable pub cells_at : Measure → Reader Value
  cells_at m text =
      read_on (after (codes "[") text) (λ r. read_on (number_at r) (λ a.
      read_or (after (codes "..") a.1)
      (λ r. read_on (number_at r) (λ b. cells_to m a.0 b.0 b.1))
      (cells_to m a.0 a.0 a.1)))

  -- `P.rI`
  unfoldable pub register_at : Reader Value
  register_at text =
      read_on (number_at text) (λ p. read_on (after (codes ".") p.1) (λ rest.
      read_on (register_of (word_at rest).0) (λ r.
      if nat_lt p.0 s.elements then Some (Register p.0 r, (word_at rest).1) else None)))

  unfoldable pub label_at : Reader ℕ
  label_at text =
      read_on (near_pc_of (text_words s.text) (word_at text).0)
      (λ k. Some (k, (word_at text).1))

  -- the processing elements at these places
  unfoldable pub between_labels : ℕ → ℕ → Reader Value
  between_labels from to rest =
      if has_reference s.program from (to - from)
      then Some (Elements (group.At from to), rest) else None

  -- `L` or `L..K`
  unfoldable pub labels_at : Reader Value
  labels_at text =
      read_on (label_at text) (λ l.
      read_or (after (codes "..") l.1)
      (λ r. read_on (label_at r) (λ k. between_labels l.0 k.0 k.1))
      (between_labels l.0 (l.0 + 1) l.1))

  -- VALUE
  unfoldable pub value_at : Reader Value
  value_at text =
      read_or (after (codes "least") text) (cells_at Least)
      (read_or (after (codes "greatest") text) (cells_at Greatest)
      (read_or (after (codes "at") text) labels_at
      (read_or (after (codes "running") text) (λ rest. Some (Elements group.Running, rest))
      (read_or (after (codes "halted") text) (λ rest. Some (Elements group.Halted, rest))
      (read_or (after (codes "faulted") text) (λ rest. Some (Elements group.Faulted, rest))
      (read_or (after (codes "[") text) (λ rest. cells_at Total text)
      (register_at text)))))))

  -- ---- sums
  -- n times a value
  unfoldable pub times : ℕ → Reader Term
  times n text =
      read_on (value_at text) (λ v. Some (record { factor = n; value = v.0 }, v.1))

  -- TERM: a number that neither `*` nor `.` follows is a term alone
  unfoldable pub term_at : Reader Term
  term_at text =
      read_or (number_at text)
      (λ n.
      read_or (after (codes "*") n.1) (times n.0)
      (read_or (after (codes ".") n.1) (λ rest. times 1 text)
      (Some (record { factor = n.0; value = One }, n.1))))
      (times 1 text)

  -- TERMs, `+` between two
  unfoldable pub terms_at : Reader (List Term)
  terms_at text =
      parts_between (codes "+") term_at (λ t. t ∷ []) (λ ts t. ts ++ t ∷ []) text

  -- SUM
  unfoldable pub sum_at : Reader (List Term)
  sum_at text =
      read_on (terms_at text) (λ ts.
      if nat_lt (most_sum s.elements ts.0) (2 ^ 64) then Some ts else None)

  -- ---- conditions
  -- `SUM SIGN SUM`
  unfoldable pub comparison_at : Reader Condition
  comparison_at text =
      read_on (sum_at text) (λ a. read_on (sign_at a.1) (λ sign. read_on (sum_at sign.1) (λ b.
      Some (compare a.0 sign.0 b.0, b.1))))

  -- AND and COND, given NOT
  abbrev pub conjunction_at : Reader Condition → Reader Condition
  conjunction_at part text = parts_between (codes "and") part (λ c. c) both text

  abbrev pub disjunction_at : Reader Condition → Reader Condition
  disjunction_at part text =
      parts_between (codes "or") (conjunction_at part) (λ c. c) either text

  -- NOT, with at most this many `not` and `(` inside one another
  unfoldable pub negation_at : ℕ → Reader Condition
  negation_at zero text = comparison_at text
  negation_at (suc depth) text =
      read_or (after (codes "not") text)
      (λ r. read_on (negation_at depth r) (λ c. Some (negate c.0, c.1)))
      (read_or (after (codes "(") text)
      (λ r. read_on (disjunction_at (negation_at depth) r) (λ c.
      read_on (after (codes ")") c.1) (λ rest. Some (c.0, rest))))
      (comparison_at text))

  abbrev pub condition_at : ℕ → Reader Condition
  condition_at depth text = disjunction_at (negation_at depth) text

  -- ---- whole texts
  abbrev pub read_whole : {A : Type 0} → Option (A × List ℕ) → Option A
  read_whole None = None
  read_whole (Some p) = if is_at_end p.1 then Some p.0 else None

  abbrev pub read_sum : List ℕ → Option (List Term)
  read_sum text = read_whole (sum_at text)

  abbrev pub read_condition : List ℕ → Option Condition
  read_condition text = read_whole (condition_at MOST_NESTED text)
