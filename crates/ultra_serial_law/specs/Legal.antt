-- what it is for a list of requests to explain what a machine did: the serialization principle of
-- the 1983 paper. It knows no network, and of operations only what they do to a cell
use Rattle.std.specs.Prelude.{◌≡◌, ◌<◌, ℕ, List, [], ◌∷◌, map, true, false, ◌==◌, Some, slice_get}
use Rattle.ultra_msg.specs.{declared.Reply.Reply, Act.act}
use Rattle.ultra_serial_law.specs.{Tree.NamedRequest, Log.{LoggedIssue, LoggedAnswer, Log}}
pub use Rattle.ultra_serial_law.specs.declared.records.Entry.{Entry}

-- the request of an entry, and a request with its reply
abbrev pub leaf_of_entry : Entry → NamedRequest
leaf_of_entry e = record { pe = e.pe; number = e.number; cell = e.cell; op = e.op }

abbrev pub answered_by : NamedRequest → Reply → Entry
answered_by l r = record { pe = l.pe; number = l.number; cell = l.cell; op = l.op; reply = r }

-- ---- cells, as a function of the address
abbrev pub Cells : Type 0
Cells = ℕ → ℕ

abbrev pub with_cell : Cells → ℕ → ℕ → Cells
with_cell m a v = λ b. elim (b == a) [ true ↦ v | false ↦ m b ]

-- the cells of a list of addresses with their values: the last that is given, or 0
abbrev pub given_over : Cells → List (ℕ × ℕ) → Cells
given_over m [] = m
given_over m (i ∷ is) = given_over (with_cell m i.0 i.1) is

abbrev pub given : List (ℕ × ℕ) → Cells
given is = given_over (λ a. 0) is

-- ---- replay
-- the cells after these requests, in order, and each request with its reply
abbrev pub cells_after : Cells → List NamedRequest → Cells
cells_after m [] = m
cells_after m (l ∷ ls) = cells_after (with_cell m l.cell (act l.op (m l.cell)).0) ls

abbrev pub replayed : Cells → List NamedRequest → List Entry
replayed m [] = []
replayed m (l ∷ ls) =
    answered_by l (act l.op (m l.cell)).1 ∷ replayed (with_cell m l.cell (act l.op (m l.cell)).0) ls

-- ---- legal
-- x is in the list
abbrev pub Has : {X : Type 0} → List X → X → Type 0
Has {X} xs x = (k : ℕ) × (slice_get xs k ≡ Some x)

-- an issue, or an answer, has an entry's name
abbrev pub IsIssueNamed : Entry → LoggedIssue → Type 0
IsIssueNamed e i = (i.pe ≡ e.pe) × (i.number ≡ e.number)

abbrev pub IsAnswerTo : Entry → LoggedAnswer → Type 0
IsAnswerTo e a = (a.pe ≡ e.pe) × (a.number ≡ e.number)

-- it is of this entry, with its cell and operation
pub record IsIssueOf (e : Entry) (i : LoggedIssue) : Type 0 where
  pub name : IsIssueNamed e i
  pub cell : i.cell ≡ e.cell
  pub op : i.op ≡ e.op

pub record IsLegal (initial : Cells) (log : Log) (final : Cells) (list : List Entry) : Type 0 where
  -- each entry was issued, with its cell and operation
  pub issued : (e : Entry) → Has list e → (i : LoggedIssue) × Has log.issues i × IsIssueOf e i
  -- no name occurs twice
  pub once : (j k : ℕ) (e f : Entry) → slice_get list j ≡ Some e → slice_get list k ≡ Some f
      → e.pe ≡ f.pe → e.number ≡ f.number → j ≡ k
  -- each name that was answered is in the list
  pub answered : (a : LoggedAnswer) → Has log.answers a → (e : Entry) × Has list e × IsAnswerTo e a
  -- the replies are those of the replay
  pub replies : replayed initial (map (λ (e : Entry). leaf_of_entry e) list) ≡ list
  -- each answer to an entry is its reply
  pub agreed : (e : Entry) (a : LoggedAnswer) → Has list e → Has log.answers a → IsAnswerTo e a
      → a.reply ≡ e.reply
  -- the replay ends with these cells
  pub cells : (a : ℕ) → cells_after initial (map (λ (e : Entry). leaf_of_entry e) list) a ≡ final a
  -- where an entry was answered in a cycle, no entry before it was issued in that cycle or later
  pub real_time : (j k : ℕ) (e f : Entry) (i : LoggedIssue) (a : LoggedAnswer) → j < k
      → slice_get list j ≡ Some e → slice_get list k ≡ Some f
      → Has log.issues i → IsIssueNamed e i → Has log.answers a → IsAnswerTo f a → i.cycle < a.cycle
