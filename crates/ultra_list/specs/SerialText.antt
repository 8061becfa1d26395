-- the text of a serial list: what is written for it, and which texts are read as it; this project's
-- profile
use Rattle.std.specs.Prelude.{◌≡◌, ◌≢◌, ◌+◌, ◌⊎◌, ℕ, List, [], ◌∷◌, ◌++◌, length, codes, decimal}
use Rattle.std.specs.List.{AllByRecursion, flat_map}
use Rattle.ultra_msg.specs.declared.Op.{Op, TheVariants.{Load, Store, Faa, Swap}}
use Rattle.ultra_model.specs.Text.{newline, reply_text}
use Rattle.ultra_list.specs.Words.{IsWord, OfWord, GivesWord}
use Rattle.ultra_serial_law.specs.declared.records.Entry.{Entry}

-- ---- what is written
-- an operation on a cell, `OP A [W]`
abbrev pub operation_text : Op → ℕ → List ℕ
operation_text Load a = codes "load " ++ decimal a
operation_text (Store w) a = codes "store " ++ decimal a ++ codes " " ++ decimal w
operation_text (Faa w) a = codes "faa " ++ decimal a ++ codes " " ++ decimal w
operation_text (Swap w) a = codes "swap " ++ decimal a ++ codes " " ++ decimal w

-- an entry, `P.N OP A [W] = R`
abbrev pub list_entry_text : Entry → List ℕ
list_entry_text e =
    decimal e.pe ++ codes "." ++ decimal e.number ++ codes " " ++ operation_text e.op e.cell
    ++ codes " = " ++ reply_text e.reply

-- the line of an entry, and those of a list
abbrev pub order_line : Entry → List ℕ
order_line e = list_entry_text e ++ newline

abbrev pub order_text : List Entry → List ℕ
order_text entries = flat_map order_line entries

-- ---- what is read
-- each number of the entry is a word of 32 bits
pub record HasWords (e : Entry) : Type 0 where
  pub pe : IsWord e.pe
  pub number : IsWord e.number
  pub cell : IsWord e.cell
  pub op : OfWord e.op
  pub reply : GivesWord e.reply

-- the text begins with the line of an entry, and goes on with the rest. The line ends with byte 10,
-- or with bytes 13 and 10, or the text ends with it
abbrev pub BeginsWith : List ℕ → Entry → List ℕ → Type 0
BeginsWith text e rest =
    HasWords e
    × ((text ≡ list_entry_text e ++ 10 ∷ rest) ⊎ (text ≡ list_entry_text e ++ 13 ∷ 10 ∷ rest)
    ⊎ ((text ≡ list_entry_text e) × (rest ≡ [])))

-- the text begins with the lines of these entries, and goes on with the rest
abbrev pub BeginsWithAll : List ℕ → List Entry → List ℕ → Type 0
BeginsWithAll text [] rest = text ≡ rest
BeginsWithAll text (e ∷ es) rest =
    (next : List ℕ) × BeginsWith text e next × BeginsWithAll next es rest

-- the text is that of the list, and of nothing more
abbrev pub IsListText : List ℕ → List Entry → Type 0
IsListText text es = BeginsWithAll text es []

-- what is written for a list of such entries is its text
abbrev pub ListTextLaw : Type 0
ListTextLaw = (es : List Entry) → AllByRecursion HasWords es → IsListText (order_text es) es

-- the lines before this one, counted from 1, are entries, and this one isn't
pub record IsFirstBadLine (text : List ℕ) (line : ℕ) : Type 0 where
  pub before : List Entry
  pub rest : List ℕ
  pub read : BeginsWithAll text before rest
  pub number : line ≡ length before + 1
  pub more : rest ≢ []
  pub none : (e : Entry) (next : List ℕ) → BeginsWith rest e next → ⊥
