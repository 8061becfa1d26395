-- the text of a tree: this project's profile
use Rattle.std.specs.Prelude.{ℕ, zero, suc, List, [], ◌++◌, Bool, true, false, Option, Some, None, codes, decimal}
use Rattle.ultra_serial_law.specs.Tree.{Tree, leaf, pair}

-- the name of a request
abbrev pub leaf_text : ℕ → ℕ → List ℕ
leaf_text p n = decimal p ++ codes "." ++ decimal n

-- where the requests of a pair met
abbrev pub head_text : ℕ → ℕ → List ℕ
head_text s x = codes "[s" ++ decimal s ++ codes "x" ++ decimal x ++ codes " "

-- which of a pair comes first in the serial order
abbrev pub order_mark : Bool → List ℕ
order_mark true = codes " < "
order_mark false = codes " > "

abbrev pub tree_text : Tree → List ℕ
tree_text (leaf l) = leaf_text l.pe l.number
tree_text (pair s x old new f) =
    head_text s x ++ tree_text old ++ order_mark f ++ tree_text new ++ codes "]"

-- ---- parts of the text of a tree
-- a pair opens before its first leaf
abbrev pub opening : ℕ → ℕ → ℕ → List ℕ
opening zero s x = head_text s x
opening (suc i) s x = []

abbrev pub closings : ℕ → List ℕ
closings zero = []
closings (suc n) = codes "]" ++ closings n

abbrev pub order_mark_text : Option Bool → List ℕ
order_mark_text None = []
order_mark_text (Some f) = order_mark f
