-- which events the trees that are kept can absorb, and that they can absorb those of every run
use Rattle.std.specs.Prelude.{◌≡◌, ◌≢◌, ◌<◌, ◌≤◌, ◌+◌, ◌==◌, ℕ, List, [], ◌∷◌, ◌++◌, length, map, Option, Some, None, IsSome, IfSome, slice_get}
use Rattle.ultra_msg.specs.declared.Event.{Event, TheVariants.{Delivered, Served, Combined, Issued}}
use Rattle.ultra_isa.specs.declared.Instr.{Instr}
use Rattle.ultra_model.specs.{Machine.{Settings, size}, Phases.after, Ranges.AreInRange, Balance.weight}
use Rattle.ultra_serial_law.specs.Tree.{Tree, NamedRequest, leaves, height, Kept, tree_of, trees_after, leaves_of}
use Rattle.ultra_serial_law.specs.{Legal.{Entry, leaf_of_entry}, SerialList.{history, serial_list}}

-- how many of the trees are those of requests of a processing element
abbrev pub held_by : ℕ → List Kept → ℕ
held_by p [] = 0
held_by p (k ∷ ks) = weight (k.pe == p) + held_by p ks

-- these trees, of n processing elements (PEs) with at most m requests each, can absorb an event.
-- The requests that are served or combined are held, and are of two PEs if they combine. A request
-- that is issued isn't held yet, its PE is below n, and fewer than m of that PE's requests are held
abbrev pub IsAbsorbable : ℕ → ℕ → List Kept → Event → Type 0
IsAbsorbable n m ks (Delivered r) = Unit {0}
IsAbsorbable n m ks (Served k r reply now) = IsSome (tree_of r.pe r.cell ks)
IsAbsorbable n m ks (Combined s x a p q f) =
    (p ≢ q) × IsSome (tree_of p a ks) × IsSome (tree_of q a ks)
IsAbsorbable n m ks (Issued r i) =
    (tree_of r.pe r.cell ks ≡ None) × (r.pe < n) × (held_by r.pe ks < m)

-- the tree of the request that an event's act serves
abbrev pub served_tree : List Kept → Event → Option Tree
served_tree ks (Delivered r) = None
served_tree ks (Served k r reply now) = tree_of r.pe r.cell ks
served_tree ks (Combined s x a p q f) = None
served_tree ks (Issued r i) = None

-- they can absorb several events, in order
abbrev pub AreAbsorbable : ℕ → ℕ → List Kept → List Event → Type 0
AreAbsorbable n m ks [] = Unit {0}
AreAbsorbable n m ks (e ∷ es) = IsAbsorbable n m ks e × AreAbsorbable n m (trees_after ks e) es

-- the trees of the requests that they serve
abbrev pub ServeTrees : (Tree → Type 0) → List Kept → List Event → Type 0
ServeTrees P ks [] = Unit {0}
ServeTrees P ks (e ∷ es) = IfSome (served_tree ks e) P × ServeTrees P (trees_after ks e) es

-- a tree as a machine makes it: no higher than the stages, and with at most one leaf of each
-- processing element
pub record IsOfMachine (c : Settings) (t : Tree) : Type 0 where
  pub low : height t ≤ c.stages
  pub few : length (leaves t) ≤ size c
  pub different : (j k : ℕ) (l r : NamedRequest) → slice_get (leaves t) j ≡ Some l
      → slice_get (leaves t) k ≡ Some r → l.pe ≡ r.pe → j ≡ k

-- how a serial list grows. Each event adds a piece to it. The requests of the piece are the leaves
-- of the tree that the event's act serves, in serial order
abbrev pub AreLeavesAdded : List Entry → List Kept → List Event → List Entry → Type 0
AreLeavesAdded list ks [] longer = list ≡ longer
AreLeavesAdded list ks (e ∷ es) longer =
    (piece : List Entry)
    × (map (λ (e : Entry). leaf_of_entry e) piece ≡ leaves_of (served_tree ks e))
    × AreLeavesAdded (list ++ piece) (trees_after ks e) es longer

-- in every cycle the trees so far can absorb each event, and the leaves of the trees that are
-- served are what the cycle adds to the serial list
pub record AreExplicable (c : Settings) (program : List Instr) : Type 0 where
  pub absorbable : (n : ℕ)
      → AreAbsorbable (size c) c.most_open (history c program n).trees
      (after c program (n + 1)).events
  pub served : (n : ℕ)
      → ServeTrees (IsOfMachine c) (history c program n).trees (after c program (n + 1)).events
  pub listed : (n : ℕ)
      → AreLeavesAdded (serial_list c program n) (history c program n).trees
      (after c program (n + 1)).events (serial_list c program (n + 1))

-- for all settings in their ranges, every program and every number of cycles
abbrev pub ExplainingLaw : Type 0
ExplainingLaw = (c : Settings) → AreInRange c → (program : List Instr) → AreExplicable c program
