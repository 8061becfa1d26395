-- the trees of combined requests, as the events of a machine make them
use Rattle.std.specs.Prelude.{ℕ, ◌+◌, List, [], ◌∷◌, ◌++◌, Bool, true, false, ◌&&◌, ◌==◌, Option, Some, None, max}
use Rattle.ultra_msg.specs.declared.Event.{Event, TheVariants.{Delivered, Served, Combined, Issued}}
pub use Rattle.ultra_serial_law.specs.declared.records.NamedRequest.{NamedRequest}

-- a request as it was issued, or two trees that met at a stage and position, and whether the old
-- one comes first
pub data Tree : Type 0 where
  leaf : NamedRequest → Tree
  pair : (stage position : ℕ) → (old new : Tree) → (old_first : Bool) → Tree

-- the leaves in serial order
abbrev pub leaves : Tree → List NamedRequest
leaves (leaf l) = l ∷ []
leaves (pair s x old new true) = leaves old ++ leaves new
leaves (pair s x old new false) = leaves new ++ leaves old

abbrev pub height : Tree → ℕ
height (leaf l) = 0
height (pair s x old new f) = max (height old) (height new) + 1

-- a tree under the identity of its request, the latest first
pub record Kept : Type 0 where
  pub pe : ℕ
  pub cell : ℕ
  pub tree : Tree

abbrev pub kept : ℕ → ℕ → Tree → Kept
kept p a t = record { pe = p; cell = a; tree = t }

abbrev pub is_under : ℕ → ℕ → Kept → Bool
is_under p a k = (k.pe == p) && (k.cell == a)

abbrev pub tree_of : ℕ → ℕ → List Kept → Option Tree
tree_of p a [] = None
tree_of p a (k ∷ ks) = elim (is_under p a k) [ true ↦ Some k.tree | false ↦ tree_of p a ks ]

abbrev pub without : ℕ → ℕ → List Kept → List Kept
without p a [] = []
without p a (k ∷ ks) = elim (is_under p a k) [ true ↦ ks | false ↦ k ∷ without p a ks ]

-- the pair of two trees, under the identity of old
abbrev pub with_pair : ℕ → ℕ → ℕ → ℕ → Bool → List Kept → Option Tree → Option Tree → List Kept
with_pair s x a p f ks None n = ks
with_pair s x a p f ks (Some o) None = ks
with_pair s x a p f ks (Some o) (Some n) = kept p a (pair s x o n f) ∷ ks

-- the trees after an event: an issue makes a leaf, a combination a pair, and an act takes its tree
-- away
abbrev pub trees_after : List Kept → Event → List Kept
trees_after ks (Delivered r) = ks
trees_after ks (Served k r reply now) = without r.pe r.cell ks
trees_after ks (Combined s x a p q f) =
    with_pair s x a p f (without q a (without p a ks)) (tree_of p a ks)
    (tree_of q a (without p a ks))
trees_after ks (Issued r n) =
    kept r.pe r.cell (leaf record { pe = r.pe; number = n; cell = r.cell; op = r.op }) ∷ ks

abbrev pub leaves_of : Option Tree → List NamedRequest
leaves_of None = []
leaves_of (Some t) = leaves t

-- the leaves of the tree that an event's act serves
abbrev pub served_leaves : List Kept → Event → List NamedRequest
served_leaves ks (Delivered r) = []
served_leaves ks (Served k r reply now) = leaves_of (tree_of r.pe r.cell ks)
served_leaves ks (Combined s x a p q f) = []
served_leaves ks (Issued r n) = []
