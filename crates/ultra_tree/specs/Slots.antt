-- the trees that are held, by their slots and in their order
use Rattle.std.specs.Prelude.{◌≡◌, ℕ, zero, suc, ◌+◌, ◌*◌, ◌-◌, ◌<◌, ◌≤◌, List, [], ◌∷◌, ◌++◌, length, Bool, true, false, ◌==◌, Option, Some, None, slice_get}
use Rattle.ultra_serial_law.specs.{Tree.{Tree as SerialTree, Kept, kept, is_under, without}, Explicable.held_by}
use Rattle.ultra_tree.specs.{Seen.seen, declared.{trees.Tree.Tree, slots.Slot.{Slot, TheVariants.{Free, Held}}, order.Order.{Order, TheVariants.{Empty, Put', Taken'}}}}

-- the trees under an identity, in their order
abbrev pub trees_under : ℕ → ℕ → List Kept → List SerialTree
trees_under p a [] = []
trees_under p a (k ∷ ks) =
    elim (is_under p a k) [ true ↦ k.tree ∷ trees_under p a ks | false ↦ trees_under p a ks ]

module _ {A : Type 0} where
  abbrev pub is_slot_for : ℕ → Slot A → Bool
  is_slot_for a Free = false
  is_slot_for a (Held b t) = b == a

  abbrev pub is_slot_free : Slot A → Bool
  is_slot_free Free = true
  is_slot_free (Held a t) = false

  -- what a slot of processing element p holds
  abbrev pub trees_in_slot : ℕ → Option (Slot A) → List Kept
  trees_in_slot p None = []
  trees_in_slot p (Some Free) = []
  trees_in_slot p (Some (Held a t)) = kept p a (seen a t) ∷ []

  -- what k slots of processing element p hold, from a place on
  abbrev pub trees_in_slots : ℕ → List (Slot A) → ℕ → ℕ → List Kept
  trees_in_slots p ss i zero = []
  trees_in_slots p ss i (suc k) =
      trees_in_slot p (slice_get ss i) ++ trees_in_slots p ss (i + 1) k

  -- what the slots of processing element p hold, where each processing element has m
  abbrev pub trees_in_row : ℕ → ℕ → List (Slot A) → List Kept
  trees_in_row m p ss = trees_in_slots p ss (p * m) m

  -- the first slot of processing element p with a tree for cell a
  pub record IsFirstFor (m p a : ℕ) (ss : List (Slot A)) (i : ℕ) : Type 0 where
    pub tree : Tree A
    pub at : slice_get ss i ≡ Some (Held a tree)
    pub from : p * m ≤ i
    pub to : i < p * m + m
    pub before : trees_under p a (trees_in_slots p ss (p * m) (i - p * m)) ≡ []

  pub record IsFreePlace (m p : ℕ) (ss : List (Slot A)) (i : ℕ) : Type 0 where
    pub at : slice_get ss i ≡ Some Free
    pub from : p * m ≤ i
    pub to : i < p * m + m

  -- the trees that are held, the latest first
  abbrev pub trees_of : Order A → List Kept
  trees_of Empty = []
  trees_of (Put' m before p a t) = kept p.value a.value (seen a.value t.value) ∷ trees_of before
  trees_of (Taken' m before p a) = without p.value a.value (trees_of before)

  -- the slots of n processing elements, m for each, hold these trees, of each identity one at most
  pub record AreSlotsOf (n m : ℕ) (ss : List (Slot A)) (ks : List Kept) : Type 0 where
    pub size : length ss ≡ n * m
    pub same : (p a : ℕ) → trees_under p a (trees_in_row m p ss) ≡ trees_under p a ks
    pub count : (p : ℕ) → held_by p (trees_in_row m p ss) ≡ held_by p ks
    pub once : (p a : ℕ) → length (trees_under p a ks) ≤ 1
