-- what an explainer holds, and when it fails
use Rattle.std.specs.Prelude.{◌≡◌, ℕ, ◌<◌, ◌≤◌, List, [], Bool, true, false}
use Rattle.std.specs.List.{AllByRecursion}
use Rattle.ultra_msg.specs.declared.Event.{Event, TheVariants.{Delivered, Served, Combined, Issued}}
use Rattle.ultra_serial_law.specs.{Tree.Kept, Explicable.held_by}
use Rattle.ultra_tree.specs.declared.explaining.ExplainFault.{ExplainFault, TheVariants.{Full, Spent}}

-- the trees are those of requests of processing elements below n, at most m of each
pub record AreWithin (n m : ℕ) (ks : List Kept) : Type 0 where
  pub elements : AllByRecursion (λ (k : Kept). k.pe < n) ks
  pub few : (p : ℕ) → held_by p ks ≤ m

-- the cell that an event is about
abbrev pub event_cell : Event → ℕ
event_cell (Delivered r) = r.cell
event_cell (Served k r reply now) = r.cell
event_cell (Combined s x a p q f) = a
event_cell (Issued r i) = r.cell

-- an explainer as its callers see it: the number of processing elements, and how many requests each
-- can have on their way. Then whether memory was refused, and the trees, the latest first
pub record ExplainerState : Type 0 where
  pub elements : ℕ
  pub most_open : ℕ
  pub is_spent : Bool
  pub trees : List Kept

abbrev pub nothing_absorbed : ℕ → ℕ → ExplainerState
nothing_absorbed n m = record { elements = n; most_open = m; is_spent = false; trees = [] }

-- of all events a combination alone takes memory
abbrev pub IsCombination : Event → Type 0
IsCombination (Delivered r) = ⊥
IsCombination (Served k r reply now) = ⊥
IsCombination (Combined s x a p q f) = Unit {0}
IsCombination (Issued r i) = ⊥

-- when each fault comes, and what it leaves
abbrev pub ExplainsExplainFault : ExplainerState → Event → ExplainFault → ExplainerState → Type 0
ExplainsExplainFault old e Full new =
    (old.is_spent ≡ false) × IsCombination e × (new ≡ record old { is_spent = true; trees = [] })
ExplainsExplainFault old e Spent new = (old.is_spent ≡ true) × (new ≡ old)
