-- the tree of the act that serves all processing elements at once
use Rattle.std.specs.Prelude.{◌≡◌, ◌<◌, ◌≤◌, ◌+◌, ℕ, List, [], ◌∷◌, ◌++◌, Option, Some, None, ◌==◌, if◌then◌else◌, length, map}
use Rattle.std.specs.List.{Contains}
use Rattle.ultra_msg.specs.declared.{Request.Request, Event.{Event, TheVariants.{Delivered, Served, Combined, Issued}}}
use Rattle.ultra_isa.specs.declared.Instr.{Instr}
use Rattle.ultra_model.specs.{Machine.{Settings, size}, Phases.after, Ranges.AreInRange}
use Rattle.ultra_serial_law.specs.AllAtOnce.{AreAllAt, AreServedAtOnce, later_events}
use Rattle.ultra_serial_law.specs.{declared.records.NamedRequest.NamedRequest, SerialList.history}
use Rattle.ultra_serial_law.specs.Tree.{Tree, Kept, leaves, height, tree_of, trees_after}

-- the tree, if there is one
abbrev pub tree_list : Option Tree → List Tree
tree_list None = []
tree_list (Some t) = t ∷ []

-- the trees of the acts on cell a among these events, where these trees are kept before them
abbrev pub tree_taken : ℕ → List Kept → Event → List Tree
tree_taken a ks (Delivered r) = []
tree_taken a ks (Served k r reply now) =
    if r.cell == a then tree_list (tree_of r.pe r.cell ks) else []
tree_taken a ks (Combined s x b p q f) = []
tree_taken a ks (Issued r n) = []

abbrev pub trees_taken : ℕ → List Kept → List Event → List Tree
trees_taken a ks [] = []
trees_taken a ks (e ∷ es) = tree_taken a ks e ++ trees_taken a (trees_after ks e) es

-- one of the tree's leaves is of processing element p
abbrev pub IsOf : Tree → ℕ → Type 0
IsOf t p = Contains (map (λ (l : NamedRequest). l.pe) (leaves t)) p

module _ (c : Settings) (program : List Instr) (n a : ℕ) where
  -- one request is served for all. Its act takes one tree away, which is as high as there are
  -- stages and has one leaf for each processing element
  pub record IsHotSpot (served : Request) (tree : Tree) : Type 0 where
    pub served_at_once : AreServedAtOnce c program n a served
    pub taken : trees_taken a (history c program (n + c.stages + 1)).trees
        (later_events c program n a (c.stages + 1)) ≡ tree ∷ []
    pub height : height tree ≡ c.stages
    pub leaves : length (leaves tree) ≡ size c
    pub of_all : (p : ℕ) → p < size c → IsOf tree p

-- for all settings in their ranges with a place in each wait buffer, every program, and whenever
-- all processing elements have asked for one cell
abbrev pub HotSpotLaw : Type 0
HotSpotLaw =
    (c : Settings) → AreInRange c → 1 ≤ c.wait_places → (program : List Instr) (n a : ℕ)
    → AreAllAt c a (after c program n)
    → (served : Request) × (tree : Tree) × IsHotSpot c program n a served tree
