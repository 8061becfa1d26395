-- the lines of the memory acts of a run, each with its combining tree; this project's profile
use Rattle.std.specs.Prelude.{◌≡◌, ◌⊎◌, ◌+◌, ◌<◌, ℕ, zero, suc, List, [], ◌∷◌, ◌++◌, take, slice_get, Option, Some, None, codes, decimal}
use Rattle.ultra_msg.specs.declared.Event.{Event, TheVariants.{Delivered, Served, Combined, Issued}}
use Rattle.ultra_isa.specs.declared.Instr.{Instr}
use Rattle.ultra_model.specs.{Machine.Settings, Phases.after, Trace.cycle_count}
use Rattle.ultra_inputs.specs.{declared.failure.Failure.{Failure, TheVariants.{HeapTooSmall, HeapFull}}, Inputs.Gave, Traffic.{IsStopped, Traffic}}
use Rattle.ultra_serial_law.specs.{Tree.{Tree, Kept, tree_of, trees_after}, SerialList.history}
use Rattle.ultra_tree.specs.{Absorb.IsCombination, Text.tree_text}

-- the line of an act, `cycle C module M cell A TREE`
abbrev pub tree_line : ℕ → ℕ → ℕ → Tree → List ℕ
tree_line c k a t =
    codes "cycle " ++ decimal c ++ codes " module " ++ decimal k ++ codes " cell " ++ decimal a
    ++ codes " " ++ tree_text t ++ codes "\n"

-- the line, where there is a tree
abbrev pub tree_line_of : ℕ → ℕ → ℕ → Option Tree → List ℕ
tree_line_of c k a None = []
tree_line_of c k a (Some t) = tree_line c k a t

-- the line of an event of a cycle, over the trees before it: of all events an act alone has one
abbrev pub tree_event_line : ℕ → List Kept → Event → List ℕ
tree_event_line c ks (Delivered r) = []
tree_event_line c ks (Served k r reply now) = tree_line_of c k r.cell (tree_of r.pe r.cell ks)
tree_event_line c ks (Combined s x a p q f) = []
tree_event_line c ks (Issued r n) = []

-- the lines of several events of a cycle, in order, and the trees after them
abbrev pub event_lines : ℕ → List Kept → List Event → List ℕ
event_lines c ks [] = []
event_lines c ks (e ∷ es) = tree_event_line c ks e ++ event_lines c (trees_after ks e) es

abbrev pub trees_after_all : List Kept → List Event → List Kept
trees_after_all ks [] = ks
trees_after_all ks (e ∷ es) = trees_after_all (trees_after ks e) es

-- the lines of the first n cycles of a run, and of the cycles that the trace has
unfoldable pub lines_of_first : Settings → List Instr → ℕ → List ℕ
lines_of_first c p zero = []
lines_of_first c p (suc n) =
    lines_of_first c p n ++ event_lines n (history c p n).trees (after c p (suc n)).events

abbrev pub explanation_of : Settings → List Instr → List ℕ
explanation_of c p = lines_of_first c p (cycle_count c p)

-- why the lines of a run end early
abbrev pub AreLinesCut : Failure → Type 0
AreLinesCut f = (f ≡ HeapFull) ⊎ IsStopped f

-- why an explanation ends early: also where the heap has no room for an explainer
abbrev pub IsCutShort : Failure → Type 0
IsCutShort f = (f ≡ HeapTooSmall) ⊎ AreLinesCut f

-- to an old text come the lines of a cycle's events before a combination among them
pub record StopsAtCombination (c : ℕ) (ks : List Kept) (es : List Event)
    (old new : List ℕ) : Type 0 where
  pub before : ℕ
  pub event : Event
  pub next : slice_get es before ≡ Some event
  pub combines : IsCombination event
  pub lines : new ≡ old ++ event_lines c ks (take before es)

-- what comes to it where the heap is full: all lines of the run before a combination
pub record StopsFull (c : Settings) (p : List Instr) (old new : List ℕ) : Type 0 where
  pub cycle : ℕ
  pub within : cycle < c.cycles
  pub stops : StopsAtCombination cycle (history c p cycle).trees (after c p (cycle + 1)).events
      (old ++ lines_of_first c p cycle) new

-- two files were read, and a full heap ends the lines of their settings and program
pub record EndsFull (conf prog : List ℕ) (old new : Traffic) : Type 0 where
  pub settings : Settings
  pub program : List Instr
  pub gave : Gave conf prog old.files new.files settings program
  pub written : StopsFull settings program old.written new.written
