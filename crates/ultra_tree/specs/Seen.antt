-- how the trees of the code are seen as those of the definition
use Rattle.std.specs.Prelude.{ℕ}
use Rattle.ultra_serial_law.specs.{Tree.{Tree as SerialTree, leaf, pair}, declared.records.NamedRequest.NamedRequest}
use Rattle.ultra_tree.specs.declared.{listing.Leaf.Leaf, trees.{CountedNode.{CountedNode, Pair'}, Tree.Tree}, nodes.{Node.Node, Part.Part}}
use Rattle.ultra_tree.specs.declared.trees.CountedNode as node
use Rattle.ultra_tree.specs.declared.nodes.Node.TheVariants as matched

-- a leaf with the cell that its request is for
abbrev pub at_cell : ℕ → Leaf → NamedRequest
at_cell a l = record { pe = l.pe; number = l.number; cell = a; op = l.op }

module _ {A : Type 0} where
  -- a tree of requests for a cell
  abbrev pub seen_counted : ℕ → CountedNode A → SerialTree
  seen_counted a (node.Leaf p n o) = leaf record { pe = p; number = n; cell = a; op = o }
  seen_counted a (Pair' s x p old q new first k l) =
      pair s x (seen_counted a old) (seen_counted a new) first

  abbrev pub seen : ℕ → Tree A → SerialTree
  seen a t = seen_counted a t.node

  -- what a caller matches
  abbrev pub seen_part : ℕ → Part A → SerialTree
  seen_part a t = seen_counted a t.root.now

  abbrev pub seen_node : ℕ → Node A → SerialTree
  seen_node a (matched.Leaf p n o) = leaf record { pe = p; number = n; cell = a; op = o }
  seen_node a (matched.Pair s x old new first) = pair s x (seen_part a old) (seen_part a new) first
