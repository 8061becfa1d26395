-- what an event adds to a serial list are the leaves of the tree that it serves
use Rattle.std.proofs.Common.{◌≡◌, ℕ, List, [], ◌∷◌, refl, ◌∙◌, subst}
use Rattle.ultra_msg.specs.declared.Event.{Event, TheVariants.{Delivered, Served, Combined, Issued}}
use Rattle.ultra_serial_law.specs.{Tree.{Kept, trees_after, leaves_of, served_leaves}, Legal.{Entry, Cells, cells_after, replayed}, SerialList.{History, after_event, noted}, Explicable.{served_tree, AreLeavesAdded}}
use Rattle.ultra_serial_law.proofs.{Lists.requests_of, Replays.replayed-append}

served_leaves_are : (ks : List Kept) (e : Event) → served_leaves ks e ≡ leaves_of (served_tree ks e)
served_leaves_are ks (Delivered r) = refl
served_leaves_are ks (Served k r reply now) = refl
served_leaves_are ks (Combined s x a p q f) = refl
served_leaves_are ks (Issued r i) = refl

pub leaves_added : (m : Cells) (n : ℕ) (es : List Event) (h : History) → AreLeavesAdded (replayed m h.order) h.trees es (replayed m (noted n es h).order)
leaves_added m n [] h = refl
leaves_added m n (e ∷ es) h =
    let more = served_leaves h.trees e in
    let last = (noted n es (after_event n h e)).order in (
      replayed (cells_after m h.order) more,
      requests_of (cells_after m h.order) more ∙ served_leaves_are h.trees e,
      subst (λ (list : List Entry). AreLeavesAdded list (trees_after h.trees e) es (replayed m last)) (replayed-append m h.order more) (leaves_added m n es (after_event n h e)),
    )
