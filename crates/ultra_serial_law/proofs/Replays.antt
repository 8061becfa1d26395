-- replaying the leaves of a tree, which are all for one cell
use Rattle.std.proofs.Common.{◌≡◌, ◌≢◌, ℕ, zero, suc, List, [], ◌∷◌, ◌++◌, Bool, true, false, refl, sym, ◌∙◌, ap, subst, inl}
use Rattle.std.specs.{Prelude.{Option, Some, None}, List.AllByRecursion}
use Rattle.ultra_msg.specs.{declared.Reply.Reply, Act.act, Pair.{pair_of, KeepsBoth}}
use Rattle.ultra_msg.proofs.Pairs.{pair_keeps}
use Rattle.ultra_switch.specs.declared.WaitRecord.{WaitRecord}
use Rattle.ultra_model.specs.Machine.{Settings, Machine}
use Rattle.ultra_model.proofs.{Each.each-append, Neighbours.{itself, other}}
use Rattle.ultra_serial_law.specs.{Tree.{Tree, leaf, pair, NamedRequest, leaves}, Log.LoggedIssue}
use Rattle.ultra_serial_law.specs.Legal.{Entry as Done, Cells, with_cell, answered_by, cells_after, replayed}
use Rattle.ultra_serial_law.proofs.Series.{sent, to_old, to_new, IsProper, value_after, in_series}
use Rattle.ultra_serial_law.proofs.Forest.{built, built_leaf, built_next, grown, record_at, position_of}
use Rattle.ultra_serial_law.proofs.Explained.{in-append_right, IsExplained, explained_more}

-- ---- replaying one list after another
pub cells-append : (m : Cells) (xs ys : List NamedRequest) → cells_after m (xs ++ ys) ≡ cells_after (cells_after m xs) ys
cells-append m [] ys = refl
cells-append m (x ∷ xs) ys = cells-append (with_cell m x.cell (act x.op (m x.cell)).0) xs ys

pub replayed-append : (m : Cells) (xs ys : List NamedRequest) → replayed m (xs ++ ys) ≡ replayed m xs ++ replayed (cells_after m xs) ys
replayed-append m [] ys = refl
replayed-append m (x ∷ xs) ys = ap (λ es. answered_by x (act x.op (m x.cell)).1 ∷ es) (replayed-append (with_cell m x.cell (act x.op (m x.cell)).0) xs ys)

pub explained_right : (list more : List Done) (t : Tree) (r : Reply) → IsExplained more t r → IsExplained (list ++ more) t r
explained_right list more (leaf l) r h = in-append_right (answered_by l r) list more h
explained_right list more (pair s x old new f) r h = (explained_right list more old (to_old old new r) h.0, explained_right list more new (to_new old new r) h.1)

-- ---- leaves of one cell
abbrev pub AreFor : ℕ → List NamedRequest → Type 0
AreFor a ls = AllByRecursion (λ (l : NamedRequest). l.cell ≡ a) ls

with_same : (m : Cells) (a v : ℕ) → with_cell m a v a ≡ v
with_same m a v = let f : Bool → ℕ = λ b. elim b [ true ↦ v | false ↦ m a ] in ap f (itself a)

pub with_other : (m : Cells) (a v b : ℕ) → b ≢ a → with_cell m a v b ≡ m b
with_other m a v b h = let f : Bool → ℕ = λ t. elim t [ true ↦ v | false ↦ m b ] in ap f (other b a h)

pub cell_after : (m : Cells) (a : ℕ) (ls : List NamedRequest) → AreFor a ls → cells_after m ls a ≡ value_after (m a) ls
cell_after m a [] h = refl
cell_after m a (l ∷ ls) h =
    let v = (act l.op (m l.cell)).0 in
    let here : m l.cell ≡ m a = ap m h.0 in
    let now : with_cell m l.cell v a ≡ (act l.op (m a)).0 = ap (λ b. with_cell m b v a) h.0 ∙ (with_same m a v ∙ ap (λ u. (act l.op u).0) here) in
    cell_after (with_cell m l.cell v) a ls h.1 ∙ ap (λ u. value_after u ls) now

pub cell_kept : (m : Cells) (a b : ℕ) (ls : List NamedRequest) → AreFor a ls → b ≢ a → cells_after m ls b ≡ m b
cell_kept m a b [] h k = refl
cell_kept m a b (l ∷ ls) h k =
    let v = (act l.op (m l.cell)).0 in
    cell_kept (with_cell m l.cell v) a b ls h.1 k ∙ with_other m l.cell v b (λ e. k (e ∙ h.0))

leaves_for : (a s x : ℕ) (old new : Tree) (f : Bool) → AreFor a (leaves old) → AreFor a (leaves new) → AreFor a (leaves (pair s x old new f))
leaves_for a s x old new true h k = each-append (λ (l : NamedRequest). l.cell ≡ a) (leaves old) (leaves new) h k
leaves_for a s x old new false h k = each-append (λ (l : NamedRequest). l.cell ≡ a) (leaves new) (leaves old) k h

-- all leaves of a tree for a cell
abbrev pub IsFor : ℕ → Tree → Type 0
IsFor a (leaf l) = l.cell ≡ a
IsFor a (pair s x old new f) = IsFor a old × IsFor a new

pub for_leaves : (a : ℕ) (t : Tree) → IsFor a t → AreFor a (leaves t)
for_leaves a (leaf l) h = (h, tt)
for_leaves a (pair s x old new f) h = leaves_for a s x old new f (for_leaves a old h.0) (for_leaves a new h.1)

grown_is_for : (a s x : ℕ) (t : Tree) (f : ℕ → Tree) (o : Option WaitRecord) → IsFor a t → ((q : ℕ) → IsFor a (f q)) → IsFor a (grown s x t f o)
grown_is_for a s x t f None h g = h
grown_is_for a s x t f (Some w) h g = (h, g w.partner)

pub built_is_for : (c : Settings) (m : Machine) (is : List LoggedIssue) (b p a : ℕ) → IsFor a (built c m is b p a)
built_is_for c m is zero p a = rw (built_leaf c m is p a) refl
built_is_for c m is (suc s) p a = rw (built_next c m is s p a) (grown_is_for a s (position_of c s p a) (built c m is s p a) (λ q. built c m is s q a) (record_at c m s p a) (built_is_for c m is s p a) (λ q. built_is_for c m is s q a))

-- ---- a replay of its leaves explains the reply to a tree
abbrev Replays : ℕ → Tree → Type 0
Replays a t = (m : Cells) → IsExplained (replayed m (leaves t)) t (act (sent t) (m a)).1

pair_replays : (a s x : ℕ) (old new : Tree) (f : Bool) (m : Cells) → (pair_of (sent old) (sent new)).old_first ≡ f → KeepsBoth (sent old) (sent new) (pair_of (sent old) (sent new)) (m a)
    → IsProper old → IsProper new → IsFor a old → IsFor a new → Replays a old → Replays a new → IsExplained (replayed m (leaves (pair s x old new f))) (pair s x old new f) (act (pair_of (sent old) (sent new)).sent (m a)).1
pair_replays a s x old new true m e k po pn fo fn p q =
    let law = rw (KeepsBoth, e) at k in
    let then = cells_after m (leaves old) in
    let value : then a ≡ (act (sent old) (m a)).0 = cell_after m a (leaves old) (for_leaves a old fo) ∙ (in_series old (m a) po).value in
    let one : IsExplained (replayed m (leaves old)) old (to_old old new (act (pair_of (sent old) (sent new)).sent (m a)).1) = rw law.first_reply (p m) in
    let two : IsExplained (replayed then (leaves new)) new (to_new old new (act (pair_of (sent old) (sent new)).sent (m a)).1) = rw (law.second_reply, ← value) (q then) in
    subst (λ es. IsExplained es (pair s x old new true) (act (pair_of (sent old) (sent new)).sent (m a)).1) (sym (replayed-append m (leaves old) (leaves new)))
    (explained_more (replayed m (leaves old)) (replayed then (leaves new)) old _ one, explained_right (replayed m (leaves old)) (replayed then (leaves new)) new _ two)
pair_replays a s x old new false m e k po pn fo fn p q =
    let law = rw (KeepsBoth, e) at k in
    let then = cells_after m (leaves new) in
    let value : then a ≡ (act (sent new) (m a)).0 = cell_after m a (leaves new) (for_leaves a new fn) ∙ (in_series new (m a) pn).value in
    let one : IsExplained (replayed m (leaves new)) new (to_new old new (act (pair_of (sent old) (sent new)).sent (m a)).1) = rw law.first_reply (q m) in
    let two : IsExplained (replayed then (leaves old)) old (to_old old new (act (pair_of (sent old) (sent new)).sent (m a)).1) = rw (law.second_reply, ← value) (p then) in
    subst (λ es. IsExplained es (pair s x old new false) (act (pair_of (sent old) (sent new)).sent (m a)).1) (sym (replayed-append m (leaves new) (leaves old)))
    (explained_right (replayed m (leaves new)) (replayed then (leaves old)) old _ two, explained_more (replayed m (leaves new)) (replayed then (leaves old)) new _ one)

-- the splitting law, over a whole tree
pub replay_explains : (a : ℕ) (t : Tree) → IsProper t → IsFor a t → Replays a t
replay_explains a (leaf l) h k m = inl (ap (λ v. answered_by l (act l.op v).1) (ap m k))
replay_explains a (pair s x old new f) h k m =
    pair_replays a s x old new f m h.0 (pair_keeps (sent old) (sent new) (m a)) h.1 h.2 k.0 k.1 (replay_explains a old h.1 k.0) (replay_explains a new h.2 k.1)
