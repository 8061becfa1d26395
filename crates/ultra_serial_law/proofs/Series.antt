-- the law of trees: acting with what a tree sends is acting with its leaves in serial order, and the replies made of its reply are theirs
use Rattle.std.proofs.Common.{◌≡◌, ℕ, List, [], ◌∷◌, ◌++◌, Bool, true, false, refl, ap, ◌∙◌, sym}
use Rattle.ultra_msg.specs.{declared.{Op.Op, Reply.Reply}, Act.{act, reply_given}, Pair.{pair_of, KeepsBoth}}
use Rattle.ultra_msg.proofs.Pairs.{pair_keeps}
use Rattle.ultra_serial_law.specs.Tree.{Tree, leaf, pair, NamedRequest, leaves}

-- what is sent for a tree, and what its leaves are answered when that is answered r
abbrev pub sent : Tree → Op
sent (leaf l) = l.op
sent (pair s x old new f) = (pair_of (sent old) (sent new)).sent

abbrev pub to_old : Tree → Tree → Reply → Reply
to_old old new r = reply_given (pair_of (sent old) (sent new)).give_old r

abbrev pub to_new : Tree → Tree → Reply → Reply
to_new old new r = reply_given (pair_of (sent old) (sent new)).give_new r

abbrev pub answers : Tree → Reply → List Reply
answers (leaf l) r = r ∷ []
answers (pair s x old new true) r = answers old (to_old old new r) ++ answers new (to_new old new r)
answers (pair s x old new false) r = answers new (to_new old new r) ++ answers old (to_old old new r)

-- each pair says which comes first as the table does
abbrev pub IsProper : Tree → Type 0
IsProper (leaf l) = Unit {0}
IsProper (pair s x old new f) = ((pair_of (sent old) (sent new)).old_first ≡ f) × IsProper old × IsProper new

-- one cell after these operations, and their replies
abbrev pub value_after : ℕ → List NamedRequest → ℕ
value_after v [] = v
value_after v (l ∷ ls) = value_after (act l.op v).0 ls

abbrev pub replies_from : ℕ → List NamedRequest → List Reply
replies_from v [] = []
replies_from v (l ∷ ls) = (act l.op v).1 ∷ replies_from (act l.op v).0 ls

value_append : (v : ℕ) (xs ys : List NamedRequest) → value_after v (xs ++ ys) ≡ value_after (value_after v xs) ys
value_append v [] ys = refl
value_append v (x ∷ xs) ys = value_append (act x.op v).0 xs ys

replies_append : (v : ℕ) (xs ys : List NamedRequest) → replies_from v (xs ++ ys) ≡ replies_from v xs ++ replies_from (value_after v xs) ys
replies_append v [] ys = refl
replies_append v (x ∷ xs) ys = ap (λ rs. (act x.op v).1 ∷ rs) (replies_append (act x.op v).0 xs ys)

pub record IsSeries (t : Tree) (v : ℕ) : Type 0 where
  pub value : value_after v (leaves t) ≡ (act (sent t) v).0
  pub replies : replies_from v (leaves t) ≡ answers t (act (sent t) v).1

-- two in turn
two : (a b : Tree) (v : ℕ) → IsSeries a v → IsSeries b (act (sent a) v).0
    → (value_after v (leaves a ++ leaves b) ≡ (act (sent b) (act (sent a) v).0).0)
    × (replies_from v (leaves a ++ leaves b) ≡ answers a (act (sent a) v).1 ++ answers b (act (sent b) (act (sent a) v).0).1)
two a b v p q = (
  value_append v (leaves a) (leaves b) ∙ (ap (λ w. value_after w (leaves b)) p.value ∙ q.value),
  replies_append v (leaves a) (leaves b) ∙ (rw (p.replies, p.value, q.replies) refl),
)

pair_in_series : (s x : ℕ) (old new : Tree) (f : Bool) (v : ℕ) → (pair_of (sent old) (sent new)).old_first ≡ f → KeepsBoth (sent old) (sent new) (pair_of (sent old) (sent new)) v
    → ((w : ℕ) → IsSeries old w) → ((w : ℕ) → IsSeries new w) → IsSeries (pair s x old new f) v
pair_in_series s x old new true v e k p q =
    let law = rw (KeepsBoth, e) at k in
    let t = two old new v (p v) (q (act (sent old) v).0) in
    record { value = t.0 ∙ sym law.cell; replies = t.1 ∙ rw (law.first_reply, law.second_reply) refl }
pair_in_series s x old new false v e k p q =
    let law = rw (KeepsBoth, e) at k in
    let t = two new old v (q v) (p (act (sent new) v).0) in
    record { value = t.0 ∙ sym law.cell; replies = t.1 ∙ rw (law.first_reply, law.second_reply) refl }

-- the tree law
pub in_series : (t : Tree) (v : ℕ) → IsProper t → IsSeries t v
in_series (leaf l) v h = record { value = refl; replies = refl }
in_series (pair s x old new f) v h =
    pair_in_series s x old new f v h.0 (pair_keeps (sent old) (sent new) v) (λ w. in_series old w h.1) (λ w. in_series new w h.2)
