-- what the messages of a machine say, by their trees. A request sends what its tree sends, a reply
-- answers the leaves of its tree, a record gives as its pair does
use Rattle.std.proofs.Common.{◌≡◌, ℕ, suc, ◌<◌, ◌≤◌, List, [], ◌∷◌, ◌++◌, Bool, true, false, arith, ◌⊎◌, inl, inr}
use Rattle.std.specs.{Prelude.{Some, IfSome}, List.AllByRecursion}
use Rattle.ultra_msg.specs.{declared.{Reply.Reply, Request.Request, ReplyMessage.ReplyMessage}, Pair.pair_of}
use Rattle.ultra_switch.specs.declared.{QueueEntry.QueueEntry, WaitRecord.WaitRecord}
use Rattle.ultra_mem.specs.declared.Placed.{Placed}
use Rattle.ultra_model.specs.Machine.{Settings, Machine, size, lane_at, replies_at, module_at, element_at}
use Rattle.ultra_serial_law.specs.{Tree.{Tree, leaf, pair, Kept, tree_of}, Log.LoggedIssue, Legal.{Entry as Done, answered_by}}
use Rattle.ultra_serial_law.proofs.{Series.{sent, to_old, to_new}, Forest.built}

-- x is in the list
abbrev pub IsIn : {X : Type 0} → X → List X → Type 0
IsIn x [] = ⊥
IsIn x (y ∷ ys) = (y ≡ x) ⊎ IsIn x ys

pub in-append : {X : Type 0} (x : X) (xs ys : List X) → IsIn x xs → IsIn x (xs ++ ys)
in-append x [] ys h = absurd h
in-append x (z ∷ xs) ys (inl e) = inl e
in-append x (z ∷ xs) ys (inr h) = inr (in-append x xs ys h)

pub in-append_right : {X : Type 0} (x : X) (xs ys : List X) → IsIn x ys → IsIn x (xs ++ ys)
in-append_right x [] ys h = h
in-append_right x (z ∷ xs) ys h = inr (in-append_right x xs ys h)

-- the leaves of a tree, answered as its own reply says, are in a serial list
abbrev pub IsExplained : List Done → Tree → Reply → Type 0
IsExplained list (leaf l) r = IsIn (answered_by l r) list
IsExplained list (pair s x old new f) r = IsExplained list old (to_old old new r) × IsExplained list new (to_new old new r)

pub explained_more : (list more : List Done) (t : Tree) (r : Reply) → IsExplained list t r → IsExplained (list ++ more) t r
explained_more list more (leaf l) r h = in-append (answered_by l r) list more h
explained_more list more (pair s x old new f) r h = (explained_more list more old (to_old old new r) h.0, explained_more list more new (to_new old new r) h.1)

-- the stages below which a queued request has combined: also its own, where it is marked
abbrev pub bound : ℕ → Bool → ℕ
bound s true = suc s
bound s false = s

pub bound_small : (n s : ℕ) (marked : Bool) → s < n → bound s marked ≤ n
bound_small n s true h = omega (arith, h)
bound_small n s false h = omega (arith, h)

module _ (c : Settings) (m : Machine) (is : List LoggedIssue) where
  -- a request's tree is kept, and sends what it asks
  pub record IsKept (ks : List Kept) (b p a : ℕ) (r : Request) : Type 0 where
    pub tree : tree_of p a ks ≡ Some (built c m is b p a)
    pub op : sent (built c m is b p a) ≡ r.op

  abbrev pub IsKeptAt : List Kept → ℕ → Request → Type 0
  IsKeptAt ks b r = IsKept ks b r.pe r.cell r

  abbrev pub IsAnswered : List Done → ℕ → ReplyMessage → Type 0
  IsAnswered list b r = IsExplained list (built c m is b r.pe r.cell) r.reply

  -- a record gives what the pair of its two trees says
  pub record IsGiven (s : ℕ) (w : WaitRecord) : Type 0 where
    pub old : w.give_old ≡ (pair_of (sent (built c m is s w.pe w.cell)) (sent (built c m is s w.partner w.cell))).give_old
    pub new : w.give_new ≡ (pair_of (sent (built c m is s w.pe w.cell)) (sent (built c m is s w.partner w.cell))).give_new

-- all messages and records, for the kept trees, the issues and the serial list so far
pub record IsForest (c : Settings) (m : Machine) (ks : List Kept) (is : List LoggedIssue) (list : List Done) : Type 0 where
  pub pending : (p : ℕ) → p < size c → AllByRecursion (IsKeptAt c m is ks 0) (element_at m p).interface.pending
  pub queued : (s x : ℕ) → s < c.stages → x < size c → AllByRecursion (λ (e : QueueEntry). IsKeptAt c m is ks (bound s e.combined) e.request) (lane_at m s x).queue
  pub inputs : (k : ℕ) → k < size c → IfSome (module_at m k).inp (λ (p : Placed). IsKeptAt c m is ks c.stages p.request)
  pub outputs : (k : ℕ) → k < size c → IfSome (module_at m k).out (IsAnswered c m is list c.stages)
  pub replies : (s y : ℕ) → s < c.stages → y < size c → AllByRecursion (IsAnswered c m is list s) (replies_at m s y)
  pub records : (s x : ℕ) → s < c.stages → x < size c → AllByRecursion (IsGiven c m is s) (lane_at m s x).records
