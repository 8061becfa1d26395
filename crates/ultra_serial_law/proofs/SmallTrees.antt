-- the trees of a machine's requests are no higher than the stages, and have at most one leaf of each processing element
use Rattle.std.proofs.Common.{◌≡◌, ℕ, zero, suc, ◌+◌, ◌*◌, ◌^◌, ◌≤◌, List, length, Bool, true, false, refl, arith, sym, ◌∙◌, ap, length-append}
use Rattle.std.specs.{Prelude.{Option, Some, None, slice_get}, List.AllByRecursion}
use Rattle.std.proofs.Math.Nat.{pow-suc}
use Rattle.ultra_msg.specs.Pair.{pair_of}
use Rattle.ultra_switch.specs.declared.WaitRecord.{WaitRecord}
use Rattle.ultra_model.specs.{Machine.{Settings, Machine}, Balance.count}
use Rattle.ultra_model.proofs.Each.{each-append}
use Rattle.ultra_serial_law.specs.Tree.{Tree, pair, NamedRequest, leaves, height, Kept, tree_of, leaves_of}
use Rattle.ultra_serial_law.specs.{Log.{LoggedIssue, latest_number}, SerialList.History, Explicable.IsOfMachine}
use Rattle.ultra_serial_law.proofs.{Series.sent, Tidy.that_is, Mentions.sum_of, Named.{tree_leaves, taken}, Issued.{is_named, IsRecorded}, Lists.{in_has, one_place}, RequestForest.in_holds}
use Rattle.ultra_serial_law.proofs.Forest.{leaf_of, grown, built, built_leaf, built_next, position_of, record_at}

pair_length : (s x : ℕ) (o n : Tree) (f : Bool) → length (leaves (pair s x o n f)) ≡ length (leaves o) + length (leaves n)
pair_length s x o n true = length-append (leaves o) (leaves n)
pair_length s x o n false = omega (arith, length-append (leaves n) (leaves o))

pair_each : (P : NamedRequest → Type 0) (s x : ℕ) (o n : Tree) (f : Bool) → AllByRecursion P (leaves o) → AllByRecursion P (leaves n) → AllByRecursion P (leaves (pair s x o n f))
pair_each P s x o n true h k = each-append P (leaves o) (leaves n) h k
pair_each P s x o n false h k = each-append P (leaves n) (leaves o) k h

-- in a tree that is kept no more leaves pass a test than in all kept trees
kept_count : (t : NamedRequest → Bool) (p a : ℕ) (ks : List Kept) (u : Tree) → tree_of p a ks ≡ Some u → count t (leaves u) ≤ sum_of (tree_leaves t) ks
kept_count t p a ks u e =
    let all = taken t p a ks in
    let here : count t (leaves_of (tree_of p a ks)) ≡ count t (leaves u) = ap (λ o. count t (leaves_of o)) e in
    omega (arith, all, here)

module _ (c : Settings) (m : Machine) (is : List LoggedIssue) where
  grown_low : (s x : ℕ) (t : Tree) (f : ℕ → Tree) (o : Option WaitRecord) → height t ≤ s → ((q : ℕ) → height (f q) ≤ s) → height (grown s x t f o) ≤ suc s
  grown_low s x t f None h g = omega (arith, h)
  grown_low s x t f (Some w) h g = let partner = g w.partner in omega (arith, h, partner)

  built_low : (b p a : ℕ) → height (built c m is b p a) ≤ b
  built_low zero p a = rw (built_leaf c m is p a) (omega arith)
  built_low (suc s) p a = rw (built_next c m is s p a) (grown_low s (position_of c s p a) (built c m is s p a) (λ q. built c m is s q a) (record_at c m s p a) (built_low s p a) (λ q. built_low s q a))

  grown_few : (s x n : ℕ) (t : Tree) (f : ℕ → Tree) (o : Option WaitRecord) → length (leaves t) ≤ n → ((q : ℕ) → length (leaves (f q)) ≤ n) → length (leaves (grown s x t f o)) ≤ n * 2
  grown_few s x n t f None h g = omega (arith, h)
  grown_few s x n t f (Some w) h g =
      let partner = g w.partner in
      let all = pair_length s x t (f w.partner) (pair_of (sent t) (sent (f w.partner))).old_first in
      omega (arith, h, partner, all)

  built_few : (b p a : ℕ) → length (leaves (built c m is b p a)) ≤ 2 ^ b
  built_few zero p a = rw (built_leaf c m is p a) (omega arith)
  built_few (suc s) p a =
      rw (pow-suc 2 s, built_next c m is s p a)
      (grown_few s (position_of c s p a) (2 ^ s) (built c m is s p a) (λ q. built c m is s q a) (record_at c m s p a) (built_few s p a) (λ q. built_few s q a))

  -- each leaf is the latest issue of its processing element for the cell
  abbrev IsLatest : ℕ → NamedRequest → Type 0
  IsLatest a l = l ≡ leaf_of is l.pe a

  grown_latest : (a s x : ℕ) (t : Tree) (f : ℕ → Tree) (o : Option WaitRecord) → AllByRecursion (IsLatest a) (leaves t) → ((q : ℕ) → AllByRecursion (IsLatest a) (leaves (f q))) → AllByRecursion (IsLatest a) (leaves (grown s x t f o))
  grown_latest a s x t f None h g = h
  grown_latest a s x t f (Some w) h g = pair_each (IsLatest a) s x t (f w.partner) (pair_of (sent t) (sent (f w.partner))).old_first h (g w.partner)

  built_latest : (b p a : ℕ) → AllByRecursion (IsLatest a) (leaves (built c m is b p a))
  built_latest zero p a = rw (built_leaf c m is p a) (refl, tt)
  built_latest (suc s) p a = rw (built_next c m is s p a) (grown_latest a s (position_of c s p a) (built c m is s p a) (λ q. built c m is s q a) (record_at c m s p a) (built_latest s p a) (λ q. built_latest s q a))

  one_each : (a : ℕ) (ls : List NamedRequest) → AllByRecursion (IsLatest a) ls → ((q k : ℕ) → count (is_named q k) ls ≤ 1)
      → (j k : ℕ) (l r : NamedRequest) → slice_get ls j ≡ Some l → slice_get ls k ≡ Some r → l.pe ≡ r.pe → j ≡ k
  one_each a ls all once j k l r x y same =
      let first = in_holds (IsLatest a) l ls all (in_has ls l (j, x)) in
      let second = in_holds (IsLatest a) r ls all (in_has ls r (k, y)) in
      let numbers : l.number ≡ r.number = ap (λ (v : NamedRequest). v.number) first ∙ (ap (λ q. latest_number q a is 0) same ∙ sym (ap (λ (v : NamedRequest). v.number) second)) in
      one_place (is_named r.pe r.number) ls j k l r (once r.pe r.number) x (rw (same, numbers) (that_is r.pe r.number)) y (that_is r.pe r.number)

-- the tree of a request at its module
pub built_of_machine : (c : Settings) (m : Machine) (n : ℕ) (h : History) → IsRecorded c m n h → (p a : ℕ) → tree_of p a h.trees ≡ Some (built c m h.log.issues c.stages p a) → IsOfMachine c (built c m h.log.issues c.stages p a)
built_of_machine c m n h g p a e =
    let t = built c m h.log.issues c.stages p a in
    record {
      low = built_low c m h.log.issues c.stages p a;
      few = built_few c m h.log.issues c.stages p a;
      different = one_each c m h.log.issues a (leaves t) (built_latest c m h.log.issues c.stages p a) (λ q k. omega (arith, kept_count (is_named q k) p a h.trees t e, g.once q k));
    }
