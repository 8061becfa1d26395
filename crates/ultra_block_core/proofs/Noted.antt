-- What is noted of a switch or a module once messages have come to it or left it. Its queues are
-- longer then, or shorter, and it keeps more records, or fewer.
use Rattle.std.proofs.Common.{◌≡◌, ℕ, ◌≤◌, List, ◌++◌, true, Option, Some, length, length-append, arith, [], ◌∷◌, refl, Bool, false}
use Rattle.ultra_block_core.proofs.Common.{nat_tests, Request, ReplyMessage, Switch, after_leaving, arrive_all, combinations, records_left, has_none, after_both, combinations_of_both, switch_facts, common_steps, all_noted, arrive_all_no_shorter, Lane, arrive, WaitRecord}

-- ---- records: none comes with replies
pub none_left : (ws : List WaitRecord) (o : Option ReplyMessage) → has_none ws ≡ true → has_none (records_left ws o) ≡ true
none_left ws o h = grind (arith, common_steps)

-- none goes with requests
no_fewer : (n : ℕ) (l : Lane) (rs : List Request) → length l.records ≤ length (arrive_all n l rs).records
no_fewer n l [] = omega arith
no_fewer n l (r ∷ rs) = let later = no_fewer n (arrive n l r) rs in grind (arith, length-append)

-- one comes only with a combination
both_empty : {X : Type 0} (xs ys : List X) → xs ++ ys ≡ [] → (xs ≡ []) × (ys ≡ [])
both_empty [] ys h = (refl, h)
both_empty (x ∷ xs) ys h = cc

none_combined : (n s x : ℕ) (l : Lane) (rs : List Request) → combinations n s x l rs ≡ [] → (arrive_all n l rs).records ≡ l.records
none_combined n s x l [] h = refl
none_combined n s x l (r ∷ rs) h = grind (arith, both_empty, none_combined n s x (arrive n l r) rs)

-- ---- a queue that something leaves
pub shorter : {X Y : Type 0} (o : Option Y) (xs : List X) → length (after_leaving o xs) ≤ length xs
shorter o xs = grind arith

-- ---- what is noted once requests came is true of the switch: its queues are no shorter, and records came only with combinations
module _ (w : Switch) (d s k : ℕ) (first second : Option Request) where
  pub requests_came : (may_differ : Bool) → (may_differ ≡ false → combinations_of_both d s k w first second ≡ [])
      → all_noted may_differ (after_both d s w first second) (switch_facts (Some w)) ≡ switch_facts (Some (after_both d s w first second))
  requests_came true none = grind (arith, nat_tests, arrive_all_no_shorter, no_fewer)
  requests_came false none = let none_made = none refl in grind (arith, nat_tests, arrive_all_no_shorter, both_empty, none_combined)
