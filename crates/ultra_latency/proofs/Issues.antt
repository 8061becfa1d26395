-- the issues of a cycle: each is that of its processing element's step, for a cell that wasn't open
use Rattle.std.proofs.Common.{ℕ, List, [], ◌∷◌, ◌++◌, ◌≡◌, ◌+◌, ◌<◌, Bool, true, false, ◌||◌, ◌&&◌, refl, sym, ap, ◌∙◌, arith}
use Rattle.std.proofs.lemmas.{Bool.Decides.nat_tests, List.map-append}
use Rattle.std.specs.Prelude.{Option, Some, None, IfSome, ◌==◌}
use Rattle.ultra_msg.specs.declared.Request.{Request}
use Rattle.ultra_pni.specs.{declared.OpenCell.OpenCell, Interface.{Interface, is_open}}
use Rattle.ultra_isa.specs.declared.Instr.{Instr}
use Rattle.ultra_isa.proofs.Steps.{SendsInto}
use Rattle.ultra_model.specs.Machine.{Settings, size, site}
use Rattle.ultra_serial_law.specs.{declared.records.LoggedIssue.LoggedIssue, Log.is_issue_for, SerialList.history}
use Rattle.ultra_latency.specs.{declared.open.OpenRequest.OpenRequest, Latency.{latest_among, latest_issue, no_issue}, Open.{issued_request, open_request, open_requests}}
use Rattle.ultra_latency.proofs.{CycleEvents.sent, OwnIssues.{own, logged_as, logged_if, next_number, own_next}}

and_false : (b : Bool) → (b && false) ≡ false
and_false true = refl
and_false false = refl

turned_false : (a b : ℕ) → (a == b) ≡ false → (b == a) ≡ false
turned_false a b h = grind (arith, nat_tests)

parts_false : (a b : Bool) → (a || b) ≡ false → (a ≡ false) × (b ≡ false)
parts_false true b h = cc
parts_false false b h = (refl, h)

-- ---- the latest issue of a processing element is the latest among its own issues
module _ (p a : ℕ) where
  latest_own : (is : List LoggedIssue) (d : LoggedIssue) → latest_among p a is d ≡ latest_among p a (own p is) d
  latest_own [] d = refl
  latest_own (i ∷ is) d = let rest = latest_own is in grind arith

  latest_append : (is js : List LoggedIssue) (d : LoggedIssue) → latest_among p a (is ++ js) d ≡ latest_among p a js (latest_among p a is d)
  latest_append [] js d = refl
  latest_append (i ∷ is) js d = latest_append is js (elim (is_issue_for p a i) [ true ↦ i | false ↦ d ])

-- a row with what is issued
abbrev pub put_in : ℕ → ℕ → Option Request → List OpenRequest → List OpenRequest
put_in n k None os = os
put_in n k (Some r) os = os ++ issued_request n r k ∷ []

module _ (c : Settings) (program : List Instr) (n p : ℕ) (h : p < size c) where
  issues_of : ℕ → List LoggedIssue
  issues_of k = (history c program k).log.issues

  -- it is what the processing element issues in this cycle, where that is for the cell
  latest_next : (a : ℕ) (o : Option Request) → sent c program n p ≡ o → latest_issue c program p a (n + 1) ≡ latest_among p a (logged_if n (next_number c program n p) o) (latest_issue c program p a n)
  unfolding latest_issue issues_of
  latest_next a o is =
      latest_own p a (issues_of (n + 1)) no_issue
      ∙ ap (λ is. latest_among p a is no_issue) (own_next c program n p h)
      ∙ latest_append p a (own p (issues_of n)) (logged_if n (next_number c program n p) (sent c program n p)) no_issue
      ∙ ap (latest_among p a (logged_if n (next_number c program n p) (sent c program n p))) (sym (latest_own p a (issues_of n) no_issue))
      ∙ ap (λ o. latest_among p a (logged_if n (next_number c program n p) o) (latest_among p a (issues_of n) no_issue)) is

  -- the requests for other cells keep their issues
  kept_issue : (o : Option Request) → sent c program n p ≡ o → (a : ℕ) → IfSome o (λ (r : Request). (a == r.cell) ≡ false) → open_request c program n p a ≡ open_request c program (n + 1) p a
  kept_issue None is a other = rw (latest_next a None is) refl
  kept_issue (Some r) is a other =
      let latest : Bool → LoggedIssue = λ b. elim b [ true ↦ logged_as n r (next_number c program n p) | false ↦ latest_issue c program p a n ] in
      let not_here : ((r.pe == p) && (r.cell == a)) ≡ false = ap (λ b. (r.pe == p) && b) (turned_false a r.cell other) ∙ and_false (r.pe == p) in
      let same : latest_issue c program p a (n + 1) ≡ latest_issue c program p a n = latest_next a (Some r) is ∙ ap latest not_here in
      rw same refl

  same_issues : (o : Option Request) → sent c program n p ≡ o → (os : List OpenCell) → IfSome o (λ (r : Request). is_open r.cell os ≡ false) → open_requests c program n p os ≡ open_requests c program (n + 1) p os
  same_issues o is [] closed = refl
  same_issues None is (q ∷ os) closed =
      ap (λ x. x ∷ open_requests c program n p os) (kept_issue None is q.cell tt)
      ∙ ap (λ xs. open_request c program (n + 1) p q.cell ∷ xs) (same_issues None is os tt)
  same_issues (Some r) is (q ∷ os) closed =
      let other = parts_false (q.cell == r.cell) (is_open r.cell os) closed in
      ap (λ x. x ∷ open_requests c program n p os) (kept_issue (Some r) is q.cell other.0)
      ∙ ap (λ xs. open_request c program (n + 1) p q.cell ∷ xs) (same_issues (Some r) is os other.1)

  -- a request that is issued is the latest
  new_issue : (r : Request) → sent c program n p ≡ Some r → r.pe ≡ p → issued_request n r (next_number c program n p) ≡ open_request c program (n + 1) p r.cell
  new_issue r is mine =
      let latest : Bool → LoggedIssue = λ b. elim b [ true ↦ logged_as n r (next_number c program n p) | false ↦ latest_issue c program p r.cell n ] in
      let here : ((r.pe == p) && (r.cell == r.cell)) ≡ true = grind (arith, nat_tests, mine) in
      let new : latest_issue c program p r.cell (n + 1) ≡ logged_as n r (next_number c program n p) = latest_next r.cell (Some r) is ∙ ap latest here in
      rw new refl

  pub put_new : (i j : Interface) (o : Option Request) → sent c program n p ≡ o → SendsInto (site c p) c.most_open i j o → put_in n (next_number c program n p) o (open_requests c program n p i.opened) ≡ open_requests c program (n + 1) p j.opened
  put_new i j None is into = same_issues None is i.opened tt ∙ ap (λ (k : Interface). open_requests c program (n + 1) p k.opened) (sym into)
  put_new i j (Some r) is into =
      let new : OpenCell = record { cell = r.cell; target = into.4.0 } in
      ap (λ xs. xs ++ issued_request n r (next_number c program n p) ∷ []) (same_issues (Some r) is i.opened into.2)
      ∙ ap (λ x. open_requests c program (n + 1) p i.opened ++ x ∷ []) (new_issue r is into.0)
      ∙ sym (map-append (λ (o : OpenCell). open_request c program (n + 1) p o.cell) i.opened (new ∷ []))
      ∙ ap (λ (k : Interface). open_requests c program (n + 1) p k.opened) (sym into.4.1)
