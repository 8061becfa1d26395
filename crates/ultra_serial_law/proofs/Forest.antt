-- the tree of a message, read off the wait buffers: at each stage below its place the record of its reference, if there is one, makes a pair
use Rattle.std.proofs.Common.{◌≡◌, ℕ, zero, suc, ◌+◌, ◌<◌, ◌≤◌, List, [], ◌∷◌, Bool, true, false, refl, arith, sym, ◌∙◌, ap, subst, ⊎_elim}
use Rattle.std.specs.{Prelude.{Option, Some, None}, List.AllByRecursion}
use Rattle.std.proofs.lemmas.Bool.{cases_lt}
use Rattle.ultra_msg.specs.{declared.Op.{Op, TheVariants.Load}, Pair.pair_of}
use Rattle.ultra_route.specs.Route.{line_of}
use Rattle.ultra_switch.specs.declared.WaitRecord.{WaitRecord}
use Rattle.ultra_model.specs.{Machine.{Settings, Machine, size, lane_at}, Routed.module_of, Balance.{weight, count, record_passes}}
use Rattle.ultra_model.proofs.Counting.{is_reference}
use Rattle.ultra_serial_law.specs.{Tree.{Tree, leaf, pair, NamedRequest}, Log.{LoggedIssue, is_issue_for, latest_number}}
use Rattle.ultra_serial_law.proofs.{Series.{sent, IsProper}, Tidy.{old_records, is_that, that_is}}

-- ---- the record of a reference, and its latest issue
abbrev pub find_record : ℕ → ℕ → List WaitRecord → Option WaitRecord
find_record p a [] = None
find_record p a (w ∷ ws) = elim (is_reference p a w.pe w.cell) [ true ↦ Some w | false ↦ find_record p a ws ]

abbrev pub latest_op : ℕ → ℕ → List LoggedIssue → Op → Op
latest_op p a [] o = o
latest_op p a (i ∷ is) o = latest_op p a is (elim (is_issue_for p a i) [ true ↦ i.op | false ↦ o ])

abbrev pub leaf_of : List LoggedIssue → ℕ → ℕ → NamedRequest
leaf_of is p a = record { pe = p; number = latest_number p a is 0; cell = a; op = latest_op p a is Load }

-- ---- trees
-- a tree with the record of a stage on top, if there is one
abbrev pub grown : ℕ → ℕ → Tree → (ℕ → Tree) → Option WaitRecord → Tree
grown s x t f None = t
grown s x t f (Some w) = pair s x t (f w.partner) (pair_of (sent t) (sent (f w.partner))).old_first

module _ (c : Settings) where
  abbrev pub position_of : ℕ → ℕ → ℕ → ℕ
  position_of s p a = line_of c.stages (s + 1) p (module_of c a)

  abbrev pub record_at : Machine → ℕ → ℕ → ℕ → Option WaitRecord
  record_at m s p a = find_record p a (lane_at m s (position_of s p a)).records

  -- by the records of the stages below b
  unfoldable pub built : Machine → List LoggedIssue → ℕ → ℕ → ℕ → Tree
  built m is zero p a = leaf (leaf_of is p a)
  built m is (suc s) p a = grown s (position_of s p a) (built m is s p a) (λ q. built m is s q a) (record_at m s p a)

  pub built_leaf : (m : Machine) (is : List LoggedIssue) (p a : ℕ) → built m is 0 p a ≡ leaf (leaf_of is p a)
  unfolding built
  built_leaf m is p a = refl

  pub built_next : (m : Machine) (is : List LoggedIssue) (s p a : ℕ) → built m is (suc s) p a ≡ grown s (position_of s p a) (built m is s p a) (λ q. built m is s q a) (record_at m s p a)
  unfolding built
  built_next m is s p a = refl

  grown_proper : (s x : ℕ) (t : Tree) (f : ℕ → Tree) (o : Option WaitRecord) → IsProper t → ((q : ℕ) → IsProper (f q)) → IsProper (grown s x t f o)
  grown_proper s x t f None h g = h
  grown_proper s x t f (Some w) h g = (refl, h, g w.partner)

  pub built_proper : (m : Machine) (is : List LoggedIssue) (b p a : ℕ) → IsProper (built m is b p a)
  built_proper m is zero p a = rw (built_leaf m is p a) tt
  built_proper m is (suc s) p a = rw (built_next m is s p a) (grown_proper s (position_of s p a) (built m is s p a) (λ q. built m is s q a) (record_at m s p a) (built_proper m is s p a) (λ q. built_proper m is s q a))

  -- where there is no record from b on, the tree is that of b
  pub built_clear : (m : Machine) (is : List LoggedIssue) (b n p a : ℕ) → b ≤ n → ((s : ℕ) → b ≤ s → s < n → record_at m s p a ≡ None) → built m is n p a ≡ built m is b p a
  built_clear m is b zero p a h none = ap (λ k. built m is k p a) (omega (arith, h))
  built_clear m is b (suc n) p a h none =
      ⊎_elim (λ l. let same : b ≡ suc n = omega (arith, h, l) in ap (λ k. built m is k p a) (sym same))
      (λ l.
      let rest = built_clear m is b n p a l (λ s k j. none s k (omega arith)) in
      built_next m is n p a ∙ (ap (λ o. grown n (position_of n p a) (built m is n p a) (λ q. built m is n q a) o) (none n l (omega arith)) ∙ rest)) (cases_lt n b)

  -- ---- two machines with the same records for a tree have the same tree
  module _ (m k : Machine) (is js : List LoggedIssue) (a : ℕ) where
    -- a reference has the same records below b, and the same issue
    pub record IsSameBelow (b p : ℕ) : Type 0 where
      pub issue : leaf_of is p a ≡ leaf_of js p a
      pub records : (s : ℕ) → s < b → record_at m s p a ≡ record_at k s p a

    grown_same : (s p : ℕ) (o : Option WaitRecord) → record_at k s p a ≡ o → record_at m s p a ≡ record_at k s p a → built m is s p a ≡ built k js s p a
        → ((w : WaitRecord) → record_at k s p a ≡ Some w → built m is s w.partner a ≡ built k js s w.partner a) → built m is (suc s) p a ≡ built k js (suc s) p a
    grown_same s p None e r t f =
        rw (built_next m is s p a, built_next k js s p a, r, e) t
    grown_same s p (Some w) e r t f =
        let partner = f w e in
        rw (built_next m is s p a, built_next k js s p a, r, e, t, partner) refl

    pub same_built : (b p : ℕ) → IsSameBelow b p → ((s q : ℕ) (w : WaitRecord) → s < b → record_at k s q a ≡ Some w → q < size c → (w.partner < size c) × IsSameBelow s w.partner) → p < size c → built m is b p a ≡ built k js b p a
    same_built zero p h nested small = rw (built_leaf m is p a, built_leaf k js p a, h.issue) refl
    same_built (suc s) p h nested small =
        grown_same s p (record_at k s p a) refl (h.records s (omega arith))
        (same_built s p record { issue = h.issue; records = λ i l. h.records i (omega arith) } (λ i q w l e z. nested i q w (omega arith) e z) small)
        (λ w e. let n = nested s p w (omega arith) e small in same_built s w.partner n.1 (λ i q u l e z. nested i q u (omega arith) e z) n.0)

-- ---- where there is no record
find_none_step : (p a : ℕ) (w : WaitRecord) (ws : List WaitRecord) (b : Bool) → weight b + old_records (is_reference p a) ws ≤ 0 → (old_records (is_reference p a) ws ≤ 0 → find_record p a ws ≡ None) → ◌≡◌ {A = Option WaitRecord} (elim b [ true ↦ Some w | false ↦ find_record p a ws ]) None
find_none_step p a w ws true h f = absurd (omega (arith, h))
find_none_step p a w ws false h f = f (omega (arith, h))

pub find_none : (p a : ℕ) (ws : List WaitRecord) → old_records (is_reference p a) ws ≤ 0 → find_record p a ws ≡ None
find_none p a [] h = refl
find_none p a (w ∷ ws) h = find_none_step p a w ws (is_reference p a w.pe w.cell) h (λ l. find_none p a ws l)

found_step : (p a : ℕ) (u : WaitRecord) (ws : List WaitRecord) (w : WaitRecord) (b : Bool) → elim b [ true ↦ Some u | false ↦ find_record p a ws ] ≡ Some w → (P : WaitRecord → Type 0) → AllByRecursion P (u ∷ ws) → (find_record p a ws ≡ Some w → P w) → P w
found_step p a u ws w true e P h f = let same : u ≡ w = cc in subst P same h.0
found_step p a u ws w false e P h f = f e

-- what holds of each record holds of the one that is found
pub found_record : (p a : ℕ) (ws : List WaitRecord) (w : WaitRecord) → find_record p a ws ≡ Some w → (P : WaitRecord → Type 0) → AllByRecursion P ws → P w
found_record p a [] w e P h = absurd cc
found_record p a (u ∷ ws) w e P h = found_step p a u ws w (is_reference p a u.pe u.cell) e P h (λ z. found_record p a ws w z P h.1)

found_is_step : (p a : ℕ) (u : WaitRecord) (ws : List WaitRecord) (w : WaitRecord) (b : Bool) → is_reference p a u.pe u.cell ≡ b → elim b [ true ↦ Some u | false ↦ find_record p a ws ] ≡ Some w → (find_record p a ws ≡ Some w → (w.pe ≡ p) × (w.cell ≡ a)) → (w.pe ≡ p) × (w.cell ≡ a)
found_is_step p a u ws w true k e f = let same : u ≡ w = cc in subst (λ v. (v.pe ≡ p) × (v.cell ≡ a)) same (is_that p a u.pe u.cell k)
found_is_step p a u ws w false k e f = f e

-- it has the reference
pub found_is : (p a : ℕ) (ws : List WaitRecord) (w : WaitRecord) → find_record p a ws ≡ Some w → (w.pe ≡ p) × (w.cell ≡ a)
found_is p a [] w e = absurd cc
found_is p a (u ∷ ws) w e = found_is_step p a u ws w (is_reference p a u.pe u.cell) refl e (λ z. found_is p a ws w z)

found_partner_step : (p a : ℕ) (u : WaitRecord) (ws : List WaitRecord) (w : WaitRecord) (b : Bool) → is_reference p a u.pe u.cell ≡ b → elim b [ true ↦ Some u | false ↦ find_record p a ws ] ≡ Some w
    → (find_record p a ws ≡ Some w → 1 ≤ count (record_passes (is_reference w.partner a)) ws) → 1 ≤ count (record_passes (is_reference w.partner a)) (u ∷ ws)
found_partner_step p a u ws w true k e f =
    let same : u ≡ w = cc in
    let cell : u.cell ≡ a = (is_that p a u.pe u.cell k).1 in
    let here : is_reference w.partner a u.partner u.cell ≡ true = rw (same, ← cell, same) (that_is w.partner w.cell) in
    rw here (omega arith)
found_partner_step p a u ws w false k e f = let rest = f e in omega (arith, rest)

-- and its partner counts
pub found_partner : (p a : ℕ) (ws : List WaitRecord) (w : WaitRecord) → find_record p a ws ≡ Some w → 1 ≤ count (record_passes (is_reference w.partner a)) ws
found_partner p a [] w e = absurd cc
found_partner p a (u ∷ ws) w e = found_partner_step p a u ws w (is_reference p a u.pe u.cell) refl e (λ z. found_partner p a ws w z)
