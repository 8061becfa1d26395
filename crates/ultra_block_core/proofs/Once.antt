-- What belongs to one unit, after visits of all: only its own visit changes it, by what it was at the start.
use Rattle.std.proofs.Common.{[], ◌≡◌, ◌≢◌, ℕ, zero, suc, ◌<◌, ◌≤◌, List, ◌++◌, append_assoc, refl, sym, ◌∙◌, ap, arith}
use Rattle.ultra_block_core.proofs.Common.{append-nil}
use Rattle.ultra_topology.specs.Visits.{after_units}

-- the events of the units below a number, in order
unfoldable pub entries_before : {T E : Type 0} → (ℕ → T → List E) → ℕ → T → List E
entries_before entries zero t = []
entries_before entries (suc n) t = entries_before entries n t ++ entries n t

-- visits of one thing are visits of another, if each is
pub same_visits : {S T : Type 0} (f : ℕ → T → T) (g : ℕ → S → S) (put : S → T) → ((n : ℕ) (s : S) → f n (put s) ≡ put (g n s)) → (m : ℕ) (s : S) → after_units f m (put s) ≡ put (after_units g m s)
unfolding after_units
same_visits f g put each zero s = refl
same_visits f g put each (suc n) s = ap (f n) (same_visits f g put each n s) ∙ each n (after_units g n s)

-- visits keep what they rest on
module _ {T : Type 0} (f : ℕ → T → T) (P : T → Type 0) (keeps : (j : ℕ) (t : T) → P t → P (f j t)) where
  pub all_keep : (m : ℕ) (t : T) → P t → P (after_units f m t)
  unfolding after_units
  all_keep zero t p = p
  all_keep (suc n) t p = keeps n (after_units f n t) (all_keep n t p)

  -- only the visit of unit n changes this
  module _ {X : Type 0} (get : T → X) (n : ℕ) (others : (j : ℕ) (t : T) → P t → j ≢ n → get (f j t) ≡ get t) where
    not_yet_changed : (m : ℕ) (t : T) → P t → m ≤ n → get (after_units f m t) ≡ get t
    unfolding after_units
    not_yet_changed zero t p before = refl
    not_yet_changed (suc k) t p before = others k (after_units f k t) (all_keep k t p) (λ same. absurd (omega arith)) ∙ not_yet_changed k t p (omega arith)

    module _ (g : X → X) (own : (t : T) → P t → get (f n t) ≡ g (get t)) where
      pub changed_once : (m : ℕ) (t : T) → P t → n < m → get (after_units f m t) ≡ g (get t)
      unfolding after_units
      changed_once zero t p within = absurd (omega arith)
      changed_once (suc k) t p within = let before = changed_once k t p in grind (arith, all_keep, not_yet_changed)

  -- the events of the units, in order
  module _ {E : Type 0} (events : T → List E) (entries : ℕ → T → List E) (adds : (j : ℕ) (t : T) → P t → events (f j t) ≡ events t ++ entries j t)
      (others : (n j : ℕ) (t : T) → P t → j ≢ n → entries n (f j t) ≡ entries n t) where
    pub all_entries : (m : ℕ) (t : T) → P t → events (after_units f m t) ≡ events t ++ entries_before entries m t
    unfolding after_units entries_before
    all_entries zero t p = sym (append-nil (events t))
    all_entries (suc n) t p =
        let before = not_yet_changed (entries n) n (others n) n t p (omega arith) in
        grind (arith, all_keep, adds, all_entries n t p, append_assoc)
