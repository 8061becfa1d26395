-- the queue's invariant over its indexes, turn words, data and results, with tickets in the phases, and what each act does to it
use Rattle.std.proofs.Common.{◌≡◌, ◌≢◌, ℕ, ◌+◌, ◌<◌, ◌≤◌, ◌*◌, List, length, Bool, true, false, refl, sym, ap, ◌∙◌, subst, inl, inr, mul-le-mul_right, arith}
use Rattle.std.specs.Prelude.{◌/◌, ◌%◌, ◌==◌, slice_set, slice_index_or, sum_by, replicate}
use Rattle.std.proofs.lemmas.{Bool.{cases_eq, cases_lt}, Grind.common_steps, List.{get_or-set_same, get_or_default, Sums.{sum_by-le, sum_by-le-sum_by}, Folds.sum_by-replicate}, Nat.{div-mul-add, mod-mul-add}}
use Rattle.ultra_colib.proofs.Interleaving.{IsIn, sum_changes, phase_after, replicated}

-- ---- one number of a row is set
abbrev pub changed : (ℕ → ℕ) → ℕ → ℕ → ℕ → ℕ
changed f i v k = elim (k == i) [ true ↦ v | false ↦ f k ]

picks_where : (P : ℕ → ℕ → Type 0) (f g : ℕ → ℕ) (i v w k : ℕ) → (k ≡ i → P v w) → (k ≢ i → P (f k) (g k)) → (b : Bool) → (k == i) ≡ b → P (elim b as (λ _. ℕ) [ true ↦ v | false ↦ f k ]) (elim b as (λ _. ℕ) [ true ↦ w | false ↦ g k ])
picks_where P f g i v w k h o true e = h (grind (arith, common_steps))
picks_where P f g i v w k h o false e = o (grind (arith, common_steps))

-- what holds of the new number there and of the old one elsewhere, of two rows that are set at one place
picks : (P : ℕ → ℕ → Type 0) (f g : ℕ → ℕ) (i v w k : ℕ) → (k ≡ i → P v w) → (k ≢ i → P (f k) (g k)) → P (changed f i v k) (changed g i w k)
picks P f g i v w k h o = picks_where P f g i v w k h o (k == i) refl

-- and of one row
pub pick : (P : ℕ → Type 0) (f : ℕ → ℕ) (i v k : ℕ) → (k ≡ i → P v) → (k ≢ i → P (f k)) → P (changed f i v k)
pick P f i v k h o = picks (λ (x y : ℕ). P x) f f i v v k h o

pub changed_same : (f : ℕ → ℕ) (i v k : ℕ) → k ≡ i → changed f i v k ≡ v
changed_same f i v k e = pick (λ (x : ℕ). x ≡ v) f i v k (λ _. refl) (λ d. absurd (d e))

pub changed_other : (f : ℕ → ℕ) (i v k : ℕ) → k ≢ i → changed f i v k ≡ f k
changed_other f i v k d = pick (λ (x : ℕ). x ≡ f k) f i v k (λ e. absurd (d e)) (λ _. refl)

-- ---- phases
-- the round, and the ticket that is held: its place, and its round of the ring; and the value that was taken
pub data Phase : Type 0 where
  idle : ℕ → Phase
  inserts : ℕ → ℕ → ℕ → Phase
  puts : ℕ → ℕ → ℕ → Phase
  has_put : ℕ → ℕ → ℕ → Phase
  between : ℕ → Phase
  deletes : ℕ → ℕ → ℕ → Phase
  takes : ℕ → ℕ → ℕ → Phase
  taken : ℕ → ℕ → ℕ → ℕ → Phase
  carries : ℕ → ℕ → ℕ → ℕ → Phase

abbrev pub out : Phase
out = idle 0

-- how many rounds a processing element has done
abbrev pub done : Phase → ℕ
done (idle j) = j
done (inserts j i r) = j
done (puts j i r) = j
done (has_put j i r) = j
done (between j) = j
done (deletes j i r) = j
done (takes j i r) = j
done (taken j i r v) = j
done (carries j i r v) = j

-- how many insert tickets, and delete tickets, it has drawn
abbrev pub inserted : Phase → ℕ
inserted (idle j) = j
inserted (inserts j i r) = j + 1
inserted (puts j i r) = j + 1
inserted (has_put j i r) = j + 1
inserted (between j) = j + 1
inserted (deletes j i r) = j + 1
inserted (takes j i r) = j + 1
inserted (taken j i r v) = j + 1
inserted (carries j i r v) = j + 1

abbrev pub deleted : Phase → ℕ
deleted (idle j) = j
deleted (inserts j i r) = j
deleted (puts j i r) = j
deleted (has_put j i r) = j
deleted (between j) = j
deleted (deletes j i r) = j + 1
deleted (takes j i r) = j + 1
deleted (taken j i r v) = j + 1
deleted (carries j i r v) = j + 1

deleted_inserted : (φ : Phase) → deleted φ ≤ inserted φ
deleted_inserted (idle j) = omega arith
deleted_inserted (inserts j i r) = omega arith
deleted_inserted (puts j i r) = omega arith
deleted_inserted (has_put j i r) = omega arith
deleted_inserted (between j) = omega arith
deleted_inserted (deletes j i r) = omega arith
deleted_inserted (takes j i r) = omega arith
deleted_inserted (taken j i r v) = omega arith
deleted_inserted (carries j i r v) = omega arith

inserted_done : (φ : Phase) → inserted φ ≤ done φ + 1
inserted_done (idle j) = omega arith
inserted_done (inserts j i r) = omega arith
inserted_done (puts j i r) = omega arith
inserted_done (has_put j i r) = omega arith
inserted_done (between j) = omega arith
inserted_done (deletes j i r) = omega arith
inserted_done (takes j i r) = omega arith
inserted_done (taken j i r v) = omega arith
inserted_done (carries j i r v) = omega arith

-- what a phase says of its place's turn word
abbrev pub Turns : (turn : ℕ → ℕ) → Phase → Type 0
Turns turn (idle j) = Unit {0}
Turns turn (inserts j i r) = turn i ≤ 2 * r
Turns turn (puts j i r) = turn i ≡ 2 * r
Turns turn (has_put j i r) = turn i ≡ 2 * r
Turns turn (between j) = Unit {0}
Turns turn (deletes j i r) = turn i ≤ 2 * r + 1
Turns turn (takes j i r) = turn i ≡ 2 * r + 1
Turns turn (taken j i r v) = turn i ≡ 2 * r + 1
Turns turn (carries j i r v) = Unit {0}

-- ---- the queue as its proof sees it: indexes, turn words, data and results. Beside these it has
-- the value of each insert ticket, and for each result the delete ticket by which it was taken
pub record Queue : Type 0 where
  pub insert_index : ℕ
  pub delete_index : ℕ
  pub turn : ℕ → ℕ
  pub item : ℕ → ℕ
  pub result : ℕ → ℕ
  pub value : ℕ → ℕ
  pub origin : ℕ → ℕ

abbrev pub empty : Queue
empty = record { insert_index = 0; delete_index = 0; turn = λ _. 0; item = λ _. 0; result = λ _. 0; value = λ _. 0; origin = λ _. 0 }

-- an insert ticket for a value is drawn, or a delete ticket
abbrev pub with_insert : Queue → ℕ → Queue
with_insert s v = record s { insert_index = s.insert_index + 1; value = changed s.value s.insert_index v }

abbrev pub with_delete : Queue → Queue
with_delete s = record s { delete_index = s.delete_index + 1 }

-- a turn word or data is set; a result that was taken by a delete ticket is set
abbrev pub moved : Queue → (turn item result origin : ℕ → ℕ) → Queue
moved s turn item result origin = record s { turn = turn; item = item; result = result; origin = origin }

abbrev pub with_turn : Queue → ℕ → ℕ → Queue
with_turn s i v = moved s (changed s.turn i v) s.item s.result s.origin

abbrev pub with_item : Queue → ℕ → ℕ → Queue
with_item s i v = moved s s.turn (changed s.item i v) s.result s.origin

abbrev pub with_result : Queue → ℕ → ℕ → ℕ → Queue
with_result s k v t = moved s s.turn s.item (changed s.result k v) (changed s.origin k t)

old_value : (s : Queue) (v t : ℕ) → t < s.insert_index → changed s.value s.insert_index v t ≡ s.value t
old_value s v t l = changed_other s.value s.insert_index v t (omega arith)

module _ (size places rounds : ℕ) where
  abbrev pub ticket : ℕ → ℕ → ℕ
  ticket i r = r * places + i

  same_ticket : (k s i r : ℕ) → k ≡ i → s ≡ r → ticket k s ≡ ticket i r
  same_ticket k s i r a b = ap (λ (m : ℕ). m * places + k) b ∙ ap (λ (m : ℕ). r * places + m) a

  -- the insert ticket and the delete ticket that are held
  abbrev pub InsertTicket : Phase → ℕ → Type 0
  InsertTicket (idle j) t = ⊥
  InsertTicket (inserts j i r) t = ticket i r ≡ t
  InsertTicket (puts j i r) t = ticket i r ≡ t
  InsertTicket (has_put j i r) t = ticket i r ≡ t
  InsertTicket (between j) t = ⊥
  InsertTicket (deletes j i r) t = ⊥
  InsertTicket (takes j i r) t = ⊥
  InsertTicket (taken j i r v) t = ⊥
  InsertTicket (carries j i r v) t = ⊥

  abbrev pub DeleteTicket : Phase → ℕ → Type 0
  DeleteTicket (idle j) t = ⊥
  DeleteTicket (inserts j i r) t = ⊥
  DeleteTicket (puts j i r) t = ⊥
  DeleteTicket (has_put j i r) t = ⊥
  DeleteTicket (between j) t = ⊥
  DeleteTicket (deletes j i r) t = ticket i r ≡ t
  DeleteTicket (takes j i r) t = ticket i r ≡ t
  DeleteTicket (taken j i r v) t = ticket i r ≡ t
  DeleteTicket (carries j i r v) t = ticket i r ≡ t

  -- the word of place i goes from 2r to 2r + 1 by the holder of insert ticket (i, r): what every other phase says of its turn word stays
  opens : (turn : ℕ → ℕ) (i r : ℕ) (χ : Phase) → turn i ≡ 2 * r → (InsertTicket χ (ticket i r) → ⊥) → Turns turn χ → Turns (changed turn i (2 * r + 1)) χ
  opens turn i r (idle j) e d h = tt
  opens turn i r (inserts j k s) e d h = pick (λ (x : ℕ). x ≤ 2 * s) turn i (2 * r + 1) k (λ a. let w = ap turn a in let x : s ≢ r = λ y. d (same_ticket k s i r a y) in omega arith) (λ _. h)
  opens turn i r (puts j k s) e d h = pick (λ (x : ℕ). x ≡ 2 * s) turn i (2 * r + 1) k (λ a. let w = ap turn a in let x : s ≢ r = λ y. d (same_ticket k s i r a y) in absurd (omega arith)) (λ _. h)
  opens turn i r (has_put j k s) e d h = pick (λ (x : ℕ). x ≡ 2 * s) turn i (2 * r + 1) k (λ a. let w = ap turn a in let x : s ≢ r = λ y. d (same_ticket k s i r a y) in absurd (omega arith)) (λ _. h)
  opens turn i r (between j) e d h = tt
  opens turn i r (deletes j k s) e d h = pick (λ (x : ℕ). x ≤ 2 * s + 1) turn i (2 * r + 1) k (λ a. let w = ap turn a in omega arith) (λ _. h)
  opens turn i r (takes j k s) e d h = pick (λ (x : ℕ). x ≡ 2 * s + 1) turn i (2 * r + 1) k (λ a. let w = ap turn a in absurd (omega arith)) (λ _. h)
  opens turn i r (taken j k s v) e d h = pick (λ (x : ℕ). x ≡ 2 * s + 1) turn i (2 * r + 1) k (λ a. let w = ap turn a in absurd (omega arith)) (λ _. h)
  opens turn i r (carries j k s v) e d h = tt

  -- and from 2r + 1 to 2r + 2 by the holder of delete ticket (i, r)
  closes : (turn : ℕ → ℕ) (i r : ℕ) (χ : Phase) → turn i ≡ 2 * r + 1 → (DeleteTicket χ (ticket i r) → ⊥) → Turns turn χ → Turns (changed turn i (2 * r + 2)) χ
  closes turn i r (idle j) e d h = tt
  closes turn i r (inserts j k s) e d h = pick (λ (x : ℕ). x ≤ 2 * s) turn i (2 * r + 2) k (λ a. let w = ap turn a in omega arith) (λ _. h)
  closes turn i r (puts j k s) e d h = pick (λ (x : ℕ). x ≡ 2 * s) turn i (2 * r + 2) k (λ a. let w = ap turn a in absurd (omega arith)) (λ _. h)
  closes turn i r (has_put j k s) e d h = pick (λ (x : ℕ). x ≡ 2 * s) turn i (2 * r + 2) k (λ a. let w = ap turn a in absurd (omega arith)) (λ _. h)
  closes turn i r (between j) e d h = tt
  closes turn i r (deletes j k s) e d h = pick (λ (x : ℕ). x ≤ 2 * s + 1) turn i (2 * r + 2) k (λ a. let w = ap turn a in let x : s ≢ r = λ y. d (same_ticket k s i r a y) in omega arith) (λ _. h)
  closes turn i r (takes j k s) e d h = pick (λ (x : ℕ). x ≡ 2 * s + 1) turn i (2 * r + 2) k (λ a. let w = ap turn a in let x : s ≢ r = λ y. d (same_ticket k s i r a y) in absurd (omega arith)) (λ _. h)
  closes turn i r (taken j k s v) e d h = pick (λ (x : ℕ). x ≡ 2 * s + 1) turn i (2 * r + 2) k (λ a. let w = ap turn a in let x : s ≢ r = λ y. d (same_ticket k s i r a y) in absurd (omega arith)) (λ _. h)
  closes turn i r (carries j k s v) e d h = tt

  -- what a phase of processing element p says beside its turn word, where n insert tickets and m
  -- delete tickets were drawn. Its ticket is one of these. The value of its insert ticket, or what
  -- it took, is where it is said to be
  abbrev pub Owns : (n m : ℕ) (item value : ℕ → ℕ) (p : ℕ) → Phase → Type 0
  Owns n m item value p (idle j) = Unit {0}
  Owns n m item value p (inserts j i r) = (i < places) × (ticket i r < n) × (value (ticket i r) ≡ 1 + p + j * size)
  Owns n m item value p (puts j i r) = (i < places) × (ticket i r < n) × (value (ticket i r) ≡ 1 + p + j * size)
  Owns n m item value p (has_put j i r) = (i < places) × (ticket i r < n) × (item i ≡ value (ticket i r))
  Owns n m item value p (between j) = Unit {0}
  Owns n m item value p (deletes j i r) = (i < places) × (ticket i r < m)
  Owns n m item value p (takes j i r) = (i < places) × (ticket i r < m)
  Owns n m item value p (taken j i r v) = (i < places) × (ticket i r < m) × (ticket i r < n) × (v ≡ value (ticket i r))
  Owns n m item value p (carries j i r v) = (i < places) × (ticket i r < m) × (ticket i r < n) × (v ≡ value (ticket i r))

  -- it stays when more tickets are drawn
  grows : (n n2 m m2 : ℕ) (item value value2 : ℕ → ℕ) (p : ℕ) (χ : Phase) → n ≤ n2 → m ≤ m2 → ((t : ℕ) → t < n → value2 t ≡ value t) → Owns n m item value p χ → Owns n2 m2 item value2 p χ
  grows n n2 m m2 item value value2 p (idle j) a b e h = tt
  grows n n2 m m2 item value value2 p (inserts j i r) a b e h = let l = h.1 in (h.0, omega arith, e (ticket i r) l ∙ h.2)
  grows n n2 m m2 item value value2 p (puts j i r) a b e h = let l = h.1 in (h.0, omega arith, e (ticket i r) l ∙ h.2)
  grows n n2 m m2 item value value2 p (has_put j i r) a b e h = let l = h.1 in (h.0, omega arith, h.2 ∙ sym (e (ticket i r) l))
  grows n n2 m m2 item value value2 p (between j) a b e h = tt
  grows n n2 m m2 item value value2 p (deletes j i r) a b e h = let l = h.1 in (h.0, omega arith)
  grows n n2 m m2 item value value2 p (takes j i r) a b e h = let l = h.1 in (h.0, omega arith)
  grows n n2 m m2 item value value2 p (taken j i r v) a b e h = let k = h.1 in let l = h.2 in (h.0, omega arith, omega arith, h.3 ∙ sym (e (ticket i r) l))
  grows n n2 m m2 item value value2 p (carries j i r v) a b e h = let k = h.1 in let l = h.2 in (h.0, omega arith, omega arith, h.3 ∙ sym (e (ticket i r) l))

  -- and when the holder of insert ticket (i, r) sets the data of place i in its turn
  items_stay : (turn : ℕ → ℕ) (n m : ℕ) (item value : ℕ → ℕ) (i r v p : ℕ) (χ : Phase) → turn i ≡ 2 * r → (InsertTicket χ (ticket i r) → ⊥) → Turns turn χ → Owns n m item value p χ → Owns n m (changed item i v) value p χ
  items_stay turn n m item value i r v p (has_put j k s) e d u h =
      (h.0, h.1, pick (λ (x : ℕ). x ≡ value (ticket k s)) item i v k (λ a. let w = ap turn a in let x : s ≢ r = λ y. d (same_ticket k s i r a y) in absurd (omega arith)) (λ _. h.2))
  items_stay turn n m item value i r v p χ e d u h = h

  -- a ticket that is held was drawn
  insert_below : (n m : ℕ) (item value : ℕ → ℕ) (p : ℕ) (χ : Phase) → Owns n m item value p χ → (t : ℕ) → InsertTicket χ t → t < n
  insert_below n m item value p (inserts j i r) h t e = let l = h.1 in omega arith
  insert_below n m item value p (puts j i r) h t e = let l = h.1 in omega arith
  insert_below n m item value p (has_put j i r) h t e = let l = h.1 in omega arith
  insert_below n m item value p χ h t e = absurd e

  delete_below : (n m : ℕ) (item value : ℕ → ℕ) (p : ℕ) (χ : Phase) → Owns n m item value p χ → (t : ℕ) → DeleteTicket χ t → t < m
  delete_below n m item value p (deletes j i r) h t e = let l = h.1 in omega arith
  delete_below n m item value p (takes j i r) h t e = let l = h.1 in omega arith
  delete_below n m item value p (taken j i r v) h t e = let l = h.1 in omega arith
  delete_below n m item value p (carries j i r v) h t e = let l = h.1 in omega arith
  delete_below n m item value p χ h t e = absurd e

  -- ---- the invariant
  -- what holds of the queue alone
  pub record Standing (s : Queue) : Type 0 where
    -- the delete ticket of a round of a place that is over was drawn
    pub closed : (i r : ℕ) → i < places → 2 * r + 2 ≤ s.turn i → ticket i r < s.delete_index
    -- in an odd turn the insert ticket was drawn, and its value is there
    pub opened : (i r : ℕ) → i < places → s.turn i ≡ 2 * r + 1 → (ticket i r < s.insert_index) × (s.item i ≡ s.value (ticket i r))
    -- the values are different
    pub different : (t u : ℕ) → t < s.insert_index → u < s.insert_index → s.value t ≡ s.value u → t ≡ u
    -- a result is the value of a ticket that was drawn by both sides
    pub of_ticket : (k : ℕ) → s.result k ≢ 0 → (s.origin k < s.insert_index) × (s.origin k < s.delete_index) × (s.result k ≡ s.value (s.origin k))
    -- and of another one each
    pub once : (k l : ℕ) → s.result k ≢ 0 → s.result l ≢ 0 → s.origin k ≡ s.origin l → k ≡ l

  -- what holds of processing element p in a phase
  pub record Fits (s : Queue) (p : ℕ) (φ : Phase) : Type 0 where
    pub turns : Turns s.turn φ
    pub owns : Owns s.insert_index s.delete_index s.item s.value p φ
    pub few_rounds : inserted φ ≤ rounds
    -- the results of its rounds that are done are there
    pub stored : (i : ℕ) → i < done φ → s.result (p + i * size) ≢ 0
    -- no result is of the delete ticket that it holds
    pub unused : (k t : ℕ) → s.result k ≢ 0 → DeleteTicket φ t → s.origin k ≢ t

  -- two phases hold no ticket both
  pub record AreApart (φ χ : Phase) : Type 0 where
    pub inserting : (t : ℕ) → InsertTicket φ t → InsertTicket χ t → ⊥
    pub deleting : (t : ℕ) → DeleteTicket φ t → DeleteTicket χ t → ⊥

  -- a value is that of a round in which an insert ticket was drawn
  pub record IsOfRound (v : ℕ) (phases : List Phase) : Type 0 where
    pub element : ℕ
    pub its_round : ℕ
    pub within : element < size
    pub drawn : its_round < inserted (slice_index_or phases element out)
    pub value : v ≡ 1 + element + its_round * size

  pub record Keeps (s : Queue) (phases : List Phase) : Type 0 where
    pub standing : Standing s
    pub inserts_counted : s.insert_index ≡ sum_by inserted phases
    pub deletes_counted : s.delete_index ≡ sum_by deleted phases
    pub each : (p : ℕ) → Fits s p (slice_index_or phases p out)
    pub apart : (p q : ℕ) → p ≢ q → AreApart (slice_index_or phases p out) (slice_index_or phases q out)
    pub of_round : (t : ℕ) → t < s.insert_index → IsOfRound (s.value t) phases

  -- ---- what is known of the phase that changes
  fits_of : (s : Queue) (phases : List Phase) (p : ℕ) (φ : Phase) → IsIn phases p out φ → Keeps s phases → Fits s p φ
  fits_of s phases p φ i g = subst (λ (χ : Phase). Fits s p χ) i.is (g.each p)

  apart_of : (s : Queue) (phases : List Phase) (p : ℕ) (φ : Phase) → IsIn phases p out φ → Keeps s phases → (q : ℕ) → q ≢ p → AreApart φ (slice_index_or phases q out)
  apart_of s phases p φ i g q d = subst (λ (χ : Phase). AreApart χ (slice_index_or phases q out)) i.is (g.apart p q (λ e. d (sym e)))

  flipped : (φ χ : Phase) → AreApart φ χ → AreApart χ φ
  flipped φ χ h = record { inserting = λ t x y. h.inserting t y x; deleting = λ t x y. h.deleting t y x }

  narrowed : (φ ψ χ : Phase) → ((t : ℕ) → InsertTicket ψ t → InsertTicket φ t) → ((t : ℕ) → DeleteTicket ψ t → DeleteTicket φ t) → AreApart φ χ → AreApart ψ χ
  narrowed φ ψ χ f g h = record { inserting = λ t x y. h.inserting t (f t x) y; deleting = λ t x y. h.deleting t (g t x) y }

  apart_after : (phases : List Phase) (p : ℕ) (ψ : Phase) → p < length phases → ((q : ℕ) → q ≢ p → AreApart ψ (slice_index_or phases q out)) → ((q u : ℕ) → q ≢ u → AreApart (slice_index_or phases q out) (slice_index_or phases u out))
      → (q u : ℕ) → q ≢ u → AreApart (slice_index_or (slice_set phases p ψ) q out) (slice_index_or (slice_set phases p ψ) u out)
  apart_after phases p ψ l new old q u d = phase_after (λ (q : ℕ) (χ : Phase). q ≢ u → AreApart χ (slice_index_or (slice_set phases p ψ) u out)) phases p out ψ l
      (λ d. phase_after (λ (u : ℕ) (ξ : Phase). p ≢ u → AreApart ψ ξ) phases p out ψ l (λ e. absurd (e refl)) (λ u e _. new u e) u d)
      (λ q e d. phase_after (λ (u : ℕ) (ξ : Phase). q ≢ u → AreApart (slice_index_or phases q out) ξ) phases p out ψ l (λ _. flipped ψ (slice_index_or phases q out) (new q e)) (λ u _ d. old q u d) u d)
      q d

  of_round_after : (phases : List Phase) (p : ℕ) (φ ψ : Phase) → IsIn phases p out φ → inserted φ ≤ inserted ψ → (v : ℕ) → IsOfRound v phases → IsOfRound v (slice_set phases p ψ)
  of_round_after phases p φ ψ i l v h =
      let more : inserted (slice_index_or phases h.element out) ≤ inserted (slice_index_or (slice_set phases p ψ) h.element out) =
      phase_after (λ (q : ℕ) (χ : Phase). inserted (slice_index_or phases q out) ≤ inserted χ) phases p out ψ i.within (rw i.is l) (λ q d. omega arith) h.element in
      let was = h.drawn in
      record { element = h.element; its_round = h.its_round; within = h.within; drawn = omega arith; value = h.value }

  -- a processing element goes to another phase, and the queue changes
  goes : (s new : Queue) (phases : List Phase) (p : ℕ) (φ ψ : Phase) → IsIn phases p out φ → Keeps s phases → Standing new
      → new.insert_index + inserted φ ≡ s.insert_index + inserted ψ → new.delete_index + deleted φ ≡ s.delete_index + deleted ψ
      → Fits new p ψ → ((q : ℕ) → q ≢ p → Fits new q (slice_index_or phases q out)) → ((q : ℕ) → q ≢ p → AreApart ψ (slice_index_or phases q out))
      → ((t : ℕ) → t < new.insert_index → IsOfRound (new.value t) (slice_set phases p ψ)) → Keeps new (slice_set phases p ψ)
  goes s new phases p φ ψ i g standing n m fits others alone of_round =
      let one : sum_by inserted (slice_set phases p ψ) + inserted φ ≡ sum_by inserted phases + inserted ψ = sum_changes inserted phases p out φ ψ i in
      let two : sum_by deleted (slice_set phases p ψ) + deleted φ ≡ sum_by deleted phases + deleted ψ = sum_changes deleted phases p out φ ψ i in
      let was = g.inserts_counted in
      let had = g.deletes_counted in
      record {
        standing = standing;
        inserts_counted = omega arith;
        deletes_counted = omega arith;
        each = phase_after (λ (q : ℕ) (χ : Phase). Fits new q χ) phases p out ψ i.within fits others;
        apart = apart_after phases p ψ i.within alone g.apart;
        of_round = of_round;
      }

  -- where it draws no ticket
  acts : (s : Queue) (turn item result origin : ℕ → ℕ) (phases : List Phase) (p : ℕ) (φ ψ : Phase) → IsIn phases p out φ → Keeps s phases → Standing (moved s turn item result origin)
      → inserted φ ≡ inserted ψ → deleted φ ≡ deleted ψ → Fits (moved s turn item result origin) p ψ → ((q : ℕ) → q ≢ p → Fits (moved s turn item result origin) q (slice_index_or phases q out))
      → ((t : ℕ) → InsertTicket ψ t → InsertTicket φ t) → ((t : ℕ) → DeleteTicket ψ t → DeleteTicket φ t) → Keeps (moved s turn item result origin) (slice_set phases p ψ)
  acts s turn item result origin phases p φ ψ i g standing n m fits others f h = goes s (moved s turn item result origin) phases p φ ψ i g standing (omega arith) (omega arith) fits others
      (λ q d. narrowed φ ψ (slice_index_or phases q out) f h (apart_of s phases p φ i g q d))
      (λ t l. of_round_after phases p φ ψ i (omega arith) (s.value t) (g.of_round t l))

  -- ---- an insert ticket is drawn
  own_value : (p q j k : ℕ) → p < size → q < size → 1 + p + j * size ≡ 1 + q + k * size → (p ≡ q) × (j ≡ k)
  own_value p q j k a b e =
      let f : j * size + p ≡ k * size + q = omega arith in (
        sym (mod-mul-add j size p a) ∙ ap (λ (n : ℕ). n % size) f ∙ mod-mul-add k size q b,
        sym (div-mul-add j size p a) ∙ ap (λ (n : ℕ). n / size) f ∙ div-mul-add k size q b,
      )

  -- no ticket so far is of a round that has not begun
  fresh : (s : Queue) (phases : List Phase) (p j : ℕ) → p < size → IsIn phases p out (idle j) → Keeps s phases → (t : ℕ) → t < s.insert_index → 1 + p + j * size ≡ s.value t → ⊥
  fresh s phases p j b i g t l e =
      let k = g.of_round t l in
      let same = own_value p k.element j k.its_round b k.within (e ∙ k.value) in
      let here : inserted (slice_index_or phases k.element out) ≡ j = ap (λ (q : ℕ). inserted (slice_index_or phases q out)) (sym same.0) ∙ ap inserted i.is in
      let late = k.drawn in
      let order = same.1 in
      omega arith

  pub fewer : (s : Queue) (phases : List Phase) → Keeps s phases → s.delete_index ≤ s.insert_index
  fewer s phases g =
      let less : sum_by deleted phases ≤ sum_by inserted phases = sum_by-le-sum_by deleted inserted phases deleted_inserted in
      let was = g.inserts_counted in
      let had = g.deletes_counted in
      omega arith

  -- the turn word of a ticket that is drawn next
  low_turn : (s : Queue) (i r : ℕ) → Standing s → i < places → s.insert_index ≡ ticket i r → s.delete_index ≤ s.insert_index → s.turn i ≤ 2 * r
  low_turn s i r g b e l = elim (cases_lt (2 * r) (s.turn i)) [
    | inl a ↦ elim (cases_eq (s.turn i) (2 * r + 1)) [
      | inl f ↦ (let x = (g.opened i r b f).0 in absurd (omega arith))
      | inr f ↦ (let x = g.closed i r b (omega arith) in absurd (omega arith))
    ]
    | inr a ↦ a
  ]

  different_after : (f : ℕ → ℕ) (n v : ℕ) → ((t : ℕ) → t < n → v ≡ f t → ⊥) → ((t u : ℕ) → t < n → u < n → f t ≡ f u → t ≡ u) → (t u : ℕ) → t < n + 1 → u < n + 1 → changed f n v t ≡ changed f n v u → t ≡ u
  different_after f n v none old t u a b = pick (λ (x : ℕ). x ≡ changed f n v u → t ≡ u) f n v t
      (λ x. pick (λ (y : ℕ). v ≡ y → t ≡ u) f n v u (λ y _. x ∙ sym y) (λ y e. absurd (none u (omega arith) e)))
      (λ x. pick (λ (y : ℕ). f t ≡ y → t ≡ u) f n v u (λ y e. absurd (none t (omega arith) (sym e))) (λ y e. old t u (omega arith) (omega arith) e))

  standing_insert : (s : Queue) (v : ℕ) → Standing s → ((t : ℕ) → t < s.insert_index → v ≡ s.value t → ⊥) → Standing (with_insert s v)
  standing_insert s v g none = record {
    closed = g.closed;
    opened = λ i r b e. let x = g.opened i r b e in let l = x.0 in (omega arith, x.1 ∙ sym (old_value s v (ticket i r) l));
    different = different_after s.value s.insert_index v none g.different;
    of_ticket = λ k n. let x = g.of_ticket k n in let l = x.0 in (omega arith, x.1, x.2 ∙ sym (old_value s v (s.origin k) l));
    once = g.once;
  }

  pub draws_insert : (s : Queue) (phases : List Phase) (p j i r : ℕ) → p < size → j < rounds → IsIn phases p out (idle j) → Keeps s phases → i < places → s.insert_index ≡ ticket i r → Keeps (with_insert s (1 + p + j * size)) (slice_set phases p (inserts j i r))
  draws_insert s phases p j i r b l is g w e =
      let v : ℕ = 1 + p + j * size in
      let own = fits_of s phases p (idle j) is g in
      goes s (with_insert s v) phases p (idle j) (inserts j i r) is g (standing_insert s v g.standing (fresh s phases p j b is g)) (omega arith) (omega arith)
      record {
        turns = low_turn s i r g.standing w e (fewer s phases g);
        owns = (w, omega arith, changed_same s.value s.insert_index v (ticket i r) (sym e));
        few_rounds = omega arith;
        stored = own.stored;
        unused = λ k t n x. absurd x;
      }
      (λ q d. let f = g.each q in record {
        turns = f.turns;
        owns = grows s.insert_index (s.insert_index + 1) s.delete_index s.delete_index s.item s.value (changed s.value s.insert_index v) q (slice_index_or phases q out) (omega arith) (omega arith) (old_value s v) f.owns;
        few_rounds = f.few_rounds;
        stored = f.stored;
        unused = f.unused;
      })
      (λ q d. record {
        inserting = λ t x y. let k = insert_below s.insert_index s.delete_index s.item s.value q (slice_index_or phases q out) (g.each q).owns t y in omega arith;
        deleting = λ t x y. absurd x;
      })
      (λ t a. pick (λ (x : ℕ). IsOfRound x (slice_set phases p (inserts j i r))) s.value s.insert_index v t
      (λ _. record { element = p; its_round = j; within = b; drawn = rw (get_or-set_same phases p (inserts j i r) out is.within) (omega arith); value = refl })
      (λ d. of_round_after phases p (idle j) (inserts j i r) is (omega arith) (s.value t) (g.of_round t (omega arith))))

  -- at most as many tickets as processing elements have rounds
  pub few_tickets : (s : Queue) (phases : List Phase) → length phases ≤ 64 → rounds ≤ 1000 → Keeps s phases → s.insert_index ≤ 64000
  few_tickets s phases n few g =
      let most : sum_by inserted phases ≤ length phases * rounds = sum_by-le inserted rounds phases (λ k d b. rw (get_or_default phases k d out b) (g.each k).few_rounds) in
      let product : length phases * rounds ≤ 64 * rounds = mul-le-mul_right rounds n in
      let was = g.inserts_counted in
      omega arith

  -- ---- a delete ticket is drawn
  low_turn_delete : (s : Queue) (i r : ℕ) → Standing s → i < places → s.delete_index ≡ ticket i r → s.turn i ≤ 2 * r + 1
  low_turn_delete s i r g b e = elim (cases_lt (2 * r + 1) (s.turn i)) [
    | inl a ↦ (let x = g.closed i r b (omega arith) in absurd (omega arith))
    | inr a ↦ a
  ]

  standing_delete : (s : Queue) → Standing s → Standing (with_delete s)
  standing_delete s g = record {
    closed = λ i r b e. let x = g.closed i r b e in omega arith;
    opened = g.opened;
    different = g.different;
    of_ticket = λ k n. let x = g.of_ticket k n in let l = x.1 in (x.0, omega arith, x.2);
    once = g.once;
  }

  pub draws_delete : (s : Queue) (phases : List Phase) (p j i r : ℕ) → IsIn phases p out (between j) → Keeps s phases → i < places → s.delete_index ≡ ticket i r → Keeps (with_delete s) (slice_set phases p (deletes j i r))
  draws_delete s phases p j i r is g w e =
      let own = fits_of s phases p (between j) is g in
      goes s (with_delete s) phases p (between j) (deletes j i r) is g (standing_delete s g.standing) (omega arith) (omega arith)
      record {
        turns = low_turn_delete s i r g.standing w e;
        owns = (w, omega arith);
        few_rounds = own.few_rounds;
        stored = own.stored;
        unused = λ k t n x y. let l = (g.standing.of_ticket k n).1 in omega arith;
      }
      (λ q d. let f = g.each q in record {
        turns = f.turns;
        owns = grows s.insert_index s.insert_index s.delete_index (s.delete_index + 1) s.item s.value s.value q (slice_index_or phases q out) (omega arith) (omega arith) (λ t _. refl) f.owns;
        few_rounds = f.few_rounds;
        stored = f.stored;
        unused = f.unused;
      })
      (λ q d. record {
        inserting = λ t x y. absurd x;
        deleting = λ t x y. let k = delete_below s.insert_index s.delete_index s.item s.value q (slice_index_or phases q out) (g.each q).owns t y in omega arith;
      })
      (λ t a. of_round_after phases p (between j) (deletes j i r) is (omega arith) (s.value t) (g.of_round t a))

  -- ---- a turn has come
  pub reaches_insert : (s : Queue) (phases : List Phase) (p j i r : ℕ) → IsIn phases p out (inserts j i r) → Keeps s phases → s.turn i ≡ 2 * r → Keeps s (slice_set phases p (puts j i r))
  reaches_insert s phases p j i r is g e =
      let own = fits_of s phases p (inserts j i r) is g in
      acts s s.turn s.item s.result s.origin phases p (inserts j i r) (puts j i r) is g g.standing refl refl
      record { turns = e; owns = own.owns; few_rounds = own.few_rounds; stored = own.stored; unused = own.unused }
      (λ q d. g.each q) (λ t x. x) (λ t x. x)

  pub reaches_delete : (s : Queue) (phases : List Phase) (p j i r : ℕ) → IsIn phases p out (deletes j i r) → Keeps s phases → s.turn i ≡ 2 * r + 1 → Keeps s (slice_set phases p (takes j i r))
  reaches_delete s phases p j i r is g e =
      let own = fits_of s phases p (deletes j i r) is g in
      acts s s.turn s.item s.result s.origin phases p (deletes j i r) (takes j i r) is g g.standing refl refl
      record { turns = e; owns = own.owns; few_rounds = own.few_rounds; stored = own.stored; unused = own.unused }
      (λ q d. g.each q) (λ t x. x) (λ t x. x)

  -- ---- data is put, and the turn opened
  standing_item : (s : Queue) (i r v : ℕ) → s.turn i ≡ 2 * r → Standing s → Standing (with_item s i v)
  standing_item s i r v e g = record {
    closed = g.closed;
    opened = λ k u b f. let x = g.opened k u b f in (x.0, pick (λ (y : ℕ). y ≡ s.value (ticket k u)) s.item i v k (λ a. let w = ap s.turn a in absurd (omega arith)) (λ _. x.1));
    different = g.different;
    of_ticket = g.of_ticket;
    once = g.once;
  }

  pub puts_item : (s : Queue) (phases : List Phase) (p j i r v : ℕ) → IsIn phases p out (puts j i r) → Keeps s phases → v ≡ 1 + p + j * size → Keeps (with_item s i v) (slice_set phases p (has_put j i r))
  puts_item s phases p j i r v is g e =
      let own = fits_of s phases p (puts j i r) is g in
      let now : s.turn i ≡ 2 * r = own.turns in
      acts s s.turn (changed s.item i v) s.result s.origin phases p (puts j i r) (has_put j i r) is g (standing_item s i r v now g.standing) refl refl
      record {
        turns = own.turns;
        owns = (own.owns.0, own.owns.1, changed_same s.item i v i refl ∙ e ∙ sym own.owns.2);
        few_rounds = own.few_rounds;
        stored = own.stored;
        unused = own.unused;
      }
      (λ q d. let f = g.each q in record {
        turns = f.turns;
        owns = items_stay s.turn s.insert_index s.delete_index s.item s.value i r v q (slice_index_or phases q out) now ((apart_of s phases p (puts j i r) is g q d).inserting (ticket i r) refl) f.turns f.owns;
        few_rounds = f.few_rounds;
        stored = f.stored;
        unused = f.unused;
      })
      (λ t x. x) (λ t x. x)

  -- the value of insert ticket (k, u) is there
  abbrev IsThere : Queue → ℕ → ℕ → Type 0
  IsThere s k u = (ticket k u < s.insert_index) × (s.item k ≡ s.value (ticket k u))

  standing_opened : (s : Queue) (i r : ℕ) → s.turn i ≡ 2 * r → IsThere s i r → Standing s → Standing (with_turn s i (2 * r + 1))
  standing_opened s i r e there g = record {
    closed = λ k u b. pick (λ (x : ℕ). 2 * u + 2 ≤ x → ticket k u < s.delete_index) s.turn i (2 * r + 1) k (λ a l. g.closed k u b (let w = ap s.turn a in omega arith)) (λ _ l. g.closed k u b l);
    opened = λ k u b. pick (λ (x : ℕ). x ≡ 2 * u + 1 → IsThere s k u) s.turn i (2 * r + 1) k
        (λ a f. let z : r ≡ u = omega arith in subst (λ (m : ℕ). IsThere s m u) (sym a) (subst (λ (m : ℕ). IsThere s i m) z there))
        (λ _ f. g.opened k u b f);
    different = g.different;
    of_ticket = g.of_ticket;
    once = g.once;
  }

  pub opens_turn : (s : Queue) (phases : List Phase) (p j i r : ℕ) → IsIn phases p out (has_put j i r) → Keeps s phases → Keeps (with_turn s i (2 * r + 1)) (slice_set phases p (between j))
  opens_turn s phases p j i r is g =
      let own = fits_of s phases p (has_put j i r) is g in
      let now : s.turn i ≡ 2 * r = own.turns in
      acts s (changed s.turn i (2 * r + 1)) s.item s.result s.origin phases p (has_put j i r) (between j) is g (standing_opened s i r now (own.owns.1, own.owns.2) g.standing) refl refl
      record { turns = tt; owns = tt; few_rounds = own.few_rounds; stored = own.stored; unused = own.unused }
      (λ q d. let f = g.each q in record {
        turns = opens s.turn i r (slice_index_or phases q out) now ((apart_of s phases p (has_put j i r) is g q d).inserting (ticket i r) refl) f.turns;
        owns = f.owns;
        few_rounds = f.few_rounds;
        stored = f.stored;
        unused = f.unused;
      })
      (λ t x. absurd x) (λ t x. x)

  -- ---- data is taken, and the turn closed
  pub takes_item : (s : Queue) (phases : List Phase) (p j i r v : ℕ) → IsIn phases p out (takes j i r) → Keeps s phases → v ≡ s.item i → Keeps s (slice_set phases p (taken j i r v))
  takes_item s phases p j i r v is g e =
      let own = fits_of s phases p (takes j i r) is g in
      let there = g.standing.opened i r own.owns.0 own.turns in
      acts s s.turn s.item s.result s.origin phases p (takes j i r) (taken j i r v) is g g.standing refl refl
      record { turns = own.turns; owns = (own.owns.0, own.owns.1, there.0, e ∙ there.1); few_rounds = own.few_rounds; stored = own.stored; unused = own.unused }
      (λ q d. g.each q) (λ t x. x) (λ t x. x)

  closed_after : (s : Queue) (i r k u : ℕ) → Standing s → s.turn i ≡ 2 * r + 1 → ticket i r < s.delete_index → k < places → k ≡ i → 2 * u + 2 ≤ 2 * r + 2 → ticket k u < s.delete_index
  closed_after s i r k u g e d b a l = elim (cases_eq u r) [
    | inl f ↦ (let t : ticket k u ≡ ticket i r = same_ticket k u i r a f in omega arith)
    | inr f ↦ g.closed k u b (let w = ap s.turn a in omega arith)
  ]

  standing_closed : (s : Queue) (i r : ℕ) → s.turn i ≡ 2 * r + 1 → ticket i r < s.delete_index → Standing s → Standing (with_turn s i (2 * r + 2))
  standing_closed s i r e d g = record {
    closed = λ k u b. pick (λ (x : ℕ). 2 * u + 2 ≤ x → ticket k u < s.delete_index) s.turn i (2 * r + 2) k (λ a l. closed_after s i r k u g e d b a l) (λ _ l. g.closed k u b l);
    opened = λ k u b. pick (λ (x : ℕ). x ≡ 2 * u + 1 → IsThere s k u) s.turn i (2 * r + 2) k (λ a f. absurd (omega arith)) (λ _ f. g.opened k u b f);
    different = g.different;
    of_ticket = g.of_ticket;
    once = g.once;
  }

  pub closes_turn : (s : Queue) (phases : List Phase) (p j i r v : ℕ) → IsIn phases p out (taken j i r v) → Keeps s phases → Keeps (with_turn s i (2 * r + 2)) (slice_set phases p (carries j i r v))
  closes_turn s phases p j i r v is g =
      let own = fits_of s phases p (taken j i r v) is g in
      let now : s.turn i ≡ 2 * r + 1 = own.turns in
      acts s (changed s.turn i (2 * r + 2)) s.item s.result s.origin phases p (taken j i r v) (carries j i r v) is g (standing_closed s i r now own.owns.1 g.standing) refl refl
      record { turns = tt; owns = own.owns; few_rounds = own.few_rounds; stored = own.stored; unused = own.unused }
      (λ q d. let f = g.each q in record {
        turns = closes s.turn i r (slice_index_or phases q out) now ((apart_of s phases p (taken j i r v) is g q d).deleting (ticket i r) refl) f.turns;
        owns = f.owns;
        few_rounds = f.few_rounds;
        stored = f.stored;
        unused = f.unused;
      })
      (λ t x. x) (λ t x. x)

  -- ---- a result is put
  standing_result : (s : Queue) (k v t : ℕ) → t < s.insert_index → t < s.delete_index → v ≡ s.value t → ((l : ℕ) → s.result l ≢ 0 → s.origin l ≢ t) → Standing s → Standing (with_result s k v t)
  standing_result s k v t a b e none g = record {
    closed = g.closed;
    opened = g.opened;
    different = g.different;
    of_ticket = λ l. picks (λ (x y : ℕ). x ≢ 0 → (y < s.insert_index) × (y < s.delete_index) × (x ≡ s.value y)) s.result s.origin k v t l (λ _ _. (a, b, e)) (λ _ n. g.of_ticket l n);
    once = λ l m. picks (λ (x y : ℕ). x ≢ 0 → changed s.result k v m ≢ 0 → y ≡ changed s.origin k t m → l ≡ m) s.result s.origin k v t l
        (λ c _. picks (λ (x y : ℕ). x ≢ 0 → t ≡ y → l ≡ m) s.result s.origin k v t m (λ d _ _. c ∙ sym d) (λ _ n f. absurd (none m n (sym f))))
        (λ _ n. picks (λ (x y : ℕ). x ≢ 0 → s.origin l ≡ y → l ≡ m) s.result s.origin k v t m (λ _ _ f. absurd (none l n f)) (λ _ o f. g.once l m n o f));
  }

  stored_after : (s : Queue) (p j v : ℕ) → v ≢ 0 → ((i : ℕ) → i < j → s.result (p + i * size) ≢ 0) → (i : ℕ) → i < j + 1 → changed s.result (p + j * size) v (p + i * size) ≢ 0
  stored_after s p j v some old i l = pick (λ (x : ℕ). x ≢ 0) s.result (p + j * size) v (p + i * size) (λ _. some) (λ d. old i (let e : i ≢ j = λ e. d (ap (λ (m : ℕ). p + m * size) e) in omega arith))

  fits_result : (s : Queue) (k v t q : ℕ) (χ : Phase) → v ≢ 0 → (DeleteTicket χ t → ⊥) → Fits s q χ → Fits (with_result s k v t) q χ
  fits_result s k v t q χ some none f = record {
    turns = f.turns;
    owns = f.owns;
    few_rounds = f.few_rounds;
    stored = λ i l. pick (λ (x : ℕ). x ≢ 0) s.result k v (q + i * size) (λ _. some) (λ _. f.stored i l);
    unused = λ l u. picks (λ (x y : ℕ). x ≢ 0 → DeleteTicket χ u → y ≢ u) s.result s.origin k v t l (λ _ _ h e. none (subst (λ (u : ℕ). DeleteTicket χ u) (sym e) h)) (λ _ n h. f.unused l u n h);
  }

  pub puts_result : (s : Queue) (phases : List Phase) (p j i r v : ℕ) → IsIn phases p out (carries j i r v) → Keeps s phases → Keeps (with_result s (p + j * size) v (ticket i r)) (slice_set phases p (idle (j + 1)))
  puts_result s phases p j i r v is g =
      let own = fits_of s phases p (carries j i r v) is g in
      let some : v ≢ 0 = (let k = (g.of_round (ticket i r) own.owns.2).value in let e = own.owns.3 in omega arith) in
      acts s s.turn s.item (changed s.result (p + j * size) v) (changed s.origin (p + j * size) (ticket i r)) phases p (carries j i r v) (idle (j + 1)) is g
      (standing_result s (p + j * size) v (ticket i r) own.owns.2 own.owns.1 own.owns.3 (λ l n. own.unused l (ticket i r) n refl) g.standing) refl refl
      record { turns = tt; owns = tt; few_rounds = own.few_rounds; stored = stored_after s p j v some own.stored; unused = λ k t n x. absurd x }
      (λ q d. fits_result s (p + j * size) v (ticket i r) q (slice_index_or phases q out) some ((apart_of s phases p (carries j i r v) is g q d).deleting (ticket i r) refl) (g.each q))
      (λ t x. absurd x) (λ t x. absurd x)

  -- ---- at first
  pub keeps_at_first : (n : ℕ) → Keeps empty (replicate n out)
  keeps_at_first n =
      let one : sum_by inserted (replicate n out) ≡ n * 0 = sum_by-replicate inserted n out in
      let two : sum_by deleted (replicate n out) ≡ n * 0 = sum_by-replicate deleted n out in
      record {
        standing = record {
          closed = λ i r b e. absurd (omega arith);
          opened = λ i r b e. absurd (omega arith);
          different = λ t u a b e. absurd (omega arith);
          of_ticket = λ k h. absurd (h refl);
          once = λ k l h. absurd (h refl);
        };
        inserts_counted = omega arith;
        deletes_counted = omega arith;
        each = λ p. rw (replicated n p out) record { turns = tt; owns = tt; few_rounds = omega arith; stored = λ i l. absurd (omega arith); unused = λ k t h. absurd (h refl) };
        apart = λ p q d. rw (replicated n p out, replicated n q out) record { inserting = λ t x. absurd x; deleting = λ t x. absurd x };
        of_round = λ t l. absurd (omega arith);
      }

  -- ---- the law
  -- the results that are there are different
  pub results_different : (s : Queue) → Standing s → (k l : ℕ) → k ≢ l → s.result k ≢ 0 → s.result k ≢ s.result l
  results_different s g k l d n e =
      let m : s.result l ≢ 0 = subst (λ (x : ℕ). x ≢ 0) e n in
      let x = g.of_ticket k n in
      let y = g.of_ticket l m in
      d (g.once k l n m (g.different (s.origin k) (s.origin l) x.0 y.0 (sym x.2 ∙ e ∙ y.2)))

  -- each is what a processing element inserts in a round, and the results of its rounds before are there
  pub result_of_round : (s : Queue) (phases : List Phase) → Keeps s phases → (k : ℕ) → s.result k ≢ 0 → (p : ℕ) × (j : ℕ) × (p < size) × (j < rounds) × (s.result k ≡ 1 + p + j * size) × ((i : ℕ) → i < j → s.result (p + i * size) ≢ 0)
  result_of_round s phases g k n =
      let x = g.standing.of_ticket k n in
      let h = g.of_round (s.origin k) x.0 in
      let f = g.each h.element in
      let drawn = h.drawn in
      let few = f.few_rounds in
      let begun = inserted_done (slice_index_or phases h.element out) in
      (h.element, h.its_round, h.within, omega arith, x.2 ∙ h.value, λ i l. f.stored i (omega arith))
