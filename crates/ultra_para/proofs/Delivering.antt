-- a reply that comes: its register has it on the paracomputer already
use Rattle.std.proofs.Common.{◌≡◌, ℕ, ◌≤◌, List, [], ◌∷◌, true, false, Bool, refl, arith, sym, ◌∙◌, ap, inl, inr, ⊎_elim}
use Rattle.std.specs.Prelude.{◌==◌}
use Rattle.std.proofs.lemmas.Bool.{cases_eq}
use Rattle.ultra_msg.specs.declared.ReplyMessage.{ReplyMessage}
use Rattle.ultra_pni.specs.{declared.OpenCell.OpenCell, Interface.{target_of, closed}}
use Rattle.ultra_isa.specs.{declared.Instr.Instr, Step.{Core, received}}
use Rattle.ultra_model.specs.{Machine.Settings, Balance.{weight, count}}
use Rattle.ultra_model.proofs.Neighbours.{itself, other}
use Rattle.ultra_serial_law.specs.{declared.{LoggedIssue.LoggedIssue, Entry.Entry as Done}, Log.latest_number, Legal.leaf_of_entry}
use Rattle.ultra_serial_law.proofs.{Explained.IsIn, Issued.is_named, LaneForest.in_counts, Tidy.that_is}
use Rattle.ultra_para.proofs.Relation.{IsWaiting, State, opening}

-- two in a list of what is counted once are one
same_in : {X : Type 0} (t : X → Bool) (xs : List X) (a b : X) → count t xs ≤ 1 → IsIn a xs → t a ≡ true → IsIn b xs → t b ≡ true → a ≡ b
same_in t [] a b l h p k q = absurd h
same_in t (x ∷ xs) a b l (inl e) p (inl f) q = sym e ∙ f
same_in t (x ∷ xs) a b l (inl e) p (inr k) q =
    let here : weight (t x) ≡ 1 = rw (e, p) refl in
    let there = in_counts t b xs k q in
    absurd (omega (arith, l, here, there))
same_in t (x ∷ xs) a b l (inr h) p (inl f) q =
    let here : weight (t x) ≡ 1 = rw (f, q) refl in
    let there = in_counts t a xs h p in
    absurd (omega (arith, l, here, there))
same_in t (x ∷ xs) a b l (inr h) p (inr k) q = same_in t xs a b (omega (arith, l)) h p k q

-- the only open cell is that of the reply
only_cell : (os : List OpenCell) (o : OpenCell) (a : ℕ) → os ≡ o ∷ [] → 1 ≤ count (λ (v : OpenCell). v.cell == a) os → o.cell ≡ a
only_cell os o a e l =
    ⊎_elim (λ same. same)
    (λ apart.
    let none : count (λ (v : OpenCell). v.cell == a) os ≡ 0 = rw (e, other o.cell a apart) refl in
    absurd (omega (arith, none, l))) (cases_eq o.cell a)

closes : (os : List OpenCell) (o : OpenCell) (a : ℕ) → os ≡ o ∷ [] → o.cell ≡ a → closed a os ≡ []
closes os o a e f =
    let g : Bool → List OpenCell = λ b. elim b [ true ↦ [] | false ↦ o ∷ [] ] in
    ap (λ xs. closed a xs) e ∙ ap g (ap (λ z. z == a) f ∙ itself a)

none_counted : (os : List OpenCell) (a : ℕ) → os ≡ [] → 1 ≤ count (λ (v : OpenCell). v.cell == a) os → ⊥
none_counted os a e l = let none : count (λ (v : OpenCell). v.cell == a) os ≡ 0 = rw e refl in absurd (omega (arith, none, l))

-- the answer that comes is that of an entry
pub record IsAnswer (is : List LoggedIssue) (list : List Done) (p : ℕ) (r : ReplyMessage) : Type 0 where
  pub entry : Done
  pub stands : IsIn entry list
  pub pe : entry.pe ≡ p
  pub number : entry.number ≡ latest_number p r.cell is 0
  pub reply : entry.reply ≡ r.reply

module _ (c : Settings) (program : List Instr) (is : List LoggedIssue) (list : List Done) (once : (p k : ℕ) → count (λ (d : Done). is_named p k (leaf_of_entry d)) list ≤ 1) where
  module _ (p : ℕ) (now : Core) (os : List OpenCell) (k : ℕ) (q : Core) (r : ReplyMessage) (open_there : 1 ≤ count (λ (v : OpenCell). v.cell == r.cell) os) (a : IsAnswer is list p r) where
    abbrev pub core_after : Core
    core_after = record now { registers = received now.registers (target_of r.cell os) r.reply }

    -- it is the cell that p waits for
    waited : (w : IsWaiting c program is p now os k) → (w.request.cell ≡ r.cell) × (closed r.cell os ≡ []) × (a.entry.number ≡ w.number)
    waited w =
        let o = opening c program p w.before w.request w.sent in
        let os_are : os ≡ record { cell = w.request.cell; target = o.target } ∷ [] = sym w.opened ∙ o.opened in
        let same : w.request.cell ≡ r.cell = only_cell os record { cell = w.request.cell; target = o.target } r.cell os_are open_there in
        (same, closes os record { cell = w.request.cell; target = o.target } r.cell os_are same, a.number ∙ (ap (λ z. latest_number p z is 0) (sym same) ∙ w.latest))

    pub state_delivered : State c program is list p now os k q → State c program is list p core_after (closed r.cell os) k q
    state_delivered (inl s) = absurd (none_counted os r.cell s.none open_there)
    state_delivered (inr (inl s)) =
        let w = waited s.waiting in
        absurd (s.unserved (a.entry, a.stands, a.pe, w.2))
    state_delivered (inr (inr s)) =
        let w = waited s.waiting in
        let n = s.waiting.number in
        let one : is_named p n (leaf_of_entry s.entry) ≡ true = rw (s.pe, s.number) (that_is p n) in
        let two : is_named p n (leaf_of_entry a.entry) ≡ true = rw (a.pe, w.2) (that_is p n) in
        let same : s.entry ≡ a.entry = same_in (λ (d : Done). is_named p n (leaf_of_entry d)) list s.entry a.entry (once p n) s.stands one a.stands two in
        inl record {
          none = w.1;
          same = s.same
              ∙ (ap (λ z. record now { registers = received now.registers (target_of z os) s.entry.reply }) w.0
              ∙ ap (λ y. record now { registers = received now.registers (target_of r.cell os) y }) (ap (λ (d : Done). d.reply) same ∙ a.reply));
          served = s.served;
        }
