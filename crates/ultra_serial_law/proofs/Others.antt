-- requests for other cells leave what is kept for a cell as it is
use Rattle.std.proofs.Common.{◌≡◌, ◌≢◌, ℕ, List, [], ◌∷◌, ◌++◌, Bool, true, false, refl, sym, subst, ◌∙◌, ap, append_assoc}
use Rattle.std.specs.Prelude.{Option, Some, None, IfSome, ◌==◌, ◌||◌, nat_lt, length}
use Rattle.std.specs.List.{AllByRecursion}
use Rattle.std.proofs.lemmas.List.{append-nil, Folds.list_any-append}
use Rattle.ultra_msg.specs.declared.Request.{Request}
use Rattle.ultra_switch.specs.declared.{QueueEntry.QueueEntry, WaitRecord.WaitRecord}
use Rattle.ultra_switch.specs.Arrive.{Lane, Combination, entry, behind, can_combine, wait_record, combined_entry, combine, combine_within, after_arrival, arrive}
use Rattle.ultra_pni.specs.{declared.{OpenCell.OpenCell, Issue.TheVariants.Sent}, Interface.{Interface, is_open, after_issue}}
use Rattle.ultra_isa.specs.Instruction.{Site}
use Rattle.ultra_isa.proofs.Steps.{SendsInto}
use Rattle.ultra_model.specs.Phases.{arrive_all}
use Rattle.ultra_model.proofs.Each.{each-append, if_tested}

module _ (a : ℕ) where
  -- none is for the cell
  abbrev pub AreOthers : List Request → Type 0
  AreOthers rs = AllByRecursion (λ (r : Request). r.cell ≢ a) rs

  abbrev pub AreOtherEntries : List QueueEntry → Type 0
  AreOtherEntries es = AllByRecursion (λ (e : QueueEntry). e.request.cell ≢ a) es

  abbrev pub AreOtherRecords : List WaitRecord → Type 0
  AreOtherRecords ws = AllByRecursion (λ (w : WaitRecord). w.cell ≢ a) ws

  -- these records, and behind them records of other cells
  pub record Keeps (kept ws : List WaitRecord) : Type 0 where
    pub rest : List WaitRecord
    pub split : ws ≡ kept ++ rest
    pub others : AreOtherRecords rest

  pub keeps_alone : (kept : List WaitRecord) → Keeps kept kept
  keeps_alone kept = record { rest = []; split = sym (append-nil kept); others = tt }

  -- ---- arrivals
  -- a lane whose requests are for other cells, and whose records are those of another with more of other cells
  pub record IsAfterOthers (before : List WaitRecord) (l : Lane) : Type 0 where
    pub queue : AreOtherEntries l.queue
    pub records : Keeps before l.records

  abbrev CombinesOthers : Option Combination → Type 0
  CombinesOthers o = IfSome o (λ c. AreOtherEntries c.queue × (c.old.request.cell ≢ a))

  behind_others : (e : QueueEntry) (o : Option Combination) → e.request.cell ≢ a → CombinesOthers o → CombinesOthers (behind e o)
  behind_others e None h g = tt
  behind_others e (Some c) h g = ((h, g.0), g.1)

  combine_others : (r : Request) (es : List QueueEntry) → AreOtherEntries es → CombinesOthers (combine r es)
  combine_others r [] h = tt
  combine_others r (e ∷ es) h =
      if_tested (can_combine r e) (λ o. CombinesOthers o) (Some record { queue = combined_entry e r ∷ es; old = e }) (behind e (combine r es))
      (λ z. ((h.0, h.1), h.0)) (λ z. behind_others e (combine r es) h.0 (combine_others r es h.1))

  within_others : (w : ℕ) (l : Lane) (r : Request) → AreOtherEntries l.queue → CombinesOthers (combine_within w l r)
  within_others w l r h = if_tested (nat_lt (length l.records) w) (λ o. CombinesOthers o) (combine r l.queue) None (λ z. combine_others r l.queue h) (λ z. tt)

  one_after : (before : List WaitRecord) (l : Lane) (r : Request) (o : Option Combination) → IsAfterOthers before l → r.cell ≢ a → CombinesOthers o → IsAfterOthers before (after_arrival l r o)
  one_after before l r None h g k = record { queue = each-append (λ (e : QueueEntry). e.request.cell ≢ a) l.queue (entry r false ∷ []) h.queue (g, tt); records = h.records }
  one_after before l r (Some c) h g k = record {
    queue = k.0;
    records = record {
      rest = h.records.rest ++ wait_record c.old r ∷ [];
      split = ap (λ ws. ws ++ wait_record c.old r ∷ []) h.records.split ∙ append_assoc before h.records.rest (wait_record c.old r ∷ []);
      others = each-append (λ (w : WaitRecord). w.cell ≢ a) h.records.rest (wait_record c.old r ∷ []) h.records.others (k.1, tt);
    };
  }

  pub after_others : (w : ℕ) (before : List WaitRecord) (l : Lane) (rs : List Request) → IsAfterOthers before l → AreOthers rs → IsAfterOthers before (arrive_all w l rs)
  after_others w before l [] h g = h
  after_others w before l (r ∷ rs) h g = after_others w before (arrive w l r) rs (one_after before l r (combine_within w l r) h g.0 (within_others w l r h.queue)) g.1

  -- ---- interfaces
  -- the cell is open, and no request for it waits
  pub record IsAway (i : Interface) : Type 0 where
    pub opened : is_open a i.opened ≡ true
    pub pending : AreOthers i.pending

  or_left : (b d : Bool) → b ≡ true → (b || d) ≡ true
  or_left true d h = refl
  or_left false d h = absurd cc

  still_open : (os more : List OpenCell) → is_open a os ≡ true → is_open a (os ++ more) ≡ true
  still_open os more h = list_any-append (λ (o : OpenCell). o.cell == a) os more ∙ or_left (is_open a os) (is_open a more) h

  sends_other : (r : Request) (os : List OpenCell) → is_open r.cell os ≡ false → is_open a os ≡ true → r.cell ≢ a
  sends_other r os h g e = let same : is_open r.cell os ≡ true = subst (λ b. is_open b os ≡ true) (sym e) g in cc

  -- what a processing element sends is for another cell
  pub away_after : (s : Site) (most : ℕ) (i j : Interface) (o : Option Request) → SendsInto s most i j o → IsAway i → IsAway j
  away_after s most i j None e h = subst (λ (k : Interface). IsAway k) (sym e) h
  away_after s most i j (Some r) k h =
      let added : IsAway (after_issue i r k.4.0 Sent) = record {
        opened = still_open i.opened _ h.opened;
        pending = each-append (λ (q : Request). q.cell ≢ a) i.pending (r ∷ []) h.pending (sends_other r i.opened k.2 h.opened, tt);
      } in
      subst (λ (v : Interface). IsAway v) (sym k.4.1) added
