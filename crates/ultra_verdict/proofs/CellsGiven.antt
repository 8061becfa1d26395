-- the cells of a list, and those that entries leave
use Rattle.std.proofs.Common.{◌≡◌, ◌≢◌, ℕ, ◌+◌, ◌*◌, ◌/◌, ◌%◌, ◌<◌, ◌≤◌, List, [], ◌∷◌, ◌++◌, Bool, true, false, length, take, get_or, refl, sym, ap, subst, ◌∙◌, arith, ⊎_elim, Option}
use Rattle.std.specs.{Prelude.slice_get, Option.unwrap_or}
use Rattle.std.proofs.{lemmas.{Option.unwrap_or-slice_get, Bool.{cases_eq, cases_lt}, List.{take_more, get_or_past}, Nat.{le-div, pow_pos}}, Math.Path.fun_ext}
use Rattle.ultra_mem.specs.Serve.{ModuleState}
use Rattle.ultra_msg.specs.Act.{act}
use Rattle.ultra_model.specs.{Machine.{Settings, Machine, size, module_at}, Shape.HasShape, Trace.cell_value}
use Rattle.ultra_model.proofs.Neighbours.{itself}
use Rattle.ultra_serial_law.specs.{declared.records.Entry.Entry, Log.empty_log, Legal.{Cells, with_cell, given_over, given}}
use Rattle.ultra_serial_law.proofs.Replays.{with_other}
use Rattle.ultra_serial.specs.Breach.{cells_past}
use Rattle.ultra_serial.proofs.{CellsHeld.given_more, Explaining.past_more}

-- ---- one cell
with_this : (m : Cells) (a v b : ℕ) → a ≡ b → with_cell m a v b ≡ v
with_this m a v b e = let f : Bool → ℕ = λ t. elim t [ true ↦ v | false ↦ m a ] in subst (λ n. with_cell m a v n ≡ v) e (ap f (itself a))

-- the last value that it is given
module _ (is : List (ℕ × ℕ)) (k cell v : ℕ) (within : k < length is) (so_far : v ≡ given (take k is) cell) where
  pub given_here : (get_or is k (0, 0)).0 ≡ cell → (get_or is k (0, 0)).1 ≡ given (take (k + 1) is) cell
  given_here e = rw (given_more is k (0, 0) within) (sym (with_this (given (take k is)) _ _ cell e))

  pub given_elsewhere : ((get_or is k (0, 0)).0 ≡ cell → ⊥) → v ≡ given (take (k + 1) is) cell
  given_elsewhere e = rw (given_more is k (0, 0) within) (so_far ∙ sym (with_other (given (take k is)) _ _ cell (λ h. e (sym h))))

-- the value that entries leave in it
module _ (m : Cells) (xs : List Entry) (k : ℕ) (d : Entry) (cell v : ℕ) (within : k < length xs) (so_far : v ≡ cells_past m (take k xs) cell) where
  past_next : cells_past m (take (k + 1) xs) ≡ with_cell (cells_past m (take k xs)) (get_or xs k d).cell (act (get_or xs k d).op (cells_past m (take k xs) (get_or xs k d).cell)).0
  past_next = ap (λ us. cells_past m us) (take_more xs k d within) ∙ past_more m empty_log (take k xs) 0 (get_or xs k d)

  pub acted_here : (get_or xs k d).cell ≡ cell → (act (get_or xs k d).op v).0 ≡ cells_past m (take (k + 1) xs) cell
  acted_here e =
      rw past_next
      (ap (λ n. (act (get_or xs k d).op n).0) (so_far ∙ ap (λ a. cells_past m (take k xs) a) (sym e))
      ∙ sym (with_this (cells_past m (take k xs)) _ _ cell e))

  pub acted_elsewhere : ((get_or xs k d).cell ≡ cell → ⊥) → v ≡ cells_past m (take (k + 1) xs) cell
  acted_elsewhere e = rw past_next (so_far ∙ sym (with_other (cells_past m (take k xs)) _ _ cell (λ h. e (sym h))))

-- ---- all cells below an address
given_over_push : (m : Cells) (is : List (ℕ × ℕ)) (a v : ℕ) → given_over m (is ++ (a, v) ∷ []) ≡ with_cell (given_over m is) a v
given_over_push m [] a v = refl
given_over_push m (i ∷ is) a v = given_over_push (with_cell m i.0 i.1) is a v

-- the list has those below this address, and no others
pub record AreHeldBelow (m : Cells) (is : List (ℕ × ℕ)) (n : ℕ) : Type 0 where
  pub below : (a : ℕ) → a < n → given is a ≡ m a
  pub above : (a : ℕ) → n ≤ a → given is a ≡ 0

pub none_held : (m : Cells) → AreHeldBelow m [] 0
none_held m = record { below = λ a h. absurd (omega (arith, h)); above = λ a h. refl }

module _ (m : Cells) (is : List (ℕ × ℕ)) (n : ℕ) (h : AreHeldBelow m is n) where
  pub one_held : (v : ℕ) → v ≡ m n → AreHeldBelow m (is ++ (n, v) ∷ []) (n + 1)
  one_held v e = record {
    below = λ a l.
        rw (given_over_push (λ (b : ℕ). 0) is n v)
        (⊎_elim (λ same. with_this (given is) n v a (sym same) ∙ e ∙ ap m (sym same))
        (λ ne. with_other (given is) n v a ne ∙ h.below a (omega (arith, l, ne))) (cases_eq a n));
    above = λ a l.
        rw (given_over_push (λ (b : ℕ). 0) is n v)
        (with_other (given is) n v a (omega (arith, l)) ∙ h.above a (omega (arith, l)));
  }

  pub zero_held : m n ≡ 0 → AreHeldBelow m is (n + 1)
  zero_held e = record {
    below = λ a l. ⊎_elim (λ same. h.above a (omega (arith, same)) ∙ (sym e ∙ ap m (sym same))) (λ ne. h.below a (omega (arith, l, ne))) (cases_eq a n);
    above = λ a l. h.above a (omega (arith, l));
  }

  pub all_held : ((a : ℕ) → n ≤ a → m a ≡ 0) → given is ≡ m
  all_held beyond = fun_ext (λ a. ⊎_elim (λ l. h.below a l) (λ l. h.above a l ∙ sym (beyond a l)) (cases_lt a n))

-- ---- of a machine
pub beyond_memory : (c : Settings) (m : Machine) → HasShape c m → (a : ℕ) → size c * c.cells ≤ a → cell_value c m a ≡ 0
beyond_memory c m shape a past =
    get_or_past (module_at m (a % size c)).cells (a / size c) 0
    (rw (shape.cells (a % size c) (omega (arith, pow_pos c.stages))) (le-div c.cells a (size c) (pow_pos c.stages) (omega (arith, past))))

pub word_in : (c : Settings) (m : Machine) (a n : ℕ) (unit : ModuleState) (found : Option ℕ) (word : ℕ) → n ≡ size c → unit ≡ module_at m (a % n) → found ≡ slice_get unit.cells (a / n) → word ≡ unwrap_or found 0 → word ≡ cell_value c m a
word_in c m a n unit found word sized in_unit found_is word_is =
    word_is
    ∙ (ap (λ o. unwrap_or o 0) found_is
    ∙ (unwrap_or-slice_get unit.cells (a / n) 0
    ∙ (ap (λ (u : ModuleState). get_or u.cells (a / n) 0) in_unit
    ∙ ap (λ k. get_or (module_at m (a % k)).cells (a / k) 0) sized)))
