-- The units of a machine before its first cycle. A module has the initial values; and one block
-- that holds all units is the machine at its start.
use Rattle.std.proofs.Common.{◌≡◌, ◌≢◌, ℕ, ◌+◌, ◌*◌, ◌/◌, ◌%◌, ◌<◌, List, [], ◌∷◌, ◌++◌, true, false, None, length, set, take, get_or, refl, ap, arith, get_or-set_same, get_or-set_other, subst, sym, ◌≤◌, nat_lt, ◌^◌, Some, replicate, ◌==◌, Option}
use Rattle.std.proofs.{Math.Path.fun_ext, lemmas.{Bool.Decides.nat_tests, List.Elements.All-get_or, Nat.{div-mul-add, div_below, mod-mul-add}}}
use Rattle.std.proofs.lemmas.List.{ext_get_or, get_or-replicate, length-replicate, length-set, take_all, take_more, get_or_past}
use Rattle.ultra_model.proofs.{Each.{places_at, length-places}, Sound.sound-start}
use Rattle.ultra_model.specs.{Machine.{given_value, Settings, start}, Places.places, Ranges.AreInRange}
use Rattle.ultra_mem.specs.Serve.{fresh_module}
use Rattle.ultra_block_core.specs.Building.{empty_block}
use Rattle.ultra_cycle_law.proofs.AtFrame.{whole_alike}
use Rattle.ultra_cycle_law.specs.Whole.{empty_switch, whole}
use Rattle.ultra_partition.proofs.Common.{AreAlike, BlockState, Instr, by_kind, frame_of, home, machine_in, module_stands, switch_count, switch_stands, unit_count}
use Rattle.ultra_block.proofs.Seen.{one_lists}
use Rattle.ultra_block.specs.{Fresh.{initial_module, first_module, first_element}, State.MakeUp}

given_more : (values : List (ℕ × ℕ)) (x : ℕ × ℕ) (a v : ℕ) → given_value (values ++ x ∷ []) a v ≡ elim (x.0 == a) [ true ↦ x.1 | false ↦ given_value values a v ]
given_more [] x a v = refl
given_more (y ∷ values) x a v = given_more values x a _

module _ (size m n : ℕ) where
  pub none_filled : fresh_module n ≡ initial_module size m n []
  none_filled = ap (λ cells. record { cells = cells; inp = None; out = None }) (ext_get_or 0 _ _ (grind (arith, length-places, length-replicate)) (λ o inside. grind (arith, places_at, get_or-replicate, length-replicate)))

  -- the next address is of this module and sets its cell, or it is of another and leaves them
  module _ (values : List (ℕ × ℕ)) (i : ℕ) (inside : i < length values) (small : m < size) where
    abbrev x : ℕ × ℕ
    x = get_or values i (0, 0)

    pub filled_here : x.0 % size ≡ m → x.0 < size * n → initial_module size m n (take (i + 1) values) ≡ record (initial_module size m n (take i values)) { cells = set (initial_module size m n (take i values)).cells (x.0 / size) x.1 }
    filled_here here within = rw (take_more values i (0, 0) inside) (ap (λ cells. record { cells = cells; inp = None; out = None }) (ext_get_or 0 _ _ (grind (arith, length-places, length-set))
        (λ o inside. grind (arith, places_at, given_more, nat_tests, div_below, length-places, length-set, get_or-set_same, get_or-set_other, div-mul-add, mod-mul-add))))

    pub filled_past : x.0 % size ≢ m → initial_module size m n (take (i + 1) values) ≡ initial_module size m n (take i values)
    filled_past past = rw (take_more values i (0, 0) inside) (ap (λ cell. record { cells = places n cell; inp = None; out = None }) (fun_ext (λ o. grind (arith, given_more, nat_tests, mod-mul-add))))

pub ruleset fill_steps = (none_filled, filled_here, filled_past, take_all, length-places, div_below, All-get_or)

-- ---- all units in one block
-- the first n of `count` places have their units
pub record IsRow {X : Type 0} (count n : ℕ) (unit : ℕ → X) (places : List (Option X)) : Type 0 where
  pub long : length places ≡ count
  pub has : (k : ℕ) → k < n → get_or places k None ≡ Some (unit k)

pub row_put : {X : Type 0} (count n : ℕ) (unit : ℕ → X) (places : List (Option X)) (x : X) → IsRow count n unit places → n < count → x ≡ unit n → IsRow count (n + 1) unit (set places n (Some x))
row_put count n unit places x row small is = grind (arith, length-set, get_or-set_same, get_or-set_other)

module _ (c : Settings) (program : List Instr) where
  -- the first w switches, m modules and p processing elements have been put into the block
  pub record AreIn (w m p : ℕ) (b : BlockState) : Type 0 where
    pub rest : b ≡ record (empty_block c.stages program) { switches = b.switches; modules = b.modules; elements = b.elements }
    pub switches : IsRow (switch_count c.stages) w (λ k. empty_switch c) b.switches
    pub modules : IsRow (2 ^ c.stages) m (first_module c) b.modules
    pub elements : IsRow (2 ^ c.stages) p (first_element c) b.elements

module _ (c : Settings) (program : List Instr) (range : AreInRange c) (b : BlockState) (all : AreIn c program (switch_count c.stages) (2 ^ c.stages) (2 ^ c.stages) b) where
  -- all are in block 0
  alike : AreAlike c.stages (frame_of c.stages (replicate (unit_count c.stages) 0) (b ∷ [])) (record { switch = λ n. empty_switch c; memory_module = first_module c; element = first_element c; replies = λ l. None; requests = λ l. None })
  alike = grind (arith, get_or-replicate, get_or_past, length-replicate)

  at_start : machine_in c (replicate (unit_count c.stages) 0) 0 (b ∷ []) ≡ start c
  unfolding start whole
  at_start = grind (arith, whole_alike c range _ _ alike 0 [] [], one_lists c.stages (b ∷ []) refl)

  pub is_fresh : MakeUp c program (replicate (unit_count c.stages) 0) 0 (start c) (b ∷ [])
  is_fresh = (grind (arith, at_start, length-replicate, get_or-replicate, get_or_past, by_kind, switch_stands, module_stands, alike, length-places, sound-start c range), at_start)

pub ruleset row_steps = (length-replicate, length-set, get_or-set_same, get_or-set_other)
