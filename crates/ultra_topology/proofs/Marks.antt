-- What is on links once something has been put on one, or taken, and the units to which messages lead then.
use Rattle.std.proofs.Common.{◌≡◌, ◌≢◌, ℕ, Bool, List, true, Option, Some, None, length, replicate, set, get_or, arith, get_or-set_same, get_or-set_other, ◌⊎◌}
use Rattle.ultra_topology.proofs.Common.{length-set, length-replicate, get_or-replicate, get_or_past, set_comm, Ports, has_unit, put_on, AreSameBut, AreTargets, LeadsToNoOther, on_link, ports_in_turn, without_both}

pub length-put_on : {M : Type 0} (t : List (Option M)) (link : ℕ) (o : Option M) → length (put_on t link o) ≡ length t
length-put_on t link o = grind (arith, length-set)

-- ---- tables from which one or two entries were taken
pub emptied : {M : Type 0} (t : List (Option M)) (a : ℕ) → on_link (set t a None) a ≡ None
emptied t a = grind (arith, get_or-set_same, get_or_past, length-set)

-- of some links something was taken
abbrev pub Fewer : {M : Type 0} → List (Option M) → List (Option M) → Type 0
Fewer t now = (link : ℕ) → (on_link now link ≡ on_link t link) ⊎ (on_link now link ≡ None)

pub fewer_set : {M : Type 0} (t : List (Option M)) (a : ℕ) → Fewer t (set t a None)
fewer_set t a link = grind (arith, emptied, get_or-set_other)

pub fewer_both : {M : Type 0} (t : List (Option M)) (a b : ℕ) → Fewer t (set (set t a None) b None)
fewer_both t a b link = grind (arith, fewer_set)

pub emptied_first : {M : Type 0} (t : List (Option M)) (a b : ℕ) → on_link (set (set t a None) b None) a ≡ None
emptied_first t a b = grind (arith, fewer_set, emptied)

pub emptied_in_turn : {M : Type 0} (t : List (Option M)) (p : Ports ℕ) (zero_first : Bool) → p.zero ≢ p.one
    → set (set t (ports_in_turn zero_first p).0 None) (ports_in_turn zero_first p).1 None ≡ without_both t p
emptied_in_turn t p zero_first apart = grind (arith, set_comm)

-- ---- nothing is on links
pub no_entry : {X : Type 0} (xs : List (Option X)) (m n : ℕ) → xs ≡ replicate m None → get_or xs n None ≡ None
no_entry xs m n is = grind (arith, get_or-replicate, get_or_past, length-replicate)

-- ---- the units to which messages lead once one more is put on a link
pub one_more : (inlets : ℕ → Option (Ports ℕ)) (d : ℕ) {M : Type 0} (t : List (Option M)) (targets now : List ℕ) (link unit : ℕ) (m : M) → AreTargets inlets d t targets → LeadsToNoOther inlets d link unit
    → AreSameBut unit targets now → has_unit now unit ≡ true → AreTargets inlets d (set t link (Some m)) now
one_more inlets d t targets now link unit m are lead others there = grind (arith, length-set, get_or-set_other)
