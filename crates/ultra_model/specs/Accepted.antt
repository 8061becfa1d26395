-- which settings are accepted, in the order in which they are looked at, and what they then are
use Rattle.std.specs.Prelude.{◌≡◌, ℕ, ◌*◌, ◌^◌, ℤ, pos, negsuc, Bool, true, false, not, ◌&&◌, ◌==◌, nat_lt, nat_le, List, [], ◌∷◌, map, codes, Option, Some, None, find, Vec, ◌++◌, ⊤}
use Rattle.std.specs.{List.{list_any, list_all}, declared.alloc.Global.Global}
use Rattle.ultra_model.specs.{Machine.Settings, declared.config.{RawSettings.RawSettings, Field.Field, ConfigFault.{ConfigFault, TheVariants.{NoMemory, BadConfig}}, TheConstants.{MOST_CYCLES, MOST_REPLY_PLACES}}}
use Rattle.ultra_model.specs.declared.config.Field.TheVariants.{Stages, RequestPlaces, ReplyPlaces, WaitPlaces, MostOpen, Cells, Cycles, Initial}
use Rattle.ultra_route.specs.declared.TheConstants.{MOST_STAGES}
use Rattle.ultra_switch.specs.declared.TheConstants.{MOST_REQUEST_PLACES, MOST_WAIT_PLACES}
use Rattle.ultra_mem.specs.declared.TheConstants.{MOST_CELLS}
use Rattle.ultra_pni.specs.declared.TheConstants.{MOST_OPEN}

-- the key as it is written
abbrev pub name_of : Field → List ℕ
name_of Stages = codes "stages"
name_of RequestPlaces = codes "request_places"
name_of ReplyPlaces = codes "reply_places"
name_of WaitPlaces = codes "wait_places"
name_of MostOpen = codes "open"
name_of Cells = codes "cells"
name_of Cycles = codes "cycles"
name_of Initial = codes "initial"

-- a whole number that isn't negative, else 0
abbrev pub natural : ℤ → ℕ
natural (pos n) = n
natural (negsuc n) = 0

-- a number that is given, else 0
abbrev pub number_or_zero : Option ℤ → ℕ
number_or_zero None = 0
number_or_zero (Some z) = natural z

-- whether a number is not negative and below a bound
abbrev pub is_below : ℕ → ℤ → Bool
is_below bound (pos n) = nat_lt n bound
is_below bound (negsuc n) = false

-- whether a number is given, and from the least to the most
abbrev pub is_within : ℕ → ℕ → Option ℤ → Bool
is_within least most None = false
is_within least most (Some (pos n)) = nat_le least n && nat_le n most
is_within least most (Some (negsuc n)) = false

-- whether a pair is the address of one of n cells with a word
abbrev pub is_cell : ℕ → ℤ × ℤ → Bool
is_cell cells i = is_below cells i.0 && is_below (2 ^ 32) i.1

-- an address with its value
abbrev pub initial_cell : ℤ × ℤ → ℕ × ℕ
initial_cell i = (natural i.0, natural i.1)

abbrev pub cells_of : List (ℤ × ℤ) → List (ℕ × ℕ)
cells_of is = map initial_cell is

-- whether an address is given a value
abbrev pub is_given_value : ℕ → List (ℕ × ℕ) → Bool
is_given_value a is = list_any (λ (i : ℕ × ℕ). a == i.0) is

-- whether no address is given two values
abbrev pub are_different : List (ℕ × ℕ) → Bool
are_different [] = true
are_different (i ∷ is) = not (is_given_value i.0 is) && are_different is

-- whether each pair is one of n cells with a word, and no cell occurs twice
abbrev pub are_initial : ℕ → List (ℤ × ℤ) → Bool
are_initial cells is = list_all (is_cell cells) is && are_different (cells_of is)

abbrev pub are_initial_given : ℕ → Option (Vec (ℤ × ℤ) Global) → Bool
are_initial_given cells None = false
are_initial_given cells (Some v) = are_initial cells v.items

abbrev pub initial_of : Option (Vec (ℤ × ℤ) Global) → List (ℕ × ℕ)
initial_of None = []
initial_of (Some v) = cells_of v.items

-- the cells of the whole memory: those of a module for each of the 2^stages modules
abbrev pub all_cells_of : RawSettings → ℕ
all_cells_of r = 2 ^ number_or_zero r.stages * number_or_zero r.cells

-- whether a key has an accepted value
abbrev pub is_good : RawSettings → Field → Bool
is_good r Stages = is_within 1 MOST_STAGES r.stages
is_good r RequestPlaces = is_within 2 MOST_REQUEST_PLACES r.request_places
is_good r ReplyPlaces = is_within 4 MOST_REPLY_PLACES r.reply_places
is_good r WaitPlaces = is_within 0 MOST_WAIT_PLACES r.wait_places
is_good r MostOpen = is_within 1 MOST_OPEN r.most_open
is_good r Cells = is_within 1 MOST_CELLS r.cells
is_good r Cycles = is_within 1 MOST_CYCLES r.cycles
is_good r Initial = are_initial_given (all_cells_of r) r.initial

-- the keys in the order in which they are looked at: these with a single number, and then `initial`
abbrev pub single_number_keys : List Field
single_number_keys =
    Stages ∷ RequestPlaces ∷ ReplyPlaces ∷ WaitPlaces ∷ MostOpen ∷ Cells ∷ Cycles ∷ []

-- the first of some keys whose value isn't accepted
abbrev pub first_bad_of : RawSettings → List Field → Option Field
first_bad_of r fs = find (λ f. not (is_good r f)) fs

abbrev pub first_bad : RawSettings → Option Field
first_bad r = first_bad_of r (single_number_keys ++ Initial ∷ [])

-- the settings, once they are accepted
abbrev pub settings_of : RawSettings → Settings
settings_of r = record {
  stages = number_or_zero r.stages;
  request_places = number_or_zero r.request_places;
  reply_places = number_or_zero r.reply_places;
  wait_places = number_or_zero r.wait_places;
  most_open = number_or_zero r.most_open;
  cells = number_or_zero r.cells;
  cycles = number_or_zero r.cycles;
  initial = initial_of r.initial;
}

-- the fault names the first bad key. `NoMemory` comes only where all keys with a single number are
-- accepted
abbrev pub ExplainsConfigFault : RawSettings → ConfigFault → Type 0
ExplainsConfigFault r NoMemory = first_bad_of r single_number_keys ≡ None
ExplainsConfigFault r (BadConfig f) = first_bad r ≡ Some f

-- the same for the initial cells alone
abbrev pub ExplainsInitial : ℕ → List (ℤ × ℤ) → ConfigFault → Type 0
ExplainsInitial cells is NoMemory = ⊤
ExplainsInitial cells is (BadConfig f) = (f ≡ Initial) × (are_initial cells is ≡ false)
