-- what the text of some settings gives: the keys, the kinds of their values and their defaults are
-- this project's profile
use Rattle.std.specs.Prelude.{◌≡◌, ℕ, ℤ, pos, Bool, true, false, not, ◌||◌, List, ◌++◌, [], ◌∷◌, bytes_eq, option_map, option_and_then, Option, Some, None, IsSomeAnd, ⊤}
use Rattle.std.specs.{List.list_any, Str.IsUtf8}
use Rattle.toml.specs.Data.{Data, Items, no_items, item, Members, no_members, member, get_member, as_integer, as_array}
use Rattle.toml.specs.Parse.{parse_document}
use Rattle.ultra_model.specs.{declared.config.{RawSettings.RawSettings, Field.Field}, Accepted.{name_of, single_number_keys, first_bad}}
use Rattle.ultra_model.specs.declared.config.Field.TheVariants.{Stages, RequestPlaces, ReplyPlaces, WaitPlaces, MostOpen, Cells, Cycles, Initial}
use Rattle.ultra_settings.specs.declared.settings.SettingsFault.{SettingsFault, TheVariants.{NoMemory, NotToml, BadField, UnknownKey}}

-- all keys
abbrev pub fields : List Field
fields = single_number_keys ++ Initial ∷ []

-- the integer of a value, or the default where there is no value
abbrev pub integer_or : Option ℤ → Option Data → Option ℤ
integer_or default None = default
integer_or default (Some d) = as_integer d

abbrev pub given_integer : Members → Field → Option ℤ → Option ℤ
given_integer ms f default = integer_or default (get_member (name_of f) ms)

-- an array of two integers
abbrev pub both : Option ℤ → Option ℤ → Option (ℤ × ℤ)
both None b = None
both (Some a) None = None
both (Some a) (Some b) = Some (a, b)

abbrev pub pair_in : Items → Option (ℤ × ℤ)
pair_in no_items = None
pair_in (item a no_items) = None
pair_in (item a (item b no_items)) = both (as_integer a) (as_integer b)
pair_in (item a (item b (item c ds))) = None

abbrev pub integer_pair : Data → Option (ℤ × ℤ)
integer_pair d = option_and_then pair_in (as_array d)

-- an array of such arrays
abbrev pub onto : Option (ℤ × ℤ) → Option (List (ℤ × ℤ)) → Option (List (ℤ × ℤ))
onto None ps = None
onto (Some p) ps = option_map (λ l. p ∷ l) ps

abbrev pub pairs_in : Items → Option (List (ℤ × ℤ))
pairs_in no_items = Some []
pairs_in (item d ds) = onto (integer_pair d) (pairs_in ds)

abbrev pub pairs_or_none : Option Data → Option (List (ℤ × ℤ))
pairs_or_none None = Some []
pairs_or_none (Some d) = option_and_then pairs_in (as_array d)

abbrev pub given_initial : Members → Option (List (ℤ × ℤ))
given_initial ms = pairs_or_none (get_member (name_of Initial) ms)

-- the settings of a table, with the defaults of the keys that are absent
pub record IsGiven (ms : Members) (r : RawSettings) : Type 0 where
  pub stages : r.stages ≡ given_integer ms Stages None
  pub request_places : r.request_places ≡ given_integer ms RequestPlaces (Some (pos 4))
  pub reply_places : r.reply_places ≡ given_integer ms ReplyPlaces (Some (pos 8))
  pub wait_places : r.wait_places ≡ given_integer ms WaitPlaces (Some (pos 4))
  pub most_open : r.most_open ≡ given_integer ms MostOpen (Some (pos 2))
  pub cells : r.cells ≡ given_integer ms Cells (Some (pos 16))
  pub cycles : r.cycles ≡ given_integer ms Cycles (Some (pos 1000))
  pub initial : option_map (λ v. v.items) r.initial ≡ given_initial ms

-- whether a text is the key of a setting, and whether a table has another key
abbrev pub is_key : List ℕ → Bool
is_key k = list_any (λ f. bytes_eq (name_of f) k) fields

abbrev pub has_unknown_key : Members → Bool
has_unknown_key no_members = false
has_unknown_key (member k d ms) = not (is_key k) || has_unknown_key ms

-- the settings that a text gives, and whether it has another key
abbrev pub Gives : List ℕ → RawSettings → Bool → Type 0
Gives text r unknown =
    IsUtf8 text
    × IsSomeAnd (parse_document text) (λ ms. IsGiven ms r × (unknown ≡ has_unknown_key ms))

-- why a text gives no settings. Keys are looked at in their order, and unknown keys last
abbrev pub ExplainsSettingsFault : List ℕ → SettingsFault → Type 0
ExplainsSettingsFault text NoMemory = ⊤
ExplainsSettingsFault text NotToml = IsUtf8 text → parse_document text ≡ None
ExplainsSettingsFault text (BadField f) =
    (r : RawSettings) × (unknown : Bool) × Gives text r unknown × (first_bad r ≡ Some f)
ExplainsSettingsFault text UnknownKey = (r : RawSettings) × Gives text r true × (first_bad r ≡ None)
