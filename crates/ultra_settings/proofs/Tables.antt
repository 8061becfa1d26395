-- what a table gives
use Rattle.std.proofs.Common.{◌≡◌, ℤ, ◌<◌, ◌≤◌, not, ◌||◌, List, [], ◌∷◌, ◌++◌, length, Option, None, String, Global, string_bytes, refl, ap, arith, option_map}
use Rattle.std.specs.{List.list_any, Map.keys_of}
use Rattle.toml.specs.{declared.value.Value.Value, View.{items_view, members_view}}
use Rattle.ultra_settings.specs.SettingsText.{pair_in, is_key, has_unknown_key}

-- an array that hasn't just two values is no pair
pub too_few_values : (vs : List Value) → length vs < 2 → None ≡ pair_in (items_view vs)
too_few_values [] h = refl
too_few_values (a ∷ []) h = refl
too_few_values (a ∷ b ∷ vs) h = absurd (omega arith)

pub too_many_values : (vs : List Value) → 3 ≤ length vs → None ≡ pair_in (items_view vs)
too_many_values [] h = absurd (omega arith)
too_many_values (a ∷ []) h = absurd (omega arith)
too_many_values (a ∷ b ∷ []) h = absurd (omega arith)
too_many_values (a ∷ b ∷ c ∷ vs) h = refl

pub has_unknown_key-keys : (es : List (String Global × Value)) → has_unknown_key (members_view es) ≡ list_any (λ k. not (is_key (string_bytes k))) (keys_of es)
has_unknown_key-keys [] = refl
has_unknown_key-keys (e ∷ es) = ap (λ b. not (is_key (string_bytes e.0)) || b) (has_unknown_key-keys es)

-- the pairs so far, before those of the rest
abbrev pub after : List (ℤ × ℤ) → Option (List (ℤ × ℤ)) → Option (List (ℤ × ℤ))
after ps o = option_map (λ l. ps ++ l) o
