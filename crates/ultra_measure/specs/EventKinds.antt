-- kinds of events
use Rattle.std.specs.Prelude.{ℕ, Bool, true, false, ◌==◌}
use Rattle.ultra_msg.specs.declared.Event.{Event, TheVariants.{Delivered, Served, Combined, Issued}}

abbrev pub is_issue : Event → Bool
is_issue (Issued r n) = true
is_issue e = false

abbrev pub is_delivery : Event → Bool
is_delivery (Delivered r) = true
is_delivery e = false

-- to processing element p
abbrev pub is_delivery_to : ℕ → Event → Bool
is_delivery_to p (Delivered r) = r.pe == p
is_delivery_to p e = false

abbrev pub is_act : Event → Bool
is_act (Served k r v now) = true
is_act e = false

-- a serving of module k
abbrev pub is_act_of : ℕ → Event → Bool
is_act_of k (Served j r v now) = j == k
is_act_of k e = false

abbrev pub is_combination : Event → Bool
is_combination (Combined s x a old new first) = true
is_combination e = false

-- a combination in stage s
abbrev pub is_combination_in : ℕ → Event → Bool
is_combination_in s (Combined t x a old new first) = t == s
is_combination_in s e = false
