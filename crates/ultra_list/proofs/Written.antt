-- what is written for a list is read as it
use Rattle.std.proofs.Common.{[], ◌∷◌, refl, append_assoc, inl}
use Rattle.ultra_model.specs.Text.{newline}
use Rattle.ultra_list.specs.SerialText.{list_entry_text, order_text, ListTextLaw}

pub written_is_read : ListTextLaw
written_is_read [] h = refl
written_is_read (e ∷ es) h = (order_text es, (h.0, inl (append_assoc (list_entry_text e) newline (order_text es))), written_is_read es h.1)
