-- the lines of a serial list, in order
use Rattle.std.proofs.Common.{◌≡◌, ◌∙◌, ◌<◌, ◌+◌, ℕ, List, [], ◌∷◌, ◌++◌, take, length, get_or, ap, sym, append-nil}
use Rattle.std.proofs.lemmas.{List.take_more, Grind.flat_map-append}
use Rattle.ultra_msg.specs.Bytes.{IsPrefix}
use Rattle.ultra_serial_law.specs.declared.records.Entry.{Entry}
use Rattle.ultra_list.specs.SerialText.{order_line, order_text}

-- the lines so far, with one more
pub one_more : (es : List Entry) (k : ℕ) (d : Entry) → k < length es → order_text (take k es) ++ order_line (get_or es k d) ≡ order_text (take (k + 1) es)
one_more es k d within =
    sym (ap order_text (take_more es k d within)
    ∙ flat_map-append order_line (take k es) (get_or es k d ∷ [])
    ∙ ap (λ t. order_text (take k es) ++ t) (append-nil (order_line (get_or es k d))))

pub text-append : (es fs : List Entry) → order_text es ++ order_text fs ≡ order_text (es ++ fs)
text-append es fs = sym (flat_map-append order_line es fs)

-- the lines of a first part are a prefix of all lines
pub prefix_of_text : (es fs : List Entry) → IsPrefix es fs → IsPrefix (order_text es) (order_text fs)
prefix_of_text es fs (rest, e) = (order_text rest, text-append es rest ∙ ap order_text e)
