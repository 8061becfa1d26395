-- the parts of an entry at the start of a text, and the text after them
use Rattle.std.specs.Prelude.{ℕ, Bool, not, ◌&&◌, ◌==◌, List, [], ◌∷◌, Option, Some, None, if◌then◌else◌, codes, drop, take, nat_le}
use Rattle.std.specs.List.{position_or_len}
use Rattle.ultra_msg.specs.declared.{Op.{Op, TheVariants.{Load, Store, Faa, Swap}}, Reply.Reply}
use Rattle.ultra_msg.specs.declared.Reply.TheVariants as reply
use Rattle.ultra_serial_law.specs.declared.records.Entry.{Entry}
use Rattle.ultra_io.specs.Decimal.{plain_number}

-- the first part and then the second
abbrev pub read_on : {A B : Type 0} → Option A → (A → Option B) → Option B
read_on None f = None
read_on (Some a) f = f a

-- the second part where the first is there, and otherwise another one
abbrev pub read_or : {A B : Type 0} → Option A → (A → Option B) → Option B → Option B
read_or None f other = other
read_or (Some a) f other = f a

-- the text after these bytes
abbrev pub rest_after : List ℕ → List ℕ → Option (List ℕ)
rest_after [] text = Some text
rest_after (b ∷ bs) [] = None
rest_after (b ∷ bs) (c ∷ cs) = if b == c then rest_after bs cs else None

-- ---- numbers
abbrev pub is_not_digit : ℕ → Bool
is_not_digit b = not (nat_le 48 b && nat_le b 57)

abbrev pub number_at : List ℕ → Option (ℕ × List ℕ)
number_at text =
    let k = position_or_len is_not_digit text in
    read_on (plain_number (take k text)) (λ n. Some (n, drop k text))

abbrev pub numbers_at : List ℕ → Option (ℕ × ℕ × List ℕ)
numbers_at text =
    read_on (number_at text) (λ a. read_on (rest_after (codes " ") a.1) (λ rest.
    read_on (number_at rest) (λ b. Some (a.0, b.0, b.1))))

-- ---- operations with their cells, and replies
abbrev pub load_at : List ℕ → Option (Op × ℕ × List ℕ)
load_at text = read_on (number_at text) (λ a. Some (Load, a.0, a.1))

abbrev pub words_at : (ℕ → Op) → List ℕ → Option (Op × ℕ × List ℕ)
words_at op text = read_on (numbers_at text) (λ a. Some (op a.1, a.0, a.2))

abbrev pub operation_at : List ℕ → Option (Op × ℕ × List ℕ)
operation_at text =
    read_or (rest_after (codes "load ") text) load_at
    (read_or (rest_after (codes "store ") text) (words_at (λ w. Store w))
    (read_or (rest_after (codes "faa ") text) (words_at (λ w. Faa w))
    (read_on (rest_after (codes "swap ") text) (words_at (λ w. Swap w)))))

abbrev pub reply_at : List ℕ → Option (Reply × List ℕ)
reply_at text =
    read_or (rest_after (codes "ack") text) (λ rest. Some (reply.Ack, rest))
    (read_on (number_at text) (λ a. Some (reply.Value a.0, a.1)))

-- ---- a line
-- the text after a line's end
abbrev pub end_at : List ℕ → Option (List ℕ)
end_at [] = Some []
end_at (b ∷ text) =
    read_or (rest_after (10 ∷ []) (b ∷ text)) (λ rest. Some rest)
    (rest_after (13 ∷ 10 ∷ []) (b ∷ text))

abbrev pub entry_at : List ℕ → Option (Entry × List ℕ)
entry_at text =
    read_on (number_at text) (λ pe. read_on (rest_after (codes ".") pe.1) (λ r1.
    read_on (number_at r1) (λ number. read_on (rest_after (codes " ") number.1) (λ r2.
    read_on (operation_at r2) (λ op. read_on (rest_after (codes " = ") op.2) (λ r3.
    read_on (reply_at r3) (λ reply. read_on (end_at reply.1) (λ rest.
    Some (
      record { pe = pe.0; number = number.0; cell = op.1; op = op.0; reply = reply.0 },
      rest,
    )))))))))
