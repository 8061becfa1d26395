-- the reader of a line gives an entry exactly where the text begins with one
use Rattle.std.proofs.Common.{◌≡◌, ℕ, ◌+◌, ◌<◌, ◌^◌, ◌⊎◌, Bool, true, false, not, ◌==◌, List, [], ◌∷◌, ◌++◌, length, take, drop, codes, decimal, Option, Some, None, cond, nat_le, refl, sym, ap, ◌∙◌, inl, inr, arith, subst, append_assoc, append-nil}
use Rattle.std.specs.{Prelude.◌≢◌, Int.IsInRange, List.position_or_len, Str.Parse.AllDigits}
use Rattle.std.proofs.{Math.Seq.{take-append_seam, drop-append_seam}, lemmas.{List.take-append-drop, Bool.{and_from, ne_eqb, eq-eqb, eqb-true, le-leb}, Fmt.decimal_is_IsNumeral, Str.Parse.digit_from_value}}
use Rattle.ultra_msg.specs.declared.{Op.{Op, TheVariants.{Load, Store, Faa, Swap}}, Reply.Reply}
use Rattle.ultra_msg.specs.declared.Reply.TheVariants as reply
use Rattle.ultra_model.specs.Text.{reply_text}
use Rattle.ultra_list.specs.Words.{OfWord, GivesWord}
use Rattle.ultra_serial_law.specs.declared.records.Entry.{Entry}
use Rattle.ultra_list.specs.SerialText.{operation_text, list_entry_text, HasWords, BeginsWith}
use Rattle.ultra_list.specs.Reading.{read_on, read_or, rest_after, is_not_digit, number_at, numbers_at, load_at, words_at, operation_at, reply_at, end_at, entry_at}
use Rattle.ultra_io.specs.Decimal.{plain_number}
use Rattle.ultra_io.proofs.Numerals.{plain_number_back, plain_number_text}

-- ---- one part after the other
then_is : {A B : Type 0} (o : Option A) (f : A → Option B) (a : A) (r : Option B) → o ≡ Some a → f a ≡ r → read_on o f ≡ r
then_is o f a r e h = ap (λ p. read_on p f) e ∙ h

then_some : {A B : Type 0} (o : Option A) (f : A → Option B) (b : B) → read_on o f ≡ Some b → (a : A) × (o ≡ Some a) × (f a ≡ Some b)
then_some None f b h = absurd cc
then_some (Some a) f b h = (a, refl, h)

pub some_same : {A : Type 0} (a b : A) → Some a ≡ Some b → a ≡ b
some_same a b e = cc

pub none_some : {A : Type 0} (a : A) → None ≡ Some a → ⊥
none_some a e = absurd cc

-- ---- bytes
pub after_back : (bs rest : List ℕ) → rest_after bs (bs ++ rest) ≡ Some rest
after_back [] rest = refl
after_back (b ∷ bs) rest = ap (λ t. cond t (rest_after bs (bs ++ rest)) None) (eq-eqb b b refl) ∙ after_back bs rest

after_when : (t : Bool) (b c : ℕ) (bs cs rest : List ℕ) → (b == c) ≡ t → cond t (rest_after bs cs) None ≡ Some rest → (rest_after bs cs ≡ Some rest → cs ≡ bs ++ rest) → c ∷ cs ≡ b ∷ (bs ++ rest)
after_when true b c bs cs rest e h more = let same : b ≡ c = eqb-true b c e in ap (λ d. d ∷ cs) (sym same) ∙ ap (λ us. b ∷ us) (more h)
after_when false b c bs cs rest e h more = absurd cc

pub after_sound : (bs text rest : List ℕ) → rest_after bs text ≡ Some rest → text ≡ bs ++ rest
after_sound [] text rest h = let same : text ≡ rest = cc in same
after_sound (b ∷ bs) [] rest h = absurd cc
after_sound (b ∷ bs) (c ∷ cs) rest h = after_when (b == c) b c bs cs rest refl h (λ k. after_sound bs cs rest k)

none_when : (t : Bool) (b c : ℕ) (bs cs : List ℕ) → (b == c) ≡ t → ((rest : List ℕ) → c ∷ cs ≢ b ∷ (bs ++ rest)) → (((rest : List ℕ) → cs ≢ bs ++ rest) → rest_after bs cs ≡ None) → cond t (rest_after bs cs) None ≡ None
none_when true b c bs cs e h more = more (λ rest same. h rest (ap (λ d. d ∷ cs) (sym (eqb-true b c e)) ∙ ap (λ us. b ∷ us) same))
none_when false b c bs cs e h more = refl

pub after_none : (bs text : List ℕ) → ((rest : List ℕ) → text ≢ bs ++ rest) → rest_after bs text ≡ None
after_none [] text h = absurd (h text refl)
after_none (b ∷ bs) [] h = refl
after_none (b ∷ bs) (c ∷ cs) h = none_when (b == c) b c bs cs refl h (after_none bs cs)

-- ---- numbers
-- no digit is at the start
abbrev pub IsApart : List ℕ → Type 0
IsApart [] = Unit {0}
IsApart (c ∷ cs) = is_not_digit c ≡ true

is_digit : (c : ℕ) → IsInRange 48 57 c → not (is_not_digit c) ≡ true
is_digit c h = ap (λ t. not (not t)) (and_from (nat_le 48 c) (nat_le c 57) (le-leb 48 c h.0) (le-leb c 57 h.1))

count_at : (ds rest : List ℕ) → AllDigits 10 ds → IsApart rest → position_or_len is_not_digit (ds ++ rest) ≡ length ds
count_at [] [] d h = refl
count_at [] (c ∷ cs) d h = ap (λ t. cond (not t) (1 + position_or_len is_not_digit cs) 0) h
count_at (c ∷ ds) rest d h =
    ap (λ t. cond t (1 + position_or_len is_not_digit (ds ++ rest)) 0) (is_digit c (digit_from_value c d.0)) ∙ (ap (λ n. 1 + n) (count_at ds rest d.1 h) ∙ omega arith)

pub number_at_back : (n : ℕ) (rest : List ℕ) → n < 2 ^ 32 → IsApart rest → number_at (decimal n ++ rest) ≡ Some (n, rest)
number_at_back n rest small apart =
    let ds = decimal n in
    let text = ds ++ rest in
    let at = count_at ds rest (decimal_is_IsNumeral n (omega arith)).0.1 apart in
    ap (λ k. read_on (plain_number (take k text)) (λ m. Some (m, drop k text))) at
    ∙ (ap (λ w. read_on (plain_number w) (λ m. Some (m, drop (length ds) text))) (take-append_seam ds rest)
    ∙ (ap (λ o. read_on o (λ m. Some (m, drop (length ds) text))) (plain_number_back n small)
    ∙ ap (λ r. Some (n, r)) (drop-append_seam ds rest)))

pub number_at_sound : (text rest : List ℕ) (n : ℕ) → number_at text ≡ Some (n, rest) → (n < 2 ^ 32) × (text ≡ decimal n ++ rest)
number_at_sound text rest n h =
    let k = position_or_len is_not_digit text in
    let p = then_some (plain_number (take k text)) (λ m. Some (m, drop k text)) (n, rest) h in
    let m = p.0 in
    let read = plain_number_text (take k text) m p.1 in
    let pair = some_same {A = ℕ × List ℕ} (m, drop k text) (n, rest) p.2 in
    let same : m ≡ n = ap (λ q. q.0) pair in
    let behind : drop k text ≡ rest = ap (λ q. q.1) pair in
    (omega (arith, same, read.0), sym (take-append-drop k text) ∙ (ap (λ w. w ++ drop k text) (sym read.1) ∙ (ap (λ i. decimal i ++ drop k text) same ∙ ap (λ r. decimal n ++ r) behind)))

numbers_back : (a b : ℕ) (rest : List ℕ) → a < 2 ^ 32 → b < 2 ^ 32 → IsApart rest → numbers_at (decimal a ++ (codes " " ++ (decimal b ++ rest))) ≡ Some (a, b, rest)
numbers_back a b rest low small apart =
    then_is (number_at (decimal a ++ (codes " " ++ (decimal b ++ rest)))) (λ x. read_on (rest_after (codes " ") x.1) (λ r. read_on (number_at r) (λ y. Some (x.0, y.0, y.1)))) (a, codes " " ++ (decimal b ++ rest)) (Some (a, b, rest)) (number_at_back a (codes " " ++ (decimal b ++ rest)) low refl)
    (then_is (number_at (decimal b ++ rest)) (λ y. Some (a, y.0, y.1)) (b, rest) (Some (a, b, rest)) (number_at_back b rest small apart) refl)

numbers_sound : (text rest : List ℕ) (a b : ℕ) → numbers_at text ≡ Some (a, b, rest) → (a < 2 ^ 32) × (b < 2 ^ 32) × (text ≡ decimal a ++ (codes " " ++ (decimal b ++ rest)))
numbers_sound text rest a b h =
    let p = then_some (number_at text) (λ x. read_on (rest_after (codes " ") x.1) (λ r. read_on (number_at r) (λ y. Some (x.0, y.0, y.1)))) (a, b, rest) h in
    let q = then_some (rest_after (codes " ") p.0.1) (λ r. read_on (number_at r) (λ y. Some (p.0.0, y.0, y.1))) (a, b, rest) p.2 in
    let r = then_some (number_at q.0) (λ y. Some (p.0.0, y.0, y.1)) (a, b, rest) q.2 in
    let all = some_same {A = ℕ × ℕ × List ℕ} (p.0.0, r.0.0, r.0.1) (a, b, rest) r.2 in
    let first = number_at_sound text p.0.1 p.0.0 p.1 in
    let second = number_at_sound q.0 r.0.1 r.0.0 r.1 in
    let a_is : p.0.0 ≡ a = ap (λ t. t.0) all in
    let b_is : r.0.0 ≡ b = ap (λ t. t.1) all in
    let rest_is : r.0.1 ≡ rest = ap (λ t. t.2) all in (
      omega (arith, a_is, first.0),
      omega (arith, b_is, second.0),
      first.1 ∙ (ap (λ i. decimal i ++ p.0.1) a_is ∙ ap (λ us. decimal a ++ us) (after_sound (codes " ") p.0.1 q.0 q.1 ∙ ap (λ us. codes " " ++ us) (second.1 ∙ (ap (λ i. decimal i ++ r.0.1) b_is ∙ ap (λ us. decimal b ++ us) rest_is)))),
    )

-- ---- operations
words_back : (op : ℕ → Op) (a w : ℕ) (rest : List ℕ) → a < 2 ^ 32 → w < 2 ^ 32 → IsApart rest → words_at op (decimal a ++ (codes " " ++ (decimal w ++ rest))) ≡ Some (op w, a, rest)
words_back op a w rest low small apart =
    then_is (numbers_at (decimal a ++ (codes " " ++ (decimal w ++ rest)))) (λ x. Some (op x.1, x.0, x.2)) (a, w, rest) (Some (op w, a, rest)) (numbers_back a w rest low small apart) refl

words_spread : (bytes : List ℕ) (a w : ℕ) (rest : List ℕ) → (bytes ++ decimal a ++ codes " " ++ decimal w) ++ rest ≡ bytes ++ (decimal a ++ (codes " " ++ (decimal w ++ rest)))
words_spread bytes a w rest = simp append_assoc

operation_back : (op : Op) (a : ℕ) (rest : List ℕ) → OfWord op → a < 2 ^ 32 → IsApart rest → operation_at (operation_text op a ++ rest) ≡ Some (op, a, rest)
operation_back Load a rest small low apart = ap operation_at (append_assoc (codes "load ") (decimal a) rest) ∙ then_is (number_at (decimal a ++ rest)) (λ x. Some (Load, x.0, x.1)) (a, rest) (Some (Load, a, rest)) (number_at_back a rest low apart) refl
operation_back (Store w) a rest small low apart = ap operation_at (words_spread (codes "store ") a w rest) ∙ words_back (λ w. Store w) a w rest low small apart
operation_back (Faa w) a rest small low apart = ap operation_at (words_spread (codes "faa ") a w rest) ∙ words_back (λ w. Faa w) a w rest low small apart
operation_back (Swap w) a rest small low apart = ap operation_at (words_spread (codes "swap ") a w rest) ∙ words_back (λ w. Swap w) a w rest low small apart

abbrev IsOperation : List ℕ → Op → ℕ → List ℕ → Type 0
IsOperation text op a rest = OfWord op × (a < 2 ^ 32) × (text ≡ operation_text op a ++ rest)

-- ---- replies
no_ack : (ds rest : List ℕ) → AllDigits 10 ds → 0 < length ds → rest_after (codes "ack") (ds ++ rest) ≡ None
no_ack [] rest d some = absurd (omega (arith, some))
no_ack (c ∷ ds) rest d some =
    let range = digit_from_value c d.0 in
    let apart : 97 ≡ c → ⊥ = λ e. omega (arith, e, range.1) in
    ap (λ t. cond t (rest_after (codes "ck") (ds ++ rest)) None) (ne_eqb 97 c apart)

reply_back : (r : Reply) (rest : List ℕ) → GivesWord r → IsApart rest → reply_at (reply_text r ++ rest) ≡ Some (r, rest)
reply_back (reply.Value v) rest small apart =
    let numeral = (decimal_is_IsNumeral v (omega arith)).0 in
    ap (λ o. read_or o (λ us. Some (reply.Ack, us)) (read_on (number_at (decimal v ++ rest)) (λ x. Some (reply.Value x.0, x.1)))) (no_ack (decimal v) rest numeral.1 numeral.0)
    ∙ then_is (number_at (decimal v ++ rest)) (λ x. Some (reply.Value x.0, x.1)) (v, rest) (Some (reply.Value v, rest)) (number_at_back v rest small apart) refl
reply_back reply.Ack rest small apart = refl

-- ---- lines
abbrev entry_then : Entry → List ℕ → List ℕ
entry_then e tail = decimal e.pe ++ (codes "." ++ (decimal e.number ++ (codes " " ++ (operation_text e.op e.cell ++ (codes " = " ++ (reply_text e.reply ++ tail))))))

entry_spread : (e : Entry) (tail : List ℕ) → list_entry_text e ++ tail ≡ entry_then e tail
entry_spread e tail = simp append_assoc

line_back : (e : Entry) (tail rest : List ℕ) → HasWords e → IsApart tail → end_at tail ≡ Some rest → entry_at (entry_then e tail) ≡ Some (e, rest)
line_back e tail rest w apart end =
    let t6 = reply_text e.reply ++ tail in
    let t5 = codes " = " ++ t6 in
    let t4 = operation_text e.op e.cell ++ t5 in
    let t3 = codes " " ++ t4 in
    let t2 = decimal e.number ++ t3 in
    let t1 = codes "." ++ t2 in
    then_is (number_at (decimal e.pe ++ t1)) _ (e.pe, t1) _ (number_at_back e.pe t1 w.pe refl)
    (then_is (number_at t2) _ (e.number, t3) _ (number_at_back e.number t3 w.number refl)
    (then_is (operation_at t4) _ (e.op, e.cell, t5) _ (operation_back e.op e.cell t5 w.op w.cell refl)
    (then_is (reply_at t6) _ (e.reply, tail) _ (reply_back e.reply tail w.reply apart)
    (then_is (end_at tail) _ rest _ end refl))))

-- ---- what is read is written so
read_or_cases : {A B : Type 0} (o : Option A) (f : A → Option B) (other : Option B) (b : B) → read_or o f other ≡ Some b → ((a : A) × (o ≡ Some a) × (f a ≡ Some b)) ⊎ ((o ≡ None) × (other ≡ Some b))
read_or_cases None f other b h = inr (refl, h)
read_or_cases (Some a) f other b h = inl (a, refl, h)

-- a word after a cell
words_sound : (op : ℕ → Op) (text rest : List ℕ) (o : Op) (a : ℕ) → words_at op text ≡ Some (o, a, rest) → (w : ℕ) × (o ≡ op w) × (w < 2 ^ 32) × (a < 2 ^ 32) × (text ≡ decimal a ++ (codes " " ++ (decimal w ++ rest)))
words_sound op text rest o a h =
    let p = then_some (numbers_at text) (λ x. Some (op x.1, x.0, x.2)) (o, a, rest) h in
    let all = some_same {A = Op × ℕ × List ℕ} (op p.0.1, p.0.0, p.0.2) (o, a, rest) p.2 in
    let read = numbers_sound text p.0.2 p.0.0 p.0.1 p.1 in
    let a_is : p.0.0 ≡ a = ap (λ t. t.1) all in
    let rest_is : p.0.2 ≡ rest = ap (λ t. t.2) all in
    let w = p.0.1 in
    (w, sym (ap (λ t. t.0) all), read.1, omega (arith, a_is, read.0), read.2 ∙ (ap (λ i. decimal i ++ (codes " " ++ (decimal w ++ p.0.2))) a_is ∙ ap (λ us. decimal a ++ (codes " " ++ (decimal w ++ us))) rest_is))

load_sound : (text rest : List ℕ) (o : Op) (a : ℕ) → load_at text ≡ Some (o, a, rest) → (o ≡ Load) × (a < 2 ^ 32) × (text ≡ decimal a ++ rest)
load_sound text rest o a h =
    let p = then_some (number_at text) (λ x. Some (Load, x.0, x.1)) (o, a, rest) h in
    let all = some_same {A = Op × ℕ × List ℕ} (Load, p.0.0, p.0.1) (o, a, rest) p.2 in
    let read = number_at_sound text p.0.1 p.0.0 p.1 in
    let a_is : p.0.0 ≡ a = ap (λ t. t.1) all in
    (sym (ap (λ t. t.0) all), omega (arith, a_is, read.0), read.1 ∙ (ap (λ i. decimal i ++ p.0.1) a_is ∙ ap (λ us. decimal a ++ us) (ap (λ t. t.2) all)))

-- the text after the name of an operation
module _ (text rest : List ℕ) (o : Op) (a : ℕ) where
  of_store : (us : List ℕ) → rest_after (codes "store ") text ≡ Some us → words_at (λ w. Store w) us ≡ Some (o, a, rest) → IsOperation text o a rest
  of_store us e h = let p = words_sound (λ w. Store w) us rest o a h in subst (λ q. IsOperation text q a rest) (sym p.1) (p.2, p.3, after_sound (codes "store ") text us e ∙ ap (λ vs. codes "store " ++ vs) p.4 ∙ sym (words_spread (codes "store ") a p.0 rest))

  of_faa : (us : List ℕ) → rest_after (codes "faa ") text ≡ Some us → words_at (λ w. Faa w) us ≡ Some (o, a, rest) → IsOperation text o a rest
  of_faa us e h = let p = words_sound (λ w. Faa w) us rest o a h in subst (λ q. IsOperation text q a rest) (sym p.1) (p.2, p.3, after_sound (codes "faa ") text us e ∙ ap (λ vs. codes "faa " ++ vs) p.4 ∙ sym (words_spread (codes "faa ") a p.0 rest))

  of_swap : (us : List ℕ) → rest_after (codes "swap ") text ≡ Some us → words_at (λ w. Swap w) us ≡ Some (o, a, rest) → IsOperation text o a rest
  of_swap us e h = let p = words_sound (λ w. Swap w) us rest o a h in subst (λ q. IsOperation text q a rest) (sym p.1) (p.2, p.3, after_sound (codes "swap ") text us e ∙ ap (λ vs. codes "swap " ++ vs) p.4 ∙ sym (words_spread (codes "swap ") a p.0 rest))

  of_load : (us : List ℕ) → rest_after (codes "load ") text ≡ Some us → load_at us ≡ Some (o, a, rest) → IsOperation text o a rest
  of_load us e h = let p = load_sound us rest o a h in subst (λ q. IsOperation text q a rest) (sym p.0) (tt, p.1, after_sound (codes "load ") text us e ∙ ap (λ vs. codes "load " ++ vs) p.2 ∙ sym (append_assoc (codes "load ") (decimal a) rest))

  operation_sound : operation_at text ≡ Some (o, a, rest) → IsOperation text o a rest
  operation_sound h = elim (read_or_cases (rest_after (codes "load ") text) load_at _ (o, a, rest) h) [
    | inl p ↦ of_load p.0 p.1 p.2
    | inr p ↦ elim (read_or_cases (rest_after (codes "store ") text) (words_at (λ w. Store w)) _ (o, a, rest) p.1) [
      | inl q ↦ of_store q.0 q.1 q.2
      | inr q ↦ elim (read_or_cases (rest_after (codes "faa ") text) (words_at (λ w. Faa w)) _ (o, a, rest) q.1) [
        | inl r ↦ of_faa r.0 r.1 r.2
        | inr r ↦ let s = then_some (rest_after (codes "swap ") text) (words_at (λ w. Swap w)) (o, a, rest) r.1 in of_swap s.0 s.1 s.2
      ]
    ]
  ]

reply_sound : (text rest : List ℕ) (r : Reply) → reply_at text ≡ Some (r, rest) → GivesWord r × (text ≡ reply_text r ++ rest)
reply_sound text rest r h = elim (read_or_cases (rest_after (codes "ack") text) (λ us. Some (reply.Ack, us)) _ (r, rest) h) [
  | inl p ↦
      let all = some_same {A = Reply × List ℕ} (reply.Ack, p.0) (r, rest) p.2 in
      subst (λ q. GivesWord q × (text ≡ reply_text q ++ rest)) (ap (λ t. t.0) all) (tt, after_sound (codes "ack") text p.0 p.1 ∙ ap (λ us. codes "ack" ++ us) (ap (λ t. t.1) all))
  | inr p ↦
      let q = then_some (number_at text) (λ x. Some (reply.Value x.0, x.1)) (r, rest) p.1 in
      let all = some_same {A = Reply × List ℕ} (reply.Value q.0.0, q.0.1) (r, rest) q.2 in
      let read = number_at_sound text q.0.1 q.0.0 q.1 in
      subst (λ s. GivesWord s × (text ≡ reply_text s ++ rest)) (ap (λ t. t.0) all) (read.0, read.1 ∙ ap (λ us. decimal q.0.0 ++ us) (ap (λ t. t.1) all))
]

abbrev IsEnd : List ℕ → List ℕ → Type 0
IsEnd tail rest = (tail ≡ 10 ∷ rest) ⊎ (tail ≡ 13 ∷ 10 ∷ rest) ⊎ ((tail ≡ []) × (rest ≡ []))

end_sound : (tail rest : List ℕ) → end_at tail ≡ Some rest → IsEnd tail rest
end_sound [] rest h = let none : rest ≡ [] = cc in inr (inr (refl, none))
end_sound (b ∷ us) rest h = elim (read_or_cases (rest_after (10 ∷ []) (b ∷ us)) (λ vs. Some vs) _ rest h) [
  | inl p ↦ let same : p.0 ≡ rest = cc in inl (after_sound (10 ∷ []) (b ∷ us) p.0 p.1 ∙ ap (λ vs. 10 ∷ vs) same)
  | inr p ↦ inr (inl (after_sound (13 ∷ 10 ∷ []) (b ∷ us) rest p.1))
]

end_back : (tail rest : List ℕ) → IsEnd tail rest → (end_at tail ≡ Some rest) × IsApart tail
end_back tail rest (inl e) = subst (λ t. (end_at t ≡ Some rest) × IsApart t) (sym e) (refl, refl)
end_back tail rest (inr (inl e)) = subst (λ t. (end_at t ≡ Some rest) × IsApart t) (sym e) (refl, refl)
end_back tail rest (inr (inr e)) = subst (λ t. (end_at t ≡ Some rest) × IsApart t) (sym e.0) (ap (λ r. Some r) (sym e.1), tt)

-- a line with an entry is read as it
read_back : (e : Entry) (text tail rest : List ℕ) → HasWords e → text ≡ list_entry_text e ++ tail → IsEnd tail rest → entry_at text ≡ Some (e, rest)
read_back e text tail rest w is end = let p = end_back tail rest end in ap entry_at (is ∙ entry_spread e tail) ∙ line_back e tail rest w p.1 p.0

pub line_complete : (text rest : List ℕ) (e : Entry) → BeginsWith text e rest → entry_at text ≡ Some (e, rest)
line_complete text rest e (w, inl is) = read_back e text (10 ∷ rest) rest w is (inl refl)
line_complete text rest e (w, inr (inl is)) = read_back e text (13 ∷ 10 ∷ rest) rest w is (inr (inl refl))
line_complete text rest e (w, inr (inr is)) = read_back e text [] rest w (is.0 ∙ sym (append-nil (list_entry_text e))) (inr (inr (refl, is.1)))

-- and nothing else is
begins_with : (e : Entry) (text tail rest : List ℕ) → HasWords e → text ≡ entry_then e tail → IsEnd tail rest → BeginsWith text e rest
begins_with e text tail rest w is (inl end) = (w, inl (is ∙ sym (entry_spread e tail) ∙ ap (λ us. list_entry_text e ++ us) end))
begins_with e text tail rest w is (inr (inl end)) = (w, inr (inl (is ∙ sym (entry_spread e tail) ∙ ap (λ us. list_entry_text e ++ us) end)))
begins_with e text tail rest w is (inr (inr end)) = (w, inr (inr (is ∙ sym (entry_spread e tail) ∙ ap (λ us. list_entry_text e ++ us) end.0 ∙ append-nil (list_entry_text e), end.1)))

pub line_sound : (text rest : List ℕ) (e : Entry) → entry_at text ≡ Some (e, rest) → BeginsWith text e rest
line_sound text rest e h =
    let p = then_some (number_at text) _ (e, rest) h in
    let d = then_some (rest_after (codes ".") p.0.1) _ (e, rest) p.2 in
    let n = then_some (number_at d.0) _ (e, rest) d.2 in
    let b = then_some (rest_after (codes " ") n.0.1) _ (e, rest) n.2 in
    let o = then_some (operation_at b.0) _ (e, rest) b.2 in
    let s = then_some (rest_after (codes " = ") o.0.2) _ (e, rest) o.2 in
    let r = then_some (reply_at s.0) _ (e, rest) s.2 in
    let t = then_some (end_at r.0.1) _ (e, rest) r.2 in
    let f : Entry = record { pe = p.0.0; number = n.0.0; cell = o.0.1; op = o.0.0; reply = r.0.0 } in
    let all = some_same {A = Entry × List ℕ} (f, t.0) (e, rest) t.2 in
    let pe = number_at_sound text p.0.1 p.0.0 p.1 in
    let number = number_at_sound d.0 n.0.1 n.0.0 n.1 in
    let op = operation_sound b.0 o.0.2 o.0.0 o.0.1 o.1 in
    let reply = reply_sound s.0 r.0.1 r.0.0 r.1 in
    let is : text ≡ entry_then f r.0.1 =
    pe.1 ∙ ap (λ us. decimal p.0.0 ++ us) (after_sound (codes ".") p.0.1 d.0 d.1 ∙ ap (λ us. codes "." ++ us) (number.1 ∙ ap (λ us. decimal n.0.0 ++ us) (after_sound (codes " ") n.0.1 b.0 b.1 ∙ ap (λ us. codes " " ++ us) (op.2 ∙ ap (λ us. operation_text o.0.0 o.0.1 ++ us) (after_sound (codes " = ") o.0.2 s.0 s.1 ∙ ap (λ us. codes " = " ++ us) reply.1))))) in
    let found = begins_with f text r.0.1 t.0 (record { pe = pe.0; number = number.0; cell = op.1; op = op.0; reply = reply.0 }) is (end_sound r.0.1 t.0 t.1) in
    subst (λ q. BeginsWith text q.0 q.1) all found
