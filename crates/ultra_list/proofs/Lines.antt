-- the lines of a text, in order
use Rattle.std.proofs.Common.{◌≡◌, ℕ, ◌<◌, List, [], ◌∷◌, ◌++◌, length, None, refl, sym, ap, ◌∙◌, inl, inr, arith, subst, length-append}
use Rattle.std.specs.Prelude.{◌≢◌, true, false, ◌==◌}
use Rattle.std.proofs.lemmas.Bool.{true≢false, eqb-true}
use Rattle.ultra_serial_law.specs.declared.records.Entry.{Entry}
use Rattle.ultra_list.specs.{SerialText.{list_entry_text, BeginsWith, BeginsWithAll, IsListText, IsFirstBadLine}, Reading.entry_at}
use Rattle.ultra_list.proofs.Exact.{some_same, none_some, line_complete}

-- one line more
pub one_more : (text rest next : List ℕ) (es : List Entry) (e : Entry) → BeginsWithAll text es rest → BeginsWith rest e next → BeginsWithAll text (es ++ e ∷ []) next
one_more text rest next [] e h k = (next, subst (λ us. BeginsWith us e next) (sym h) k, refl)
one_more text rest next (f ∷ es) e h k = (h.0, h.1, one_more h.0 rest next es e h.2 k)

-- each line takes a part of the text
pub shorter : (text rest : List ℕ) (e : Entry) → BeginsWith text e rest → 0 < length text → length rest < length text
shorter text rest e (w, inl is) some = let n = ap length is ∙ length-append (list_entry_text e) (10 ∷ rest) in omega (arith, n)
shorter text rest e (w, inr (inl is)) some = let n = ap length is ∙ length-append (list_entry_text e) (13 ∷ 10 ∷ rest) in omega (arith, n)
shorter text rest e (w, inr (inr is)) some = let n = ap length is.1 in omega (arith, n, some)

pub not_empty : (us : List ℕ) → false ≡ (length us == 0) → 0 < length us
not_empty [] e = absurd (true≢false (sym e))
not_empty (u ∷ us) e = omega arith

pub is_empty : (us : List ℕ) → true ≡ (length us == 0) → us ≡ []
is_empty [] e = refl
is_empty (u ∷ us) e = let n = eqb-true (length (u ∷ us)) 0 (sym e) in absurd (omega (arith, n))

pub filled : (us : List ℕ) → 0 < length us → us ≢ []
filled us some e = let n = ap length e in omega (arith, some, n)

pub no_line : (text : List ℕ) → None ≡ entry_at text → (e : Entry) (next : List ℕ) → BeginsWith text e next → ⊥
no_line text none e next h = none_some (e, next) (none ∙ line_complete text next e h)

-- ---- a text is written for one list at most, and then for no refusal
same_line : (text rest next : List ℕ) (e f : Entry) → BeginsWith text e rest → BeginsWith text f next → (e ≡ f) × (rest ≡ next)
same_line text rest next e f a b =
    let both = some_same {A = Entry × List ℕ} (e, rest) (f, next) (sym (line_complete text rest e a) ∙ line_complete text next f b) in
    (ap (λ q. q.0) both, ap (λ q. q.1) both)

empty_text : (e : Entry) (next : List ℕ) → BeginsWith [] e next → ⊥
empty_text e next h = let read = line_complete [] next e h in absurd cc

pub one_list : (text : List ℕ) (es fs : List Entry) → IsListText text es → IsListText text fs → es ≡ fs
one_list text [] [] a b = refl
one_list text [] (f ∷ fs) a b = absurd (empty_text f b.0 (subst (λ us. BeginsWith us f b.0) a b.1))
one_list text (e ∷ es) [] a b = absurd (empty_text e a.0 (subst (λ us. BeginsWith us e a.0) b a.1))
one_list text (e ∷ es) (f ∷ fs) a b =
    let s = same_line text a.0 b.0 e f a.1 b.1 in
    ap (λ d. d ∷ es) s.0 ∙ ap (λ ds. f ∷ ds) (one_list b.0 es fs (subst (λ us. IsListText us es) s.1 a.2) b.2)

refused_after : (text rest : List ℕ) (es before : List Entry) → IsListText text es → BeginsWithAll text before rest → rest ≢ [] → ((e : Entry) (next : List ℕ) → BeginsWith rest e next → ⊥) → ⊥
refused_after text rest [] [] a b more none = more (sym b ∙ a)
refused_after text rest (e ∷ es) [] a b more none = none e a.0 (subst (λ us. BeginsWith us e a.0) b a.1)
refused_after text rest [] (f ∷ before) a b more none = empty_text f b.0 (subst (λ us. BeginsWith us f b.0) a b.1)
refused_after text rest (e ∷ es) (f ∷ before) a b more none =
    let s = same_line text a.0 b.0 e f a.1 b.1 in
    refused_after b.0 rest es before (subst (λ us. IsListText us es) s.1 a.2) b.2 more none

pub never_refused : (text : List ℕ) (es : List Entry) (line : ℕ) → IsListText text es → IsFirstBadLine text line → ⊥
never_refused text es line a b = refused_after text b.rest es b.before a b.read b.more b.none
