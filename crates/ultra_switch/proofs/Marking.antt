-- requests with the marks of a word
use Rattle.std.proofs.Common.{◌≡◌, ◌≢◌, ℕ, zero, suc, ◌+◌, ◌≤◌, ◌<◌, length, List, [], ◌∷◌, ◌++◌, true, false, refl, arith, ap, sym, ◌∙◌, length-append}
use Rattle.std.proofs.lemmas.List.{length-set}
use Rattle.std.specs.Prelude.{Some, slice_get, slice_set, drop}
use Rattle.ultra_msg.specs.declared.Request.{Request}
use Rattle.ultra_switch.specs.{Arrive.entry, Queues.request_of, Marks.{has_mark, marked_from, marked_by, AreOf}}

pub length-marked_from : (w i : ℕ) (rs : List Request) → length (marked_from w i rs) ≡ length rs
length-marked_from w i [] = refl
length-marked_from w i (r ∷ rs) = ap suc (length-marked_from w (suc i) rs)

pub length-marked_by : (w : ℕ) (rs : List Request) → length (marked_by w rs) ≡ length rs
length-marked_by w rs = length-marked_from w 0 rs

-- words that have the same marks from a place on
same_from : (v w i : ℕ) (rs : List Request) → ((k : ℕ) → i ≤ k → has_mark v k ≡ has_mark w k) → marked_from v i rs ≡ marked_from w i rs
same_from v w i [] same = refl
same_from v w i (r ∷ rs) same = rw (marked_from, same i (omega arith)) (ap (λ es. entry r (has_mark w i) ∷ es) (same_from v w (suc i) rs (λ k after. same k (omega arith))))

-- each mark has moved forward by one place
moved_from : (v w i : ℕ) (rs : List Request) → ((k : ℕ) → has_mark v k ≡ has_mark w (suc k)) → marked_from v i rs ≡ marked_from w (suc i) rs
moved_from v w i [] moved = refl
moved_from v w i (r ∷ rs) moved = rw (marked_from, moved i) (ap (λ es. entry r (has_mark w (suc i)) ∷ es) (moved_from v w (suc i) rs moved))

pub drop-marked_by : (v w : ℕ) (rs : List Request) → ((k : ℕ) → has_mark v k ≡ has_mark w (suc k)) → drop 1 (marked_by w rs) ≡ marked_by v (drop 1 rs)
drop-marked_by v w [] moved = refl
drop-marked_by v w (r ∷ rs) moved = sym (moved_from v w 0 rs moved)

pub are_of-drop : (v w : ℕ) (rs : List Request) → ((k : ℕ) → has_mark v k ≡ has_mark w (suc k)) → AreOf w rs → AreOf v (drop 1 rs)
are_of-drop v w [] moved none k behind = rw (moved k) (none (suc k) (omega arith))
are_of-drop v w (r ∷ rs) moved none k behind = rw (moved k) (none (suc k) (omega arith))

pub head-marked_by : (w : ℕ) (rs : List Request) → request_of (slice_get (marked_by w rs) 0) ≡ slice_get rs 0
head-marked_by w [] = refl
head-marked_by w (r ∷ rs) = refl

get_from : (w i k j : ℕ) (rs : List Request) (r : Request) → j ≡ i + k → slice_get rs k ≡ Some r → slice_get (marked_from w i rs) k ≡ Some (entry r (has_mark w j))
get_from w i k j [] r there found = cc
get_from w i zero j (x ∷ rs) r there found =
    let same : i ≡ j = omega arith in
    let here : x ≡ r = cc in
    rw (here, same) refl
get_from w i (suc k) j (x ∷ rs) r there found = get_from w (suc i) k j rs r (omega arith) found

pub get-marked_by : (w k : ℕ) (rs : List Request) (r : Request) → slice_get rs k ≡ Some r → slice_get (marked_by w rs) k ≡ Some (entry r (has_mark w k))
get-marked_by w k rs r found = get_from w 0 k k rs r (omega arith) found

append_from : (w i : ℕ) (rs : List Request) (r : Request) → ((k : ℕ) → i + length rs ≤ k → has_mark w k ≡ false) → marked_from w i (rs ++ r ∷ []) ≡ marked_from w i rs ++ entry r false ∷ []
append_from w i [] r none = rw (marked_from, none i (omega arith)) refl
append_from w i (x ∷ rs) r none = ap (λ es. entry x (has_mark w i) ∷ es) (append_from w (suc i) rs r (λ k behind. none k (omega arith)))

pub append-marked_by : (w : ℕ) (rs : List Request) (r : Request) → AreOf w rs → marked_by w (rs ++ r ∷ []) ≡ marked_by w rs ++ entry r false ∷ []
append-marked_by w rs r none = append_from w 0 rs r (λ k behind. none k (omega arith))

-- one mark more
set_from : (v w i k j : ℕ) (rs : List Request) (r : Request) → j ≡ i + k → k < length rs → has_mark v j ≡ true → ((n : ℕ) → n ≢ j → has_mark v n ≡ has_mark w n) → marked_from v i (slice_set rs k r) ≡ slice_set (marked_from w i rs) k (entry r true)
set_from v w i k j [] r there within here others = absurd (omega arith)
set_from v w i zero j (x ∷ rs) r there within here others =
    let same : i ≡ j = omega arith in
    rw (marked_from, same, here) (ap (λ es. entry r true ∷ es) (same_from v w (suc j) rs (λ n after. others n (omega arith))))
set_from v w i (suc k) j (x ∷ rs) r there within here others =
    rw (marked_from, others i (omega arith)) (ap (λ es. entry x (has_mark w i) ∷ es) (set_from v w (suc i) k j rs r (omega arith) (omega arith) here others))

pub set-marked_by : (v w k : ℕ) (rs : List Request) (r : Request) → k < length rs → has_mark v k ≡ true → ((n : ℕ) → n ≢ k → has_mark v n ≡ has_mark w n) → marked_by v (slice_set rs k r) ≡ slice_set (marked_by w rs) k (entry r true)
set-marked_by v w k rs r within here others = set_from v w 0 k k rs r (omega arith) within here others

pub are_of-set : (v w k : ℕ) (rs : List Request) (r : Request) → k < length rs → ((n : ℕ) → n ≢ k → has_mark v n ≡ has_mark w n) → AreOf w rs → AreOf v (slice_set rs k r)
are_of-set v w k rs r within others none n behind =
    let long : length rs ≤ n = rw (length-set rs k r) at behind in
    others n (omega arith) ∙ none n long

pub are_of-append : (w : ℕ) (rs : List Request) (r : Request) → AreOf w rs → AreOf w (rs ++ r ∷ [])
are_of-append w rs r none n behind = none n (omega (arith, length-append rs (r ∷ [])))
