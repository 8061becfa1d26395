-- prefixes of a list, and a sink that took a prefix of some bytes
use Rattle.std.proofs.Common.{◌≡◌, ℕ, List, [], ◌++◌, take, drop, refl, sym, ◌∙◌, ap, subst, append_assoc, append-nil}
use Rattle.std.proofs.lemmas.List.{take-append-drop}
use Rattle.ultra_msg.specs.Bytes.{AreTakenOrWait, IsPrefix, TakesPrefix}

pub prefix_itself : {X : Type 0} (xs : List X) → IsPrefix xs xs
prefix_itself xs = ([], append-nil xs)

pub prefix_more : {X : Type 0} (xs ys zs : List X) → IsPrefix xs ys → IsPrefix xs (ys ++ zs)
prefix_more xs ys zs (rest, e) = (rest ++ zs, sym (append_assoc xs rest zs) ∙ ap (λ t. t ++ zs) e)

pub prefix_then : {X : Type 0} (xs ys zs : List X) → IsPrefix xs ys → IsPrefix ys zs → IsPrefix xs zs
prefix_then xs ys zs (a, e) (b, f) = (a ++ b, sym (append_assoc xs a b) ∙ ap (λ t. t ++ b) e ∙ f)

pub prefix_behind : {X : Type 0} (xs ys zs : List X) → IsPrefix ys zs → IsPrefix (xs ++ ys) (xs ++ zs)
prefix_behind xs ys zs (rest, e) = (rest, append_assoc xs ys rest ∙ ap (λ t. xs ++ t) e)

pub prefix_taken : {X : Type 0} (n : ℕ) (xs : List X) → IsPrefix (take n xs) xs
prefix_taken n xs = (drop n xs, take-append-drop n xs)

-- it took nothing
pub takes_none : (bytes old : List ℕ) → TakesPrefix bytes old old
takes_none bytes old = record { part = []; begins = (bytes, refl); taken = sym (append-nil old) }

-- it took all of it
pub takes_all : {old new : List ℕ} (bytes : List ℕ) → new ≡ old ++ bytes → TakesPrefix bytes old new
takes_all bytes all = record { part = bytes; begins = prefix_itself bytes; taken = all }

-- it took the first bytes of a longer text
pub takes_longer : {bytes whole old new : List ℕ} → IsPrefix bytes whole → TakesPrefix bytes old new → TakesPrefix whole old new
takes_longer {bytes = bytes} {whole = whole} is t = record { part = t.part; begins = prefix_then t.part bytes whole t.begins is; taken = t.taken }

pub takes_more : {bytes old new : List ℕ} (more : List ℕ) → TakesPrefix bytes old new → TakesPrefix (bytes ++ more) old new
takes_more {bytes = bytes} more t = record { part = t.part; begins = prefix_more t.part bytes more t.begins; taken = t.taken }

-- what it had before is a first part of the text
pub takes_behind : {bytes old now new : List ℕ} (first : List ℕ) → now ≡ old ++ first → TakesPrefix bytes now new → TakesPrefix (first ++ bytes) old new
takes_behind {bytes = bytes} {old = old} first had t = record {
  part = first ++ t.part;
  begins = prefix_behind first t.part bytes t.begins;
  taken = t.taken ∙ ap (λ s. s ++ t.part) had ∙ append_assoc old first t.part;
}

-- ---- bytes on their way through a buffer
pub none_written : (old waited : List ℕ) → AreTakenOrWait [] old waited old waited
none_written old waited = record { passed_on = []; taken = sym (append-nil old); rest = sym (append-nil waited) }

pub more_waits : (old waited bytes : List ℕ) → AreTakenOrWait bytes old waited old (waited ++ bytes)
more_waits old waited bytes = record { passed_on = []; taken = sym (append-nil old); rest = refl }

behind : (a b ws wt passed_on : List ℕ) → passed_on ++ wt ≡ ws ++ a → passed_on ++ (wt ++ b) ≡ ws ++ (a ++ b)
behind a b ws wt passed_on rest = sym (append_assoc passed_on wt b) ∙ ap (λ t. t ++ b) rest ∙ append_assoc ws a b

pub both_written : {a b s t u ws wt wu : List ℕ} → AreTakenOrWait a s ws t wt → AreTakenOrWait b t wt u wu → AreTakenOrWait (a ++ b) s ws u wu
both_written {a = a} {b = b} {s = s} {ws = ws} {wt = wt} {wu = wu} v w = record {
  passed_on = v.passed_on ++ w.passed_on;
  taken = w.taken ∙ ap (λ x. x ++ w.passed_on) v.taken ∙ append_assoc s v.passed_on w.passed_on;
  rest = append_assoc v.passed_on w.passed_on wu ∙ ap (λ x. v.passed_on ++ x) w.rest ∙ behind a b ws wt v.passed_on v.rest;
}

-- the first bytes were written, and of those that waited and the next ones the sink took a prefix
pub takes_later : {a s t u ws wt : List ℕ} (b : List ℕ) → AreTakenOrWait a s ws t wt → TakesPrefix (wt ++ b) t u → TakesPrefix (ws ++ (a ++ b)) s u
takes_later {a = a} {s = s} {u = u} {ws = ws} {wt = wt} b v w = subst (λ x. TakesPrefix x s u) (behind a b ws wt v.passed_on v.rest) (takes_behind v.passed_on v.taken w)

-- all that waited, the bytes put behind it too, was handed on, so that nothing waits
pub all_passed_on : {old new : List ℕ} (bytes waited : List ℕ) → new ≡ old ++ (waited ++ bytes) → AreTakenOrWait bytes old waited new []
all_passed_on bytes waited all = record { passed_on = waited ++ bytes; taken = all; rest = append-nil (waited ++ bytes) }

-- bytes were written, some of them waited, and then those were handed on: all of them, or a prefix
pub rest_passed_on : {bytes s t u ws wt : List ℕ} → AreTakenOrWait bytes s ws t wt → u ≡ t ++ wt → u ≡ s ++ (ws ++ bytes)
rest_passed_on {s = s} {wt = wt} v all = all ∙ ap (λ x. x ++ wt) v.taken ∙ append_assoc s v.passed_on wt ∙ ap (λ x. s ++ x) v.rest

pub rest_cut : {bytes s t u ws wt : List ℕ} → AreTakenOrWait bytes s ws t wt → TakesPrefix wt t u → TakesPrefix (ws ++ bytes) s u
rest_cut {s = s} {u = u} v cut = subst (λ x. TakesPrefix x s u) v.rest (takes_behind v.passed_on v.taken cut)
