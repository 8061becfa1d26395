-- writing one text after another
use Rattle.std.proofs.Common.{ℕ, ◌≡◌, ◌+◌, ◌⊎◌, inl, inr, List, [], ◌++◌, take, Bool, true, false, refl, sym, ◌∙◌, ap, subst, append_assoc, append-nil}
use Rattle.std.specs.Prelude.{Result, Ok, Err, OnOk, OnErr, IsOk}
use Rattle.ultra_msg.specs.Bytes.{AreTakenOrWait, IsPrefix, TakesPrefix, WritesOrFails as HasGone}
use Rattle.ultra_msg.proofs.Prefixes.{prefix_more, prefix_behind, takes_more, takes_longer, takes_later, none_written, more_waits, both_written}
use Rattle.ultra_io.specs.declared.text_buffer.TextBuffer.{TextBuffer}
use Rattle.ultra_io.specs.TextBuffer.{State, StaysFailed, Wrote, IsBlank, state_at, GoesOn, Writes}

pub either : (b : Bool) → (b ≡ true) ⊎ (b ≡ false)
either true = inl refl
either false = inr refl

-- after the fault it doesn't matter what else was to be written
pub wrote_failed : (a b : List ℕ) (s t : State) → t.failed ≡ true → Wrote a s t → Wrote (a ++ b) s t
wrote_failed a b s t f w = record {
  spent = w.spent;
  whole = λ h. absurd cc;
  prefix = λ g h. (rw (append_assoc s.waiting a b) at (takes_more b (w.prefix g h).0), (w.prefix g h).1);
}

-- nor does it matter what is to be written once there has been one
wrote_spent : (a b : List ℕ) (s t : State) → s.failed ≡ true → Wrote a s t → Wrote b s t
wrote_spent a b s t f w = let failed = (w.spent f).failed in record {
  spent = w.spent;
  whole = λ h. absurd cc;
  prefix = λ g h. absurd cc;
}

pub wrote_nothing : (s : State) → Wrote [] s s
wrote_nothing s = record {
  spent = λ h. record { failed = h; taken = refl; failures = refl };
  whole = λ h. (none_written s.taken s.waiting, refl);
  prefix = λ f h. absurd cc;
}

whole_then : (a b : List ℕ) (s t u : State) → Wrote a s t → Wrote b t u → u.failed ≡ false → AreTakenOrWait (a ++ b) s.taken s.waiting u.taken u.waiting × (u.failures ≡ s.failures)
whole_then a b s t u v w h = elim (either t.failed) [
  | inl e ↦ let failed = (w.spent e).failed in absurd cc
  | inr e ↦ (both_written (v.whole e).0 (w.whole h).0, (w.whole h).1 ∙ (v.whole e).1)
]

prefix_then : (a b : List ℕ) (s t u : State) → Wrote a s t → Wrote b t u → s.failed ≡ false → u.failed ≡ true → TakesPrefix (s.waiting ++ (a ++ b)) s.taken u.taken × (u.failures ≡ s.failures + 1)
prefix_then a b s t u v w f h = elim (either t.failed) [
  | inl e ↦ let p = (wrote_failed a b s t e v).prefix f e in (subst (λ x. TakesPrefix (s.waiting ++ (a ++ b)) s.taken x) (sym (w.spent e).taken) p.0, (w.spent e).failures ∙ p.1)
  | inr e ↦ let p = w.prefix e h in (takes_later b (v.whole e).0 p.0, p.1 ∙ ap (λ n. n + 1) (v.whole e).1)
]

spent_then : (s t u : State) → StaysFailed s t → StaysFailed t u → StaysFailed s u
spent_then s t u v w = record { failed = w.failed; taken = w.taken ∙ v.taken; failures = w.failures ∙ v.failures }

pub wrote_then : (a b : List ℕ) (s t u : State) → Wrote a s t → Wrote b t u → Wrote (a ++ b) s u
wrote_then a b s t u v w = record {
  spent = λ h. spent_then s t u (v.spent h) (w.spent (v.spent h).failed);
  whole = whole_then a b s t u v w;
  prefix = prefix_then a b s t u v w;
}

-- the same of text buffers
module _ {S : Type 0} {taken : S → List ℕ} {failures : S → ℕ} where
  pub writes_nothing : (s : TextBuffer S) → Writes taken failures [] s s
  writes_nothing s = record { same_reference = refl; wrote = wrote_nothing (state_at taken failures s s.filled_bytes.filled) }

  pub writes_failed : {a : List ℕ} (b : List ℕ) {s t : TextBuffer S} → t.failed ≡ true → Writes taken failures a s t → Writes taken failures (a ++ b) s t
  writes_failed {a} b {s} {t} f w = record { same_reference = w.same_reference; wrote = wrote_failed a b _ _ f w.wrote }

  pub writes_spent : {a : List ℕ} (b : List ℕ) {s t : TextBuffer S} → s.failed ≡ true → Writes taken failures a s t → Writes taken failures b s t
  writes_spent {a} b {s} {t} f w = record { same_reference = w.same_reference; wrote = wrote_spent a b _ _ f w.wrote }

  infixl 20 ◌then◌
  pub ◌then◌ : {a b : List ℕ} {s t u : TextBuffer S} {i j k : ℕ} → GoesOn taken failures a s i t j → GoesOn taken failures b t j u k → GoesOn taken failures (a ++ b) s i u k
  ◌then◌ {a} {b} v w = record { same_reference = w.same_reference ∙ v.same_reference; wrote = wrote_then a b _ _ _ v.wrote w.wrote }

  -- the text is the same, and goes as far as another position now
  infixl 20 ◌moved◌
  pub ◌moved◌ : {a : List ℕ} {s t u : TextBuffer S} {i j k : ℕ} → GoesOn taken failures a s i t j → GoesOn taken failures [] t j u k → GoesOn taken failures a s i u k
  ◌moved◌ {a} v w = rw (append-nil a) at (v then w)

-- bytes came to those that wait
wrote_waiting : (b : List ℕ) (s t : State) → t.taken ≡ s.taken → t.failures ≡ s.failures → t.failed ≡ s.failed → t.waiting ≡ s.waiting ++ b → Wrote b s t
wrote_waiting b s t taken failures failed waiting = record {
  spent = λ h. record { failed = failed ∙ h; taken = taken; failures = failures };
  whole = λ h. (let P : List ℕ → List ℕ → Type 0 = λ x y. AreTakenOrWait b s.taken s.waiting x y in subst (λ x. P x t.waiting) (sym taken) (subst (P s.taken) (sym waiting) (more_waits s.taken s.waiting b)), failures);
  prefix = λ f h. absurd cc;
}

module _ {S : Type 0} {taken : S → List ℕ} {failures : S → ℕ} where
  pub came_behind : (b : List ℕ) (s t : TextBuffer S) (i j : ℕ) → t.sink ≡ s.sink → t.failed ≡ s.failed → take j t.filled_bytes.bytes ≡ take i s.filled_bytes.bytes ++ b → GoesOn taken failures b s i t j
  came_behind b s t i j sink failed text = record {
    same_reference = ap (λ r. r.ghost_name) sink;
    wrote = wrote_waiting b _ _ (ap (λ r. taken r.now) sink) (ap (λ r. failures r.now) sink) failed text;
  }

-- what holds on `Ok` holds where the result is `Ok`
pub at_ok : {T E P : Type 0} (r : Result T E) → IsOk r → OnOk r P → P
at_ok (Ok x) ok p = p
at_ok (Err e) ok p = absurd cc

-- on an empty buffer all that was written has been taken where nothing is left, and a prefix of it after a fault
pub all_taken : (bytes : List ℕ) (s t : State) → s.waiting ≡ [] → t.failed ≡ false → t.waiting ≡ [] → Wrote bytes s t → t.taken ≡ s.taken ++ bytes
all_taken bytes s t b g e w =
    let v = (w.whole g).0 in
    v.taken ∙ ap (λ x. s.taken ++ x) (sym (append-nil v.passed_on) ∙ rw (b, e) at v.rest)

pub prefix_taken_then : (bytes : List ℕ) (s t : State) → s.waiting ≡ [] → s.failed ≡ false → t.failed ≡ true → Wrote bytes s t → TakesPrefix bytes s.taken t.taken
prefix_taken_then bytes s t b f g w = rw b at (w.prefix f g).0

-- and where the sink hasn't failed, a prefix of all that begins with what was written
pub part_taken : (part bytes : List ℕ) (s t : State) → s.waiting ≡ [] → t.failed ≡ false → IsPrefix part bytes → Wrote part s t → TakesPrefix bytes s.taken t.taken
part_taken part bytes s t b f begins w =
    let v = (w.whole f).0 in
    takes_longer begins record { part = v.passed_on; begins = (t.waiting, rw b at v.rest); taken = v.taken }

-- a part of the middle, after the first bytes
pub begins_within : (first part middle last : List ℕ) → IsPrefix part middle → IsPrefix (first ++ part) (first ++ (middle ++ last))
begins_within first part middle last is = prefix_behind first part (middle ++ last) (prefix_more part middle last is)

-- a text was written on a blank buffer, and the buffer is finished. The text has gone to the sink,
-- or the sink has failed once and has taken a prefix of it
finished_states : {T E : Type 0} (r : Result T E) (bytes : List ℕ) (s t : State) → s.waiting ≡ [] → s.failed ≡ false → Wrote bytes s t → OnOk r (t.waiting ≡ []) → OnOk r (t.failed ≡ false) → OnErr r (t.failed ≡ true)
    → HasGone r bytes s.taken t.taken s.failures t.failures
finished_states (Ok x) bytes s t empty sound w none_left whole failed = record {
  ok = all_taken bytes s t empty whole none_left w;
  still = (w.whole whole).1;
  err = tt;
  counted = tt;
}
finished_states (Err x) bytes s t empty sound w none_left whole failed = record {
  ok = tt;
  still = tt;
  err = prefix_taken_then bytes s t empty sound failed w;
  counted = (w.prefix sound failed).1;
}

is_empty : {S T E : Type 0} (r : Result T E) (p : TextBuffer S) → OnOk r (IsBlank p) → OnOk r (take p.filled_bytes.filled p.filled_bytes.bytes ≡ [])
is_empty (Ok x) p blank = blank.empty
is_empty (Err x) p blank = tt

is_sound : {S T E : Type 0} (r : Result T E) (p : TextBuffer S) → OnOk r (IsBlank p) → OnOk r (p.failed ≡ false)
is_sound (Ok x) p blank = blank.sound
is_sound (Err x) p blank = tt

module _ {S : Type 0} {taken : S → List ℕ} {failures : S → ℕ} where
  pub finished : {T E : Type 0} (r : Result T E) {bytes : List ℕ} {s t u : TextBuffer S} → IsBlank s → Writes taken failures bytes s t → Writes taken failures [] t u → OnOk r (IsBlank u) → OnErr r (u.failed ≡ true)
      → HasGone r bytes (taken s.sink.now) (taken u.sink.now) (failures s.sink.now) (failures u.sink.now)
  finished r {bytes} {s} {t} {u} blank writes finishes ok err =
      let all = rw (append-nil bytes) at (writes then finishes).wrote in
      finished_states r bytes _ _ blank.empty blank.sound all (is_empty r u ok) (is_sound r u ok) err
