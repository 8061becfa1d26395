-- writing one text after another
use Rattle.std.proofs.Common.{◌≡◌, ℕ, ◌+◌, List, [], ◌++◌, Result, Ok, Err, IsErr, refl, sym, ◌∙◌, ap, append_assoc, append-nil}
use Rattle.ultra_msg.specs.Bytes.{WritesOrFails}
use Rattle.ultra_msg.proofs.Prefixes.{takes_more, takes_behind}

pub writes_nothing : {E : Type 0} (old : List ℕ) (before : ℕ) → WritesOrFails {E = E} (Ok (tt {0})) [] old old before before
writes_nothing old before = record { ok = sym (append-nil old); still = refl; err = tt; counted = tt }

-- the first text was written, and then the second or a prefix of it
pub writes_then : {T U E : Type 0} {x : U} {a b s t u : List ℕ} {k l m : ℕ} (r : Result T E) → WritesOrFails {E = E} (Ok x) a s t k l → WritesOrFails r b t u l m → WritesOrFails r (a ++ b) s u k m
writes_then {a = a} {b = b} {s = s} (Ok y) v w = record {
  ok = w.ok ∙ ap (λ xs. xs ++ b) v.ok ∙ append_assoc s a b;
  still = w.still ∙ v.still;
  err = tt;
  counted = tt;
}
writes_then {a = a} {b = b} {s = s} (Err y) v w = record {
  ok = tt;
  still = tt;
  err = takes_behind a v.ok w.err;
  counted = w.counted ∙ ap (λ n. n + 1) v.still;
}

-- only a prefix of the first text was written
pub writes_failed : {T U E : Type 0} {a s t : List ℕ} {k l : ℕ} {e : E} (b : List ℕ) (r : Result U E) → IsErr r → WritesOrFails {T = T} (Err e) a s t k l → WritesOrFails r (a ++ b) s t k l
writes_failed b (Ok x) bad w = absurd cc
writes_failed b (Err f) bad w = record {
  ok = tt;
  still = tt;
  err = takes_more b w.err;
  counted = w.counted;
}

-- of a whole text all but this rest was written
pub record IsSoFar (E : Type 0) (whole rest old now : List ℕ) (before after : ℕ) : Type 0 where
  pub bytes : List ℕ
  pub parts : bytes ++ rest ≡ whole
  pub wrote : WritesOrFails {E = E} (Ok (tt {0})) bytes old now before after

pub so_far_none : {E : Type 0} (whole old : List ℕ) (before : ℕ) → IsSoFar E whole whole old old before before
so_far_none whole old before = record { bytes = []; parts = refl; wrote = writes_nothing old before }

module _ {E : Type 0} {whole old now new : List ℕ} {before middle after : ℕ} (piece : List ℕ) where
  pub so_far_more : {U : Type 0} {x : U} (rest : List ℕ) → IsSoFar E whole (piece ++ rest) old now before middle → WritesOrFails {E = E} (Ok x) piece now new middle after → IsSoFar E whole rest old new before after
  so_far_more rest m w = record {
    bytes = m.bytes ++ piece;
    parts = append_assoc m.bytes piece rest ∙ m.parts;
    wrote = writes_then (Ok tt) m.wrote record { ok = w.ok; still = w.still; err = tt; counted = tt };
  }

  pub so_far_failed : {T U : Type 0} {e : E} (rest : List ℕ) (r : Result U E) → IsErr r → IsSoFar E whole (piece ++ rest) old now before middle → WritesOrFails {T = T} (Err e) piece now new middle after → WritesOrFails r whole old new before after
  so_far_failed rest r bad m w = rw (← m.parts, ← append_assoc m.bytes piece rest) (writes_failed rest r bad (writes_then (Err _) m.wrote w))

  pub so_far_last : {U : Type 0} (r : Result U E) → IsSoFar E whole piece old now before middle → WritesOrFails r piece now new middle after → WritesOrFails r whole old new before after
  so_far_last r m w = rw (← m.parts) (writes_then r m.wrote w)
