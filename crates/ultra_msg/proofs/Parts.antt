-- one more part of the bytes was taken
use Rattle.std.proofs.Common.{◌≡◌, ℕ, ◌+◌, ◌-◌, ◌≤◌, List, ◌++◌, take, drop, length, arith, ◌∙◌, append_assoc, length-drop}
use Rattle.std.proofs.Math.Seq.{take-length, take-add}
use Rattle.std.specs.Prelude.{Result, OnErr, Ok, Err}
use Rattle.ultra_msg.specs.Bytes.{TakesPart, TakesPrefix}
use Rattle.ultra_msg.proofs.Prefixes.{prefix_taken}

pub record Taken (start : ℕ) (bytes old new : List ℕ) : Type 0 where
  pub within : start ≤ length bytes
  pub taken : new ≡ old ++ take start bytes

pub taken_more : (n start : ℕ) (bytes old now new : List ℕ) → start ≤ length bytes → now ≡ old ++ take start bytes → TakesPart n (take (length bytes - start) (drop start bytes)) now new → Taken (start + n) bytes old new
taken_more n start bytes old now new h e p =
    let l : length (drop start bytes) ≡ length bytes - start = length-drop start bytes in
    let same : take (length bytes - start) (drop start bytes) ≡ drop start bytes = rw (← l) (take-length (drop start bytes)) in
    let w = rw same at p.within in
    let t = rw same at p.taken in
    record {
      within = omega arith;
      taken = t ∙ rw (e, take-add start n bytes) (append_assoc old (take start bytes) (take n (drop start bytes)));
    }

-- what was taken of the bytes is a prefix of them
pub taken_so_far : (start : ℕ) (bytes old now new : List ℕ) → now ≡ old ++ take start bytes → new ≡ now → TakesPrefix bytes old new
taken_so_far start bytes old now new e h = record { part = take start bytes; begins = prefix_taken start bytes; taken = h ∙ e }

-- what holds anyway holds at an error
pub at_error : {T E P : Type 0} (r : Result T E) → P → OnErr r P
at_error (Ok x) p = tt
at_error (Err e) p = p
