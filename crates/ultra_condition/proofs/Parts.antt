-- parts with a word between two, one after the other
use Rattle.std.proofs.Common.{◌≡◌, ◌∙◌, ℕ, zero, suc, ◌+◌, ◌<◌, ◌≤◌, List, length, Option, Some, None, refl, arith}
use Rattle.ultra_condition.specs.{Words.after, Grammar.{Reader, parts_at, parts_between}}

module _ {A B : Type 0} (word : List ℕ) (part : Reader A) (first : A → B) (add : B → A → B) where
  end_at : (n : ℕ) (so_far : B) (text : List ℕ) → after word text ≡ None → parts_at word part add n so_far text ≡ Some (so_far, text)
  end_at zero so_far text e = refl
  end_at (suc n) so_far text e = rw e refl

  none_at : (n : ℕ) (so_far : B) (text rest : List ℕ) → after word text ≡ Some rest → part rest ≡ None → parts_at word part add (suc n) so_far text ≡ None
  none_at n so_far text rest e h = rw (e, h) refl

  more_at : (n : ℕ) (so_far : B) (text rest next : List ℕ) (a : A) → after word text ≡ Some rest → part rest ≡ Some (a, next) → parts_at word part add (suc n) so_far text ≡ parts_at word part add n (add so_far a) next
  more_at n so_far text rest next a e h = rw (e, h) refl

  -- the parts so far are read from the whole, and it is read on from this text
  pub record ReadsOn (whole : Option (B × List ℕ)) (so_far : B) (text : List ℕ) : Type 0 where
    pub most : ℕ
    pub enough : length text ≤ most
    pub same : whole ≡ parts_at word part add most so_far text

  pub reads_first : (text rest : List ℕ) (a : A) → part text ≡ Some (a, rest) → ReadsOn (parts_between word part first add text) (first a) rest
  reads_first text rest a h = record { most = length rest; enough = omega arith; same = rw h refl }

  pub reads_no_first : (text : List ℕ) → part text ≡ None → parts_between word part first add text ≡ None
  reads_no_first text h = rw h refl

  module _ (whole : Option (B × List ℕ)) (so_far : B) (text : List ℕ) where
    pub reads_end : ReadsOn whole so_far text → after word text ≡ None → whole ≡ Some (so_far, text)
    reads_end r e = r.same ∙ end_at r.most so_far text e

    none_with : (n : ℕ) (rest : List ℕ) → length text ≤ n → whole ≡ parts_at word part add n so_far text → after word text ≡ Some rest → length rest < length text → part rest ≡ None → whole ≡ None
    none_with zero rest enough same e less h = absurd (omega arith)
    none_with (suc n) rest enough same e less h = same ∙ none_at n so_far text rest e h

    pub reads_none : (rest : List ℕ) → ReadsOn whole so_far text → after word text ≡ Some rest → length rest < length text → part rest ≡ None → whole ≡ None
    reads_none rest r e less h = none_with r.most rest r.enough r.same e less h

    more_with : (n : ℕ) (rest next : List ℕ) (a : A) → length text ≤ n → whole ≡ parts_at word part add n so_far text → after word text ≡ Some rest → length rest < length text → part rest ≡ Some (a, next) → length next ≤ length rest → ReadsOn whole (add so_far a) next
    more_with zero rest next a enough same e less h within = absurd (omega arith)
    more_with (suc n) rest next a enough same e less h within =
        record { most = n; enough = omega arith; same = same ∙ more_at n so_far text rest next a e h }

    pub reads_more : (rest next : List ℕ) (a : A) → ReadsOn whole so_far text → after word text ≡ Some rest → length rest < length text → part rest ≡ Some (a, next) → length next ≤ length rest → ReadsOn whole (add so_far a) next
    reads_more rest next a r e less h within = more_with r.most rest next a r.enough r.same e less h within
