-- what is in the lists of the names is in the whole lists, and the other way round
use Rattle.std.proofs.Common.{◌≡◌, ℕ, ◌+◌, ◌<◌, ◌≤◌, ◌⊎◌, List, [], ◌∷◌, ◌++◌, Bool, true, false, length, sym, subst, arith, inl, inr, ⊎_elim}
use Rattle.std.specs.Prelude.{◌≢◌}
use Rattle.std.proofs.lemmas.Bool.Decides.{nat_tests}
use Rattle.ultra_serial.specs.{declared.records_by_name.RecordsByName.RecordsByName, ByPair.{is_pair, with_item, lists_with}, Breach.HasNameOf, Examined.IsListed, RecordsByName.{AreByName, Holds, issues_named, answers_named, entries_named}}
use Rattle.ultra_serial_law.specs.{declared.records.{LoggedIssue.LoggedIssue, LoggedAnswer.LoggedAnswer, Entry.Entry}, Log.Log, Legal.{Has, IsIssueNamed, IsAnswerTo, IsIssueOf}}
use Rattle.ultra_serial_law.proofs.Lists.{get_left}
use Rattle.ultra_serial.proofs.Explaining.{has_push, get_last}

nothing_has : {X : Type 0} (x : X) → Has [] x → ⊥
nothing_has x h = absurd cc

has_left : {X : Type 0} (xs ys : List X) (x : X) → Has xs x → Has (xs ++ ys) x
has_left xs ys x h = (h.0, get_left xs ys h.0 x h.1)

pub pair_same : (p q : ℕ) → is_pair p q p q ≡ true
pair_same p q = grind (arith, nat_tests)

within_with : {X : Type 0} (t : Bool) (us xs : List X) (x y : X) → (Has us y → Has xs y) → Has (with_item t us x) y → Has (xs ++ x ∷ []) y
within_with true us xs x y f h = ⊎_elim (λ old. has_left xs (x ∷ []) y (f old)) (λ same. subst (λ z. Has (xs ++ x ∷ []) z) same (length xs, get_last xs x)) (has_push us x y h)
within_with false us xs x y f h = has_left xs (x ∷ []) y (f h)

old_with : {X : Type 0} (t : Bool) (us : List X) (x y : X) → Has us y → Has (with_item t us x) y
old_with true us x y h = has_left us (x ∷ []) y h
old_with false us x y h = h

new_with : {X : Type 0} (t : Bool) (us : List X) (x : X) → t ≡ true → Has (with_item t us x) x
new_with true us x e = (length us, get_last us x)
new_with false us x e = absurd cc

module _ {X : Type 0} (pe number : X → ℕ) where
  pub none_by_name : (f : ℕ → ℕ → List X) → ((a b : ℕ) → f a b ≡ []) → AreByName pe number f []
  none_by_name f e = record {
    within = λ p n x h. absurd (nothing_has x (subst (λ us. Has us x) (e p n) h));
    all = λ x h. absurd (nothing_has x h);
  }

  module _ (f : ℕ → ℕ → List X) (xs : List X) (h : AreByName pe number f xs) where
    -- one element more
    pub more_by_name : (g : ℕ → ℕ → List X) (x : X) → ((a b : ℕ) → g a b ≡ lists_with f (pe x) (number x) x a b) → AreByName pe number g (xs ++ x ∷ [])
    more_by_name g x e = record {
      within = λ p n y k. within_with (is_pair (pe x) (number x) p n) (f p n) xs x y (h.within p n y) (subst (λ us. Has us y) (e p n) k);
      all = λ y k.
          ⊎_elim (λ old. subst (λ us. Has us y) (sym (e (pe y) (number y))) (old_with (is_pair (pe x) (number x) (pe y) (number y)) (f (pe y) (number y)) x y (h.all y old)))
          (λ same. subst (λ z. Has (g (pe z) (number z)) z) same (subst (λ us. Has us x) (sym (e (pe x) (number x))) (new_with (is_pair (pe x) (number x) (pe x) (number x)) (f (pe x) (number x)) x (pair_same (pe x) (number x))))) (has_push xs x y k);
    }

    -- the list of a name
    module _ (p n : ℕ) (us : List X) (s : us ≡ f p n) where
      in_whole : (x : X) → Has us x → Has xs x
      in_whole x k = h.within p n x (subst (λ vs. Has vs x) s k)

      in_named : (x : X) → pe x ≡ p → number x ≡ n → Has xs x → Has us x
      in_named x a b k = subst (λ vs. Has vs x) (sym s) (subst (λ q. Has (f q n) x) a (subst (λ q. Has (f (pe x) q) x) b (h.all x k)))

-- ---- of an entry
module _ (b : RecordsByName) (log : Log) (before : List Entry) (h : Holds b log before) where
  module _ (e : Entry) where
    module _ (is : List LoggedIssue) (s : is ≡ issues_named b e.pe e.number) where
      whole_issue : (i : LoggedIssue) → Has is i → Has log.issues i
      whole_issue i k = in_whole (λ (i : LoggedIssue). i.pe) (λ (i : LoggedIssue). i.number) (issues_named b) log.issues h.issues e.pe e.number is s i k

      named_issue : (i : LoggedIssue) → IsIssueNamed e i → Has log.issues i → Has is i
      named_issue i t k = in_named (λ (i : LoggedIssue). i.pe) (λ (i : LoggedIssue). i.number) (issues_named b) log.issues h.issues e.pe e.number is s i t.0 t.1 k

      pub issued : ((i : LoggedIssue) × Has is i × IsIssueOf e i) → (i : LoggedIssue) × Has log.issues i × IsIssueOf e i
      issued y = (y.0, whole_issue y.0 y.1, y.2)

      pub not_issued : ((i : LoggedIssue) → Has is i → IsIssueOf e i → ⊥) → (i : LoggedIssue) → Has log.issues i → IsIssueOf e i → ⊥
      not_issued never i k o = never i (named_issue i o.name k) o

      pub all_above : (now : ℕ) → ((i : LoggedIssue) → Has is i → IsIssueNamed e i → i.cycle < now) → (i : LoggedIssue) → Has log.issues i → IsIssueNamed e i → i.cycle < now
      all_above now above i k t = above i (named_issue i t k) t

      pub one_reached : (from now : ℕ) → (now ≡ from) ⊎ ((i : LoggedIssue) × Has is i × IsIssueNamed e i × (i.cycle + 1 ≡ now)) → (now ≡ from) ⊎ ((i : LoggedIssue) × Has log.issues i × IsIssueNamed e i × (i.cycle + 1 ≡ now))
      one_reached from now (inl q) = inl q
      one_reached from now (inr y) = inr (y.0, whole_issue y.0 y.1, y.2, y.3)

    module _ (answers : List LoggedAnswer) (s : answers ≡ answers_named b e.pe e.number) where
      whole_answer : (a : LoggedAnswer) → Has answers a → Has log.answers a
      whole_answer a k = in_whole (λ (a : LoggedAnswer). a.pe) (λ (a : LoggedAnswer). a.number) (answers_named b) log.answers h.answers e.pe e.number answers s a k

      named_answer : (a : LoggedAnswer) → IsAnswerTo e a → Has log.answers a → Has answers a
      named_answer a t k = in_named (λ (a : LoggedAnswer). a.pe) (λ (a : LoggedAnswer). a.number) (answers_named b) log.answers h.answers e.pe e.number answers s a t.0 t.1 k

      pub answered_otherwise : ((a : LoggedAnswer) × Has answers a × IsAnswerTo e a × (a.reply ≢ e.reply)) → (a : LoggedAnswer) × Has log.answers a × IsAnswerTo e a × (a.reply ≢ e.reply)
      answered_otherwise y = (y.0, whole_answer y.0 y.1, y.2, y.3)

      pub agreed : ((a : LoggedAnswer) → Has answers a → IsAnswerTo e a → a.reply ≡ e.reply) → (a : LoggedAnswer) → Has log.answers a → IsAnswerTo e a → a.reply ≡ e.reply
      agreed never a k t = never a (named_answer a t k) t

      pub answered_before : (from : ℕ) → ((a : LoggedAnswer) × Has answers a × IsAnswerTo e a × (a.cycle < from)) → (a : LoggedAnswer) × Has log.answers a × IsAnswerTo e a × (a.cycle < from)
      answered_before from y = (y.0, whole_answer y.0 y.1, y.2, y.3)

      pub in_time : (from : ℕ) → ((a : LoggedAnswer) → Has answers a → IsAnswerTo e a → from ≤ a.cycle) → (a : LoggedAnswer) → Has log.answers a → IsAnswerTo e a → from ≤ a.cycle
      in_time from never a k t = never a (named_answer a t k) t

  -- ---- the entries of a name
  module _ (p n : ℕ) (es : List Entry) (s : es ≡ entries_named b p n) where
    whole_entry : (f : Entry) → Has es f → Has before f
    whole_entry f k = in_whole (λ (f : Entry). f.pe) (λ (f : Entry). f.number) (entries_named b) before h.entries p n es s f k

    named_entry : (f : Entry) → f.pe ≡ p → f.number ≡ n → Has before f → Has es f
    named_entry f x y k = in_named (λ (f : Entry). f.pe) (λ (f : Entry). f.number) (entries_named b) before h.entries p n es s f x y k

  module _ (e : Entry) (es : List Entry) (s : es ≡ entries_named b e.pe e.number) where
    pub repeated : ((f : Entry) × Has es f × HasNameOf f e) → (f : Entry) × Has before f × HasNameOf f e
    repeated y = (y.0, whole_entry e.pe e.number es s y.0 y.1, y.2)

    pub is_new : ((f : Entry) → Has es f → HasNameOf f e → ⊥) → (f : Entry) → Has before f → HasNameOf f e → ⊥
    is_new never f k t = never f (named_entry e.pe e.number es s f t.0 t.1 k) t

  module _ (a : LoggedAnswer) (es : List Entry) (s : es ≡ entries_named b a.pe a.number) where
    pub listed : IsListed es a → IsListed before a
    listed y = (y.0, whole_entry a.pe a.number es s y.0 y.1, y.2)

    pub not_listed : ((e : Entry) → Has es e → IsAnswerTo e a → ⊥) → (e : Entry) → Has before e → IsAnswerTo e a → ⊥
    not_listed never e k t = never e (named_entry a.pe a.number es s e (sym t.0) (sym t.1) k) t
