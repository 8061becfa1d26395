-- what a first breach gives, and that the verdict is `legal` exactly where the list is
use Rattle.std.proofs.Common.{◌≡◌, ℕ, ◌+◌, ◌<◌, ◌≤◌, List, true, length, take, get_or, refl, sym, subst, arith, Some}
use Rattle.std.specs.Prelude.{◌↔◌, slice_get}
use Rattle.std.proofs.lemmas.Option.{slice_get-get_or, slice_get_read, slice_get_within, get_or_from_slice_get}
use Rattle.ultra_msg.specs.declared.Reply.{Reply}
use Rattle.ultra_serial_law.specs.{declared.records.{Entry.Entry, LoggedAnswer.LoggedAnswer, LoggedIssue.LoggedIssue}, Log.Log, Legal.{Cells, Has, IsAnswerTo, IsLegal}}
use Rattle.ultra_serial.specs.{declared.checking.BreachKind.BreachKind, LatestIssue.{IsLatestIssue, IsNoneIssued}}
use Rattle.ultra_serial.specs.declared.checking.BreachKind.TheVariants as kind
use Rattle.ultra_verdict.specs.declared.verdict.Verdict.{Verdict}
use Rattle.ultra_verdict.specs.declared.verdict.Verdict.TheVariants.{Legal, NotIssued, Repeated, WrongReplay, WrongAnswer, TooLate, Missing, WrongCell}
use Rattle.ultra_verdict.specs.Judged.{IsAnsweredOtherwise, IsFirstWrong, IsIssueAnswered, IsMissing, IsWrongLine, IsVerdict, is_legal}

module _ (initial : Cells) (log : Log) (final : Cells) (list : List Entry) where
  pub legal_exactly : (v : Verdict) → IsVerdict initial log final list v → (is_legal v ≡ true) ↔ IsLegal initial log final list
  legal_exactly Legal h = (λ e. h, λ l. refl)
  legal_exactly (NotIssued line e) h = (λ e. absurd cc, λ l. absurd (h.first.1 l))
  legal_exactly (Repeated line e) h = (λ e. absurd cc, λ l. absurd (h.first.1 l))
  legal_exactly (WrongReplay line e reply) h = (λ e. absurd cc, λ l. absurd (h.0.first.1 l))
  legal_exactly (WrongAnswer line e reply) h = (λ e. absurd cc, λ l. absurd (h.0.first.1 l))
  legal_exactly (TooLate line e answered after issued) h = (λ e. absurd cc, λ l. absurd (h.0.first.1 l))
  legal_exactly (Missing e) h = (λ e. absurd cc, λ l. absurd (h.first.1 l))
  legal_exactly (WrongCell cell machine left) h = (λ e. absurd cc, λ l. absurd (h.0.1 l))

  module _ (k : ℕ) (d : Entry) where
    pub wrong_line : (kind : BreachKind) → k < length list → IsFirstWrong initial log final list kind k → IsWrongLine initial log final list kind (k + 1) (get_or list k d)
    wrong_line kind within h = record { index = k; counted = refl; entry = slice_get-get_or list k d within; first = h }

    -- ---- a wrong answer
    module _ (h : IsFirstWrong initial log final list kind.WrongAnswer k) where
      pub wrong_answer_line : IsWrongLine initial log final list kind.WrongAnswer (k + 1) (get_or list k d)
      wrong_answer_line = wrong_line kind.WrongAnswer (slice_get_within list k h.0.wrong.0 h.0.wrong.1) h

      pub answered_otherwise : (reply : Reply) × IsAnsweredOtherwise log.answers (get_or list k d) reply
      answered_otherwise =
          let b = h.0.wrong in
          let w = b.2 in
          subst (λ e. (reply : Reply) × IsAnsweredOtherwise log.answers e reply) (sym (get_or_from_slice_get list k b.0 d b.1))
          (w.0.reply, record { answer = w.0; logged = w.1; named = w.2; same = refl; other = w.3 })

    -- ---- an answer too early
    module _ (h : IsFirstWrong initial log final list kind.TooLate k) where
      pub late_line : IsWrongLine initial log final list kind.TooLate (k + 1) (get_or list k d)
      late_line = wrong_line kind.TooLate (slice_get_within list k h.0.wrong.0 h.0.wrong.1) h

      pub answered_early : (f : Entry) (issued : ℕ) → IsLatestIssue log (take k list) f issued → (a : LoggedAnswer) × Has log.answers a × IsAnswerTo (get_or list k d) a × (a.cycle ≤ issued)
      answered_early f issued late =
          let b = h.0.wrong in
          let w = b.2 in
          subst (λ e. (a : LoggedAnswer) × Has log.answers a × IsAnswerTo e a × (a.cycle ≤ issued)) (sym (get_or_from_slice_get list k b.0 d b.1))
          (w.2, w.6, w.7, omega (arith, w.8, late.latest w.0 w.1 w.3 w.4 w.5))

  module _ (k : ℕ) where
    pub some_issued : IsFirstWrong initial log final list kind.TooLate k → IsNoneIssued log (take k list) → ⊥
    some_issued h none = let w = h.0.wrong.2 in none w.0 w.1 w.3 w.4 w.5

    -- ---- a missing answer
    module _ (h : IsFirstWrong initial log final list kind.Missing k) (x : LoggedAnswer) (read : x ≡ get_or log.answers k x) where
      pub missing_at : slice_get log.answers k ≡ Some x
      missing_at = slice_get_read log.answers (length log.answers) k x refl (slice_get_within log.answers k h.0.wrong.0 h.0.wrong.1) read

      pub missing_request : (i : LoggedIssue) → Has log.issues i → IsIssueAnswered i x → IsMissing initial log final list record { pe = i.pe; number = i.number; cell = i.cell; op = i.op; reply = x.reply }
      missing_request i issued n = record {
        index = k;
        answer = x;
        logged = missing_at;
        named = (sym n.0, sym n.1);
        reply = refl;
        issue = i;
        issued = issued;
        request = record { name = (refl, refl); cell = refl; op = refl };
        first = h;
      }

-- the same run
pub same_verdict : (i j : Cells) (l m : Log) (f g : Cells) (list : List Entry) (v : Verdict) → i ≡ j → l ≡ m → f ≡ g → IsVerdict i l f list v → IsVerdict j m g list v
same_verdict i j l m f g list v a b c h = subst (λ x. IsVerdict x m g list v) a (subst (λ x. IsVerdict i x g list v) b (subst (λ x. IsVerdict i l x list v) c h))
