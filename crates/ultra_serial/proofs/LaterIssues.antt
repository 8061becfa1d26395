-- the entry that was issued last, with one entry more
use Rattle.std.proofs.Common.{◌≡◌, ℕ, ◌+◌, ◌-◌, ◌<◌, ◌≤◌, ◌⊎◌, List, [], ◌∷◌, ◌++◌, length, sym, ap, subst, ◌∙◌, arith, inl, inr, ⊎_elim, Option, Some, None}
use Rattle.std.specs.Prelude.{slice_get}
use Rattle.std.proofs.lemmas.Option.{slice_get_within}
use Rattle.ultra_serial_law.specs.{declared.records.{LoggedIssue.LoggedIssue, Entry.Entry}, Log.Log, Legal.{Has, IsIssueNamed}}
use Rattle.ultra_serial_law.proofs.Lists.{get_left}
use Rattle.ultra_serial.specs.{LatestIssue.{IsLatestIssue, IsLatestIssueOf, AreIssuesOf, first_cycle_after}, RecordsByName.AreIssuesByName}
use Rattle.ultra_serial.proofs.Explaining.{get_push, has_push, get_last}

module _ (log : Log) (before : List Entry) where
  -- the entries before were issued in earlier cycles
  earlier : (latest : Option (Entry × ℕ)) → IsLatestIssueOf log before latest → (f : Entry) (i : LoggedIssue) → Has before f → Has log.issues i → IsIssueNamed f i → i.cycle < first_cycle_after latest
  earlier None h f i k hi n = absurd (h f i k hi n)
  earlier (Some (x, cycle)) h f i k hi n = omega (arith, h.latest f i k hi n)

  module _ (e : Entry) (is : List LoggedIssue) (own : AreIssuesOf log e is) (now : ℕ) (above : (i : LoggedIssue) → Has is i → IsIssueNamed e i → i.cycle < now) where
    own_above : (f : Entry) (i : LoggedIssue) → e ≡ f → Has log.issues i → IsIssueNamed f i → i.cycle < now
    own_above f i same hi n =
        let named : IsIssueNamed e i = (n.0 ∙ sym (ap (λ (d : Entry). d.pe) same), n.1 ∙ sym (ap (λ (d : Entry). d.number) same)) in
        above i (own.all i hi named) named

    -- the new one was issued after all others
    pub issued_later : (latest : Option (Entry × ℕ)) → IsLatestIssueOf log before latest → first_cycle_after latest < now → (now ≡ first_cycle_after latest) ⊎ ((i : LoggedIssue) × Has is i × IsIssueNamed e i × (i.cycle + 1 ≡ now))
        → IsLatestIssueOf log (before ++ e ∷ []) (Some (e, now - 1))
    issued_later latest h later (inl same) = absurd (omega (arith, later, same))
    issued_later latest h later (inr r) = record {
      index = length before;
      entry = get_last before e;
      issue = r.0;
      issued = own.within r.0 r.1;
      named = r.2;
      in_cycle = omega (arith, r.3);
      latest = λ f i k hi n.
          ⊎_elim (λ old. omega (arith, earlier latest h f i old hi n, later)) (λ same. omega (arith, own_above f i same hi n)) (has_push before e f k);
      first = λ k f i l at hi n.
          ⊎_elim (λ old. omega (arith, earlier latest h f i (k, old.1) hi n, later)) (λ end. absurd (omega (arith, end.0, l))) (get_push before e k f at);
    }

    -- it wasn't
    pub issued_earlier : (latest : Option (Entry × ℕ)) → IsLatestIssueOf log before latest → now ≡ first_cycle_after latest → IsLatestIssueOf log (before ++ e ∷ []) latest
    issued_earlier None h none = λ f i k hi n. ⊎_elim (λ old. h f i old hi n) (λ same. absurd (omega (arith, own_above f i same hi n, none))) (has_push before e f k)
    issued_earlier (Some (x, cycle)) h last = record {
      index = h.index;
      entry = get_left before (e ∷ []) h.index x h.entry;
      issue = h.issue;
      issued = h.issued;
      named = h.named;
      in_cycle = h.in_cycle;
      latest = λ f i k hi n. ⊎_elim (λ old. h.latest f i old hi n) (λ same. omega (arith, own_above f i same hi n, last)) (has_push before e f k);
      first = λ k f i l at hi n.
          ⊎_elim (λ old. h.first k f i l old.1 hi n) (λ end. absurd (omega (arith, end.0, l, slice_get_within before h.index x h.entry))) (get_push before e k f at);
    }

-- those that are kept under an entry's name
pub kept_issues : (lists : ℕ → ℕ → List LoggedIssue) (log : Log) → AreIssuesByName lists log.issues → (e : Entry) (is : List LoggedIssue) → is ≡ lists e.pe e.number → AreIssuesOf log e is
kept_issues lists log h e is s = record {
  within = λ i k. h.within e.pe e.number i (subst (λ us. Has us i) s k);
  all = λ i k n. subst (λ us. Has us i) (sym s) (subst (λ p. Has (lists p e.number) i) n.0 (subst (λ m. Has (lists i.pe m) i) n.1 (h.all i k)));
}
