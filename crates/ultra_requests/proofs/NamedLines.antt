-- the lines of a cycle, by the open requests
use Rattle.std.proofs.Common.{ℕ, ◌≡◌, ◌+◌, ◌<◌, List, [], ◌∷◌, ◌++◌, Bool, true, false, length, append-nil, refl, sym, ap, ◌∙◌, subst, arith}
use Rattle.std.specs.Prelude.{Some}
use Rattle.std.specs.List.{flat_map}
use Rattle.std.proofs.lemmas.Bool.Decides.{nat_tests}
use Rattle.ultra_msg.specs.declared.Event.{Event, TheVariants.{Delivered, Served, Combined, Issued}}
use Rattle.ultra_isa.specs.declared.Instr.{Instr}
use Rattle.ultra_model.specs.{Machine.Settings, Phases.after, Trace.by_number}
use Rattle.ultra_serial_law.specs.{declared.records.LoggedIssue.LoggedIssue, Log.{is_issue_for, latest_number}, SerialList.history}
use Rattle.ultra_trace_alone.specs.RunText.{TextPieces, cycles_until, run_text}
use Rattle.ultra_trace_alone.proofs.Count.{nothing_behind}
use Rattle.ultra_latency.specs.{declared.open.OpenRequest.OpenRequest, Latency.{latest_among, latest_issue, no_issue}}
use Rattle.ultra_latency.specs.Open.{open_rows, rows_with, IsOpenIn, IsOpenLaw, NamesOpen, NameOpen}
use Rattle.ultra_requests.specs.{Along.{along, event_line_at, number_in_rows, number_if_open, HaveRows}, EventLines.{event_line, events_of, if_shown, is_shown, lines_of_cycle, open_number, shown_of_cycle}}

-- the number of the latest issue
number_if : (p a : ℕ) (is : List LoggedIssue) (j i : LoggedIssue) (b : Bool) → ((k : LoggedIssue) → latest_number p a is k.number ≡ (latest_among p a is k).number)
    → latest_number p a is (elim b [ true ↦ j.number | false ↦ i.number ]) ≡ (latest_among p a is (elim b [ true ↦ j | false ↦ i ])).number
number_if p a is j i true h = h j
number_if p a is j i false h = h i

pub number_same : (p a : ℕ) (is : List LoggedIssue) (i : LoggedIssue) → latest_number p a is i.number ≡ (latest_among p a is i).number
number_same p a [] i = refl
number_same p a (j ∷ is) i = number_if p a is j i (is_issue_for p a j) (number_same p a is)

module _ (c : Settings) (program : List Instr) (n : ℕ) where
  pub number_latest : (p a : ℕ) → (latest_issue c program p a n).number ≡ open_number c program n p a
  unfolding latest_issue
  number_latest p a = sym (number_same p a (history c program n).log.issues no_issue)

  -- an open request has the number of the definition
  number_is : (rows : List (List OpenRequest)) (p a : ℕ) → IsOpenIn c program n rows p a → number_in_rows rows p a ≡ open_number c program n p a
  number_is rows p a h = ap number_if_open h.1 ∙ number_latest p a

  line_same : (rows : List (List OpenRequest)) (e : Event) → NamesOpen c program n rows e → event_line_at n rows e ≡ event_line (open_number c program n) n e
  line_same rows (Delivered r) h = rw (number_is rows r.pe r.cell h) refl
  line_same rows (Served k r v now) h = rw (number_is rows r.pe r.cell h) refl
  line_same rows (Combined s x a old new first) h = rw (number_is rows old a h.0, number_is rows new a h.1) refl
  line_same rows (Issued r k) h = refl

  pub lines_named : (rows : List (List OpenRequest)) (es : List Event) → NameOpen c program n rows es → along event_line_at n rows es ≡ flat_map (event_line (open_number c program n) n) es
  lines_named rows [] all = refl
  lines_named rows (e ∷ es) all =
      ap (λ text. text ++ along event_line_at n (rows_with n rows e) es) (line_same rows e all.0)
      ∙ ap (λ text. event_line (open_number c program n) n e ++ text) (lines_named (rows_with n rows e) es all.1)

  pub have_named : (rows : List (List OpenRequest)) (es : List Event) → NameOpen c program n rows es → HaveRows n rows es
  have_named rows [] all = tt
  have_named rows (Delivered r ∷ es) all = (all.0.0, have_named (rows_with n rows (Delivered r)) es all.1)
  have_named rows (Served k r v now ∷ es) all = (all.0.0, have_named rows es all.1)
  have_named rows (Combined s x a old new first ∷ es) all = ((all.0.0.0, all.0.1.0), have_named rows es all.1)
  have_named rows (Issued r k ∷ es) all = (tt, have_named (rows_with n rows (Issued r k)) es all.1)

-- of events that are those of the cycle
module _ (c : Settings) (program : List Instr) (n : ℕ) (law : IsOpenLaw c program n) (es : List Event) (is : es ≡ (after c program (n + 1)).events) (rows : List (List OpenRequest)) (are : rows ≡ open_rows c program n) where
  pub have_here : HaveRows n rows es
  have_here = subst (λ r. HaveRows n r es) (sym are) (subst (λ xs. HaveRows n (open_rows c program n) xs) (sym is) (have_named c program n (open_rows c program n) (after c program (n + 1)).events law.named))

  pub lines_here : along event_line_at n rows es ≡ flat_map (event_line (open_number c program n) n) (after c program (n + 1)).events
  lines_here =
      ap (λ r. along event_line_at n r es) are
      ∙ ap (along event_line_at n (open_rows c program n)) is
      ∙ lines_named c program n (open_rows c program n) (after c program (n + 1)).events law.named

-- the lines of the cycles up to the last that is asked for, with nothing before and behind them
hidden : (from to n : ℕ) → to < n → is_shown from to n ≡ false
hidden from to n behind = grind (arith, nat_tests)

abbrev pub event_pieces : ℕ → ℕ → TextPieces
event_pieces from to = record { opening = []; lines = shown_of_cycle from to; closing = λ c program. []; last = Some to }

pub events_are : (from to : ℕ) (c : Settings) (program : List Instr) → run_text (event_pieces from to) c program ≡ events_of from to c program
unfolding run_text events_of
events_are from to c program =
    append-nil (by_number (cycles_until c program to) (shown_of_cycle from to c program))
    ∙ nothing_behind c program to (shown_of_cycle from to c program) (λ k behind. ap (λ shown. if_shown shown (lines_of_cycle c program k)) (hidden from to k behind))
