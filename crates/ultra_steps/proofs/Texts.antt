-- the lines of the cycles up to the last that is asked for, with nothing before and behind them
use Rattle.std.proofs.Common.{ℕ, ◌≡◌, ◌<◌, List, [], false, append-nil, ap, ◌∙◌, arith}
use Rattle.std.proofs.lemmas.Bool.Decides.{nat_tests}
use Rattle.std.specs.Prelude.{Some}
use Rattle.ultra_isa.specs.declared.Instr.{Instr}
use Rattle.ultra_model.specs.{Machine.Settings, Trace.by_number}
use Rattle.ultra_trace_alone.specs.RunText.{TextPieces, cycles_until, run_text}
use Rattle.ultra_trace_alone.proofs.Count.{nothing_behind}
use Rattle.ultra_requests.specs.EventLines.{if_shown, is_shown}
use Rattle.ultra_steps.specs.StepLines.{steps_of_cycle, shown_steps, steps_of}

hidden : (from to n : ℕ) → to < n → is_shown from to n ≡ false
hidden from to n behind = grind (arith, nat_tests)

abbrev pub step_pieces : ℕ → ℕ → TextPieces
step_pieces from to = record { opening = []; lines = shown_steps from to; closing = λ c program. []; last = Some to }

pub steps_are : (from to : ℕ) (c : Settings) (program : List Instr) → run_text (step_pieces from to) c program ≡ steps_of from to c program
unfolding run_text steps_of
steps_are from to c program =
    append-nil (by_number (cycles_until c program to) (shown_steps from to c program))
    ∙ nothing_behind c program to (shown_steps from to c program) (λ k behind. ap (λ shown. if_shown shown (steps_of_cycle c program k)) (hidden from to k behind))
