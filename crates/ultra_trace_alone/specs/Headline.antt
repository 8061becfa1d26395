-- the headline: what a run that ends well has written, and what explains it
use Rattle.std.specs.Prelude.{◌≡◌, ◌==◌, ℕ, List, ◌++◌, codes, filter, map, nat_eq}
use Rattle.std.specs.List.{slice_split, starts_with}
use Rattle.ultra_isa.specs.declared.Instr.{Instr}
use Rattle.ultra_model.specs.{Machine.Settings, Text.message_text, Trace.{cycle_count, cycles_text, trace as trace_of}}
use Rattle.ultra_serial_law.specs.{Chain.AreChained, Replies.{Delivery, deliveries, AreAllAnswers}}

-- the lines of a text that begin with `got `; byte 10 ends a line
unfoldable pub got_lines_in : List ℕ → List (List ℕ)
got_lines_in text =
    filter (λ line. starts_with nat_eq line (codes "got ")) (slice_split (λ b. b == 10) text)

-- the line of a delivery
abbrev pub delivery_line : Delivery → List ℕ
delivery_line d = codes "got " ++ message_text d.message

pub record AreRepliesShown (c : Settings) (program : List Instr) (written : List ℕ)
    : Type 0 where
  -- the lines of what was written that begin with `got ` are those of all deliveries in the cycles
  -- of the trace, one a line, in their order
  pub shown :
      got_lines_in written ≡ map delivery_line (deliveries c program (cycle_count c program))
  -- so it is after each number of cycles
  pub lines :
      (n : ℕ) → got_lines_in (cycles_text c program n) ≡ map delivery_line (deliveries c program n)
  -- the deliveries are the answers of the log, in the same order, each with its request
  pub answers : AreAllAnswers c program

pub record Headline (c : Settings) (program : List Instr) (written : List ℕ) : Type 0 where
  -- what was written is exactly the trace
  pub trace : written ≡ trace_of c program
  -- the serial lists of the run are a chain of legal lists
  pub chain : AreChained c program
  -- the replies that the trace shows are the answers that these lists explain
  pub replies : AreRepliesShown c program written
