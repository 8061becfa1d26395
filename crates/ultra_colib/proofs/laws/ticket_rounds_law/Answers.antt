use Rattle.ultra_colib.proofs.TicketRounds.{different, next_is_greater, drawn_by_all, none_twice}
use Rattle.ultra_colib.proofs.laws.ticket_rounds_law.Goals as goal

pub returns : goal.returns
returns c = record { different = different; next = next_is_greater; all_drawn = drawn_by_all; none_twice = λ rounds some few s ranged empty schedule elements more within. none_twice rounds some few s ranged empty schedule elements more within }
