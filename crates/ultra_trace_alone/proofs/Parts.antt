-- the whole trace is a part of itself
use Rattle.std.proofs.Common.{ℕ, zero, suc, ◌≡◌, ◌+◌, ◌≤◌, ◌<◌, List, ◌++◌, Bool, refl, ap, subst, arith}
use Rattle.std.specs.{List.{find, range_with_len}, Option.unwrap_or}
use Rattle.std.proofs.lemmas.Bool.Decides.{nat_tests}
use Rattle.ultra_isa.specs.declared.Instr.{Instr}
use Rattle.ultra_model.specs.{Machine.{Settings, is_quiet}, Phases.after}
use Rattle.ultra_model.specs.Trace.{all_cycles_text, by_number, cycle_count, cycle_text, first_line, trace}
use Rattle.ultra_trace_alone.specs.Part.{part_lines, part_of, trace_end, whole_trace}
use Rattle.ultra_trace_text.proofs.Numbered.{by_number_more}

by_number_same : (n : ℕ) (f g : ℕ → List ℕ) → ((k : ℕ) → k < n → f k ≡ g k) → by_number n f ≡ by_number n g
by_number_same zero f g h = refl
by_number_same (suc n) f g h =
    let rest : by_number n f ≡ by_number n g = by_number_same n f g (λ k small. h k (omega arith)) in
    let here : f n ≡ g n = h n (omega arith) in
    let next : n + 1 ≡ suc n = omega arith in
    subst (λ k. by_number k f ≡ by_number k g) next (rw (by_number_more n f, by_number_more n g, rest, here) refl)

found_within : (test : ℕ → Bool) (a n b : ℕ) → a + n ≤ b + 1 → unwrap_or (find test (range_with_len a n)) b ≤ b
found_within test a zero b h = omega arith
found_within test a (suc n) b h = let rest = found_within test (a + 1) n b in grind arith

module _ (c : Settings) (program : List Instr) where
  pub count_within : cycle_count c program ≤ c.cycles
  unfolding cycle_count
  count_within = found_within (λ n. is_quiet (after c program n)) 1 c.cycles c.cycles (omega arith)

  lines_of_cycle : (k : ℕ) → k ≤ 1000000 → part_lines whole_trace c program k ≡ cycle_text c (after c program (k + 1))
  lines_of_cycle k small = grind (arith, nat_tests)

  pub whole_part : c.cycles ≤ 1000000 → part_of whole_trace c program ≡ trace c program
  unfolding part_of trace all_cycles_text
  whole_part most =
      let same = by_number_same (cycle_count c program) (part_lines whole_trace c program) (λ k. cycle_text c (after c program (k + 1))) (λ k below. lines_of_cycle k (omega (arith, count_within))) in
      ap (λ text. first_line ++ text ++ trace_end c program) same
