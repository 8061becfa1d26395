-- the lines of a trace that begin with `got ` are those of its deliveries
use Rattle.std.proofs.Common.{◌≡◌, ◌==◌, ℕ, zero, suc, ◌+◌, ◌-◌, ◌*◌, ◌/◌, ◌%◌, ◌<◌, Bool, true, false, not, nat_eq, nat_lt, List, [], ◌∷◌, ◌++◌, codes, decimal, map, filter, refl, sym, ◌∙◌, ap, arith, append_assoc, append-nil, slice_index, inl, inr}
use Rattle.std.specs.Fmt.{digit_glyph, digits, digits_onto}
use Rattle.std.specs.List.{flat_map, list_all, onto_first, range_with_len, slice_split, starts_with}
use Rattle.std.proofs.lemmas.Bool.{and_from, and_parts, cases_Bool, cond-false, cond-true, ne_eqb, lt-ltb}
use Rattle.std.proofs.lemmas.List.{map-append, Folds.list_all-append}
use Rattle.ultra_msg.specs.declared.{Event.{Event, TheVariants.{Delivered, Served, Combined, Issued}}, Op.{Op, TheVariants.{Load, Store, Faa, Swap}}, Request.Request, Reply.Reply, ReplyMessage.ReplyMessage, Give.Give}
use Rattle.ultra_msg.specs.declared.Reply.TheVariants as reply
use Rattle.ultra_msg.specs.declared.Give.TheVariants as give
use Rattle.ultra_isa.specs.{declared.{Instr.Instr, MachineFault.{MachineFault, TheVariants.{AddressOutOfRange, PastEnd}}, Activity.{Activity, TheVariants.{Running, Halted, Faulted}}}, Step.Core}
use Rattle.ultra_model.specs.{declared.Stop.Stop, Machine.{Settings, Machine, size, is_quiet}, Phases.after}
use Rattle.ultra_model.specs.Text.{newline, op_text, request_text, mark_text, entry_text, reply_text, message_text, give_text, record_text, fault_text, activity_text, comma_separated}
use Rattle.ultra_model.specs.Trace.{got_line, act_line, fault_line, place_line, held, unit_name, stage_name, by_number, by_stage, inp_line, pni_lines, req_lines, wait_lines, inp_lines, out_lines, rep_lines, state_text, cycle_text, ending_text, unless_zero, cell_line, cell_lines, register_text, registers_text, pe_line, pe_lines, end_text, cycle_count, cycles_text, all_cycles_text, last_state, trace}
use Rattle.ultra_trace_text.proofs.Numbered.{by_number_more}
use Rattle.ultra_serial_law.specs.Replies.{deliveries_in, deliveries}
use Rattle.ultra_trace_alone.specs.Headline.{got_lines_in, delivery_line}

-- ---- texts within a line
abbrev is_end : ℕ → Bool
is_end b = b == 10

abbrev is_inner : ℕ → Bool
is_inner b = not (is_end b)

abbrev is_within : List ℕ → Bool
is_within text = list_all is_inner text

not_true : (b : Bool) → not b ≡ true → b ≡ false
not_true true h = absurd cc
not_true false h = refl

digit_inner : (d : ℕ) → d < 10 → is_inner (digit_glyph false d) ≡ true
digit_inner d small =
    let glyph : digit_glyph false d ≡ 48 + d = cond-true (nat_lt d 10) (48 + d) (87 + d) (lt-ltb d 10 small) in
    rw glyph (ap not (ne_eqb (48 + d) 10 (λ e. omega arith)))

digits_within : (k n : ℕ) (acc : List ℕ) → is_within acc ≡ true → is_within (digits_onto k 10 false n acc) ≡ true
digits_within zero n acc h = h
digits_within (suc k) n acc h =
    let digit : ℕ = digit_glyph false (n % 10) in
    let more : is_within (digit ∷ acc) ≡ true = and_from (is_inner digit) (is_within acc) (digit_inner (n % 10) (omega arith)) h in
    elim (cases_Bool (n / 10 == 0)) [
      | inl t ↦ ap is_within (cond-true (n / 10 == 0) (digit ∷ acc) (digits_onto k 10 false (n / 10) (digit ∷ acc)) t) ∙ more
      | inr f ↦ ap is_within (cond-false (n / 10 == 0) (digit ∷ acc) (digits_onto k 10 false (n / 10) (digit ∷ acc)) f) ∙ digits_within k (n / 10) (digit ∷ acc) more
    ]

decimal_within : (n : ℕ) → is_within (decimal n) ≡ true
unfolding digits
decimal_within n = digits_within 64 n [] refl

joined : (a b : List ℕ) → is_within a ≡ true → is_within b ≡ true → is_within (a ++ b) ≡ true
joined a b p q = list_all-append is_inner a b ∙ and_from (is_within a) (is_within b) p q

-- ---- which lines a text shows, whatever comes behind it
record Shows (text : List ℕ) (lines : List (List ℕ)) : Type 0 where
  all : (rest : List ℕ) → got_lines_in (text ++ rest) ≡ lines ++ got_lines_in rest

nothing : Shows [] []
nothing = record { all = λ rest. refl }

both : {a b : List ℕ} {ls ms : List (List ℕ)} → Shows a ls → Shows b ms → Shows (a ++ b) (ls ++ ms)
both {a} {b} {ls} {ms} p q = record {
  all = λ rest. ap got_lines_in (append_assoc a b rest) ∙ p.all (b ++ rest) ∙ ap (λ shown. ls ++ shown) (q.all rest) ∙ sym (append_assoc ls ms (got_lines_in rest));
}

as_shown : {a b : List ℕ} {ls ms : List (List ℕ)} → Shows a ls → a ≡ b → ls ≡ ms → Shows b ms
as_shown h e f = record { all = λ rest. ap (λ t. got_lines_in (t ++ rest)) (sym e) ∙ h.all rest ∙ ap (λ shown. shown ++ got_lines_in rest) f }

head_inner : (b : ℕ) (l : List ℕ) → is_within (b ∷ l) ≡ true → (is_end b ≡ false) × (is_within l ≡ true)
head_inner b l h = let p = and_parts (is_inner b) (is_within l) h in (not_true (is_end b) p.0, p.1)

line_off : (l rest : List ℕ) → is_within l ≡ true → slice_split is_end (l ++ newline ++ rest) ≡ l ∷ slice_split is_end rest
line_off [] rest h = refl
line_off (b ∷ l) rest h =
    let p = head_inner b l h in
    let parts : List (List ℕ) = slice_split is_end (l ++ newline ++ rest) in
    cond-false (is_end b) ([] ∷ parts) (onto_first b parts) p.0 ∙ ap (onto_first b) (line_off l rest p.1)

abbrev is_got : List ℕ → Bool
is_got line = starts_with nat_eq line (codes "got ")

other_line : (l : List ℕ) → is_within l ≡ true → is_got l ≡ false → Shows (l ++ newline) []
unfolding got_lines_in
other_line l within other = record {
  all = λ rest. ap (filter is_got) (line_off l rest within) ∙ cond-false (is_got l) (l ∷ filter is_got (slice_split is_end rest)) (filter is_got (slice_split is_end rest)) other;
}

shown_line : (l : List ℕ) → is_within l ≡ true → is_got l ≡ true → Shows (l ++ newline) (l ∷ [])
unfolding got_lines_in
shown_line l within got = record {
  all = λ rest. ap (filter is_got) (line_off l rest within) ∙ cond-true (is_got l) (l ∷ filter is_got (slice_split is_end rest)) (filter is_got (slice_split is_end rest)) got;
}

none_of : {X : Type 0} (f : X → List ℕ) → ((x : X) → Shows (f x) []) → (xs : List X) → Shows (flat_map f xs) []
none_of f h [] = nothing
none_of f h (x ∷ xs) = both (h x) (none_of f h xs)

within_each : {X : Type 0} (f : X → List ℕ) → ((x : X) → is_within (f x) ≡ true) → (xs : List X) → is_within (flat_map f xs) ≡ true
within_each f h [] = refl
within_each f h (x ∷ xs) = joined (f x) (flat_map f xs) (h x) (within_each f h xs)

-- ---- the texts of a line
op_within : (o : Op) → is_within (op_text o) ≡ true
op_within Load = refl
op_within (Store w) = decimal_within w
op_within (Faa w) = decimal_within w
op_within (Swap w) = decimal_within w

reply_within : (r : Reply) → is_within (reply_text r) ≡ true
reply_within (reply.Value v) = decimal_within v
reply_within reply.Ack = refl

give_within : (g : Give) → is_within (give_text g) ≡ true
give_within give.Same = refl
give_within (give.Plus w) = decimal_within w
give_within (give.Fixed w) = decimal_within w
give_within give.Ack = refl

fault_within : (f : MachineFault) → is_within (fault_text f) ≡ true
fault_within AddressOutOfRange = refl
fault_within PastEnd = refl

activity_within : (a : Activity) → is_within (activity_text a) ≡ true
activity_within Running = refl
activity_within Halted = refl
activity_within (Faulted f) = fault_within f

mark_within : (marked : Bool) → is_within (mark_text marked) ≡ true
mark_within true = refl
mark_within false = refl

request_within : (r : Request) → is_within (request_text r) ≡ true
request_within r = simp (list_all-append is_inner, decimal_within, op_within) refl

entry_within : (e : _) → is_within (entry_text e) ≡ true
entry_within e = joined (request_text e.request) (mark_text e.combined) (request_within e.request) (mark_within e.combined)

message_within : (m : ReplyMessage) → is_within (message_text m) ≡ true
message_within m = simp (list_all-append is_inner, decimal_within, reply_within) refl

record_within : (w : _) → is_within (record_text w) ≡ true
record_within w = simp (list_all-append is_inner, decimal_within, give_within) refl

-- ---- what happened in a cycle
got_shown : (n : ℕ) (es : List Event) → Shows (flat_map got_line es) (map delivery_line (deliveries_in n es))
got_shown n [] = nothing
got_shown n (Delivered m ∷ es) = both (shown_line (codes "got " ++ message_text m) (message_within m) refl) (got_shown n es)
got_shown n (Served k r v now ∷ es) = got_shown n es
got_shown n (Combined s x a old new first ∷ es) = got_shown n es
got_shown n (Issued r k ∷ es) = got_shown n es

act_other : (e : Event) → Shows (act_line e) []
act_other (Delivered m) = nothing
act_other (Served k r v now) =
    other_line (codes "act " ++ decimal k ++ codes " " ++ request_text r ++ codes " = " ++ reply_text v ++ codes " now " ++ decimal now)
    (simp (list_all-append is_inner, decimal_within, op_within, reply_within) refl) refl
act_other (Combined s x a old new first) = nothing
act_other (Issued r n) = nothing

fault_other : (s : Stop) → Shows (fault_line s) []
fault_other s = other_line (codes "fault " ++ decimal s.pe ++ codes " " ++ fault_text s.fault) (simp (list_all-append is_inner, decimal_within, fault_within) refl) refl

-- ---- what is where
-- an entry that the byte before shows to be no `got` line
module _ {X : Type 0} (name : List ℕ) (text : X → List ℕ) (named : is_within name ≡ true) (other : (rest : List ℕ) → is_got (name ++ rest) ≡ false) (each : (x : X) → is_within (text x) ≡ true) where
  place_other : (xs : List X) → Shows (place_line name text xs) []
  place_other [] = nothing
  place_other (x ∷ xs) =
      let entries : List ℕ = comma_separated text (x ∷ xs) in
      let first : is_within (name ++ codes ": ") ≡ true = joined name (codes ": ") named refl in
      let more : is_within (flat_map (λ y. codes ", " ++ text y) xs) ≡ true = within_each (λ y. codes ", " ++ text y) each xs in
      other_line (name ++ codes ": " ++ entries)
      (joined (name ++ codes ": ") entries first (joined (text x) (flat_map (λ y. codes ", " ++ text y) xs) (each x) more))
      (ap is_got (append_assoc name (codes ": ") entries) ∙ other (codes ": " ++ entries))

by_number_other : (n : ℕ) (line : ℕ → List ℕ) → ((k : ℕ) → Shows (line k) []) → Shows (by_number n line) []
by_number_other n line h = none_of line h (range_with_len 0 n)

by_stage_other : (c : Settings) (line : ℕ → ℕ → List ℕ) → ((s x : ℕ) → Shows (line s x) []) → Shows (by_stage c line) []
by_stage_other c line h = by_number_other c.stages (λ s. by_number (size c) (λ x. line s x)) (λ s. by_number_other (size c) (λ x. line s x) (h s))

stage_within : (word : List ℕ) (s x : ℕ) → is_within word ≡ true → is_within (stage_name word s x) ≡ true
stage_within word s x h = simp (list_all-append is_inner, decimal_within, h) refl

unit_within : (word : List ℕ) (k : ℕ) → is_within word ≡ true → is_within (unit_name word k) ≡ true
unit_within word k h = simp (list_all-append is_inner, decimal_within, h) refl

inp_other : (k : ℕ) (o : _) → Shows (inp_line k o) []
inp_other k o = place_other (unit_name (codes "inp") k) _ (unit_within (codes "inp") k refl) (λ rest. refl) (λ p. request_within _) (held o)

module _ (c : Settings) (m : Machine) where
  state_other : Shows (state_text c m) []
  state_other =
      let pni = by_number_other (size c) (pni_lines m) (λ p. place_other (unit_name (codes "pni") p) request_text (unit_within (codes "pni") p refl) (λ rest. refl) request_within _) in
      let req = by_stage_other c (req_lines m) (λ s x. place_other (stage_name (codes "req") s x) entry_text (stage_within (codes "req") s x refl) (λ rest. refl) entry_within _) in
      let wait = by_stage_other c (wait_lines m) (λ s x. place_other (stage_name (codes "wait") s x) record_text (stage_within (codes "wait") s x refl) (λ rest. refl) record_within _) in
      let inp = by_number_other (size c) (inp_lines m) (λ k. inp_other k _) in
      let out = by_number_other (size c) (out_lines m) (λ k. place_other (unit_name (codes "out") k) message_text (unit_within (codes "out") k refl) (λ rest. refl) message_within _) in
      let rep = by_stage_other c (rep_lines m) (λ s y. place_other (stage_name (codes "rep") s y) message_text (stage_within (codes "rep") s y refl) (λ rest. refl) message_within _) in
      both (both (both (both (both pni req) wait) inp) out) rep

  cycle_shown : (n : ℕ) → Shows (cycle_text c m) (map delivery_line (deliveries_in n m.events))
  unfolding cycle_text
  cycle_shown n =
      let number = other_line (codes "cycle " ++ decimal (m.cycles - 1)) (decimal_within (m.cycles - 1)) refl in
      let events = both (both (got_shown n m.events) (none_of act_line act_other m.events)) (none_of fault_line fault_other m.stops) in
      let shown : List (List ℕ) = map delivery_line (deliveries_in n m.events) in
      let alone : shown ++ [] ++ [] ++ [] ≡ shown = append-nil (shown ++ [] ++ []) ∙ append-nil (shown ++ []) ∙ append-nil shown in
      as_shown (both (both number events) state_other) refl alone

-- ---- the end
unless_zero_other : (v : ℕ) (text : List ℕ) → Shows text [] → Shows (unless_zero v text) []
unless_zero_other zero text h = nothing
unless_zero_other (suc v) text h = h

cell_other : (a v : ℕ) → Shows (cell_line a v) []
cell_other a v = unless_zero_other v _ (other_line (codes "cell " ++ decimal a ++ codes " " ++ decimal v) (simp (list_all-append is_inner, decimal_within) refl) refl)

register_within : (i v : ℕ) → is_within (register_text i v) ≡ true
register_within i zero = refl
register_within i (suc v) = simp (list_all-append is_inner, decimal_within) refl

registers_within : (values : List ℕ) → is_within (registers_text values) ≡ true
unfolding registers_text
registers_within values = within_each (λ i. register_text i (slice_index values i)) (λ i. register_within i (slice_index values i)) (range_with_len 0 16)

pe_other : (p : ℕ) (e : Core) → Shows (pe_line p e) []
pe_other p e =
    other_line (codes "pe " ++ decimal p ++ codes " " ++ activity_text e.activity ++ codes " " ++ decimal e.pc ++ registers_text e.registers)
    (simp (list_all-append is_inner, decimal_within, activity_within, registers_within) refl) refl

ending_other : (quiet : Bool) → Shows (ending_text quiet ++ newline) []
ending_other true = other_line (codes "end quiet") refl refl
ending_other false = other_line (codes "end limit") refl refl

end_other : (c : Settings) (m : Machine) → Shows (end_text c m) []
unfolding end_text
end_other c m =
    both (both (ending_other (is_quiet m)) (by_number_other (size c * c.cells) (cell_lines c m) (λ a. cell_other a _)))
    (by_number_other (size c) (pe_lines m) (λ p. pe_other p _))

-- ---- the whole
module _ (c : Settings) (program : List Instr) where
  cycles_shown : (n : ℕ) → Shows (cycles_text c program n) (map delivery_line (deliveries c program n))
  unfolding deliveries
  cycles_shown zero = nothing
  cycles_shown (suc n) =
      let next : n + 1 ≡ suc n = omega arith in
      let es : List Event = (after c program (n + 1)).events in
      let last : cycles_text c program (n + 1) ≡ cycles_text c program n ++ cycle_text c (after c program (n + 1)) = by_number_more n (λ k. cycle_text c (after c program (k + 1))) in
      let text : cycles_text c program n ++ cycle_text c (after c program (n + 1)) ≡ cycles_text c program (suc n) = sym last ∙ ap (λ k. cycles_text c program k) next in
      let both_lists : map delivery_line (deliveries c program n ++ deliveries_in n es) ≡ map delivery_line (deliveries c program n) ++ map delivery_line (deliveries_in n es) = map-append delivery_line (deliveries c program n) (deliveries_in n es) in
      let lines : map delivery_line (deliveries c program n) ++ map delivery_line (deliveries_in n es) ≡ map delivery_line (deliveries c program (suc n)) =
      sym both_lists ∙ ap (λ k. map delivery_line (deliveries c program n ++ deliveries_in n (after c program k).events)) next in
      as_shown (both (cycles_shown n) (cycle_shown c (after c program (n + 1)) n)) text lines

  pub lines_are : (n : ℕ) → got_lines_in (cycles_text c program n) ≡ map delivery_line (deliveries c program n)
  unfolding got_lines_in
  lines_are n = ap got_lines_in (sym (append-nil (cycles_text c program n))) ∙ (cycles_shown n).all [] ∙ append-nil _

  pub replies_shown : got_lines_in (trace c program) ≡ map delivery_line (deliveries c program (cycle_count c program))
  unfolding trace all_cycles_text got_lines_in
  replies_shown =
      let title = other_line (codes "ultra trace 2") refl refl in
      let whole = both (both title (cycles_shown (cycle_count c program))) (end_other c (last_state c program)) in
      ap got_lines_in (sym (append-nil (trace c program))) ∙ whole.all [] ∙ append-nil _ ∙ append-nil _
