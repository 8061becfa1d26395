use Rattle.std.proofs.Common.{◌≡◌, ℕ, ◌+◌, ◌++◌, ◌∙◌, ◌≤◌, ap, sym, subst, inr, length, take, nat_lt, eqb, get_or, List, [], ◌∷◌, arith, rules, tests}
use Rattle.std.proofs.lemmas.{List.{append-nil, length_push}, Iterator.{Consumers.{YieldsList-at, YieldsList-from_enumerate}, Splits.YieldsList-from_slice_split}}
use Rattle.ultra_asm.specs.{Words.text_words, Labels.near_definition_of, Found.definition_in, ProgramText.IsFirstFault, Reading.read_line}
use Rattle.ultra_asm.proofs.{FirstWords.line_few, Turns.{texts, IsTurn, turn, end}, assemble.Goals.{After-line_instruction, After-new, in-Some-found+in_ok-push, in_default}}
use Rattle.ultra_asm.proofs.Assembly.{first_fault, so_far_more, so_far_all, so_far_program, only, no_first_fault}
use Rattle.ultra_asm.proofs.assemble.Goals as goal

-- the line of this turn
here : (c : After-line_instruction) → IsTurn c.args.text.now (length c.loop-index.yielded) c.in-Some.index c.in-Some.line.now
here c =
    turn c.args.text.now c.loop-index.yielded _ c.loop-index.yielded_by _ _ c.in-Some.index c.in-Some.line c.in-Some.is c.next.ensures.steps (YieldsList-at c.into_iter-index-iterator.ensures.into_iter_gives (YieldsList-from_enumerate (YieldsList-at c.enumerate-index-items.ensures.source (YieldsList-from_slice_split _ (λ b. eqb b 10) c.args.text.now (cc) (cc) (cc) (λ x b q k. search (rules, tests)))) c.enumerate-index-items.ensures.count))

table : (c : After-line_instruction) (q : List ℕ) → definition_in c.in_ok-labels.labels q ≡ near_definition_of (text_words c.args.text.now) q
table c q = c.in_ok-labels.ensures q ∙ ap (λ text. near_definition_of (text_words text) q) c.as_bytes-text.ensures.value

-- what is read from it
read : (c : After-line_instruction) → read_line (definition_in c.in_ok-labels.labels) (length c.loop-index.yielded) (nat_lt (length c.loop-index.list.items) 4096) (get_or (text_words c.args.text.now) (length c.loop-index.yielded) []) ≡ c.line_instruction.result
read c =
    let defined = definition_in c.in_ok-labels.labels in
    let k = length c.loop-index.yielded in
    let is = c.loop-index.list.items in
    let ws = get_or (text_words c.args.text.now) k [] in
    let words : texts c.as_slice.result.now ≡ take 6 ws = ap texts c.as_slice.ensures.value ∙ c.in_ok-words.ensures ∙ ap (take 6) (here c).words in
    let room : c.len-has_room.result ≡ length is = omega (arith, c.len-has_room.ensures, c.loop-index.list.ok.0) in
    sym (line_few defined k (nat_lt (length is) 4096) ws) ∙ ap (read_line defined k (nat_lt (length is) 4096)) (sym words) ∙ ap (λ n. read_line defined k (nat_lt n 4096) (texts c.as_slice.result.now)) (sym room) ∙ ap (λ n. read_line defined n (nat_lt c.len-has_room.result 4096) (texts c.as_slice.result.now)) (sym (here c).number) ∙ sym c.line_instruction.ensures

pub loop-index-preserved : goal.loop-index-preserved
loop-index-preserved c =
    let at = (goal.at.loop-index-preserved c).After-line_instruction in
    let ls = text_words c.args.text.now in
    let k = length c.loop-index.yielded in
    let is = c.loop-index.list.items in
    let defined = definition_in c.in_ok-labels.labels in
    let next : length (c.loop-index.yielded ++ (c.in-Some.index, c.in-Some.line) ∷ []) ≡ k + 1 = length_push c.loop-index.yielded (c.in-Some.index, c.in-Some.line) in
    let more = so_far_more ls defined (table at) k is (here at).within c.loop-index.invariant c.in-Ok.found (read at ∙ c.in-Ok.is) in
    elim c.match-found.branch [
      | in-Some-found+in_ok-push w ↦ rw (w.list-is, w.in_ok-push.ensures.items, next) (rw w.in-Some-found.is at more)
      | in_default w ↦ rw (w.list-is, ← append-nil is, next) (rw w.in_default.is at more)
    ]

pub returns-in-Err : goal.returns-in-Err
returns-in-Err c =
    let at = (goal.at.returns-in-Err c).After-line_instruction in
    let ls = text_words c.args.text.now in
    let k = length c.loop-index.yielded in
    let fault = first_fault ls (definition_in c.in_ok-labels.labels) (table at) k c.loop-index.list.items (here at).within c.loop-index.invariant c.in-Err.kind (read at ∙ c.in-Err.is) in
    let here_fault = subst (λ n. IsFirstFault ls (record { line = n + 1; kind = c.in-Err.kind })) (sym (here at).number) fault in
    record {
      ok = tt;
      refused = inr here_fault;
      given_back = λ p m. absurd (no_first_fault ls p m _ here_fault);
    }

-- all lines are read
module _ (c : After-new) where
  all_read : length (text_words c.args.text.now) ≤ length c.loop-index.yielded
  all_read =
      end c.args.text.now c.loop-index.yielded _ c.loop-index.yielded_by _ _ c.in-None.is c.next.ensures.steps (YieldsList-at c.into_iter-index-iterator.ensures.into_iter_gives (YieldsList-from_enumerate (YieldsList-at c.enumerate-index-items.ensures.source (YieldsList-from_slice_split _ (λ b. eqb b 10) c.args.text.now (cc) (cc) (cc) (λ x b q k. search (rules, tests)))) c.enumerate-index-items.ensures.count))

  whole_table : (q : List ℕ) → definition_in c.in_ok-labels.labels q ≡ near_definition_of (text_words c.args.text.now) q
  whole_table q = c.in_ok-labels.ensures q ∙ ap (λ text. near_definition_of (text_words text) q) c.as_bytes-text.ensures.value

pub unwrap-requires : goal.unwrap-requires
unwrap-requires c =
    c.new.ensures.valid.1 (so_far_program (text_words c.args.text.now) (definition_in c.in_ok-labels.labels) (whole_table c) (length c.loop-index.yielded) c.loop-index.list.items (all_read c) c.loop-index.invariant)

pub returns : goal.returns
returns c =
    let ls = text_words c.args.text.now in
    let before = (goal.at.returns c).After-new in
    let text = so_far_all ls (definition_in c.in_ok-labels.labels) (whole_table before) (length c.loop-index.yielded) c.loop-index.list.items (all_read before) c.loop-index.invariant in
    let program : c.unwrap.result ≡ c.loop-index.list.items = search rules in
    record {
      ok = rw program text;
      refused = tt;
      given_back = λ p m. program ∙ only ls p m c.loop-index.list.items text;
    }
