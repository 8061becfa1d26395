-- which processing elements are known
use Rattle.std.proofs.Common.{ℕ, ◌≡◌, ◌≢◌, ◌+◌, ◌/◌, ◌%◌, ◌<◌, ◌≤◌, List, [], Bool, true, false, ◌==◌, ◌||◌, ◌&&◌, not, nat_lt, take, length, get_or, refl, sym, ap, ◌∙◌, subst, inl, inr, arith}
use Rattle.std.proofs.lemmas.Bool.{cases_eq, cases_lt, Decides.nat_tests}
use Rattle.ultra_msg.specs.declared.Event.{Event}
use Rattle.ultra_isa.specs.{declared.Instr.Instr, Step.{has_stopped, is_stall}}
use Rattle.ultra_model.specs.{Machine.{Settings, Machine, size, element_at}, Phases.{after, step_at}, Ranges.AreInRange, Balance.{count, total, weight}}
use Rattle.ultra_topology.specs.Set.{has_bit}
use Rattle.ultra_measure.specs.{declared.element_states.ElementStates.ElementStates, Held.{running, stalled, opened}, EventKinds.is_delivery_to, PeSet.IsTaken}
use Rattle.ultra_measure.specs.ElementStates.{is_awake, is_resting, state_number, three_in_one, IsKnown, AreKnownBut, AreKnown, AreSeen, AreAnswered, AreBelow, IsSameAt}
use Rattle.ultra_measure.proofs.{Events.count_more, Resting.{still_rests, same_running, same_stalled, same_opened}, Tallies.{total_beyond, total_three, three_are, total_small}}

pub both_false : (a b : Bool) → (a || b) ≡ false → (a ≡ false) × (b ≡ false)
both_false true b h = cc
both_false false b h = (refl, h)

no_step : (a b : Bool) → (weight (not a) == weight b) ≡ true → (a || b) ≡ true
no_step true b same = refl
no_step false true same = refl
no_step false false same = cc

weight_few : (b : Bool) → weight b ≤ 1
weight_few true = omega arith
weight_few false = omega arith

-- one that runs and stalls, or does neither, rests
pub rests_where_equal : (c : Settings) (program : List Instr) (m : Machine) (p a b : ℕ) → a ≡ running m p → b ≡ stalled c program m p → a ≡ b → is_resting c program m p ≡ true
rests_where_equal c program m p a b runs stalls same =
    let equal : running m p ≡ stalled c program m p = sym runs ∙ same ∙ stalls in
    no_step (has_stopped (element_at m p).core.activity) (is_stall (step_at c program m p).was) (grind (arith, nat_tests, equal))

zero_weight : (b : Bool) → b ≡ false → weight b ≡ 0
zero_weight b is = ap weight is

and_true : (a b : Bool) → a ≡ true → (a && b) ≡ false → b ≡ false
and_true true b is none = none
and_true false b is none = cc

test_below : (p n : ℕ) → p < n → nat_lt p n ≡ true
test_below p n h = grind (arith, nat_tests)

not_below : (p n : ℕ) → n ≤ p → nat_lt p n ≡ false
not_below p n h = grind (arith, nat_tests)

none_put : (p n : ℕ) (t : Bool) {a b : Bool} → n ≤ p → a ≡ (b || (nat_lt p n && t)) → b ≡ false → a ≡ false
none_put p n t {a} {b} h is none = is ∙ ap (λ k. k || (nat_lt p n && t)) none ∙ ap (λ k. k && t) (not_below p n h)

-- ---- those to which events deliver replies: of no event, and of one more
module _ (n : ℕ) where
  pub none_answered : (elements : ℕ) → ((p : ℕ) → has_bit elements p ≡ false) → AreAnswered n [] elements
  none_answered elements none = record { each = λ p h no. refl; within = λ p h. none p }

  pub one_answered : (es : List Event) (i : ℕ) (e : Event) (old new : ℕ) → i < length es → AreAnswered n (take i es) old → ((p : ℕ) → has_bit new p ≡ (has_bit old p || (nat_lt p n && is_delivery_to p (get_or es i e)))) → AreAnswered n (take (i + 1) es) new
  one_answered es i e old new here are put = record {
    each = λ p h none.
        let parts = both_false (has_bit old p) (nat_lt p n && is_delivery_to p (get_or es i e)) (sym (put p) ∙ none) in
        let other = and_true (nat_lt p n) (is_delivery_to p (get_or es i e)) (test_below p n h) parts.1 in
        let before : count (is_delivery_to p) (take i es) ≡ 0 = are.each p h parts.0 in
        let one : weight (is_delivery_to p (get_or es i e)) ≡ 0 = zero_weight (is_delivery_to p (get_or es i e)) other in
        omega (arith, before, count_more (is_delivery_to p) i es e here, one);
    within = λ p h. none_put p n _ h (put p) (are.within p h);
  }

-- processing element p wasn't awake, and none of the events delivers a reply to it
pub record IsLeftAlone (s : ElementStates) (es : List Event) (p : ℕ) : Type 0 where
  pub asleep : is_awake s p ≡ false
  pub unanswered : count (is_delivery_to p) es ≡ 0

-- those that are awake, or to which replies come, are due
module _ (s : ElementStates) (n : ℕ) (es : List Event) (answered due : ℕ) (are : AreAnswered n es answered) (is : (p : ℕ) → has_bit due p ≡ (is_awake s p || has_bit answered p)) where
  pub others_left_alone : (p : ℕ) → p < n → has_bit due p ≡ false → IsLeftAlone s es p
  others_left_alone p h none =
      let parts = both_false _ _ (sym (is p) ∙ none) in
      record { asleep = parts.0; unanswered = are.each p h parts.1 }

  pub due_below : AreBelow n s.awake → AreBelow n due
  due_below within p h = is p ∙ ap (λ b. b || has_bit answered p) (within p h) ∙ are.within p h

-- ---- one is looked at
module _ (c : Settings) (program : List Instr) (m : Machine) where
  known_same : (old new : ElementStates) (p : ℕ) → IsSameAt old new p → IsKnown c program m old p → IsKnown c program m new p
  known_same old new p same known = record {
    now = same.now ∙ known.now;
    rests = λ asleep. known.rests (sym same.awake ∙ asleep);
  }

  pub one_looked_at : (old new : ElementStates) (x left rest : ℕ) → AreKnownBut c program m (λ p. has_bit left p) old → IsTaken x left rest → x < size c → IsKnown c program m new x → ((p : ℕ) → p ≢ x → IsSameAt old new p) → AreKnownBut c program m (λ p. has_bit rest p) new
  one_looked_at old new x left rest are taken small known others = record {
    each = λ p h none. elim (cases_eq p x) [
      | inl same ↦ subst (λ k. IsKnown c program m new k) (sym same) known
      | inr other ↦ known_same old new p (others p other) (are.each p h (sym (taken.others p other) ∙ none))
    ];
    none = λ p h. (others p (omega (arith, h, small))).now ∙ are.none p h;
    within = λ p h. (others p (omega (arith, h, small))).awake ∙ are.within p h;
  }

  pub left_within : (x left rest : ℕ) → AreBelow (size c) left → IsTaken x left rest → AreBelow (size c) rest
  left_within x left rest within taken p h = elim (cases_eq p x) [
    | inl same ↦ absurd (let no = within p h in let yes = rw (← same) at taken.there in cc)
    | inr other ↦ taken.others p other ∙ within p h
  ]

  -- it is one of the machine
  pub taken_small : (x left rest : ℕ) → AreBelow (size c) left → IsTaken x left rest → x < size c
  taken_small x left rest within taken = elim (cases_lt x (size c)) [
    | inl small ↦ small
    | inr large ↦ absurd (let no = within x large in let yes = taken.there in cc)
  ]

  pub all_looked_at : (s : ElementStates) (left : ℕ) → AreKnownBut c program m (λ p. has_bit left p) s → ((p : ℕ) → has_bit left p ≡ false) → AreKnown c program m s
  all_looked_at s left are none = record {
    each = λ p h no. are.each p h (none p);
    none = are.none;
    within = are.within;
  }

  -- ---- what they come to together
  module _ (s : ElementStates) (are : AreKnown c program m s) (few : size c ≤ 64) where
    together : total 64 (λ k. get_or s.tally k 0) ≡ three_in_one (total (size c) (running m)) (total (size c) (stalled c program m)) (total (size c) (opened m))
    together = total_beyond (size c) 64 _ (state_number c program m) few (λ k h. (are.each k h refl).now) are.none ∙ total_three (size c) (running m) (stalled c program m) (opened m)

    abbrev all : ℕ
    all = total 64 (λ k. get_or s.tally k 0)

    pub record AreSums : Type 0 where
      pub running : all % 256 ≡ total (size c) (running m)
      pub stalled : all / 256 % 256 ≡ total (size c) (stalled c program m)
      pub opened : all / 65536 ≡ total (size c) (opened m)

    pub are_sums : AreSums
    are_sums =
        let runs = total_small (size c) 1 (running m) (λ k h. weight_few (not (has_stopped (element_at m k).core.activity))) in
        let stalls = total_small (size c) 1 (stalled c program m) (λ k h. weight_few (is_stall (step_at c program m k).was)) in
        let parts = three_are all _ _ _ together (omega (arith, runs, few)) (omega (arith, stalls, few)) in
        record { running = parts.0; stalled = parts.1; opened = parts.2 }

  -- ---- at the start
  pub none_seen : (s : ElementStates) → ((p : ℕ) → is_awake s p ≡ nat_lt p (size c)) → ((k : ℕ) → get_or s.tally k 0 ≡ 0) → AreSeen c program m s
  none_seen s awake zeros = record {
    each = λ p h asleep. absurd (let yes = awake p ∙ test_below p (size c) h in cc);
    none = λ p h. zeros p;
    within = λ p h. awake p ∙ not_below p (size c) h;
  }

-- ---- a cycle: all but those that were awake, or to which a reply came, are still known
module _ (c : Settings) (program : List Instr) (n : ℕ) (m : Machine) (run : m ≡ after c program (n + 1)) where
  module _ (range : AreInRange c) where
    still_known : (s : ElementStates) (p : ℕ) → p < size c → IsKnown c program (after c program n) s p → IsLeftAlone s (after c program (n + 1)).events p → IsKnown c program (after c program (n + 1)) s p
    still_known s p h known alone =
        let rest = known.rests alone.asleep in
        record {
          now =
              known.now
              ∙ ap (λ k. three_in_one k (stalled c program (after c program n) p) (opened (after c program n) p)) (sym (same_running c range program n p h rest alone.unanswered))
              ∙ ap (λ k. three_in_one (running (after c program (n + 1)) p) k (opened (after c program n) p)) (sym (same_stalled c range program n p h rest alone.unanswered))
              ∙ ap (three_in_one (running (after c program (n + 1)) p) (stalled c program (after c program (n + 1)) p)) (sym (same_opened c range program n p h rest alone.unanswered));
          rests = λ asleep. still_rests c range program n p h rest alone.unanswered;
        }

    pub known_after : (s : ElementStates) (due : ℕ) → AreSeen c program (after c program n) s → ((p : ℕ) → p < size c → has_bit due p ≡ false → IsLeftAlone s m.events p) → AreKnownBut c program m (λ p. has_bit due p) s
    known_after s due are alone = record {
      each = λ p h no.
          let left = alone p h no in
          subst (λ k. IsKnown c program k s p) (sym run) (still_known s p h (are.each p h left.asleep) (subst (λ (k : Machine). IsLeftAlone s k.events p) run left));
      none = are.none;
      within = are.within;
    }

  pub seen_after : (s : ElementStates) → AreKnown c program m s → AreSeen c program (after c program (n + 1)) s
  seen_after s are = record {
    each = λ p h asleep. subst (λ k. IsKnown c program k s p) run (are.each p h refl);
    none = are.none;
    within = are.within;
  }
