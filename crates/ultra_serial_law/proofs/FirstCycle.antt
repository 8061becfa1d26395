-- where each processing element begins with a reference to cell 0, all have asked for it after the first cycle
use Rattle.std.proofs.Common.{◌≡◌, ℕ, zero, suc, ◌+◌, ◌*◌, ◌<◌, List, [], ◌∷◌, true, refl, arith, subst, ◌∙◌, ap}
use Rattle.std.specs.Prelude.{Some, None, nat_lt, slice_get, if◌then◌else◌}
use Rattle.std.proofs.{lemmas.Bool.Decides.nat_tests, Math.Pow.pow_pos}
use Rattle.ultra_msg.specs.declared.Request.{Request}
use Rattle.ultra_msg.specs.declared.Op.TheVariants as op
use Rattle.ultra_route.specs.Route.{shuffled, unshuffled}
use Rattle.ultra_switch.specs.Arrive.{Lane, empty_lane}
use Rattle.ultra_pni.specs.{declared.Issue.TheVariants.{Sent, Full}, Interface.empty_interface}
use Rattle.ultra_isa.specs.{declared.Instr.{Instr, TheVariants.Faa}, Instruction.Site, Step.{fresh_core, refers_as, refers_where, step_of}}
use Rattle.ultra_model.specs.Machine.{Settings, Machine, Element, size, site, last_stage, fresh_element, start, lane_at, element_at}
use Rattle.ultra_model.specs.Phases.{after, cycle, arriving_request, request_before, reply_phase, memory_phase, request_phase, processor_phase}
use Rattle.ultra_model.specs.Ranges.{AreInRange}
use Rattle.ultra_model.proofs.Routes.{turns_back}
use Rattle.ultra_model.proofs.AtPlaces.{lane-start, replies-start, memory_module-start, element-start, element-request_phase, element-processor_phase, replies-request_phase}
use Rattle.ultra_serial_law.specs.AllAtOnce.{AreAllAt, HotCellOccurs}
use Rattle.ultra_serial_law.proofs.{Quiet.{head_of, before_at, stays_empty, none_enters}, Silence.{lane_is, element_is, silent_replied, silent_acted}, Stages.IsSilent}

-- nothing has happened yet
record IsFresh (c : Settings) (m : Machine) : Type 0 where
  pub lanes : (t x : ℕ) → t < c.stages → x < size c → lane_at m t x ≡ empty_lane
  pub silent : IsSilent c m
  pub elements : (p : ℕ) → p < size c → element_at m p ≡ fresh_element

-- the first step of a processing element
abbrev first_request : ℕ → Request
first_request p = record { pe = p; cell = 0; op = op.Faa 0 }

first_step : (s : Site) (most_open : ℕ) (rest : List Instr) → nat_lt 0 s.all_cells ≡ true → nat_lt 0 most_open ≡ true → (step_of s most_open (Faa 1 0 0 ∷ rest) fresh_core empty_interface).interface.pending ≡ first_request s.pe ∷ []
first_step s most_open rest has_cell has_room =
    let r = first_request s.pe in
    ap (λ b. (refers_where s most_open b fresh_core empty_interface r (Some 1)).interface.pending) has_cell
    ∙ ap (λ b. (refers_as fresh_core empty_interface r (Some 1) (if b then Sent else Full)).interface.pending) has_room

module _ (c : Settings) (range : AreInRange c) where
  fresh_start : IsFresh c (start c)
  fresh_start = record {
    lanes = lane-start c;
    silent = record {
      replies = replies-start c;
      modules = λ k hk. rw (memory_module-start c k hk) record { no_request = refl; no_reply = refl };
    };
    elements = element-start c;
  }

  module _ (m : Machine) (w : IsFresh c m) where
    fresh_replied : IsFresh c (reply_phase c m)
    fresh_replied = record {
      lanes = λ t x ht hx. lane_is c range m w.silent t x ht hx ∙ w.lanes t x ht hx;
      silent = silent_replied c range m w.silent;
      elements = λ p hp. element_is c range m w.silent p hp ∙ w.elements p hp;
    }

    fresh_acted : IsFresh c (memory_phase c m)
    unfolding memory_phase
    fresh_acted = record { lanes = w.lanes; silent = silent_acted c range m w.silent; elements = w.elements }

    none_waits : (t y : ℕ) → t < c.stages → y < size c → request_before c m t y ≡ None
    none_waits zero y ht hy = ap (λ (e : Element). slice_get e.interface.pending 0) (w.elements (unshuffled c.stages y) (turns_back c range y hy).line_small)
    none_waits (suc t) y ht hy =
        let next : t + 1 ≡ suc t = omega arith in
        let x = unshuffled c.stages y in
        subst (λ j. request_before c m j y ≡ None) next (before_at c range m t y ∙ ap (λ (l : Lane). head_of l.queue) (w.lanes t x (omega (arith, ht)) (turns_back c range y hy).line_small))

    none_arrives : (y : ℕ) → y < size c → arriving_request c m 0 y ≡ None
    unfolding arriving_request
    none_arrives y hy = let some = range.some_stages in rw (none_waits 0 y (omega arith) hy) refl

    fresh_requested : IsFresh c (request_phase c m)
    fresh_requested =
        let some = range.some_stages in
        record {
          lanes = λ t x ht hx. stays_empty c range m t x ht hx (w.lanes t x ht hx) (λ y hy. none_waits t y ht hy);
          silent = record {
            replies = λ t y ht hy. replies-request_phase c m t y ∙ w.silent.replies t y ht hy;
            modules = λ k hk.
                rw (none_enters c range m k hk (w.silent.modules k hk).no_request (ap (λ (l : Lane). head_of l.queue) (w.lanes (last_stage c) k (omega arith) hk))) (w.silent.modules k hk);
          };
          elements = λ p hp. element-request_phase c m p hp ∙ rw (none_arrives (shuffled c.stages p) (turns_back c range p hp).entry_small, w.elements p hp) refl;
        }

    all_ask : (rest : List Instr) → AreAllAt c 0 (processor_phase c (Faa 1 0 0 ∷ rest) m)
    unfolding processor_phase
    all_ask rest =
        let program = Faa 1 0 0 ∷ rest in
        let some_cells : nat_lt 0 (size c * c.cells) ≡ true = let some = range.some_cells in let pos = pow_pos c.stages in grind (arith, nat_tests) in
        let some_open : nat_lt 0 c.most_open ≡ true = let some = range.some_open in grind (arith, nat_tests) in
        record {
          lanes = w.lanes;
          replies = w.silent.replies;
          idle = w.silent.modules;
          one_each = λ p hp. (
            first_request p,
            ap (λ (e : Element). e.interface.pending) (element-processor_phase c program m p hp)
                ∙ ap (λ (e : Element). (step_of (site c p) c.most_open program e.core e.interface).interface.pending) (w.elements p hp)
                ∙ first_step (site c p) c.most_open rest some_cells some_open,
            refl,
          );
        }

pub hot_cell_occurs : HotCellOccurs
unfolding after cycle
hot_cell_occurs c range rest =
    let replied = fresh_replied c range (start c) (fresh_start c range) in
    let acted = fresh_acted c range (reply_phase c (start c)) replied in
    let requested = fresh_requested c range (memory_phase c (reply_phase c (start c))) acted in
    all_ask c range (request_phase c (memory_phase c (reply_phase c (start c)))) requested rest
