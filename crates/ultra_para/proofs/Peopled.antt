-- a step of a paracomputer with its processors
use Rattle.std.proofs.Common.{◌≡◌, ℕ, ◌*◌, ◌<◌, List, arith, sym, ◌∙◌, ap}
use Rattle.std.specs.{Prelude.{slice_index_or, slice_set}, List.range_with_len}
use Rattle.std.proofs.lemmas.{List.{map-set, get_or-map}, Simd.map-map}
use Rattle.ultra_pni.specs.Interface.{empty_interface}
use Rattle.ultra_isa.specs.{declared.Instr.Instr, Instruction.Site, Step.{ProcessorState, Core, fresh_core, StepResult, step_of}}
use Rattle.ultra_model.specs.{Places.places, Machine.{Settings, size, site, given_value}}
use Rattle.ultra_model.proofs.Each.{places_at, length-places}
use Rattle.ultra_para.specs.Para.{Para, core_at, cells_acted, core_answered, after_alone, start_para, para_step}
use Rattle.ultra_para.specs.{declared.at_once.StepReport.StepReport, Report.{report_with, step_report}, ParaState.{ParaState, programmed, cores_of, fresh_processors, HasAllParts}}

module _ (c : Settings) (program : List Instr) (cells : List ℕ) (ps : List ProcessorState) (w : HasAllParts c cells ps) (p : ℕ) (hp : p < size c) where
  abbrev core : ProcessorState → Core
  core l = l.core

  pub stepped_is : (q new : ProcessorState) (now seen : List ℕ) → seen ≡ cells → q ≡ slice_index_or ps p q → new ≡ record q { core = core_answered seen (step_of q.site 1 program q.core empty_interface) (step_of q.site 1 program q.core empty_interface).sent }
      → now ≡ cells_acted seen (step_of q.site 1 program q.core empty_interface).sent
      → programmed c program now (slice_set ps p new) ≡ record (programmed c program cells ps) { state = para_step c program (programmed c program cells ps).state p }
  stepped_is q new now seen same e f g =
      let home : q.site ≡ site c p = ap (λ (l : ProcessorState). l.site) e ∙ w.sites p q hp in
      let here : core_at (programmed c program cells ps).state p ≡ q.core = get_or-map core ps p q fresh_core (omega (arith, hp, w.elements)) ∙ ap core (sym e) in
      let t : Core → Site → StepResult = λ x s. step_of s 1 program x empty_interface in
      let cores : cores_of (slice_set ps p new) ≡ slice_set (cores_of ps) p new.core = map-set core ps p new in
      let next : para_step c program (programmed c program cells ps).state p ≡ after_alone c program (programmed c program cells ps).state p (t q.core (site c p)) = ap (λ x. after_alone c program (programmed c program cells ps).state p (t x (site c p))) here in
      let one : new.core ≡ core_answered cells (t q.core (site c p)) (t q.core (site c p)).sent = ap core f ∙ (ap (λ xs. core_answered xs (t q.core q.site) (t q.core q.site).sent) same ∙ ap (λ s. core_answered cells (t q.core s) (t q.core s).sent) home) in
      let two : now ≡ cells_acted cells (t q.core (site c p)).sent = g ∙ (ap (λ xs. cells_acted xs (t q.core q.site).sent) same ∙ ap (λ s. cells_acted cells (t q.core s).sent) home) in
      let cells_are : programmed c program now (slice_set ps p new) ≡ record { settings = c; program = program; state = record { cells = cells_acted cells (t q.core (site c p)).sent; cores = cores_of (slice_set ps p new) } } = ap (λ xs. programmed c program xs (slice_set ps p new)) two in
      let make : List Core → ParaState = λ xs. record { settings = c; program = program; state = record { cells = cells_acted cells (t q.core (site c p)).sent; cores = xs } } in
      let put : Core → ParaState = λ x. make (slice_set (cores_of ps) p x) in
      cells_are ∙ (ap make cores ∙ (ap put one ∙ ap (λ (s : Para). record { settings = c; program = program; state = s }) (sym next)))

  -- what it did
  pub report_is : (q : ProcessorState) (seen : List ℕ) → seen ≡ cells → q ≡ slice_index_or ps p q → (o : StepReport) → o ≡ report_with seen (step_of q.site 1 program q.core empty_interface) (step_of q.site 1 program q.core empty_interface).sent
      → o ≡ step_report c program (programmed c program cells ps).state p
  unfolding step_report
  report_is q seen same e o is =
      let home : q.site ≡ site c p = ap (λ (l : ProcessorState). l.site) e ∙ w.sites p q hp in
      let here : core_at (programmed c program cells ps).state p ≡ q.core = get_or-map (λ (l : ProcessorState). l.core) ps p q fresh_core (omega (arith, hp, w.elements)) ∙ ap (λ (l : ProcessorState). l.core) (sym e) in
      let t : Core → Site → StepResult = λ x s. step_of s 1 program x empty_interface in
      is ∙ (ap (λ xs. report_with xs (t q.core q.site) (t q.core q.site).sent) same
      ∙ (ap (λ s. report_with cells (t q.core s) (t q.core s).sent) home
      ∙ ap (λ x. report_with cells (t x (site c p)) (t x (site c p)).sent) (sym here)))

-- ---- before the first step
module _ (c : Settings) where
  pub fresh_peopled : HasAllParts c (start_para c).cells (fresh_processors c)
  fresh_peopled = record {
    held = length-places (size c * c.cells) (λ a. given_value c.initial a 0);
    elements = length-places (size c) (λ p. record { site = site c p; core = fresh_core });
    sites = λ p d h. ap (λ (l : ProcessorState). l.site) (places_at (size c) (λ q. record { site = site c q; core = fresh_core }) p d h);
  }

  fresh_cores : cores_of (fresh_processors c) ≡ (start_para c).cores
  unfolding places
  fresh_cores = map-map (λ (l : ProcessorState). l.core) (λ p. record { site = site c p; core = fresh_core }) (range_with_len 0 (size c))

  pub fresh_programmed : (program : List Instr) → programmed c program (start_para c).cells (fresh_processors c) ≡ record { settings = c; program = program; state = start_para c }
  fresh_programmed program = ap (λ cores. record { settings = c; program = program; state = record { cells = (start_para c).cells; cores = cores } }) fresh_cores
