-- the registers are what deliveries and steps set
use Rattle.std.proofs.Common.{ℕ, zero, suc, ◌≡◌, ◌+◌, ◌<◌, List, [], ◌∷◌, ◌++◌, Bool, true, false, refl, sym, ap, ◌∙◌, subst, arith, append-nil, length-set, get_or-set_same}
use Rattle.std.proofs.lemmas.List.Concat.{flat_map-append}
use Rattle.std.specs.Prelude.{Option, Some, None, length as long, nat_lt, option_to_list, replicate, slice_get, slice_set, ◌==◌}
use Rattle.std.specs.List.{flat_map, range_with_len}
use Rattle.ultra_msg.specs.declared.{Request.Request, Reply.{Reply, TheVariants.{Value, Ack}}, ReplyMessage.ReplyMessage}
use Rattle.ultra_pni.specs.{declared.Issue.{Issue, TheVariants.{Sent, CellOpen, Full}}, Interface.{Interface, issue_of, target_of}}
use Rattle.ultra_isa.specs.declared.{Instr.Instr, Activity.{Activity, TheVariants.{Running, Halted, Faulted}}}
use Rattle.ultra_isa.specs.Instruction.{Site, Effect, sets, goes_on_at, refers, waits, halts, effect}
use Rattle.ultra_isa.specs.Step.{Core, StepResult, names_awaited, received, refers_as, waits_where, refers_where, does, runs_where, runs, runs_as, step_of}
use Rattle.ultra_model.specs.{Machine.{Settings, Element, size, element_at, site}, Phases.{after, deliver, delivered}}
use Rattle.ultra_model.proofs.AtPlaces.{element-start}
use Rattle.ultra_steps.specs.{declared.setting.Setting.Setting}
use Rattle.ultra_steps.specs.RegisterSettings.{before_steps, delivery_sets, registers_after, set_by_delivery, set_by_reply, set_by_step, set_in, set_where, register_settings, step_sets, IsSetIn}
use Rattle.ultra_steps.proofs.CycleCopies.{element_after, element_before}

abbrev pub set_if : List ℕ → Option Setting → List ℕ
set_if r o = registers_after r (option_to_list o)

-- ---- one delivery
reply_sets : (r : List ℕ) (t : Option ℕ) (v : Reply) → received r t v ≡ set_if r (set_by_reply t v)
reply_sets r None v = refl
reply_sets r (Some d) (Value v) = refl
reply_sets r (Some d) Ack = refl

delivery_set : (e : Element) (o : Option ReplyMessage) → (deliver e o).core.registers ≡ set_if e.core.registers (set_by_delivery e o)
delivery_set e None = refl
delivery_set e (Some r) = reply_sets e.core.registers (target_of r.cell e.interface.opened) r.reply

-- ---- one step
module _ (s : Site) (most : ℕ) (k : Core) (i : Interface) where
  abbrev SetsBy : StepResult → Effect → Type 0
  SetsBy t e = t.core.registers ≡ set_if k.registers (set_where t.was e)

  refer_sets : (a : ℕ) (w : Request) (o : Option ℕ) (e : Effect) → set_in e ≡ None → (u : Issue) → SetsBy (refers_as k i w o u) e
  refer_sets a w o e none Sent = refl
  refer_sets a w o e none CellOpen = refl
  refer_sets a w o e none Full = refl

  where_sets : (b : Bool) (a : ℕ) (w : Request) (o : Option ℕ) (e : Effect) → set_in e ≡ None → SetsBy (refers_where s most b k i w o) e
  where_sets true a w o e none = refer_sets a w o e none (issue_of most i w)
  where_sets false a w o e none = refl

  wait_sets : (b : Bool) → SetsBy (waits_where b k i) waits
  wait_sets true = refl
  wait_sets false = refl

  effect_sets : (e : Effect) → SetsBy (does s most k i e) e
  effect_sets (sets d v) = refl
  effect_sets (goes_on_at pc) = refl
  effect_sets (refers a p t) = where_sets (nat_lt a s.all_cells) a record { pe = s.pe; cell = a; op = p } t (refers a p t) refl
  effect_sets waits = wait_sets (long i.opened == 0)
  effect_sets halts = refl

  run_sets : (b : Bool) (n : Instr) → SetsBy (runs_where s most b k i n) (effect s k.registers k.pc n)
  run_sets true n = refl
  run_sets false n = effect_sets (effect s k.registers k.pc n)

  at_sets : (n : Option Instr) → (runs s most k i n).core.registers ≡ set_if k.registers (set_by_step s k (runs s most k i n).was n)
  at_sets None = refl
  at_sets (Some n) = run_sets (names_awaited n i) n

  as_sets : (a : Activity) (n : Option Instr) → (runs_as s most a k i n).core.registers ≡ set_if k.registers (set_by_step s k (runs_as s most a k i n).was n)
  as_sets Running n = at_sets n
  as_sets Halted None = refl
  as_sets Halted (Some n) = refl
  as_sets (Faulted f) None = refl
  as_sets (Faulted f) (Some n) = refl

  pub step_set : (program : List Instr) → (step_of s most program k i).core.registers ≡ set_if k.registers (set_by_step s k (step_of s most program k i).was (slice_get program k.pc))
  step_set program = as_sets k.activity (slice_get program k.pc)

-- what was set is there
set_is_in : (r : List ℕ) (o : Option Setting) → IsSetIn (set_if r o) o
set_is_in r None = tt
set_is_in r (Some s) = λ h. get_or-set_same r s.register s.value 0 (omega (arith, h, length-set r s.register s.value))

pub is_in : (r now : List ℕ) (o : Option Setting) → now ≡ set_if r o → IsSetIn now o
is_in r now o is = subst (λ xs. IsSetIn xs o) (sym is) (set_is_in r o)

-- ---- of a run
registers_append : (r : List ℕ) (xs ys : List Setting) → registers_after r (xs ++ ys) ≡ registers_after (registers_after r xs) ys
registers_append r [] ys = refl
registers_append r (x ∷ xs) ys = registers_append (slice_set r x.register x.value) xs ys

module _ (c : Settings) (program : List Instr) where
  one_more : (a n b : ℕ) → a + n ≡ b → range_with_len a (suc n) ≡ range_with_len a n ++ b ∷ []
  one_more a zero b e = let same : a ≡ b = omega arith in ap (λ k. k ∷ []) same
  one_more a (suc n) b e = let rest = one_more (a + 1) n b in grind arith

  abbrev set_in_cycle : ℕ → ℕ → List Setting
  set_in_cycle p n = option_to_list (delivery_sets c program n p) ++ option_to_list (step_sets c program n p)

  settings_more : (p n : ℕ) → register_settings c program (suc n) p ≡ register_settings c program n p ++ set_in_cycle p n
  unfolding register_settings
  settings_more p n =
      ap (flat_map (set_in_cycle p)) (one_more 0 n n (omega arith))
      ∙ flat_map-append (set_in_cycle p) (range_with_len 0 n) (n ∷ [])
      ∙ ap (λ xs. flat_map (set_in_cycle p) (range_with_len 0 n) ++ xs) (append-nil (set_in_cycle p n))

  cycle_sets : (p n : ℕ) → p < size c → (element_at (after c program (suc n)) p).core.registers ≡ registers_after (element_at (after c program n) p).core.registers (set_in_cycle p n)
  cycle_sets p n h =
      let e = element_at (before_steps c program n) p in
      let first : e.core.registers ≡ set_if (element_at (after c program n) p).core.registers (delivery_sets c program n p) = ap (λ (e : Element). e.core.registers) (element_before c program n p h) ∙ delivery_set (element_at (after c program n) p) (delivered c (after c program n) p) in
      let next : n + 1 ≡ suc n = omega arith in
      ap (λ k. (element_at (after c program k) p).core.registers) (sym next)
      ∙ ap (λ (e : Element). e.core.registers) (element_after c program n p h)
      ∙ step_set (site c p) c.most_open e.core e.interface program
      ∙ ap (λ r. set_if r (step_sets c program n p)) first
      ∙ sym (registers_append (element_at (after c program n) p).core.registers (option_to_list (delivery_sets c program n p)) (option_to_list (step_sets c program n p)))

  pub registers_are : (n p : ℕ) → p < size c → (element_at (after c program n) p).core.registers ≡ registers_after (replicate 16 0) (register_settings c program n p)
  unfolding register_settings after
  registers_are zero p h = ap (λ (e : Element). e.core.registers) (element-start c p h)
  registers_are (suc n) p h =
      cycle_sets p n h
      ∙ ap (λ r. registers_after r (set_in_cycle p n)) (registers_are n p h)
      ∙ sym (registers_append (replicate 16 0) (register_settings c program n p) (set_in_cycle p n))
      ∙ ap (registers_after (replicate 16 0)) (sym (settings_more p n))
