-- the schedule that is drawn from a number, step by step
use Rattle.std.proofs.Common.{◌≡◌, ℕ, zero, suc, ◌+◌, ◌-◌, ◌/◌, ◌^◌, ◌<◌, List, [], ◌∷◌, ◌++◌, length, true, false, refl, sym, ◌∙◌, ap, subst, arith, append_assoc, append-nil}
use Rattle.std.proofs.lemmas.List.{length_push}
use Rattle.ultra_isa.specs.declared.Instr.{Instr}
use Rattle.ultra_model.specs.Machine.{Settings}
use Rattle.ultra_para.specs.{Para.{Para, para_step}, Report.have_all_stopped}
use Rattle.ultra_para_run.specs.{ParaText.after_steps, SeededSchedule.{next_number, drawn_pe, unless_stopped, drawn_from, seeded_schedule}}
use Rattle.ultra_para_run.proofs.Made.{state_more}

module _ (c : Settings) (program : List Instr) where
  -- these steps are the first of the schedule; the others are drawn from a number on, `left` at most
  pub record AreDrawn (seed most : ℕ) (ps : List ℕ) (left x : ℕ) : Type 0 where
    pub rest : seeded_schedule c program seed most ≡ ps ++ drawn_from c program left (after_steps c program ps) x
    pub count : length ps + left ≡ most

  none_left : (v : Para) (x : ℕ) → drawn_from c program 0 v x ≡ []
  unfolding drawn_from
  none_left v x = refl

  none_running : (n : ℕ) (v : Para) (x : ℕ) → have_all_stopped v ≡ true → drawn_from c program n v x ≡ []
  unfolding drawn_from
  none_running zero v x h = refl
  none_running (suc n) v x h = ap (λ b. unless_stopped b (drawn_pe c (next_number x) ∷ drawn_from c program n (para_step c program v (drawn_pe c (next_number x))) (next_number x))) h

  one_drawn : (n : ℕ) (v : Para) (x : ℕ) → have_all_stopped v ≡ false
      → drawn_from c program (suc n) v x ≡ drawn_pe c (next_number x) ∷ drawn_from c program n (para_step c program v (drawn_pe c (next_number x))) (next_number x)
  unfolding drawn_from
  one_drawn n v x h = ap (λ b. unless_stopped b (drawn_pe c (next_number x) ∷ drawn_from c program n (para_step c program v (drawn_pe c (next_number x))) (next_number x))) h

  module _ (seed most : ℕ) where
    pub none_drawn : AreDrawn seed most [] most seed
    none_drawn = record { rest = refl; count = omega arith }

    module _ (ps : List ℕ) where
      pub drawn_more : (left x : ℕ) → AreDrawn seed most ps (suc left) x → have_all_stopped (after_steps c program ps) ≡ false
          → AreDrawn seed most (ps ++ drawn_pe c (next_number x) ∷ []) left (next_number x)
      drawn_more left x d h =
          let p = drawn_pe c (next_number x) in
          record {
            rest =
                d.rest ∙ (ap (λ qs. ps ++ qs) (one_drawn left (after_steps c program ps) x h)
                ∙ (ap (λ v. ps ++ p ∷ drawn_from c program left v (next_number x)) (sym (state_more c program ps p))
                ∙ sym (append_assoc ps (p ∷ []) (drawn_from c program left (after_steps c program (ps ++ p ∷ [])) (next_number x)))));
            count = omega (arith, d.count, length_push ps p);
          }

      pub drawn_stopped : (left x : ℕ) → AreDrawn seed most ps left x → have_all_stopped (after_steps c program ps) ≡ true → seeded_schedule c program seed most ≡ ps
      drawn_stopped left x d h = d.rest ∙ (ap (λ qs. ps ++ qs) (none_running left (after_steps c program ps) x h) ∙ append-nil ps)

      pub drawn_all : (x : ℕ) → AreDrawn seed most ps 0 x → seeded_schedule c program seed most ≡ ps
      drawn_all x d = d.rest ∙ (ap (λ qs. ps ++ qs) (none_left (after_steps c program ps) x) ∙ append-nil ps)

      -- the next step, as it is computed
      pub drawn_next : (made x y p stages : ℕ) → made < most → AreDrawn seed most ps (most - made) x → have_all_stopped (after_steps c program ps) ≡ false
          → y ≡ next_number x → stages ≡ c.stages → p ≡ y / 2 ^ (64 - stages) → AreDrawn seed most (ps ++ p ∷ []) (most - (made + 1)) y
      unfolding drawn_pe
      drawn_next made x y p stages early d h next known value =
          let left : most - made ≡ suc (most - (made + 1)) = omega arith in
          let more = drawn_more (most - (made + 1)) x (subst (λ n. AreDrawn seed most ps n x) left d) h in
          let drawn : p ≡ drawn_pe c (next_number x) = value ∙ (ap (λ z. z / 2 ^ (64 - stages)) next ∙ ap (λ n. next_number x / 2 ^ (64 - n)) known) in
          subst (λ z. AreDrawn seed most (ps ++ p ∷ []) (most - (made + 1)) z) (sym next)
          (subst (λ q. AreDrawn seed most (ps ++ q ∷ []) (most - (made + 1)) (next_number x)) (sym drawn) more)
