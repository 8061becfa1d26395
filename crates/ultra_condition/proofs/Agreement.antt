-- conditions depend on what they name, and on nothing else
use Rattle.std.proofs.Common.{◌≡◌, ◌∙◌, ℕ, zero, suc, ◌+◌, ◌*◌, Bool, true, false, not, ◌&&◌, ◌||◌, nat_le, nat_lt, List, [], ◌∷◌, length, get_or, cond, refl, sym, ap, arith}
use Rattle.std.specs.List.{count_by, list_any, list_all}
use Rattle.std.proofs.lemmas.{Bool.{true≢false, and_from, and_parts, eq-eqb}, List.Sums.sum_by-cons}
use Rattle.ultra_isa.specs.Step.{Core, fresh_core}
use Rattle.ultra_para.specs.Para.{Para, core_at}
use Rattle.ultra_condition.specs.{declared.value.{Group.Group, Term.Term, Value.Value}, Condition.{Condition, compare, negate, both, either}, Meaning.{is_running, is_halted, is_faulted, is_counted, measure_of, words_from, value_in, term_in, sum_in, compares, holds}, Naming.{value_names, sum_names, names_register, AgreeOn, SumAgreementLaw, AgreementLaw, value_is_of_cells, sum_is_of_cells, is_of_cells, CellsLaw}}
use Rattle.ultra_condition.specs.declared.value.Group.TheVariants as group
use Rattle.ultra_condition.specs.declared.value.Value.TheVariants.{One, Cells, Register, Elements}

pub or_left : (a b : Bool) → a ≡ true → (a || b) ≡ true
or_left true b h = refl
or_left false b h = absurd (true≢false (sym h))

pub or_right : (a b : Bool) → b ≡ true → (a || b) ≡ true
or_right true b h = refl
or_right false b h = h

-- ---- counts
is_in_same : (g : Group) (x y : Core) → x.pc ≡ y.pc → x.activity ≡ y.activity → is_counted g x ≡ is_counted g y
is_in_same group.Running x y hp ha = ap is_running ha
is_in_same group.Halted x y hp ha = ap is_halted ha
is_in_same group.Faulted x y hp ha = ap is_faulted ha
is_in_same (group.At from to) x y hp ha = λ i. is_running (ha i) && (nat_le from (hp i) && nat_lt (hp i) to)

count_same : (g : Group) (xs ys : List Core) → length xs ≡ length ys → ((p : ℕ) → (get_or xs p fresh_core).pc ≡ (get_or ys p fresh_core).pc) → ((p : ℕ) → (get_or xs p fresh_core).activity ≡ (get_or ys p fresh_core).activity) → count_by (is_counted g) xs ≡ count_by (is_counted g) ys
count_same g [] [] n hp ha = refl
count_same g [] (y ∷ ys) n hp ha = absurd (omega (arith, n))
count_same g (x ∷ xs) [] n hp ha = absurd (omega (arith, n))
count_same g (x ∷ xs) (y ∷ ys) n hp ha =
    let f = λ (c : Core). cond (is_counted g c) 1 0 in
    let head : f x ≡ f y = ap (λ b. cond b 1 0) (is_in_same g x y (hp 0) (ha 0)) in
    let tail = count_same g xs ys (omega (arith, n)) (λ p. hp (suc p)) (λ p. ha (suc p)) in
    sum_by-cons f x xs ∙ (λ i. head i + tail i) ∙ sym (sum_by-cons f y ys)

-- ---- values and sums
module _ (v w : Para) where
  fewer : (n m : ℕ → ℕ → Bool) → ((p r : ℕ) → n p r ≡ true → m p r ≡ true) → AgreeOn m v w → AgreeOn n v w
  fewer n m up h = record {
    cells = h.cells;
    elements = h.elements;
    places = h.places;
    activities = h.activities;
    registers = λ p r named. h.registers p r (up p r named);
  }

  value_same : (x : Value) → AgreeOn (λ p r. value_names p r x) v w → value_in v x ≡ value_in w x
  value_same One h = refl
  value_same (Cells m a b) h = ap (λ cells. measure_of m (words_from cells a b)) h.cells
  value_same (Register p r) h = h.registers p r (and_from _ _ (eq-eqb p p refl) (eq-eqb r r refl))
  value_same (Elements g) h = count_same g v.cores w.cores h.elements h.places h.activities

  pub sum_same : (ts : List Term) → AgreeOn (λ p r. sum_names p r ts) v w → sum_in v ts ≡ sum_in w ts
  sum_same [] h = refl
  sum_same (t ∷ ts) h =
      let here = value_same t.value (fewer (λ p r. value_names p r t.value) (λ p r. sum_names p r (t ∷ ts)) (λ p r e. or_left _ _ e) h) in
      let more = sum_same ts (fewer (λ p r. sum_names p r ts) (λ p r. sum_names p r (t ∷ ts)) (λ p r e. or_right (value_names p r t.value) _ e) h) in
      sum_by-cons (term_in v) t ts ∙ (λ i. t.factor * here i + more i) ∙ sym (sum_by-cons (term_in w) t ts)

  pub condition_same : (c : Condition) → AgreeOn (λ p r. names_register p r c) v w → holds c v ≡ holds c w
  condition_same (compare a s b) h =
      let left = sum_same a (fewer (λ p r. sum_names p r a) (λ p r. names_register p r (compare a s b)) (λ p r e. or_left _ _ e) h) in
      let right = sum_same b (fewer (λ p r. sum_names p r b) (λ p r. names_register p r (compare a s b)) (λ p r e. or_right (sum_names p r a) _ e) h) in
      λ i. compares s (left i) (right i)
  condition_same (negate c) h = ap not (condition_same c h)
  condition_same (both c d) h =
      let left = condition_same c (fewer (λ p r. names_register p r c) (λ p r. names_register p r (both c d)) (λ p r e. or_left _ _ e) h) in
      let right = condition_same d (fewer (λ p r. names_register p r d) (λ p r. names_register p r (both c d)) (λ p r e. or_right (names_register p r c) _ e) h) in
      λ i. left i && right i
  condition_same (either c d) h =
      let left = condition_same c (fewer (λ p r. names_register p r c) (λ p r. names_register p r (either c d)) (λ p r e. or_left _ _ e) h) in
      let right = condition_same d (fewer (λ p r. names_register p r d) (λ p r. names_register p r (either c d)) (λ p r e. or_right (names_register p r c) _ e) h) in
      λ i. left i || right i

  -- ---- cells alone
  value_of_cells : (x : Value) → value_is_of_cells x ≡ true → v.cells ≡ w.cells → value_in v x ≡ value_in w x
  value_of_cells One e h = refl
  value_of_cells (Cells m a b) e h = ap (λ cells. measure_of m (words_from cells a b)) h
  value_of_cells (Register p r) e h = absurd (true≢false (sym e))
  value_of_cells (Elements g) e h = absurd (true≢false (sym e))

  sum_of_cells : (ts : List Term) → sum_is_of_cells ts ≡ true → v.cells ≡ w.cells → sum_in v ts ≡ sum_in w ts
  sum_of_cells [] e h = refl
  sum_of_cells (t ∷ ts) e h =
      let both_are = and_parts _ _ e in
      let here = value_of_cells t.value both_are.0 h in
      let more = sum_of_cells ts both_are.1 h in
      sum_by-cons (term_in v) t ts ∙ (λ i. t.factor * here i + more i) ∙ sym (sum_by-cons (term_in w) t ts)

  pub condition_of_cells : (c : Condition) → is_of_cells c ≡ true → v.cells ≡ w.cells → holds c v ≡ holds c w
  condition_of_cells (compare a s b) e h =
      let parts = and_parts (sum_is_of_cells a) (sum_is_of_cells b) e in
      let left = sum_of_cells a parts.0 h in
      let right = sum_of_cells b parts.1 h in
      λ i. compares s (left i) (right i)
  condition_of_cells (negate c) e h = ap not (condition_of_cells c e h)
  condition_of_cells (both c d) e h =
      let parts = and_parts (is_of_cells c) (is_of_cells d) e in
      let left = condition_of_cells c parts.0 h in
      let right = condition_of_cells d parts.1 h in
      λ i. left i && right i
  condition_of_cells (either c d) e h =
      let parts = and_parts (is_of_cells c) (is_of_cells d) e in
      let left = condition_of_cells c parts.0 h in
      let right = condition_of_cells d parts.1 h in
      λ i. left i || right i

pub sum_agreement : SumAgreementLaw
sum_agreement ts v w h = sum_same v w ts h

pub agreement : AgreementLaw
agreement c v w h = condition_same v w c h

pub cells_law : CellsLaw
cells_law c v w e h = condition_of_cells v w c e h
