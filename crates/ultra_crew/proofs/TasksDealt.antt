-- what a worker is dealt, block after block
use Rattle.std.proofs.Common.{◌≡◌, ◌≢◌, ℕ, ◌+◌, ◌%◌, ◌<◌, List, [], ◌∷◌, ◌++◌, Bool, arith, ap, ◌∙◌, sym, length, get_or, set, ⊎_elim, Vec, Global, eq-eqb, cond}
use Rattle.std.proofs.lemmas.{Bool.{cases_eq, ne_eqb}, List.{get_or-set_same, get_or-set_other, append-nil, Elements.filter-append}}
use Rattle.ultra_block_core.specs.BlockState.{BlockState}
use Rattle.ultra_crew.specs.{Tasks.{task, tasks_from, is_of_worker, team}, declared.task.BlockTask.BlockTask}

pub tasks_more : (k : ℕ) (bs : List BlockState) (b : BlockState) → tasks_from k (bs ++ b ∷ []) ≡ tasks_from k bs ++ task (k + length bs) b ∷ []
tasks_more k [] b = let e : k ≡ k + 0 = omega arith in ap (λ n. task n b ∷ []) e
tasks_more k (a ∷ bs) b =
    let e : k + 1 + length bs ≡ k + length (a ∷ bs) = omega arith in
    ap (λ ts. task k a ∷ ts) (tasks_more (k + 1) bs b ∙ ap (λ n. tasks_from (k + 1) bs ++ task n b ∷ []) e)

-- a task is in the team of its worker, and in no other
pub in_team : (workers w : ℕ) (t : BlockTask) (ts : List BlockTask) → t.number % workers ≡ w → team workers w (t ∷ ts) ≡ t ∷ team workers w ts
in_team workers w t ts e = ap (λ (q : Bool). cond q (t ∷ team workers w ts) (team workers w ts)) (eq-eqb (t.number % workers) w e)

pub not_in_team : (workers w : ℕ) (t : BlockTask) (ts : List BlockTask) → t.number % workers ≢ w → team workers w (t ∷ ts) ≡ team workers w ts
not_in_team workers w t ts n = ap (λ (q : Bool). cond q (t ∷ team workers w ts) (team workers w ts)) (ne_eqb (t.number % workers) w n)

module _ (workers : ℕ) (ts : List BlockTask) (t : BlockTask) (xs : List (Vec BlockTask Global)) (v : Vec BlockTask Global) where
  pub dealt_next : ((w : ℕ) (d : Vec BlockTask Global) → w < workers → (get_or xs w d).items ≡ team workers w ts) → length xs ≡ workers
      → (k : ℕ) → k ≡ t.number → (was : Vec BlockTask Global) → was ≡ get_or xs (k % workers) was → v.items ≡ was.items ++ t ∷ []
      → (w : ℕ) (d : Vec BlockTask Global) → w < workers → (get_or (set xs (k % workers) v) w d).items ≡ team workers w (ts ++ t ∷ [])
  dealt_next each len k e was found added w d l =
      ⊎_elim
      (λ (same : k % workers ≡ w).
      let here : w < length xs = omega arith in
      ap (λ j. (get_or (set xs j v) w d).items) same
      ∙ ap (λ u. u.items) (get_or-set_same xs w v d here)
      ∙ added
      ∙ ap (λ u. u.items ++ t ∷ []) found ∙ ap (λ j. (get_or xs j was).items ++ t ∷ []) same
      ∙ ap (λ us. us ++ t ∷ []) (each w was l)
      ∙ ap (λ us. team workers w ts ++ us) (sym (in_team workers w t [] (ap (λ n. n % workers) (sym e) ∙ same)))
      ∙ sym (filter-append (is_of_worker workers w) ts (t ∷ [])))
      (λ (other : k % workers ≢ w).
      ap (λ u. u.items) (get_or-set_other xs (k % workers) w v d (λ x. other (sym x)))
      ∙ each w d l
      ∙ sym (append-nil (team workers w ts))
      ∙ ap (λ us. team workers w ts ++ us) (sym (not_in_team workers w t [] (λ x. other (ap (λ n. n % workers) e ∙ x))))
      ∙ sym (filter-append (is_of_worker workers w) ts (t ∷ [])))
      (cases_eq (k % workers) w)
