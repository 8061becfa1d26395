-- The blocks of all teams, taken out in order, from the last to the first.
use Rattle.std.proofs.Common.{◌≡◌, ◌≢◌, ℕ, ◌+◌, ◌%◌, ◌<◌, ◌≤◌, List, [], ◌∷◌, ◌++◌, refl, arith, ap, ◌∙◌, sym, length, length-append, get_or, set, take, drop, reverse, ⊎_elim, Vec, Global}
use Rattle.std.proofs.lemmas.{Bool.cases_eq, List.Elements.filter-append}
use Rattle.std.proofs.lemmas.List.{append-nil, drop_more, get_or-set_other, get_or-set_same, get_or_at, length-take-le, reverse-append, take_at, take_more}
use Rattle.ultra_block_core.specs.BlockState.{BlockState}
use Rattle.ultra_crew.specs.{Tasks.{is_of_worker, task, tasks_from, team}, declared.task.BlockTask.BlockTask}
use Rattle.ultra_crew.proofs.TasksDealt.{in_team, not_in_team, tasks_more}

-- two lists with one more element each are equal: so are the lists, and the elements
same_length : (xs ys : List BlockTask) (x y : BlockTask) → xs ++ x ∷ [] ≡ ys ++ y ∷ [] → length xs ≡ length ys
same_length xs ys x y e =
    let k = ap length e in let a = length-append xs (x ∷ []) in let b = length-append ys (y ∷ []) in omega (arith, k, a, b)

same_lists : (xs ys : List BlockTask) (x y : BlockTask) → xs ++ x ∷ [] ≡ ys ++ y ∷ [] → xs ≡ ys
same_lists xs ys x y e =
    sym (take_at xs (x ∷ []) (length xs) refl) ∙ ap (take (length xs)) e ∙ take_at ys (y ∷ []) (length xs) (sym (same_length xs ys x y e))

same_last : (xs ys : List BlockTask) (x y : BlockTask) → xs ++ x ∷ [] ≡ ys ++ y ∷ [] → x ≡ y
same_last xs ys x y e =
    sym (get_or_at xs x [] x (length xs) refl) ∙ ap (λ zs. get_or zs (length xs) x) e ∙ get_or_at ys y [] x (length xs) (sym (same_length xs ys x y e))

pub none_left : {X : Type 0} (xs : List X) (k : ℕ) → k ≡ 0 → take k xs ≡ []
none_left xs k e = ap (λ n. take n xs) e

-- of the blocks the first are left, block k the last of them, and of these each worker has its own
module _ (workers : ℕ) (some_worker : 1 ≤ workers) (bs : List BlockState) (k : ℕ) (below : k < length bs) (xs : List (Vec BlockTask Global)) (len : length xs ≡ workers)
    (each : (w : ℕ) (d : Vec BlockTask Global) → w < workers → (get_or xs w d).items ≡ team workers w (tasks_from 0 (take (k + 1) bs)))
    (was : Vec BlockTask Global) (found : was ≡ get_or xs (k % workers) was) where
  tasks_left : (d : BlockState) → tasks_from 0 (take (k + 1) bs) ≡ tasks_from 0 (take k bs) ++ task k (get_or bs k d) ∷ []
  tasks_left d =
      let count : 0 + length (take k bs) ≡ k = let e = length-take-le k bs (omega arith) in omega (arith, e) in
      ap (tasks_from 0) (take_more bs k d below) ∙ tasks_more 0 (take k bs) (get_or bs k d)
      ∙ ap (λ n. tasks_from 0 (take k bs) ++ task n (get_or bs k d) ∷ []) count

  team_left : (w : ℕ) (d : BlockState) → team workers w (tasks_from 0 (take (k + 1) bs)) ≡ team workers w (tasks_from 0 (take k bs)) ++ team workers w (task k (get_or bs k d) ∷ [])
  team_left w d = ap (team workers w) (tasks_left d) ∙ filter-append (is_of_worker workers w) (tasks_from 0 (take k bs)) (task k (get_or bs k d) ∷ [])

  -- the worker whose turn it is has block k
  in_turn : (d : BlockState) → was.items ≡ team workers (k % workers) (tasks_from 0 (take k bs)) ++ task k (get_or bs k d) ∷ []
  in_turn d =
      let mine : k % workers < workers = omega arith in
      ap (λ (v : Vec BlockTask Global). v.items) found
      ∙ each (k % workers) was mine
      ∙ team_left (k % workers) d
      ∙ ap (λ ts. team workers (k % workers) (tasks_from 0 (take k bs)) ++ ts) (in_team workers (k % workers) (task k (get_or bs k d)) [] refl)

  first_block : (ys : List BlockState) → 0 < length ys → BlockState
  first_block [] some = absurd (omega (arith, some))
  first_block (b ∷ ys) some = b

  pub not_done : length was.items ≢ 0
  not_done none =
      let b = first_block bs (omega arith) in
      let all = ap length (in_turn b) in
      let parts = length-append (team workers (k % workers) (tasks_from 0 (take k bs))) (task k (get_or bs k b) ∷ []) in
      absurd (omega (arith, all, parts, none))

  module _ (t : BlockTask) (v : Vec BlockTask Global) (took : was.items ≡ v.items ++ t ∷ []) where
    block_is : t.block ≡ get_or bs k t.block
    block_is = ap (λ (u : BlockTask). u.block) (same_last v.items (team workers (k % workers) (tasks_from 0 (take k bs))) t (task k (get_or bs k t.block)) (sym took ∙ in_turn t.block))

    rest_is : v.items ≡ team workers (k % workers) (tasks_from 0 (take k bs))
    rest_is = same_lists v.items (team workers (k % workers) (tasks_from 0 (take k bs))) t (task k (get_or bs k t.block)) (sym took ∙ in_turn t.block)

    pub gathered_next : (so_far : List BlockState) → so_far ≡ reverse (drop (k + 1) bs) → so_far ++ t.block ∷ [] ≡ reverse (drop k bs)
    gathered_next so_far e =
        ap (λ l. l ++ t.block ∷ []) e ∙ ap (λ b. reverse (drop (k + 1) bs) ++ b ∷ []) block_is
        ∙ sym (reverse-append (get_or bs k t.block ∷ []) (drop (k + 1) bs)) ∙ ap reverse (sym (drop_more bs k t.block below))

    pub left_next : (w : ℕ) (d : Vec BlockTask Global) → w < workers → (get_or (set xs (k % workers) v) w d).items ≡ team workers w (tasks_from 0 (take k bs))
    left_next w d l =
        ⊎_elim
        (λ (same : k % workers ≡ w).
        let here : w < length xs = omega arith in
        ap (λ j. (get_or (set xs j v) w d).items) same
        ∙ ap (λ (u : Vec BlockTask Global). u.items) (get_or-set_same xs w v d here)
        ∙ rest_is
        ∙ ap (λ j. team workers j (tasks_from 0 (take k bs))) same)
        (λ (other : k % workers ≢ w).
        ap (λ (u : Vec BlockTask Global). u.items) (get_or-set_other xs (k % workers) w v d (λ e. other (sym e)))
        ∙ each w d l
        ∙ team_left w t.block
        ∙ ap (λ ts. team workers w (tasks_from 0 (take k bs)) ++ ts) (not_in_team workers w (task k (get_or bs k t.block)) [] other)
        ∙ append-nil (team workers w (tasks_from 0 (take k bs))))
        (cases_eq (k % workers) w)
