-- An item that is taken out of a list: those behind it move forward, one by one.
use Rattle.std.proofs.Common.{◌≡◌, ℕ, zero, suc, ◌<◌, ◌≤◌, ◌+◌, ◌-◌, ◌∙◌, List, [], ◌∷◌, ◌++◌, take, drop, length, set, get_or, ap, sym, arith, length-set}
use Rattle.std.proofs.lemmas.List.{append-nil, drop_all, get_or-append-add, get_or-drop, length-take, take_all}
use Rattle.std.proofs.lemmas.List.Edits.{get_or-remove_above, length-remove}
use Rattle.std.specs.List.{refill, remove}

module _ {X : Type 0} where
  refill_whole : (xs ws : List X) → length ws ≡ length xs → refill (length xs) xs ws ≡ ws
  refill_whole xs ws same =
      let none = drop_all (length ws) xs (omega arith) in
      ap (λ ys. take (length xs) (ws ++ ys)) none ∙ ap (take (length xs)) (append-nil ws) ∙ take_all (length xs) ws (omega arith)

  -- one more item of a list that begins as `rs` and goes on as `xs`
  one_more : (rs xs : List X) (n : ℕ) (x : X) → n < length rs → n < length xs → x ≡ get_or rs n x → set (take n rs ++ drop n xs) n x ≡ take (suc n) rs ++ drop (suc n) xs
  one_more [] xs n x fewer within is = absurd (omega arith)
  one_more (r ∷ rs) [] n x fewer within is = absurd (omega arith)
  one_more (r ∷ rs) (y ∷ xs) zero x fewer within is = ap (λ w. w ∷ xs) is
  one_more (r ∷ rs) (y ∷ xs) (suc n) x fewer within is = ap (λ l. r ∷ l) (one_more rs xs n x (omega (arith, fewer)) (omega (arith, within)) is)

  -- those behind `place` have moved, below `at`
  pub record HasMoved (xs : List X) (place at : ℕ) (now : List X) : Type 0 where
    pub after : place < at
    pub within : at ≤ length xs
    pub are : now ≡ take (at - 1) (remove xs place) ++ drop (at - 1) xs

  pub moved_on : (xs now same : List X) (place at : ℕ) (x : X) → HasMoved xs place at now → at < length xs → x ≡ get_or now at x → same ≡ now
      → HasMoved xs place (at + 1) (refill (length now) now (set same (at - 1) x))
  moved_on xs now same place at x moved more is equal = record {
    after = omega (arith, moved.after);
    within = omega (arith, more);
    are =
        let n = at - 1 in
        let rs = remove xs place in
        let shorter = length-remove xs place (omega (arith, moved.after, moved.within)) in
        let front : length (take n rs) ≡ n = omega (arith, length-take n rs, shorter, more) in
        let here : at ≡ length (take n rs) + 1 = omega (arith, front, moved.after) in
        let behind : x ≡ get_or xs at x = is ∙ ap (λ l. get_or l at x) moved.are ∙ ap (λ k. get_or (take n rs ++ drop n xs) k x) here ∙ get_or-append-add (take n rs) (drop n xs) 1 x ∙ get_or-drop n xs 1 x ∙ ap (λ k. get_or xs k x) (omega (arith, moved.after)) in
        let read : x ≡ get_or rs n x = behind ∙ ap (λ k. get_or xs k x) (omega (arith, moved.after)) ∙ sym (get_or-remove_above xs place x n (omega (arith, moved.after)) (omega (arith, moved.after, moved.within))) in
        let next : suc n ≡ at + 1 - 1 = omega (arith, moved.after) in
        refill_whole now (set same n x) (length-set same n x ∙ ap length equal) ∙ ap (λ l. set l n x) (equal ∙ moved.are) ∙ one_more rs xs n x (omega (arith, shorter, more, moved.after)) (omega (arith, more)) read ∙ ap (λ k. take k rs ++ drop k xs) next;
  }
