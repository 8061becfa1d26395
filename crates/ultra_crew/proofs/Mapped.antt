-- a list whose elements are changed in order
use Rattle.std.proofs.Common.{◌≡◌, ℕ, ◌+◌, ◌<◌, ◌≤◌, List, [], ◌∷◌, ◌++◌, arith, ap, ◌∙◌, sym, length, get_or, set, take, drop, append_assoc, subst, map, All}
use Rattle.std.proofs.lemmas.List.{map-append, take_more, drop_more, set_at, get_or_at, length-map, length-take-le, take_all, drop_all, append-nil}

module _ {X : Type 0} (f : X → X) where
  -- the first i are changed, the others not yet
  abbrev pub changed : ℕ → List X → List X
  changed i xs = map f (take i xs) ++ drop i xs

  front : (i : ℕ) (xs : List X) → i < length xs → length (map f (take i xs)) ≡ i
  front i xs h = length-map (take i xs) f ∙ length-take-le i xs (omega arith)

  -- the next is as it was
  pub next_is : (xs ys : List X) (i : ℕ) (d : X) → i < length xs → ys ≡ changed i xs → get_or ys i d ≡ get_or xs i d
  next_is xs ys i d h e =
      ap (λ zs. get_or zs i d) (e ∙ ap (λ zs. map f (take i xs) ++ zs) (drop_more xs i d h))
      ∙ get_or_at (map f (take i xs)) (get_or xs i d) (drop (i + 1) xs) d i (front i xs h)

  pub one_more : (xs ys : List X) (i : ℕ) (u d : X) → i < length xs → ys ≡ changed i xs → u ≡ f (get_or xs i d) → set ys i u ≡ changed (i + 1) xs
  one_more xs ys i u d h e k =
      ap (λ zs. set zs i u) (e ∙ ap (λ zs. map f (take i xs) ++ zs) (drop_more xs i d h))
      ∙ set_at (map f (take i xs)) (get_or xs i d) (drop (i + 1) xs) u i (front i xs h)
      ∙ ap (λ v. map f (take i xs) ++ (v ∷ drop (i + 1) xs)) k
      ∙ sym (append_assoc (map f (take i xs)) (f (get_or xs i d) ∷ []) (drop (i + 1) xs))
      ∙ ap (λ zs. zs ++ drop (i + 1) xs) (sym (map-append f (take i xs) (get_or xs i d ∷ [])) ∙ ap (λ zs. map f zs) (sym (take_more xs i d h)))

  pub all_done : (xs ys : List X) (i : ℕ) → length xs ≤ i → ys ≡ changed i xs → ys ≡ map f xs
  all_done xs ys i h e =
      e ∙ ap (λ zs. map f zs ++ drop i xs) (take_all i xs h) ∙ ap (λ zs. map f xs ++ zs) (drop_all i xs h) ∙ append-nil (map f xs)

  -- the next one is read, changed and written back
  pub stepped : (xs ys : List X) (i : ℕ) (u v : X) → i < length xs → ys ≡ changed i xs → u ≡ f (get_or ys i v) → set ys i u ≡ changed (i + 1) xs
  stepped xs ys i u v h e k = one_more xs ys i u v h e (k ∙ ap f (next_is xs ys i v h e))

  -- what holds of each element holds of the next one
  pub holds_next : (P : X → Type 0) (xs ys : List X) (i : ℕ) (v : X) → i < length xs → ys ≡ changed i xs → All P xs → P (get_or ys i v)
  holds_next P xs ys i v h e a = subst P (sym (next_is xs ys i v h e)) (a i v h)
