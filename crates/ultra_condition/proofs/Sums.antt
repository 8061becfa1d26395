-- counts over the state of each processing element
use Rattle.std.proofs.Common.{◌≡◌, ◌∙◌, ℕ, ◌+◌, Bool, cond, List, [], ◌∷◌, map, refl, sym, ap, arith}
use Rattle.std.specs.List.{sum_by, count_by}
use Rattle.std.proofs.lemmas.List.Sums.{sum_by-cons}

sum_by-map : {X Y : Type 0} (f : Y → ℕ) (g : X → Y) (xs : List X) → sum_by f (map g xs) ≡ sum_by (λ x. f (g x)) xs
sum_by-map f g [] = refl
sum_by-map f g (x ∷ xs) = sum_by-cons f (g x) (map g xs) ∙ ap (λ n. f (g x) + n) (sum_by-map f g xs) ∙ sym (sum_by-cons (λ x. f (g x)) x xs)

pub count_by-map : {X Y : Type 0} (p : Y → Bool) (g : X → Y) (xs : List X) → count_by p (map g xs) ≡ count_by (λ x. p (g x)) xs
count_by-map p g xs = sum_by-map (λ y. cond (p y) 1 0) g xs
