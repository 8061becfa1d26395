-- the next job that is written
use Rattle.std.proofs.Common.{◌≡◌, ℕ, ◌+◌, ◌<◌, List, [], ◌++◌, length, drop, get_or, ap, ◌∙◌, sym, subst, map, Vec, Global}
use Rattle.std.proofs.lemmas.List.{drop_more, get_or-map, length-map}
use Rattle.ultra_sweep.specs.Report.{texts_from}

-- what a text is, as contracts see it
abbrev pub seen : List (Vec ℕ Global) → List (List ℕ)
seen ts = map (λ t. t.items) ts

module _ (written : ℕ → List ℕ → List ℕ) where
  pub next_job : (ts : List (Vec ℕ Global)) (k : ℕ) (t : Vec ℕ Global) → k < length ts → t ≡ get_or ts k t → texts_from written k (drop k (seen ts)) ≡ written k t.items ++ texts_from written (k + 1) (drop (k + 1) (seen ts))
  next_job ts k t below at =
      let long : k < length (seen ts) = rw (length-map ts (λ (x : Vec ℕ Global). x.items)) below in
      ap (texts_from written k) (drop_more (seen ts) k [] long)
      ∙ ap (λ x. written k x ++ texts_from written (k + 1) (drop (k + 1) (seen ts))) (get_or-map (λ (x : Vec ℕ Global). x.items) ts k t [] below ∙ ap (λ (x : Vec ℕ Global). x.items) (sym at))

  -- the same as a loop over the texts knows it
  pub next_of : (texts : List (List ℕ)) (ts : List (Vec ℕ Global)) (k i : ℕ) (t : Vec ℕ Global) (bytes : List ℕ) → seen ts ≡ texts → k < length ts → t ≡ get_or ts k t → bytes ≡ t.items → i ≡ k
      → texts_from written k (drop k texts) ≡ written i bytes ++ texts_from written (k + 1) (drop (k + 1) texts)
  next_of texts ts k i t bytes view below at same number =
      rw (same, number) (subst (λ us. texts_from written k (drop k us) ≡ written k t.items ++ texts_from written (k + 1) (drop (k + 1) us)) view (next_job ts k t below at))
