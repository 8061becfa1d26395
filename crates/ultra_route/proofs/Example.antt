-- a route by hand: processing element 6 to module 3, in a network of 3 stages
use Rattle.std.proofs.Common.{◌≡◌, refl, ◌∷◌, [], List, ℕ}
use Rattle.ultra_route.specs.Route.{line_of, entry_of, unshuffled}

-- the lines before each stage, and the last one
lines : List ℕ
lines = line_of 3 0 6 3 ∷ line_of 3 1 6 3 ∷ line_of 3 2 6 3 ∷ line_of 3 3 6 3 ∷ []

lines_right : lines ≡ 6 ∷ 4 ∷ 1 ∷ 3 ∷ []
unfolding lines
lines_right = refl

-- the PE-side positions at which the request enters each stage
positions : List ℕ
positions = entry_of 3 0 6 3 ∷ entry_of 3 1 6 3 ∷ entry_of 3 2 6 3 ∷ []

positions_right : positions ≡ 5 ∷ 1 ∷ 2 ∷ []
unfolding positions
positions_right = refl

-- the lines over which the reply leaves these stages: the last one is the processing element
lines_back : List ℕ
lines_back = unshuffled 3 2 ∷ unshuffled 3 1 ∷ unshuffled 3 5 ∷ []

lines_back_right : lines_back ≡ 1 ∷ 4 ∷ 6 ∷ []
unfolding lines_back
lines_back_right = refl
