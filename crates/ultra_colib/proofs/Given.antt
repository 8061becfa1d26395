-- what is known of results, and of parameters that were tested
use Rattle.std.proofs.Common.{◌≡◌, ℕ, ◌≤◌, true, sym, subst}
use Rattle.std.specs.Prelude.{Result, Ok, Err, IfOk, nat_le}
use Rattle.std.proofs.lemmas.Bool.{and_parts, leb-true}
use Rattle.ultra_colib.specs.Parameters.{barrier_takes, queue_takes}

-- what holds of a value holds of a result that is that value where it is well
pub well : {X : Type 0} {E : Type 0} (P : X → Type 0) (x : X) (r : Result X E) → IfOk r (λ y. y ≡ x) → P x → IfOk r P
well P x (Ok y) e h = subst P (sym e) h
well P x (Err f) e h = tt

-- the rounds that a program takes are in their range
pub rounds_taken : (rounds : ℕ) → barrier_takes rounds ≡ true → (1 ≤ rounds) × (rounds ≤ 1000)
rounds_taken rounds h =
    let p = and_parts (nat_le 1 rounds) (nat_le rounds 1000) h in
    (leb-true 1 rounds p.0, leb-true rounds 1000 p.1)

-- the parameters that a queue takes are in theirs
pub queue_taken : (z rounds : ℕ) → queue_takes z rounds ≡ true → (z ≤ 6) × (1 ≤ rounds) × (rounds ≤ 1000)
queue_taken z rounds h =
    let p = and_parts (nat_le z 6) (barrier_takes rounds) h in
    let r = rounds_taken rounds p.1 in
    (leb-true z 6 p.0, r.0, r.1)
