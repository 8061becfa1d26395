-- What blocks have somewhere, where at most one has it.
use Rattle.std.proofs.Common.{◌≡◌, ◌≢◌, ℕ, zero, suc, ◌<◌, List, [], ◌∷◌, map, Option, None, length, refl, arith}
use Rattle.ultra_partition.proofs.Common.{get_or-map, ext_get_or, length-map, first, block_at, no_block, BlockState}

module _ {X : Type 0} (g : BlockState → Option X) where
  -- no block has it
  pub column_none : (bs : List BlockState) → first (map g bs) ≡ None → (k : ℕ) → k < length bs → g (block_at bs k) ≡ None
  column_none [] none k within = absurd (omega arith)
  column_none (b ∷ bs) none zero within = grind arith
  column_none (b ∷ bs) none (suc k) within = let rest : first (map g bs) ≡ None = grind arith in column_none bs rest k (omega arith)

  pub column_empty : (bs : List BlockState) → ((k : ℕ) → k < length bs → g (block_at bs k) ≡ None) → first (map g bs) ≡ None
  column_empty [] none = refl
  column_empty (b ∷ bs) none = let rest = column_empty bs (λ k h. none (suc k) (omega arith)) in grind (arith, none zero)

  -- block h alone has it
  pub column_first : (bs : List BlockState) (h : ℕ) → h < length bs → ((k : ℕ) → k < length bs → k ≢ h → g (block_at bs k) ≡ None) → first (map g bs) ≡ g (block_at bs h)
  column_first [] h within away = absurd (omega arith)
  column_first (b ∷ bs) zero within away = let rest = column_empty bs (λ k h. away (suc k) (omega arith) (λ e. absurd (omega arith))) in grind arith
  column_first (b ∷ bs) (suc h) within away = grind (arith, away zero, column_first bs h (omega arith) (λ k l other. away (suc k) (omega arith) (λ e. other (omega arith))))

-- as many blocks have this, where those had that
pub same_entries : {X : Type 0} (f g : BlockState → X) (old now : List BlockState) → length now ≡ length old → ((k : ℕ) → k < length old → g (block_at now k) ≡ f (block_at old k)) → map g now ≡ map f old
same_entries f g old now count same =
    ext_get_or (g no_block) (map g now) (map f old) (grind (arith, length-map)) (λ k h. grind (arith, length-map, get_or-map g now k no_block (g no_block), get_or-map f old k no_block (g no_block), same k))

-- the blocks after something was done to each
pub changed_at : (f : BlockState → BlockState) (bs : List BlockState) (k : ℕ) → k < length bs → block_at (map f bs) k ≡ f (block_at bs k)
changed_at f bs k within = get_or-map f bs k no_block no_block within
