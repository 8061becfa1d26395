-- the texts of the entries of one line
use Rattle.std.proofs.Common.{ℕ, zero, suc, ◌≡◌, ◌+◌, ◌<◌, ◌≤◌, List, [], ◌∷◌, ◌++◌, length, take, Option, Some, arith, append_assoc, append-nil, codes, slice_get}
use Rattle.std.specs.{List.flat_map, Option.option_map}
use Rattle.ultra_msg.specs.declared.{Request.Request, ReplyMessage.ReplyMessage}
use Rattle.ultra_mem.specs.declared.Placed.{Placed}
use Rattle.ultra_model.specs.{Text.{newline, comma_separated, request_text, message_text}, Trace.{place_line, unit_name, inp_line, out_line, unless_zero}}

module _ {X : Type 0} (text : X → List ℕ) where
  others : List X → List ℕ
  others xs = flat_map (λ y. codes ", " ++ text y) xs

  others_more : (xs : List X) (i : ℕ) (x : X) → slice_get xs i ≡ Some x → others (take (suc i) xs) ≡ others (take i xs) ++ (codes ", " ++ text x)
  unfolding others
  others_more [] i x e = absurd cc
  others_more (y ∷ ys) zero x e = let same : y ≡ x = cc in rw same (append-nil (codes ", " ++ text x))
  others_more (y ∷ ys) (suc i) x e = let rest = others_more ys i x in grind (arith, append_assoc)

  -- the entries up to an index, and the one there
  pub more_listed : (xs : List X) (i : ℕ) (x : X) → 1 ≤ i → slice_get xs i ≡ Some x → comma_separated text (take (i + 1) xs) ≡ comma_separated text (take i xs) ++ codes ", " ++ text x
  unfolding others
  more_listed [] i x some e = absurd cc
  more_listed (y ∷ ys) zero x some e = absurd (omega arith)
  more_listed (y ∷ ys) (suc i) x some e = let rest = others_more ys i x e in grind (arith, append_assoc)

  pub line_is : (name : List ℕ) (xs : List X) → 0 < length xs → place_line name text xs ≡ name ++ codes ": " ++ (comma_separated text xs ++ newline)
  line_is name [] h = absurd (omega arith)
  line_is name (x ∷ xs) h = append_assoc (name ++ codes ": ") (comma_separated text (x ∷ xs)) newline

  pub no_line : (name : List ℕ) (xs : List X) → length xs ≡ 0 → place_line name text xs ≡ []
  no_line name xs h = grind arith

-- of a register that holds one
pub inp_line_is : (k : ℕ) (o : Option Placed) (r : Request) → Some r ≡ option_map (λ (p : Placed). p.request) o → inp_line k o ≡ unit_name (codes "inp") k ++ codes ": " ++ request_text r ++ newline
inp_line_is k o r e = grind (arith, append-nil)

pub out_line_is : (k : ℕ) (o : Option ReplyMessage) (m : ReplyMessage) → Some m ≡ o → out_line k o ≡ unit_name (codes "out") k ++ codes ": " ++ message_text m ++ newline
out_line_is k o m e = grind (arith, append-nil)

-- what is written of a value that isn't 0
pub not_zero : (v : ℕ) (text : List ℕ) → 0 < v → unless_zero v text ≡ text
not_zero v text h = grind arith
