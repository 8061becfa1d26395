-- messages as words: what stands for an operation and for a reply
use Rattle.std.specs.Prelude.{◌≡◌, ℕ, zero, suc}
use Rattle.ultra_msg.specs.declared.{Op.{Op, TheVariants.{Load, Store, Faa, Swap}}, Reply.{Reply, TheVariants.{Value, Ack}}}

-- ---- an operation: its kind, and its operand
abbrev pub op_of : ℕ → ℕ → Op
op_of zero word = Load
op_of (suc zero) word = Store word
op_of (suc (suc zero)) word = Faa word
op_of (suc (suc (suc kind))) word = Swap word

abbrev pub kind_of : Op → ℕ
kind_of Load = 0
kind_of (Store word) = 1
kind_of (Faa word) = 2
kind_of (Swap word) = 3

abbrev pub word_of : Op → ℕ
word_of Load = 0
word_of (Store word) = word
word_of (Faa word) = word
word_of (Swap word) = word

-- the two words stand for an operation, and no others do
pub record IsOp (k w : ℕ) : Type 0 where
  pub kind : k ≡ kind_of (op_of k w)
  pub word : w ≡ word_of (op_of k w)

-- ---- a reply: whether it is a value, and the value
abbrev pub reply_of : ℕ → ℕ → Reply
reply_of zero word = Ack
reply_of (suc kind) word = Value word

abbrev pub kind_of_reply : Reply → ℕ
kind_of_reply Ack = 0
kind_of_reply (Value word) = 1

abbrev pub word_of_reply : Reply → ℕ
word_of_reply Ack = 0
word_of_reply (Value word) = word

pub record IsReply (k w : ℕ) : Type 0 where
  pub kind : k ≡ kind_of_reply (reply_of k w)
  pub word : w ≡ word_of_reply (reply_of k w)
