-- the deliveries among the events of a cycle, one by one
use Rattle.std.proofs.Common.{ℕ, zero, suc, ◌≡◌, ◌≢◌, ◌+◌, ◌<◌, ◌≤◌, List, [], ◌∷◌, ◌++◌, Bool, true, false, drop, map, add-one, refl, ap, ◌∙◌, arith}
use Rattle.std.proofs.lemmas.Bool.Decides.{nat_tests}
use mir.Val.{bool_byte}
use Rattle.std.specs.Option.{is_some}
use Rattle.std.specs.Prelude.{Option, Some, None, IfSome, slice_get, ◌==◌}
use Rattle.std.specs.List.{AllByRecursion, range_with_len}
use Rattle.ultra_msg.specs.declared.{ReplyMessage.ReplyMessage, Event.{Event, TheVariants.{Delivered, Served, Combined, Issued}}}
use Rattle.ultra_model.specs.{Places.present, Phases.delivery}
use Rattle.ultra_serial_law.proofs.Answered.{IsNoDelivery}
use Rattle.ultra_steps.specs.RegisterSettings.{reply_among}

-- what is at a place is the first of what is left there
pub first_left : {X : Type 0} (xs : List X) (i : ℕ) → slice_get xs i ≡ slice_get (drop i xs) 0
first_left [] zero = refl
first_left [] (suc i) = refl
first_left (x ∷ xs) zero = refl
first_left (x ∷ xs) (suc i) = first_left xs i

-- how many events a delivery takes
abbrev pub event_count : Option ReplyMessage → ℕ
event_count None = 0
event_count (Some r) = 1

pub counted : (o : Option ReplyMessage) (b : Bool) (k : ℕ) → b ≡ is_some o → k ≡ bool_byte b → k ≡ event_count o
counted None b k e f = f ∙ ap bool_byte e
counted (Some r) b k e f = f ∙ ap bool_byte e

pub one_at_most : (o : Option ReplyMessage) → event_count o ≤ 1
one_at_most None = omega arith
one_at_most (Some r) = omega arith

left_behind : {X : Type 0} (xs ys : List X) (i : ℕ) → drop i xs ≡ ys → drop (suc i) xs ≡ drop 1 ys
left_behind xs ys zero is = ap (drop 1) is
left_behind [] ys (suc i) is = rw (← is) refl
left_behind (x ∷ xs) ys (suc i) is = left_behind xs ys i is

none_among : (p : ℕ) (es : List Event) → AllByRecursion IsNoDelivery es → reply_among p (slice_get es 0) ≡ None
none_among p [] all = refl
none_among p (Delivered r ∷ es) all = absurd all.0
none_among p (Served k r v now ∷ es) all = refl
none_among p (Combined s x a old new first ∷ es) all = refl
none_among p (Issued r n ∷ es) all = refl

module _ (rest : List Event) where
  abbrev events_of : List (Option Event) → List Event
  events_of os = present os ++ rest

  not_first : (p a : ℕ) → p ≢ a → (o : Option ReplyMessage) (os : List (Option Event)) → IfSome o (λ r. r.pe ≡ a) → reply_among p (slice_get (events_of os) 0) ≡ None → reply_among p (slice_get (events_of (delivery o ∷ os)) 0) ≡ None
  not_first p a other None os own none = none
  not_first p a other (Some r) os own none = let no : (r.pe == p) ≡ false = grind (arith, nat_tests, own, other) in rw no refl

  is_first : (p : ℕ) (o : Option ReplyMessage) (os : List (Option Event)) → IfSome o (λ r. r.pe ≡ p) → reply_among p (slice_get (events_of os) 0) ≡ None → reply_among p (slice_get (events_of (delivery o ∷ os)) 0) ≡ o
  is_first p None os own none = none
  is_first p (Some r) os own none = let yes : (r.pe == p) ≡ true = grind (arith, nat_tests, own) in rw yes refl

  behind : (o : Option ReplyMessage) (os : List (Option Event)) → drop (event_count o) (events_of (delivery o ∷ os)) ≡ events_of os
  behind None os = refl
  behind (Some r) os = refl

module _ (rest : List Event) (f : ℕ → Option ReplyMessage) where
  abbrev given : ℕ → ℕ → List (Option Event)
  given a k = map (λ p. delivery (f p)) (range_with_len a k)

  -- the events of those from a on, k of them, and what comes after these
  abbrev pub left : ℕ → ℕ → List Event
  left a k = events_of rest (given a k)

  module _ (bound : ℕ) (own : (p : ℕ) → p < bound → IfSome (f p) (λ r. r.pe ≡ p)) (none : AllByRecursion IsNoDelivery rest) where
    none_left : (k p a : ℕ) → p < a → a + k ≤ bound → reply_among p (slice_get (left a k) 0) ≡ None
    none_left zero p a before within = none_among p rest none
    none_left (suc k) p a before within =
        let other : p ≢ a = omega arith in
        not_first rest p a other (f a) (given (a + 1) k) (own a (omega arith)) (none_left k p (a + 1) (omega arith) (omega arith))

    pub reply_is : (k p : ℕ) → p + suc k ≤ bound → (es : List Event) (next : ℕ) → drop next es ≡ left p (suc k) → reply_among p (slice_get es next) ≡ f p
    reply_is k p within es next is =
        ap (reply_among p) (first_left es next)
        ∙ ap (λ xs. reply_among p (slice_get xs 0)) is
        ∙ is_first rest p (f p) (given (p + 1) k) (own p (omega arith)) (none_left k p (p + 1) (omega arith) (omega arith))

  left_if : (k p : ℕ) (o : Option ReplyMessage) → f p ≡ o → (es : List Event) (next : ℕ) → drop next es ≡ left p (suc k) → drop (next + event_count o) es ≡ left (p + 1) k
  left_if k p None is es next left =
      let same : next + 0 ≡ next = omega arith in
      rw same (left ∙ ap (λ o. events_of rest (delivery o ∷ given (p + 1) k)) is)
  left_if k p (Some r) is es next left = rw add-one (left_behind es _ next left) ∙ ap (λ o. drop 1 (events_of rest (delivery o ∷ given (p + 1) k))) is

  pub left_next : (k p : ℕ) (es : List Event) (next : ℕ) → drop next es ≡ left p (suc k) → drop (next + event_count (f p)) es ≡ left (p + 1) k
  left_next k p es next is = left_if k p (f p) refl es next is
