-- the leaves of the requests of a row, and of all rows, as a request comes or goes
use Rattle.std.proofs.Common.{◌≡◌, ℕ, zero, suc, ◌+◌, ◌<◌, ◌≤◌, ◌%◌, ◌⊎◌, List, [], ◌∷◌, ◌++◌, length, take, drop, set, Bool, true, false, refl, sym, arith, ap, ◌∙◌, subst, ⊎_elim, inl, inr, option_to_list}
use Rattle.std.specs.Prelude.{◌≢◌, Option, Some, None, IfNone, slice_get}
use Rattle.std.specs.Global.{Vec}
use Rattle.std.proofs.lemmas.{List.append-nil, Bool.{cases_eq, cases_Bool}, Option.slice_get_past}
use Rattle.ultra_serial_law.specs.declared.records.NamedRequest.{NamedRequest}
use Rattle.ultra_serial.specs.{declared.pending_row.{PendingRequest.PendingRequest, PendingRow.PendingRow}, ByPair.{is_pair, with_item}, PendingRequests.{requests_in, chains_in}}
use Rattle.ultra_serial.specs.PendingRow.{first_if, leaves_under, items_in, leaves_in_order, last_joined, with_joined}
use Rattle.ultra_serial.proofs.{ByPair.same_pair, Places.{get_set, get_other}}

front_append : {X : Type 0} (t : Bool) (x : X) (xs ys : List X) → first_if t x (xs ++ ys) ≡ first_if t x xs ++ ys
front_append true x xs ys = refl
front_append false x xs ys = refl

front_is_item : {X : Type 0} (t : Bool) (x : X) (xs : List X) → xs ++ first_if t x [] ≡ with_item t xs x
front_is_item true x xs = refl
front_is_item false x xs = append-nil xs

pub under_append : (p a : ℕ) (rs ss : List PendingRequest) → leaves_under p a (rs ++ ss) ≡ leaves_under p a rs ++ leaves_under p a ss
under_append p a [] ss = refl
under_append p a (r ∷ rs) ss =
    ap (λ us. first_if (is_pair r.pe r.cell p a) r.leaves.items us) (under_append p a rs ss)
    ∙ front_append (is_pair r.pe r.cell p a) r.leaves.items (leaves_under p a rs) (leaves_under p a ss)

-- one request more
pub under_more : (p a : ℕ) (rs : List PendingRequest) (r : PendingRequest) → leaves_under p a (rs ++ r ∷ []) ≡ with_item (is_pair r.pe r.cell p a) (leaves_under p a rs) r.leaves.items
under_more p a rs r = under_append p a rs (r ∷ []) ∙ front_is_item (is_pair r.pe r.cell p a) r.leaves.items (leaves_under p a rs)

-- a request of another identity in front
pub under_later : (p a : ℕ) (r : PendingRequest) (rs : List PendingRequest) → is_pair r.pe r.cell p a ≡ false → leaves_under p a (r ∷ rs) ≡ leaves_under p a rs
under_later p a r rs e = ap (λ t. first_if t r.leaves.items (leaves_under p a rs)) e

split_after : {X : Type 0} (xs : List X) (i : ℕ) (x : X) → slice_get xs i ≡ Some x → xs ≡ take i xs ++ x ∷ drop (suc i) xs
split_after [] i x e = absurd cc
split_after (y ∷ ys) zero x e = ap (λ z. z ∷ ys) cc
split_after (y ∷ ys) (suc i) x e = ap (λ zs. y ∷ zs) (split_after ys i x e)

split_at : {X : Type 0} (xs : List X) (i : ℕ) (x : X) → slice_get xs i ≡ Some x → xs ≡ take i xs ++ x ∷ drop (i + 1) xs
split_at xs i x e = let next : suc i ≡ i + 1 = omega arith in split_after xs i x e ∙ ap (λ j. take i xs ++ x ∷ drop j xs) next

split_set : {X : Type 0} (xs : List X) (i : ℕ) (x y : X) → slice_get xs i ≡ Some x → set xs i y ≡ take i xs ++ y ∷ drop (suc i) xs
split_set [] i x y e = absurd cc
split_set (z ∷ zs) zero x y e = refl
split_set (z ∷ zs) (suc i) x y e = ap (λ us. z ∷ us) (split_set zs i x y e)

set_at : {X : Type 0} (xs : List X) (i : ℕ) (x y : X) → slice_get xs i ≡ Some x → set xs i y ≡ take i xs ++ y ∷ drop (i + 1) xs
set_at xs i x y e = let next : suc i ≡ i + 1 = omega arith in split_set xs i x y e ∙ ap (λ j. take i xs ++ y ∷ drop j xs) next

pub last_is_joined : (f : Bool) (new : List NamedRequest) (us : List (List NamedRequest)) (old : List NamedRequest) → last_joined f new (us ++ old ∷ []) ≡ us ++ leaves_in_order f old new ∷ []
last_is_joined f new [] old = refl
last_is_joined f new (u ∷ []) old = refl
last_is_joined f new (u ∷ v ∷ us) old = ap (λ vs. u ∷ vs) (last_is_joined f new (v ∷ us) old)

-- the latest request of an identity is taken out of a row, or joined where it is
module _ (rs : List PendingRequest) (i : ℕ) (r : PendingRequest) (p a : ℕ) (at : slice_get rs i ≡ Some r) (found : is_pair r.pe r.cell p a ≡ true) where
  abbrev before : List PendingRequest
  before = take i rs

  abbrev after : List PendingRequest
  after = drop (i + 1) rs

  here_last : (us : List PendingRequest) (s : PendingRequest) → us ≡ before ++ s ∷ after → is_pair s.pe s.cell p a ≡ true → leaves_under p a after ≡ [] → leaves_under p a us ≡ leaves_under p a before ++ s.leaves.items ∷ []
  here_last us s parts same latest =
      ap (λ vs. leaves_under p a vs) parts ∙ under_append p a before (s ∷ after)
      ∙ ap (λ t. leaves_under p a before ++ first_if t s.leaves.items (leaves_under p a after)) same
      ∙ ap (λ vs. leaves_under p a before ++ s.leaves.items ∷ vs) latest

  pub row_taken : leaves_under p a after ≡ [] → leaves_under p a rs ≡ leaves_under p a (before ++ after) ++ r.leaves.items ∷ []
  row_taken latest =
      here_last rs r (split_at rs i r at) found latest
      ∙ ap (λ us. us ++ r.leaves.items ∷ []) (sym (append-nil (leaves_under p a before)) ∙ ap (λ us. leaves_under p a before ++ us) (sym latest) ∙ sym (under_append p a before after))

  pub row_others : (q b : ℕ) → is_pair p a q b ≡ false → leaves_under q b (before ++ after) ≡ leaves_under q b rs
  row_others q b other =
      let same = same_pair r.pe r.cell p a found in
      let apart : is_pair r.pe r.cell q b ≡ false = ap (λ i. is_pair i r.cell q b) same.0 ∙ ap (λ i. is_pair p i q b) same.1 ∙ other in
      under_append q b before after ∙ ap (λ us. leaves_under q b before ++ us) (sym (under_later q b r after apart))
      ∙ sym (under_append q b before (r ∷ after)) ∙ ap (λ us. leaves_under q b us) (sym (split_at rs i r at))

  module _ (s : PendingRequest) (pe : s.pe ≡ r.pe) (cell : s.cell ≡ r.cell) (f : Bool) (new : List NamedRequest) (joined : s.leaves.items ≡ leaves_in_order f r.leaves.items new) (latest : leaves_under p a after ≡ []) where
    same_identity : (q b : ℕ) → is_pair s.pe s.cell q b ≡ is_pair r.pe r.cell q b
    same_identity q b = ap (λ i. is_pair i s.cell q b) pe ∙ ap (λ i. is_pair r.pe i q b) cell

    joined_here : leaves_under p a (set rs i s) ≡ last_joined f new (leaves_under p a rs)
    joined_here =
        here_last (set rs i s) s (set_at rs i r s at) (same_identity p a ∙ found) latest
        ∙ ap (λ us. leaves_under p a before ++ us ∷ []) joined
        ∙ sym (last_is_joined f new (leaves_under p a before) r.leaves.items)
        ∙ ap (λ us. last_joined f new us) (sym (here_last rs r (split_at rs i r at) found latest))

    joined_apart : (q b : ℕ) → is_pair r.pe r.cell q b ≡ false → leaves_under q b (set rs i s) ≡ leaves_under q b rs
    joined_apart q b apart =
        ap (λ us. leaves_under q b us) (set_at rs i r s at) ∙ under_append q b before (s ∷ after)
        ∙ ap (λ us. leaves_under q b before ++ us) (under_later q b s after (same_identity q b ∙ apart) ∙ sym (under_later q b r after apart))
        ∙ sym (under_append q b before (r ∷ after)) ∙ ap (λ us. leaves_under q b us) (sym (split_at rs i r at))

    joined_when : (q b : ℕ) (t : Bool) → is_pair p a q b ≡ t → leaves_under q b (set rs i s) ≡ with_joined t f new (leaves_under q b rs)
    joined_when q b true e =
        let here = same_pair p a q b e in
        subst (λ j. leaves_under j b (set rs i s) ≡ last_joined f new (leaves_under j b rs)) here.0 (subst (λ j. leaves_under p j (set rs i s) ≡ last_joined f new (leaves_under p j rs)) here.1 joined_here)
    joined_when q b false e =
        let same = same_pair r.pe r.cell p a found in
        joined_apart q b (ap (λ i. is_pair i r.cell q b) same.0 ∙ ap (λ i. is_pair p i q b) same.1 ∙ e)

    pub row_joined : (q b : ℕ) → leaves_under q b (set rs i s) ≡ with_joined (is_pair p a q b) f new (leaves_under q b rs)
    row_joined q b = joined_when q b (is_pair p a q b) refl

-- no row is made for an identity
module _ (rows : List PendingRow) (p a : ℕ) (past : length rows ≤ p % 64) (f : Bool) (ls : List NamedRequest) where
  no_chain : chains_in rows p a ≡ []
  no_chain = ap (λ o. leaves_under p a (requests_in o)) (slice_get_past rows (p % 64) past)

  none_when : (q b : ℕ) (t : Bool) → is_pair p a q b ≡ t → chains_in rows q b ≡ with_joined t f ls (chains_in rows q b)
  none_when q b true e =
      let here = same_pair p a q b e in
      subst (λ j. chains_in rows j b ≡ last_joined f ls (chains_in rows j b)) here.0 (subst (λ j. chains_in rows p j ≡ last_joined f ls (chains_in rows p j)) here.1 (no_chain ∙ ap (λ us. last_joined f ls us) (sym no_chain)))
  none_when q b false e = refl

  pub none_joined : (q b : ℕ) → chains_in rows q b ≡ with_joined (is_pair p a q b) f ls (chains_in rows q b)
  none_joined q b = none_when q b (is_pair p a q b) refl

-- a row changes
module _ (rows : List PendingRow) (p a : ℕ) (old new : PendingRow) (within : p % 64 < length rows) (at : slice_get rows (p % 64) ≡ Some old) where
  abbrev now : List PendingRow
  now = set rows (p % 64) new

  in_row : (b : ℕ) → chains_in rows p b ≡ leaves_under p b old.requests.items
  in_row b = ap (λ o. leaves_under p b (requests_in o)) at

  here : (q b : ℕ) → q % 64 ≡ p % 64 → chains_in rows q b ≡ leaves_under q b old.requests.items
  here q b e = ap (λ k. leaves_under q b (requests_in (slice_get rows k))) e ∙ ap (λ o. leaves_under q b (requests_in o)) at

  here_now : (q b : ℕ) → q % 64 ≡ p % 64 → chains_in now q b ≡ leaves_under q b new.requests.items
  here_now q b e = ap (λ k. leaves_under q b (requests_in (slice_get now k))) e ∙ ap (λ o. leaves_under q b (requests_in o)) (get_set rows (p % 64) new within)

  elsewhere : (q b : ℕ) → q % 64 ≢ p % 64 → chains_in now q b ≡ chains_in rows q b
  elsewhere q b e = ap (λ o. leaves_under q b (requests_in o)) (get_other rows (p % 64) (q % 64) new e)

  apart : (q b : ℕ) → q % 64 ≢ p % 64 → (is_pair p a q b ≡ true) ⊎ (is_pair p a q b ≡ false) → is_pair p a q b ≡ false
  apart q b e (inl t) = absurd (e (ap (λ i. i % 64) (sym (same_pair p a q b t).0)))
  apart q b e (inr f) = f

  -- a request is put in
  module _ (r : PendingRequest) (pe : r.pe ≡ p) (cell : r.cell ≡ a) (longer : new.requests.items ≡ old.requests.items ++ r ∷ []) where
    put_when : (q b : ℕ) → (q % 64 ≡ p % 64) ⊎ (q % 64 ≢ p % 64) → chains_in now q b ≡ with_item (is_pair p a q b) (chains_in rows q b) r.leaves.items
    put_when q b (inl e) =
        here_now q b e ∙ ap (λ us. leaves_under q b us) longer ∙ under_more q b old.requests.items r
        ∙ ap (λ i. with_item (is_pair i r.cell q b) (leaves_under q b old.requests.items) r.leaves.items) pe
        ∙ ap (λ i. with_item (is_pair p i q b) (leaves_under q b old.requests.items) r.leaves.items) cell
        ∙ ap (λ us. with_item (is_pair p a q b) us r.leaves.items) (sym (here q b e))
    put_when q b (inr e) =
        elsewhere q b e ∙ ap (λ t. with_item t (chains_in rows q b) r.leaves.items) (sym (apart q b e (cases_Bool (is_pair p a q b))))

    pub chain_put : (q b : ℕ) → chains_in now q b ≡ with_item (is_pair p a q b) (chains_in rows q b) r.leaves.items
    chain_put q b = put_when q b (cases_eq (q % 64) (p % 64))

  -- the latest request of an identity is joined
  pub chain_joined : (f : Bool) (ls : List NamedRequest) → ((q b : ℕ) → leaves_under q b new.requests.items ≡ with_joined (is_pair p a q b) f ls (leaves_under q b old.requests.items)) → (q b : ℕ) → chains_in now q b ≡ with_joined (is_pair p a q b) f ls (chains_in rows q b)
  chain_joined f ls joined q b =
      ⊎_elim
      (λ e. here_now q b e ∙ joined q b ∙ ap (λ us. with_joined (is_pair p a q b) f ls us) (sym (here q b e)))
      (λ e. elsewhere q b e ∙ ap (λ t. with_joined t f ls (chains_in rows q b)) (sym (apart q b e (cases_Bool (is_pair p a q b)))))
      (cases_eq (q % 64) (p % 64))

  -- the latest request of an identity is taken
  module _ (r : Option (Vec NamedRequest)) where
    pub chain_taken : leaves_under p a old.requests.items ≡ leaves_under p a new.requests.items ++ option_to_list (items_in r) → chains_in rows p a ≡ chains_in now p a ++ option_to_list (items_in r)
    chain_taken e = in_row a ∙ e ∙ ap (λ us. us ++ option_to_list (items_in r)) (sym (here_now p a refl))

    pub chain_others : ((q b : ℕ) → is_pair p a q b ≡ false → leaves_under q b new.requests.items ≡ leaves_under q b old.requests.items) → (q b : ℕ) → is_pair p a q b ≡ false → chains_in now q b ≡ chains_in rows q b
    chain_others others q b f =
        ⊎_elim
        (λ e. here_now q b e ∙ others q b f ∙ sym (here q b e))
        (λ e. elsewhere q b e)
        (cases_eq (q % 64) (p % 64))

  pub chain_empty : (r : Option (Vec NamedRequest)) → IfNone r (leaves_under p a old.requests.items ≡ []) → IfNone r (chains_in rows p a ≡ [])
  chain_empty None e = in_row a ∙ e
  chain_empty (Some v) e = tt
