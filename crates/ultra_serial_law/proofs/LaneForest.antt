-- what becomes of the requests that arrive in one lane, for the trees of their references
use Rattle.std.proofs.Common.{◌≡◌, ℕ, suc, ◌+◌, ◌≤◌, List, [], ◌∷◌, ◌++◌, Bool, true, false, refl, arith, sym, ◌∙◌, ap, ◌⊎◌, inl, inr, append_assoc, length}
use Rattle.std.specs.Prelude.{Option, Some, None, IfSome, ◌==◌, ◌&&◌, not, nat_lt}
use Rattle.std.specs.List.{AllByRecursion}
use Rattle.std.proofs.lemmas.{Bool.eqb-true, List.append-nil}
use Rattle.ultra_msg.specs.{declared.{Request.Request, Event.{Event, TheVariants.Combined}}, Pair.pair_of}
use Rattle.ultra_switch.specs.declared.{QueueEntry.QueueEntry, WaitRecord.WaitRecord}
use Rattle.ultra_switch.specs.Arrive.{Lane, Combination, entry, behind, can_combine, wait_record, combined_entry, combine, combine_within, after_arrival, arrive}
use Rattle.ultra_model.specs.{Machine.{Settings, Machine}, Phases.{arrive_all, combination, combinations}, Balance.{weight, count, passes, entry_passes}}
use Rattle.ultra_model.proofs.{Each.{each-append, each-weaker, if_tested}, Counting.{both_true, count-append, is_reference}}
use Rattle.ultra_serial_law.specs.{Tree.Kept, Log.LoggedIssue}
use Rattle.ultra_serial_law.proofs.{Series.sent, Tidy.{old_records, marked_in, zero_weight}, Forest.{find_record, built}, Explained.{IsIn, in-append, in-append_right, IsKeptAt, IsGiven}, Mentions.{mention, mentions, sum-append}}

-- ---- lists
pub in_counts : {X : Type 0} (t : X → Bool) (x : X) (xs : List X) → IsIn x xs → t x ≡ true → 1 ≤ count t xs
in_counts t x [] h e = absurd h
in_counts t x (y ∷ ys) (inl z) e = rw (z, e) (omega arith)
in_counts t x (y ∷ ys) (inr h) e = let rest = in_counts t x ys h e in omega (arith, rest)

unique_step : (p a : ℕ) (u v : WaitRecord) (ws : List WaitRecord) (b : Bool) → IsIn u ws → is_reference p a u.pe u.cell ≡ true → weight b + old_records (is_reference p a) ws ≤ 1 → find_record p a ws ≡ Some u
    → ◌≡◌ {A = Option WaitRecord} (elim b [ true ↦ Some v | false ↦ find_record p a ws ]) (Some u)
unique_step p a u v ws true h e l f = let one = in_counts (λ (w : WaitRecord). is_reference p a w.pe w.cell) u ws h e in absurd (omega (arith, one, l))
unique_step p a u v ws false h e l f = f

-- the only record of a reference is the one that is found
pub find_unique : (p a : ℕ) (u : WaitRecord) (ws : List WaitRecord) → IsIn u ws → is_reference p a u.pe u.cell ≡ true → old_records (is_reference p a) ws ≤ 1 → find_record p a ws ≡ Some u
find_unique p a u [] h e l = absurd h
find_unique p a u (v ∷ ws) (inl z) e l =
    let f : Bool → Option WaitRecord = λ b. elim b [ true ↦ Some v | false ↦ find_record p a ws ] in
    let here : is_reference p a v.pe v.cell ≡ true = rw z e in
    ap f here ∙ ap (λ w. Some w) z
find_unique p a u (v ∷ ws) (inr h) e l = unique_step p a u v ws (is_reference p a v.pe v.cell) h e l (find_unique p a u ws h e (omega (arith, l)))

-- ---- a combination
abbrev pub Combines : (P Q : QueueEntry → Type 0) → Request → Option Combination → Type 0
Combines P Q r o = IfSome o (λ c. P c.old × (can_combine r c.old ≡ true) × (Q (combined_entry c.old r) → AllByRecursion Q c.queue))

behind_each : (P Q : QueueEntry → Type 0) (r : Request) (e : QueueEntry) (o : Option Combination) → Q e → Combines P Q r o → Combines P Q r (behind e o)
behind_each P Q r e None q h = tt
behind_each P Q r e (Some c) q h = (h.0, h.1, λ z. (q, h.2 z))

combine_each : (P Q : QueueEntry → Type 0) (r : Request) (es : List QueueEntry) → ((e : QueueEntry) → P e → Q e) → AllByRecursion P es → Combines P Q r (combine r es)
combine_each P Q r [] f h = tt
combine_each P Q r (e ∷ es) f h =
    if_tested (can_combine r e) (λ o. Combines P Q r o) (Some record { queue = combined_entry e r ∷ es; old = e }) (behind e (combine r es))
    (λ z. (h.0, z, λ q. (q, each-weaker P Q es f h.1)))
    (λ z. behind_each P Q r e (combine r es) (f e h.0) (combine_each P Q r es f h.1))

pub within_each : (P Q : QueueEntry → Type 0) (w : ℕ) (l : Lane) (r : Request) → ((e : QueueEntry) → P e → Q e) → AllByRecursion P l.queue → Combines P Q r (combine_within w l r)
within_each P Q w l r f h = if_tested (nat_lt (length l.records) w) (λ o. Combines P Q r o) (combine r l.queue) None (λ z. combine_each P Q r l.queue f h) (λ z. tt)

-- ---- how often a reference is named
module _ (t : ℕ → ℕ → Bool) where
  abbrev pub is_unmarked : QueueEntry → Bool
  is_unmarked e = not e.combined && t e.request.pe e.request.cell

  abbrev pub unmarked_in : List QueueEntry → ℕ
  unmarked_in es = count is_unmarked es

  marked_or_not : (b d : Bool) → weight (b && d) + weight (not b && d) ≡ weight d
  marked_or_not true d = omega arith
  marked_or_not false d = omega arith

  pub marked_unmarked : (es : List QueueEntry) → marked_in t es + unmarked_in es ≡ count (entry_passes t) es
  marked_unmarked [] = refl
  marked_unmarked (e ∷ es) = omega (arith, marked_unmarked es, marked_or_not e.combined (t e.request.pe e.request.cell))

  -- an entry that combines is no longer unmarked
  abbrev Takes : Request → List QueueEntry → Option Combination → Type 0
  Takes r es o = IfSome o (λ c. (unmarked_in c.queue + weight (t c.old.request.pe r.cell) ≡ unmarked_in es))

  behind_takes : (r : Request) (e : QueueEntry) (es : List QueueEntry) (o : Option Combination) → Takes r es o → Takes r (e ∷ es) (behind e o)
  behind_takes r e es None h = tt
  behind_takes r e es (Some c) h = omega (arith, h)

  taken_weight : (b : Bool) (e : QueueEntry) (r : Request) → not e.combined ≡ true → e.request.cell ≡ r.cell → weight (is_unmarked e) ≡ weight (t e.request.pe r.cell)
  taken_weight b e r h k = rw (h, k) refl

  combine_takes : (r : Request) (es : List QueueEntry) → Takes r es (combine r es)
  combine_takes r [] = tt
  combine_takes r (e ∷ es) =
      if_tested (can_combine r e) (λ o. Takes r (e ∷ es) o) (Some record { queue = combined_entry e r ∷ es; old = e }) (behind e (combine r es))
      (λ z. let parts = both_true (not e.combined) (e.request.cell == r.cell) z in
      let one = taken_weight true e r parts.0 (eqb-true e.request.cell r.cell parts.1) in
      omega (arith, one))
      (λ z. behind_takes r e es (combine r es) (combine_takes r es))

  within_takes : (w : ℕ) (l : Lane) (r : Request) → Takes r l.queue (combine_within w l r)
  within_takes w l r = if_tested (nat_lt (length l.records) w) (λ o. Takes r l.queue o) (combine r l.queue) None (λ z. combine_takes r l.queue) (λ z. tt)

  arrived_takes : (s x : ℕ) (l : Lane) (r : Request) (o : Option Combination) → Takes r l.queue o → mentions t (combination s x r o) + unmarked_in (after_arrival l r o).queue ≡ unmarked_in l.queue + weight (passes t r)
  arrived_takes s x l r None h = omega (arith, count-append is_unmarked l.queue (entry r false ∷ []))
  arrived_takes s x l r (Some c) h = omega (arith, h)

  -- each combination names two that were unmarked or arrived
  pub lane_mentions : (w s x : ℕ) (l : Lane) (rs : List Request) → mentions t (combinations w s x l rs) + unmarked_in (arrive_all w l rs).queue ≡ unmarked_in l.queue + count (passes t) rs
  lane_mentions w s x l [] = omega arith
  lane_mentions w s x l (r ∷ rs) =
      let rest = lane_mentions w s x (arrive w l r) rs in
      let one = arrived_takes s x l r (combine_within w l r) (within_takes w l r) in
      let sum = sum-append (λ e. mention t e) (combination s x r (combine_within w l r)) (combinations w s x (arrive w l r) rs) in
      omega (arith, rest, one, sum)

-- where no mark comes, the record of a reference stays the one that is found
find_append : (p a : ℕ) (ws : List WaitRecord) (v : WaitRecord) → is_reference p a v.pe v.cell ≡ false → find_record p a ws ≡ find_record p a (ws ++ v ∷ [])
find_append p a [] v h = let f : Bool → Option WaitRecord = λ b. elim b [ true ↦ Some v | false ↦ None ] in sym (ap f h)
find_append p a (u ∷ ws) v h = let f : Option WaitRecord → Option WaitRecord = λ o. elim (is_reference p a u.pe u.cell) [ true ↦ Some u | false ↦ o ] in ap f (find_append p a ws v h)

arrived_records : (p a : ℕ) (l : Lane) (r : Request) (o : Option Combination) → old_records (is_reference p a) l.records ≤ old_records (is_reference p a) (after_arrival l r o).records
arrived_records p a l r None = omega arith
arrived_records p a l r (Some c) = omega (arith, count-append (λ (w : WaitRecord). is_reference p a w.pe w.cell) l.records (wait_record c.old r ∷ []))

all_records : (p a w : ℕ) (l : Lane) (rs : List Request) → old_records (is_reference p a) l.records ≤ old_records (is_reference p a) (arrive_all w l rs).records
all_records p a w l [] = omega arith
all_records p a w l (r ∷ rs) = omega (arith, all_records p a w (arrive w l r) rs, arrived_records p a l r (combine_within w l r))

arrived_find : (p a : ℕ) (l : Lane) (r : Request) (o : Option Combination) → old_records (is_reference p a) (after_arrival l r o).records ≤ old_records (is_reference p a) l.records → find_record p a l.records ≡ find_record p a (after_arrival l r o).records
arrived_find p a l r None h = refl
arrived_find p a l r (Some c) h =
    let more = count-append (λ (w : WaitRecord). is_reference p a w.pe w.cell) l.records (wait_record c.old r ∷ []) in
    find_append p a l.records (wait_record c.old r) (zero_weight (is_reference p a c.old.request.pe c.old.request.cell) (omega (arith, more, h)))

pub same_find : (p a w : ℕ) (l : Lane) (rs : List Request) → old_records (is_reference p a) (arrive_all w l rs).records ≤ old_records (is_reference p a) l.records → find_record p a l.records ≡ find_record p a (arrive_all w l rs).records
same_find p a w l [] h = refl
same_find p a w l (r ∷ rs) h =
    let rest = all_records p a w (arrive w l r) rs in
    let first = arrived_records p a l r (combine_within w l r) in
    arrived_find p a l r (combine_within w l r) (omega (arith, h, rest)) ∙ same_find p a w (arrive w l r) rs (omega (arith, h, first))

marked_cannot : (b d : Bool) → b ≡ true → (not b && d) ≡ true → ⊥
marked_cannot true d h k = cc
marked_cannot false d h k = cc

-- ---- what is said of each entry
module _ (c : Settings) (m : Machine) (is : List LoggedIssue) (ks : List Kept) (s x : ℕ) (was : List QueueEntry) where
  -- an entry has combined now: with its trees at this stage, its record and its event
  pub record HasCombined (e : QueueEntry) (ws : List WaitRecord) (es : List Event) : Type 0 where
    pub old : QueueEntry
    pub new : Request
    pub entry : e ≡ combined_entry old new
    pub cell : old.request.cell ≡ new.cell
    pub old_kept : IsKeptAt c m is ks s old.request
    pub new_kept : IsKeptAt c m is ks s new
    pub noted : IsIn (wait_record old new) ws
    pub event_listed : IsIn (Combined s x new.cell old.request.pe new.pe (pair_of old.request.op new.op).old_first) es

  -- an entry that had combined before
  pub record HadCombined (e : QueueEntry) : Type 0 where
    pub marked : e.combined ≡ true
    pub kept : IsKeptAt c m is ks (suc s) e.request
    pub stood : 1 ≤ marked_in (is_reference e.request.pe e.request.cell) was

  pub record IsSingle (e : QueueEntry) : Type 0 where
    pub unmarked : e.combined ≡ false
    pub kept : IsKeptAt c m is ks s e.request

  abbrev pub IsSaid : List WaitRecord → List Event → QueueEntry → Type 0
  IsSaid ws es e = IsSingle e ⊎ HadCombined e ⊎ HasCombined e ws es

  said_more : (ws us : List WaitRecord) (es fs : List Event) (e : QueueEntry) → IsSaid ws es e → IsSaid (ws ++ us) (es ++ fs) e
  said_more ws us es fs e (inl h) = inl h
  said_more ws us es fs e (inr (inl h)) = inr (inl h)
  said_more ws us es fs e (inr (inr h)) = inr (inr record {
    old = h.old;
    new = h.new;
    entry = h.entry;
    cell = h.cell;
    old_kept = h.old_kept;
    new_kept = h.new_kept;
    noted = in-append _ ws us h.noted;
    event_listed = in-append _ es fs h.event_listed;
  })

  -- one that can combine is single
  single_of : (ws : List WaitRecord) (es : List Event) (r : Request) (e : QueueEntry) → IsSaid ws es e → can_combine r e ≡ true → IsKeptAt c m is ks s e.request
  single_of ws es r e (inl h) z = h.kept
  single_of ws es r e (inr (inl h)) z = absurd (marked_cannot e.combined (e.request.cell == r.cell) h.marked z)
  single_of ws es r e (inr (inr h)) z = let k : e.combined ≡ true = rw h.entry refl in absurd (marked_cannot e.combined (e.request.cell == r.cell) k z)

  arrived_said : (l : Lane) (r : Request) (es : List Event) (o : Option Combination) → AllByRecursion (IsSaid l.records es) l.queue → IsKeptAt c m is ks s r
      → Combines (IsSaid l.records es) (IsSaid (after_arrival l r o).records (es ++ combination s x r o)) r o
      → AllByRecursion (IsSaid (after_arrival l r o).records (es ++ combination s x r o)) (after_arrival l r o).queue
  arrived_said l r es None h k g =
      let same : es ++ [] ≡ es = append-nil es in
      rw same (each-append (IsSaid l.records es) l.queue (entry r false ∷ []) h (inl record { unmarked = refl; kept = k }, tt))
  arrived_said l r es (Some v) h k g =
      let parts = both_true (not v.old.combined) (v.old.request.cell == r.cell) g.1 in
      g.2 (inr (inr record {
        old = v.old;
        new = r;
        entry = refl;
        cell = eqb-true v.old.request.cell r.cell parts.1;
        old_kept = single_of l.records es r v.old g.0 g.1;
        new_kept = k;
        noted = in-append_right (wait_record v.old r) l.records (wait_record v.old r ∷ []) (inl refl);
        event_listed = in-append_right _ es (combination s x r (Some v)) (inl refl);
      }))

  arrive_combines : (w : ℕ) (l : Lane) (r : Request) (es : List Event) (o : Option Combination) → AllByRecursion (IsSaid l.records es) l.queue
      → ((Q : QueueEntry → Type 0) → ((e : QueueEntry) → IsSaid l.records es e → Q e) → Combines (IsSaid l.records es) Q r o)
      → Combines (IsSaid l.records es) (IsSaid (after_arrival l r o).records (es ++ combination s x r o)) r o
  arrive_combines w l r es None h f = tt
  arrive_combines w l r es (Some v) h f = f (IsSaid (l.records ++ wait_record v.old r ∷ []) (es ++ combination s x r (Some v))) (λ e k. said_more l.records (wait_record v.old r ∷ []) es (combination s x r (Some v)) e k)

  -- what is said of each entry of a lane after all have arrived
  pub lane_said : (w : ℕ) (l : Lane) (rs : List Request) (es : List Event) → AllByRecursion (IsSaid l.records es) l.queue → AllByRecursion (IsKeptAt c m is ks s) rs
      → AllByRecursion (IsSaid (arrive_all w l rs).records (es ++ combinations w s x l rs)) (arrive_all w l rs).queue
  lane_said w l [] es h k = let same : es ++ [] ≡ es = append-nil es in rw same h
  lane_said w l (r ∷ rs) es h k =
      let o = combine_within w l r in
      let one = arrived_said l r es o h k.0 (arrive_combines w l r es o h (λ Q f. within_each (IsSaid l.records es) Q w l r f h)) in
      let rest = lane_said w (arrive w l r) rs (es ++ combination s x r o) one k.1 in
      rw (← append_assoc es (combination s x r o) (combinations w s x (arrive w l r) rs)) rest

  -- ---- and of each record
  given_new : (old : QueueEntry) (r : Request) → old.request.cell ≡ r.cell → IsKeptAt c m is ks s old.request → IsKeptAt c m is ks s r → IsGiven c m is s (wait_record old r)
  given_new old r e h k =
      let same : sent (built c m is s r.pe old.request.cell) ≡ r.op = rw e k.op in
      record { old = rw (h.op, same) refl; new = rw (h.op, same) refl }

  arrived_given : (l : Lane) (r : Request) (es : List Event) (o : Option Combination) → AllByRecursion (IsGiven c m is s) l.records → IsKeptAt c m is ks s r
      → Combines (IsSaid l.records es) (IsSaid l.records es) r o → AllByRecursion (IsGiven c m is s) (after_arrival l r o).records
  arrived_given l r es None h k g = h
  arrived_given l r es (Some v) h k g =
      let parts = both_true (not v.old.combined) (v.old.request.cell == r.cell) g.1 in
      each-append (IsGiven c m is s) l.records (wait_record v.old r ∷ []) h
      (given_new v.old r (eqb-true v.old.request.cell r.cell parts.1) (single_of l.records es r v.old g.0 g.1) k, tt)

  pub lane_given : (w : ℕ) (l : Lane) (rs : List Request) (es : List Event) → AllByRecursion (IsSaid l.records es) l.queue → AllByRecursion (IsKeptAt c m is ks s) rs → AllByRecursion (IsGiven c m is s) l.records
      → AllByRecursion (IsGiven c m is s) (arrive_all w l rs).records
  lane_given w l [] es h k g = g
  lane_given w l (r ∷ rs) es h k g =
      let o = combine_within w l r in
      let one = arrived_said l r es o h k.0 (arrive_combines w l r es o h (λ Q f. within_each (IsSaid l.records es) Q w l r f h)) in
      let given = arrived_given l r es o g k.0 (within_each (IsSaid l.records es) (IsSaid l.records es) w l r (λ e z. z) h) in
      lane_given w (arrive w l r) rs (es ++ combination s x r o) one k.1 given
