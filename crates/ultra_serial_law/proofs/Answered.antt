-- each answer is the reply of an entry, before which everything was issued earlier
use Rattle.std.proofs.Common.{◌≡◌, ℕ, ◌<◌, List, [], ◌∷◌, ◌++◌, refl, sym, ◌∙◌, ap, append_assoc}
use Rattle.std.specs.List.{AllByRecursion}
use Rattle.std.proofs.lemmas.List.{append-nil}
use Rattle.ultra_msg.specs.declared.Event.{Event, TheVariants.{Delivered, Served, Combined, Issued}}
use Rattle.ultra_model.proofs.Each.{each-append, each-weaker, each-left}
use Rattle.ultra_serial_law.specs.{Log.{LoggedIssue, LoggedAnswer}, Legal.{Entry as Done, answered_by}, SerialList.{History, noted, after_event}}
use Rattle.ultra_serial_law.proofs.{Forest.leaf_of, Explained.IsIn, ProcessorForest.issues_noted, Issued.{NewIssue, each_issue}}

-- an issue with the name of this entry was made before a cycle
abbrev pub IsBefore : ℕ → Done → LoggedIssue → Type 0
IsBefore n d i = i.pe ≡ d.pe → i.number ≡ d.number → i.cycle < n

pub record IsAnsweredWell (is : List LoggedIssue) (list : List Done) (x : LoggedAnswer) : Type 0 where
  pub before : List Done
  pub rest : List Done
  pub split : list ≡ before ++ rest
  pub entry : Done
  pub stands : IsIn entry before
  pub pe : x.pe ≡ entry.pe
  pub number : x.number ≡ entry.number
  pub reply : x.reply ≡ entry.reply
  pub early : AllByRecursion (λ (d : Done). AllByRecursion (IsBefore x.cycle d) is) before

-- the list grows
pub answered_more : (is : List LoggedIssue) (list more : List Done) (x : LoggedAnswer) → IsAnsweredWell is list x → IsAnsweredWell is (list ++ more) x
answered_more is list more x h = record {
  before = h.before;
  rest = h.rest ++ more;
  split = ap (λ es. es ++ more) h.split ∙ append_assoc h.before h.rest more;
  entry = h.entry;
  stands = h.stands;
  pe = h.pe;
  number = h.number;
  reply = h.reply;
  early = h.early;
}

-- new issues have new names
module _ (fresh : Done → LoggedIssue → Type 0) (contradiction : (d : Done) (i : LoggedIssue) → fresh d i → i.pe ≡ d.pe → i.number ≡ d.number → ⊥) where
  never : (n k : ℕ) (d : Done) (e : Event) → NewIssue (fresh d) n e → NewIssue (IsBefore k d) n e
  never n k d (Delivered r) v = tt
  never n k d (Served i r reply now) v = tt
  never n k d (Combined s x a p q f) v = tt
  never n k d (Issued r i) v = λ a b. absurd (contradiction d _ v a b)

  pub early_more : (n k : ℕ) (es : List Event) (is : List LoggedIssue) (ds : List Done) → AllByRecursion (λ (d : Done). AllByRecursion (NewIssue (fresh d) n) es) ds
      → AllByRecursion (λ (d : Done). AllByRecursion (IsBefore k d) is) ds → AllByRecursion (λ (d : Done). AllByRecursion (IsBefore k d) (issues_noted n es is)) ds
  early_more n k es is [] z h = tt
  early_more n k es is (d ∷ ds) z h = (
    each_issue (IsBefore k d) n es is (each-weaker (NewIssue (fresh d) n) (NewIssue (IsBefore k d) n) es (λ e v. never n k d e v) z.0) h.0,
    early_more n k es is ds z.1 h.1,
  )

  pub answered_issued : (n : ℕ) (es : List Event) (is : List LoggedIssue) (list : List Done) (x : LoggedAnswer) → AllByRecursion (λ (d : Done). AllByRecursion (NewIssue (fresh d) n) es) list → IsAnsweredWell is list x → IsAnsweredWell (issues_noted n es is) list x
  answered_issued n es is list x z h = record {
    before = h.before;
    rest = h.rest;
    split = h.split;
    entry = h.entry;
    stands = h.stands;
    pe = h.pe;
    number = h.number;
    reply = h.reply;
    early = early_more n x.cycle es is h.before (each-left (λ (d : Done). AllByRecursion (NewIssue (fresh d) n) es) h.before h.rest (rw h.split at z)) h.early;
  }

all_early : (n : ℕ) (is : List LoggedIssue) (list : List Done) → AllByRecursion (λ (i : LoggedIssue). i.cycle < n) is → AllByRecursion (λ (d : Done). AllByRecursion (IsBefore n d) is) list
all_early n is [] h = tt
all_early n is (d ∷ ds) h = (each-weaker (λ (i : LoggedIssue). i.cycle < n) (IsBefore n d) is (λ i e a b. e) h, all_early n is ds h)

-- ---- deliveries
abbrev pub DeliversWell : List LoggedIssue → List Done → Event → Type 0
DeliversWell is list (Delivered r) = IsIn (answered_by (leaf_of is r.pe r.cell) r.reply) list
DeliversWell is list (Served k r reply now) = ⊥
DeliversWell is list (Combined s x a p q f) = ⊥
DeliversWell is list (Issued r n) = ⊥

pub delivered_answers : (n : ℕ) (es : List Event) (h : History) (list : List Done) → AllByRecursion (λ (i : LoggedIssue). i.cycle < n) h.log.issues → AllByRecursion (DeliversWell h.log.issues list) es
    → AllByRecursion (IsAnsweredWell h.log.issues list) h.log.answers → AllByRecursion (IsAnsweredWell h.log.issues list) (noted n es h).log.answers
delivered_answers n [] h list early z g = g
delivered_answers n (Delivered r ∷ es) h list early z g =
    let is = h.log.issues in
    let x : LoggedAnswer = record { pe = r.pe; number = (leaf_of is r.pe r.cell).number; reply = r.reply; cycle = n } in
    let one : IsAnsweredWell is list x = record {
      before = list;
      rest = [];
      split = sym (append-nil list);
      entry = answered_by (leaf_of is r.pe r.cell) r.reply;
      stands = z.0;
      pe = refl;
      number = refl;
      reply = refl;
      early = all_early n is list early;
    } in
    delivered_answers n es (after_event n h (Delivered r)) list early z.1 (each-append (IsAnsweredWell is list) h.log.answers (x ∷ []) g (one, tt))
delivered_answers n (Served k r reply now ∷ es) h list early z g = absurd z.0
delivered_answers n (Combined s x a p q f ∷ es) h list early z g = absurd z.0
delivered_answers n (Issued r k ∷ es) h list early z g = absurd z.0

-- ---- events that deliver nothing
abbrev pub IsNoDelivery : Event → Type 0
IsNoDelivery (Delivered r) = ⊥
IsNoDelivery (Served k r reply now) = Unit {0}
IsNoDelivery (Combined s x a p q f) = Unit {0}
IsNoDelivery (Issued r n) = Unit {0}

pub same_answers : (n : ℕ) (es : List Event) (h : History) → AllByRecursion IsNoDelivery es → (noted n es h).log.answers ≡ h.log.answers
same_answers n [] h z = refl
same_answers n (Delivered r ∷ es) h z = absurd z.0
same_answers n (Served k r reply now ∷ es) h z = same_answers n es (after_event n h (Served k r reply now)) z.1
same_answers n (Combined s x a p q f ∷ es) h z = same_answers n es (after_event n h (Combined s x a p q f)) z.1
same_answers n (Issued r k ∷ es) h z = same_answers n es (after_event n h (Issued r k)) z.1

-- events that serve nothing leave the serial list
abbrev pub IsNoAct : Event → Type 0
IsNoAct (Delivered r) = Unit {0}
IsNoAct (Served k r reply now) = ⊥
IsNoAct (Combined s x a p q f) = Unit {0}
IsNoAct (Issued r n) = Unit {0}

pub same_order : (n : ℕ) (es : List Event) (h : History) → AllByRecursion IsNoAct es → (noted n es h).order ≡ h.order
same_order n [] h z = refl
same_order n (Delivered r ∷ es) h z = same_order n es (after_event n h (Delivered r)) z.1 ∙ append-nil h.order
same_order n (Served k r reply now ∷ es) h z = absurd z.0
same_order n (Combined s x a p q f ∷ es) h z = same_order n es (after_event n h (Combined s x a p q f)) z.1 ∙ append-nil h.order
same_order n (Issued r k ∷ es) h z = same_order n es (after_event n h (Issued r k)) z.1 ∙ append-nil h.order

-- deliveries leave the trees
pub same_trees : (n : ℕ) (es : List Event) (h : History) (is : List LoggedIssue) (list : List Done) → AllByRecursion (DeliversWell is list) es → (noted n es h).trees ≡ h.trees
same_trees n [] h is list z = refl
same_trees n (Delivered r ∷ es) h is list z = same_trees n es (after_event n h (Delivered r)) is list z.1
same_trees n (Served k r reply now ∷ es) h is list z = absurd z.0
same_trees n (Combined s x a p q f ∷ es) h is list z = absurd z.0
same_trees n (Issued r k ∷ es) h is list z = absurd z.0
