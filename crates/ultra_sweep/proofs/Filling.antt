-- texts that go into their places one by one
use Rattle.std.proofs.Common.{◌≡◌, ◌≢◌, ℕ, zero, suc, ◌+◌, ◌<◌, ◌≤◌, List, [], ◌∷◌, ◌++◌, false, length, refl, sym, ap, subst, ◌∙◌, arith, map, take, drop, get_or, set, Vec, Global, ⊎_elim}
use Rattle.std.specs.Prelude.{Option, Some, None, IsSome, is_some, IfSome, All, replicate, slice_get}
use Rattle.std.proofs.lemmas.{Bool.cases_eq, List.{Elements.{All-append, All-contains, Contains-append_left, Contains-append_right}, FromFn.length-enumerate_from}}
use Rattle.std.proofs.lemmas.List.{get_or-set_same, get_or-set_other, length-set, get_or-replicate, length-replicate, length-map, append-nil, drop_all, take_all, ext_get_or}
use Rattle.std.specs.List.{enumerate_from}
use Rattle.ultra_board.specs.View.{one_if, times, times_below}
use native.Mathlib.Decide.{dec_le}
use Rattle.ultra_sweep.specs.{declared.{job.{Job.Job, JobResult.JobResult, JobOutcome.JobOutcome}, gathering.GatherFault.{GatherFault, TheVariants.{Double, Stranger, Missing, NoMemory}}}, Job.{job_numbers, text_in, texts_of, IsOutcomeOf, IsResultAmong}, Places.{TextPlaces, text_in_place, IsPut, ExplainsPutFault, IsFirstEmpty}}
use Rattle.ultra_sweep.specs.declared.job.JobOutcome.TheVariants as outcome
use Rattle.ultra_sweep.specs.Gather.{HasText, AreGathered, AreSound, IsFirstMissingJob, ExplainsGatherFault, ExplainsEnd}
use Rattle.ultra_sweep.proofs.Numbers.{one_if-case, times_below-in, times_below-out, times-numbers_push, within-push}

abbrev pub Bytes : Type 0
Bytes = Vec ℕ Global

abbrev count_in : Option Bytes → ℕ
count_in o = one_if (is_some o)

-- the texts of these results are in their places, and all other places are empty
pub record IsFilled (n : ℕ) (rs : List JobResult) (places : TextPlaces) : Type 0 where
  pub long : length places ≡ n
  pub sound : AreSound n rs
  pub named : (i : ℕ) → i < n → count_in (text_in_place places i) ≡ times i (job_numbers rs)
  pub texts : (i : ℕ) (t : Bytes) → i < n → text_in_place places i ≡ Some t → HasText rs i t.items

pub filled-none : (n : ℕ) → IsFilled n [] (replicate n None)
filled-none n = record {
  long = length-replicate n None;
  sound = record { within = λ i. omega arith; texts = λ k d lt. absurd (omega arith) };
  named = λ i lt. ap count_in (get_or-replicate n i None None lt);
  texts = λ i t lt e. let none : None ≡ Some t = sym (get_or-replicate n i None None lt) ∙ e in absurd cc;
}

-- one result more
module _ (n : ℕ) (rs : List JobResult) (r : JobResult) (old new : TextPlaces) (h : IsFilled n rs old) (put : IsPut r old new) where
  below : r.number < n
  below = let l = h.long in let b = put.below in omega arith

  new_one : times r.number (job_numbers rs) ≡ 0
  new_one = sym (h.named r.number below) ∙ ap count_in put.empty

  traced : text_in r.outcome ≡ Some put.text.items
  traced = ap text_in put.outcome

  at_itself : (i : ℕ) → i ≡ r.number → text_in_place new i ≡ Some put.text
  at_itself i e = ap (λ ps. text_in_place ps i) put.full ∙ ap (λ k. get_or (set old r.number (Some put.text)) k None) e ∙ get_or-set_same old r.number (Some put.text) None put.below

  at_other : (i : ℕ) → i ≢ r.number → text_in_place new i ≡ text_in_place old i
  at_other i other = ap (λ ps. text_in_place ps i) put.full ∙ get_or-set_other old r.number i (Some put.text) None other

  its_text : (i : ℕ) (t : Bytes) → i ≡ r.number → Some put.text ≡ Some t → HasText (rs ++ r ∷ []) i t.items
  its_text i t e same = record {
    result = r;
    there = Contains-append_right rs (r ∷ []) r (0, omega arith, refl);
    number = sym e;
    text = traced ∙ (let q : put.text ≡ t = cc in ap (λ (b : Bytes). Some b.items) q);
  }

  still_text : (i : ℕ) (t : Bytes) → HasText rs i t.items → HasText (rs ++ r ∷ []) i t.items
  still_text i t has = record {
    result = has.result;
    there = Contains-append_left rs (r ∷ []) has.result has.there;
    number = has.number;
    text = has.text;
  }

  some_text : IsSome (text_in r.outcome)
  some_text = ap is_some traced

  pub filled-more : IsFilled n (rs ++ r ∷ []) new
  filled-more = record {
    long = ap length put.full ∙ length-set old r.number (Some put.text) ∙ h.long;
    sound = record {
      within = within-push n rs r h.sound.within below new_one;
      texts = All-append (λ (q : JobResult). IsSome (text_in q.outcome)) rs (r ∷ []) h.sound.texts (λ k d lt. first k d lt);
    };
    named = λ i lt. ⊎_elim
        (λ e. let push = times-numbers_push i rs r in let one = (one_if-case r.number i).0 (sym e) in let none : times i (job_numbers rs) ≡ 0 = rw e new_one in ap count_in (at_itself i e) ∙ omega arith)
        (λ (other : i ≢ r.number). let push = times-numbers_push i rs r in let none = (one_if-case r.number i).1 (λ e. other (sym e)) in ap count_in (at_other i other) ∙ (h.named i lt ∙ omega arith))
        (cases_eq i r.number);
    texts = λ i t lt e. ⊎_elim
        (λ same. its_text i t same (sym (at_itself i same) ∙ e))
        (λ (other : i ≢ r.number). still_text i t (h.texts i t lt (sym (at_other i other) ∙ e)))
        (cases_eq i r.number);
  }
    where
      first : (k : ℕ) (d : JobResult) → k < 1 → IsSome (text_in (get_or (r ∷ []) k d).outcome)
      first zero d lt = some_text
      first (suc k) d lt = absurd (omega arith)

-- a result that is refused
some-one : (o : Option Bytes) → IsSome o → count_in o ≡ 1
some-one (Some t) s = refl
some-one None s = absurd cc

pub refused : (n : ℕ) (rs all rest : List JobResult) (r : JobResult) (old : TextPlaces) → IsFilled n rs old → rs ++ r ∷ rest ≡ all → (fault : GatherFault) → ExplainsPutFault r old fault → ExplainsEnd n all fault
refused n rs all rest r old h there (Double i) (number, below, full) =
    let lt : i < n = let l = h.long in omega arith in
    (rs, record { sound = h.sound; result = r; number = number; rest = rest; there = there }, sym (h.named i lt) ∙ some-one (text_in_place old i) full)
refused n rs all rest r old h there (Stranger i) (number, far) =
    (rs, record { sound = h.sound; result = r; number = number; rest = rest; there = there }, let l = h.long in omega arith)
refused n rs all rest r old h there (Missing i) why = absurd why
refused n rs all rest r old h there NoMemory (below, empty, memory) =
    let lt : r.number < n = let l = h.long in omega arith in (
      r.number,
      rs,
      record {
        next = record { sound = h.sound; result = r; number = refl; rest = rest; there = there };
        below = lt;
        new = sym (h.named r.number lt) ∙ ap count_in empty;
        no_text = ap text_in memory;
      },
    )

-- a place that isn't full is empty
pub is-empty : (o : Option Bytes) → is_some o ≡ false → o ≡ None
is-empty (Some t) e = absurd cc
is-empty None e = refl

-- the texts in their places
place-some : (ts : List Bytes) (rest : TextPlaces) (i : ℕ) → i < length ts → IsSome (text_in_place (map Some ts ++ rest) i)
place-some [] rest i lt = absurd (omega arith)
place-some (t ∷ ts) rest zero lt = refl
place-some (t ∷ ts) rest (suc i) lt = place-some ts rest i (omega arith)

place-empty : (ts : List Bytes) (rest : TextPlaces) → text_in_place (map Some ts ++ None ∷ rest) (length ts) ≡ None
place-empty [] rest = refl
place-empty (t ∷ ts) rest = place-empty ts rest

length-full : (ts : List Bytes) (rest : TextPlaces) → length ts < length (map Some ts ++ None ∷ rest)
length-full [] rest = omega arith
length-full (t ∷ ts) rest = let more = length-full ts rest in omega arith

text-at : (ts : List Bytes) (i : ℕ) → i < length ts → (t : Bytes) × (text_in_place (map Some ts) i ≡ Some t) × (get_or (map (λ (b : Bytes). b.items) ts) i [] ≡ t.items)
text-at [] i lt = absurd (omega arith)
text-at (t ∷ ts) zero lt = (t, refl, refl)
text-at (t ∷ ts) (suc i) lt = text-at ts i (omega arith)

pub missing : (n : ℕ) (rs : List JobResult) (places : TextPlaces) → IsFilled n rs places → (i : ℕ) → IsFirstEmpty places i → IsFirstMissingJob n rs i
missing n rs places h i why =
    let below : i < n = (let l = h.long in let e = ap length why.there in let s = length-full why.full why.rest in let k = why.number in omega arith) in
    record {
      sound = h.sound;
      below = below;
      missing = sym (h.named i below) ∙ ap count_in (ap (λ ps. text_in_place ps i) (sym why.there) ∙ ap (λ k. text_in_place (map Some why.full ++ None ∷ why.rest) k) (sym why.number) ∙ place-empty why.full why.rest);
      first = λ k lt.
          let at : k < n = omega arith in
          let full : IsSome (text_in_place places k) = subst (λ ps. IsSome (text_in_place ps k)) why.there (place-some why.full (None ∷ why.rest) k (let m = why.number in omega arith)) in
          sym (h.named k at) ∙ some-one (text_in_place places k) full;
    }

-- what explains the end explains the fault
pub fault_of_end : (n : ℕ) (rs : List JobResult) (fault : GatherFault) → ExplainsEnd n rs fault → ExplainsGatherFault n rs fault
fault_of_end n rs (Double i) why = why
fault_of_end n rs (Stranger i) why = why
fault_of_end n rs (Missing i) why = why
fault_of_end n rs NoMemory why = tt

pub gathered : (n : ℕ) (rs : List JobResult) (places : TextPlaces) (ts : List Bytes) → IsFilled n rs places → map Some ts ≡ places → AreGathered n rs (map (λ (b : Bytes). b.items) ts)
gathered n rs places ts h e =
    let long : length ts ≡ n = sym (length-map ts Some) ∙ (ap length e ∙ h.long) in
    record {
      once = λ i. each i long;
      count = length-map ts (λ (b : Bytes). b.items) ∙ long;
      texts = λ i lt.
          let at = text-at ts i (omega arith) in
          subst (HasText rs i) (sym at.2) (h.texts i at.0 lt (ap (λ ps. text_in_place ps i) (sym e) ∙ at.1));
    }
  where
    each_below : (i : ℕ) → length ts ≡ n → i < n → times i (job_numbers rs) ≡ times_below i n
    each_below i long lt =
        let at = text-at ts i (omega arith) in
        let one = times_below-in i n lt in
        let here : count_in (text_in_place places i) ≡ 1 = ap count_in (ap (λ ps. text_in_place ps i) (sym e) ∙ at.1) in
        let named = h.named i lt in
        omega arith

    each_above : (i : ℕ) → n ≤ i → times i (job_numbers rs) ≡ times_below i n
    each_above i le = let within = h.sound.within i in let none = times_below-out i n le in omega arith

    each : (i : ℕ) → length ts ≡ n → times i (job_numbers rs) ≡ times_below i n
    each i long = elim (dec_le n i) [ yes le ↦ each_above i le | no le ↦ each_below i long (omega arith) ]

-- a slice of places that was lent is given back whole
pub given_back : (xs ys : TextPlaces) (n : ℕ) → length xs ≡ length ys → length ys ≡ n → take n (xs ++ drop (length xs) ys) ≡ xs
given_back xs ys n same all =
    let none : drop (length xs) ys ≡ [] = drop_all (length xs) ys (omega arith) in
    ap (λ zs. take n (xs ++ zs)) none ∙ (ap (take n) (append-nil xs) ∙ take_all n xs (omega arith))

-- when nothing is left, all were looked at
pub all_seen : (seen rest all : List JobResult) → seen ++ rest ≡ all → rest ≡ [] → seen ≡ all
all_seen seen rest all e none = sym (append-nil seen) ∙ (ap (λ zs. seen ++ zs) (sym none) ∙ e)

-- where all results are of these jobs, the texts are those that the jobs give
outcome_text : (given : List ℕ) (o : JobOutcome) (t : List ℕ) → IsOutcomeOf given o → text_in o ≡ Some t → t ≡ given
outcome_text given (outcome.Text text) t is e = let same : text.items ≡ t = cc in sym same ∙ is
outcome_text given outcome.NoMemory t is e = absurd cc

module _ (text : ℕ → Job → List ℕ) where
  text_at : (jobs : List Job) (i n k : ℕ) (o : JobOutcome) (t : List ℕ) → k ≡ n + i → i < length jobs → IfSome (slice_get jobs i) (λ job. IsOutcomeOf (text k job) o) → text_in o ≡ Some t → t ≡ get_or (map (λ (it : ℕ × Job). text it.0 it.1) (enumerate_from n jobs)) i []
  text_at [] i n k o t at lt is e = absurd (omega arith)
  text_at (job ∷ jobs) zero n k o t at lt is e = outcome_text (text n job) o t (subst (λ j. IsOutcomeOf (text j job) o) (omega arith) is) e
  text_at (job ∷ jobs) (suc i) n k o t at lt is e = text_at jobs i (n + 1) k o t (omega arith) (omega arith) is e

  pub given_texts : (jobs : List Job) (n : ℕ) (rs : List JobResult) (ts : List (List ℕ)) → AreGathered n rs ts → length jobs ≡ n → All (IsResultAmong text jobs) rs → ts ≡ texts_of text jobs
  given_texts jobs n rs ts h long all = ext_get_or [] ts (texts_of text jobs) (h.count ∙ (sym long ∙ sym (length-map (enumerate_from 0 jobs) (λ (it : ℕ × Job). text it.0 it.1) ∙ length-enumerate_from 0 jobs))) (λ i lt. one i (let c = h.count in omega arith))
    where
      one : (i : ℕ) → i < n → get_or ts i [] ≡ get_or (texts_of text jobs) i []
      one i lt =
          let has = h.texts i lt in
          let its = All-contains (IsResultAmong text jobs) rs has.result all has.there in
          let at : IfSome (slice_get jobs i) (λ job. IsOutcomeOf (text i job) has.result.outcome) = subst (λ k. IfSome (slice_get jobs k) (λ job. IsOutcomeOf (text k job) has.result.outcome)) has.number its.outcome in
          text_at jobs i 0 i has.result.outcome (get_or ts i []) (omega arith) (omega arith) at has.text
