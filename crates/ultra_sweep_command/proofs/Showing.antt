-- one count more is shown
use Rattle.std.proofs.Common.{◌≡◌, ◌∙◌, ◌<◌, ◌≤◌, ◌+◌, ℕ, Bool, true, false, List, [], ◌∷◌, ◌++◌, refl, sym, ap, subst, append_assoc, append-nil, arith}
use Rattle.std.proofs.lemmas.Grind.{flat_map-append}
use Rattle.std.specs.{Prelude.{Result, Ok, Err}, Result.is_err}
use Rattle.ultra_msg.specs.Bytes.{TakesPrefix, WritesOrFails}
use Rattle.ultra_msg.proofs.Prefixes.{takes_all, takes_behind, takes_more, takes_none}
use Rattle.ultra_io.specs.Account.{SinkState}
use Rattle.ultra_sweep_command.specs.declared.meter.ProgressMeter.{ProgressMeter}
use Rattle.ultra_sweep_command.specs.Shown.{GrowTo, progress_line, progress_text, Shows, IsProgressShown, HasShown}

pub grow-more : (first : ℕ) (ks : List ℕ) (last k : ℕ) → GrowTo first ks last → last < k → GrowTo first (ks ++ k ∷ []) k
grow-more first [] last k same more = (subst (λ n. n < k) same more, refl)
grow-more first (j ∷ ks) last k (above, rest) more = (above, grow-more j ks last k rest more)

text-more : (n : ℕ) (ks : List ℕ) (k : ℕ) → progress_text n (ks ++ k ∷ []) ≡ progress_text n ks ++ progress_line n k
text-more n ks k = flat_map-append (progress_line n) ks (k ∷ []) ∙ ap (λ t. progress_text n ks ++ t) (append-nil (progress_line n k))

-- the text so far, with the line of one count more
longer : (n : ℕ) (ks : List ℕ) (k : ℕ) (start : List ℕ) → (start ++ progress_text n ks) ++ progress_line n k ≡ start ++ progress_text n (ks ++ k ∷ [])
longer n ks k start = append_assoc start (progress_text n ks) (progress_line n k) ∙ ap (λ t. start ++ t) (sym (text-more n ks k))

module _ (n last k : ℕ) (start now : SinkState) (so_far : Shows n last start now) (above : last < k) (within : k ≤ n) where
  -- nothing is written, since the stream has failed
  pub shows-unwritten : start.failures < now.failures → Shows n k start now
  shows-unwritten failed = record {
    counts = so_far.counts ++ k ∷ [];
    growing = grow-more 0 so_far.counts last k so_far.growing above;
    within = within;
    begun = subst (λ t. TakesPrefix t start.taken now.taken) (sym (text-more n so_far.counts k)) (takes_more (progress_line n k) so_far.begun);
    whole = λ same. absurd (omega arith);
  }

  -- the line is written
  pub shows-written : now.failures ≡ start.failures → (then : SinkState) → then.taken ≡ now.taken ++ progress_line n k → then.failures ≡ now.failures → Shows n k start then
  shows-written sound then taken still =
      let all : then.taken ≡ start.taken ++ progress_text n (so_far.counts ++ k ∷ []) =
      taken ∙ (ap (λ t. t ++ progress_line n k) (so_far.whole sound) ∙ longer n so_far.counts k start.taken) in
      record {
        counts = so_far.counts ++ k ∷ [];
        growing = grow-more 0 so_far.counts last k so_far.growing above;
        within = within;
        begun = takes_all (progress_text n (so_far.counts ++ k ∷ [])) all;
        whole = λ same. all;
      }

  -- the stream fails
  pub shows-cut : now.failures ≡ start.failures → (then : SinkState) → TakesPrefix (progress_line n k) now.taken then.taken → then.failures ≡ now.failures + 1 → Shows n k start then
  shows-cut sound then begun counted = record {
    counts = so_far.counts ++ k ∷ [];
    growing = grow-more 0 so_far.counts last k so_far.growing above;
    within = within;
    begun = subst (λ t. TakesPrefix t start.taken then.taken) (sym (text-more n so_far.counts k)) (takes_behind (progress_text n so_far.counts) (so_far.whole sound) begun);
    whole = λ same. absurd (omega arith);
  }

module _ (m : ProgressMeter) (k : ℕ) (start now : SinkState) (so_far : HasShown m start now) (above : m.last < k) (within : k ≤ m.count) where
  -- a meter that is broken shows nothing more
  pub shown-unwritten : m.broken ≡ true → HasShown (record m { last = k }) start now
  shown-unwritten broken = record {
    shows = shows-unwritten m.count m.last k start now so_far.shows above within (so_far.failed broken);
    failed = so_far.failed;
    sound = so_far.sound;
  }

  -- else it shows the count, and is broken where that fails
  pub shown-more : {T E : Type 0} → m.broken ≡ false → (then : SinkState) (r : Result T E) → WritesOrFails r (progress_line m.count k) now.taken then.taken now.failures then.failures → HasShown (record m { last = k; broken = is_err r }) start then
  shown-more sound then (Ok x) written =
      let s = so_far.sound sound in
      record {
        shows = shows-written m.count m.last k start now so_far.shows above within s then written.ok written.still;
        failed = λ e. cc;
        sound = λ e. written.still ∙ s;
      }
  shown-more sound then (Err x) written =
      let s = so_far.sound sound in
      let counted = written.counted in
      record {
        shows = shows-cut m.count m.last k start now so_far.shows above within s then written.err counted;
        failed = λ e. omega arith;
        sound = λ e. cc;
      }

-- a meter that has shown nothing
pub shown-first : (m : ProgressMeter) (s : SinkState) → m.last ≡ 0 → m.broken ≡ false → HasShown m s s
shown-first m s none sound = record {
  shows = record {
    counts = [];
    growing = none;
    within = omega arith;
    begun = takes_none [] s.taken;
    whole = λ e. sym (append-nil s.taken);
  };
  failed = λ e. absurd cc;
  sound = λ e. refl;
}

-- what a meter has shown where progress is asked for; else nothing was
pub is-shown : (progress : Bool) (n : ℕ) (m : ProgressMeter) (before after : SinkState) → m.count ≡ n → HasShown m before after → (progress ≡ false → after ≡ before) → IsProgressShown progress n m.last before after
is-shown true n m before after count shown quiet = subst (λ k. Shows k m.last before after) count shown.shows
is-shown false n m before after count shown quiet = quiet refl
