-- the files of one job more
use Rattle.std.proofs.Common.{◌≡◌, ◌∙◌, ◌<◌, ◌+◌, ℕ, List, [], ◌∷◌, ◌++◌, refl, ap, sym, subst, length, take, drop, get_or, append_assoc, take-append-drop}
use Rattle.std.specs.{Prelude.{String, string_bytes}, declared.alloc.Global.Global}
use Rattle.std.proofs.lemmas.List.{take_more, map-append}
use Rattle.ultra_io.specs.Source.{File}
use Rattle.ultra_settings.specs.JobsText.{Paths, all_paths}
use Rattle.ultra_inputs.specs.{declared.failure.Failure.Failure, Inputs.{Gave, GaveNothing}}
use Rattle.ultra_sweep.specs.declared.job.Job.{Job}
use Rattle.ultra_sweep_command.specs.Jobs.{GaveJobs, GaveNoJobs, refused}

gave-more : (ps : List Paths) (jobs : List Job) (old mid new : List File) (p : Paths) (job : Job) → GaveJobs ps old mid jobs → Gave p.0 p.1 mid new job.config job.program → GaveJobs (ps ++ p ∷ []) old new (jobs ++ job ∷ [])
gave-more [] [] old mid new p job same gave = (new, subst (λ files. Gave p.0 p.1 files new job.config job.program) same gave, refl)
gave-more [] (j ∷ js) old mid new p job none gave = absurd none
gave-more (q ∷ qs) [] old mid new p job none gave = absurd none
gave-more (q ∷ qs) (j ∷ js) old mid new p job (first, here, rest) gave = (first, here, gave-more qs js first mid new p job rest gave)

abbrev Texts : Type 0
Texts = String Global × String Global

both : (a b x y : List ℕ) → a ≡ x → b ≡ y → ◌≡◌ {A = Paths} (a, b) (x, y)
both a b x y e f = let first : List ℕ → Paths = λ t. (t, b) in let second : List ℕ → Paths = λ t. (x, t) in ap first e ∙ ap second f

abbrev paths_at : Texts → Paths
paths_at t = (string_bytes t.0, string_bytes t.1)

module _ (list : List Texts) (k : ℕ) (item : Texts) (within : k < length list) (here : item ≡ get_or list k item) (conf prog : List ℕ) (is_conf : conf ≡ string_bytes item.0) (is_prog : prog ≡ string_bytes item.1) where
  paths-more : all_paths (take (k + 1) list) ≡ all_paths (take k list) ++ (conf, prog) ∷ []
  paths-more =
      ap all_paths (take_more list k item within)
      ∙ (map-append paths_at (take k list) (get_or list k item ∷ [])
      ∙ ap (λ (p : Paths). all_paths (take k list) ++ p ∷ []) (ap paths_at (sym here) ∙ both (string_bytes item.0) (string_bytes item.1) conf prog (sym is_conf) (sym is_prog)))

  pub gave-next : (jobs : List Job) (old mid new : List File) (job : Job) → GaveJobs (all_paths (take k list)) old mid jobs → Gave conf prog mid new job.config job.program → GaveJobs (all_paths (take (k + 1) list)) old new (jobs ++ job ∷ [])
  gave-next jobs old mid new job before gave =
      subst (λ ps. GaveJobs ps old new (jobs ++ job ∷ [])) (sym paths-more) (gave-more (all_paths (take k list)) jobs old mid new (conf, prog) job before gave)

  pub refused-next : (jobs : List Job) (old mid new : List File) (f : Failure) → GaveJobs (all_paths (take k list)) old mid jobs → GaveNothing conf prog mid new f → GaveNoJobs (all_paths list) old new f
  refused-next jobs old mid new f before why =
      let rest = all_paths (drop (k + 1) list) in
      let all : all_paths (take k list) ++ (conf, prog) ∷ rest ≡ all_paths list =
      sym (append_assoc (all_paths (take k list)) ((conf, prog) ∷ []) rest)
      ∙ (ap (λ ps. ps ++ rest) (sym paths-more)
      ∙ (sym (map-append paths_at (take (k + 1) list) (drop (k + 1) list))
      ∙ ap all_paths (take-append-drop (k + 1) list))) in
      refused (all_paths (take k list)) rest (conf, prog) jobs mid all before why
