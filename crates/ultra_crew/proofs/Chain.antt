-- The blocks after each half of a cycle are those that follow from the machine at its start.
use Rattle.std.proofs.Common.{◌≡◌, ℕ, zero, suc, ◌+◌, ◌-◌, ◌^◌, ◌<◌, List, [], ◌∷◌, length, map, arith, refl, sym, ◌∙◌, ap, subst}
use Rattle.std.proofs.{lemmas.List.{ext_get_or, length-map}, Math.Path.fun_ext}
use Rattle.ultra_switch.specs.declared.Switch.{Switch}
use Rattle.ultra_mem.specs.Serve.{ModuleState, empty_module}
use Rattle.ultra_isa.specs.declared.Instr.{Instr}
use Rattle.ultra_model.specs.{Machine.Settings, Phases.{cycle, reply_phase, request_phase}}
use Rattle.ultra_topology.specs.Numbers.{module_number}
use Rattle.ultra_block_core.specs.{declared.{half.Half.Half, rooms.Rooms.Rooms as BlockRooms}, BlockState.{BlockState, own_module, own_switch}, RepliesSent.without_events, Making.after_half}
use Rattle.ultra_block_core.specs.declared.half.Half.TheVariants.{SendReplies, TakeReplies, Serve, SendRequests, TakeRequests, Execute}
use Rattle.ultra_partition.specs.{declared.kind.MessageKind.{MessageKind, TheVariants.{Replies, Requests}}, Halves.{AllCanMake, AreBlocks, all_after_half}, Moments.{AreRoomsOfAll, AreWhole, machine_in}}
use Rattle.ultra_partition.specs.Cut.{block_at, frame_of, value_or, home, no_block, no_switch}
use Rattle.ultra_partition.proofs.{Columns.changed_at, Units.few_units, Halves.all_by_own}
use Rattle.ultra_partition.proofs.Whole.{Come, Left, Made, can_execute, come, first, middle, next, replies_left, replies_taken, requests_left, requests_taken, served}
use Rattle.ultra_crew.specs.{declared.task.BlockTask.BlockTask, Words.words_of_rooms, Exchanged.{AreExchanged, CanBeExchanged, exchanged}, Start.{first_blocks, state_of}}
use Rattle.ultra_crew.specs.ExpectedResults.{IsDue, blocks_after, results_in, teams_of, with_memory_served, with_replies_sent, with_replies_taken, with_requests_sent, with_requests_taken, with_steps_made}
use Rattle.ultra_crew.proofs.{Words.are_rooms, RoomsSame.{rooms_same, sending}, Started.blocks_are}

-- ---- messages leave by the rooms as words
abbrev words : ℕ → List ℕ → List BlockState → BlockRooms
words d partition bs = words_of_rooms d (frame_of d partition bs)

leave_so : (kind : MessageKind) (d : ℕ) (partition : List ℕ) (program : List Instr) (bs : List BlockState) (rooms : BlockRooms) → AreBlocks d partition bs → AreRoomsOfAll bs rooms
    → all_after_half (sending kind) rooms program bs ≡ all_after_half (sending kind) (words d partition bs) program bs
leave_so kind d partition program bs rooms blocks noted =
    let few = few_units d blocks.some_stages blocks.few_stages in
    ext_get_or no_block (all_after_half (sending kind) rooms program bs) (all_after_half (sending kind) (words d partition bs) program bs) (length-map bs _ ∙ sym (length-map bs _)) (λ k inside.
    let within : k < length bs = subst (λ n. k < n) (length-map bs (after_half (sending kind) rooms program)) inside in
    changed_at (after_half (sending kind) rooms program) bs k within
    ∙ rooms_same d blocks.some_stages blocks.few_stages (frame_of d partition bs) rooms (words d partition bs) (noted d partition blocks) (are_rooms d (omega (arith, few)) (frame_of d partition bs)) kind program (block_at bs k) (blocks.shaped k within).stages
    ∙ sym (changed_at (after_half (sending kind) (words d partition bs) program) bs k within))

-- what a cycle begins with matters neither to the half that forgets it nor to the rooms
begun_at : (bs : List BlockState) (k : ℕ) → block_at (map without_events bs) k ≡ without_events (block_at bs k)
begun_at [] k = refl
begun_at (b ∷ bs) zero = refl
begun_at (b ∷ bs) (suc k) = begun_at bs k

begun_words : (d : ℕ) (partition : List ℕ) (bs : List BlockState) → words d partition (map without_events bs) ≡ words d partition bs
begun_words d partition bs =
    let words_by = λ (switch : ℕ → Switch) (memory_module : ℕ → ModuleState). words_of_rooms d (record (frame_of d partition bs) { switch = switch; memory_module = memory_module }) in
    ap (λ switch. words_by switch (frame_of d partition (map without_events bs)).memory_module) (fun_ext (λ n. ap (λ (b : BlockState). value_or no_switch (own_switch b.switches n)) (begun_at bs (home partition n))))
    ∙ ap (λ memory_module. words_by (frame_of d partition bs).switch memory_module) (fun_ext (λ m. ap (λ (b : BlockState). value_or empty_module (own_module b.modules m)) (begun_at bs (home partition (module_number d m)))))

begun_first : (rooms : BlockRooms) (program : List Instr) (bs : List BlockState) → all_after_half SendReplies rooms program bs ≡ all_after_half SendReplies rooms program (map without_events bs)
begun_first rooms program [] = refl
begun_first rooms program (b ∷ bs) = ap (λ xs. after_half SendReplies rooms program b ∷ xs) (begun_first rooms program bs)

-- ---- a cycle that begins with these blocks
module _ {c : Settings} {partition : List ℕ} {n : ℕ} {program : List Instr} {bs : List BlockState} (start : AreWhole c program partition n bs) where
  abbrev d : ℕ
  d = c.stages

  abbrev pub course : (ℕ → List ℕ → List Instr → List BlockState → List BlockState) → List BlockState
  course blocks = blocks d partition program (first_blocks (state_of c program partition n bs))

  pub sent_so : (rooms : BlockRooms) → AreRoomsOfAll bs rooms → all_after_half SendReplies rooms program bs ≡ course with_replies_sent
  unfolding with_replies_sent
  sent_so rooms noted =
      leave_so Replies d partition program bs rooms start.machine.blocks noted
      ∙ ap (λ rooms. all_after_half SendReplies rooms program bs) (sym (begun_words d partition bs))
      ∙ begun_first (words d partition (map without_events bs)) program bs
      ∙ ap (λ xs. all_after_half SendReplies (words d partition xs) program xs) (blocks_are c program partition n bs start)

  -- ---- replies have come
  abbrev pub RepliesCame : List BlockState → Type 0
  RepliesCame xs = Come start Replies xs × (xs ≡ exchanged Replies d partition (course with_replies_sent))

  pub replies_came : (rooms : BlockRooms) {sent came : List BlockState} {e : ℕ} → AreRoomsOfAll bs rooms → sent ≡ all_after_half SendReplies rooms program bs → e ≡ d → AreExchanged Replies e partition sent came → RepliesCame came
  replies_came rooms noted is net x =
      (come start x.moved x.there net (replies_left start rooms noted is), (rw net at x.all) ∙ ap (exchanged Replies d partition) (is ∙ sent_so rooms noted))

  module _ (rooms : BlockRooms) {came : List BlockState} (x : RepliesCame came) where
    abbrev pub taken : List BlockState
    taken = all_after_half TakeReplies rooms program came

    pub taken_so : taken ≡ course with_replies_taken
    unfolding with_replies_taken
    taken_so = ap (all_after_half TakeReplies rooms program) x.1

    pub served_so : all_after_half Serve rooms program taken ≡ course with_memory_served
    unfolding with_memory_served
    served_so = ap (all_after_half Serve rooms program) taken_so

    pub have_taken : Made start 320 (reply_phase c (first start)) taken
    have_taken = replies_taken start x.0 refl

  -- ---- memory has served
  abbrev pub HaveServed : List BlockState → Type 0
  HaveServed xs = Made start 640 (middle start) xs × (xs ≡ course with_memory_served)

  pub have_served : (rooms : BlockRooms) {came now : List BlockState} → RepliesCame came → now ≡ all_after_half Serve rooms program (all_after_half TakeReplies rooms program came) → HaveServed now
  have_served rooms x is = (served start (have_taken rooms x) is, is ∙ served_so rooms x)

  pub passed_so : (rooms : BlockRooms) {xs : List BlockState} → HaveServed xs → AreRoomsOfAll xs rooms → all_after_half SendRequests rooms program xs ≡ course with_requests_sent
  unfolding with_requests_sent
  passed_so rooms {xs = xs} x noted =
      leave_so Requests d partition program xs rooms x.0.at.blocks noted ∙ ap (λ xs. all_after_half SendRequests (words d partition xs) program xs) x.1

  -- ---- requests have come
  abbrev pub RequestsCame : List BlockState → Type 0
  RequestsCame xs = Come start Requests xs × (xs ≡ exchanged Requests d partition (course with_requests_sent))

  pub requests_came : (rooms : BlockRooms) {xs sent came : List BlockState} {e : ℕ} → HaveServed xs → AreRoomsOfAll xs rooms → sent ≡ all_after_half SendRequests rooms program xs → e ≡ d → AreExchanged Requests e partition sent came → RequestsCame came
  requests_came rooms y noted is net x =
      (come start x.moved x.there net (requests_left start rooms noted is y.0), (rw net at x.all) ∙ ap (exchanged Requests d partition) (is ∙ passed_so rooms y noted))

  module _ (rooms : BlockRooms) {came : List BlockState} (x : RequestsCame came) where
    abbrev pub waiting : List BlockState
    waiting = all_after_half TakeRequests rooms program came

    pub waiting_so : waiting ≡ course with_requests_taken
    unfolding with_requests_taken
    waiting_so = ap (all_after_half TakeRequests rooms program) x.1

    pub stepped_so : all_after_half Execute rooms program waiting ≡ course with_steps_made
    unfolding with_steps_made
    stepped_so = ap (all_after_half Execute rooms program) waiting_so

    pub have_waiting : Made start 960 (request_phase c (middle start)) waiting
    have_waiting = requests_taken start x.0 refl

    pub cycled : {now : List BlockState} → n < 2 ^ 32 - 1 → now ≡ all_after_half Execute rooms program waiting
        → AreWhole c program partition (n + 1) now × (machine_in c partition (n + 1) now ≡ cycle c program (first start))
    cycled early is = next start have_waiting early (is ∙ sym (all_by_own program Execute rooms waiting (can_execute start have_waiting early)))

  pub can_exchange : {kind : MessageKind} {xs : List BlockState} {e : ℕ} → e ≡ d → Left start kind xs → CanBeExchanged kind e partition xs
  can_exchange net x = rw net (record { blocks = x.at.blocks; single = x.single })

  -- ---- blocks that can make a half are due, as far as the workers give back what is expected
  pub due : {workers : ℕ} {results : ℕ → Half → ℕ → List BlockTask} (h : Half) (rooms : BlockRooms) (xs : List BlockState) → ((h : Half) (w : ℕ) → results n h w ≡ results_in workers (state_of c program partition n bs) h w)
      → AllCanMake program h xs → all_after_half h rooms program xs ≡ course (λ d partition program bs. blocks_after d partition program bs h) → IsDue results program workers n h rooms xs
  unfolding results_in
  due {workers = workers} h rooms xs settled can is = record { ready = can; settled = λ w. settled h w ∙ ap (λ ys. teams_of workers ys w) (sym is) }
