-- the queue: what holds at each place of its program
use Rattle.std.proofs.Common.{◌≡◌, ◌≢◌, ℕ, ◌+◌, ◌-◌, ◌<◌, ◌≤◌, ◌*◌, List, [], ◌∷◌, length, drop, refl, sym, ap, ◌∙◌, inl, inr, add-one, suc-mul, mul-le-mul_left, mod-lt, div-le_self, arith}
use Rattle.std.specs.Prelude.{All, ◌/◌, ◌%◌, ◌^◌, slice_set, slice_index, replicate, bit_and}
use Rattle.std.proofs.{lemmas.{Bool.cases_eq, Grind.get_or-set_at, List.get_or-set_other, Nat.{and_mask, div-mul-add, mod-mul-add, pow_pos, shr_split}}, Math.{ListN.length-set, Pow.pow_mono}}
use Rattle.ultra_msg.specs.Act.{plus}
use Rattle.ultra_isa.specs.Instruction.{minus}
use Rattle.ultra_model.specs.{Machine.{Settings, size}, Ranges.AreInRange}
use Rattle.ultra_para.specs.Para.{start_para, run_para}
use Rattle.ultra_colib.proofs.Interleaving.{Sixteen, listed, IsIn, unchanged, few_elements, zero_at_first, Knows, stage_at, ◌▹◌, AreKept, Comes, always}
use Rattle.ultra_colib.specs.{Schedules.IsKeptBySchedules, Queue.{queue, AreItemsOnce}}
use Rattle.ultra_colib.proofs.Tally.{at_phase}
use Rattle.ultra_colib.proofs.QueueState.{changed, pick, Phase, idle, inserts, puts, has_put, between, deletes, takes, taken, carries, out, Queue, empty, with_insert, with_delete, with_turn, with_item, with_result, Keeps, draws_insert, few_tickets, draws_delete, reaches_insert, reaches_delete, puts_item, opens_turn, takes_item, closes_turn, puts_result, keeps_at_first, fewer, results_different, result_of_round}

-- the kind of a phase that holds a ticket, from the round, the place and the round of the ring
abbrev pub Kind : Type 0
Kind = ℕ → ℕ → ℕ → Phase

pub data Stage : Type 0 where
  numbering : Stage
  setting : Stage
  in_phase : (ℕ → Phase) → Stage
  at_cell : ℕ → (ℕ → Phase) → Stage
  drawn : Kind → Stage
  rounded : Kind → Stage
  turned : ℕ → Kind → Stage
  masked : ℕ → Kind → Stage
  indexed : ℕ → Kind → Stage
  turn_aimed : ℕ → Kind → Stage
  aimed : ℕ → Kind → Stage
  tested : ℕ → Kind → Kind → Stage
  decided : ℕ → Kind → Kind → Stage
  has_taken : ℕ → Stage
  carrying : Stage
  carrying_at : Stage
  carrying_home : Stage
  round_over : Stage
  counted_off : Stage
  next_round : Stage
  halted : Stage

abbrev pub stages : List (ℕ × Stage)
stages =
    (2, numbering) ∷ (7, setting)
    ∷ (8, in_phase idle) ∷ (19, at_cell 0 idle) ∷ (20, in_phase idle) ∷ (21, at_cell 2 idle)
    ∷ (23, drawn inserts) ∷ (24, rounded inserts) ∷ (25, turned 0 inserts) ∷ (26, masked 0 inserts) ∷ (27, indexed 0 inserts) ∷ (28, turn_aimed 0 inserts) ∷ (29, aimed 0 inserts)
    ∷ (31, tested 0 inserts puts) ∷ (32, decided 0 inserts puts) ∷ (33, aimed 0 puts) ∷ (35, aimed 0 has_put) ∷ (36, aimed 1 has_put)
    ∷ (38, in_phase between) ∷ (39, at_cell 1 between) ∷ (41, in_phase between) ∷ (54, at_cell 1 between) ∷ (55, in_phase between) ∷ (56, at_cell 3 between)
    ∷ (58, drawn deletes) ∷ (59, rounded deletes) ∷ (60, turned 0 deletes) ∷ (61, turned 1 deletes) ∷ (62, masked 1 deletes) ∷ (63, indexed 1 deletes) ∷ (64, turn_aimed 1 deletes) ∷ (65, aimed 1 deletes)
    ∷ (67, tested 1 deletes takes) ∷ (68, decided 1 deletes takes) ∷ (69, aimed 1 takes) ∷ (71, has_taken 1) ∷ (72, has_taken 2)
    ∷ (74, carrying) ∷ (75, carrying_at) ∷ (77, carrying) ∷ (78, carrying_home) ∷ (80, round_over) ∷ (81, counted_off) ∷ (82, next_round) ∷ []

module _ (z rounds : ℕ) (few_places : z ≤ 6) (some : 1 ≤ rounds) (few : rounds ≤ 1000) (c : Settings) (ranged : AreInRange c) where
  -- the registers that stay in round j
  pub record Ready (p j r1 r2 r3 r4 r5 r15 : ℕ) : Type 0 where
    pub own : r1 ≡ 1 + p + j * size c
    pub number : r2 ≡ size c
    pub one : r3 ≡ 1
    pub places : r4 ≡ 2 ^ z
    pub left : r5 + j ≡ rounds
    pub back : r15 ≡ 4294967295

  abbrev pub IsReady : ℕ → ℕ → List ℕ → Type 0
  IsReady p j r = Ready p j (slice_index r 1) (slice_index r 2) (slice_index r 3) (slice_index r 4) (slice_index r 5) (slice_index r 15)

  -- the registers that the first instructions set, the last one first
  abbrev pub table : ℕ → List (ℕ × ℕ)
  table p = (5, rounds) ∷ (4, 2 ^ z) ∷ (3, 1) ∷ (2, size c) ∷ (1, 1 + p) ∷ []

  -- it holds the ticket of place i and ring round t
  abbrev pub Holding : ℕ → List ℕ → Phase → Kind → (ℕ → ℕ → ℕ → Type 0) → Type 0
  Holding p r φ K F = (j : ℕ) × IsReady p j r × (j < rounds) × ((i : ℕ) × (t : ℕ) × (i < 2 ^ z) × (t < 64000) × (φ ≡ K j i t) × F j i t)

  abbrev pub Says : Stage → ℕ → ℕ → List ℕ → Phase → Type 0
  Says numbering p k r φ = (1 ≤ k → slice_index r 1 ≡ p) × (φ ≡ out)
  Says setting p k r φ = Knows (drop (6 - k) (table p)) r × (φ ≡ out)
  Says (in_phase K) p k r φ = (j : ℕ) × IsReady p j r × (j < rounds) × (φ ≡ K j)
  Says (at_cell a K) p k r φ = (j : ℕ) × IsReady p j r × (j < rounds) × (φ ≡ K j) × (slice_index r 6 ≡ a)
  Says (drawn K) p k r φ = Holding p r φ K (λ j i t. slice_index r 7 ≡ t * 2 ^ z + i)
  Says (rounded K) p k r φ = Holding p r φ K (λ j i t. (slice_index r 7 ≡ t * 2 ^ z + i) × (slice_index r 8 ≡ t))
  Says (turned e K) p k r φ = Holding p r φ K (λ j i t. (slice_index r 7 ≡ t * 2 ^ z + i) × (slice_index r 8 ≡ 2 * t + e))
  Says (masked e K) p k r φ = Holding p r φ K (λ j i t. (slice_index r 7 ≡ t * 2 ^ z + i) × (slice_index r 8 ≡ 2 * t + e) × (slice_index r 9 ≡ 2 ^ z - 1))
  Says (indexed e K) p k r φ = Holding p r φ K (λ j i t. (slice_index r 8 ≡ 2 * t + e) × (slice_index r 9 ≡ i))
  Says (turn_aimed e K) p k r φ = Holding p r φ K (λ j i t. (slice_index r 8 ≡ 2 * t + e) × (slice_index r 9 ≡ i) × (slice_index r 10 ≡ 8 + i))
  Says (aimed e K) p k r φ = Holding p r φ K (λ j i t. (slice_index r 8 ≡ 2 * t + e) × (slice_index r 10 ≡ 8 + i) × (slice_index r 11 ≡ 8 + 2 ^ z + i))
  Says (tested e K L) p k r φ = (j : ℕ) × IsReady p j r × (j < rounds) × ((i : ℕ) × (t : ℕ) × (i < 2 ^ z) × (t < 64000) × (slice_index r 12 ≡ slice_index r 8 → φ ≡ L j i t) × (slice_index r 12 ≢ slice_index r 8 → φ ≡ K j i t) × (slice_index r 8 ≡ 2 * t + e) × (slice_index r 10 ≡ 8 + i) × (slice_index r 11 ≡ 8 + 2 ^ z + i))
  Says (decided e K L) p k r φ = (j : ℕ) × IsReady p j r × (j < rounds) × ((i : ℕ) × (t : ℕ) × (i < 2 ^ z) × (t < 64000) × (slice_index r 13 ≢ 0 → φ ≡ L j i t) × (slice_index r 13 ≡ 0 → φ ≡ K j i t) × (slice_index r 8 ≡ 2 * t + e) × (slice_index r 10 ≡ 8 + i) × (slice_index r 11 ≡ 8 + 2 ^ z + i))
  Says (has_taken e) p k r φ = Holding p r φ (λ j i t. taken j i t (slice_index r 14)) (λ j i t. (slice_index r 8 ≡ 2 * t + e) × (slice_index r 10 ≡ 8 + i))
  Says carrying p k r φ = Holding p r φ (λ j i t. carries j i t (slice_index r 14)) (λ j i t. Unit {0})
  Says carrying_at p k r φ = Holding p r φ (λ j i t. carries j i t (slice_index r 14)) (λ j i t. slice_index r 6 ≡ 0)
  Says carrying_home p k r φ = Holding p r φ (λ j i t. carries j i t (slice_index r 14)) (λ j i t. slice_index r 6 ≡ 8 + 2 * 2 ^ z + (p + j * size c))
  Says round_over p k r φ = (j : ℕ) × IsReady p j r × (j < rounds) × (φ ≡ idle (j + 1))
  Says counted_off p k r φ = (j : ℕ) × Ready p (j + 1) (slice_index r 1) (slice_index r 2) (slice_index r 3) (slice_index r 4) (slice_index r 5 - 1) (slice_index r 15) × (1 ≤ slice_index r 5) × (j < rounds) × (φ ≡ idle (j + 1))
  Says next_round p k r φ = (j : ℕ) × IsReady p j r × (φ ≡ idle j)
  Says halted p k r φ = Unit {0}

  abbrev pub Local : ℕ → ℕ → List ℕ → Phase → Type 0
  Local p k r φ = Says (stage_at stages halted k) p k r φ

  -- the cells are those of a queue
  pub record Shows (cells : List ℕ) (s : Queue) : Type 0 where
    pub next_insert : slice_index cells 2 ≡ s.insert_index
    pub next_delete : slice_index cells 3 ≡ s.delete_index
    pub words : (i : ℕ) → i < 2 ^ z → slice_index cells (8 + i) ≡ s.turn i
    pub items : (i : ℕ) → i < 2 ^ z → slice_index cells (8 + 2 ^ z + i) ≡ s.item i
    pub results : (k : ℕ) → slice_index cells (8 + 2 * 2 ^ z + k) ≡ s.result k

  pub record State (cells : List ℕ) (phases : List Phase) : Type 0 where
    pub queue_is : Queue
    pub shows : Shows cells queue_is
    pub keeps : Keeps (size c) (2 ^ z) rounds queue_is phases

  places_small : 2 ^ z ≤ 64
  places_small = pow_mono few_places

  wide : (j : ℕ) → j < rounds → j * size c + size c ≤ 64000
  wide j l = let small = few_elements c ranged in let most : j * size c ≤ j * 64 = mul-le-mul_left j small in omega arith

  -- ---- registers
  ring_round : (v i t : ℕ) → i < 2 ^ z → v ≡ t * 2 ^ z + i → v / 2 ^ z ≡ t
  ring_round v i t l e = rw e (div-mul-add t (2 ^ z) i l)

  ring_place : (v m i t : ℕ) → i < 2 ^ z → m ≡ 2 ^ z - 1 → v ≡ t * 2 ^ z + i → bit_and v m ≡ i
  ring_place v m i t l e f = rw e (and_mask v z ∙ (ap (λ (n : ℕ). n % 2 ^ z) f ∙ mod-mul-add t (2 ^ z) i l))

  doubled : (v t : ℕ) → t < 64000 → v ≡ t → plus v v ≡ 2 * t + 0
  doubled v t l e = omega arith

  stepped : (v t e : ℕ) → t < 64000 → e ≤ 1 → v ≡ 2 * t + e → plus v 1 ≡ 2 * t + (e + 1)
  stepped v t e l m f = omega arith

  shifted : (v i n : ℕ) → i < 2 ^ z → n ≤ 72 → v ≡ i → plus v n ≡ n + i
  shifted v i n l m e = let many = places_small in omega arith

  home : (v p j : ℕ) → p < size c → j < rounds → v ≡ 1 + p + j * size c → plus v (7 + 2 * 2 ^ z) ≡ 8 + 2 * 2 ^ z + (p + j * size c)
  home v p j b l e = let many = places_small in let big = wide j l in omega arith

  next_ready : (p j : ℕ) (x : Sixteen) → p < size c → j < rounds → Ready p j x.r1 x.r2 x.r3 x.r4 x.r5 x.r15 → Ready p (j + 1) (plus x.r1 x.r2) x.r2 x.r3 x.r4 (x.r5 - 1) x.r15
  next_ready p j x b l h =
      let big = wide j l in
      let product : (j + 1) * size c ≡ j * size c + size c = rw (add-one j) (suc-mul j (size c)) in
      let own = h.own in let number = h.number in let left = h.left in
      record { own = omega arith; number = h.number; one = h.one; places = h.places; left = omega arith; back = h.back }

  counted : (p j : ℕ) (x : Sixteen) → Ready p j x.r1 x.r2 x.r3 x.r4 (x.r5 - 1) x.r15 → 1 ≤ x.r5 → Ready p j x.r1 x.r2 x.r3 x.r4 (minus x.r5 x.r3) x.r15
  counted p j x h some =
      let one = h.one in let left = h.left in
      record { own = h.own; number = h.number; one = h.one; places = h.places; left = omega arith; back = h.back }

  -- ---- cells
  still : (cells : List ℕ) (a v k : ℕ) → k ≢ a → slice_index (slice_set cells a v) k ≡ slice_index cells k
  still cells a v k d = get_or-set_other cells a k v 0 d

  shows_count : (cells : List ℕ) (s : Queue) (a v : ℕ) → a ≤ 1 → Shows cells s → Shows (slice_set cells a v) s
  shows_count cells s a v l h = record {
    next_insert = still cells a v 2 (omega arith) ∙ h.next_insert;
    next_delete = still cells a v 3 (omega arith) ∙ h.next_delete;
    words = λ i b. still cells a v (8 + i) (omega arith) ∙ h.words i b;
    items = λ i b. still cells a v (8 + 2 ^ z + i) (omega arith) ∙ h.items i b;
    results = λ k. still cells a v (8 + 2 * 2 ^ z + k) (omega arith) ∙ h.results k;
  }

  shows_insert : (cells : List ℕ) (s : Queue) (a v w : ℕ) → a < length cells → a ≡ 2 → v ≡ s.insert_index + 1 → Shows cells s → Shows (slice_set cells a v) (with_insert s w)
  shows_insert cells s a v w l e f h = record {
    next_insert = get_or-set_at cells a 2 v 0 (sym e) l ∙ f;
    next_delete = still cells a v 3 (omega arith) ∙ h.next_delete;
    words = λ i b. still cells a v (8 + i) (omega arith) ∙ h.words i b;
    items = λ i b. still cells a v (8 + 2 ^ z + i) (omega arith) ∙ h.items i b;
    results = λ k. still cells a v (8 + 2 * 2 ^ z + k) (omega arith) ∙ h.results k;
  }

  shows_delete : (cells : List ℕ) (s : Queue) (a v : ℕ) → a < length cells → a ≡ 3 → v ≡ s.delete_index + 1 → Shows cells s → Shows (slice_set cells a v) (with_delete s)
  shows_delete cells s a v l e f h = record {
    next_insert = still cells a v 2 (omega arith) ∙ h.next_insert;
    next_delete = get_or-set_at cells a 3 v 0 (sym e) l ∙ f;
    words = λ i b. still cells a v (8 + i) (omega arith) ∙ h.words i b;
    items = λ i b. still cells a v (8 + 2 ^ z + i) (omega arith) ∙ h.items i b;
    results = λ k. still cells a v (8 + 2 * 2 ^ z + k) (omega arith) ∙ h.results k;
  }

  -- a word of a row of cells is set
  row : (cells : List ℕ) (base a v i k : ℕ) (f : ℕ → ℕ) → a < length cells → a ≡ base + i → slice_index cells (base + k) ≡ f k → slice_index (slice_set cells a v) (base + k) ≡ changed f i v k
  row cells base a v i k f l e h = pick (λ (x : ℕ). slice_index (slice_set cells a v) (base + k) ≡ x) f i v k
      (λ m. get_or-set_at cells a (base + k) v 0 (omega arith) l)
      (λ d. still cells a v (base + k) (omega arith) ∙ h)

  shows_turn : (cells : List ℕ) (s : Queue) (a v i : ℕ) → a < length cells → i < 2 ^ z → a ≡ 8 + i → Shows cells s → Shows (slice_set cells a v) (with_turn s i v)
  shows_turn cells s a v i l w e h = record {
    next_insert = still cells a v 2 (omega arith) ∙ h.next_insert;
    next_delete = still cells a v 3 (omega arith) ∙ h.next_delete;
    words = λ k b. row cells 8 a v i k s.turn l e (h.words k b);
    items = λ k b. still cells a v (8 + 2 ^ z + k) (omega arith) ∙ h.items k b;
    results = λ k. still cells a v (8 + 2 * 2 ^ z + k) (omega arith) ∙ h.results k;
  }

  shows_item : (cells : List ℕ) (s : Queue) (a v i : ℕ) → a < length cells → i < 2 ^ z → a ≡ 8 + 2 ^ z + i → Shows cells s → Shows (slice_set cells a v) (with_item s i v)
  shows_item cells s a v i l w e h = record {
    next_insert = still cells a v 2 (omega arith) ∙ h.next_insert;
    next_delete = still cells a v 3 (omega arith) ∙ h.next_delete;
    words = λ k b. still cells a v (8 + k) (omega arith) ∙ h.words k b;
    items = λ k b. row cells (8 + 2 ^ z) a v i k s.item l e (h.items k b);
    results = λ k. still cells a v (8 + 2 * 2 ^ z + k) (omega arith) ∙ h.results k;
  }

  shows_result : (cells : List ℕ) (s : Queue) (a v i t : ℕ) → a < length cells → a ≡ 8 + 2 * 2 ^ z + i → Shows cells s → Shows (slice_set cells a v) (with_result s i v t)
  shows_result cells s a v i t l e h = record {
    next_insert = still cells a v 2 (omega arith) ∙ h.next_insert;
    next_delete = still cells a v 3 (omega arith) ∙ h.next_delete;
    words = λ k b. still cells a v (8 + k) (omega arith) ∙ h.words k b;
    items = λ k b. still cells a v (8 + 2 ^ z + k) (omega arith) ∙ h.items k b;
    results = λ k. row cells (8 + 2 * 2 ^ z) a v i k s.result l e (h.results k);
  }

  -- ---- references to cells
  -- the counts of items don't matter
  count_changes : (cells : List ℕ) (phases : List Phase) (a v : ℕ) → a ≤ 1 → State cells phases → State (slice_set cells a v) phases
  count_changes cells phases a v l g = record { queue_is = g.queue_is; shows = shows_count cells g.queue_is a v l g.shows; keeps = g.keeps }

  few_phases : (phases : List Phase) (p : ℕ) (ψ : Phase) → length phases ≡ size c → length (slice_set phases p ψ) ≤ 64
  few_phases phases p ψ n = let small = few_elements c ranged in let long : length (slice_set phases p ψ) ≡ length phases = length-set phases p ψ in omega arith

  -- the place of a ticket, and its round of the ring
  place_of : (t : ℕ) → t % 2 ^ z < 2 ^ z
  place_of t = mod-lt t (pow_pos z)

  small_round : (t : ℕ) → t + 1 ≤ 64000 → t / 2 ^ z < 64000
  small_round t l = let less : t / 2 ^ z ≤ t = div-le_self t (2 ^ z) in omega arith

  -- an index after a ticket was drawn
  drawn_next : (v w t : ℕ) → v ≡ t → w ≡ 1 → t + 1 ≤ 64000 → plus v w ≡ t + 1
  drawn_next v w t e f l = omega arith

  insert_drawn : (p : ℕ) (x : Sixteen) (φ : Phase) (cells : List ℕ) (phases : List Phase) → p < size c → length phases ≡ size c → IsIn phases p out φ → x.r6 < length cells → State cells phases → Says (at_cell 2 idle) p 20 (listed x) φ
      → Comes c Phase out Local State p 21 (slice_set (listed x) 7 (slice_index cells x.r6)) (slice_set cells x.r6 (plus (slice_index cells x.r6) x.r3)) phases
  insert_drawn p x φ cells phases b n i l g h =
      let j : ℕ = h.0 in
      let s : Queue = g.queue_is in
      let t : ℕ = s.insert_index in
      let split : t / 2 ^ z * 2 ^ z + t % 2 ^ z ≡ t = shr_split t z in
      let old : slice_index cells x.r6 ≡ t = ap (slice_index cells) h.4 ∙ g.shows.next_insert in
      let keeps = draws_insert (size c) (2 ^ z) rounds s phases p j (t % 2 ^ z) (t / 2 ^ z) b h.2 (at_phase h.3 i) g.keeps (place_of t) (sym split) in
      let most : t + 1 ≤ 64000 = few_tickets (size c) (2 ^ z) rounds (with_insert s (1 + p + j * size c)) (slice_set phases p (inserts j (t % 2 ^ z) (t / 2 ^ z))) (few_phases phases p (inserts j (t % 2 ^ z) (t / 2 ^ z)) n) few keeps in
      let one : x.r3 ≡ 1 = h.1.one in
      let next : plus (slice_index cells x.r6) x.r3 ≡ t + 1 = drawn_next (slice_index cells x.r6) x.r3 t old one most in (
        inserts j (t % 2 ^ z) (t / 2 ^ z),
        (j, h.1, h.2, (t % 2 ^ z, t / 2 ^ z, place_of t, small_round t most, refl, old ∙ sym split)),
        record { queue_is = with_insert s (1 + p + j * size c); shows = shows_insert cells s x.r6 _ (1 + p + j * size c) l h.4 next g.shows; keeps = keeps },
      )

  delete_drawn : (p : ℕ) (x : Sixteen) (φ : Phase) (cells : List ℕ) (phases : List Phase) → p < size c → length phases ≡ size c → IsIn phases p out φ → x.r6 < length cells → State cells phases → Says (at_cell 3 between) p 55 (listed x) φ
      → Comes c Phase out Local State p 56 (slice_set (listed x) 7 (slice_index cells x.r6)) (slice_set cells x.r6 (plus (slice_index cells x.r6) x.r3)) phases
  delete_drawn p x φ cells phases b n i l g h =
      let j : ℕ = h.0 in
      let s : Queue = g.queue_is in
      let t : ℕ = s.delete_index in
      let split : t / 2 ^ z * 2 ^ z + t % 2 ^ z ≡ t = shr_split t z in
      let old : slice_index cells x.r6 ≡ t = ap (slice_index cells) h.4 ∙ g.shows.next_delete in
      let ψ : Phase = deletes j (t % 2 ^ z) (t / 2 ^ z) in
      let keeps = draws_delete (size c) (2 ^ z) rounds s phases p j (t % 2 ^ z) (t / 2 ^ z) (at_phase h.3 i) g.keeps (place_of t) (sym split) in
      let most : s.insert_index ≤ 64000 = few_tickets (size c) (2 ^ z) rounds (with_delete s) (slice_set phases p ψ) (few_phases phases p ψ n) few keeps in
      let less : t + 1 ≤ s.insert_index = fewer (size c) (2 ^ z) rounds (with_delete s) (slice_set phases p ψ) keeps in
      let few_deletes : t + 1 ≤ 64000 = omega arith in
      let next : plus (slice_index cells x.r6) x.r3 ≡ t + 1 = drawn_next (slice_index cells x.r6) x.r3 t old h.1.one few_deletes in (
        ψ,
        (j, h.1, h.2, (t % 2 ^ z, t / 2 ^ z, place_of t, small_round t few_deletes, refl, old ∙ sym split)),
        record { queue_is = with_delete s; shows = shows_delete cells s x.r6 _ l h.4 next g.shows; keeps = keeps },
      )

  -- the turn word is tested
  turn_tested : (e : ℕ) (K L : Kind) (k m p : ℕ) (x : Sixteen) (φ : Phase) (cells : List ℕ) (phases : List Phase)
      → ((s : Queue) (j i t : ℕ) → IsIn phases p out (K j i t) → Keeps (size c) (2 ^ z) rounds s phases → s.turn i ≡ 2 * t + e → Keeps (size c) (2 ^ z) rounds s (slice_set phases p (L j i t)))
      → IsIn phases p out φ → State cells phases → Says (aimed e K) p k (listed x) φ
      → (ψ : Phase) × Says (tested e K L) p m (slice_set (listed x) 12 (slice_index cells x.r10)) ψ × State cells (slice_set phases p ψ)
  turn_tested e K L k m p x φ cells phases reaches i g h =
      let f = h.3 in
      let word : slice_index cells x.r10 ≡ g.queue_is.turn f.0 = ap (slice_index cells) f.5.1 ∙ g.shows.words f.0 f.2 in
      elim (cases_eq (slice_index cells x.r10) x.r8) [
        | inl a ↦ (
          L h.0 f.0 f.1,
          (h.0, h.1, h.2, (f.0, f.1, f.2, f.3, (λ _. refl), (λ d. absurd (d a)), f.5.0, f.5.1, f.5.2)),
          record { queue_is = g.queue_is; shows = g.shows; keeps = reaches g.queue_is h.0 f.0 f.1 (at_phase f.4 i) g.keeps (sym word ∙ a ∙ f.5.0) },
        )
        | inr d ↦ (
          φ,
          (h.0, h.1, h.2, (f.0, f.1, f.2, f.3, (λ a. absurd (d a)), (λ _. f.4), f.5.0, f.5.1, f.5.2)),
          rw (unchanged phases p out φ i) g,
        )
      ]

  data_put : (p : ℕ) (x : Sixteen) (φ : Phase) (cells : List ℕ) (phases : List Phase) → IsIn phases p out φ → x.r11 < length cells → State cells phases → Says (aimed 0 puts) p 32 (listed x) φ
      → Comes c Phase out Local State p 33 (listed x) (slice_set cells x.r11 x.r1) phases
  data_put p x φ cells phases i l g h =
      let f = h.3 in (
        has_put h.0 f.0 f.1,
        (h.0, h.1, h.2, (f.0, f.1, f.2, f.3, refl, f.5)),
        record {
          queue_is = with_item g.queue_is f.0 x.r1;
          shows = shows_item cells g.queue_is x.r11 x.r1 f.0 l f.2 f.5.2 g.shows;
          keeps = puts_item (size c) (2 ^ z) rounds g.queue_is phases p h.0 f.0 f.1 x.r1 (at_phase f.4 i) g.keeps h.1.own;
        },
      )

  turn_opened : (p : ℕ) (x : Sixteen) (φ : Phase) (cells : List ℕ) (phases : List Phase) → IsIn phases p out φ → x.r10 < length cells → State cells phases → Says (aimed 1 has_put) p 35 (listed x) φ
      → Comes c Phase out Local State p 36 (listed x) (slice_set cells x.r10 x.r8) phases
  turn_opened p x φ cells phases i l g h =
      let f = h.3 in (
        between h.0,
        (h.0, h.1, h.2, refl),
        rw f.5.0 record {
          queue_is = with_turn g.queue_is f.0 (2 * f.1 + 1);
          shows = shows_turn cells g.queue_is x.r10 (2 * f.1 + 1) f.0 l f.2 f.5.1 g.shows;
          keeps = opens_turn (size c) (2 ^ z) rounds g.queue_is phases p h.0 f.0 f.1 (at_phase f.4 i) g.keeps;
        },
      )

  item_taken : (p : ℕ) (x : Sixteen) (φ : Phase) (cells : List ℕ) (phases : List Phase) → IsIn phases p out φ → State cells phases → Says (aimed 1 takes) p 68 (listed x) φ
      → Comes c Phase out Local State p 69 (slice_set (listed x) 14 (slice_index cells x.r11)) cells phases
  item_taken p x φ cells phases i g h =
      let f = h.3 in
      let item : slice_index cells x.r11 ≡ g.queue_is.item f.0 = ap (slice_index cells) f.5.2 ∙ g.shows.items f.0 f.2 in (
        taken h.0 f.0 f.1 (slice_index cells x.r11),
        (h.0, h.1, h.2, (f.0, f.1, f.2, f.3, refl, (f.5.0, f.5.1))),
        record { queue_is = g.queue_is; shows = g.shows; keeps = takes_item (size c) (2 ^ z) rounds g.queue_is phases p h.0 f.0 f.1 (slice_index cells x.r11) (at_phase f.4 i) g.keeps item },
      )

  turn_closed : (p : ℕ) (x : Sixteen) (φ : Phase) (cells : List ℕ) (phases : List Phase) → IsIn phases p out φ → x.r10 < length cells → State cells phases → Says (has_taken 2) p 71 (listed x) φ
      → Comes c Phase out Local State p 72 (listed x) (slice_set cells x.r10 x.r8) phases
  turn_closed p x φ cells phases i l g h =
      let f = h.3 in (
        carries h.0 f.0 f.1 x.r14,
        (h.0, h.1, h.2, (f.0, f.1, f.2, f.3, refl, tt)),
        rw f.5.0 record {
          queue_is = with_turn g.queue_is f.0 (2 * f.1 + 2);
          shows = shows_turn cells g.queue_is x.r10 (2 * f.1 + 2) f.0 l f.2 f.5.1 g.shows;
          keeps = closes_turn (size c) (2 ^ z) rounds g.queue_is phases p h.0 f.0 f.1 x.r14 (at_phase f.4 i) g.keeps;
        },
      )

  result_put : (p : ℕ) (x : Sixteen) (φ : Phase) (cells : List ℕ) (phases : List Phase) → IsIn phases p out φ → x.r6 < length cells → State cells phases → Says carrying_home p 77 (listed x) φ
      → Comes c Phase out Local State p 78 (listed x) (slice_set cells x.r6 x.r14) phases
  result_put p x φ cells phases i l g h =
      let f = h.3 in (
        idle (h.0 + 1),
        (h.0, h.1, h.2, refl),
        record {
          queue_is = with_result g.queue_is (p + h.0 * size c) x.r14 (f.1 * 2 ^ z + f.0);
          shows = shows_result cells g.queue_is x.r6 x.r14 (p + h.0 * size c) (f.1 * 2 ^ z + f.0) l f.5 g.shows;
          keeps = puts_result (size c) (2 ^ z) rounds g.queue_is phases p h.0 f.0 f.1 x.r14 (at_phase f.4 i) g.keeps;
        },
      )

  pub steps : AreKept c Phase out Local State 0 (queue z rounds)
  steps =
      (λ p b x φ h. (λ _. refl, h.1))
      ▹ (λ p b x φ h. let own = h.0 (omega arith) in let small = few_elements c ranged in ((omega arith, tt), h.1))
      ▹ (λ p b x φ h. ((refl, h.0), h.1))
      ▹ (λ p b x φ h. ((refl, h.0), h.1))
      ▹ (λ p b x φ h. ((refl, h.0), h.1))
      ▹ (λ p b x φ h. ((refl, h.0), h.1))
      ▹ (λ p b x φ h. let k = h.0 in let own = k.1.1.1.1.0 in let left = k.0 in (0, record { own = omega arith; number = k.1.1.1.0; one = k.1.1.0; places = k.1.0; left = omega arith; back = refl }, some, h.1))
      ▹ (λ p b x φ h. (h.0, h.1, h.2, h.3, refl))
      ▹ (λ p b x φ h cells phases n i l g. (φ, h, rw (unchanged phases p out φ i) g))
      ▹ (λ p b x φ h. h)
      ▹ (λ p b x φ h. (λ e. h, λ e. h))
      ▹ (λ p b x φ h. (λ e. (h.0, h.1, h.2, h.3), λ e. h))
      ▹ (λ p b x φ h cells phases n i l g. (φ, h, rw (unchanged phases p out φ i) (count_changes cells phases x.r6 _ (let a = h.4 in omega arith) g)))
      ▹ (λ p b x φ h. h)
      ▹ (λ p b x φ h. (λ e. h, λ e. h))
      ▹ (λ p b x φ h. (λ e. h, λ e. (h.0, h.1, h.2, h.3)))
      ▹ (λ p b x φ h cells phases n i l g. (φ, h, rw (unchanged phases p out φ i) (count_changes cells phases x.r6 _ (let a = h.4 in omega arith) g)))
      ▹ (λ p b x φ h. h)
      ▹ (λ p b x φ h. (h.0, h.1, h.2, h.3))
      ▹ (λ p b x φ h. (h.0, h.1, h.2, h.3, refl))
      ▹ (λ p b x φ h cells phases n i l g. insert_drawn p x φ cells phases b n i l g h)
      ▹ (λ p b x φ h. h)
      ▹ (λ p b x φ h. let f = h.3 in (h.0, h.1, h.2, (f.0, f.1, f.2, f.3, f.4, (f.5, ring_round x.r7 f.0 f.1 f.2 f.5))))
      ▹ (λ p b x φ h. let f = h.3 in (h.0, h.1, h.2, (f.0, f.1, f.2, f.3, f.4, (f.5.0, doubled x.r8 f.1 f.3 f.5.1))))
      ▹ (λ p b x φ h. let f = h.3 in (h.0, h.1, h.2, (f.0, f.1, f.2, f.3, f.4, (f.5.0, f.5.1, refl))))
      ▹ (λ p b x φ h. let f = h.3 in (h.0, h.1, h.2, (f.0, f.1, f.2, f.3, f.4, (f.5.1, ring_place x.r7 x.r9 f.0 f.1 f.2 f.5.2 f.5.0))))
      ▹ (λ p b x φ h. let f = h.3 in (h.0, h.1, h.2, (f.0, f.1, f.2, f.3, f.4, (f.5.0, f.5.1, shifted x.r9 f.0 8 f.2 (omega arith) f.5.1))))
      ▹ (λ p b x φ h. let f = h.3 in let many = places_small in (h.0, h.1, h.2, (f.0, f.1, f.2, f.3, f.4, (f.5.0, f.5.2, shifted x.r9 f.0 (8 + 2 ^ z) f.2 (omega arith) f.5.1))))
      ▹ (λ p b x φ h cells phases n i l g. turn_tested 0 inserts puts 28 29 p x φ cells phases (λ s j i t k g e. reaches_insert (size c) (2 ^ z) rounds s phases p j i t k g (e ∙ omega arith)) i g h)
      ▹ (λ p b x φ h. h)
      ▹ (λ p b x φ h. let f = h.3 in (λ e. (h.0, h.1, h.2, (f.0, f.1, f.2, f.3, (λ _. f.4 e), (λ y. absurd (omega arith)), f.6, f.7, f.8)), λ e. (h.0, h.1, h.2, (f.0, f.1, f.2, f.3, (λ y. absurd (y refl)), (λ _. f.5 e), f.6, f.7, f.8))))
      ▹ (λ p b x φ h. let f = h.3 in (λ e. (h.0, h.1, h.2, (f.0, f.1, f.2, f.3, f.5 e, (f.6, f.7, f.8))), λ e. (h.0, h.1, h.2, (f.0, f.1, f.2, f.3, f.4 e, (f.6, f.7, f.8)))))
      ▹ (λ p b x φ h cells phases n i l g. data_put p x φ cells phases i l g h)
      ▹ (λ p b x φ h. h)
      ▹ (λ p b x φ h. let f = h.3 in (h.0, h.1, h.2, (f.0, f.1, f.2, f.3, f.4, (stepped x.r8 f.1 0 f.3 (omega arith) f.5.0, f.5.1, f.5.2))))
      ▹ (λ p b x φ h cells phases n i l g. turn_opened p x φ cells phases i l g h)
      ▹ (λ p b x φ h. h)
      ▹ (λ p b x φ h. (h.0, h.1, h.2, h.3, refl))
      ▹ (λ p b x φ h cells phases n i l g. (φ, (h.0, h.1, h.2, h.3), rw (unchanged phases p out φ i) (count_changes cells phases x.r6 _ (let a = h.4 in omega arith) g)))
      ▹ (λ p b x φ h. h)
      ▹ (λ p b x φ h. (h.0, h.1, h.2, h.3, refl))
      ▹ (λ p b x φ h cells phases n i l g. (φ, h, rw (unchanged phases p out φ i) g))
      ▹ (λ p b x φ h. h)
      ▹ (λ p b x φ h. h)
      ▹ (λ p b x φ h. (λ e. h, λ e. h))
      ▹ (λ p b x φ h. (λ e. (h.0, h.1, h.2, h.3), λ e. h))
      ▹ (λ p b x φ h cells phases n i l g. (φ, h, rw (unchanged phases p out φ i) (count_changes cells phases x.r6 _ (let a = h.4 in omega arith) g)))
      ▹ (λ p b x φ h. h)
      ▹ (λ p b x φ h. h)
      ▹ (λ p b x φ h. (λ e. h, λ e. h))
      ▹ (λ p b x φ h. (λ e. h, λ e. (h.0, h.1, h.2, h.3)))
      ▹ (λ p b x φ h cells phases n i l g. (φ, h, rw (unchanged phases p out φ i) (count_changes cells phases x.r6 _ (let a = h.4 in omega arith) g)))
      ▹ (λ p b x φ h. h)
      ▹ (λ p b x φ h. (h.0, h.1, h.2, h.3))
      ▹ (λ p b x φ h. (h.0, h.1, h.2, h.3, refl))
      ▹ (λ p b x φ h cells phases n i l g. delete_drawn p x φ cells phases b n i l g h)
      ▹ (λ p b x φ h. h)
      ▹ (λ p b x φ h. let f = h.3 in (h.0, h.1, h.2, (f.0, f.1, f.2, f.3, f.4, (f.5, ring_round x.r7 f.0 f.1 f.2 f.5))))
      ▹ (λ p b x φ h. let f = h.3 in (h.0, h.1, h.2, (f.0, f.1, f.2, f.3, f.4, (f.5.0, doubled x.r8 f.1 f.3 f.5.1))))
      ▹ (λ p b x φ h. let f = h.3 in (h.0, h.1, h.2, (f.0, f.1, f.2, f.3, f.4, (f.5.0, stepped x.r8 f.1 0 f.3 (omega arith) f.5.1))))
      ▹ (λ p b x φ h. let f = h.3 in (h.0, h.1, h.2, (f.0, f.1, f.2, f.3, f.4, (f.5.0, f.5.1, refl))))
      ▹ (λ p b x φ h. let f = h.3 in (h.0, h.1, h.2, (f.0, f.1, f.2, f.3, f.4, (f.5.1, ring_place x.r7 x.r9 f.0 f.1 f.2 f.5.2 f.5.0))))
      ▹ (λ p b x φ h. let f = h.3 in (h.0, h.1, h.2, (f.0, f.1, f.2, f.3, f.4, (f.5.0, f.5.1, shifted x.r9 f.0 8 f.2 (omega arith) f.5.1))))
      ▹ (λ p b x φ h. let f = h.3 in let many = places_small in (h.0, h.1, h.2, (f.0, f.1, f.2, f.3, f.4, (f.5.0, f.5.2, shifted x.r9 f.0 (8 + 2 ^ z) f.2 (omega arith) f.5.1))))
      ▹ (λ p b x φ h cells phases n i l g. turn_tested 1 deletes takes 64 65 p x φ cells phases (λ s j i t k g e. reaches_delete (size c) (2 ^ z) rounds s phases p j i t k g e) i g h)
      ▹ (λ p b x φ h. h)
      ▹ (λ p b x φ h. let f = h.3 in (λ e. (h.0, h.1, h.2, (f.0, f.1, f.2, f.3, (λ _. f.4 e), (λ y. absurd (omega arith)), f.6, f.7, f.8)), λ e. (h.0, h.1, h.2, (f.0, f.1, f.2, f.3, (λ y. absurd (y refl)), (λ _. f.5 e), f.6, f.7, f.8))))
      ▹ (λ p b x φ h. let f = h.3 in (λ e. (h.0, h.1, h.2, (f.0, f.1, f.2, f.3, f.5 e, (f.6, f.7, f.8))), λ e. (h.0, h.1, h.2, (f.0, f.1, f.2, f.3, f.4 e, (f.6, f.7, f.8)))))
      ▹ (λ p b x φ h cells phases n i l g. item_taken p x φ cells phases i g h)
      ▹ (λ p b x φ h. h)
      ▹ (λ p b x φ h. let f = h.3 in (h.0, h.1, h.2, (f.0, f.1, f.2, f.3, f.4, (stepped x.r8 f.1 1 f.3 (omega arith) f.5.0, f.5.1))))
      ▹ (λ p b x φ h cells phases n i l g. turn_closed p x φ cells phases i l g h)
      ▹ (λ p b x φ h. h)
      ▹ (λ p b x φ h. let f = h.3 in (h.0, h.1, h.2, (f.0, f.1, f.2, f.3, f.4, refl)))
      ▹ (λ p b x φ h cells phases n i l g. let f = h.3 in (φ, (h.0, h.1, h.2, (f.0, f.1, f.2, f.3, f.4, tt)), rw (unchanged phases p out φ i) (count_changes cells phases x.r6 _ (let a = f.5 in omega arith) g)))
      ▹ (λ p b x φ h. h)
      ▹ (λ p b x φ h. let f = h.3 in (h.0, h.1, h.2, (f.0, f.1, f.2, f.3, f.4, home x.r1 p h.0 b h.2 h.1.own)))
      ▹ (λ p b x φ h cells phases n i l g. result_put p x φ cells phases i l g h)
      ▹ (λ p b x φ h. h)
      ▹ (λ p b x φ h. (h.0, next_ready p h.0 x b h.2 h.1, (let left = h.1.left in omega arith), h.2, h.3))
      ▹ (λ p b x φ h. (h.0 + 1, counted p (h.0 + 1) x h.1 h.2, h.4))
      ▹ (λ p b x φ h. (λ e. tt, λ e. (h.0, h.1, (let left = h.1.left in omega arith), h.2)))
      ▹ (λ p b x φ h. tt)
      ▹ tt

  first : c.initial ≡ [] → State (start_para c).cells (replicate (size c) out)
  first none = record {
    queue_is = empty;
    shows = record {
      next_insert = zero_at_first c none 2;
      next_delete = zero_at_first c none 3;
      words = λ i b. zero_at_first c none (8 + i);
      items = λ i b. zero_at_first c none (8 + 2 ^ z + i);
      results = λ k. zero_at_first c none (8 + 2 * 2 ^ z + k);
    };
    keeps = keeps_at_first (size c) (2 ^ z) rounds (size c);
  }

  law : (cells : List ℕ) (phases : List Phase) → State cells phases → AreItemsOnce z rounds (size c) (slice_index cells)
  law cells phases g =
      let s : Queue = g.queue_is in
      let is : (k : ℕ) → slice_index cells (8 + 2 * 2 ^ z + k) ≡ s.result k = g.shows.results in
      let there : (k : ℕ) → slice_index cells (8 + 2 * 2 ^ z + k) ≢ 0 → s.result k ≢ 0 = λ k n e. n (is k ∙ e) in
      record {
        different = λ k l d n e. results_different (size c) (2 ^ z) rounds s g.keeps.standing k l d (there k n) (sym (is k) ∙ e ∙ is l);
        inserted = λ k n. let r = result_of_round (size c) (2 ^ z) rounds s phases g.keeps k (there k n) in record {
          element = r.0;
          its_round = r.1;
          below_size = r.2;
          below_rounds = r.3;
          value = is k ∙ r.4 ∙ omega arith;
          has_begun = λ i l e. r.5 i l (sym (is (r.0 + i * size c)) ∙ e);
        };
        ticket = s.origin;
        drawn = λ k n. let t = g.keeps.standing.of_ticket k (there k n) in let a = g.shows.next_insert in let b = g.shows.next_delete in (omega (arith, t.0, a), omega (arith, t.1, b));
        own = λ k l m n e. g.keeps.standing.once k l (there k m) (there l n) e;
      }

  pub items_once : c.initial ≡ [] → (schedule : List ℕ) → All (λ p. p < size c) schedule → AreItemsOnce z rounds (size c) (slice_index (run_para c (queue z rounds) (start_para c) schedule).cells)
  items_once none schedule elements =
      let h = always c Phase out Local State (queue z rounds) steps (λ p b. ((λ m. absurd (omega arith)), refl)) (first none) schedule elements in
      law (run_para c (queue z rounds) (start_para c) schedule).cells h.phases h.global

pub kept : (z rounds : ℕ) → z ≤ 6 → 1 ≤ rounds → rounds ≤ 1000 → IsKeptBySchedules (queue z rounds) (AreItemsOnce z rounds)
kept z rounds small some few c ranged none schedule elements = items_once z rounds small some few c ranged none schedule elements
