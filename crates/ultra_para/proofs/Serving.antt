-- an entry of the serial list is a step of the paracomputer
use Rattle.std.proofs.Common.{◌≡◌, ℕ, ◌*◌, ◌<◌, ◌≤◌, List, [], ◌∷◌, ◌++◌, length, map, true, false, Bool, refl, arith, sym, ◌∙◌, ap, subst, ◌⊎◌, inl, inr, ⊎_elim, append_assoc}
use Rattle.std.specs.Prelude.{Some, None, slice_index, slice_index_or, slice_set, ◌==◌}
use Rattle.std.specs.List.{AllByRecursion}
use Rattle.std.proofs.lemmas.{Bool.cases_eq, List.{get_or-set_same, get_or-set_other, length-set, append-nil}}
use Rattle.ultra_msg.specs.{declared.Request.Request, Act.act}
use Rattle.ultra_pni.specs.Interface.{target_of}
use Rattle.ultra_isa.specs.{declared.Instr.Instr, Step.{Core, fresh_core, received}}
use Rattle.ultra_model.specs.{Machine.{Settings, Element, size}, Balance.{weight, count}}
use Rattle.ultra_model.proofs.{Each.each-weaker, Counting.count-append, Neighbours.itself}
use Rattle.ultra_serial_law.specs.declared.{NamedRequest.NamedRequest, LoggedIssue.LoggedIssue, Entry.Entry as Done}
use Rattle.ultra_serial_law.specs.Legal.{Cells, with_cell, answered_by, cells_after, replayed, leaf_of_entry}
use Rattle.ultra_serial_law.proofs.{Explained.{in-append, in-append_right}, Issued.is_named, Named.IsLogged, RequestForest.in_holds, LaneForest.in_counts, Lists.count_replayed, Tidy.that_is, Replays.{cells-append, replayed-append, with_other}}
use Rattle.ultra_para.specs.Para.{Para, core_at, cells_acted, core_answered, alone, after_alone, para_step, run_para}
use Rattle.ultra_para.proofs.Relation.{IsServed, IsServedIssue, IsServedOr, IsAsking, IsActed, State, AreRelated, state_other, IsOpening, opening}

with_here : (m : Cells) (a b v : ℕ) → b ≡ a → with_cell m a v b ≡ v
with_here m a b v e = let f : Bool → ℕ = λ t. elim t [ true ↦ v | false ↦ m b ] in ap f (ap (λ z. b == z) (sym e) ∙ itself b)

module _ (c : Settings) (program : List Instr) where
  -- a step that sends a request, and one that sends none
  abbrev pub answered : Core → ℕ → Request → ℕ → Core
  answered before p r x = record (alone c program p before).core { registers = received (alone c program p before).core.registers (target_of r.cell (alone c program p before).interface.opened) (act r.op x).1 }

  pub step_acts : (v : Para) (p : ℕ) (before : Core) (r : Request) → core_at v p ≡ before → (alone c program p before).sent ≡ Some r
      → para_step c program v p ≡ record { cells = slice_set v.cells r.cell (act r.op (slice_index v.cells r.cell)).0; cores = slice_set v.cores p (answered before p r (slice_index v.cells r.cell)) }
  step_acts v p before r e f =
      ap (λ q. after_alone c program v p (alone c program p q)) e
      ∙ ap (λ o. record { cells = cells_acted v.cells o; cores = slice_set v.cores p (core_answered v.cells (alone c program p before) o) }) f

  pub step_alone : (v : Para) (p : ℕ) (before : Core) → core_at v p ≡ before → (alone c program p before).sent ≡ None
      → para_step c program v p ≡ record { cells = v.cells; cores = slice_set v.cores p (alone c program p before).core }
  step_alone v p before e f =
      ap (λ q. after_alone c program v p (alone c program p q)) e
      ∙ ap (λ o. record { cells = cells_acted v.cells o; cores = slice_set v.cores p (core_answered v.cells (alone c program p before) o) }) f

  module _ (is : List LoggedIssue) (initial : Cells) (e : ℕ → Element) where
    abbrev Related : List NamedRequest → Para → Type 0
    Related order v = AreRelated c program is (replayed initial order) (cells_after initial order) e v

    -- whose request this is: its processing element asks for it
    pub record IsAsked (list : List Done) (l : NamedRequest) (v : Para) : Type 0 where
      pub asking : IsAsking c program is list l.pe (e l.pe).core (e l.pe).interface.opened (e l.pe).issued (core_at v l.pe)
      pub number : l.number ≡ asking.waiting.number
      pub cell : l.cell ≡ asking.waiting.request.cell
      pub op : l.op ≡ asking.waiting.request.op

    asked_by : (list : List Done) (l : NamedRequest) (v : Para) (s : IsAsking c program is list l.pe (e l.pe).core (e l.pe).interface.opened (e l.pe).issued (core_at v l.pe)) (i : LoggedIssue) → (i.number ≡ l.number) → (i.cell ≡ l.cell) → (i.op ≡ l.op)
        → (IsServed list l.pe l.number → ⊥) → IsServed list l.pe i.number ⊎ ((i.number ≡ s.waiting.number) × (i.cell ≡ s.waiting.request.cell) × (i.op ≡ s.waiting.request.op)) → IsAsked list l v
    asked_by list l v s i n a o fresh (inl h) = absurd (fresh (subst (λ k. IsServed list l.pe k) n h))
    asked_by list l v s i n a o fresh (inr h) = record { asking = s; number = sym n ∙ h.0; cell = sym a ∙ h.1; op = sym o ∙ h.2 }

    asked : (list : List Done) (l : NamedRequest) (v : Para) → IsLogged is l → (IsServed list l.pe l.number → ⊥) → State c program is list l.pe (e l.pe).core (e l.pe).interface.opened (e l.pe).issued (core_at v l.pe) → IsAsked list l v
    asked list l v z fresh (inl s) =
        let k = (in_holds (IsServedIssue list l.pe (e l.pe).issued) z.0 is s.served z.1) z.2 in
        absurd (fresh (subst (λ n. IsServed list l.pe n) z.3 k.1))
    asked list l v z fresh (inr (inl s)) =
        let k = (in_holds (IsServedOr list l.pe (e l.pe).issued s.waiting.number s.waiting.request) z.0 is s.others z.1) z.2 in
        asked_by list l v s z.0 z.3 z.4 z.5 fresh k.1
    asked list l v z fresh (inr (inr s)) =
        let k = (in_holds (IsServedIssue list l.pe (e l.pe).issued) z.0 is s.served z.1) z.2 in
        absurd (fresh (subst (λ n. IsServed list l.pe n) z.3 k.1))

    module _ (order : List NamedRequest) (v : Para) (w : Related order v) (l : NamedRequest) (hp : l.pe < size c) (a : IsAsked (replayed initial order) l v) where
      abbrev list : List Done
      list = replayed initial order

      abbrev before_it : Cells
      before_it = cells_after initial order

      abbrev r : Request
      r = a.asking.waiting.request

      abbrev start_core : Core
      start_core = a.asking.waiting.before

      opens : IsOpening c program l.pe start_core r
      opens = opening c program l.pe start_core r a.asking.waiting.sent

      abbrev value : ℕ
      value = slice_index v.cells r.cell

      value_is : value ≡ before_it l.cell
      value_is = w.held r.cell opens.cell ∙ ap before_it (sym a.cell)

      abbrev done : Done
      done = answered_by l (act l.op (before_it l.cell)).1

      next : para_step c program v l.pe ≡ record { cells = slice_set v.cells r.cell (act r.op value).0; cores = slice_set v.cores l.pe (answered start_core l.pe r value) }
      next = step_acts v l.pe start_core r a.asking.same a.asking.waiting.sent

      cell_then : (b : ℕ) → b < size c * c.cells → slice_index (slice_set v.cells r.cell (act r.op value).0) b ≡ with_cell before_it l.cell (act l.op (before_it l.cell)).0 b
      cell_then b hb =
          ⊎_elim
          (λ same.
          let within : r.cell < length v.cells = omega (arith, opens.cell, w.long) in
          ap (λ z. slice_index (slice_set v.cells r.cell (act r.op value).0) z) same
          ∙ (get_or-set_same v.cells r.cell (act r.op value).0 0 within
          ∙ (ap (λ x. (act r.op x).0) value_is
          ∙ (ap (λ o. (act o (before_it l.cell)).0) (sym a.op)
          ∙ sym (with_here before_it l.cell b (act l.op (before_it l.cell)).0 (same ∙ sym a.cell))))))
          (λ apart.
          get_or-set_other v.cells r.cell b (act r.op value).0 0 apart
          ∙ (w.held b hb ∙ sym (with_other before_it l.cell (act l.op (before_it l.cell)).0 b (λ z. apart (z ∙ a.cell)))))
          (cases_eq b r.cell)

      core_same : (p : ℕ) → p ≡ l.pe → slice_index_or (slice_set v.cores l.pe (answered start_core l.pe r value)) p fresh_core ≡ answered start_core l.pe r value
      core_same p same = rw same (get_or-set_same v.cores l.pe (answered start_core l.pe r value) fresh_core (omega (arith, hp, w.wide)))

      -- it has acted now
      served_now : (i : LoggedIssue) → IsServedOr list l.pe (e l.pe).issued a.asking.waiting.number r i → IsServedIssue (list ++ done ∷ []) l.pe (e l.pe).issued i
      served_now i f z =
          let g = f z in (
            g.0,
            ⊎_elim (λ (s : IsServed list l.pe i.number). let u : IsServed (list ++ done ∷ []) l.pe i.number = (s.0, in-append s.0 list (done ∷ []) s.1, s.2, s.3) in u)
                (λ (s : (i.number ≡ a.asking.waiting.number) × (i.cell ≡ r.cell) × (i.op ≡ r.op)).
                let u : IsServed (list ++ done ∷ []) l.pe i.number = (done, in-append_right done list (done ∷ []) (inl refl), refl, a.number ∙ sym s.0) in u) g.1,
          )

      answer_is : answered start_core l.pe r value ≡ record (e l.pe).core { registers = received (e l.pe).core.registers (target_of r.cell (e l.pe).interface.opened) done.reply }
      answer_is =
          let w1 = a.asking.waiting in
          let reply : (act r.op value).1 ≡ done.reply = ap (λ x. (act r.op x).1) value_is ∙ ap (λ o. (act o (before_it l.cell)).1) (sym a.op) in
          ap (λ (q : Core). record q { registers = received q.registers (target_of r.cell (alone c program l.pe start_core).interface.opened) (act r.op value).1 }) w1.core
          ∙ (ap (λ os. record (e l.pe).core { registers = received (e l.pe).core.registers (target_of r.cell os) (act r.op value).1 }) w1.opened
          ∙ ap (λ y. record (e l.pe).core { registers = received (e l.pe).core.registers (target_of r.cell (e l.pe).interface.opened) y }) reply)

      acted : IsActed c program is (list ++ done ∷ []) l.pe (e l.pe).core (e l.pe).interface.opened (e l.pe).issued (answered start_core l.pe r value)
      acted = record {
        waiting = a.asking.waiting;
        entry = done;
        stands = in-append_right done list (done ∷ []) (inl refl);
        pe = refl;
        number = a.number;
        same = answer_is;
        served = each-weaker (IsServedOr list l.pe (e l.pe).issued a.asking.waiting.number r) (IsServedIssue (list ++ done ∷ []) l.pe (e l.pe).issued) is served_now a.asking.others;
      }

      state_then : (p : ℕ) → p < size c → State c program is (list ++ done ∷ []) p (e p).core (e p).interface.opened (e p).issued (slice_index_or (slice_set v.cores l.pe (answered start_core l.pe r value)) p fresh_core)
      state_then p h =
          ⊎_elim
          (λ same.
          let here : State c program is (list ++ done ∷ []) l.pe (e l.pe).core (e l.pe).interface.opened (e l.pe).issued (slice_index_or (slice_set v.cores l.pe (answered start_core l.pe r value)) l.pe fresh_core) = rw (core_same l.pe refl) (inr (inr acted)) in
          subst (λ q. State c program is (list ++ done ∷ []) q (e q).core (e q).interface.opened (e q).issued (slice_index_or (slice_set v.cores l.pe (answered start_core l.pe r value)) q fresh_core)) (sym same) here)
          (λ apart.
          subst (λ q. State c program is (list ++ done ∷ []) p (e p).core (e p).interface.opened (e p).issued q) (sym (get_or-set_other v.cores l.pe p (answered start_core l.pe r value) fresh_core apart))
          (state_other c program is list done p (e p).core (e p).interface.opened (e p).issued (core_at v p) (λ z. apart (sym z)) (w.elements p h)))
          (cases_eq p l.pe)

      serves : Related (order ++ l ∷ []) (para_step c program v l.pe)
      serves =
          let one : AreRelated c program is (list ++ done ∷ []) (with_cell before_it l.cell (act l.op (before_it l.cell)).0) e record { cells = slice_set v.cells r.cell (act r.op value).0; cores = slice_set v.cores l.pe (answered start_core l.pe r value) } = record {
            long = length-set v.cells r.cell _ ∙ w.long;
            wide = length-set v.cores l.pe _ ∙ w.wide;
            held = cell_then;
            elements = state_then;
          } in
          rw (next, replayed-append initial order (l ∷ []), cells-append initial order (l ∷ [])) one

    pub serve_one : (order : List NamedRequest) (v : Para) → Related order v → (l : NamedRequest) → l.pe < size c → IsLogged is l → (IsServed (replayed initial order) l.pe l.number → ⊥) → Related (order ++ l ∷ []) (para_step c program v l.pe)
    serve_one order v w l hp z fresh = serves order v w l hp (asked (replayed initial order) l v z fresh (w.elements l.pe hp))

    -- ---- all entries
    not_yet : (order rest : List NamedRequest) (l : NamedRequest) → count (is_named l.pe l.number) (order ++ l ∷ rest) ≤ 1 → IsServed (replayed initial order) l.pe l.number → ⊥
    not_yet order rest l once s =
        let t = is_named l.pe l.number in
        let named : t (leaf_of_entry s.0) ≡ true = rw (s.2, s.3) (that_is l.pe l.number) in
        let there = in_counts (λ (d : Done). t (leaf_of_entry d)) s.0 (replayed initial order) s.1 named in
        let here : weight (t l) ≡ 1 = rw (that_is l.pe l.number) refl in
        absurd (omega (arith, once, there, here, count_replayed t initial order, count-append t order (l ∷ rest)))

    pub serve_all : (rest order : List NamedRequest) (v : Para) → Related order v → AllByRecursion (λ (l : NamedRequest). l.pe < size c) rest → AllByRecursion (IsLogged is) rest → ((p k : ℕ) → count (is_named p k) (order ++ rest) ≤ 1)
        → Related (order ++ rest) (run_para c program v (map (λ (l : NamedRequest). l.pe) rest))
    serve_all [] order v w hp z once = rw (append-nil order) w
    serve_all (l ∷ rest) order v w hp z once =
        let whole : order ++ l ∷ rest ≡ (order ++ l ∷ []) ++ rest = sym (append_assoc order (l ∷ []) rest) in
        let one = serve_one order v w l hp.0 z.0 (not_yet order rest l (once l.pe l.number)) in
        let all = serve_all rest (order ++ l ∷ []) (para_step c program v l.pe) one hp.1 z.1 (λ p k. rw (← whole) (once p k)) in
        subst (λ ls. Related ls (run_para c program v (map (λ (u : NamedRequest). u.pe) (l ∷ rest)))) (sym whole) all
