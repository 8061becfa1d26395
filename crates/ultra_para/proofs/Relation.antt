-- the relation between the machine and the paracomputer: what each processing element waits for, and whether the serial list has it already
use Rattle.std.proofs.Common.{◌≡◌, ◌≢◌, ℕ, suc, ◌*◌, ◌<◌, List, [], ◌∷◌, ◌++◌, length, ◌∙◌, ap, subst, ◌⊎◌, inl, inr}
use Rattle.std.specs.{Prelude.{Option, Some, None, slice_get, slice_index}, List.AllByRecursion}
use Rattle.ultra_msg.specs.declared.Request.{Request}
use Rattle.ultra_pni.specs.{declared.OpenCell.OpenCell, Interface.{Interface, empty_interface, target_of}}
use Rattle.ultra_isa.specs.{declared.{Instr.{Instr, TheVariants.Fence}, Activity.TheVariants.Running}, Step.{Core, received}}
use Rattle.ultra_isa.proofs.Steps.{SendsInto, step_is}
use Rattle.ultra_model.specs.Machine.{Settings, Element, size, site}
use Rattle.ultra_model.proofs.Each.{each-weaker}
use Rattle.ultra_serial_law.specs.{declared.{LoggedIssue.LoggedIssue, Entry.Entry as Done}, Log.latest_number, Legal.Cells}
use Rattle.ultra_serial_law.proofs.Explained.{IsIn, in-append}
use Rattle.ultra_para.specs.Para.{Para, core_at, alone}

-- a request with this name has acted
abbrev pub IsServed : List Done → ℕ → ℕ → Type 0
IsServed list p k = (d : Done) × IsIn d list × (d.pe ≡ p) × (d.number ≡ k)

abbrev pub IsServedIssue : List Done → ℕ → ℕ → LoggedIssue → Type 0
IsServedIssue list p issued i = i.pe ≡ p → (i.number < issued) × IsServed list p i.number

-- all issues of p have acted
abbrev pub AreServed : List LoggedIssue → List Done → ℕ → ℕ → Type 0
AreServed is list p issued = AllByRecursion (IsServedIssue list p issued) is

-- or it is this request of this number
abbrev pub IsServedOr : List Done → ℕ → ℕ → ℕ → Request → LoggedIssue → Type 0
IsServedOr list p issued number r i = i.pe ≡ p → (i.number < issued) × (IsServed list p i.number ⊎ ((i.number ≡ number) × (i.cell ≡ r.cell) × (i.op ≡ r.op)))

module _ (c : Settings) (program : List Instr) where
  -- p waits at a fence for the reply to the request that it made from the state `before`
  pub record IsWaiting (is : List LoggedIssue) (p : ℕ) (now : Core) (os : List OpenCell) (issued : ℕ) : Type 0 where
    pub before : Core
    pub request : Request
    pub number : ℕ
    pub count : issued ≡ suc number
    pub sent : (alone c program p before).sent ≡ Some request
    pub core : (alone c program p before).core ≡ now
    pub opened : (alone c program p before).interface.opened ≡ os
    pub running : now.activity ≡ Running
    pub fence : slice_get program now.pc ≡ Some Fence
    pub latest : latest_number p request.cell is 0 ≡ number

  -- no cell is open: the same on the paracomputer
  pub record IsIdle (is : List LoggedIssue) (list : List Done) (p : ℕ) (now : Core) (os : List OpenCell) (issued : ℕ) (other : Core) : Type 0 where
    pub none : os ≡ []
    pub same : other ≡ now
    pub served : AreServed is list p issued

  -- the request hasn't acted: on the paracomputer it is before the operation
  pub record IsAsking (is : List LoggedIssue) (list : List Done) (p : ℕ) (now : Core) (os : List OpenCell) (issued : ℕ) (other : Core) : Type 0 where
    pub waiting : IsWaiting is p now os issued
    pub same : other ≡ waiting.before
    pub unserved : IsServed list p waiting.number → ⊥
    pub others : AllByRecursion (IsServedOr list p issued waiting.number waiting.request) is

  -- the request has acted: on the paracomputer it has the reply already
  pub record IsActed (is : List LoggedIssue) (list : List Done) (p : ℕ) (now : Core) (os : List OpenCell) (issued : ℕ) (other : Core) : Type 0 where
    pub waiting : IsWaiting is p now os issued
    pub entry : Done
    pub stands : IsIn entry list
    pub pe : entry.pe ≡ p
    pub number : entry.number ≡ waiting.number
    pub same : other ≡ record now { registers = received now.registers (target_of waiting.request.cell os) entry.reply }
    pub served : AreServed is list p issued

  abbrev pub State : List LoggedIssue → List Done → ℕ → Core → List OpenCell → ℕ → Core → Type 0
  State is list p now os issued other = IsIdle is list p now os issued other ⊎ (IsAsking is list p now os issued other ⊎ IsActed is list p now os issued other)

  -- the whole: the cells, and each processing element
  pub record AreRelated (is : List LoggedIssue) (list : List Done) (cells : Cells) (e : ℕ → Element) (v : Para) : Type 0 where
    pub long : length v.cells ≡ size c * c.cells
    pub wide : length v.cores ≡ size c
    pub held : (a : ℕ) → a < size c * c.cells → slice_index v.cells a ≡ cells a
    pub elements : (p : ℕ) → p < size c → State is list p (e p).core (e p).interface.opened (e p).issued (core_at v p)

  -- ---- the list grows by an entry of another processing element
  served_more : (list more : List Done) (p k : ℕ) → IsServed list p k → IsServed (list ++ more) p k
  served_more list more p k h = (h.0, in-append h.0 list more h.1, h.2, h.3)

  pub all_served_more : (is : List LoggedIssue) (list more : List Done) (p k : ℕ) → AreServed is list p k → AreServed is (list ++ more) p k
  all_served_more is list more p k h = each-weaker (IsServedIssue list p k) (IsServedIssue (list ++ more) p k) is (λ i f e. let g = f e in (g.0, served_more list more p i.number g.1)) h

  one_of_two : (list : List Done) (d u : Done) → IsIn u (list ++ d ∷ []) → IsIn u list ⊎ (d ≡ u)
  one_of_two [] d u (inl e) = inr e
  one_of_two [] d u (inr h) = absurd h
  one_of_two (x ∷ xs) d u (inl e) = inl (inl e)
  one_of_two (x ∷ xs) d u (inr h) = elim (one_of_two xs d u h) [ inl g ↦ inl (inr g) | inr e ↦ inr e ]

  not_by_other : (list : List Done) (d u : Done) (p k : ℕ) → d.pe ≢ p → u.pe ≡ p → u.number ≡ k → (IsServed list p k → ⊥) → IsIn u list ⊎ (d ≡ u) → ⊥
  not_by_other list d u p k apart a b h (inl g) = h (u, g, a, b)
  not_by_other list d u p k apart a b h (inr e) = apart (ap (λ (w : Done). w.pe) e ∙ a)

  or_more : (list more : List Done) (p k number : ℕ) (r : Request) (i : LoggedIssue) → IsServedOr list p k number r i → IsServedOr (list ++ more) p k number r i
  or_more list more p k number r i f e = let g = f e in (g.0, elim g.1 [ inl s ↦ inl (served_more list more p i.number s) | inr s ↦ inr s ])

  pub state_other : (is : List LoggedIssue) (list : List Done) (d : Done) (p : ℕ) (now : Core) (os : List OpenCell) (k : ℕ) (other : Core) → d.pe ≢ p → State is list p now os k other → State is (list ++ d ∷ []) p now os k other
  state_other is list d p now os k other apart (inl s) = inl record { none = s.none; same = s.same; served = all_served_more is list (d ∷ []) p k s.served }
  state_other is list d p now os k other apart (inr (inl s)) = inr (inl record {
    waiting = s.waiting;
    same = s.same;
    unserved = λ h. not_by_other list d h.0 p s.waiting.number apart h.2 h.3 s.unserved (one_of_two list d h.0 h.1);
    others = each-weaker (IsServedOr list p k s.waiting.number s.waiting.request) (IsServedOr (list ++ d ∷ []) p k s.waiting.number s.waiting.request) is (λ i f. or_more list (d ∷ []) p k s.waiting.number s.waiting.request i f) s.others;
  })
  state_other is list d p now os k other apart (inr (inr s)) = inr (inr record {
    waiting = s.waiting;
    entry = s.entry;
    stands = in-append s.entry list (d ∷ []) s.stands;
    pe = s.pe;
    number = s.number;
    same = s.same;
    served = all_served_more is list (d ∷ []) p k s.served;
  })

  -- ---- what a step opens
  pub record IsOpening (p : ℕ) (before : Core) (r : Request) : Type 0 where
    pub pe : r.pe ≡ p
    pub cell : r.cell < size c * c.cells
    pub target : Option ℕ
    pub opened : (alone c program p before).interface.opened ≡ record { cell = r.cell; target = target } ∷ []

  into_opening : (p : ℕ) (before : Core) (o : Option Request) (r : Request) → SendsInto (site c p) 1 empty_interface (alone c program p before).interface o → o ≡ Some r → IsOpening p before r
  into_opening p before None r h e = absurd cc
  into_opening p before (Some q) r h e =
      let same : q ≡ r = cc in
      subst (λ u. IsOpening p before u) same record { pe = h.0; cell = h.1; target = h.4.0; opened = ap (λ (i : Interface). i.opened) h.4.1 }

  pub opening : (p : ℕ) (before : Core) (r : Request) → (alone c program p before).sent ≡ Some r → IsOpening p before r
  opening p before r e = into_opening p before (alone c program p before).sent r (step_is (site c p) 1 empty_interface program before).into e

  into_nothing : (p : ℕ) (before : Core) (o : Option Request) → SendsInto (site c p) 1 empty_interface (alone c program p before).interface o → o ≡ None → (alone c program p before).interface.opened ≡ []
  into_nothing p before None h e = ap (λ (i : Interface). i.opened) h
  into_nothing p before (Some q) h e = absurd cc

  pub opens_nothing : (p : ℕ) (before : Core) → (alone c program p before).sent ≡ None → (alone c program p before).interface.opened ≡ []
  opens_nothing p before e = into_nothing p before (alone c program p before).sent (step_is (site c p) 1 empty_interface program before).into e
