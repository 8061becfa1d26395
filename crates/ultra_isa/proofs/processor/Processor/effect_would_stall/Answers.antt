use Rattle.std.proofs.Common.{◌≡◌, ℕ, Bool, true, false, refl, ◌∙◌, arith}
use Rattle.std.specs.Prelude.{Option, nat_lt}
use Rattle.std.proofs.lemmas.Bool.{lt-ltb}
use Rattle.ultra_msg.specs.declared.Request.{Request}
use Rattle.ultra_pni.specs.{declared.Issue.{Issue, TheVariants.{Sent, CellOpen, Full}}, Interface.{Interface, is_refusal, issue_of}}
use Rattle.ultra_isa.specs.{Instruction.Site, Step.{Core, is_stall, refers_as, refers_where}}
use Rattle.ultra_isa.proofs.processor.Processor.effect_would_stall.Goals as goal

-- a reference stalls where its request is refused
refusal_stalls : (c : Core) (i : Interface) (r : Request) (target : Option ℕ) (a : Issue) → is_refusal a ≡ is_stall (refers_as c i r target a).was
refusal_stalls c i r target Sent = refl
refusal_stalls c i r target CellOpen = refl
refusal_stalls c i r target Full = refl

stalls_within : (s : Site) (k : ℕ) (b : Bool) (c : Core) (i : Interface) (r : Request) (target : Option ℕ) → b ≡ true → is_refusal (issue_of k i r) ≡ is_stall (refers_where s k b c i r target).was
stalls_within s k true c i r target e = refusal_stalls c i r target (issue_of k i r)
stalls_within s k false c i r target e = cc

pub returns-then-cell-self : goal.returns-then-cell-self
returns-then-cell-self c =
    let s = c.args.self.now.site in
    let i = c.args.interface.now in
    let a = c.in-Refers.cell in
    let r : Request = record { pe = s.pe; cell = a; op = c.in-Refers.field-1 } in
    let within : nat_lt a s.all_cells ≡ true = rw (← c.self.view_is) (lt-ltb a c.self.inside.all_cells c.if-cell-self.true) in
    rw c.in-Refers.is (c.refuses.ensures r refl ∙ stalls_within s i.most_open (nat_lt a s.all_cells) c.args.self.now.core i.interface r c.in-Refers.field-2 within)
