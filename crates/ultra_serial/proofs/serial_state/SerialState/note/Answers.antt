use Rattle.std.proofs.{Common.{refl, sym, subst, ◌∙◌}, lemmas.Result.on_ok_weaker}
use Rattle.std.specs.Prelude.{Result, Ok, Err, OnOk}
use Rattle.ultra_serial_law.specs.{Tree.{tree_of, without}, SerialList.after_event}
use Rattle.ultra_serial.specs.{declared.serial_state.SerialState.SerialState, Following.Follows}
use Rattle.ultra_msg.specs.declared.Event.{Event, TheVariants.{Delivered, Served, Combined, Issued}}
use Rattle.ultra_serial.proofs.{Stacks.keeps_same, Turns.{serving_more, nothing_served, leaves_taken, no_leaves_taken}}
use Rattle.ultra_serial.proofs.serial_state.SerialState.note.Goals as goal

always : {T E P : Type 0} (r : Result T E) → P → OnOk r P
always (Ok x) p = p
always (Err e) p = tt

pub returns-in_ok-serve-in-Some : goal.returns-in_ok-serve-in-Some
returns-in_ok-serve-in-Some c = always c.reuse.result (λ n initial listed h f.
    let r = c.in-Served.request in
    let s : SerialState = record { waiting = c.reuse.new.self; memory = c.serve.new.memory; entries = c.serve.new.order } in
    let same = leaves_taken (tree_of r.pe r.cell h.trees) c.take.result c.in-Some.leaves (c.take.ensures.taken h.trees f.waiting) c.in-Some.is ∙ sym c.as_slice.ensures.value in
    let kept = keeps_same c.take.new.self c.reuse.new.self (without r.pe r.cell h.trees) c.reuse.ensures (c.take.ensures.kept h.trees f.waiting) in
    subst (λ (e : Event). Follows initial listed s (after_event n h e)) (sym c.in-Served.is)
    (serving_more initial listed c.args.self.now s n h c.as_slice.result.now (Served c.in-Served.module r c.in-Served.reply c.in-Served.now) same f
    kept c.in_ok-serve-in-Some.ensures.cells c.in_ok-serve-in-Some.ensures.order))

pub returns-in-Delivered : goal.returns-in-Delivered
returns-in-Delivered c = λ n initial listed h f.
    let s = c.args.self.now in
    subst (λ (e : Event). Follows initial listed s (after_event n h e)) (sym c.in-Delivered.is)
    (nothing_served initial listed s s n h (Delivered c.in-Delivered.field-0) refl refl refl f f.waiting)

pub returns-in-None : goal.returns-in-None
returns-in-None c = λ n initial listed h f.
    let r = c.in-Served.request in
    let s : SerialState = record c.args.self.now { waiting = c.take.new.self } in
    let none = no_leaves_taken (tree_of r.pe r.cell h.trees) c.take.result (c.take.ensures.taken h.trees f.waiting) c.in-None.is in
    subst (λ (e : Event). Follows initial listed s (after_event n h e)) (sym c.in-Served.is)
    (nothing_served initial listed c.args.self.now s n h (Served c.in-Served.module r c.in-Served.reply c.in-Served.now) none refl refl f (c.take.ensures.kept h.trees f.waiting))

pub returns-in-Combined : goal.returns-in-Combined
returns-in-Combined c =
    let s : SerialState = record c.args.self.now { waiting = c.combine.new.self } in
    let now : Event = Combined c.in-Combined.stage c.in-Combined.position c.in-Combined.cell c.in-Combined.old c.in-Combined.new c.in-Combined.old_first in
    on_ok_weaker c.combine.result (λ combined n initial listed h f.
    subst (λ (e : Event). Follows initial listed s (after_event n h e)) (sym c.in-Combined.is)
    (nothing_served initial listed c.args.self.now s n h now refl refl refl f (combined h.trees c.in-Combined.stage c.in-Combined.position f.waiting))) c.combine.ensures

pub returns-in-Issued : goal.returns-in-Issued
returns-in-Issued c =
    let s : SerialState = record c.args.self.now { waiting = c.issue.new.self } in
    on_ok_weaker c.issue.result (λ issued n initial listed h f.
    subst (λ (e : Event). Follows initial listed s (after_event n h e)) (sym c.in-Issued.is)
    (nothing_served initial listed c.args.self.now s n h (Issued c.in-Issued.request c.in-Issued.number) refl refl refl f (issued h.trees f.waiting))) c.issue.ensures
