use Rattle.std.proofs.Common.{ℕ, ◌≡◌, ◌+◌, ◌-◌, ◌*◌, ◌≤◌, length, refl, ap, sym, ◌∙◌, nat_lt, subst, arith}
use Rattle.std.specs.{Prelude.slice_index, Vec.with_items}
use Rattle.std.proofs.lemmas.List.{with_items_is}
use Rattle.ultra_model.specs.{Machine.{Machine}, Phases.after, Balance.weight}
use Rattle.ultra_latency.specs.Few.{HasFewEvents}
use Rattle.ultra_statistics.specs.{Kept.IsTable, declared.queues.QueueTable.QueueTable}
use Rattle.ultra_statistics.proofs.Keeping.{can_take, combinations_fit, few_events, next_table, same_table}
use Rattle.ultra_statistics.proofs.queues.QueueTableObserver.note.Goals as goal

pub returns-then-made-self-clause-noted : goal.returns-then-made-self-clause-noted
returns-then-made-self-clause-noted c =
    let b = c.args.blocks.now in
    same_table b.config b.program c.args.self.now.from c.args.made c.if-made-self.true c.args.goes_on c.args.self.now c.requires.noted

pub add-requires-clause-room : goal.add-requires-clause-room
add-requires-clause-room c =
    let b = c.args.blocks.now in
    let range = rw c.config.ensures at c.initial-valid.ensures.valid.range in
    can_take b.config range b.program c.args.self.now.from (c.args.made - 1) c.args.made (omega (arith, c.requires.few)) (omega (arith, c.requires.few)) c.args.self.now c.requires.noted

pub add_combinations_if-requires-clause-count : goal.add_combinations_if-requires-clause-count
add_combinations_if-requires-clause-count c = ap length c.deref_mut.ensures.value ∙ ap length c.add.ensures.combined ∙ c.requires.noted.combined.count

pub add_combinations_if-requires-clause-room : goal.add_combinations_if-requires-clause-room
add_combinations_if-requires-clause-room c k h =
    let b = c.args.blocks.now in
    let range = rw c.config.ensures at c.initial-valid.ensures.valid.range in
    let few : (n : ℕ) → HasFewEvents b.config b.program n = λ n. rw c.config-2.ensures at (c.law_of_few_events.ensures b.program n) in
    let events : length c.events_of_one.result.now ≡ length (after b.config b.program c.args.made).events = ap length c.events_of_one.ensures ∙ ap (λ (m : Machine). length m.events) c.requires.state.state in
    let small : length c.events_of_one.result.now ≤ 960 = omega (arith, events, few_events b.config range b.program few c.args.made) in
    let fits = combinations_fit b.config range b.program few c.args.self.now.from (c.args.made - 1) c.args.made c.args.self.now.combined.items (length c.events_of_one.result.now) (omega (arith, c.requires.few)) small c.requires.noted.combined k h in
    let same = ap (λ ns. slice_index ns k) (c.deref_mut.ensures.value ∙ c.add.ensures.combined) in
    omega (arith, fits, same)

pub returns-clause-noted : goal.returns-clause-noted
returns-clause-noted c =
    let b = c.args.blocks.now in
    let first = c.args.self.now.from in
    let each = rw (c.deref_mut.ensures.value, c.events_of_one.ensures) at c.add_combinations_if.ensures.each in
    let n = c.args.made in
    let new : QueueTable = record c.add.new.self { combined = with_items c.add.new.self.combined c.add_combinations_if.new.counts } in
    let before : length c.deref_mut.result.now ≡ 384 = ap length c.deref_mut.ensures.value ∙ ap length c.add.ensures.combined ∙ c.requires.noted.combined.count in
    let items = with_items_is c.add.new.self.combined c.add_combinations_if.new.counts (c.add_combinations_if.ensures.count ∙ sym before ∙ c.deref_mut.ensures.len) in
    let is = next_table b.config b.program first n b.machine c.requires.state.state c.if-made-self.false (nat_lt first n) c.args.goes_on refl c.args.self.now c.add.new.self new c.requires.noted c.add.ensures refl (ap length items ∙ c.add_combinations_if.ensures.count) (λ s x hs hx. ap (λ ns. slice_index ns (s * 64 + x)) items ∙ each s x hs hx) in
    subst (λ f. IsTable b.config b.program f n (n + weight c.args.goes_on) new) (sym c.add.ensures.from) is
