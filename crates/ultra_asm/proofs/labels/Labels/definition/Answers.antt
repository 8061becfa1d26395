use Rattle.std.proofs.Common.{◌≡◌, ℕ, ◌≤◌, true, false, length, get_or, option_map, Option, Some, None, sym, ◌∙◌, ap, subst, rules, arith}
use Rattle.std.specs.List.{find, Sorted.IsPartitionPoint}
use Rattle.std.proofs.lemmas.List.Sorted.{IsPartitionPoint-from_clause}
use Rattle.ultra_asm.specs.{declared.labels.{Definition.Definition, Label.Label}, Label.{has_name, pc_at, AreInOrder}, Found.definition_in}
use Rattle.ultra_asm.proofs.{InOrder.{is_below, parted, hit, miss}, Collecting.on_line, labels.Labels.definition.Goals.After-get}
use Rattle.ultra_asm.proofs.labels.Labels.definition.Goals as goal

-- what is found in the list is what the labels say
module _ (c : After-get) where
  up : AreInOrder c.as_slice-labels.result.now
  up = subst AreInOrder (sym c.as_slice-labels.ensures.value) c.args.self.now.in_order

  point : IsPartitionPoint (λ l. is_below c.args.name.now l ≡ true) (λ l. is_below c.args.name.now l ≡ false) c.as_slice-labels.result.now c.partition_point-index.result
  point = IsPartitionPoint-from_clause (is_below c.args.name.now) _ _ c.partition_point-index.ensures.partitioned (parted c.args.name.now c.as_slice-labels.result.now up) (λ a r q k. search rules)

  found : (o : Option Label) → find (has_name c.args.name.now) c.as_slice-labels.result.now ≡ o → option_map (λ l. on_line c.args.self.now.instructions.items l.line) o ≡ definition_in c.args.self.now c.args.name.now
  found o e = ap (option_map (λ (l : Label). on_line c.args.self.now.instructions.items l.line)) (sym e ∙ ap (find (has_name c.args.name.now)) c.as_slice-labels.ensures.value)

pub returns-in_err-label : goal.returns-in_err-label
returns-in_err-label c =
    let at = (goal.at.returns-in_err-label c).After-get in
    let past : length c.as_slice-labels.result.now ≤ c.partition_point-index.result = c.in_err-label.ensures.lookup.3 in
    let any : Label = record { name = c.args.name; line = 0 } in
    let none = miss c.args.name.now c.as_slice-labels.result.now (up at) c.partition_point-index.result (point at) any (λ lt. absurd (omega arith)) in
    let gives : c.from_residual.result ≡ None = search rules in
    gives ∙ found at None none

pub returns-then-eq : goal.returns-then-eq
returns-then-eq c =
    let at = (goal.at.returns-then-eq c).After-get in
    let d = c.in_ok-label.label.now in
    let here = c.in_ok-label.ensures.lookup.3 in
    let is : d ≡ get_or c.as_slice-labels.result.now c.partition_point-index.result d = here.1 d in
    let named : has_name c.args.name.now d ≡ true = sym c.eq.ensures ∙ c.if-eq.true in
    let first = hit c.args.name.now c.as_slice-labels.result.now (up at) c.partition_point-index.result (point at) d here.0 (ap (has_name c.args.name.now) (sym is) ∙ named) in
    let pc : c.pc_at-pc.result ≡ pc_at c.args.self.now.instructions.items d.line = c.pc_at-pc.ensures ∙ ap (λ is. pc_at is d.line) c.as_slice.ensures.value in
    let there : ℕ → Option Definition = λ n. Some (record { line = d.line; pc = n }) in
    ap there pc ∙ found at (Some d) (first ∙ ap Some (sym is))

pub returns-else-eq : goal.returns-else-eq
returns-else-eq c =
    let at = (goal.at.returns-else-eq c).After-get in
    let d = c.in_ok-label.label.now in
    let here = c.in_ok-label.ensures.lookup.3 in
    let is : d ≡ get_or c.as_slice-labels.result.now c.partition_point-index.result d = here.1 d in
    let other : has_name c.args.name.now d ≡ false = sym c.eq.ensures ∙ c.if-eq.false in
    let none = miss c.args.name.now c.as_slice-labels.result.now (up at) c.partition_point-index.result (point at) d (λ lt. ap (has_name c.args.name.now) (sym is) ∙ other) in
    found at None none
