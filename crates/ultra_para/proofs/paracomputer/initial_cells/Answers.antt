use Rattle.std.proofs.Common.{ℕ, ◌*◌, ◌<◌, ◌∙◌, ap, sym, take, get_or, set, All}
use Rattle.std.proofs.lemmas.List.{take_more, Elements.All-get_or}
use Rattle.ultra_model.specs.Machine.{size}
use Rattle.ultra_para.proofs.Starting.{cells_given, none_given, one_given_more}
use Rattle.ultra_para.proofs.paracomputer.initial_cells.Goals as goal

pub loop-cell-init : goal.loop-cell-init
loop-cell-init c = rw (c.in_ok-cells.ensures.items_if_clones_equal, c.all_cells.ensures.value) (none_given c.args.config.now)

pub loop-cell-preserved : goal.loop-cell-preserved
loop-cell-preserved c =
    let config = c.args.config.now in
    let given = c.initial-cell-items.result.now in
    let k = c.loop-cell.cell-index in
    let x = get_or given k (0, 0) in
    let addresses : All (λ (i : ℕ × ℕ). i.0 < size config * config.cells) given = rw c.initial-cell-items.ensures.value c.initial-cell-items.ensures.valid.range.addresses in
    let small = All-get_or (λ (i : ℕ × ℕ). i.0 < size config * config.cells) given k (0, 0) c.loop-cell-test.true addresses in
    ap (λ cells. set cells x.0 x.1) c.loop-cell.invariant ∙ (one_given_more config (take k given) x small ∙ ap (λ values. cells_given config values) (sym (take_more given k (0, 0) c.loop-cell-test.true)))
