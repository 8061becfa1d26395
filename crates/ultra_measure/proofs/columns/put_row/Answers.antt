use Rattle.std.proofs.Common.{◌++◌, ap, ◌∙◌}
use Rattle.std.specs.{Prelude.codes, List.{flat_map, range_with_len}}
use Rattle.ultra_model.specs.Machine.{Settings}
use Rattle.ultra_measure.specs.Columns.{measures, setting_columns, event_columns, state_columns, stage_columns}
use Rattle.ultra_measure.proofs.Chain.{numbered, both_columns, whole_row}
use Rattle.ultra_measure.proofs.columns.put_row.Goals as goal

pub returns : goal.returns
unfolding measures
returns g c =
    let form = c.args.form in
    let b = c.args.blocks.now in
    let s = b.config in
    let p = b.program in
    let from = c.args.window.now.from in
    let to = c.args.to in
    let same = ap (numbered (codes "stages")) (c.from.ensures ∙ c.stages.ensures.value ∙ ap (λ (t : Settings). t.stages) c.config.ensures) in
    let stages = flat_map (stage_columns s p from to) (range_with_len 0 6) in
    let states = state_columns s p from to in
    let events = event_columns s p from to in
    let settings = setting_columns s p from to in
    whole_row form (settings ++ (events ++ (states ++ stages))) same c.put_first.ensures
    (both_columns form settings (events ++ (states ++ stages)) c.put_settings.ensures
    (both_columns form events (states ++ stages) c.put_events.ensures
    (both_columns form states stages c.put_states.ensures c.put_stages.ensures)))
    c.end_row.ensures
