use Rattle.std.proofs.Common.{◌^◌, ◌∙◌, ap}
use Rattle.std.specs.Prelude.{codes}
use Rattle.ultra_model.specs.Machine.{Settings, size}
use Rattle.ultra_measure.specs.Columns.{ending}
use Rattle.ultra_measure.proofs.Chain.{numbered, valued, one_column, more_columns}
use Rattle.ultra_measure.proofs.columns.put_settings.Goals as goal

pub returns : goal.returns
returns g c =
    let form = c.args.form in
    let b = c.args.blocks.now in
    let s = b.config in
    let config = c.config-config.ensures in
    (more_columns form (valued (codes "end") (ending s b.program c.args.from c.args.to)) (ap (valued (codes "end")) (c.end_value.ensures ∙ c.requires))
    (more_columns form (numbered (codes "to") c.args.to) (ap (numbered (codes "to")) (c.from-8.ensures))
    (more_columns form (numbered (codes "from") c.args.from) (ap (numbered (codes "from")) (c.from-7.ensures))
    (more_columns form (numbered (codes "cells") s.cells) (ap (numbered (codes "cells")) (c.from-6.ensures ∙ c.cells.ensures.value ∙ ap (λ (t : Settings). t.cells) config))
    (more_columns form (numbered (codes "open") s.most_open) (ap (numbered (codes "open")) (c.from-5.ensures ∙ c.most_open.ensures.value ∙ ap (λ (t : Settings). t.most_open) config))
    (more_columns form (numbered (codes "wait_places") s.wait_places) (ap (numbered (codes "wait_places")) (c.from-4.ensures ∙ c.wait_places.ensures.value ∙ ap (λ (t : Settings). t.wait_places) config))
    (more_columns form (numbered (codes "reply_places") s.reply_places) (ap (numbered (codes "reply_places")) (c.from-3.ensures ∙ c.reply_places.ensures.value ∙ ap (λ (t : Settings). t.reply_places) config))
    (more_columns form (numbered (codes "request_places") s.request_places) (ap (numbered (codes "request_places")) (c.from-2.ensures ∙ c.request_places.ensures.value ∙ ap (λ (t : Settings). t.request_places) config))
    (one_column form (numbered (codes "pes") (size s)) (ap (numbered (codes "pes")) (c.from.ensures ∙ c.size.ensures.value ∙ ap (λ d. 2 ^ d) (c.net.ensures ∙ ap (λ (t : Settings). t.stages) config))) c.put_number.ensures)
    c.put_number-2.ensures)
    c.put_number-3.ensures)
    c.put_number-4.ensures)
    c.put_number-5.ensures)
    c.put_number-6.ensures)
    c.put_number-7.ensures)
    c.put_number-8.ensures)
    c.put_column.ensures).wrote
