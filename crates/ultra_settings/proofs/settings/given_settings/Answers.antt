use Rattle.std.proofs.Common.{◌∙◌, sym}
use Rattle.ultra_settings.proofs.Tables.{has_unknown_key-keys}
use Rattle.ultra_settings.proofs.settings.given_settings.Goals as goal

pub returns-clause-ok : goal.returns-clause-ok
returns-clause-ok c =
    let read = c.in-Ok.ensures.ok in
    (read.0, rw read.1 (c.in_ok-raw_settings.ensures, c.has_unknown_key.ensures ∙ sym (has_unknown_key-keys c.in-Ok.table.entries)))
