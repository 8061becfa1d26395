-- what is found among the labels of a text; this project's profile
use Rattle.std.specs.{Prelude.{ℕ, List, Option}, List.find, Option.option_map}
use Rattle.ultra_asm.specs.{Label.{has_name, pc_at}, Labels.near_pc, declared.labels.{Definition.Definition, Labels.Labels}}

-- where a name is defined, by the first label of that name
abbrev pub definition_in : Labels → List ℕ → Option Definition
definition_in l name =
    option_map (λ d. record { line = d.line; pc = pc_at l.instructions.items d.line })
    (find (has_name name) l.list.items)

abbrev pub pcs_in : Labels → List ℕ → Option ℕ
pcs_in l name = option_map near_pc (definition_in l name)
