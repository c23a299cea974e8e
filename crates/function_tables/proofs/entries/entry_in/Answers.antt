use Rattle.std.proofs.Common.{ℕ, List, ap, ◌∙◌}
use Rattle.aux_codec.specs.declared.value.AuxPair.{AuxPair, roll-AuxPair}
use Rattle.aux_codec.specs.declared.value.AuxValue.TheVariants as a
use Rattle.aux_codec.specs.Value.{Value, Id, value_of}
use Rattle.edge_repair.specs.Sets.{function_id}
use Rattle.sym_expr.specs.Derived.{derived, function_text}
use Rattle.function_tables.proofs.Views.{entry_parts, value_id}
use Rattle.function_tables.proofs.entries.entry_in.Goals as goal

pub returns-clause-entry : goal.returns-clause-entry
returns-clause-entry c =
    let m = c.args.module.now in
    let f = c.args.function.now in
    let id : List ℕ = c.in_ok-id.id in
    let new : AuxPair = roll-AuxPair (record { key = a.Id id; value = c.in_ok-value.value }) in
    let pair : Value → Value → Value × Value = λ k x. (k, x) in
    entry_parts new
    ∙ ap (λ (k : Value). pair k (value_of c.in_ok-value.value)) (value_id id ∙ ap Id (c.in_ok-id.ensures ∙ ap (λ (n : List ℕ). derived m.uuid (function_text n)) c.as_str.ensures))
    ∙ ap (pair (Id (function_id m f))) c.in_ok-value.ensures.value
