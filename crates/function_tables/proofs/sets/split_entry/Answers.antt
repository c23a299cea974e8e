use Rattle.std.proofs.Common.{◌≡◌, ap, sym, subst, ◌∙◌}
use Rattle.aux_codec.specs.declared.value.AuxPair.{AuxPair, roll-AuxPair}
use Rattle.aux_codec.specs.declared.value.AuxValue.TheVariants as a
use Rattle.aux_codec.specs.Value.{Value, entry, no_entry, value_of}
use Rattle.edge_repair.specs.Sets.{sets_with_parts}
use Rattle.function_tables.specs.Functions.{HasFewParts}
use Rattle.function_tables.specs.Later.{later_of}
use Rattle.function_tables.proofs.Members.{set_of}
use Rattle.function_tables.proofs.Views.{entry_parts, value_id}
use Rattle.function_tables.proofs.sets.split_entry.Goals as goal

pub returns-clause-entry : goal.returns-clause-entry
returns-clause-entry c =
    let later = later_of c.args.later.now in
    let pair = c.args.pair.now in
    let new : AuxPair = roll-AuxPair (record { key = a.Id c.id_in-id.result; value = c.in_ok-value.value }) in
    let one = set_of (value_of pair.value) c.requires.set in
    ap (λ (e : Value × Value). entry e.0 e.1 no_entry) (entry_parts new)
    ∙ ap (λ (k : Value). entry k (value_of c.in_ok-value.value) no_entry) (value_id c.id_in-id.result ∙ sym c.id_in-id.ensures)
    ∙ ap (λ (x : Value). entry (value_of pair.key) x no_entry) (c.in_ok-value.ensures.set one.0 one.1)
    ∙ ap (λ (x : Value). sets_with_parts later (entry (value_of pair.key) x no_entry)) (sym one.1)

pub returns-clause-few : goal.returns-clause-few
returns-clause-few c =
    let pair = c.args.pair.now in
    let one = set_of (value_of pair.value) c.requires.set in
    subst (λ (x : Value). HasFewParts (later_of c.args.later.now) (entry (value_of pair.key) x no_entry)) (sym one.1) (c.in_ok-value.ensures.few one.0 one.1, tt)
