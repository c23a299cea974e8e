use Rattle.std.proofs.Common.{◌≡◌, map, ap, sym, subst, ◌∙◌}
use Rattle.aux_codec.specs.Spelling.{HasType}
use Rattle.aux_codec.specs.Value.{Entries, Pairs, entries, entry_of, value_of}
use Rattle.function_tables.specs.Functions.{entries_in, type_of, HasFewEntries}
use Rattle.function_tables.specs.Later.{later_of}
use Rattle.function_tables.proofs.Views.{value_pairs}
use Rattle.function_tables.proofs.values.with_functions.Goals as goal

pub new_entries-requires : goal.new_entries-requires
new_entries-requires c = subst (HasType (type_of c.args.kind)) (ap value_of c.in-Pairs.is ∙ value_pairs c.in-Pairs.pairs) c.requires

pub returns-clause-value : goal.returns-clause-value
returns-clause-value c = λ es e.
    let both : Pairs (entries (map entry_of c.in-Pairs.pairs.items)) ≡ Pairs es = sym (ap value_of c.in-Pairs.is ∙ value_pairs c.in-Pairs.pairs) ∙ e in
    let inner : entries (map entry_of c.in-Pairs.pairs.items) ≡ es = cc in
    value_pairs c.in_ok-made-in-Pairs.made
    ∙ ap Pairs (c.in_ok-made-in-Pairs.ensures.entries ∙ ap (entries_in c.args.kind c.args.module.now (later_of c.args.later.now) c.args.functions.now) inner)

pub returns-clause-few : goal.returns-clause-few
returns-clause-few c = λ es e.
    let both : Pairs (entries (map entry_of c.in-Pairs.pairs.items)) ≡ Pairs es = sym (ap value_of c.in-Pairs.is ∙ value_pairs c.in-Pairs.pairs) ∙ e in
    let inner : entries (map entry_of c.in-Pairs.pairs.items) ≡ es = cc in
    subst (λ (x : Entries). HasFewEntries c.args.kind c.args.module.now (later_of c.args.later.now) c.args.functions.now x) inner c.in_ok-made-in-Pairs.ensures.few
