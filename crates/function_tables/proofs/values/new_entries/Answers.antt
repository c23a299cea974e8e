use Rattle.std.proofs.Common.{◌≡◌, ◌<◌, ◌^◌, ℕ, List, ◌++◌, map, length, ap, sym, subst, ◌∙◌, arith}
use Rattle.std.proofs.lemmas.List.{length-map}
use Rattle.aux_codec.specs.Value.{Value, Entries, count_entries, entries, entry_of}
use Rattle.edge_repair.specs.Sets.{with_functions}
use Rattle.function_tables.specs.Functions.{entries_in, entry_in, split_in, value_in}
use Rattle.function_tables.specs.Later.{later_of}
use Rattle.function_tables.proofs.Members.{count_entries_of, entries_behind}
use Rattle.function_tables.proofs.values.new_entries.Goals as goal

pub returns-clause-entries : goal.returns-clause-entries
returns-clause-entries c =
    let m = c.args.module.now in
    let fs = c.args.functions.now in
    let kept = map entry_of c.in_ok-made.made.items in
    ap entries c.in_ok-push_functions.ensures.entries
    ∙ sym (entries_behind m (value_in c.args.kind m) fs kept)
    ∙ ap (with_functions m (value_in c.args.kind m) fs) c.in_ok-made.ensures.entries

pub returns-clause-few : goal.returns-clause-few
returns-clause-few c =
    let m = c.args.module.now in
    let fs = c.args.functions.now in
    let kept = map entry_of c.in_ok-made.made.items in
    let new = c.push_functions.new.pairs in
    let same : entries (map entry_of new.items) ≡ entries_in c.args.kind m (later_of c.args.later.now) fs (entries (map entry_of c.args.pairs.items)) =
    ap entries c.in_ok-push_functions.ensures.entries
    ∙ sym (entries_behind m (value_in c.args.kind m) fs kept)
    ∙ ap (with_functions m (value_in c.args.kind m) fs) c.in_ok-made.ensures.entries in
    let many : count_entries (entries (map entry_of new.items)) ≡ length new.items = count_entries_of (map entry_of new.items) ∙ length-map new.items entry_of in
    let small : count_entries (entries (map entry_of new.items)) < 2 ^ 64 = omega (arith, many, new.ok.0, new.ok.1, new.small) in
    record { sets = c.in_ok-made.ensures.few; blocks = c.in_ok-push_functions.ensures.few; all = subst (λ (es : Entries). count_entries es < 2 ^ 64) same small }
