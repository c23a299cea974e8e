use Rattle.std.proofs.Common.{◌≡◌, ℕ, List, Some, ap, sym, subst, ◌∙◌}
use Rattle.aux_codec.specs.Places.{with_places}
use Rattle.aux_codec.specs.Spelling.{HasType}
use Rattle.aux_codec.specs.Value.{Pairs, Value, value_of}
use Rattle.aux_tables.specs.ModuleTables.{tables_of}
use Rattle.aux_types.specs.Shape.{Shape}
use Rattle.edge_repair.specs.Sets.{function_value, parts_of}
use Rattle.function_tables.specs.Functions.{entries_in, type_of, HasFewEntries}
use Rattle.function_tables.specs.Later.{later_of}
use Rattle.module_program.specs.Graphs.{patched_in}
use Rattle.rewrite.specs.Places.{moved_place}
use Rattle.sym_expr.specs.declared.patches.Function.{Function}
use Rattle.new_tables.proofs.repair.put_kind.Goals as goal

pub with_functions-requires : goal.with_functions-requires
with_functions-requires c = c.requires.moved.typed (type_of c.args.kind) (c.tables_have_their_types.ensures c.args.table.now c.args.kind c.requires.kind)

pub returns-clause-value : goal.returns-clause-value
returns-clause-value c =
    let a = c.args.table.now in
    let kind = c.args.kind in
    let m = c.args.repair.now.module.now in
    let p = c.args.repair.now.patches.now in
    let g = patched_in m p in
    let h = c.requires.moved in
    let of = c.tables_have_their_types.ensures a kind c.requires.kind in
    let old = c.tables_are_mappings.ensures.mapping kind h.old (h.was (type_of kind) of) in
    let typed : HasType (type_of kind) (Pairs old.0) = subst (HasType (type_of kind)) old.1 (h.was (type_of kind) of) in
    let f = moved_place m (tables_of m) p in
    let now : value_of c.args.value ≡ Pairs old.0 = h.moved ∙ ap (with_places f) old.1 ∙ c.tables_are_mappings.ensures.stays f kind old.0 typed in
    c.in_ok-made.ensures.value old.0 now
    ∙ ap (λ (fs : List Function). Pairs (entries_in kind m (later_of c.args.repair.now.later) fs old.0)) c.as_slice-functions.ensures
    ∙ ap (λ (l : List ℕ → List (List ℕ)). Pairs (entries_in kind m l p.functions old.0)) c.requires.ready.later
    ∙ sym (c.tables_get_their_entries.ensures m g p a old.0 kind c.requires.kind)
    ∙ ap (function_value m g p a) (sym now)

pub returns-clause-typed : goal.returns-clause-typed
returns-clause-typed c = λ shape is.
    let a = c.args.table.now in
    let kind = c.args.kind in
    let m = c.args.repair.now.module.now in
    let p = c.args.repair.now.patches.now in
    let g = patched_in m p in
    let h = c.requires.moved in
    let of = c.tables_have_their_types.ensures a kind c.requires.kind in
    let old = c.tables_are_mappings.ensures.mapping kind h.old (h.was (type_of kind) of) in
    let typed : HasType (type_of kind) (Pairs old.0) = subst (HasType (type_of kind)) old.1 (h.was (type_of kind) of) in
    let f = moved_place m (tables_of m) p in
    let now : value_of c.args.value ≡ Pairs old.0 = h.moved ∙ ap (with_places f) old.1 ∙ c.tables_are_mappings.ensures.stays f kind old.0 typed in
    let made : value_of c.in_ok-made.made ≡ Pairs (entries_in kind m (parts_of m g) p.functions old.0) =
    c.in_ok-made.ensures.value old.0 now
    ∙ ap (λ (fs : List Function). Pairs (entries_in kind m (later_of c.args.repair.now.later) fs old.0)) c.as_slice-functions.ensures
    ∙ ap (λ (l : List ℕ → List (List ℕ)). Pairs (entries_in kind m l p.functions old.0)) c.requires.ready.later in
    let few : HasFewEntries kind m (parts_of m g) p.functions old.0 =
    subst (λ (l : List ℕ → List (List ℕ)). HasFewEntries kind m l p.functions old.0) c.requires.ready.later
    (subst (λ (fs : List Function). HasFewEntries kind m (later_of c.args.repair.now.later) fs old.0) c.as_slice-functions.ensures (c.in_ok-made.ensures.few old.0 now)) in
    let both : Some (type_of kind) ≡ Some shape = sym of ∙ is in
    let same : type_of kind ≡ shape = cc in
    subst (λ (s : Shape). HasType s (value_of c.in_ok-made.made)) same
    (subst (HasType (type_of kind)) (sym made)
    (c.tables_keep_their_types.ensures c.requires.ready.ir m p a kind old.0 c.requires.ready.free h.there (h.held ∙ ap (λ (x : Value). Some x) old.1) typed few))
