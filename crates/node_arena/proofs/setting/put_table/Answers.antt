use Rattle.std.proofs.Common.{◌≡◌, ◌<◌, ◌≤◌, true, false, List, length, get_or, set, sym, ap, ◌∙◌, arith}
use Rattle.std.specs.Str.{bytes_eq}
use Rattle.std.proofs.lemmas.List.{get_or_read}
use Rattle.gt_model.specs.declared.tables.Aux.{Aux}
use Rattle.node_arena.proofs.Tables.{no_table, tables_more, tables_found, tables_all}
use Rattle.node_arena.proofs.setting.put_table.Goals as goal

pub loop-k-preserved : goal.loop-k-preserved
loop-k-preserved c =
    let items : List Aux = c.args.tables.now.items in
    let name = c.args.name.now in
    let k = c.loop-k.k in
    let x : Aux = c.index.result.now in
    let within : k < length items = omega arith in
    let at = get_or_read items k x within (c.index.ensures ∙ ap (λ (ys : List Aux). get_or ys k x) c.loop-k.invariant.same) no_table in
    let other : bytes_eq (get_or items k no_table).name name ≡ false =
    sym (ap (λ (a : Aux). bytes_eq a.name name) at) ∙ sym (ap (λ s. bytes_eq s name) c.as_str.ensures) ∙ sym c.eq.ensures ∙ c.if-eq.false in
    record {
      same = c.loop-k.invariant.same;
      rest = sym (tables_more name c.args.bytes items k within other) ∙ c.loop-k.invariant.rest;
    }

pub returns-then-eq : goal.returns-then-eq
returns-then-eq c =
    let items : List Aux = c.args.tables.now.items in
    let name = c.args.name.now in
    let k = c.loop-k.k in
    let x : Aux = c.index.result.now in
    let y : Aux = c.index_mut.result.now in
    let within : k < length items = omega arith in
    let at = get_or_read items k x within (c.index.ensures ∙ ap (λ (ys : List Aux). get_or ys k x) c.loop-k.invariant.same) no_table in
    let is = get_or_read items k y within (c.index_mut.ensures.value ∙ ap (λ (ys : List Aux). get_or ys k y) c.loop-k.invariant.same) no_table in
    let named : bytes_eq (get_or items k no_table).name name ≡ true =
    sym (ap (λ (a : Aux). bytes_eq a.name name) at) ∙ sym (ap (λ s. bytes_eq s name) c.as_str.ensures) ∙ sym c.eq.ensures ∙ c.if-eq.true in
    ap (λ (ys : List Aux). set ys k (record y { bytes = c.args.bytes })) c.loop-k.invariant.same
    ∙ ap (λ (a : Aux). set items k (record a { bytes = c.args.bytes })) is
    ∙ sym (tables_found name c.args.bytes items k within named) ∙ c.loop-k.invariant.rest

pub returns : goal.returns
returns c =
    let items : List Aux = c.args.tables.now.items in
    let all : length items ≤ c.loop-k.k = omega arith in
    c.loop-k.invariant.same ∙ sym (tables_all c.args.name.now c.args.bytes items c.loop-k.k all) ∙ c.loop-k.invariant.rest
