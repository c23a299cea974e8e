use Rattle.std.proofs.Common.{List, Some, cond, sym, ap, ◌∙◌}
use Rattle.std.specs.Prelude.{Option}
use Rattle.std.specs.Str.{bytes_eq}
use Rattle.std.proofs.lemmas.Slice.Eq.{bytes_eq-Decides}
use Rattle.gt_model.specs.declared.exprs.ExprValue.{ExprValue}
use Rattle.indexmap.specs.IndexMap.{get}
use Rattle.new_intervals.proofs.Brought.{first_value}
use Rattle.new_intervals.proofs.inserts.add_value.Goals as goal

pub returns-in_ok-insert-in-None : goal.returns-in_ok-insert-in-None
returns-in_ok-insert-in-None c = λ id.
    let old = get bytes_eq c.args.values.now in
    let block = c.args.block in
    let same = ap (λ values. get bytes_eq values id) c.get_mut.follows.holds-at-none in
    first_value (old id) (get bytes_eq c.insert.new.self id) (bytes_eq block id) c.args.value
    (λ hit. ap old (sym ((bytes_eq-Decides block id).0 hit)) ∙ sym c.in-None.ensures.value)
    (c.in_ok-insert-in-None.ensures.updates.0 id
    ∙ ap (λ (o : Option (List (Option ExprValue))). cond (bytes_eq block id) (Some c.in_ok-from_slice-in-None.field-0) o) same
    ∙ ap (λ (l : List (Option ExprValue)). cond (bytes_eq block id) (Some l) (old id)) c.in_ok-from_slice-in-None.ensures)
