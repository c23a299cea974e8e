use Rattle.std.proofs.Common.{◌≡◌, ◌∷◌, [], List, Option, Some, cond, sym, ap, ◌∙◌}
use Rattle.std.specs.Str.{bytes_eq}
use Rattle.std.proofs.lemmas.Slice.Eq.{bytes_eq-Decides}
use Rattle.indexmap.specs.IndexMap.{get}
use Rattle.moved_modules.proofs.Named.{first_target}
use Rattle.sym_expr.specs.declared.patches.PatchTarget.{PatchTarget}
use Rattle.moved_modules.proofs.targets.add_target.Goals as goal

pub returns-in_ok-insert-in-None : goal.returns-in_ok-insert-in-None
returns-in_ok-insert-in-None c = λ id.
    let old = get bytes_eq c.args.map.now in
    let block = c.args.block in
    let same : c.get_mut.follows.lender-at-none ≡ c.args.map.now = c.get_mut.follows.holds-at-none in
    first_target (old id) (get bytes_eq c.insert.new.self id) (bytes_eq block id) c.args.target
    (λ hit. ap old (sym ((bytes_eq-Decides block id).0 hit)) ∙ sym c.in-None.ensures.value)
    (c.in_ok-insert-in-None.ensures.updates.0 id ∙ ap (λ (o : Option (List (Option PatchTarget))). cond (bytes_eq block id) (Some c.in_ok-alone-in-None.field-0) o) (ap (λ m. get bytes_eq m id) same) ∙ ap (λ (l : List (Option PatchTarget)). cond (bytes_eq block id) (Some l) (old id)) c.in_ok-alone-in-None.ensures)
