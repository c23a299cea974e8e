use Rattle.std.proofs.Common.{◌≡◌, ℕ, List, ◌++◌, ◌∷◌, [], map, take, sym, ap, ◌∙◌, append_assoc}
use Rattle.std.proofs.lemmas.List.{map_push, map-append}
use Rattle.aux_codec.specs.declared.value.AuxValue.TheVariants as a
use Rattle.aux_codec.specs.Value.{Value, Id, value_of}
use Rattle.function_tables.proofs.Lists.{taken}
use Rattle.function_tables.proofs.Views.{value_id}
use Rattle.function_tables.proofs.sets.push_ids.Goals as goal

pub loop-id-preserved : goal.loop-id-preserved
loop-id-preserved c =
    let ids = c.args.ids.now in
    let i = c.loop-id.id-index in
    let x : List ℕ = c.id-item.result in
    let old = map value_of c.args.members.now.items in
    rw c.in_ok-push.ensures.items (map_push value_of c.loop-id.members.items (a.Id x)
    ∙ ap (λ (l : List Value). l ++ value_of (a.Id x) ∷ []) c.loop-id.invariant
    ∙ ap (λ (v : Value). (old ++ map Id (take i ids)) ++ v ∷ []) (value_id x)
    ∙ append_assoc old (map Id (take i ids)) (Id x ∷ [])
    ∙ ap (λ l. old ++ l) (sym (ap (map Id) (taken ids i x c.loop-id-test.true c.id-item.is) ∙ map-append Id (take i ids) (x ∷ []))))
