use Rattle.std.proofs.Common.{◌≡◌, ℕ, List, ◌++◌, ◌∷◌, [], map, sym, ap, ◌∙◌, arith}
use Rattle.std.proofs.lemmas.List.{map_push, map-append}
use Rattle.aux_codec.specs.declared.value.AuxValue.TheVariants as a
use Rattle.aux_codec.specs.Value.{Value, Id, value_of}
use Rattle.sym_expr.specs.Derived.{block_text, derived}
use Rattle.sym_expr.specs.Patches.{function_blocks}
use Rattle.sym_expr.specs.Targets.{function_block_id}
use Rattle.function_tables.proofs.Counts.{first_ids, first_ids_more, ids_counted}
use Rattle.function_tables.proofs.Views.{value_id}
use Rattle.function_tables.proofs.entries.block_values.Goals as goal

pub loop-k-preserved : goal.loop-k-preserved
loop-k-preserved c =
    let m = c.args.module.now in
    let f = c.args.function.now in
    let k = c.loop-k.k in
    let id : List ℕ = c.in_ok-id.id in
    let made = map value_of c.loop-k.made.items in
    rw c.in_ok-push.ensures.items (map_push value_of c.loop-k.made.items (a.Id id)
    ∙ ap (λ (l : List Value). l ++ value_of (a.Id id) ∷ []) c.loop-k.invariant
    ∙ ap (λ (v : Value). map Id (first_ids m f 0 k) ++ v ∷ []) (value_id id ∙ ap Id (c.in_ok-id.ensures ∙ ap (λ (n : List ℕ). derived m.uuid (block_text n k)) c.as_str.ensures))
    ∙ sym (ap (map Id) (first_ids_more m f k) ∙ map-append Id (first_ids m f 0 k) (function_block_id m f k ∷ [])))

pub returns-clause-blocks : goal.returns-clause-blocks
returns-clause-blocks c =
    let m = c.args.module.now in
    let f = c.args.function.now in
    let all : c.loop-k.k ≡ c.block_count-k-end.result = omega arith in
    c.loop-k.invariant ∙ ap (λ n. map Id (first_ids m f 0 n)) (all ∙ c.block_count-k-end.ensures) ∙ ap (map Id) (ids_counted m f 0 (function_blocks f))
