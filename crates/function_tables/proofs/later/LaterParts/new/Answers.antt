use Rattle.std.proofs.Common.{◌≡◌, ℕ, List, Option, Some, None, [], refl, ap, ◌∙◌}
use Rattle.std.specs.Option.{option_map, option_map_or, unwrap_or}
use Rattle.std.proofs.Math.Path.{fun_ext}
use Rattle.edge_repair.specs.Edges.{later_parts}
use Rattle.sym_expr.specs.declared.program.CodeBlock.{CodeBlock}
use Rattle.sym_expr.specs.Points.{code_at}
use Rattle.function_tables.proofs.later.LaterParts.new.Goals as goal

none_without : {A : Type 0} (f : A → List (List ℕ)) (o : Option A) → unwrap_or (option_map f o) [] ≡ option_map_or f o []
none_without f None = refl
none_without f (Some x) = refl

pub returns : goal.returns
returns c =
    let m = c.args.module.now in
    let g = c.args.program.now in
    fun_ext (λ id. ap (λ (o : Option (List (List ℕ))). unwrap_or o []) (c.in_ok-parts.ensures id) ∙ none_without (later_parts m) (code_at g id))
