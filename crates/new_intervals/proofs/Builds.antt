-- Behind all lines of a function: the block at hand is whole, if it has words.
use Rattle.std.proofs.Common.{◌≡◌, [], ◌∷◌, ◌++◌, length, sym, ap, ◌∙◌, append-nil, eq-eqb}
use Rattle.std.specs.Prelude.{if◌then◌else◌}
use Rattle.std.proofs.lemmas.Bool.{ne_eqb}
use Rattle.gt_model.specs.declared.modules.Module.{Module}
use Rattle.new_intervals.specs.Cutting.{all_blocks, block_from}
use Rattle.new_intervals.specs.declared.cutting.Blocks.{Blocks}
use Rattle.sym_expr.specs.declared.patches.Function.{Function}

pub none_left : (m : Module) (f : Function) (b : Blocks) → b.words ≡ 0 → b.whole.items ≡ all_blocks m f b []
none_left m f b h = sym (ap (λ x. b.whole.items ++ (if x then [] else block_from m f (length b.whole.items) b.at b.words ∷ [])) (eq-eqb b.words 0 h) ∙ append-nil b.whole.items)

pub one_left : (m : Module) (f : Function) (b : Blocks) → (b.words ≡ 0 → ⊥) → b.whole.items ++ block_from m f (length b.whole.items) b.at b.words ∷ [] ≡ all_blocks m f b []
one_left m f b h = sym (ap (λ x. b.whole.items ++ (if x then [] else block_from m f (length b.whole.items) b.at b.words ∷ [])) (ne_eqb b.words 0 h))
