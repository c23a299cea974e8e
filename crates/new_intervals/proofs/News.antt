-- What the words of pieces bring, by the values of their expressions.
use Rattle.std.proofs.Common.{◌≡◌, ℕ, zero, suc, ◌+◌, List, [], ◌∷◌, ◌++◌, length, map, refl, ap, ◌∙◌}
use Rattle.std.specs.Prelude.{◌==◌, ◌||◌, not, Option, Some, None, slice_get}
use Rattle.std.specs.List.{flat_map, list_any}
use Rattle.std.specs.Option.{option_map, option_and_then, option_to_list}
use Rattle.std.proofs.lemmas.List.{length-map}
use Rattle.block_parts.specs.declared.words.Origin.{Origin}
use Rattle.block_parts.specs.declared.words.Origin.TheVariants.{Own, Inserted}
use Rattle.block_parts.specs.declared.words.PatchedWord.{PatchedWord}
use Rattle.block_parts.specs.Words.{patched_words}
use Rattle.gt_model.specs.declared.exprs.Expr.{Expr}
use Rattle.gt_model.specs.declared.exprs.ExprValue.{ExprValue}
use Rattle.gt_model.specs.declared.intervals.Block.{Block}
use Rattle.gt_model.specs.declared.modules.Module.{Module}
use Rattle.new_intervals.specs.Bringing.{brought_values, origin_value, target_value, value_expr, word_value}
use Rattle.new_intervals.specs.Inserting.{brought_by, is_grown}
use Rattle.new_intervals.specs.Knowing.{Knows}
use Rattle.new_intervals.specs.declared.inserts.Inserts.{Inserts}
use Rattle.rewrite.specs.Exprs.{brought_from, brought_in, news_of, origin_expr, patch_expr, target_expr}
use Rattle.rewrite.specs.Rewritten.{has_words}
use Rattle.sym_expr.specs.declared.patches.PatchTarget.{PatchTarget}
use Rattle.sym_expr.specs.declared.patches.PatchWord.{PatchWord}
use Rattle.sym_expr.specs.declared.program.Piece.{Piece}
use Rattle.sym_expr.specs.declared.program.Piece.TheVariants.{Code as CodePiece, Data as DataPiece, Gap}
use Rattle.sym_expr.specs.Modules.{id_of}
use Rattle.sym_expr.specs.Patches.{inserted_in}
use Rattle.sym_expr.specs.Placing.{Placed}

-- ---- the expression of a word

of_target : (m : Module) (at : ℕ) (o : Option PatchTarget) → option_map (value_expr at) (option_map (target_value m) o) ≡ option_map (target_expr m at) o
of_target m at None = refl
of_target m at (Some t) = refl

pub of_word : (m : Module) (at : ℕ) (w : PatchWord) → option_map (value_expr at) (word_value m w) ≡ patch_expr m at w
of_word m at w = of_target m at w.target

of_kth : (m : Module) (at : ℕ) (news : List PatchWord) (k : ℕ) → option_map (value_expr at) (option_and_then (λ (v : Option ExprValue). v) (slice_get (map (word_value m) news) k)) ≡ option_and_then (patch_expr m at) (slice_get news k)
of_kth m at [] k = refl
of_kth m at (w ∷ ws) zero = of_word m at w
of_kth m at (w ∷ ws) (suc k) = of_kth m at ws k

of_origin : (m : Module) (at : ℕ) (news : List PatchWord) (o : Origin) → option_map (value_expr at) (origin_value (map (word_value m) news) o) ≡ origin_expr m news at o
of_origin m at news (Own offset) = refl
of_origin m at news (Inserted k) = of_kth m at news k

of_words : (m : Module) (news : List PatchWord) (at : ℕ) (ws : List PatchedWord) → brought_values (map (word_value m) news) at ws ≡ brought_from m news at ws
of_words m news at [] = refl
of_words m news at (w ∷ ws) =
    ap (λ (o : Option Expr). option_to_list o ++ brought_values (map (word_value m) news) (at + 4) ws) (of_origin m at news w.origin)
    ∙ ap (λ l. option_to_list (origin_expr m news at w.origin) ++ l) (of_words m news (at + 4) ws)

-- ---- by an index

of_piece : (n : Inserts) → Knows n → (at : ℕ) (q : Piece) → brought_by n (record { at = at; piece = q }) ≡ brought_in n.module.now n.patches.now at q
of_piece n known at (CodePiece b) =
    ap (λ values. brought_values values at (patched_words b)) (known b.id)
    ∙ of_words n.module.now (news_of n.patches.now b.id) at (patched_words b)
of_piece n known at (DataPiece b) = refl
of_piece n known at (Gap bytes) = refl

pub of_pieces : (n : Inserts) → Knows n → (xs : List Placed) → flat_map (brought_by n) xs ≡ flat_map (λ (x : Placed). brought_in n.module.now n.patches.now x.at x.piece) xs
of_pieces n known [] = refl
of_pieces n known (x ∷ xs) =
    ap (λ l. l ++ flat_map (brought_by n) xs) (of_piece n known x.at x.piece)
    ∙ ap (λ l. brought_in n.module.now n.patches.now x.at x.piece ++ l) (of_pieces n known xs)

grown : (n : Inserts) → Knows n → (b : Block) → is_grown n b ≡ has_words n.patches.now b
grown n known b =
    let p = n.patches.now in
    ap (λ (l : List (Option ExprValue)). not (length l == 0)) (known (id_of b))
    ∙ ap (λ k. not (k == 0)) (length-map (news_of p (id_of b)) (word_value n.module.now) ∙ length-map (inserted_in p (id_of b)) (λ (w : ℕ × PatchWord). w.1))

pub any_grown : (n : Inserts) → Knows n → (bs : List Block) → list_any (is_grown n) bs ≡ list_any (has_words n.patches.now) bs
any_grown n known [] = refl
any_grown n known (b ∷ bs) = ap (λ x. x || list_any (is_grown n) bs) (grown n known b) ∙ ap (λ y. has_words n.patches.now b || y) (any_grown n known bs)
