use Rattle.std.proofs.Common.{ℕ, List, ◌++◌, ◌∷◌, [], take, sym, ap, ◌∙◌, append_assoc}
use Rattle.std.specs.Option.{unwrap_or}
use Rattle.std.specs.Str.{bytes_eq}
use Rattle.indexmap.specs.IndexMap.{get}
use Rattle.moved_modules.specs.Moved.{is_patched, moved_block}
use Rattle.moved_modules.proofs.Kept.{made, made_more}
use Rattle.sym_expr.specs.Points.{code_of}
use Rattle.moved_modules.proofs.blocks.push_stretch.Goals as goal

pub loop-piece-preserved : goal.loop-piece-preserved
loop-piece-preserved c =
    let f = moved_block c.args.module.now (λ (id : List ℕ). unwrap_or (get bytes_eq c.args.targets.now id) []) in
    let items = c.as_slice-piece-items.result.now in
    let i = c.loop-piece.piece-index in
    let x = c.piece-item.result in
    c.in_ok-push_piece.ensures
    ∙ ap (λ l. l ++ made f is_patched code_of (x ∷ [])) c.loop-piece.invariant
    ∙ append_assoc c.args.blocks.now.items (made f is_patched code_of (take i items)) (made f is_patched code_of (x ∷ []))
    ∙ ap (λ l. c.args.blocks.now.items ++ l) (sym (made_more f is_patched code_of items i x c.loop-piece-test.true c.piece-item.is))
