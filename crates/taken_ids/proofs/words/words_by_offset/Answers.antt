use Rattle.std.proofs.Common.{ℕ, ◌∙◌, sym, ap, ◌++◌, cond, eqb, ◌∷◌, [], take, arith}
use Rattle.sym_expr.specs.Patches.{inserted_at}
use Rattle.block_parts.specs.declared.words.PatchedWord.{PatchedWord}
use Rattle.block_parts.specs.Words.{inserted, numbered}
use Rattle.taken_ids.proofs.Offsets.{offsets_more}
use Rattle.taken_ids.proofs.words.words_by_offset.Goals as goal

pub loop-offset-preserved : goal.loop-offset-preserved
loop-offset-preserved c =
    let x = c.loop-offset-item.result in
    let i = c.loop-offset.offset-index in
    let words = c.args.words.now in
    record {
      number = omega arith;
      known = λ at.
          c.in_ok-add_word.ensures at
          ∙ ap (λ l. l ++ cond (eqb at x.0) (c.inserted-word.result ∷ []) []) (c.loop-offset.invariant.known at)
          ∙ ap (λ (w : PatchedWord). inserted_at at (numbered 0 (take i words)) ++ cond (eqb at x.0) (w ∷ []) []) (c.inserted-word.ensures ∙ ap (λ k. inserted k x.1) c.loop-offset.invariant.number)
          ∙ sym (offsets_more at words i x c.loop-offset-test.true c.loop-offset-item.is);
    }
