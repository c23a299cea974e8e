use Rattle.std.proofs.Common.{◌+◌, ◌++◌, [], ◌∷◌, append_assoc, append-nil, ap, arith, drop, get_or, sym, ◌∙◌}
use Rattle.block_parts.specs.declared.words.Origin.TheVariants.{Own}
use Rattle.block_parts.specs.declared.words.PatchedWord.{PatchedWord}
use Rattle.moved_places.specs.Blocks.{own_places}
use Rattle.moved_places.proofs.CodeBlocks.{own_first}
use Rattle.moved_places.proofs.Lists.{dropped_all, dropped_or}
use Rattle.moved_places.proofs.blocks.push_words.Goals as goal

pub loop-word-preserved : goal.loop-word-preserved
loop-word-preserved c =
    let ws = c.args.words.now in
    let i = c.loop-word.word-index in
    let none : PatchedWord = record { word = 0; origin = Own 0 } in
    let x : PatchedWord = get_or ws i none in
    let d = c.loop-word.depth in
    let out = c.loop-word.places.items in
    let rest = own_places c.args.id (d + 4) (drop (i + 1) ws) in
    record {
      at = omega arith;
      rest =
          ap (λ l. l ++ rest) c.in_ok-push_word.ensures.places
          ∙ append_assoc out (own_places c.args.id d (x ∷ [])) rest
          ∙ ap (λ l. out ++ l) (sym (own_first c.args.id d x (drop (i + 1) ws)) ∙ sym (ap (own_places c.args.id d) (dropped_or ws i none c.loop-word-test.true)))
          ∙ c.loop-word.invariant.rest;
      near = λ h. c.in_ok-push_word.ensures.near (c.loop-word.invariant.near h);
    }

pub returns-clause-places : goal.returns-clause-places
returns-clause-places c =
    let none = dropped_all c.args.words.now c.loop-word.word-index c.loop-word-test.false in
    sym (append-nil c.loop-word.places.items) ∙ sym (ap (λ l. c.loop-word.places.items ++ own_places c.args.id c.loop-word.depth l) none) ∙ c.loop-word.invariant.rest
