use Rattle.std.proofs.Common.{◌++◌, [], ◌∷◌, cond, take, sym, ap, ◌∙◌, append_assoc, append-nil}
use Rattle.std.specs.Option.{unwrap_or}
use Rattle.std.specs.Str.{bytes_eq}
use Rattle.std.proofs.lemmas.List.{take_all}
use Rattle.indexmap.specs.IndexMap.{get}
use Rattle.sym_expr.specs.Program.{patched_word}
use Rattle.module_program.specs.Knowing.{NamesKnown, words_among}
use Rattle.module_program.proofs.Inserts.{no_words, so_far, word_more}
use Rattle.module_program.proofs.Sections.{holds_of}
use Rattle.module_program.proofs.inserted.add_insert.Goals as goal

pub loop-word-init : goal.loop-word-init
loop-word-init c =
    let m = c.args.context.now.module in
    let p = c.args.context.now.patches.now in
    let i = c.args.insert.now in
    λ id. sym (ap (λ l. unwrap_or (get bytes_eq c.args.map.now id) [] ++ l) (no_words m p i id) ∙ append-nil (unwrap_or (get bytes_eq c.args.map.now id) []))

pub patched_word-word-requires-clause-good : goal.patched_word-word-requires-clause-good
patched_word-word-requires-clause-good c =
    let m = c.args.context.now.module in
    let p = c.args.context.now.patches.now in
    holds_of (NamesKnown m p) c.args.insert.now.body c.as_slice-word-items.result.now c.loop-word.word-index c.word-item.result c.as_slice-word-items.ensures c.requires.good c.loop-word-test.true c.word-item.is

pub loop-word-preserved : goal.loop-word-preserved
loop-word-preserved c =
    let m = c.args.context.now.module in
    let p = c.args.context.now.patches.now in
    let i = c.args.insert.now in
    let w = c.word-item.result in
    let body = c.as_slice-word-items.result.now in
    λ id.
    let before = unwrap_or (get bytes_eq c.args.map.now id) [] in
    let so = words_among m p (so_far i (take c.loop-word.word-index body) ∷ []) id in
    c.in_ok-add_word.ensures id
    ∙ ap (λ v. unwrap_or (get bytes_eq c.loop-word.map id) [] ++ cond (bytes_eq i.block id) ((i.offset, v) ∷ []) []) c.patched_word-word.ensures
    ∙ ap (λ l. l ++ cond (bytes_eq i.block id) ((i.offset, patched_word m p w) ∷ []) []) (c.loop-word.invariant id)
    ∙ append_assoc before so (cond (bytes_eq i.block id) ((i.offset, patched_word m p w) ∷ []) [])
    ∙ ap (λ l. before ++ l) (sym (word_more m p i body c.loop-word.word-index w id c.loop-word-test.true c.word-item.is))

pub returns : goal.returns
returns c =
    let m = c.args.context.now.module in
    let p = c.args.context.now.patches.now in
    let i = c.args.insert.now in
    λ id. c.loop-word.invariant id
    ∙ ap (λ b. unwrap_or (get bytes_eq c.args.map.now id) [] ++ words_among m p (so_far i b ∷ []) id) (take_all c.loop-word.word-index c.as_slice-word-items.result.now c.loop-word-test.false ∙ c.as_slice-word-items.ensures)
