use Rattle.std.proofs.Common.{◌++◌, [], ◌∷◌, cond, take, sym, ap, ◌∙◌, append_assoc, append-nil}
use Rattle.std.specs.Str.{bytes_eq}
use Rattle.std.proofs.lemmas.List.{take_all}
use Rattle.new_edges.specs.Knowing.{branches_among, branches_in}
use Rattle.new_edges.specs.NewEnds.{branch_of}
use Rattle.new_edges.proofs.Inserts.{no_words, so_far, word_more}
use Rattle.new_edges.proofs.inserted.add_insert.Goals as goal

pub loop-word-init : goal.loop-word-init
loop-word-init c =
    let m = c.args.context.now.module.now in
    let p = c.args.context.now.patches.now in
    let i = c.args.insert.now in
    λ id. sym (ap (λ l. branches_in c.args.map.now id ++ l) (no_words m p i id) ∙ append-nil (branches_in c.args.map.now id))

pub loop-word-preserved : goal.loop-word-preserved
loop-word-preserved c =
    let m = c.args.context.now.module.now in
    let p = c.args.context.now.patches.now in
    let i = c.args.insert.now in
    let w = c.word-item.result in
    let body = c.as_slice-word-items.result.now in
    λ id.
    let before = branches_in c.args.map.now id in
    let so = branches_among m p (so_far i (take c.loop-word.word-index body) ∷ []) id in
    c.in_ok-add_branch.ensures id
    ∙ ap (λ v. branches_in c.loop-word.map id ++ cond (bytes_eq i.block id) (v ∷ []) []) c.branch_of-branch.ensures
    ∙ ap (λ l. l ++ cond (bytes_eq i.block id) (branch_of m p w ∷ []) []) (c.loop-word.invariant id)
    ∙ append_assoc before so (cond (bytes_eq i.block id) (branch_of m p w ∷ []) [])
    ∙ ap (λ l. before ++ l) (sym (word_more m p i body c.loop-word.word-index w id c.loop-word-test.true c.word-item.is))

pub returns : goal.returns
returns c =
    let m = c.args.context.now.module.now in
    let p = c.args.context.now.patches.now in
    let i = c.args.insert.now in
    λ id. c.loop-word.invariant id
    ∙ ap (λ b. branches_in c.args.map.now id ++ branches_among m p (so_far i b ∷ []) id) (take_all c.loop-word.word-index c.as_slice-word-items.result.now c.loop-word-test.false ∙ c.as_slice-word-items.ensures)
