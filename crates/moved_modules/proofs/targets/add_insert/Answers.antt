use Rattle.std.proofs.Common.{◌++◌, [], ◌∷◌, cond, take, sym, ap, ◌∙◌, append_assoc, append-nil}
use Rattle.std.specs.Option.{unwrap_or}
use Rattle.std.specs.Str.{bytes_eq}
use Rattle.std.proofs.lemmas.List.{take_all}
use Rattle.indexmap.specs.IndexMap.{get}
use Rattle.moved_modules.specs.Targets.{targets_among}
use Rattle.moved_modules.proofs.Named.{no_targets, so_far, target_more}
use Rattle.moved_modules.proofs.targets.add_insert.Goals as goal

pub loop-word-init : goal.loop-word-init
loop-word-init c =
    let i = c.args.insert.now in
    λ id. sym (ap (λ l. unwrap_or (get bytes_eq c.args.map.now id) [] ++ l) (no_targets i id) ∙ append-nil (unwrap_or (get bytes_eq c.args.map.now id) []))

pub loop-word-preserved : goal.loop-word-preserved
loop-word-preserved c =
    let i = c.args.insert.now in
    let w = c.word-item.result in
    let body = c.as_slice-word-items.result.now in
    λ id.
    let before = unwrap_or (get bytes_eq c.args.map.now id) [] in
    let so = targets_among (so_far i (take c.loop-word.word-index body) ∷ []) id in
    c.in_ok-add_target.ensures id
    ∙ ap (λ v. unwrap_or (get bytes_eq c.loop-word.map id) [] ++ cond (bytes_eq i.block id) (v ∷ []) []) c.in_ok-target.ensures
    ∙ ap (λ l. l ++ cond (bytes_eq i.block id) (w.target ∷ []) []) (c.loop-word.invariant id)
    ∙ append_assoc before so (cond (bytes_eq i.block id) (w.target ∷ []) [])
    ∙ ap (λ l. before ++ l) (sym (target_more i body c.loop-word.word-index w id c.loop-word-test.true c.word-item.is))

pub returns : goal.returns
returns c =
    let i = c.args.insert.now in
    λ id. c.loop-word.invariant id
    ∙ ap (λ b. unwrap_or (get bytes_eq c.args.map.now id) [] ++ targets_among (so_far i b ∷ []) id) (take_all c.loop-word.word-index c.as_slice-word-items.result.now c.loop-word-test.false ∙ c.as_slice-word-items.ensures)
