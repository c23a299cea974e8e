use Rattle.std.proofs.Common.{◌++◌, [], ◌∷◌, cond, map, sym, ap, ◌∙◌}
use Rattle.std.specs.Option.{unwrap_or}
use Rattle.std.specs.Str.{bytes_eq}
use Rattle.std.proofs.lemmas.List.{take_all}
use Rattle.indexmap.specs.IndexMap.{get}
use Rattle.new_intervals.specs.Bringing.{word_value}
use Rattle.new_intervals.proofs.Brought.{no_values, value_more}
use Rattle.new_intervals.proofs.inserts.add_insert.Goals as goal

pub loop-word-init : goal.loop-word-init
loop-word-init c = λ id. sym (no_values c.args.module.now (bytes_eq c.args.insert.now.block id) (unwrap_or (get bytes_eq c.args.values.now id) []))

pub loop-word-preserved : goal.loop-word-preserved
loop-word-preserved c =
    let m = c.args.module.now in
    let i = c.args.insert.now in
    λ id.
    let t = bytes_eq i.block id in
    c.in_ok-add_value.ensures id
    ∙ ap (λ v. unwrap_or (get bytes_eq c.loop-word.values id) [] ++ cond t (v ∷ []) []) c.in_ok-value.ensures
    ∙ ap (λ l. l ++ cond t (word_value m c.word-item.result ∷ []) []) (c.loop-word.invariant id)
    ∙ value_more m c.as_slice-word-items.result.now c.loop-word.word-index c.word-item.result t (unwrap_or (get bytes_eq c.args.values.now id) []) c.loop-word-test.true c.word-item.is

pub returns : goal.returns
returns c =
    let m = c.args.module.now in
    let i = c.args.insert.now in
    λ id. c.loop-word.invariant id
    ∙ ap (λ b. unwrap_or (get bytes_eq c.args.values.now id) [] ++ cond (bytes_eq i.block id) (map (word_value m) b) []) (take_all c.loop-word.word-index c.as_slice-word-items.result.now c.loop-word-test.false ∙ c.as_slice-word-items.ensures)
