use Rattle.std.proofs.Common.{◌≡◌, ◌∙◌, Some, None, sym, ap, rules}
use Rattle.std.specs.Option.{option_copied}
use Rattle.std.specs.Str.{bytes_eq}
use Rattle.indexmap.specs.IndexMap.{get}
use Rattle.indexed_program.proofs.Found.{data_at_spot, data_none}
use Rattle.indexed_program.proofs.looking.data_of.Goals as goal

pub returns-in_err-spot : goal.returns-in_err-spot
returns-in_err-spot c =
    let k = c.args.indexes.now in
    let none : get bytes_eq k.data c.args.id ≡ None = search rules in
    ap option_copied c.from_residual.ensures ∙ sym (data_none k c.args.id c.args.program.now c.requires.all none)

pub returns : goal.returns
returns c =
    let k = c.args.indexes.now in
    let x = c.in_ok-spot.spot.now in
    let kept : get bytes_eq k.data c.args.id ≡ Some x = search rules in
    c.data_at.ensures ∙ data_at_spot c.args.program.now c.args.id x (c.requires.right.datas c.args.id x kept)
