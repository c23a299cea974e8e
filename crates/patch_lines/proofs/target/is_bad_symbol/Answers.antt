use Rattle.std.proofs.Common.{Option, false, sym, ap, ◌∙◌, rules}
use Rattle.std.specs.Int.{w64}
use Rattle.std.specs.Option.{option_map_or}
use Rattle.std.proofs.lemmas.Int.{to_z-of_z}
use mir.Val.{SFits}
use Rattle.gt_model.specs.declared.symbols.Payload.{Payload}
use Rattle.patch_lines.specs.Aims.{is_bad_payload}
use Rattle.patch_lines.proofs.Aimed.{aim_case}
use Rattle.patch_lines.proofs.target.is_bad_symbol.Goals as goal

pub returns-in-Some : goal.returns-in-Some
returns-in-Some c =
    let m = c.args.index.now.module in
    let fits : SFits w64 c.args.offset = search rules in
    let is = simp to_z-of_z at c.is_bad_payload.ensures in
    is
    ∙ ap (λ (o : Option Payload). option_map_or (is_bad_payload m c.args.word c.args.offset) o false) (c.in-Some.ensures.value ∙ c.requires.symbols c.args.id)
    ∙ sym (aim_case m c.args.word c.args.offset c.args.id)
