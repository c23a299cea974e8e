use Rattle.std.proofs.Common.{◌≡◌, Bor, Option, None, Some, refl, sym, ap, ◌∙◌, []}
use Rattle.std.specs.Prelude.{is_some}
use Rattle.std.specs.HashMap.{get_by_text}
use Rattle.std.specs.Option.{option_copied, option_map_or}
use Rattle.sym_expr.specs.declared.point.Point.{Point}
use Rattle.sym_expr.specs.declared.target.Target.TheVariants.{Code, Undefined}
use Rattle.module_program.proofs.Labels.{name_known, names_found}
use Rattle.module_program.proofs.context.Context.point_of.Goals as goal

copied : (o : Option (Bor Point)) → is_some (option_copied o) ≡ is_some o
copied None = refl
copied (Some x) = refl

pub unwrap-requires : goal.unwrap-requires
unwrap-requires c =
    let m = c.args.self.now.module in
    let p = c.args.self.now.patches.now in
    let name = c.args.name.now in
    sym (copied c.get.result) ∙ ap is_some (c.get.ensures.value ∙ ap (λ bs. get_by_text c.args.self.now.names bs) c.as_str.ensures ∙ c.requires.known.names name) ∙ name_known m p name c.requires.there

pub returns : goal.returns
returns c =
    let m = c.args.self.now.module in
    let p = c.args.self.now.patches.now in
    let name = c.args.name.now in
    let found = c.get.ensures.value ∙ ap (λ bs. get_by_text c.args.self.now.names bs) c.as_str.ensures ∙ c.requires.known.names name in
    sym (names_found m p name ∙ ap (λ o. option_map_or Code o (Undefined [])) (sym found ∙ ap option_copied c.unwrap.ensures))
