use Rattle.std.proofs.Common.{◌≡◌, ◌∙◌, Option, Some, None, sym, subst, rules}
use Rattle.std.specs.Option.{MatchOption}
use Rattle.std.specs.Str.{bytes_eq}
use Rattle.indexmap.specs.IndexMap.{get}
use Rattle.sym_expr.specs.declared.program.CodeBlock.{CodeBlock}
use Rattle.indexed_program.specs.declared.looking.Found.{Found}
use Rattle.indexed_program.specs.Kept.{IsCodeSpot, IsNoCode}
use Rattle.indexed_program.proofs.Found.{code_at_spot, code_none, stretch_none}
use Rattle.indexed_program.proofs.looking.find_code.Goals as goal

none_some : {X : Type 0} (x : X) → None ≡ Some x → ⊥
none_some x e = cc

pub returns-in_err-kept : goal.returns-in_err-kept
returns-in_err-kept c =
    let g = c.args.program.now in
    let k = c.args.indexes.now in
    let id = c.args.id in
    let none : get bytes_eq k.code id ≡ None = search rules in
    let is : IsNoCode g id = record {
      code = code_none k id g c.requires.all none;
      stretch = stretch_none k id g c.requires.all none;
    } in
    subst (λ (r : Option Found). MatchOption r (IsNoCode g id) (λ (f : Found). IsCodeSpot g id f.block.now f.kept.now)) (sym c.from_residual.ensures) is

pub returns-in_err-block : goal.returns-in_err-block
returns-in_err-block c =
    let g = c.args.program.now in
    let k = c.args.indexes.now in
    let kept : get bytes_eq k.code c.args.id ≡ Some c.in_ok-kept.kept.now = search rules in
    let is = c.requires.right.codes c.args.id c.in_ok-kept.kept.now kept in
    absurd (none_some is.0 (c.in_err-block.ensures ∙ code_at_spot g c.args.id is.0 c.in_ok-kept.kept.now is.1))

pub returns : goal.returns
returns c =
    let g = c.args.program.now in
    let k = c.args.indexes.now in
    let kept : get bytes_eq k.code c.args.id ≡ Some c.in_ok-kept.kept.now = search rules in
    let is = c.requires.right.codes c.args.id c.in_ok-kept.kept.now kept in
    let both : Some c.in_ok-block.block.now ≡ Some is.0 = c.in_ok-block.ensures ∙ code_at_spot g c.args.id is.0 c.in_ok-kept.kept.now is.1 in
    let same : is.0 ≡ c.in_ok-block.block.now = cc in
    subst (λ (b : CodeBlock). IsCodeSpot g c.args.id b c.in_ok-kept.kept.now) same is.1
