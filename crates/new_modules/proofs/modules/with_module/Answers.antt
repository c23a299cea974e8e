use Rattle.std.proofs.Common.{◌≡◌, ℕ, List, Bool, None, Some, sym, ap, ◌∙◌}
use Rattle.std.specs.Prelude.{position, slice_set}
use Rattle.std.specs.Str.{bytes_eq}
use Rattle.std.proofs.lemmas.List.Quantifiers.{position-Some}
use Rattle.std.proofs.lemmas.Option.{none-some, same_Some}
use Rattle.gt_model.specs.declared.modules.Module.{Module}
use Rattle.new_modules.proofs.modules.with_module.Goals as goal

pub set-requires : goal.set-requires
set-requires c =
    let p : Module → Bool = λ (m : Module). bytes_eq m.uuid c.args.module.uuid in
    let found : position p c.args.ir.modules ≡ Some c.in-Some.at = sym (ap (position p) c.as_slice-modules.ensures) ∙ sym c.place_of.ensures ∙ c.in-Some.is in
    (position-Some p c.args.ir.modules c.in-Some.at c.args.module found).0

pub returns-in-Some : goal.returns-in-Some
returns-in-Some c =
    let p : Module → Bool = λ (m : Module). bytes_eq m.uuid c.args.module.uuid in
    let found : position p c.args.ir.modules ≡ Some c.in-Some.at = sym (ap (position p) c.as_slice-modules.ensures) ∙ sym c.place_of.ensures ∙ c.in-Some.is in
    λ k h.
    ap (λ (ms : List Module). record c.args.ir { modules = ms })
    (c.set.ensures ∙ ap (λ (n : ℕ). slice_set c.args.ir.modules n c.args.module) (same_Some c.in-Some.at k (sym found ∙ h)))

pub returns-in-None : goal.returns-in-None
returns-in-None c =
    let p : Module → Bool = λ (m : Module). bytes_eq m.uuid c.args.module.uuid in
    let none : position p c.args.ir.modules ≡ None = sym (ap (position p) c.as_slice-modules.ensures) ∙ sym c.place_of.ensures ∙ c.in-None.is in
    λ k h. absurd (none-some k (sym none ∙ h))
