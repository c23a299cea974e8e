-- What stands for an expression of a data block has a form and the size of the expression.
use Rattle.std.proofs.Common.{◌≡◌, ℕ, ℤ, pos, negsuc, Bool, true, false, List, Option, Some, None, refl, sym, ap, ◌∙◌}
use Rattle.std.specs.Prelude.{◌==◌, IfSome, is_some, if◌then◌else◌}
use Rattle.std.specs.List.{AllByRecursion as Every}
use Rattle.std.specs.Option.{option_map}
use Rattle.std.proofs.lemmas.Bool.{and_parts, eqb-true, true≢false}
use Rattle.std.proofs.lemmas.Option.{none-some}
use Rattle.gt_model.specs.declared.exprs.ExprValue.{ExprValue}
use Rattle.gt_model.specs.declared.exprs.ExprValue.TheVariants as values
use Rattle.gt_model.specs.declared.modules.Module.{Module}
use Rattle.sym_expr.specs.declared.difference.DifferenceForm.{DifferenceForm}
use Rattle.sym_expr.specs.declared.difference.TheConstants.{DIFFERENCE_FORMS}
use Rattle.sym_expr.specs.declared.patches.PatchTable.{PatchTable}
use Rattle.sym_expr.specs.declared.program.Filling.{Filling}
use Rattle.sym_expr.specs.declared.program.Filling.TheVariants.{Difference, Entry}
use Rattle.sym_expr.specs.declared.program.Program.{Program}
use Rattle.sym_expr.specs.declared.target.Target.{Target}
use Rattle.sym_expr.specs.Differences.{has, form_of}
use Rattle.sym_expr.specs.Expressions.{has_data_form}
use Rattle.sym_expr.specs.Images.{filling_size}
use Rattle.sym_expr.specs.Program.{filling, difference_in}
use Rattle.sym_expr.specs.Targets.{old_target}
use Rattle.sym_expr.specs.WellMade.{IsThere, IsFilling}
use Rattle.sym_expr.proofs.Lists.{found_one}

-- a form that isn't one of entries has the unit 1
abbrev IsPlain : DifferenceForm → Type 0
IsPlain f = f.is_entry ≡ false → f.scale ≡ 1

all_plain : Every IsPlain DIFFERENCE_FORMS
all_plain = (λ h. absurd (true≢false h), (λ h. absurd (true≢false h), (λ h. absurd (true≢false h), (λ h. absurd (true≢false h), (λ h. refl, (λ h. absurd (true≢false h), (λ h. refl, tt)))))))

pub record IsForm (size : ℕ) (f : DifferenceForm) : Type 0 where
  pub its_size : f.size ≡ size
  pub entry : form_of f.size (pos f.scale) ≡ Some f
  pub plain : f.is_entry ≡ false → form_of f.size (pos 1) ≡ Some f

named_form : (size scale n s : ℕ) (f : DifferenceForm) → n ≡ size → s ≡ scale → form_of size (pos scale) ≡ Some f → form_of n (pos s) ≡ Some f
named_form size scale n s f e h k = ap (λ x. form_of x (pos s)) e ∙ (ap (λ x. form_of size (pos x)) h ∙ k)

pub form_is : (size : ℕ) (scale : ℤ) (f : DifferenceForm) → form_of size scale ≡ Some f → IsForm size f
form_is size (negsuc n) f e = absurd (none-some f e)
form_is size (pos scale) f e =
    let found = found_one (has size scale) IsPlain DIFFERENCE_FORMS f all_plain e in
    let both = and_parts (f.size == size) (f.scale == scale) found.0 in
    let n = eqb-true f.size size both.0 in
    let s = eqb-true f.scale scale both.1 in
    let named = named_form size scale f.size f.scale f n s e in
    record {
      its_size = n;
      entry = named;
      plain = λ h. ap (λ x. form_of f.size (pos x)) (sym (found.1 h)) ∙ named;
    }

-- ---- fillings

-- of so many bytes
pub record IsFilled (g : Program) (size : ℕ) (f : Filling) : Type 0 where
  pub its_size : filling_size f ≡ size
  pub good : IsFilling g f

difference_filled : (g : Program) (size : ℕ) (p q : Target) (f : DifferenceForm) (x : Bool) → f.is_entry ≡ x → IsForm size f → IsThere g p → IsThere g q → IsFilled g size (if x then Entry f.size f.scale p q else Difference f.size p q)
difference_filled g size p q f true is h k l = record { its_size = h.its_size; good = (ap is_some h.entry, k, l) }
difference_filled g size p q f false is h k l = record { its_size = h.its_size; good = (ap is_some (h.plain is), k, l) }

form_filled : (g : Program) (size : ℕ) (p q : Target) (o : Option DifferenceForm) → ((f : DifferenceForm) → o ≡ Some f → IsForm size f) → IsThere g p → IsThere g q → IfSome (option_map (difference_in p q) o) (IsFilled g size)
form_filled g size p q None h k l = tt
form_filled g size p q (Some f) h k l = difference_filled g size p q f f.is_entry refl (h f refl) k l

pub filling_filled : (g : Program) (m : Module) (p : PatchTable) → ((id : List ℕ) (offset : ℤ) → IsThere g (old_target m p id offset)) → (size : ℕ) (v : ExprValue) → has_data_form size v ≡ true → IfSome (filling m p size v) (IsFilled g size)
filling_filled g m p there size values.Nothing h = tt
filling_filled g m p there size (values.AddrConst offset None) h = tt
filling_filled g m p there size (values.AddrConst offset (Some id)) h = record { its_size = sym (eqb-true size 8 h); good = there id offset }
filling_filled g m p there size (values.AddrAddr scale offset None second) h = tt
filling_filled g m p there size (values.AddrAddr scale offset (Some a) None) h = tt
filling_filled g m p there size (values.AddrAddr scale offset (Some a) (Some b)) h =
    form_filled g size (old_target m p a offset) (old_target m p b (pos 0)) (form_of size scale) (λ f e. form_is size scale f e) (there a offset) (there b (pos 0))
