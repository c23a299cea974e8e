-- The two laws of a whole text: what is read has the text as its name, and what has it is read.
use Rattle.std.proofs.Common.{◌≡◌, ℕ, cond, eqb, List, [], ◌++◌, length, Result, Ok, Err, sym, ap, subst, ◌∙◌}
use Rattle.std.proofs.lemmas.Bool.{eqb-true}
use Rattle.std.proofs.lemmas.List.{append-nil, nil_from_length}
use Rattle.std.specs.Prelude.{IfOk}
use Rattle.gr_base.specs.declared.end.End.{End}
use Rattle.gr_base.specs.declared.end.End.TheVariants as ends
use Rattle.aux_types.specs.declared.aux_type.AuxType.{AuxType}
use Rattle.aux_types.specs.declared.fault.TypeFault.{TypeFault}
use Rattle.aux_types.specs.Gives.{Gives}
use Rattle.aux_types.specs.Shape.{Shape, shape_of, name, IsNamed, type_text}
use Rattle.aux_types.specs.Reading.{unexpected, type_at, read_type}
use Rattle.aux_types.proofs.Steps.{bind_ok, ok_is, guard_ok}
use Rattle.aux_types.proofs.Takes.{type_takes}
use Rattle.aux_types.proofs.Again.{name_again}
use Rattle.aux_types.proofs.Inverse.{same_type}

-- a shape that was read has a name, and that is the text
record IsName (text : List ℕ) (t : Shape) : Type 0 where
  named : IsNamed t
  spelled : text ≡ name t

read_takes : (text : List ℕ) (t : Shape) → read_type text ≡ Ok t → IsName text t
unfolding read_type
read_takes text t e =
    let r = bind_ok (type_at (length text) 32 text) (λ t. cond (eqb (length t.1) 0) (Ok t.0) (unexpected (length text) t.1)) t e in
    let g = guard_ok (eqb (length r.0.1) 0) _ r.0.0 t r.2 in
    let p = type_takes (length text) 32 text r.0 r.1 in
    let none : r.0.1 ≡ [] = nil_from_length r.0.1 (eqb-true _ _ g.0) in
    let spelled : text ≡ name r.0.0 = p.spelled ∙ ap (λ (rest : List ℕ). name r.0.0 ++ rest) none ∙ append-nil (name r.0.0) in
    subst (IsName text) g.1 (record { named = record { parts = p.parts; nests = p.nests }; spelled = spelled })

pub found : (text : List ℕ) (r : Result AuxType (End TypeFault)) → Gives shape_of r (read_type text) → IfOk r (λ t. type_text text t)
found text (Ok t) h = let p = read_takes text (shape_of t) h in record { named = p.named; spelled = p.spelled }
found text (Err e) h = tt

pub only : (text : List ℕ) (r : Result AuxType (End TypeFault)) → Gives shape_of r (read_type text) → (t : AuxType) → type_text text t → Gives (λ x. x) r (Ok t)
only text (Ok u) h t named =
    let is : ◌≡◌ {A = Shape} (shape_of t) (shape_of u) = ok_is {F = TypeFault} (shape_of t) (shape_of u) (sym (name_again (shape_of t) named.named) ∙ ap read_type (sym named.spelled) ∙ h) in
    ap (λ (x : AuxType). Ok x) (same_type t u is)
only text (Err ends.Memory) h t named = tt
only text (Err (ends.Fault f)) h t named =
    let both : ◌≡◌ {A = Result Shape TypeFault} (Ok (shape_of t)) (Err f) = sym (name_again (shape_of t) named.named) ∙ ap read_type (sym named.spelled) ∙ h in
    absurd cc
