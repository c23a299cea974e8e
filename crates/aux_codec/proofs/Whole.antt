-- The two laws of whole bytes: what is read has the bytes as its own, and what has them is read.
use Rattle.std.proofs.Common.{◌≡◌, ℕ, cond, eqb, List, [], ◌∷◌, ◌++◌, length, Result, Ok, Err, refl, sym, ap, subst, ◌∙◌}
use Rattle.std.proofs.lemmas.Bool.{eqb-true}
use Rattle.std.proofs.lemmas.List.{append-nil, nil_from_length}
use Rattle.std.specs.Prelude.{IfOk}
use Rattle.gr_base.specs.declared.end.End.{End}
use Rattle.gr_base.specs.declared.end.End.TheVariants as ends
use Rattle.gr_base.specs.declared.aux_fault.AuxFault.{AuxFault}
use Rattle.gr_base.specs.declared.aux_fault.AuxFault.TheVariants.{Rest}
use Rattle.aux_types.specs.declared.aux_type.AuxType.{AuxType}
use Rattle.aux_types.specs.Gives.{◌>>=◌, Gives, Fails}
use Rattle.aux_types.specs.Shape.{Shape, shape_of}
use Rattle.aux_codec.specs.declared.value.AuxValue.{AuxValue}
use Rattle.aux_codec.specs.Value.{Value, value_of}
use Rattle.aux_codec.specs.Spelling.{HasType, spelling, aux_bytes}
use Rattle.aux_codec.specs.Reading.{place, value_at, read_value}
use Rattle.aux_codec.proofs.Units.{IsBytes, bind_ok, ok_is, guard_ok}
use Rattle.aux_codec.proofs.Takes.{value_takes}
use Rattle.aux_codec.proofs.Again.{value_again}

-- a value that was read has the type, and these are its bytes
record IsSpelled (t : Shape) (bytes : List ℕ) (x : Value) : Type 0 where
  typed : HasType t x
  spelled : bytes ≡ spelling t x

read_takes : (t : Shape) (bytes : List ℕ) (x : Value) → IsBytes bytes → read_value t bytes ≡ Ok x → IsSpelled t bytes x
unfolding read_value
read_takes t bytes x fits e =
    let r = bind_ok (value_at (length bytes) t bytes) (λ x. cond (eqb (length x.1) 0) (Ok x.0) (Err (Rest (place (length bytes) x.1)))) x e in
    let g = guard_ok (eqb (length r.0.1) 0) (Rest (place (length bytes) r.0.1)) r.0.0 x r.2 in
    let p = value_takes (length bytes) t bytes r.0 fits r.1 in
    let none : r.0.1 ≡ [] = nil_from_length r.0.1 (eqb-true _ _ g.0) in
    let spelled : bytes ≡ spelling t r.0.0 = p.0.parts ∙ ap (λ (rest : List ℕ). spelling t r.0.0 ++ rest) none ∙ append-nil (spelling t r.0.0) in
    subst (IsSpelled t bytes) g.1 (record { typed = p.1; spelled = spelled })

pub read_again : (t : Shape) (x : Value) → HasType t x → read_value t (spelling t x) ≡ Ok x
unfolding read_value
read_again t x h =
    let whole : value_at (length (spelling t x)) t (spelling t x) ≡ Ok (x, []) = ap (value_at (length (spelling t x)) t) (sym (append-nil (spelling t x))) ∙ value_again (length (spelling t x)) t x [] h in
    rw whole refl

pub found : (t : AuxType) (bytes : List ℕ) (r : Result AuxValue (End AuxFault)) → IsBytes bytes → Gives value_of r (read_value (shape_of t) bytes) → IfOk r (λ x. aux_bytes t (value_of x) bytes)
found t bytes (Ok x) fits h = let p = read_takes (shape_of t) bytes (value_of x) fits h in record { typed = p.typed; spelled = p.spelled }
found t bytes (Err e) fits h = tt

pub only : (t : AuxType) (bytes : List ℕ) (r : Result AuxValue (End AuxFault)) → Gives value_of r (read_value (shape_of t) bytes) → (x : Value) → aux_bytes t x bytes → Gives value_of r (Ok x)
only t bytes r h x spelled =
    let again : read_value (shape_of t) bytes ≡ Ok x = ap (read_value (shape_of t)) spelled.spelled ∙ read_again (shape_of t) x spelled.typed in
    subst (Gives value_of r) again h

-- no two values of a type have the same bytes
pub one_value : (t : AuxType) (x y : Value) (bytes : List ℕ) → aux_bytes t x bytes → aux_bytes t y bytes → x ≡ y
one_value t x y bytes p q =
    ok_is x y (sym (read_again (shape_of t) x p.typed) ∙ ap (read_value (shape_of t)) (sym p.spelled ∙ q.spelled) ∙ read_again (shape_of t) y q.typed)
