-- Where whole bytes stop being those of a value.
use Rattle.std.proofs.Common.{rules, ◌≡◌, ◌≢◌, ℕ, ◌-◌, false, cond, eqb, List, [], ◌∷◌, ◌++◌, length, Result, Ok, Err, refl, sym, ap, subst, ◌∙◌, inl, inr, arith}
use Rattle.std.proofs.lemmas.List.{length-append}
use Rattle.gr_base.specs.declared.aux_fault.AuxFault.{AuxFault}
use Rattle.gr_base.specs.declared.aux_fault.AuxFault.TheVariants.{Short, Rest, BadBool, BadVariant, BadUtf8, Duplicate}
use Rattle.aux_types.specs.declared.aux_type.AuxType.{AuxType}
use Rattle.aux_types.specs.Gives.{◌>>=◌}
use Rattle.aux_types.specs.Shape.{Shape, HasParts, shape_of}
use Rattle.aux_codec.specs.Faults.{place_of, IsFinal, IsUnfinished, IsFollowed, Stands}
use Rattle.aux_codec.specs.Reading.{place, value_at, read_value, aux_fault}
use Rattle.aux_codec.specs.Spelling.{spelling, aux_bytes}
use Rattle.aux_codec.specs.Value.{Value}
use Rattle.aux_codec.proofs.Units.{IsBytes, bind_err, no_value, err_is}
use Rattle.aux_codec.proofs.Takes.{value_takes}
use Rattle.aux_codec.proofs.Whole.{read_again}
use Rattle.aux_codec.proofs.Halts.{IsOfValue, Halts}
use Rattle.aux_codec.proofs.Halting.{value_halts}

place_is : (front rest : List ℕ) → place (length (front ++ rest)) rest ≡ length front
place_is front rest = omega (arith, length-append front rest)

abbrev ended : ℕ → Value × List ℕ → Result Value AuxFault
ended n x = cond (eqb (length x.1) 0) (Ok x.0) (Err (Rest (place n x.1)))

-- a value that halts
unfinished : (t : Shape) (bytes : List ℕ) (fault : AuxFault) → Halts (λ n b. value_at n t b) (length bytes) bytes fault → IsUnfinished t bytes fault
unfolding read_value
unfinished t bytes fault h =
    let count : place (length bytes) h.rest ≡ length h.front = ap (λ (b : List ℕ). place (length b) h.rest) h.parts ∙ place_is h.front h.rest in
    let is : fault ≡ h.kind (length h.front) = h.at ∙ ap h.kind count in
    let none : place (length h.front) [] ≡ length h.front = omega arith in
    record {
      front = h.front;
      rest = h.rest;
      parts = h.parts;
      place = ap place_of is ∙ h.placed (length h.front);
      short = rw (h.short (length h.front)) (ap (λ (n : ℕ). Err (Short n)) none);
      stays = λ final more.
          let spot : place (length (bytes ++ more)) (h.rest ++ more) ≡ length h.front = omega (arith, ap length h.parts, length-append h.front h.rest, length-append bytes more, length-append h.rest more) in
          rw (h.stays final more (length (bytes ++ more))) (ap (λ (f : AuxFault). Err f) (ap h.kind spot ∙ sym is));
    }

of_value : (t : Shape) (bytes : List ℕ) (fault : AuxFault) → IsOfValue fault → IsUnfinished t bytes fault → Stands t bytes fault
of_value t bytes (Rest n) of h = absurd of
of_value t bytes _ of h = h

-- a value, and bytes behind it
followed : (t : Shape) (x : Value) (rest left bytes : List ℕ) (fault : AuxFault) → IsBytes bytes → value_at (length bytes) t bytes ≡ Ok (x, rest) → rest ≡ left → ended (length bytes) (x, left) ≡ Err fault → Stands t bytes fault
followed t x rest [] bytes fault fits is empty e = absurd (no_value x fault e)
followed t x rest (b ∷ left) bytes fault fits is some e =
    let p = value_takes (length bytes) t bytes (x, rest) fits is in
    let parts : bytes ≡ spelling t x ++ b ∷ left = p.0.parts ∙ ap (λ (r : List ℕ). spelling t x ++ r) some in
    let spot : place (length bytes) (b ∷ left) ≡ length (spelling t x) = ap (λ (r : List ℕ). place (length r) (b ∷ left)) parts ∙ place_is (spelling t x) (b ∷ left) in
    let full : eqb (length (b ∷ left)) 0 ≡ false = search rules in
    let kind : Rest (length (spelling t x)) ≡ fault = ap Rest (sym spot) ∙ err_is {A = Value} (Rest (place (length bytes) (b ∷ left))) fault (rw full at e) in
    subst (Stands t bytes) kind (record { value = x; rest = b ∷ left; typed = p.1; parts = parts; behind = refl; others = λ none. cc })

pub stands : (t : Shape) (bytes : List ℕ) (fault : AuxFault) → HasParts t → IsBytes bytes → aux_fault t bytes fault → Stands t bytes fault
unfolding read_value
stands t bytes fault has fits e =
    elim (bind_err (value_at (length bytes) t bytes) (ended (length bytes)) fault e) [
      | inl h ↦ let p = value_halts t has (length bytes) bytes fault fits h in of_value t bytes fault (subst IsOfValue (sym p.at) (p.of_value (place (length bytes) p.rest))) (unfinished t bytes fault p)
      | inr h ↦ followed t h.0.0 h.0.1 h.0.1 bytes fault fits h.1 refl h.2
    ]

pub excludes : (t : AuxType) (x : Value) (bytes : List ℕ) (fault : AuxFault) → aux_fault (shape_of t) bytes fault → aux_bytes t x bytes → ⊥
excludes t x bytes fault e spelled = no_value x fault (sym (read_again (shape_of t) x spelled.typed) ∙ ap (read_value (shape_of t)) (sym spelled.spelled) ∙ e)
