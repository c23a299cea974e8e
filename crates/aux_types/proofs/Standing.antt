-- Where a whole text stops being the name of a type.
use Rattle.std.proofs.Common.{rules, ◌≡◌, ℕ, ◌-◌, false, cond, eqb, List, [], ◌∷◌, ◌++◌, length, Result, Ok, Err, refl, sym, ap, subst, ◌∙◌, inl, inr, arith}
use Rattle.std.proofs.lemmas.List.{length-append, append-nil}
use Rattle.aux_types.specs.declared.aux_type.AuxType.{AuxType}
use Rattle.aux_types.specs.declared.fault.TypeFault.{TypeFault}
use Rattle.aux_types.specs.declared.fault.TypeFault.TheVariants.{NotAType}
use Rattle.aux_types.specs.Faults.{place_of, SameToken, Stands}
use Rattle.aux_types.specs.Shape.{Shape, shape_of, name, type_text}
use Rattle.aux_types.specs.Reading.{unexpected, type_at, read_type, type_fault}
use Rattle.aux_types.proofs.Steps.{bind_err, no_fault, err_is}
use Rattle.aux_types.proofs.Words.{EndsWord}
use Rattle.aux_types.proofs.Takes.{type_takes, ends_on}
use Rattle.aux_types.proofs.Again.{type_again, name_again}
use Rattle.aux_types.proofs.Stops.{ends_alike}
use Rattle.aux_types.proofs.Stopping.{type_stops}

place_is : (front rest : List ℕ) → length (front ++ rest) - length rest ≡ length front
place_is front rest = omega (arith, length-append front rest)

not_empty : (b : ℕ) (bytes : List ℕ) → eqb (length (b ∷ bytes)) 0 ≡ false
not_empty b bytes = search rules

abbrev ended : ℕ → Shape × List ℕ → Result Shape TypeFault
ended n t = cond (eqb (length t.1) 0) (Ok t.0) (unexpected n t.1)

-- bytes that begin with another token aren't empty where the first aren't
other_is : (b : ℕ) (bytes other : List ℕ) → SameToken (b ∷ bytes) other → (d : ℕ) × (behind : List ℕ) × (other ≡ d ∷ behind)
other_is b bytes [] same = absurd same
other_is b bytes (d ∷ other) same = (d, other, refl)

-- more bytes stand behind a type
left_stands : (t : Shape) (rest left text : List ℕ) (fault : TypeFault) → type_at (length text) 32 text ≡ Ok (t, rest) → rest ≡ left → ended (length text) (t, left) ≡ Err fault → Stands text fault
unfolding read_type
left_stands t rest [] text fault is none e = absurd (no_fault t fault e)
left_stands t rest (b ∷ left) text fault is some e =
    let p = type_takes (length text) 32 text (t, rest) is in
    let parts : text ≡ name t ++ b ∷ left = p.spelled ∙ ap (λ (r : List ℕ). name t ++ r) some in
    let count : length text - length (b ∷ left) ≡ length (name t) = ap (λ (r : List ℕ). length r - length (b ∷ left)) parts ∙ place_is (name t) (b ∷ left) in
    let found = rw (not_empty b left) at e in
    let kind : NotAType (length (name t)) ≡ fault = ap NotAType (sym count) ∙ err_is {A = Shape} (NotAType (length text - length (b ∷ left))) fault found in
    record {
      front = name t;
      rest = b ∷ left;
      parts = parts;
      place = ap place_of (sym kind);
      more = [];
      begins = record { type = t; parts = p.parts; nests = omega (arith, p.nests); spelled = append-nil (name t) };
      stays = λ other same.
          let whole = name t ++ other in
          let ends = ends_on t rest other p.ends (λ ended. ends_alike [] (b ∷ left) other same (subst EndsWord some ended)) in
          let again = type_again (length whole) 32 t other p.parts p.nests ends in
          let o = other_is b left other same in
          let full : eqb (length other) 0 ≡ false = rw o.2 (not_empty o.0 o.1) in
          rw (again, full) (ap (λ (f : TypeFault). Err f) (ap NotAType (place_is (name t) other) ∙ kind));
    }

pub stands : (text : List ℕ) (fault : TypeFault) → type_fault text fault → Stands text fault
unfolding read_type
stands text fault e =
    elim (bind_err (type_at (length text) 32 text) (ended (length text)) fault e) [
      | inl h ↦
          let p = type_stops 32 (length text) text fault h in
          let count : length text - length p.rest ≡ length p.front = ap (λ (t : List ℕ). length t - length p.rest) p.parts ∙ place_is p.front p.rest in
          let is : fault ≡ p.kind (length p.front) = p.at ∙ ap p.kind count in
          record {
            front = p.front;
            rest = p.rest;
            parts = p.parts;
            place = ap place_of is ∙ p.placed (length p.front);
            more = p.more;
            begins = record { type = p.whole.type; parts = p.whole.parts; nests = p.whole.nests; spelled = p.whole.spelled };
            stays = λ other same. rw (p.stays other (length (p.front ++ other)) same) (ap (λ (f : TypeFault). Err f) (ap p.kind (place_is p.front other) ∙ sym is));
          }
      | inr h ↦ left_stands h.0.0 h.0.1 h.0.1 text fault h.1 refl h.2
    ]

pub excludes : (text : List ℕ) (fault : TypeFault) (t : AuxType) → type_fault text fault → type_text text t → ⊥
excludes text fault t e named =
    no_fault (shape_of t) fault (sym (name_again (shape_of t) named.named) ∙ ap read_type (sym named.spelled) ∙ e)
