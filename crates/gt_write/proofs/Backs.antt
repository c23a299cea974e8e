-- What it is to read back, for a field and for a message.
use Rattle.std.proofs.Common.{◌≡◌, ℕ, Bool, true, false, cond, List, [], ◌∷◌, ◌++◌, refl, ap, ◌∙◌}
use Rattle.std.specs.Prelude.{◌==◌, ◌&&◌, Option, Some, None, IfSome}
use Rattle.std.specs.List.{AllByRecursion, flat_map, list_any}
use Rattle.std.proofs.lemmas.Bool.{eq-eqb}
use Rattle.gt_model.specs.Schema.{Members, Row, Rows}
use Rattle.gt_model.specs.Values.{Plain, Field, Fields}
use Rattle.gt_read.specs.declared.fault.FormatFault.{FormatFault}
use Rattle.gt_read.specs.Pieces.{Piece}
use Rattle.gt_read.specs.Meaning.{meaning, field_meaning, is_member, wire_of, trailing, last_turn}
use Rattle.gt_read.specs.Identifiers.{plain, field_plain, bad, field_bad}
use Rattle.gt_read.specs.Faults.{field_faults, piece_faults, at_number, in_run}
use Rattle.gt_write.specs.Spelling.{field_records, spelling}
use Rattle.gt_write.proofs.Walking.{Walks}
use Rattle.gt_write.proofs.Foreign.{number_of, is_set}

-- the records of a field give its value, wherever the message begins
pub record FieldBack (row : Row) (v : Field Plain row) (base : ℕ) : Type 0 where
  pub ps : List Piece
  pub walks : Walks (field_records row v) base ps
  pub numbers : AllByRecursion (λ p. p.number ≡ number_of row) ps
  pub unset : is_set row v ≡ false → ps ≡ []
  pub value : (first : ℕ) → field_plain row (field_meaning row first ps) ≡ v
  pub clean : (first : ℕ) → field_bad row (field_meaning row first ps) ≡ []
  pub sound : AllByRecursion (λ p. field_faults row p ≡ []) ps

pub record MessageBack (rows : Rows) (v : Fields Plain rows) (base : ℕ) : Type 0 where
  pub ps : List Piece
  pub walks : Walks (spelling rows v) base ps
  pub value : (first : ℕ) → plain rows (meaning rows first ps) ≡ v
  pub clean : (first : ℕ) → bad rows (meaning rows first ps) ≡ []
  pub sound : AllByRecursion (λ p. piece_faults rows p ≡ []) ps

pub all_two : {A : Type 0} (P Q : A → Type 0) (xs : List A) → AllByRecursion P xs → AllByRecursion Q xs → AllByRecursion (λ x. P x × Q x) xs
all_two P Q [] p q = tt
all_two P Q (x ∷ xs) p q = ((p.0, q.0), all_two P Q xs p.1 q.1)

pub some_two : {A : Type 0} (P Q : A → Type 0) (o : Option A) → IfSome o P → IfSome o Q → IfSome o (λ x. P x × Q x)
some_two P Q None p q = tt
some_two P Q (Some x) p q = (p, q)

pub all_none : {A F : Type 0} (f : A → List F) (xs : List A) → AllByRecursion (λ x. f x ≡ []) xs → flat_map f xs ≡ []
all_none f [] all = refl
all_none f (x ∷ xs) all = λ i. all.0 i ++ all_none f xs all.1 i

-- a record of the field's number is looked into
pub at_own : (n : ℕ) (faults : ℕ → ℕ → List ℕ → List FormatFault) (p : Piece) → p.number ≡ n → in_run faults p.place p.carried ≡ [] → at_number n faults p ≡ []
at_own n faults p is none = ap (λ b. cond b (in_run faults p.place p.carried) []) (eq-eqb _ _ is) ∙ none

-- whether the number and the wire type are a member's
abbrev pub is_listed : Members → ℕ → ℕ → Bool
is_listed members n wire = list_any (λ (m : ℕ × ℕ). (n == m.0) && (wire == m.1)) members

-- the only record of a oneof is its last turn
pub turn_one : (members : Members) (n wire : ℕ) (p : Piece) → is_listed members n wire ≡ true → p.number ≡ n → wire_of p.carried ≡ wire → last_turn members n (p ∷ []) ≡ p ∷ []
turn_one members n wire p listed is wire_is =
    let member : is_member members p ≡ true = (λ i. is_listed members (is i) (wire_is i)) ∙ listed in
    ap (λ b. trailing (λ (q : Piece). q.number == n) (cond b (p ∷ []) [])) member ∙ ap (λ b. cond (b && true) (p ∷ []) []) (eq-eqb _ _ is)
