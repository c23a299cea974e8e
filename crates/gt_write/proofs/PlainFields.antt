-- Plain fields and members of oneofs read back.
use Rattle.std.proofs.Common.{◌≡◌, ℕ, Bool, true, false, cond, [], ◌∷◌, Option, Some, None, refl, sym, ap, subst, ◌∙◌}
use Rattle.std.specs.Prelude.{IfSome, unwrap_or}
use Rattle.std.specs.List.{cons_option}
use Rattle.std.specs.Option.{option_map}
use Rattle.gt_model.specs.Schema.{Kind, Members, field, member}
use Rattle.gt_model.specs.Values.{Plain}
use Rattle.gt_read.specs.Pieces.{Piece}
use Rattle.gt_read.specs.Kinds.{Read, value_of, absent, of_number}
use Rattle.gt_read.specs.Meaning.{meaning, last, last_value, last_turn}
use Rattle.gt_read.specs.Identifiers.{plain, plain_of, plain_bad, bad, if_some}
use Rattle.gt_read.specs.Faults.{piece_faults, text_faults}
use Rattle.gt_write.specs.Spelling.{spelling, plain_record, plain_field, is_default}
use Rattle.gt_write.specs.Lengths.{plain_length}
use Rattle.gt_write.proofs.ReadingLaws.{ReadingLaws}
use Rattle.gt_write.proofs.Walking.{Walks, walks_nil}
use Rattle.gt_write.proofs.KindsBack.{Fits, IsNumber, PlainBack, plain_back, default_back, wire_of_kind}
use Rattle.gt_write.proofs.Each.{all_of_number}
use Rattle.gt_write.proofs.Backs.{FieldBack, at_own, is_listed, turn_one}

-- one record gives its value
pub last_one : (k : Kind) (p : Piece) (r : Read k) → value_of k p ≡ Some r → last_value k (p ∷ []) ≡ Some r
last_one k p r e = ap (λ (o : Option (Read k)). last (cons_option o [])) e

module _ (laws : ReadingLaws) (n base : ℕ) (num : IsNumber n) (k : Kind) where
  abbrev piece : (v : Plain k) → PlainBack k n v base → Piece
  piece v b = record { place = base; number = n; carried = b.carried }

  there : (v : Plain k) → Fits k v → plain_length k v → is_default k v ≡ false → FieldBack (field n k) v base
  unfolding spelling meaning plain bad piece_faults
  there v fits short e =
      let text : plain_field n k v ≡ plain_record n k v = ap (λ b. cond b [] (plain_record n k v)) e in
      let b = plain_back laws n base num k v fits short in
      let p = piece v b in
      let own : of_number n (p ∷ []) ≡ p ∷ [] = all_of_number n (p ∷ []) (refl, tt) in
      let read : (first : ℕ) → unwrap_or (last_value k (of_number n (p ∷ []))) (absent k first) ≡ b.read =
      λ first. ap (λ ps. unwrap_or (last_value k ps) (absent k first)) own ∙ ap (λ o. unwrap_or o (absent k first)) (last_one k p b.read b.value) in
      record {
        ps = p ∷ [];
        walks = subst (λ t. Walks t base (p ∷ [])) (sym text) b.walks;
        numbers = (refl, tt);
        unset = λ no. absurd cc;
        value = λ first. ap (plain_of k) (read first) ∙ b.plain;
        clean = λ first. ap (plain_bad k) (read first) ∙ b.bad;
        sound = (at_own n (λ place start bytes. text_faults k place bytes) p refl b.sound, tt);
      }

  left_out : (v : Plain k) → Fits k v → is_default k v ≡ true → FieldBack (field n k) v base
  unfolding spelling meaning plain bad piece_faults
  left_out v fits e =
      let text : plain_field n k v ≡ [] = ap (λ b. cond b [] (plain_record n k v)) e in
      record {
        ps = [];
        walks = subst (λ t. Walks t base []) (sym text) (walks_nil base);
        numbers = tt;
        unset = λ no. refl;
        value = λ first. (default_back k v fits e first).0;
        clean = λ first. (default_back k v fits e first).1;
        sound = tt;
      }

  pub plain_field_back : (v : Plain k) → Fits k v → plain_length k v → FieldBack (field n k) v base
  plain_field_back v fits short = by (is_default k v) refl
    where
      by : (b : Bool) → is_default k v ≡ b → FieldBack (field n k) v base
      by true e = left_out v fits e
      by false e = there v fits short e

  module _ (members : Members) (listed : is_listed members n (wire_of_kind k) ≡ true) where
    pub member_unset : FieldBack (member members n k) None base
    unfolding spelling meaning plain bad piece_faults
    member_unset = record {
      ps = [];
      walks = walks_nil base;
      numbers = tt;
      unset = λ no. refl;
      value = λ first. refl;
      clean = λ first. refl;
      sound = tt;
    }

    pub member_set : (v : Plain k) → Fits k v → plain_length k v → FieldBack (member members n k) (Some v) base
    unfolding spelling meaning plain bad piece_faults
    member_set v fits short =
        let b = plain_back laws n base num k v fits short in
        let p = piece v b in
        let read : last_value k (last_turn members n (p ∷ [])) ≡ Some b.read =
        ap (last_value k) (turn_one members n (wire_of_kind k) p listed refl b.wire) ∙ last_one k p b.read b.value in
        record {
          ps = p ∷ [];
          walks = b.walks;
          numbers = (refl, tt);
          unset = λ no. absurd cc;
          value = λ first. ap (option_map (plain_of k)) read ∙ ap (λ (x : Plain k). Some x) b.plain;
          clean = λ first. ap (if_some (plain_bad k)) read ∙ b.bad;
          sound = (at_own n (λ place start bytes. text_faults k place bytes) p refl b.sound, tt);
        }

    pub member_back : (v : Option (Plain k)) → IfSome v (Fits k) → IfSome v (plain_length k) → FieldBack (member members n k) v base
    member_back None fits short = member_unset
    member_back (Some v) fits short = member_set v fits short
