-- What a draft comes to is the least fault in it, and where there is none, the value without the places of its identifiers.
use Rattle.std.proofs.Common.{◌≡◌, Bool, true, false, cond, eqb, leb, List, [], ◌∷◌, ◌++◌, map, length, Option, Some, None, refl, sym, ap, ◌∙◌, replicate}
use Rattle.std.specs.Prelude.{◌||◌}
use Rattle.std.specs.List.{flat_map}
use Rattle.std.specs.Option.{option_map}
use Rattle.gt_model.specs.Schema.{Kind, Id, OptionalId, Text, Blob, Unsigned64, Signed64, Unsigned32, Signed32, Flag, key_kind, Row, field, repeated, message, messages, member, member_message, entries, Rows, none, ◌&◌}
use Rattle.gt_model.specs.Values.{Field, Fields, Plain}
use Rattle.gt_read.specs.declared.ids.IdFault.{IdFault}
use Rattle.gt_read.specs.Kinds.{Read}
use Rattle.gt_read.specs.Identifiers.{plain_bad, fault_at, plain_of, bad, field_bad, if_some, plain, field_plain, earlier, least}
use Rattle.gt_read.specs.Drafts.Draft.{drafted_plain, identifier, lean, done, drafted_field, drafted, finished_plain, finished_field, finished, fault_of, plain_fault, map_fault, fault_if, worst_field, worst}
use Rattle.gt_read.proofs.Least.{least-append}

-- ---- values

plain_back : (k : Kind) (v : Read k) → finished_plain k (drafted_plain k v) ≡ plain_of k v
plain_back Id v = refl
plain_back OptionalId v = by (eqb (length v.bytes) 16)
  where
    by : (b : Bool) → cond b (Some (cond b v.bytes (replicate 16 0))) None ≡ cond b (Some v.bytes) None
    by true = refl
    by false = refl
plain_back Text v = refl
plain_back Blob v = refl
plain_back Unsigned64 v = refl
plain_back Signed64 v = refl
plain_back Unsigned32 v = refl
plain_back Signed32 v = refl
plain_back Flag v = refl

option_back : {A B C : Type 0} (f : B → C) (g : A → B) (h : A → C) → ((a : A) → f (g a) ≡ h a) → (o : Option A) → option_map f (option_map g o) ≡ option_map h o
option_back f g h e None = refl
option_back f g h e (Some a) = ap (λ c. Some c) (e a)

pub map_back : {A B C : Type 0} (f : B → C) (g : A → B) (h : A → C) → ((a : A) → f (g a) ≡ h a) → (xs : List A) → map f (map g xs) ≡ map h xs
map_back f g h e [] = refl
map_back {C = C} f g h e (x ∷ xs) = λ i. e x i ∷ map_back f g h e xs i

-- where nothing is at fault in two lists together, nothing is in either
none_left : (a b : Option IdFault) → earlier a b ≡ None → a ≡ None
none_left None b e = refl
none_left (Some f) None e = absurd cc
none_left (Some f) (Some g) e = by (leb f.place g.place) e
  where
    by : (t : Bool) → cond t (Some f) (Some g) ≡ None → ◌≡◌ {A = Option IdFault} (Some f) None
    by true e = absurd cc
    by false e = absurd cc

none_right : (a b : Option IdFault) → earlier a b ≡ None → b ≡ None
none_right None b e = e
none_right (Some f) None e = refl
none_right (Some f) (Some g) e = by (leb f.place g.place) e
  where
    by : (t : Bool) → cond t (Some f) (Some g) ≡ None → ◌≡◌ {A = Option IdFault} (Some g) None
    by true e = absurd cc
    by false e = absurd cc

first_clean : (xs ys : List IdFault) → least (xs ++ ys) ≡ None → least xs ≡ None
first_clean xs ys e = none_left (least xs) (least ys) (sym (least-append xs ys) ∙ e)

rest_clean : (xs ys : List IdFault) → least (xs ++ ys) ≡ None → least ys ≡ None
rest_clean xs ys e = none_right (least xs) (least ys) (sym (least-append xs ys) ∙ e)

-- values of which none is at fault
map_clean : {A B : Type 0} (f g : A → B) (h : A → List IdFault) → ((a : A) → least (h a) ≡ None → f a ≡ g a) → (xs : List A) → least (flat_map h xs) ≡ None → map f xs ≡ map g xs
map_clean f g h same [] e = refl
map_clean f g h same (x ∷ xs) e = λ i. same x (first_clean (h x) (flat_map h xs) e) i ∷ map_clean f g h same xs (rest_clean (h x) (flat_map h xs) e) i

option_clean : {A B C : Type 0} (f : B → C) (g : A → B) (k : A → C) (h : A → List IdFault) → ((a : A) → least (h a) ≡ None → f (g a) ≡ k a) → (o : Option A) → least (if_some h o) ≡ None → option_map f (option_map g o) ≡ option_map k o
option_clean f g k h same None e = refl
option_clean f g k h same (Some a) e = ap (λ c. Some c) (same a e)

lean-items : {A : Type 0} (xs : List A) (o : Option IdFault) → o ≡ None → (lean xs o).0 ≡ xs
lean-items xs None e = refl
lean-items xs (Some f) e = absurd cc

lean-fault : {A : Type 0} (xs : List A) (o : Option IdFault) → (lean xs o).1 ≡ o
lean-fault xs None = refl
lean-fault xs (Some f) = refl

mutual
  unfolding drafted finished plain bad

  field_back : (row : Row) (v : Field Read row) → least (field_bad row v) ≡ None → finished_field row (drafted_field row v) ≡ field_plain row v
  field_back (field number k) v e = plain_back k v
  field_back (repeated number k) vs e = lean-items (map (plain_of k) vs) (least (flat_map (plain_bad k) vs)) e
  field_back (message number rows) v e = option_clean (λ d. finished rows d) (λ w. drafted rows w) (λ w. plain rows w) (λ w. bad rows w) (λ w c. back rows w c) v e
  field_back (messages number rows) vs e =
      lean-items (map (λ w. finished rows (drafted rows w)) vs) (least (flat_map (λ w. bad rows w) vs)) e
      ∙ map_clean (λ w. finished rows (drafted rows w)) (λ w. plain rows w) (λ w. bad rows w) (λ w c. back rows w c) vs e
  field_back (member members number k) v e = option_back (finished_plain k) (drafted_plain k) (plain_of k) (plain_back k) v
  field_back (member_message members number rows) v e = option_clean (λ d. finished rows d) (λ w. drafted rows w) (λ w. plain rows w) (λ w. bad rows w) (λ w c. back rows w c) v e
  field_back (entries number k rows) es e =
      map_back (λ (e : Read (key_kind k) × (Fields Plain rows × Option IdFault)). (plain_of (key_kind k) e.0, e.1.0)) (λ (e : Read (key_kind k) × Fields Read rows). (e.0, done rows e.1)) (λ (e : Read (key_kind k) × Fields Read rows). (plain_of (key_kind k) e.0, finished rows (drafted rows e.1))) (λ e. refl) es
      ∙ map_clean (λ (e : Read (key_kind k) × Fields Read rows). (plain_of (key_kind k) e.0, finished rows (drafted rows e.1))) (λ (e : Read (key_kind k) × Fields Read rows). (plain_of (key_kind k) e.0, plain rows e.1)) (λ (e : Read (key_kind k) × Fields Read rows). bad rows e.1)
      (λ e c i. (plain_of (key_kind k) e.0, back rows e.1 c i)) es e

  -- the value of a draft in which nothing is at fault
  pub back : (rows : Rows) (v : Fields Read rows) → least (bad rows v) ≡ None → finished rows (drafted rows v) ≡ plain rows v
  back none v e = refl
  back (row & rows) v e = λ i. (field_back row v.0 (first_clean (field_bad row v.0) (bad rows v.1) e) i, back rows v.1 (rest_clean (field_bad row v.0) (bad rows v.1) e) i)

-- ---- faults

plain_worst : (k : Kind) (v : Read k) → plain_fault k (drafted_plain k v) ≡ least (plain_bad k v)
plain_worst Id v = by (eqb (length v.bytes) 16)
  where
    by : (b : Bool) → cond b None (fault_of (identifier v)) ≡ least (cond b [] (fault_at v))
    by true = refl
    by false = refl
plain_worst OptionalId v = by (eqb (length v.bytes) 16 || eqb (length v.bytes) 0)
  where
    by : (b : Bool) → cond b None (fault_of (identifier v)) ≡ least (cond b [] (fault_at v))
    by true = refl
    by false = refl
plain_worst Text v = refl
plain_worst Blob v = refl
plain_worst Unsigned64 v = refl
plain_worst Signed64 v = refl
plain_worst Unsigned32 v = refl
plain_worst Signed32 v = refl
plain_worst Flag v = refl

option_worst : {A D : Type 0} (f : D → Option IdFault) (g : A → D) (h : A → List IdFault) → ((a : A) → f (g a) ≡ least (h a)) → (o : Option A) → fault_if f (option_map g o) ≡ least (if_some h o)
option_worst f g h e None = refl
option_worst f g h e (Some a) = e a

map_worst : {K A B : Type 0} (f : A → B) (h : A → List IdFault) (es : List (K × A)) → map_fault (map (λ (e : K × A). (e.0, (f e.1, least (h e.1)))) es) ≡ least (flat_map (λ (e : K × A). h e.1) es)
map_worst f h [] = refl
map_worst {K = K} {A = A} f h (e ∷ es) = ap (earlier (least (h e.1))) (map_worst f h es) ∙ sym (least-append (h e.1) (flat_map (λ (e : K × A). h e.1) es))

mutual
  unfolding drafted worst bad

  field_worst : (row : Row) (v : Field Read row) → worst_field row (drafted_field row v) ≡ least (field_bad row v)
  field_worst (field number k) v = plain_worst k v
  field_worst (repeated number k) v = lean-fault (map (plain_of k) v) (least (flat_map (plain_bad k) v))
  field_worst (message number rows) v = option_worst (λ e. worst rows e) (λ w. drafted rows w) (λ w. bad rows w) (λ w. all_worst rows w) v
  field_worst (messages number rows) v = lean-fault (map (λ w. finished rows (drafted rows w)) v) (least (flat_map (λ w. bad rows w) v))
  field_worst (member members number k) v = option_worst (plain_fault k) (drafted_plain k) (plain_bad k) (plain_worst k) v
  field_worst (member_message members number rows) v = option_worst (λ e. worst rows e) (λ w. drafted rows w) (λ w. bad rows w) (λ w. all_worst rows w) v
  field_worst (entries number k rows) v = map_worst (λ w. finished rows (drafted rows w)) (bad rows) v

  pub all_worst : (rows : Rows) (v : Fields Read rows) → worst rows (drafted rows v) ≡ least (bad rows v)
  all_worst none v = refl
  all_worst (row & rows) v =
      (λ i. earlier (field_worst row v.0 i) (all_worst rows v.1 i)) ∙ sym (least-append (field_bad row v.0) (bad rows v.1))
