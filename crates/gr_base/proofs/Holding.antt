-- What a change of one name does to files in memory.
use Rattle.std.proofs.Common.{◌≡◌, ◌≢◌, ◌⊎◌, inl, inr, ℕ, List, Option, Some, None, Bool, true, false, cond, Vec, String, string_bytes, ◌++◌, refl, sym, ◌∙◌, ap, subst, IsSome, Result, Ok, Err, OnOk, OnErr, is_ok, if◌then◌else◌}
use Rattle.std.specs.BTreeMap.{BTreeMap, get_by_text, UpdatesBy}
use Rattle.std.specs.Cmp.Lexicographic.{slice_cmp}
use Rattle.std.specs.Ordering.{nat_cmp}
use Rattle.std.specs.Option.{option_map}
use Rattle.std.specs.Str.{bytes_eq}
use Rattle.std.specs.String.{string_cmp}
use Rattle.std.specs.Bool.{Decides}
use Rattle.std.specs.Map.{update}
use Rattle.std.specs.declared.alloc.Global.{Global}
use Rattle.std.proofs.lemmas.Bool.{false_from_ne_true}
use Rattle.std.proofs.lemmas.List.{append-nil}
use Rattle.std.proofs.lemmas.Map.Text.{btree_map_updates_text}
use Rattle.std.proofs.lemmas.Slice.Eq.{bytes_eq-Decides}
use Rattle.gr_base.specs.Desk.{Files, Leaves, LeavesPrefix, SameFiles, Adds}
use Rattle.gr_base.specs.Held.{held_in, KeepsNames}

abbrev Contents : Type 0
Contents = BTreeMap (String Global) (Vec ℕ Global)

cases_eq_list : (a b : List ℕ) → (a ≡ b) ⊎ (a ≢ b)
cases_eq_list a b = of_test (bytes_eq a b) (bytes_eq-Decides a b)
  where
    of_test : (test : Bool) → Decides test (a ≡ b) → (a ≡ b) ⊎ (a ≢ b)
    of_test true tells = inl (tells.0 refl)
    of_test false tells = inr (λ same. cc (tells.1 same))

changed_there : (f : List ℕ → Option (Vec ℕ Global)) (name : List ℕ) (w : Option (Vec ℕ Global)) → update bytes_eq f name w name ≡ w
changed_there f name w = ap (λ (b : Bool). cond b w (f name)) ((bytes_eq-Decides name name).1 refl)

changed_elsewhere : (f : List ℕ → Option (Vec ℕ Global)) (name other : List ℕ) (w : Option (Vec ℕ Global)) → other ≢ name → update bytes_eq f name w other ≡ f other
changed_elsewhere f name other w ne =
    ap (λ (b : Bool). cond b w (f other)) (false_from_ne_true (bytes_eq name other) (λ same. ne (sym ((bytes_eq-Decides name other).0 same))))

-- the name holds the new content, and no other name differs
pub updates_leaves : (name bytes : List ℕ) (old new : Contents) (content : Vec ℕ Global) → content.items ≡ bytes → UpdatesBy string_cmp (λ k. slice_cmp nat_cmp name (string_bytes k)) old new (Some content) → Leaves name bytes (held_in old) (held_in new)
updates_leaves name bytes old new content is updates =
    let each = btree_map_updates_text name old new (Some content) updates in record {
      there = ap (option_map (λ (v : Vec ℕ Global). v.items)) (each name ∙ changed_there (get_by_text old) name (Some content)) ∙ ap Some is;
      others = λ other ne. ap (option_map (λ (v : Vec ℕ Global). v.items)) (each other ∙ changed_elsewhere (get_by_text old) name other (Some content) ne);
    }

-- the same for a key of the name's bytes
pub inserts_leaves : (name bytes : List ℕ) (old new : Contents) (key : String Global) (content : Vec ℕ Global) → string_bytes key ≡ name → content.items ≡ bytes → UpdatesBy string_cmp (string_cmp key) old new (Some content) → Leaves name bytes (held_in old) (held_in new)
inserts_leaves name bytes old new key content named is updates =
    subst (λ n. Leaves n bytes (held_in old) (held_in new)) named (updates_leaves (string_bytes key) bytes old new content is updates)

some_part : {A : Type 0} (a : Option A) → IsSome a → (x : A) × (a ≡ Some x)
some_part None some = absurd (cc some)
some_part (Some x) some = (x, refl)

some_of_same : {A : Type 0} (a : Option A) (x : A) → a ≡ Some x → IsSome a
some_of_same a x is = cc is

-- a name that got content, and all that held some before, are held
pub leaves_keeps : (name bytes : List ℕ) (old new : Files) → Leaves name bytes old new → KeepsNames old new
leaves_keeps name bytes old new leaves other was =
    elim (cases_eq_list other name) [
      | inl same ↦ some_of_same (new other) bytes (ap new same ∙ leaves.there)
      | inr ne ↦ subst (λ h. IsSome h) (sym (leaves.others other ne)) was
    ]

-- content that equals the old leaves each file
leaves_same : (name bytes : List ℕ) (old new : Files) → Leaves name bytes old new → old name ≡ Some bytes → SameFiles old new
leaves_same name bytes old new leaves was other =
    elim (cases_eq_list other name) [
      | inl same ↦ ap new same ∙ leaves.there ∙ sym was ∙ ap old (sym same)
      | inr ne ↦ leaves.others other ne
    ]

module _ (name more : List ℕ) (old new : Contents) (before after : Vec ℕ Global) (was : Some before ≡ get_by_text old name) (updates : UpdatesBy string_cmp (λ k. slice_cmp nat_cmp name (string_bytes k)) old new (Some after)) where
  held_before : held_in old name ≡ Some before.items
  held_before = ap (option_map (λ (v : Vec ℕ Global). v.items)) (sym was)

  leaves_after : Leaves name after.items (held_in old) (held_in new)
  leaves_after = updates_leaves name after.items old new after refl updates

  pub extends_keeps : KeepsNames (held_in old) (held_in new)
  extends_keeps = leaves_keeps name after.items (held_in old) (held_in new) leaves_after

  pub extends_ok : {E : Type 0} (result : Result (Unit {0}) E) → after.items ≡ (if is_ok result then before.items ++ more else before.items) → OnOk result (Adds name more (held_in old) (held_in new))
  extends_ok (Ok u) is = record {
    held = before.items;
    was = held_before;
    leaves = subst (λ l. Leaves name l (held_in old) (held_in new)) is leaves_after;
  }
  extends_ok (Err e) is = tt

  pub extends_err : {E : Type 0} (result : Result (Unit {0}) E) → after.items ≡ (if is_ok result then before.items ++ more else before.items) → OnErr result (SameFiles (held_in old) (held_in new))
  extends_err (Ok u) is = tt
  extends_err (Err e) is = leaves_same name after.items (held_in old) (held_in new) leaves_after (held_before ∙ ap Some (sym is))

-- files that stay have none of the bytes added
pub same_prefix : (name more : List ℕ) (old new : Files) → IsSome (old name) → SameFiles old new → LeavesPrefix name more old new
same_prefix name more old new some same =
    let held = some_part (old name) some in record {
      count = 0;
      held = held.0;
      was = held.1;
      leaves = record { there = same name ∙ held.1 ∙ ap Some (sym (append-nil held.0)); others = λ other ne. same other };
    }
