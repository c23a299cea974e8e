-- Reading the inputs role after role.
use Rattle.std.proofs.Common.{◌≡◌, ◌+◌, ◌≤◌, ◌<◌, ◌^◌, ℕ, suc, List, [], ◌∷◌, ◌++◌, length, take, drop, get_or, Bool, true, false, IsTrue, Option, None, Some, Result, Ok, Err, refl, sym, ◌∙◌, ap, subst, arith, append_assoc, append-nil, drop-cons, zero, add-one}
use Rattle.std.proofs.lemmas.List.{take-append-drop}
use Rattle.std.proofs.lemmas.List.Folds.{list_any-append}
use Rattle.std.specs.Prelude.{◌||◌, cond, IfErr}
use Rattle.std.specs.Option.{option_and_then}
use Rattle.std.specs.Result.{IsErrAnd}
use Rattle.std.specs.List.{AllByRecursion}
use Rattle.gr_base.specs.Desk.{Files, Told, ToldBoth, SameFiles, Rose, Took}
use Rattle.gr_base.specs.declared.end.End.{End}
use Rattle.gr_base.specs.declared.end.End.TheVariants as ends
use Rattle.gr_base.specs.declared.whole.ReadEnd.{ReadEnd}
use Rattle.gr_base.specs.declared.whole.ReadEnd.TheVariants as reads
use Rattle.command_words.specs.declared.role.Role.{Role}
use Rattle.command_words.specs.declared.role.Role.TheVariants.{In, Patch, Layout, Input}
use Rattle.command_words.specs.declared.role.TheConstants.{ROLES}
use Rattle.jobs.specs.declared.contents.Contents as declared
use Rattle.gt_front.specs.declared.inputs.Unread.{Unread}
use Rattle.jobs.specs.Inputs.{InputFile, IsReadable, IsTooLarge, AllReadable, input_as, files_as, contents_of}
use Rattle.command_words.specs.Picked.{Picked}
use Rattle.gt_front.specs.Reads.{Counts, Refuses, IsUnread, IsUnreadAs, HoldsAmong, HoldsAll, among}
use Rattle.jobs.specs.Contents.{Puts, contents_view, same_role}
use Rattle.gt_front.proofs.Telling.{told_map2, told_back}

-- why a whole read ended, from what it says
pub refuses : (name : List ℕ) (files : Option Files) (steady : Bool) (counts : Counts) (end : End ReadEnd)
    → (◌≡◌ {A = End ReadEnd} end (ends.Fault reads.Fault) → Rose counts.read_before counts.read_now)
    → (◌≡◌ {A = End ReadEnd} end (ends.Fault reads.TooLarge) → Took (2 ^ 26 + 1) counts.taken_before counts.taken_now)
    → (◌≡◌ {A = End ReadEnd} end (ends.Fault reads.TooLarge) → Told files (λ held. IsTooLarge held name))
    → (IsTrue steady → ◌≡◌ {A = End ReadEnd} end (ends.Fault reads.Fault) → Told files (λ held. held name ≡ None))
    → Refuses name files steady counts end
refuses name files steady counts (ends.Fault reads.Fault) rose took large missing = (rose refl, λ sure. missing sure refl)
refuses name files steady counts (ends.Fault reads.TooLarge) rose took large missing = (took refl, large refl)
refuses name files steady counts ends.Memory rose took large missing = tt

pub rose_later : (before mid now : ℕ) → before ≤ mid → Rose mid now → Rose before now
rose_later before mid now h r = omega arith

took_later : (count before mid now : ℕ) → before ≤ mid → Took count mid now → Took count before now
took_later count before mid now h t = omega arith

-- a refused read after others that left the files
pub refuses_back : (name : List ℕ) (o m : Option Files) (steady mid : Bool) (c d : Counts) (end : End ReadEnd)
    → ToldBoth o m SameFiles → mid ≡ steady → c.read_before ≤ d.read_before → d.read_now ≡ c.read_now
    → c.taken_before ≤ d.taken_before → d.taken_now ≡ c.taken_now → Refuses name m mid d end → Refuses name o steady c end
refuses_back name o m steady mid c d (ends.Fault reads.Fault) same es h e f g w = (
  subst (λ (x : ℕ). Rose c.read_before x) e (rose_later c.read_before d.read_before d.read_now h w.0),
  λ sure. told_back o m (λ held. held name ≡ None) (λ held. held name ≡ None) SameFiles (λ a b s n. sym (s name) ∙ n) same (w.1 (subst IsTrue (sym es) sure)),
)
refuses_back name o m steady mid c d (ends.Fault reads.TooLarge) same es h e f g w = (
  subst (λ (x : ℕ). Took (2 ^ 26 + 1) c.taken_before x) g (took_later (2 ^ 26 + 1) c.taken_before d.taken_before d.taken_now f w.0),
  told_back o m (λ held. IsTooLarge held name) (λ held. IsTooLarge held name) SameFiles (λ a b s l. (l.0, sym (s name) ∙ l.1, l.2)) same w.1,
)
refuses_back name o m steady mid c d ends.Memory same es h e f g w = tt

-- a list around one of its elements
split_at : {X : Type 0} (xs : List X) (i : ℕ) (d : X) → i < length xs → xs ≡ take i xs ++ get_or xs i d ∷ drop (suc i) xs
split_at {X} xs i d inside = sym (take-append-drop i xs) ∙ ap (λ (l : List X). take i xs ++ l) (drop-cons xs i d inside)

take_more : {X : Type 0} (xs : List X) (i : ℕ) (d : X) → i < length xs → take (suc i) xs ≡ take i xs ++ get_or xs i d ∷ []
take_more [] i d inside = absurd (omega arith)
take_more (y ∷ ys) zero d inside = refl
take_more {X} (y ∷ ys) (suc i) d inside =
    let within : i < length ys = omega arith in
    ap (λ (l : List X). y ∷ l) (take_more ys i d within)

take_next : {X : Type 0} (xs : List X) (i : ℕ) (d : X) → i < length xs → take (i + 1) xs ≡ take i xs ++ get_or xs i d ∷ []
take_next {X} xs i d inside = ap (λ (n : ℕ). take n xs) (add-one i) ∙ take_more xs i d inside

all_append : {X : Type 0} (P : X → Type 0) (xs ys : List X) → AllByRecursion P xs → AllByRecursion P ys → AllByRecursion P (xs ++ ys)
all_append P [] ys all more = more
all_append P (x ∷ xs) ys all more = (all.0, all_append P xs ys all.1 more)

module _ (asked : Picked) where
  files_as-append : (xs ys : List Role) → files_as asked (xs ++ ys) ≡ files_as asked xs ++ files_as asked ys
  files_as-append [] ys = refl
  files_as-append (x ∷ xs) ys =
      ap (λ (l : List InputFile). input_as x (asked.file x) ++ l) (files_as-append xs ys)
      ∙ sym (append_assoc (input_as x (asked.file x)) (files_as asked xs) (files_as asked ys))

  no_more : (role : Role) → files_as asked (role ∷ []) ≡ input_as role (asked.file role)
  no_more role = append-nil (input_as role (asked.file role))

  -- one role more can be read
  readable_more : (held : Files) (roles : List Role) (role : Role) → AllReadable (files_as asked roles) held
      → AllReadable (input_as role (asked.file role)) held → AllReadable (files_as asked (roles ++ role ∷ [])) held
  readable_more held roles role all one =
      let both : AllReadable (files_as asked roles ++ input_as role (asked.file role)) held
      = all_append (λ (input : InputFile). IsReadable held input.1) (files_as asked roles) (input_as role (asked.file role)) all one in
      subst (λ (l : List InputFile). AllReadable l held)
      (ap (λ (l : List InputFile). files_as asked roles ++ l) (sym (no_more role)) ∙ sym (files_as-append roles (role ∷ []))) both

  same_role_is : (a b : Role) → same_role a b ≡ true → a ≡ b
  same_role_is In In e = refl
  same_role_is Patch Patch e = refl
  same_role_is Layout Layout e = refl
  same_role_is Input Input e = refl
  same_role_is In Patch e = cc
  same_role_is In Layout e = cc
  same_role_is In Input e = cc
  same_role_is Patch In e = cc
  same_role_is Patch Layout e = cc
  same_role_is Patch Input e = cc
  same_role_is Layout In e = cc
  same_role_is Layout Patch e = cc
  same_role_is Layout Input e = cc
  same_role_is Input In e = cc
  same_role_is Input Patch e = cc
  same_role_is Input Layout e = cc

  or_false : (b : Bool) → (b || false) ≡ b
  or_false true = refl
  or_false false = refl

  among-append : (roles : List Role) (role other : Role) → among (roles ++ role ∷ []) other ≡ (among roles other || same_role role other)
  among-append roles role other =
      list_any-append (λ (r : Role). same_role r other) roles (role ∷ [])
      ∙ ap (λ (b : Bool). among roles other || b) (or_false (same_role role other))

  held_more : (held : Files) (role other : Role) (here before : Bool) → same_role role other ≡ here
      → cond here (contents_of asked held role) (cond before (contents_of asked held other) None) ≡ cond (before || here) (contents_of asked held other) None
  held_more held role other true true e = ap (contents_of asked held) (same_role_is role other e)
  held_more held role other true false e = ap (contents_of asked held) (same_role_is role other e)
  held_more held role other false true e = refl
  held_more held role other false false e = refl

  -- one role more is held
  holds_more : (held : Files) (roles : List Role) (role : Role) (found : Option (List ℕ)) (old new : declared.Contents) → HoldsAmong asked roles old held
      → found ≡ contents_of asked held role → Puts role found old new → HoldsAmong asked (roles ++ role ∷ []) new held
  holds_more held roles role found old new before e put other =
      put other
      ∙ ap (λ (f : Option (List ℕ)). cond (same_role role other) f (contents_view old other)) e
      ∙ ap (λ (f : Option (List ℕ)). cond (same_role role other) (contents_of asked held role) f) (before other)
      ∙ held_more held role other (same_role role other) (among roles other) refl
      ∙ ap (λ (b : Bool). cond b (contents_of asked held other) None) (sym (among-append roles role other))

  all_among : (role : Role) → among ROLES role ≡ true
  all_among In = refl
  all_among Patch = refl
  all_among Layout = refl
  all_among Input = refl

  -- what holds of files after a call that left them holds before it
  readable_back : (a b : Files) → SameFiles a b → (inputs : List InputFile) → AllReadable inputs b → AllReadable inputs a
  readable_back a b same [] all = tt
  readable_back a b same (input ∷ inputs) all = ((all.0.0, sym (same input.1) ∙ all.0.1, all.0.2), readable_back a b same inputs all.1)

  found_back : (a b : Files) → SameFiles a b → (name : Option (List ℕ)) → option_and_then b name ≡ option_and_then a name
  found_back a b same None = refl
  found_back a b same (Some name) = same name

  module _ (o m : Option Files) (same : ToldBoth o m SameFiles) (i : ℕ) (inside : i < 4) where
    -- after the next role all so far could be read
    pub readable_next : Told o (AllReadable (files_as asked (take i ROLES))) → Told m (AllReadable (input_as (get_or ROLES i In) (asked.file (get_or ROLES i In))))
        → Told o (AllReadable (files_as asked (take (i + 1) ROLES)))
    readable_next all one = told_map2 o _ _ _
        (λ held before next. subst (λ (l : List Role). AllReadable (files_as asked l) held) (sym (take_next ROLES i In inside))
        (readable_more held (take i ROLES) (get_or ROLES i In) before next)) all
        (told_back o m _ _ SameFiles (λ a b s. readable_back a b s (input_as (get_or ROLES i In) (asked.file (get_or ROLES i In)))) same one)

    -- and all so far are held
    pub holds_next : (found : Option (List ℕ)) (old new : declared.Contents) → Told o (HoldsAmong asked (take i ROLES) old)
        → Told m (λ held. found ≡ contents_of asked held (get_or ROLES i In)) → Puts (get_or ROLES i In) found old new
        → Told o (HoldsAmong asked (take (i + 1) ROLES) new)
    holds_next found old new all one put = told_map2 o _ _ _
        (λ held before next. subst (λ (l : List Role). HoldsAmong asked l new held) (sym (take_next ROLES i In inside))
        (holds_more held (take i ROLES) (get_or ROLES i In) found old new before next put)) all
        (told_back o m _ _ SameFiles (λ a b s e. e ∙ found_back a b s (asked.file (get_or ROLES i In))) same one)

  -- the input of one role that wasn't read is the first of all that wasn't
  unread_among : (roles : List Role) (i : ℕ) (role : Role) → roles ≡ take i roles ++ role ∷ drop (suc i) roles
      → (files : Option Files) (steady : Bool) (counts : Counts) (unread : Unread) → Told files (AllReadable (files_as asked (take i roles)))
      → IsUnreadAs asked role files steady counts unread → IsUnread (files_as asked roles) files steady counts unread
  unread_among roles i role split files steady counts unread readable u = record {
    before = files_as asked (take i roles);
    name = u.name;
    after = files_as asked (drop (suc i) roles);
    listed = ap (files_as asked) split
        ∙ files_as-append (take i roles) (role ∷ drop (suc i) roles)
        ∙ ap (λ (l : List InputFile). files_as asked (take i roles) ++ l)
        (ap (λ (o : Option (List ℕ)). input_as role o ++ files_as asked (drop (suc i) roles)) u.named
        ∙ ap (λ (r : Role). (r, u.name) ∷ files_as asked (drop (suc i) roles)) (sym u.same));
    readable = readable;
    refuses = u.refuses;
  }

  -- one that wasn't read after others that left the files
  unread_back : (role : Role) (o m : Option Files) (steady mid : Bool) (c d : Counts) (unread : Unread)
      → ToldBoth o m SameFiles → mid ≡ steady → c.read_before ≤ d.read_before → d.read_now ≡ c.read_now
      → c.taken_before ≤ d.taken_before → d.taken_now ≡ c.taken_now → IsUnreadAs asked role m mid d unread → IsUnreadAs asked role o steady c unread
  unread_back role o m steady mid c d unread same es h e f g u = record {
    name = u.name;
    named = u.named;
    same = u.same;
    refuses = refuses_back u.name o m steady mid c d unread.end same es h e f g u.refuses;
  }

  -- the input of the next role that wasn't read is the first of all that wasn't
  pub unread_next : (o m : Option Files) (steady mid : Bool) (c d : Counts) (unread : Unread) (i : ℕ) → i < 4
      → ToldBoth o m SameFiles → mid ≡ steady → c.read_before ≤ d.read_before → d.read_now ≡ c.read_now
      → c.taken_before ≤ d.taken_before → d.taken_now ≡ c.taken_now → Told o (AllReadable (files_as asked (take i ROLES)))
      → IsUnreadAs asked (get_or ROLES i In) m mid d unread → IsUnread (files_as asked ROLES) o steady c unread
  unread_next o m steady mid c d unread i inside same es h e f g all u =
      unread_among ROLES i (get_or ROLES i In) (split_at ROLES i In inside) o steady c unread all
      (unread_back (get_or ROLES i In) o m steady mid c d unread same es h e f g u)

  -- all roles are held
  pub holds_all : (c : declared.Contents) (held : Files) → HoldsAmong asked ROLES c held → HoldsAll asked c held
  holds_all c held h role = h role ∙ ap (λ (b : Bool). cond b (contents_of asked held role) None) (all_among role)

-- an error that is this one
pub if_err : {A E : Type 0} (r : Result A E) (e : E) (P : E → Type 0) → IsErrAnd r (λ x. x ≡ e) → P e → IfErr r P
if_err (Ok a) e P w h = tt
if_err (Err x) e P w h = subst P (sym w) h
