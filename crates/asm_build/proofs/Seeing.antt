-- What was seen of one line more.
use Rattle.std.proofs.Common.{◌≡◌, ℕ, Bool, true, false, not, ◌||◌, cond, Option, Some, None, List, [], ◌∷◌, ◌++◌, inl, inr, refl, sym, ap, ◌∙◌}
use Rattle.std.specs.List.{fold, flat_map, list_any}
use Rattle.std.specs.Option.{is_some, option_or}
use Rattle.std.specs.Str.{bytes_eq}
use Rattle.std.proofs.lemmas.Bool.{cases_Bool, cond-true}
use Rattle.std.proofs.lemmas.List.Concat.{flat_map-append}
use Rattle.std.proofs.lemmas.List.Folds.{list_any-append}
use Rattle.std.proofs.lemmas.List.Sums.{fold-append}
use Rattle.asm_read.specs.declared.fault.TextReason.TheVariants as reasons
use Rattle.asm_lines.specs.declared.line.AsmLine.{AsmLine}
use Rattle.asm_lines.specs.declared.line.AsmLine.TheVariants as lines
use Rattle.asm_lines.specs.declared.line.AsmName.{AsmName}
use Rattle.asm_modules.specs.declared.module.AsmAt.{AsmAt}
use Rattle.asm_modules.specs.declared.place.Place.{Place}
use Rattle.asm_modules.specs.declared.place.Place.TheVariants as places
use Rattle.asm_modules.specs.Faults.{is_entry, is_id_in, is_label_in, is_second, line_fault, line_ids, line_labels, next_fault, same_label}
use Rattle.asm_modules.specs.Modules.{entry_at, entry_behind}
use Rattle.asm_modules.specs.Places.{after, can_enter, is_ahead, is_inside, may_stand, place_at}
use Rattle.asm_build.specs.declared.seen.Seen.{Seen}
use Rattle.asm_build.specs.Kept.{Sees, has_id, has_label}

-- ---- one line more

place_more : (before : List AsmLine) (l : AsmLine) → place_at (before ++ l ∷ []) ≡ after (place_at before) l
place_more before l = fold-append after places.Ahead before (l ∷ [])

id_more : (before : List AsmLine) (l : AsmLine) (id : List ℕ) → is_id_in (before ++ l ∷ []) id ≡ (is_id_in before id || is_id_in (l ∷ []) id)
id_more before l id =
    ap (list_any (bytes_eq id)) (flat_map-append line_ids before (l ∷ []))
    ∙ list_any-append (bytes_eq id) (flat_map line_ids before) (flat_map line_ids (l ∷ []))

label_more : (before : List AsmLine) (l : AsmLine) (name : AsmName) → is_label_in (before ++ l ∷ []) name ≡ (is_label_in before name || is_label_in (l ∷ []) name)
label_more before l name =
    ap (list_any (same_label name)) (flat_map-append line_labels before (l ∷ []))
    ∙ list_any-append (same_label name) (flat_map line_labels before) (flat_map line_labels (l ∷ []))

or_none : (o : Option AsmAt) → option_or o None ≡ o
or_none None = refl
or_none (Some x) = refl

or_assoc : (a b c : Option AsmAt) → option_or a (option_or b c) ≡ option_or (option_or a b) c
or_assoc None b c = refl
or_assoc (Some x) b c = refl

some_or : (a b : Option AsmAt) → is_some (option_or a b) ≡ (is_some a || is_some b)
some_or None b = refl
some_or (Some x) b = refl

entry_more : (place : Place) (before : List AsmLine) (l : AsmLine) → entry_behind place (before ++ l ∷ []) ≡ option_or (entry_behind place before) (entry_at (fold after place before) l)
entry_more place [] l = or_none (entry_at place l)
entry_more place (k ∷ before) l =
    ap (option_or (entry_at place k)) (entry_more (after place k) before l)
    ∙ or_assoc (entry_at place k) (entry_behind (after place k) before) (entry_at (fold after (after place k) before) l)

-- a line that may stand there is the entry where it gives one
is_entered : (place : Place) (l : AsmLine) → may_stand place l ≡ true → is_some (entry_at place l) ≡ list_any is_entry (l ∷ [])
is_entered places.Ahead lines.Blank h = refl
is_entered places.Ahead (lines.Set name value) h = refl
is_entered places.Ahead (lines.Section name) h = refl
is_entered places.Ahead (lines.Interval uuid align residue) h = refl
is_entered places.Ahead (lines.Label name) h = refl
is_entered places.Ahead lines.Entry h = h
is_entered places.Ahead (lines.Item item) h = refl
is_entered places.Section lines.Blank h = refl
is_entered places.Section (lines.Set name value) h = refl
is_entered places.Section (lines.Section name) h = refl
is_entered places.Section (lines.Interval uuid align residue) h = refl
is_entered places.Section (lines.Label name) h = refl
is_entered places.Section lines.Entry h = h
is_entered places.Section (lines.Item item) h = refl
is_entered (places.Inside uuid align offset) lines.Blank h = refl
is_entered (places.Inside uuid align offset) (lines.Set name value) h = refl
is_entered (places.Inside uuid align offset) (lines.Section name) h = refl
is_entered (places.Inside uuid align offset) (lines.Interval id new residue) h = refl
is_entered (places.Inside uuid align offset) (lines.Label name) h = refl
is_entered (places.Inside uuid align offset) lines.Entry h = refl
is_entered (places.Inside uuid align offset) (lines.Item item) h = refl

-- ---- faults

-- a line without a fault may stand where it stands
stands : (place : Place) (is_id : List ℕ → Bool) (entered : Bool) (is_label : AsmName → Bool) (l : AsmLine) → line_fault place is_id entered is_label l ≡ None → may_stand place l ≡ true
stands place is_id entered is_label l none =
    elim (cases_Bool (may_stand place l)) [
      | inl may ↦ may
      | inr mayn ↦
          let bad : (not (may_stand place l) || is_second is_id entered l) ≡ true = ap (λ b. not b || is_second is_id entered l) mayn in
          let clash : Some reasons.Directive ≡ None =
          sym (cond-true (not (may_stand place l) || is_second is_id entered l) (Some reasons.Directive) (cond (list_any is_label (line_labels l)) (Some reasons.LabelTwice) None) bad) ∙ none in
          cc
    ]

-- the same labels and identifiers make the same fault
same_fault : (place : Place) (f g : List ℕ → Bool) (e d : Bool) (u v : AsmName → Bool) (l : AsmLine) → ((q : List ℕ) → f q ≡ g q) → e ≡ d → ((q : AsmName) → u q ≡ v q)
    → line_fault place f e u l ≡ line_fault place g d v l
same_fault place f g e d u v lines.Blank ids entered labels = refl
same_fault place f g e d u v (lines.Set name value) ids entered labels =
    ap (λ b. cond (not (is_ahead place) || false) (Some reasons.Directive) (cond (b || false) (Some reasons.LabelTwice) None)) (labels name)
same_fault place f g e d u v (lines.Section name) ids entered labels = refl
same_fault place f g e d u v (lines.Interval uuid align residue) ids entered labels =
    ap (λ b. cond (not (not (is_ahead place)) || b) (Some reasons.Directive) None) (ids uuid)
same_fault place f g e d u v (lines.Label name) ids entered labels =
    ap (λ b. cond (not (is_inside place) || false) (Some reasons.Directive) (cond (b || false) (Some reasons.LabelTwice) None)) (labels name)
same_fault place f g e d u v lines.Entry ids entered labels =
    ap (λ b. cond (not (can_enter place) || b) (Some reasons.Directive) None) entered
same_fault place f g e d u v (lines.Item item) ids entered labels = refl

-- what was seen tells the fault of the next line
pub seen_fault : (seen : Seen) (before : List AsmLine) (l : AsmLine) → Sees seen before → line_fault seen.place (has_id seen.ids) (is_some seen.entry) (has_label seen.labels) l ≡ next_fault before l
seen_fault seen before l sees =
    ap (λ p. line_fault p (has_id seen.ids) (is_some seen.entry) (has_label seen.labels) l) sees.place
    ∙ same_fault (place_at before) (has_id seen.ids) (is_id_in before) (is_some seen.entry) (list_any is_entry before) (has_label seen.labels) (is_label_in before) l sees.ids sees.entered sees.labels

pub see_more : (seen more : Seen) (before : List AsmLine) (l : AsmLine) → Sees seen before → next_fault before l ≡ None → more.place ≡ after seen.place l
    → ((id : List ℕ) → has_id more.ids id ≡ (has_id seen.ids id || is_id_in (l ∷ []) id))
    → ((name : AsmName) → has_label more.labels name ≡ (has_label seen.labels name || is_label_in (l ∷ []) name))
    → more.entry ≡ option_or seen.entry (entry_at seen.place l) → Sees more (before ++ l ∷ [])
see_more seen more before l sees none place ids labels entry =
    let stand = stands (place_at before) (is_id_in before) (list_any is_entry before) (is_label_in before) l none in
    let entry_is : more.entry ≡ option_or seen.entry (entry_at (place_at before) l) = entry ∙ ap (λ p. option_or seen.entry (entry_at p l)) sees.place in
    record {
      place = place ∙ ap (λ p. after p l) sees.place ∙ sym (place_more before l);
      ids = λ id. ids id ∙ ap (λ b. b || is_id_in (l ∷ []) id) (sees.ids id) ∙ sym (id_more before l id);
      entered =
          ap is_some entry_is
          ∙ some_or seen.entry (entry_at (place_at before) l)
          ∙ ap (λ b. b || is_some (entry_at (place_at before) l)) sees.entered
          ∙ ap (λ b. list_any is_entry before || b) (is_entered (place_at before) l stand)
          ∙ sym (list_any-append is_entry before (l ∷ []));
      entry = entry_is ∙ ap (λ o. option_or o (entry_at (place_at before) l)) sees.entry ∙ sym (entry_more places.Ahead before l);
      labels = λ name. labels name ∙ ap (λ b. b || is_label_in (l ∷ []) name) (sees.labels name) ∙ sym (label_more before l name);
    }
