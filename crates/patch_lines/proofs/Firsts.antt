-- What lines without a fault have.
use Rattle.std.proofs.Common.{◌≡◌, ◌≢◌, ℕ, ◌+◌, ◌<◌, ◌≤◌, Bool, true, false, not, cond, ◌||◌, Option, Some, None, List, [], ◌∷◌, ◌++◌, length, refl, sym, ap, subst, ◌∙◌, arith}
use Rattle.std.specs.Prelude.{filter, nat_le}
use Rattle.std.specs.List.{AllByRecursion, AllPairs}
use Rattle.std.specs.Option.{option_map, option_or}
use Rattle.std.specs.Str.{bytes_eq}
use Rattle.std.proofs.lemmas.Bool.Decides.{nat_tests}
use Rattle.std.proofs.lemmas.List.Elements.{All-from_recursion}
use Rattle.std.proofs.lemmas.List.Kept.{AllPairs-cons}
use Rattle.asm_read.specs.declared.fault.TextReason.{TextReason}
use Rattle.gt_model.specs.declared.modules.Module.{Module}
use Rattle.patch_lines.specs.declared.fault.PatchFault.{PatchFault}
use Rattle.patch_lines.specs.declared.fault.PatchReason.{PatchReason}
use Rattle.patch_lines.specs.declared.fault.PatchReason.TheVariants as reasons
use Rattle.patch_lines.specs.declared.line.PatchLine.{PatchLine}
use Rattle.patch_lines.specs.declared.line.PatchLine.TheVariants as lines
use Rattle.patch_lines.specs.declared.place.Place.{Place}
use Rattle.patch_lines.specs.declared.place.Place.TheVariants as places
use Rattle.patch_lines.specs.Faults.{fault_behind, first_pass, is_name_in, is_symbol_name, is_taken_behind, is_word, line_names, meaning_fault, most_words, names_in, next_fault, place_at, second_pass, target_fault, words_in}
use Rattle.patch_lines.specs.Places.{has_place, is_outside, text_reason}
use Rattle.patch_lines.proofs.Every.{every_append, every_weaker}
use Rattle.patch_lines.proofs.Spots.{other_bytes}
use Rattle.patch_lines.proofs.Steps.{name-push, place-push, words-push}
use Rattle.patch_lines.proofs.Structure.{Placed}

pub no_or : {T : Type 0} (a b : Option T) → option_or a b ≡ None → (a ≡ None) × (b ≡ None)
no_or None b h = (refl, h)
no_or (Some x) b h = cc

no_map : {A B : Type 0} (g : A → B) (o : Option A) → option_map g o ≡ None → o ≡ None
no_map g None h = refl
no_map g (Some x) h = cc

neither : (a b : Bool) → (a || b) ≡ false → (a ≡ false) × (b ≡ false)
neither true b h = cc
neither false b h = (refl, h)

pub unless : {A : Type 0} (b : Bool) (x : A) → ◌≡◌ {A = Option A} (cond b (Some x) None) None → b ≡ false
unless true x h = cc
unless false x h = refl

standing : (b : Bool) (r : TextReason) (o : Option TextReason) → ◌≡◌ {A = Option TextReason} (cond (not b) (Some r) o) None → b ≡ true
standing true r o h = refl
standing false r o h = cc

ended : (b : Bool) (f : PatchFault) → ◌≡◌ {A = Option PatchFault} (cond b None (Some f)) None → b ≡ true
ended true f h = refl
ended false f h = cc

-- what a line without a fault has, and those behind it
record Passed (m : Module) (before : List PatchLine) (l : PatchLine) (ls : List PatchLine) : Type 0 where
  placed : has_place (place_at before) l ≡ true
  meaning : meaning_fault m (is_taken_behind m before) (words_in before) l ≡ None
  rest : first_pass m (before ++ l ∷ []) ls ≡ None

passed : (m : Module) (before : List PatchLine) (l : PatchLine) (ls : List PatchLine) → first_pass m before (l ∷ ls) ≡ None → Passed m before l ls
passed m before l ls h =
    let parts = no_or (option_map (fault_behind before) (next_fault m before l)) (first_pass m (before ++ l ∷ []) ls) h in
    let both = no_or (option_map (λ (r : TextReason). reasons.Text r) (text_reason (place_at before) l)) (meaning_fault m (is_taken_behind m before) (words_in before) l) (no_map (fault_behind before) (next_fault m before l) parts.0) in
    record {
      placed = standing (has_place (place_at before) l) _ _ (no_map (λ (r : TextReason). reasons.Text r) (text_reason (place_at before) l) both.0);
      meaning = both.1;
      rest = parts.1;
    }

pub placed_behind : (m : Module) (before ls : List PatchLine) → first_pass m before ls ≡ None → Placed (place_at before) ls
placed_behind m before [] h = ended (is_outside (place_at before)) _ h
placed_behind m before (l ∷ ls) h =
    let pass = passed m before l ls h in
    (pass.placed, subst (λ p. Placed p ls) (place-push places.Outside before l) (placed_behind m (before ++ l ∷ []) ls pass.rest))

-- ---- names

names_free : (m : Module) (is_taken : List ℕ → Bool) (words : ℕ) (l : PatchLine) → meaning_fault m is_taken words l ≡ None → AllByRecursion (λ n. is_taken n ≡ false) (line_names l)
names_free m is_taken words lines.Blank h = tt
names_free m is_taken words (lines.Insert spot offset) h = tt
names_free m is_taken words (lines.Function name) h = (unless (is_taken name) reasons.NameTaken h, tt)
names_free m is_taken words (lines.Label name) h = (unless (is_taken name) reasons.NameTaken h, tt)
names_free m is_taken words (lines.Word word sum) h = tt
names_free m is_taken words lines.End h = tt
names_free m is_taken words lines.UnfitInsert h = tt
names_free m is_taken words lines.UnfitWord h = tt
names_free m is_taken words lines.Other h = tt

-- neither a symbol's name nor that of a line before
abbrev pub IsFresh : Module → List PatchLine → List ℕ → Type 0
IsFresh m before n = (is_symbol_name m n ≡ false) × (is_name_in before n ≡ false)

pub fresh : (m : Module) (before ls : List PatchLine) → first_pass m before ls ≡ None → AllByRecursion (IsFresh m before) (names_in ls)
fresh m before [] h = tt
fresh m before (l ∷ ls) h =
    let pass = passed m before l ls h in
    every_append (IsFresh m before) (line_names l) (names_in ls)
    (every_weaker (λ n. is_taken_behind m before n ≡ false) (IsFresh m before) (λ n e. neither (is_symbol_name m n) (is_name_in before n) e) (line_names l) (names_free m (is_taken_behind m before) (words_in before) l pass.meaning))
    (every_weaker (IsFresh m (before ++ l ∷ [])) (IsFresh m before) (λ n e. (e.0, (neither (is_name_in before n) (is_name_in (l ∷ []) n) (sym (name-push before l n) ∙ e.1)).0)) (names_in ls) (fresh m (before ++ l ∷ []) ls pass.rest))

-- the names behind a line that brings this one are others
others : (m : Module) (before : List PatchLine) (l : PatchLine) (name : List ℕ) (ls : List PatchLine) → line_names l ≡ name ∷ [] → first_pass m (before ++ l ∷ []) ls ≡ None → AllByRecursion (λ n. name ≢ n) (names_in ls)
others m before l name ls is h =
    every_weaker (IsFresh m (before ++ l ∷ [])) (λ n. name ≢ n)
    (λ n e same. other_bytes n name (neither (bytes_eq n name) false (one n (neither (is_name_in before n) (is_name_in (l ∷ []) n) (sym (name-push before l n) ∙ e.1)).1)).0 (sym same))
    (names_in ls) (fresh m (before ++ l ∷ []) ls h)
  where
    one : (n : List ℕ) → is_name_in (l ∷ []) n ≡ false → (bytes_eq n name || false) ≡ false
    one n e = let q = e in rw (is) at q

distinct_with : (m : Module) (before : List PatchLine) (l : PatchLine) (ls : List PatchLine) → first_pass m (before ++ l ∷ []) ls ≡ None → AllPairs (λ (a b : List ℕ). a ≢ b) (names_in ls) → AllPairs (λ (a b : List ℕ). a ≢ b) (names_in (l ∷ ls))
distinct_with m before lines.Blank ls h rest = rest
distinct_with m before (lines.Insert spot offset) ls h rest = rest
distinct_with m before (lines.Function name) ls h rest = AllPairs-cons (λ (a b : List ℕ). a ≢ b) name (names_in ls) (All-from_recursion (λ n. name ≢ n) (names_in ls) (others m before (lines.Function name) name ls refl h)) rest
distinct_with m before (lines.Label name) ls h rest = AllPairs-cons (λ (a b : List ℕ). a ≢ b) name (names_in ls) (All-from_recursion (λ n. name ≢ n) (names_in ls) (others m before (lines.Label name) name ls refl h)) rest
distinct_with m before (lines.Word word sum) ls h rest = rest
distinct_with m before lines.End ls h rest = rest
distinct_with m before lines.UnfitInsert ls h rest = rest
distinct_with m before lines.UnfitWord ls h rest = rest
distinct_with m before lines.Other ls h rest = rest

pub distinct : (m : Module) (before ls : List PatchLine) → first_pass m before ls ≡ None → AllPairs (λ (a b : List ℕ). a ≢ b) (names_in ls)
distinct m before [] h = λ i j d below within. absurd (omega arith)
distinct m before (l ∷ ls) h = let pass = passed m before l ls h in distinct_with m before l ls pass.rest (distinct m (before ++ l ∷ []) ls pass.rest)

-- ---- instructions

room : (m : Module) (is_taken : List ℕ → Bool) (words : ℕ) (l : PatchLine) → meaning_fault m is_taken words l ≡ None → words ≤ most_words → words + cond (is_word l) 1 0 ≤ most_words
room m is_taken words lines.Blank h le = omega arith
room m is_taken words (lines.Insert spot offset) h le = omega arith
room m is_taken words (lines.Function name) h le = omega arith
room m is_taken words (lines.Label name) h le = omega arith
room m is_taken words (lines.Word word sum) h le = let no = unless (nat_le most_words words) reasons.TooMany h in let below : words < most_words = grind (arith, nat_tests) in omega arith
room m is_taken words lines.End h le = omega arith
room m is_taken words lines.UnfitInsert h le = omega arith
room m is_taken words lines.UnfitWord h le = omega arith
room m is_taken words lines.Other h le = omega arith

one_more : (b : Bool) (l : PatchLine) (ls : List PatchLine) → length (cond b (l ∷ ls) ls) ≡ cond b 1 0 + length ls
one_more true l ls = omega arith
one_more false l ls = omega arith

few_behind : (m : Module) (before ls : List PatchLine) → first_pass m before ls ≡ None → words_in before ≤ most_words → words_in before + words_in ls ≤ most_words
few_behind m before [] h le = omega arith
few_behind m before (l ∷ ls) h le =
    let pass = passed m before l ls h in
    let fits = room m (is_taken_behind m before) (words_in before) l pass.meaning le in
    let pushed = words-push before l in
    let more = one_more (is_word l) l (filter is_word ls) in
    let rest = few_behind m (before ++ l ∷ []) ls pass.rest (omega arith) in
    omega arith

pub few : (m : Module) (ls : List PatchLine) → first_pass m [] ls ≡ None → words_in ls ≤ most_words
few m ls h = let all = few_behind m [] ls h (omega arith) in omega arith

-- ---- targets

pub targets : (m : Module) (f : List ℕ → Bool) (before ls : List PatchLine) → second_pass m f before ls ≡ None → AllByRecursion (λ l. target_fault m f l ≡ None) ls
targets m f before [] h = tt
targets m f before (l ∷ ls) h =
    let parts = no_or (option_map (fault_behind before) (target_fault m f l)) (second_pass m f (before ++ l ∷ []) ls) h in
    (no_map (fault_behind before) (target_fault m f l) parts.0, targets m f (before ++ l ∷ []) ls parts.1)
