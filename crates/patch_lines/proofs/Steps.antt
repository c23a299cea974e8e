-- Steps of the loops over lines.
use Rattle.std.proofs.Common.{◌≡◌, ◌||◌, ℕ, suc, ◌+◌, ◌<◌, ◌≤◌, Bool, true, false, cond, Option, Some, None, List, [], ◌∷◌, ◌++◌, length, take, drop, get_or, refl, sym, ap, ◌∙◌, add-one, arith}
use Rattle.std.specs.Prelude.{filter}
use Rattle.std.specs.List.{flat_map, list_any}
use Rattle.std.specs.Option.{is_some, option_map, option_or}
use Rattle.std.specs.Str.{bytes_eq}
use Rattle.std.proofs.lemmas.Grind.{flat_map-append}
use Rattle.std.proofs.lemmas.List.{append_assoc, length-append, length-take-le, take-append-drop, take_more}
use Rattle.std.proofs.lemmas.List.Elements.{filter-append}
use Rattle.std.proofs.lemmas.List.Folds.{list_any-append}
use Rattle.std.proofs.Math.Seq.{drop-cons}
use mathlib.Core.Path.{fun_ext}
use Rattle.gt_model.specs.declared.modules.Module.{Module}
use Rattle.sym_expr.specs.declared.patches.FunLine.{FunLine}
use Rattle.sym_expr.specs.declared.patches.PatchWord.{PatchWord}
use Rattle.patch_lines.specs.declared.fault.PatchFault.{PatchFault}
use Rattle.patch_lines.specs.declared.fault.PatchReason.{PatchReason}
use Rattle.patch_lines.specs.declared.fault.PatchReason.TheVariants as reasons
use Rattle.asm_read.specs.declared.fault.TextReason.TheVariants as texts
use Rattle.patch_lines.specs.declared.line.PatchLine.{PatchLine}
use Rattle.patch_lines.specs.declared.place.Place.{Place}
use Rattle.patch_lines.specs.Building.{body_parts, body_words, is_end, parts_of_line, words_of_line}
use Rattle.patch_lines.specs.Faults.{fault_behind, first_pass, is_name_in, is_symbol_name, is_taken_behind, is_word, line_fault, line_names, names_in, next_fault, place_at, second_pass, target_fault, words_in}
use Rattle.patch_lines.specs.Places.{after, is_outside, place_behind}

pub taken : {X : Type 0} (xs : List X) (i : ℕ) (x : X) → i < length xs → x ≡ get_or xs i x → take (i + 1) xs ≡ take i xs ++ x ∷ []
taken xs i x lt is = take_more xs i x lt ∙ ap (λ y. take i xs ++ y ∷ []) (sym is)

pub dropped : {X : Type 0} (xs : List X) (i : ℕ) (x : X) → i < length xs → x ≡ get_or xs i x → drop i xs ≡ x ∷ drop (i + 1) xs
dropped xs i x lt is = drop-cons xs i x lt ∙ ap (λ y. y ∷ drop (suc i) xs) (sym is) ∙ ap (λ n. x ∷ drop n xs) (sym (add-one i))

pub append_same : {X : Type 0} (xs ys : List X) → xs ++ ys ≡ xs → ys ≡ []
append_same {X} [] ys e = e
append_same {X} (x ∷ xs) ys e = append_same xs ys cc

-- ---- one line more

pub place-push : (p : Place) (before : List PatchLine) (l : PatchLine) → place_behind p (before ++ l ∷ []) ≡ after (place_behind p before) l
place-push p [] l = refl
place-push p (x ∷ before) l = place-push (after p x) before l

pub name-push : (before : List PatchLine) (l : PatchLine) (q : List ℕ) → is_name_in (before ++ l ∷ []) q ≡ (is_name_in before q || is_name_in (l ∷ []) q)
name-push before l q = ap (list_any (λ n. bytes_eq q n)) (flat_map-append line_names before (l ∷ [])) ∙ list_any-append (λ n. bytes_eq q n) (names_in before) (names_in (l ∷ []))

one_counted : (b : Bool) (l : PatchLine) → length (cond b (l ∷ []) []) ≡ cond b 1 0
one_counted true l = refl
one_counted false l = refl

pub words-push : (before : List PatchLine) (l : PatchLine) → words_in (before ++ l ∷ []) ≡ words_in before + cond (is_word l) 1 0
words-push before l =
    ap length (filter-append is_word before (l ∷ []))
    ∙ length-append (filter is_word before) (filter is_word (l ∷ []))
    ∙ ap (λ n. words_in before + n) (one_counted (is_word l) l)

-- ---- the passes

pub as_next : (m : Module) (before : List PatchLine) (l : PatchLine) (place : Place) (f : List ℕ → Bool) (words : ℕ) → place ≡ place_at before
    → ((q : List ℕ) → f q ≡ is_name_in before q) → words ≡ words_in before → line_fault m place (λ q. is_symbol_name m q || f q) words l ≡ next_fault m before l
as_next m before l place f words at known counted =
    ap (λ p. line_fault m p (λ q. is_symbol_name m q || f q) words l) at
    ∙ ap (λ g. line_fault m (place_at before) g words l) (fun_ext (λ q. ap (λ b. is_symbol_name m q || b) (known q)))
    ∙ ap (λ n. line_fault m (place_at before) (is_taken_behind m before) n l) counted

one_at_most : (b : Bool) → cond b 1 0 ≤ 1
one_at_most true = omega arith
one_at_most false = omega arith

pub words_most : (words n i : ℕ) (l : PatchLine) → n ≡ words + cond (is_word l) 1 0 → words ≤ i → n ≤ i + 1
words_most words n i l is le = let one = one_at_most (is_word l) in omega arith

pass_on : (before : List PatchLine) (r : Option PatchReason) (rest : Option PatchFault) → r ≡ None → option_or (option_map (fault_behind before) r) rest ≡ rest
pass_on before r rest none = ap (λ x. option_or (option_map (fault_behind before) x) rest) none

stop_here : (before : List PatchLine) (r : Option PatchReason) (reason : PatchReason) (rest : Option PatchFault) → r ≡ Some reason → option_or (option_map (fault_behind before) r) rest ≡ Some (fault_behind before reason)
stop_here before r reason rest some = ap (λ x. option_or (option_map (fault_behind before) x) rest) some

module _ (m : Module) (ls : List PatchLine) (i : ℕ) (l : PatchLine) (lt : i < length ls) (is : l ≡ get_or ls i l) where
  pub first_goes_on : next_fault m (take i ls) l ≡ None → first_pass m (take (i + 1) ls) (drop (i + 1) ls) ≡ first_pass m (take i ls) (drop i ls)
  first_goes_on none =
      ap (λ b. first_pass m b (drop (i + 1) ls)) (taken ls i l lt is)
      ∙ sym (pass_on (take i ls) (next_fault m (take i ls) l) (first_pass m (take i ls ++ l ∷ []) (drop (i + 1) ls)) none)
      ∙ ap (first_pass m (take i ls)) (sym (dropped ls i l lt is))

  pub first_stops : (reason : PatchReason) → next_fault m (take i ls) l ≡ Some reason → first_pass m (take i ls) (drop i ls) ≡ Some (record { line = i + 1; reason = reason })
  first_stops reason some =
      ap (first_pass m (take i ls)) (dropped ls i l lt is)
      ∙ stop_here (take i ls) (next_fault m (take i ls) l) reason (first_pass m (take i ls ++ l ∷ []) (drop (i + 1) ls)) some
      ∙ ap (λ n. Some (record { line = n + 1; reason = reason })) (length-take-le i ls (omega arith))

  pub second_goes_on : (f : List ℕ → Bool) → target_fault m f l ≡ None → second_pass m f (take (i + 1) ls) (drop (i + 1) ls) ≡ second_pass m f (take i ls) (drop i ls)
  second_goes_on f none =
      ap (λ b. second_pass m f b (drop (i + 1) ls)) (taken ls i l lt is)
      ∙ sym (pass_on (take i ls) (target_fault m f l) (second_pass m f (take i ls ++ l ∷ []) (drop (i + 1) ls)) none)
      ∙ ap (second_pass m f (take i ls)) (sym (dropped ls i l lt is))

  pub second_stops : (f : List ℕ → Bool) (reason : PatchReason) → target_fault m f l ≡ Some reason → second_pass m f (take i ls) (drop i ls) ≡ Some (record { line = i + 1; reason = reason })
  second_stops f reason some =
      ap (second_pass m f (take i ls)) (dropped ls i l lt is)
      ∙ stop_here (take i ls) (target_fault m f l) reason (second_pass m f (take i ls ++ l ∷ []) (drop (i + 1) ls)) some
      ∙ ap (λ n. Some (record { line = n + 1; reason = reason })) (length-take-le i ls (omega arith))

  -- ---- bodies

  pub words_go_on : (f : List ℕ → Bool) (words : List PatchWord) → is_end l ≡ false → (words ++ words_of_line m f l) ++ body_words m f (drop (i + 1) ls) ≡ words ++ body_words m f (drop i ls)
  words_go_on f words going =
      append_assoc words (words_of_line m f l) (body_words m f (drop (i + 1) ls))
      ∙ ap (λ b. words ++ cond b [] (words_of_line m f l ++ body_words m f (drop (i + 1) ls))) (sym going)
      ∙ ap (λ d. words ++ body_words m f d) (sym (dropped ls i l lt is))

  pub words_end : (f : List ℕ → Bool) → is_end l ≡ true → body_words m f (drop i ls) ≡ []
  words_end f ended = ap (body_words m f) (dropped ls i l lt is) ∙ ap (λ b. cond b [] (words_of_line m f l ++ body_words m f (drop (i + 1) ls))) ended

  pub parts_go_on : (f : List ℕ → Bool) (parts : List FunLine) → is_end l ≡ false → (parts ++ parts_of_line m f l) ++ body_parts m f (drop (i + 1) ls) ≡ parts ++ body_parts m f (drop i ls)
  parts_go_on f parts going =
      append_assoc parts (parts_of_line m f l) (body_parts m f (drop (i + 1) ls))
      ∙ ap (λ b. parts ++ cond b [] (parts_of_line m f l ++ body_parts m f (drop (i + 1) ls))) (sym going)
      ∙ ap (λ d. parts ++ body_parts m f d) (sym (dropped ls i l lt is))

  pub parts_end : (f : List ℕ → Bool) → is_end l ≡ true → body_parts m f (drop i ls) ≡ []
  parts_end f ended = ap (body_parts m f) (dropped ls i l lt is) ∙ ap (λ b. cond b [] (parts_of_line m f l ++ body_parts m f (drop (i + 1) ls))) ended

-- at the end of the lines
pub first_ends : (m : Module) (ls : List PatchLine) (i : ℕ) (place : Place) (outside : Bool) → take i ls ≡ ls → place ≡ place_at (take i ls) → is_outside place ≡ outside
    → first_pass m (take i ls) (drop i ls) ≡ cond outside None (Some (fault_behind (take i ls) (reasons.Text texts.Syntax)))
first_ends m ls i place outside all at is =
    let none : drop i ls ≡ [] = append_same (take i ls) (drop i ls) (take-append-drop i ls ∙ sym all) in
    ap (first_pass m (take i ls)) none
    ∙ ap (λ p. cond (is_outside p) None (Some (fault_behind (take i ls) (reasons.Text texts.Syntax)))) (sym at)
    ∙ ap (λ b. cond b None (Some (fault_behind (take i ls) (reasons.Text texts.Syntax)))) is

pub second_ends : (m : Module) (f : List ℕ → Bool) (ls : List PatchLine) (i : ℕ) → take i ls ≡ ls → second_pass m f (take i ls) (drop i ls) ≡ None
second_ends m f ls i all = ap (second_pass m f (take i ls)) (append_same (take i ls) (drop i ls) (take-append-drop i ls ∙ sym all))

pub length_taken : (ls : List PatchLine) (i number : ℕ) → take i ls ≡ ls → length ls ≤ i → i ≤ length ls → number ≡ i → length (take i ls) ≡ number
length_taken ls i number all past within is = let same = ap length all in omega arith
