-- What inserts bring in a block, one insert further.
use Rattle.std.proofs.Common.{◌≡◌, ℕ, ◌+◌, ◌<◌, Bool, true, false, cond, List, [], ◌∷◌, ◌++◌, length, map, take, get_or, refl, sym, ap, ◌∙◌, append_assoc, append-nil, inl, inr}
use Rattle.std.specs.Prelude.{filter, unwrap_or, Option, Some, None}
use Rattle.std.specs.List.{flat_map}
use Rattle.std.specs.Str.{bytes_eq}
use Rattle.std.proofs.lemmas.Bool.{cases_Bool}
use Rattle.std.proofs.lemmas.List.{take_more, map-append}
use Rattle.std.proofs.lemmas.List.Concat.{flat_map-append}
use Rattle.std.proofs.lemmas.List.Elements.{filter-append}
use Rattle.gt_model.specs.declared.exprs.ExprValue.{ExprValue}
use Rattle.gt_model.specs.declared.modules.Module.{Module}
use Rattle.new_intervals.specs.Bringing.{word_value}
use Rattle.new_intervals.specs.Inserting.{values_among}
use Rattle.rewrite.specs.Exprs.{news_of}
use Rattle.sym_expr.specs.declared.patches.Insert.{Insert}
use Rattle.sym_expr.specs.declared.patches.PatchTable.{PatchTable}
use Rattle.sym_expr.specs.declared.patches.PatchWord.{PatchWord}

-- one word more, in its block and in others
pub value_more : (m : Module) (body : List PatchWord) (k : ℕ) (w : PatchWord) (t : Bool) (before : List (Option ExprValue)) → k < length body → w ≡ get_or body k w
    → (before ++ cond t (map (word_value m) (take k body)) []) ++ cond t (word_value m w ∷ []) [] ≡ before ++ cond t (map (word_value m) (take (k + 1) body)) []
value_more m body k w true before within is =
    append_assoc before (map (word_value m) (take k body)) (word_value m w ∷ [])
    ∙ ap (λ l. before ++ l) (sym (map-append (word_value m) (take k body) (w ∷ [])))
    ∙ ap (λ l. before ++ map (word_value m) l) (sym (take_more body k w within ∙ ap (λ x. take k body ++ x ∷ []) (sym is)))
value_more m body k w false before within is = append-nil (before ++ [])

pub no_values : (m : Module) (t : Bool) (before : List (Option ExprValue)) → before ++ cond t (map (word_value m) []) [] ≡ before
no_values m true before = append-nil before
no_values m false before = append-nil before

abbrev into : List ℕ → Insert → Bool
into block i = bytes_eq i.block block

abbrev brought : Module → Insert → List (Option ExprValue)
brought m i = map (word_value m) i.body

among_one : (m : Module) (i : Insert) (block : List ℕ) → values_among m (i ∷ []) block ≡ cond (bytes_eq i.block block) (brought m i) []
among_one m i block = elim (cases_Bool (bytes_eq i.block block)) [
  | inl h ↦ rw h (append-nil (brought m i))
  | inr h ↦ rw h refl
]

pub values_more : (m : Module) (xs : List Insert) (k : ℕ) (i : Insert) (block : List ℕ) → k < length xs → i ≡ get_or xs k i
    → values_among m (take (k + 1) xs) block ≡ values_among m (take k xs) block ++ cond (bytes_eq i.block block) (map (word_value m) i.body) []
values_more m xs k i block within is =
    ap (λ l. values_among m l block) (take_more xs k i within ∙ ap (λ x. take k xs ++ x ∷ []) (sym is))
    ∙ ap (flat_map (brought m)) (filter-append (into block) (take k xs) (i ∷ []))
    ∙ flat_map-append (brought m) (filter (into block) (take k xs)) (filter (into block) (i ∷ []))
    ∙ ap (λ l. values_among m (take k xs) block ++ l) (among_one m i block)

-- ---- all of them

abbrev put : Insert → List (ℕ × PatchWord)
put i = map (λ (w : PatchWord). (i.offset, w)) i.body

abbrev word : ℕ × PatchWord → PatchWord
word w = w.1

words_put : (offset : ℕ) (ws : List PatchWord) → map word (map (λ (w : PatchWord). (offset, w)) ws) ≡ ws
words_put offset [] = refl
words_put offset (w ∷ ws) = ap (λ l. w ∷ l) (words_put offset ws)

all_of : (m : Module) (is : List Insert) → flat_map (brought m) is ≡ map (word_value m) (map word (flat_map put is))
all_of m [] = refl
all_of m (i ∷ is) =
    ap (λ l. brought m i ++ l) (all_of m is)
    ∙ ap (λ ws. map (word_value m) ws ++ map (word_value m) (map word (flat_map put is))) (sym (words_put i.offset i.body))
    ∙ sym (map-append (word_value m) (map word (put i)) (map word (flat_map put is)))
    ∙ ap (map (word_value m)) (sym (map-append word (put i) (flat_map put is)))

pub values_are : (m : Module) (p : PatchTable) (block : List ℕ) → values_among m p.inserts block ≡ map (word_value m) (news_of p block)
values_are m p block = all_of m (filter (into block) p.inserts)

-- the first value of a block
pub first_value : (old new : Option (List (Option ExprValue))) (t : Bool) (value : Option ExprValue) → (t ≡ true → old ≡ None) → new ≡ cond t (Some (value ∷ [])) old → unwrap_or new [] ≡ unwrap_or old [] ++ cond t (value ∷ []) []
first_value old new true value none is = ap (λ (o : Option (List (Option ExprValue))). unwrap_or o []) is ∙ sym (ap (λ (o : Option (List (Option ExprValue))). unwrap_or o [] ++ value ∷ []) (none refl))
first_value old new false value none is = ap (λ (o : Option (List (Option ExprValue))). unwrap_or o []) is ∙ sym (append-nil (unwrap_or old []))
