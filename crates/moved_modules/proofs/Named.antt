-- What the words name that inserts put into a block, one insert further.
use Rattle.std.proofs.Common.{◌≡◌, ℕ, ◌+◌, ◌<◌, Bool, true, false, cond, List, [], ◌∷◌, ◌++◌, length, map, take, get_or, refl, sym, ap, ◌∙◌, append-nil, inl, inr}
use Rattle.std.specs.Prelude.{filter, Option, None, Some}
use Rattle.std.specs.Option.{unwrap_or}
use Rattle.std.specs.List.{flat_map}
use Rattle.std.specs.Str.{bytes_eq}
use Rattle.std.proofs.lemmas.Bool.{cases_Bool}
use Rattle.std.proofs.lemmas.List.{take_more, map-append}
use Rattle.std.proofs.lemmas.List.Concat.{flat_map-append}
use Rattle.std.proofs.lemmas.List.Elements.{filter-append}
use Rattle.moved_modules.specs.Targets.{targets_among, targets_in}
use Rattle.module_program.specs.Inserting.{inserted_among}
use Rattle.rewrite.specs.Exprs.{news_of}
use Rattle.sym_expr.specs.declared.patches.Insert.{Insert}
use Rattle.sym_expr.specs.declared.patches.PatchTable.{PatchTable}
use Rattle.sym_expr.specs.declared.patches.PatchTarget.{PatchTarget}
use Rattle.sym_expr.specs.declared.patches.PatchWord.{PatchWord}

abbrev put : Insert → List (ℕ × PatchWord)
put i = map (λ (w : PatchWord). (i.offset, w)) i.body

abbrev into : List ℕ → Insert → Bool
into block i = bytes_eq i.block block

abbrev named : ℕ × PatchWord → Option PatchTarget
named w = w.1.target

among_split : (xs ys : List Insert) (block : List ℕ) → inserted_among (xs ++ ys) block ≡ inserted_among xs block ++ inserted_among ys block
among_split xs ys block = ap (flat_map put) (filter-append (into block) xs ys) ∙ flat_map-append put (filter (into block) xs) (filter (into block) ys)

among_one : (i : Insert) (block : List ℕ) → inserted_among (i ∷ []) block ≡ cond (bytes_eq i.block block) (put i) []
among_one i block = elim (cases_Bool (bytes_eq i.block block)) [
  | inl h ↦ rw h (append-nil (put i))
  | inr h ↦ rw h refl
]

pub targets_more : (xs : List Insert) (k : ℕ) (i : Insert) (block : List ℕ) → k < length xs → i ≡ get_or xs k i
    → targets_among (take (k + 1) xs) block ≡ targets_among (take k xs) block ++ targets_among (i ∷ []) block
targets_more xs k i block within is =
    ap (λ l. targets_among l block) (take_more xs k i within ∙ ap (λ x. take k xs ++ x ∷ []) (sym is))
    ∙ ap (map named) (among_split (take k xs) (i ∷ []) block)
    ∙ map-append named (inserted_among (take k xs) block) (inserted_among (i ∷ []) block)

-- the words of an insert so far
abbrev pub so_far : Insert → List PatchWord → Insert
so_far i body = record { block = i.block; offset = i.offset; body = body }

both_put : (t : Bool) (xs ys : List (ℕ × PatchWord)) → map named (cond t (xs ++ ys) []) ≡ map named (cond t xs []) ++ map named (cond t ys [])
both_put true xs ys = map-append named xs ys
both_put false xs ys = refl

one_put : (t : Bool) (offset : ℕ) (w : PatchWord) → map named (cond t ((offset, w) ∷ []) []) ≡ cond t (w.target ∷ []) []
one_put true offset w = refl
one_put false offset w = refl

pub target_more : (i : Insert) (body : List PatchWord) (k : ℕ) (w : PatchWord) (block : List ℕ) → k < length body → w ≡ get_or body k w
    → targets_among (so_far i (take (k + 1) body) ∷ []) block ≡ targets_among (so_far i (take k body) ∷ []) block ++ cond (bytes_eq i.block block) (w.target ∷ []) []
target_more i body k w block within is =
    let at : PatchWord → ℕ × PatchWord = λ w. (i.offset, w) in
    let more = take_more body k w within ∙ ap (λ x. take k body ++ x ∷ []) (sym is) in
    let t = bytes_eq i.block block in
    ap (map named) (among_one (so_far i (take (k + 1) body)) block)
    ∙ ap (λ l. map named (cond t (map at l) [])) more
    ∙ ap (λ l. map named (cond t l [])) (map-append at (take k body) (w ∷ []))
    ∙ both_put t (map at (take k body)) ((i.offset, w) ∷ [])
    ∙ ap (λ l. l ++ map named (cond t ((i.offset, w) ∷ []) [])) (ap (map named) (sym (among_one (so_far i (take k body)) block)))
    ∙ ap (λ l. targets_among (so_far i (take k body) ∷ []) block ++ l) (one_put t i.offset w)

pub no_targets : (i : Insert) (block : List ℕ) → targets_among (so_far i [] ∷ []) block ≡ []
no_targets i block = ap (map named) (among_one (so_far i []) block) ∙ none (bytes_eq i.block block)
  where
    none : (t : Bool) → map named (cond t [] []) ≡ []
    none true = refl
    none false = refl

map_map : {X Y Z : Type 0} (f : X → Y) (g : Y → Z) (xs : List X) → map g (map f xs) ≡ map (λ x. g (f x)) xs
map_map f g [] = refl
map_map f g (x ∷ xs) = ap (λ l. g (f x) ∷ l) (map_map f g xs)

-- what all inserts put into a block
pub all_targets : (p : PatchTable) (block : List ℕ) → targets_among p.inserts block ≡ targets_in p block
all_targets p block = sym (map_map (λ (w : ℕ × PatchWord). w.1) (λ (w : PatchWord). w.target) (inserted_among p.inserts block))

-- the first target of a block
pub first_target : {T : Type 0} (old new : Option (List T)) (hit : Bool) (target : T) → (hit ≡ true → old ≡ None) → new ≡ cond hit (Some (target ∷ [])) old
    → unwrap_or new [] ≡ unwrap_or old [] ++ cond hit (target ∷ []) []
first_target {T} old new true target none is =
    ap (λ (o : Option (List T)). unwrap_or o []) is ∙ sym (ap (λ (o : Option (List T)). unwrap_or o [] ++ target ∷ []) (none refl))
first_target {T} old new false target none is = ap (λ (o : Option (List T)). unwrap_or o []) is ∙ sym (append-nil (unwrap_or old []))
