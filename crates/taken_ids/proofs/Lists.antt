-- Lists made of lists, one element further.
use Rattle.std.proofs.Common.{◌≡◌, ℕ, ◌+◌, ◌<◌, List, [], ◌∷◌, ◌++◌, length, get_or, take, map, drop, Option, sym, ap, ◌∙◌, append-nil}
use Rattle.std.specs.List.{filter_map, flat_map}
use Rattle.std.proofs.lemmas.List.{take_more, map-append}
use Rattle.std.proofs.lemmas.List.Concat.{flat_map-append}
use Rattle.std.proofs.lemmas.List.Elements.{filter_map-append}
use Rattle.sym_expr.specs.declared.program.CodeBlock.{CodeBlock}
use Rattle.block_parts.specs.declared.parts.Part.{Part}
use Rattle.taken_ids.specs.Identifiers.{part_id, part_ids}
use Rattle.block_parts.specs.Parts.{parts}

taken : {X : Type 0} (xs : List X) (k : ℕ) (x : X) → k < length xs → x ≡ get_or xs k x → take (k + 1) xs ≡ take k xs ++ x ∷ []
taken xs k x within is = take_more xs k x within ∙ ap (λ y. take k xs ++ y ∷ []) (sym is)

pub kept_more : {X Y A : Type 0} (f : Y → List A) (h : X → Option Y) (xs : List X) (k : ℕ) (x : X) → k < length xs → x ≡ get_or xs k x
    → flat_map f (filter_map h (take (k + 1) xs)) ≡ flat_map f (filter_map h (take k xs)) ++ flat_map f (filter_map h (x ∷ []))
kept_more f h xs k x within is =
    ap (λ ys. flat_map f (filter_map h ys)) (taken xs k x within is)
    ∙ ap (flat_map f) (filter_map-append h (take k xs) (x ∷ []))
    ∙ flat_map-append f (filter_map h (take k xs)) (filter_map h (x ∷ []))

pub flat_kept_more : {X Y Z A : Type 0} (f : Z → List A) (h : Y → Option Z) (g : X → List Y) (xs : List X) (k : ℕ) (x : X) → k < length xs → x ≡ get_or xs k x
    → flat_map f (filter_map h (flat_map g (take (k + 1) xs))) ≡ flat_map f (filter_map h (flat_map g (take k xs))) ++ flat_map f (filter_map h (g x))
flat_kept_more f h g xs k x within is =
    ap (λ ys. flat_map f (filter_map h (flat_map g ys))) (taken xs k x within is)
    ∙ ap (λ ys. flat_map f (filter_map h ys)) (flat_map-append g (take k xs) (x ∷ []) ∙ ap (λ l. flat_map g (take k xs) ++ l) (append-nil (g x)))
    ∙ ap (flat_map f) (filter_map-append h (flat_map g (take k xs)) (g x))
    ∙ flat_map-append f (filter_map h (flat_map g (take k xs))) (filter_map h (g x))

pub mapped_more : {X Y A : Type 0} (f : Y → A) (g : X → List Y) (xs : List X) (k : ℕ) (x : X) → k < length xs → x ≡ get_or xs k x
    → map f (flat_map g (take (k + 1) xs)) ≡ map f (flat_map g (take k xs)) ++ map f (g x)
mapped_more f g xs k x within is =
    ap (λ ys. map f (flat_map g ys)) (taken xs k x within is)
    ∙ ap (map f) (flat_map-append g (take k xs) (x ∷ []) ∙ ap (λ l. flat_map g (take k xs) ++ l) (append-nil (g x)))
    ∙ map-append f (flat_map g (take k xs)) (g x)

-- a block of one part has no later one
pub no_later : (namespace : List ℕ) (b : CodeBlock) (first : Part) (out : List (List ℕ)) → parts b ≡ first ∷ [] → out ≡ out ++ part_ids namespace b
no_later namespace b first out one = sym (ap (λ (l : List Part). out ++ map (part_id namespace b.id) (drop 1 l)) one ∙ append-nil out)
