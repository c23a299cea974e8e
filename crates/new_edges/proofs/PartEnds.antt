-- The edges of a block's parts, one part further.
use Rattle.std.proofs.Common.{◌≡◌, ℕ, zero, suc, ◌+◌, ◌-◌, ◌<◌, List, [], ◌∷◌, ◌++◌, length, get_or, drop, Option, refl, sym, ap, subst, ◌∙◌, append_assoc, arith}
use Rattle.std.specs.Prelude.{slice_get}
use Rattle.std.specs.List.{flat_map}
use Rattle.std.proofs.lemmas.List.{drop_more}
use Rattle.block_parts.specs.declared.parts.Part.{Part}
use Rattle.edge_repair.specs.Edges.{end_edges}
use Rattle.edge_repair.specs.Ends.{first_of, last_of, part_end, part_ends}
use Rattle.gt_model.specs.declared.edges.Edge.{Edge}
use Rattle.gt_model.specs.declared.modules.Module.{Module}
use Rattle.sym_expr.specs.declared.patches.PatchTable.{PatchTable}

first_left : {A : Type 0} (xs : List A) (k : ℕ) → first_of (drop k xs) ≡ slice_get xs k
first_left [] zero = refl
first_left [] (suc k) = refl
first_left (x ∷ xs) zero = refl
first_left (x ∷ xs) (suc k) = first_left xs k

abbrev left : Module → PatchTable → List ℕ → List Part → List Edge
left m p id qs = flat_map (end_edges m p) (part_ends m p id qs)

-- the edges so far, those of a part, and those of the parts behind it
pub part_more : (m : Module) (p : PatchTable) (id : List ℕ) (qs : List Part) (k : ℕ) (q : Part) (before : List Edge) → k < length qs → q ≡ get_or qs k q
    → (before ++ end_edges m p (part_end m p id q (slice_get qs (k + 1)))) ++ left m p id (drop (k + 1) qs) ≡ before ++ left m p id (drop k qs)
part_more m p id qs k q before within is =
    let rest = drop (k + 1) qs in
    ap (λ (o : Option Part). (before ++ end_edges m p (part_end m p id q o)) ++ left m p id rest) (sym (first_left qs (k + 1)))
    ∙ append_assoc before (end_edges m p (part_end m p id q (first_of rest))) (left m p id rest)
    ∙ ap (λ l. before ++ left m p id l) (sym (drop_more qs k q within ∙ ap (λ x. x ∷ rest) (sym is)))

-- the same as a loop comes to it
pub part_step : (m : Module) (p : PatchTable) (id : List ℕ) (items qs : List Part) (k n : ℕ) (q : Part) (before after : List Edge) (next : Option Part) → items ≡ qs → n ≡ k → k < length items → q ≡ get_or items k q
    → next ≡ slice_get qs (n + 1) → after ≡ before ++ end_edges m p (part_end m p id q next) → after ++ left m p id (drop (k + 1) qs) ≡ before ++ left m p id (drop k qs)
part_step m p id items qs k n q before after next same number within is found ends =
    let room : k < length qs = subst (λ (l : List Part). k < length l) same within in
    let here : q ≡ get_or qs k q = is ∙ ap (λ (l : List Part). get_or l k q) same in
    ap (λ l. l ++ left m p id (drop (k + 1) qs)) (ends ∙ ap (λ (o : Option Part). before ++ end_edges m p (part_end m p id q o)) (found ∙ ap (λ (i : ℕ). slice_get qs (i + 1)) number))
    ∙ part_more m p id qs k q before room here

-- the last of several
pub last_at : {A : Type 0} (xs : List A) → slice_get xs (length xs - 1) ≡ last_of xs
last_at [] = refl
last_at (x ∷ []) = refl
last_at (x ∷ y ∷ rest) =
    let e : length (x ∷ y ∷ rest) - 1 ≡ suc (length (y ∷ rest) - 1) = omega arith in
    ap (slice_get (x ∷ y ∷ rest)) e ∙ last_at (y ∷ rest)
