-- Where the words of inserts lead, one insert further.
use Rattle.std.proofs.Common.{◌≡◌, ℕ, ◌+◌, ◌<◌, Bool, true, false, cond, List, [], ◌∷◌, ◌++◌, length, map, take, get_or, Option, None, Some, refl, sym, ap, ◌∙◌, append-nil, inl, inr}
use Rattle.std.specs.Prelude.{filter, unwrap_or}
use Rattle.std.specs.List.{flat_map}
use Rattle.std.specs.Str.{bytes_eq}
use Rattle.std.proofs.lemmas.Bool.{cases_Bool, cond-true, cond-false}
use Rattle.std.proofs.lemmas.List.{take_more, map-append}
use Rattle.std.proofs.lemmas.List.Concat.{flat_map-append}
use Rattle.std.proofs.lemmas.List.Elements.{filter-append}
use Rattle.std.proofs.lemmas.Slice.Eq.{bytes_eq-Decides}
use Rattle.indexmap.specs.IndexMap.{get}
use Rattle.gt_model.specs.declared.modules.Module.{Module}
use Rattle.new_edges.specs.declared.new_end.Branch.{Branch}
use Rattle.new_edges.specs.Knowing.{Branches, branches_among, branches_in, news_among}
use Rattle.new_edges.specs.NewEnds.{branch_of}
use Rattle.sym_expr.specs.declared.patches.Insert.{Insert}
use Rattle.sym_expr.specs.declared.patches.PatchTable.{PatchTable}
use Rattle.sym_expr.specs.declared.patches.PatchWord.{PatchWord}

abbrev put : Insert → List (ℕ × PatchWord)
put i = map (λ (w : PatchWord). (i.offset, w)) i.body

abbrev second : ℕ × PatchWord → PatchWord
second w = w.1

abbrev into : List ℕ → Insert → Bool
into block i = bytes_eq i.block block

news_split : (xs ys : List Insert) (block : List ℕ) → news_among (xs ++ ys) block ≡ news_among xs block ++ news_among ys block
news_split xs ys block =
    ap (λ l. map second (flat_map put l)) (filter-append (into block) xs ys)
    ∙ ap (map second) (flat_map-append put (filter (into block) xs) (filter (into block) ys))
    ∙ map-append second (flat_map put (filter (into block) xs)) (flat_map put (filter (into block) ys))

words_put : (offset : ℕ) (ws : List PatchWord) → map second (map (λ (w : PatchWord). (offset, w)) ws) ≡ ws
words_put offset [] = refl
words_put offset (w ∷ ws) = ap (λ l. w ∷ l) (words_put offset ws)

news_one : (i : Insert) (block : List ℕ) → news_among (i ∷ []) block ≡ cond (bytes_eq i.block block) i.body []
news_one i block = elim (cases_Bool (bytes_eq i.block block)) [
  | inl h ↦ rw h (ap (map second) (append-nil (put i)) ∙ words_put i.offset i.body)
  | inr h ↦ rw h refl
]

pub inserts_more : (m : Module) (p : PatchTable) (xs : List Insert) (k : ℕ) (i : Insert) (block : List ℕ) → k < length xs → i ≡ get_or xs k i
    → branches_among m p (take (k + 1) xs) block ≡ branches_among m p (take k xs) block ++ branches_among m p (i ∷ []) block
inserts_more m p xs k i block within is =
    ap (λ l. branches_among m p l block) (take_more xs k i within ∙ ap (λ x. take k xs ++ x ∷ []) (sym is))
    ∙ ap (map (branch_of m p)) (news_split (take k xs) (i ∷ []) block)
    ∙ map-append (branch_of m p) (news_among (take k xs) block) (news_among (i ∷ []) block)

-- the words of an insert so far
abbrev pub so_far : Insert → List PatchWord → Insert
so_far i body = record { block = i.block; offset = i.offset; body = body }

both_put : (m : Module) (p : PatchTable) (t : Bool) (xs ys : List PatchWord) → map (branch_of m p) (cond t (xs ++ ys) []) ≡ map (branch_of m p) (cond t xs []) ++ map (branch_of m p) (cond t ys [])
both_put m p true xs ys = map-append (branch_of m p) xs ys
both_put m p false xs ys = refl

one_put : (m : Module) (p : PatchTable) (t : Bool) (w : PatchWord) → map (branch_of m p) (cond t (w ∷ []) []) ≡ cond t (branch_of m p w ∷ []) []
one_put m p true w = refl
one_put m p false w = refl

pub word_more : (m : Module) (p : PatchTable) (i : Insert) (body : List PatchWord) (k : ℕ) (w : PatchWord) (block : List ℕ) → k < length body → w ≡ get_or body k w
    → branches_among m p (so_far i (take (k + 1) body) ∷ []) block ≡ branches_among m p (so_far i (take k body) ∷ []) block ++ cond (bytes_eq i.block block) (branch_of m p w ∷ []) []
word_more m p i body k w block within is =
    let t = bytes_eq i.block block in
    ap (map (branch_of m p)) (news_one (so_far i (take (k + 1) body)) block)
    ∙ ap (λ l. map (branch_of m p) (cond t l [])) (take_more body k w within ∙ ap (λ x. take k body ++ x ∷ []) (sym is))
    ∙ both_put m p t (take k body) (w ∷ [])
    ∙ ap (λ l. l ++ map (branch_of m p) (cond t (w ∷ []) [])) (ap (map (branch_of m p)) (sym (news_one (so_far i (take k body)) block)))
    ∙ ap (λ l. branches_among m p (so_far i (take k body) ∷ []) block ++ l) (one_put m p t w)

pub no_words : (m : Module) (p : PatchTable) (i : Insert) (block : List ℕ) → branches_among m p (so_far i [] ∷ []) block ≡ []
no_words m p i block = ap (map (branch_of m p)) (news_one (so_far i []) block) ∙ none (bytes_eq i.block block)
  where
    none : (t : Bool) → map (branch_of m p) (cond t [] []) ≡ []
    none true = refl
    none false = refl

-- the first branch of a block
pub put_first : (old mid new : Branches) (block : List ℕ) (branch : Option Branch) (v : List (Option Branch)) → get bytes_eq old block ≡ None → mid ≡ old → ((q : List ℕ) → get bytes_eq new q ≡ cond (bytes_eq block q) (Some v) (get bytes_eq mid q)) → v ≡ branch ∷ []
    → (id : List ℕ) → branches_in new id ≡ branches_in old id ++ cond (bytes_eq block id) (branch ∷ []) []
put_first old mid new block branch v none same given is id =
    let put : (q : List ℕ) → get bytes_eq new q ≡ cond (bytes_eq block q) (Some v) (get bytes_eq old q) = λ q. given q ∙ ap (λ (x : Branches). cond (bytes_eq block q) (Some v) (get bytes_eq x q)) same in
    elim (cases_Bool (bytes_eq block id)) [
      | inl h ↦
          let here : get bytes_eq old id ≡ None = ap (get bytes_eq old) (sym ((bytes_eq-Decides block id).0 h)) ∙ none in
          ap (λ o. unwrap_or o []) (put id ∙ cond-true (bytes_eq block id) (Some v) (get bytes_eq old id) h)
          ∙ is
          ∙ sym (ap (λ o. unwrap_or o [] ++ cond (bytes_eq block id) (branch ∷ []) []) here ∙ cond-true (bytes_eq block id) (branch ∷ []) [] h)
      | inr h ↦
          ap (λ o. unwrap_or o []) (put id ∙ cond-false (bytes_eq block id) (Some v) (get bytes_eq old id) h)
          ∙ sym (ap (λ l. branches_in old id ++ l) (cond-false (bytes_eq block id) (branch ∷ []) [] h) ∙ append-nil (branches_in old id))
    ]
