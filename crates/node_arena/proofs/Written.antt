-- What the loops that write references add.
use Rattle.std.proofs.Common.{◌≡◌, ℕ, ◌+◌, ◌<◌, List, [], ◌∷◌, ◌++◌, length, get_or, set, map, take, sym, ap, ◌∙◌, arith}
use Rattle.std.specs.List.{range_with_len}
use Rattle.std.proofs.Math.Seq.{map-set_same}
use Rattle.std.proofs.lemmas.List.{map-append, take_more, take_more_set}
use Rattle.node_arena.specs.declared.ids.EdgeId.{EdgeId}
use Rattle.node_arena.specs.Linking.{edge_places}
use Rattle.node_arena.proofs.Lists.{range-append}

pub edges-more : (ids new : List EdgeId) (k : ℕ) → new ≡ ids ++ record { index = k } ∷ [] → edge_places ids ≡ range_with_len 0 k → edge_places new ≡ range_with_len 0 (k + 1)
edges-more ids new k e h =
    let zero_k : k ≡ 0 + k = omega arith in
    ap edge_places e ∙ map-append (λ (id : EdgeId). id.index) ids (record { index = k } ∷ []) ∙ (λ i. h i ++ zero_k i ∷ [])
    ∙ sym (range-append 0 k 1)

-- one more node, with what it refers to: nothing else of it is written
module _ {N X P : Type 0} (loose : N → N) (part : N → P) (found : X → P) (items : List N) (xs : List X) (k : ℕ) (n d : N) (x : X)
    (within : k < length items) (inside : k < length xs) where
  pub same-nodes : loose n ≡ loose (get_or items k d) → map loose (set items k n) ≡ map loose items
  same-nodes e = map-set_same loose items k n d e

  pub part-written : part n ≡ found (get_or xs k x) → map part (take k items) ≡ map found (take k xs) → map part (take (k + 1) (set items k n)) ≡ map found (take (k + 1) xs)
  part-written e h =
      ap (map part) (take_more_set items k n within) ∙ map-append part (take k items) (n ∷ []) ∙ (λ i. h i ++ e i ∷ [])
      ∙ sym (ap (map found) (take_more xs k x inside) ∙ map-append found (take k xs) (get_or xs k x ∷ []))
