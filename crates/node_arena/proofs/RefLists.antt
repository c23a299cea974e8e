-- The references of nodes in order.
use Rattle.std.proofs.Common.{◌≡◌, ℕ, ◌+◌, List, [], ◌∷◌, ◌++◌, length, map, sym, ap, ◌∙◌, arith, append_assoc, append-nil}
use Rattle.std.specs.List.{flat_map}
use Rattle.node_arena.specs.declared.ids.NodeRef.{NodeRef}
use Rattle.node_arena.specs.declared.ids.NodeRef.TheVariants as refs
use Rattle.node_arena.specs.declared.nodes.ModuleNode.{ModuleNode}
use Rattle.node_arena.specs.Arenas.{Arenas}
use Rattle.node_arena.specs.Refs.{module_refs, refs_from, section_refs}

pub refs_from-more : (g : Arenas) (m k : ℕ) (xs : List ModuleNode) (x : ModuleNode) → m + length xs ≡ k → refs_from g m (xs ++ x ∷ []) ≡ refs_from g m xs ++ module_refs g k x
refs_from-more g m k [] x e = let f : m ≡ k = omega arith in rw f (append-nil (module_refs g k x))
refs_from-more g m k (y ∷ ys) x e =
    ap (λ l. module_refs g m y ++ l) (refs_from-more g (m + 1) k ys x (omega arith)) ∙ sym (append_assoc (module_refs g m y) (refs_from g (m + 1) ys) (module_refs g k x))

-- one more module, whose references are pushed part by part
pub refs-pushed : (g : Arenas) (k : ℕ) (xs : List ModuleNode) (n : ModuleNode) (a b c d e : List NodeRef) → length xs ≡ k
    → a ≡ refs.Ir ∷ refs_from g 0 xs → b ≡ a ++ refs.Module (record { index = k }) ∷ [] → c ≡ b ++ map (λ id. refs.Proxy id) n.proxies
    → d ≡ c ++ map (λ id. refs.Symbol id) n.symbols → e ≡ d ++ flat_map (section_refs g) n.sections
    → e ≡ refs.Ir ∷ refs_from g 0 (xs ++ n ∷ [])
refs-pushed g k xs n a b c d e len pa pb pc pd pe =
    let ps : List NodeRef = map (λ id. refs.Proxy id) n.proxies in
    let ss : List NodeRef = map (λ id. refs.Symbol id) n.symbols in
    let ts : List NodeRef = flat_map (section_refs g) n.sections in
    let joined : (((a ++ refs.Module (record { index = k }) ∷ []) ++ ps) ++ ss) ++ ts ≡ a ++ module_refs g k n = simp append_assoc in
    pe ∙ ap (λ l. l ++ ts) (pd ∙ ap (λ l. l ++ ss) (pc ∙ ap (λ l. l ++ ps) pb)) ∙ joined ∙ ap (λ l. l ++ module_refs g k n) pa
    ∙ ap (λ l. refs.Ir ∷ l) (sym (refs_from-more g 0 k xs n (omega arith)))
