-- The identifiers of the nodes of an IR, node by node.
use Rattle.std.proofs.Common.{◌≡◌, ℕ, ◌+◌, List, [], ◌∷◌, ◌++◌, map, refl, ap, ◌∙◌}
use Rattle.std.specs.List.{flat_map}
use Rattle.std.proofs.lemmas.List.{map-append}
use Rattle.gt_model.specs.declared.intervals.Body.{Body}
use Rattle.gt_model.specs.declared.intervals.Body.TheVariants as bodies
use Rattle.gt_model.specs.declared.intervals.Interval.{Interval}
use Rattle.gt_model.specs.declared.ir.Ir.{Ir}
use Rattle.gt_model.specs.declared.modules.Module.{Module}
use Rattle.gt_model.specs.declared.modules.Section.{Section}
use Rattle.gt_model.specs.declared.symbols.Symbol.{Symbol}
use Rattle.gt_model.specs.Nodes.{Node, AProxy, ASymbol, node, nodes, ids, body_nodes, block_nodes, interval_nodes, section_nodes, module_nodes, nodes_from}
use Rattle.taken_ids.specs.NodeIds.{body_ids, block_ids, interval_ids, section_ids, symbol_id, module_ids, ir_ids}

-- where each element's nodes have these identifiers, so have those of all
each : {X : Type 0} (f : X → List Node) (g : X → List (List ℕ)) (xs : List X) → ((x : X) → ids (f x) ≡ g x) → ids (flat_map f xs) ≡ flat_map g xs
each f g [] same = refl
each f g (x ∷ xs) same = map-append (λ (n : Node). n.id) (f x) (flat_map f xs) ∙ ap (λ l. l ++ ids (flat_map f xs)) (same x) ∙ ap (λ l. g x ++ l) (each f g xs same)

of_body : (m : ℕ) (x : Body) → ids (body_nodes m x) ≡ body_ids x
of_body m bodies.Bare = refl
of_body m (bodies.Code uuid size decode_mode) = refl
of_body m (bodies.Data uuid size) = refl

of_interval : (m : ℕ) (i : Interval) → ids (interval_nodes m i) ≡ interval_ids i
of_interval m i = ap (λ l. i.uuid ∷ l) (each (block_nodes m) block_ids i.blocks (λ b. of_body m b.body))

of_section : (m : ℕ) (s : Section) → ids (section_nodes m s) ≡ section_ids s
of_section m s = ap (λ l. s.uuid ∷ l) (each (interval_nodes m) interval_ids s.intervals (of_interval m))

of_proxies : (m : ℕ) (xs : List (List ℕ)) → ids (map (λ id. node id (AProxy m)) xs) ≡ xs
of_proxies m [] = refl
of_proxies m (x ∷ xs) = ap (λ l. x ∷ l) (of_proxies m xs)

of_symbols : (m : ℕ) (xs : List Symbol) → ids (map (λ (s : Symbol). node s.uuid (ASymbol m)) xs) ≡ map symbol_id xs
of_symbols m [] = refl
of_symbols m (x ∷ xs) = ap (λ l. x.uuid ∷ l) (of_symbols m xs)

of_module : (m : ℕ) (x : Module) → ids (module_nodes m x) ≡ module_ids x
of_module m x =
    let proxies : List Node = map (λ id. node id (AProxy m)) x.proxies in
    let symbols : List Node = map (λ (s : Symbol). node s.uuid (ASymbol m)) x.symbols in
    let sections : List Node = flat_map (section_nodes m) x.sections in
    ap (λ l. x.uuid ∷ l)
    (map-append (λ (n : Node). n.id) (proxies ++ symbols) sections
    ∙ ap (λ l. l ++ ids sections) (map-append (λ (n : Node). n.id) proxies symbols ∙ ap (λ l. l ++ ids symbols) (of_proxies m x.proxies) ∙ ap (λ l. x.proxies ++ l) (of_symbols m x.symbols))
    ∙ ap (λ l. (x.proxies ++ map symbol_id x.symbols) ++ l) (each (section_nodes m) section_ids x.sections (of_section m)))

of_modules : (m : ℕ) (xs : List Module) → ids (nodes_from m xs) ≡ flat_map module_ids xs
of_modules m [] = refl
of_modules m (x ∷ xs) =
    map-append (λ (n : Node). n.id) (module_nodes m x) (nodes_from (m + 1) xs)
    ∙ ap (λ l. l ++ ids (nodes_from (m + 1) xs)) (of_module m x) ∙ ap (λ l. module_ids x ++ l) (of_modules (m + 1) xs)

pub of_ir : (ir : Ir) → ids (nodes ir) ≡ ir_ids ir
of_ir ir = ap (λ l. ir.uuid ∷ l) (of_modules 0 ir.modules)
