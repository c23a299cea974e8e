-- The ends of edges of a repaired IR are code blocks of the rewritten one.
use Rattle.std.proofs.Common.{◌≡◌, ◌≢◌, ℕ, suc, ◌+◌, ◌<◌, ◌⊎◌, inl, inr, Bool, true, false, List, [], ◌∷◌, length, drop, Option, Some, None, refl, sym, ap, subst, ◌∙◌, arith}
use Rattle.std.specs.Prelude.{find, ◌==◌, if◌then◌else◌}
use Rattle.std.specs.List.{flat_map, filter_map}
use Rattle.std.specs.Option.{option_and_then, option_map, option_map_or, option_to_list}
use Rattle.std.specs.Str.{bytes_eq}
use Rattle.std.proofs.lemmas.Option.{none-some, same_Some}
use Rattle.a64_inst.specs.Kinds.{is_branch}
use Rattle.aux_tables.specs.ModuleTables.{tables_of}
use Rattle.block_parts.specs.declared.parts.Part.{Part}
use Rattle.block_parts.specs.Parts.{parts}
use Rattle.edge_repair.specs.Edges.{branch_edge, edge_from, edge_to, end_edges, has_last, is_fallthrough, later_parts, leaving_part, moved_edge, never_goes_on, new_edges, new_vertices, next_edge, split_edge, word_edge}
use Rattle.edge_repair.specs.Ends.{End, code_block_id, ends, first_of, function_ends, name_start, own_blocks, part_ends, payload_start, place_start, symbol_start, target_start}
use Rattle.edge_repair.specs.Jumps.{branch_label, fallthrough_label, has_row, is_last}
use Rattle.gt_model.specs.declared.edges.Edge.{Edge}
use Rattle.gt_model.specs.declared.intervals.Block.{Block}
use Rattle.gt_model.specs.declared.intervals.Interval.{Interval}
use Rattle.gt_model.specs.declared.ir.Ir.{Ir}
use Rattle.gt_model.specs.declared.modules.Module.{Module}
use Rattle.gt_model.specs.declared.symbols.Payload.{Payload}
use Rattle.gt_model.specs.declared.symbols.Payload.TheVariants as payloads
use Rattle.gt_model.specs.declared.symbols.Symbol.{Symbol}
use Rattle.gt_model.specs.Linked.{Lands}
use Rattle.gt_model.specs.Nodes.{Node, CodeBlock as CodeKind, ids, node, nodes, module_nodes}
use Rattle.gt_model.specs.References.{Vertex, reference}
use Rattle.rewrite.specs.Identifiers.{last_part, part_id}
use Rattle.rewrite.specs.Rewritten.{rewritten_module}
use Rattle.rewrite.specs.Symbols.{holder, is_end}
use Rattle.sym_expr.specs.declared.patches.Function.{Function}
use Rattle.sym_expr.specs.declared.patches.PatchTable.{PatchTable}
use Rattle.sym_expr.specs.declared.patches.PatchWord.{PatchWord}
use Rattle.sym_expr.specs.declared.patches.SymbolName.{SymbolName}
use Rattle.sym_expr.specs.declared.patches.SymbolName.TheVariants as names
use Rattle.sym_expr.specs.declared.program.CodeBlock.{CodeBlock}
use Rattle.sym_expr.specs.Modules.{block_of, blocks_of, has_id, id_of, in_order, is_code, loaded_intervals}
use Rattle.sym_expr.specs.Patches.{FunPlace, function_blocks, name_in}
use Rattle.sym_expr.specs.Points.{code_at, code_blocks, code_of}
use Rattle.sym_expr.specs.Program.{code_block, program, stretch}
use Rattle.sym_expr.specs.TableOk.{block_ids, function_words}
use Rattle.sym_expr.specs.Targets.{function_block_id}
use Rattle.taken_ids.specs.Identifiers.{function_ids, part_ids}
use Rattle.rewritten_links.proofs.Added.{function_block, function_there, has_entry_section, holder_there}
use Rattle.rewritten_links.proofs.Apart.{same_id}
use Rattle.rewritten_links.proofs.Homes.{HasHome, comes_from, out_order, piece_of}
use Rattle.rewritten_links.proofs.Lands.{land, landed}
use Rattle.rewritten_links.proofs.Lists.{In, found_in, in_back, in_either, in_map, of_every, out_filter_map, out_flat, out_map}
use Rattle.rewritten_links.proofs.Parts.{ids_of_parts, last_is_part}
use Rattle.rewritten_links.proofs.Refers.{IsThere, home_part}

-- ---- options that are there

then_some : {A B : Type 0} (f : A → Option B) (o : Option A) (y : B) → option_and_then f o ≡ Some y → (x : A) × (o ≡ Some x) × (f x ≡ Some y)
then_some f None y e = absurd (none-some y e)
then_some f (Some x) y e = (x, refl, e)

map_some : {A B : Type 0} (f : A → B) (o : Option A) (y : B) → option_map f o ≡ Some y → (x : A) × (o ≡ Some x) × (y ≡ f x)
map_some f None y e = absurd (none-some y e)
map_some f (Some x) y e = (x, refl, sym (same_Some (f x) y e))

if_some : {A : Type 0} (b : Bool) (o : Option A) (y : A) → (if b then o else None) ≡ Some y → (b ≡ true) × (o ≡ Some y)
if_some true o y e = (refl, e)
if_some false o y e = absurd (none-some y e)

unless_some : {A : Type 0} (b : Bool) (o : Option A) (y : A) → (if b then None else o) ≡ Some y → o ≡ Some y
unless_some true o y e = absurd (none-some y e)
unless_some false o y e = e

of_option : {A : Type 0} (o : Option A) (y : A) → In y (option_to_list o) → o ≡ Some y
of_option None y h = absurd h
of_option (Some x) y (inl e) = ap Some (sym e)
of_option (Some x) y (inr h) = absurd h

first_in : {A : Type 0} (xs : List A) (y : A) → first_of xs ≡ Some y → In y xs
first_in [] y e = absurd (none-some y e)
first_in (x ∷ xs) y e = inl (sym (same_Some x y e))

dropped_in : {A : Type 0} (y : A) (xs : List A) → In y (drop 1 xs) → In y xs
dropped_in y [] h = absurd h
dropped_in y (x ∷ xs) h = inr h

-- the part that an old edge leaves
leaves_part : (b : CodeBlock) (o : Option Part) → ((q : Part) → o ≡ Some q → In q (parts b)) → In (option_map_or (λ (q : Part). q) o (last_part (parts b))) (parts b)
leaves_part b None h = last_is_part b
leaves_part b (Some q) h = h q refl

leaving_in : (b : CodeBlock) → In (leaving_part b) (parts b)
leaving_in b = leaves_part b (find (has_last b) (parts b)) (λ q e. (found_in (has_last b) q (parts b) e).0)

own_home : (m : Module) (p : PatchTable) (b : CodeBlock) → In b (own_blocks m (tables_of m) p) → HasHome m p b
own_home m p b h =
    let i = out_flat (λ (i : Interval). filter_map code_of (stretch m (tables_of m) p i).pieces) b (loaded_intervals m) h in
    let q = out_filter_map code_of b (stretch m (tables_of m) p i.0).pieces i.2 in
    let c = piece_of m (tables_of m) p i.0 0 (in_order i.0.blocks) q.0 b q.1 q.2 in
    record { interval = i.0; loaded = i.1; block = c.0; among = out_order c.0 i.0.blocks c.1; code = c.2.0; is = c.2.1 }

module _ (ir : Ir) (m : Module) (p : PatchTable) (k : ℕ) (new : List Node) (h : IsThere ir m p k new) where
  -- an edge may name it
  abbrev pub Ends : List ℕ → Type 0
  Ends id = (from : List ℕ) → Lands new (reference from Vertex id)

  code_ends : (id : List ℕ) → In (node id (CodeKind k)) (module_nodes k (rewritten_module m (tables_of m) p)) → Ends id
  code_ends id l from = land new h.apart (reference from Vertex id) (node id (CodeKind k)) (h.own (node id (CodeKind k)) l) refl refl

  part_of_home : (b : CodeBlock) (q : Part) → HasHome m p b → In q (parts b) → Ends (part_id m b.id q)
  part_of_home b q home l = code_ends (part_id m b.id q) (home_part ir m p k new h b (part_id m b.id q) home (in_map (part_id m b.id) q (parts b) l))

  block_ends : (i : Interval) (b : Block) → In i (loaded_intervals m) → In b i.blocks → is_code b ≡ true → Ends (id_of b)
  block_ends i b l n code =
      let c = code_block m p i b in
      let home : HasHome m p c = record { interval = i; loaded = l; block = b; among = n; code = code; is = refl } in
      code_ends (id_of b) (home_part ir m p k new h c (id_of b) home (subst (In (id_of b)) (sym (ids_of_parts m c)) (inl refl)))

  function_ends_at : (f : Function) (j : ℕ) → In f p.functions → j < length (function_blocks f) → Ends (function_block_id m f j)
  function_ends_at f j l lt =
      code_ends (function_block_id m f j) (function_there k m (tables_of m) p f (has_entry_section ir m (tables_of m) h.formed) l (node (function_block_id m f j) (CodeKind k)) (function_block k m f j lt))

  holder_ends : (f : Function) (name : List ℕ) (place : FunPlace) → In f p.functions → name_in name f ≡ Some place → Ends (holder m f place)
  holder_ends f name place l e =
      let words = of_every (λ (g : Function). function_words g ≢ []) f p.functions h.accepted.bodies l in
      code_ends (holder m f place) (function_there k m (tables_of m) p f (has_entry_section ir m (tables_of m) h.formed) l (node (holder m f place) (CodeKind k)) (holder_there k m f name place words e))

  -- ---- where new blocks end

  record IsSoundEnd (e : End) : Type 0 where
    pub id : Ends e.id
    pub next : (n : List ℕ) → e.next ≡ Some n → Ends n

  part_sound : (b : CodeBlock) (qs : List Part) → ((q : Part) → In q qs → Ends (part_id m b.id q)) → (e : End) → In e (part_ends m p b.id qs) → IsSoundEnd e
  part_sound b [] good e l = absurd l
  part_sound b (q ∷ qs) good e (inl d) =
      subst IsSoundEnd (sym d)
      (record {
        id = good q (inl refl);
        next = λ n s.
            let r = map_some (part_id m b.id) (first_of qs) n s in
            subst Ends (sym r.2) (good r.0 (inr (first_in qs r.0 r.1)));
      })
  part_sound b (q ∷ qs) good e (inr l) = part_sound b qs (λ r n. good r (inr n)) e l

  next_block : (f : Function) (first : ℕ) (bs : List (List PatchWord)) (n : List ℕ) → ((j : ℕ) → j < suc (length bs) → Ends (function_block_id m f (first + j))) → option_map (λ (others : List PatchWord). function_block_id m f (suc first)) (first_of bs) ≡ Some n → Ends n
  next_block f first [] n good s = absurd (none-some n s)
  next_block f first (b ∷ bs) n good s =
      let same : first + 1 ≡ suc first = omega arith in
      subst Ends (ap (function_block_id m f) same ∙ same_Some (function_block_id m f (suc first)) n s) (good 1 (omega arith))

  function_sound : (f : Function) (first : ℕ) (bs : List (List PatchWord)) → ((j : ℕ) → j < length bs → Ends (function_block_id m f (first + j))) → (e : End) → In e (function_ends m f first bs) → IsSoundEnd e
  function_sound f first [] good e l = absurd l
  function_sound f first (b ∷ bs) good e (inl d) =
      let same : first + 0 ≡ first = omega arith in
      subst IsSoundEnd (sym d) (record { id = subst (λ j. Ends (function_block_id m f j)) same (good 0 (omega arith)); next = λ n s. next_block f first bs n good s })
  function_sound f first (b ∷ bs) good e (inr l) =
      function_sound f (suc first) bs (λ j lt.
      let same : first + suc j ≡ suc first + j = omega arith in
      subst (λ n. Ends (function_block_id m f n)) same (good (suc j) (omega (arith, lt)))) e l

  all_sound : (e : End) → In e (ends m (tables_of m) p) → IsSoundEnd e
  all_sound e l =
      elim (in_either e (flat_map (λ (b : CodeBlock). part_ends m p b.id (parts b)) (own_blocks m (tables_of m) p)) (flat_map (λ (f : Function). function_ends m f 0 (function_blocks f)) p.functions) l) [
        | inl n ↦
            let b = out_flat (λ (b : CodeBlock). part_ends m p b.id (parts b)) e (own_blocks m (tables_of m) p) n in
            part_sound b.0 (parts b.0) (λ q o. part_of_home b.0 q (own_home m p b.0 b.1) o) e b.2
        | inr n ↦
            let f = out_flat (λ (f : Function). function_ends m f 0 (function_blocks f)) e p.functions n in
            function_sound f.0 0 (function_blocks f.0) (λ j lt. let same : j ≡ 0 + j = omega arith in subst (λ n. Ends (function_block_id m f.0 n)) same (function_ends_at f.0 j f.1 lt)) e f.2
      ]

  -- ---- where targets lead

  code_start : (r id : List ℕ) → code_block_id m r ≡ Some id → Ends id
  code_start r id e =
      let b = then_some (λ (b : Block). if is_code b then Some (id_of b) else None) (block_of r (blocks_of (loaded_intervals m))) id e in
      let code = if_some (is_code b.0) (Some (id_of b.0)) id b.2 in
      let found = found_in (has_id r) b.0 (blocks_of (loaded_intervals m)) b.1 in
      let i = out_flat (λ (i : Interval). i.blocks) b.0 (loaded_intervals m) found.0 in
      subst Ends (same_Some (id_of b.0) id code.1) (block_ends i.0 b.0 i.1 i.2 code.0)

  payload_ends : (y : Payload) (id : List ℕ) → payload_start m y ≡ Some id → Ends id
  payload_ends payloads.Nothing id e = absurd (none-some id e)
  payload_ends (payloads.Value value) id e = absurd (none-some id e)
  payload_ends (payloads.Referent r) id e = code_start r id e

  name_ends : (name : SymbolName) (id : List ℕ) → name_start m p name ≡ Some id → Ends id
  name_ends (names.Old symbol) id e =
      let s = then_some (symbol_start m) (find (λ (s : Symbol). bytes_eq s.uuid symbol) m.symbols) id e in
      payload_ends s.0.payload id (unless_some s.0.at_end (payload_start m s.0.payload) id s.2)
  name_ends (names.New name) id e =
      let f = out_filter_map (λ (f : Function). option_and_then (place_start m f) (name_in name f)) id p.functions (first_in (filter_map (λ (f : Function). option_and_then (place_start m f) (name_in name f)) p.functions) id e) in
      let place = then_some (place_start m f.0) (name_in name f.0) id f.2 in
      let same = same_Some (holder m f.0 place.0) id (unless_some (is_end place.0) (Some (holder m f.0 place.0)) id place.2) in
      subst Ends same (holder_ends f.0 name place.0 f.1 place.1)

  -- ---- edges

  -- both ends are there
  abbrev pub IsEdge : Edge → Type 0
  IsEdge e = Ends e.source × Ends e.target

  branch_there : (e : End) (x : Edge) → IsSoundEnd e → branch_edge m p e ≡ Some x → IsEdge x
  branch_there e x good s =
      let w = then_some (word_edge m p e) e.brought x s in
      let branch = if_some (is_branch w.0.word) (option_map (edge_to e (branch_label w.0.word)) (option_and_then (target_start m p) w.0.target)) x w.2 in
      let target = map_some (edge_to e (branch_label w.0.word)) (option_and_then (target_start m p) w.0.target) x branch.1 in
      let t = then_some (target_start m p) w.0.target target.0 target.1 in
      subst IsEdge (sym target.2) (good.id, name_ends t.0.symbol target.0 t.2)

  next_there : (e : End) (x : Edge) → IsSoundEnd e → next_edge e ≡ Some x → IsEdge x
  next_there e x good s =
      let n = map_some (edge_to e fallthrough_label) e.next x (unless_some (option_map_or (has_row is_last) e.word false) (option_map (edge_to e fallthrough_label) e.next) x s) in
      subst IsEdge (sym n.2) (good.id, good.next n.0 n.1)

  pub new_edge : (x : Edge) → In x (new_edges m (tables_of m) p) → IsEdge x
  new_edge x l =
      let e = out_flat (end_edges m p) x (ends m (tables_of m) p) l in
      let good = all_sound e.0 e.1 in
      elim (in_either x (option_to_list (branch_edge m p e.0)) (option_to_list (next_edge e.0)) e.2) [
        | inl n ↦ branch_there e.0 x good (of_option (branch_edge m p e.0) x n)
        | inr n ↦ next_there e.0 x good (of_option (next_edge e.0) x n)
      ]

  split_there : (b : CodeBlock) (e x : Edge) → HasHome m p b → Ends e.target → split_edge m b e ≡ Some x → IsEdge x
  split_there b e x home target s = at (is_fallthrough e) s
    where
      from : (q : Part) → In q (parts b) → Some (edge_from m b e q) ≡ Some x → IsEdge x
      from q l d = subst IsEdge (same_Some (edge_from m b e q) x d) (part_of_home b q home l, target)

      at : (y : Bool) → (if y then (if never_goes_on b then None else Some (edge_from m b e (last_part (parts b)))) else Some (edge_from m b e (leaving_part b))) ≡ Some x → IsEdge x
      at true d = from (last_part (parts b)) (last_is_part b) (unless_some (never_goes_on b) (Some (edge_from m b e (last_part (parts b)))) x d)
      at false d = from (leaving_part b) (leaving_in b) d

  old_home : (b : CodeBlock) (source : List ℕ) → b.id ≡ source → Lands (nodes ir) (reference source Vertex source) → HasHome m p b ⊎ In b.id (flat_map (function_ids m.uuid) p.functions) → HasHome m p b
  old_home b source e old (inl home) = home
  old_home b source e old (inr made) =
      let n = landed (nodes ir) (reference source Vertex source) old in
      let held : In source (ids (nodes ir)) = subst (λ z. In z (ids (nodes ir))) n.2 (in_map (λ (x : Node). x.id) n.0 (nodes ir) n.1) in
      let derived = in_back b.id (flat_map (part_ids m.uuid) (code_blocks (program m (tables_of m) p))) (flat_map (function_ids m.uuid) p.functions) made in
      absurd (h.free.unheld b.id derived (subst (λ z. In z (ids (nodes ir))) (sym e) held))

  moved_at : (e x : Edge) (o : Option CodeBlock) → code_at (program m (tables_of m) p) e.source ≡ o → Lands (nodes ir) (reference e.source Vertex e.source) → IsEdge e
      → option_map_or (λ (b : CodeBlock). if length b.inserted == 0 then Some e else split_edge m b e) o (Some e) ≡ Some x → IsEdge x
  moved_at e x None found old good s = subst IsEdge (same_Some e x s) good
  moved_at e x (Some b) found old good s = at (length b.inserted == 0) s
    where
      at : (y : Bool) → (if y then Some e else split_edge m b e) ≡ Some x → IsEdge x
      at true d = subst IsEdge (same_Some e x d) good
      at false d =
          let one = found_in (λ (c : CodeBlock). bytes_eq c.id e.source) b (code_blocks (program m (tables_of m) p)) found in
          let home = old_home b e.source (same_id b.id e.source one.1) old (comes_from m (tables_of m) p b one.0) in
          split_there b e x home good.1 d

  pub old_edge : (e x : Edge) → ((from : List ℕ) → Lands (nodes ir) (reference from Vertex e.source)) → ((from : List ℕ) → Lands (nodes ir) (reference from Vertex e.target)) → moved_edge m (program m (tables_of m) p) e ≡ Some x → IsEdge x
  old_edge e x source target s =
      moved_at e x (code_at (program m (tables_of m) p) e.source) refl (source e.source) (λ from. h.kept (reference from Vertex e.source) (source from), λ from. h.kept (reference from Vertex e.target) (target from)) s

  -- ---- vertices

  block_among : (f : Function) (first : ℕ) (bs : List (List PatchWord)) (id : List ℕ) → In id (block_ids m f first bs) → (j : ℕ) × (j < length bs) × (id ≡ function_block_id m f (first + j))
  block_among f first [] id l = absurd l
  block_among f first (b ∷ bs) id (inl e) = let same : first ≡ first + 0 = omega arith in (0, omega arith, e ∙ ap (function_block_id m f) same)
  block_among f first (b ∷ bs) id (inr l) =
      let rest = block_among f (suc first) bs id l in
      let same : suc first + rest.0 ≡ first + suc rest.0 = omega arith in
      let lt = rest.1 in
      (suc rest.0, omega (arith, lt), rest.2 ∙ ap (function_block_id m f) same)

  pub new_vertex : (id : List ℕ) → In id (new_vertices m (tables_of m) p) → Ends id
  new_vertex id l =
      elim (in_either id (flat_map (later_parts m) (own_blocks m (tables_of m) p)) (flat_map (λ (f : Function). block_ids m f 0 (function_blocks f)) p.functions) l) [
        | inl n ↦
            let b = out_flat (later_parts m) id (own_blocks m (tables_of m) p) n in
            let q = out_map (part_id m b.0.id) id (drop 1 (parts b.0)) b.2 in
            subst Ends (sym q.2) (part_of_home b.0 q.0 (own_home m p b.0 b.1) (dropped_in q.0 (parts b.0) q.1))
        | inr n ↦
            let f = out_flat (λ (f : Function). block_ids m f 0 (function_blocks f)) id p.functions n in
            let j = block_among f.0 0 (function_blocks f.0) id f.2 in
            let same : j.0 ≡ 0 + j.0 = omega arith in
            subst Ends (sym j.2) (subst (λ n. Ends (function_block_id m f.0 n)) same (function_ends_at f.0 j.0 f.1 j.1))
      ]
