-- The nodes of a rewritten module: those that it had, the parts of its blocks, and those of functions.
use Rattle.std.proofs.Common.{◌≡◌, ℕ, inl, inr, Bool, true, false, List, [], ◌∷◌, ◌++◌, length, map, refl, sym, ap, subst, ◌∙◌, arith}
use Rattle.std.specs.Prelude.{◌==◌, if◌then◌else◌}
use Rattle.std.specs.List.{flat_map, list_any}
use Rattle.std.proofs.lemmas.Bool.{eqb-true, false≢true, not-false, or_parts}
use Rattle.block_parts.specs.declared.parts.Part.{Part}
use Rattle.block_parts.specs.Parts.{part, parts}
use Rattle.block_parts.specs.Words.{patched_words}
use Rattle.gt_model.specs.declared.intervals.Block.{Block}
use Rattle.gt_model.specs.declared.intervals.Body.{Body}
use Rattle.gt_model.specs.declared.intervals.Body.TheVariants as bodies
use Rattle.gt_model.specs.declared.intervals.Interval.{Interval}
use Rattle.gt_model.specs.declared.modules.Module.{Module}
use Rattle.gt_model.specs.declared.modules.Section.{Section}
use Rattle.gt_model.specs.declared.symbols.Payload.{Payload}
use Rattle.gt_model.specs.declared.symbols.Symbol.{Symbol}
use Rattle.gt_model.specs.Nodes.{Node, AModule, AProxy, ASymbol, AnInterval, ASection, CodeBlock as CodeKind, node, block_nodes, interval_nodes, section_nodes, module_nodes}
use Rattle.rewrite.specs.Blocks.{new_block, new_blocks, part_block}
use Rattle.rewrite.specs.Functions.{function_interval}
use Rattle.rewrite.specs.Identifiers.{part_id}
use Rattle.rewrite.specs.Offsets.{new_start}
use Rattle.rewrite.specs.Rewritten.{has_words, new_interval, new_intervals, new_section, rewritten_module, stretched}
use Rattle.rewrite.specs.Symbols.{end_payload, function_symbols, moved_symbol, new_symbols}
use Rattle.sym_expr.specs.declared.patches.PatchTable.{PatchTable}
use Rattle.sym_expr.specs.declared.patches.PatchWord.{PatchWord}
use Rattle.sym_expr.specs.declared.program.CodeBlock.{CodeBlock}
use Rattle.sym_expr.specs.declared.program.Program.{Program}
use Rattle.sym_expr.specs.declared.program.Stretch.{Stretch}
use Rattle.sym_expr.specs.declared.program.Word.{Word}
use Rattle.sym_expr.specs.Modules.{id_of, is_code, is_loaded}
use Rattle.sym_expr.specs.Patches.{inserted_in}
use Rattle.sym_expr.specs.Program.{code_block, has_entry, patched_word, program, stretch}
use Rattle.sym_expr.specs.Tables.{Tables}
use Rattle.rewritten_links.proofs.Lists.{In, in_back, in_either, in_flat, in_front, in_map, out_flat, out_map}
use Rattle.rewritten_links.proofs.Parts.{ids_of_parts}

-- ---- all elements of one list are in another

abbrev pub Sub : {A : Type 0} → List A → List A → Type 0
Sub {A} xs ys = (x : A) → In x xs → In x ys

pub sub_next : {A : Type 0} (z : A) (xs ys : List A) → Sub xs ys → Sub (z ∷ xs) (z ∷ ys)
sub_next z xs ys h x (inl e) = inl e
sub_next z xs ys h x (inr k) = inr (h x k)

pub sub_both : {A : Type 0} (xs us ys vs : List A) → Sub xs us → Sub ys vs → Sub (xs ++ ys) (us ++ vs)
sub_both xs us ys vs h k x l =
    elim (in_either x xs ys l) [
      | inl a ↦ in_front x us vs (h x a)
      | inr b ↦ in_back x us vs (k x b)
    ]

-- each element's part is in that of some other's
pub sub_flat : {X Y A : Type 0} (f : X → List A) (g : Y → List A) (change : X → Y) (xs : List X) (ys : List Y) → ((x : X) → In x xs → In (change x) ys × Sub (f x) (g (change x))) → Sub (flat_map f xs) (flat_map g ys)
sub_flat f g change xs ys h a k =
    let x = out_flat f a xs k in
    let there = h x.0 x.1 in
    in_flat g (change x.0) a ys there.0 (there.1 a x.2)

-- ---- blocks

part_there : (k : ℕ) (m : Module) (block : List ℕ) (decode_mode start : ℕ) (id : List ℕ) (qs : List Part) → In id (map (part_id m block) qs) → In (node id (CodeKind k)) (flat_map (block_nodes k) (map (part_block m block decode_mode start) qs))
part_there k m block decode_mode start id qs h =
    let q = out_map (part_id m block) id qs h in
    in_flat (block_nodes k) (part_block m block decode_mode start q.0) (node id (CodeKind k)) (map (part_block m block decode_mode start) qs) (in_map (part_block m block decode_mode start) q.0 qs q.1)
    (inl (ap (λ x. node x (CodeKind k)) q.2))

module _ (k : ℕ) (m : Module) (p : PatchTable) (i : Interval) (s : Stretch) where
  -- a code block has its identifier and those of its parts
  code_parts : (offset : ℕ) (uuid : List ℕ) (size decode_mode : ℕ) (id : List ℕ)
      → let b : Block = record { offset = offset; body = bodies.Code uuid size decode_mode } in In id (map (part_id m uuid) (parts (code_block m p i b))) → In (node id (CodeKind k)) (flat_map (block_nodes k) (new_block m p i s b))
  code_parts offset uuid size decode_mode id h =
      let b : Block = record { offset = offset; body = bodies.Code uuid size decode_mode } in
      part_there k m uuid decode_mode (new_start s uuid) id (parts (code_block m p i b)) h

  body_kept : (offset : ℕ) (x : Body) → let b : Block = record { offset = offset; body = x } in Sub (block_nodes k b) (flat_map (block_nodes k) (new_block m p i s b))
  body_kept offset bodies.Bare n h = absurd h
  body_kept offset (bodies.Code uuid size decode_mode) n (inl e) =
      let b : Block = record { offset = offset; body = bodies.Code uuid size decode_mode } in
      let there : In uuid (map (part_id m uuid) (parts (code_block m p i b))) = subst (In uuid) (sym (ids_of_parts m (code_block m p i b))) (inl refl) in
      subst (λ (y : Node). In y (flat_map (block_nodes k) (new_block m p i s b))) (sym e) (code_parts offset uuid size decode_mode uuid there)
  body_kept offset (bodies.Code uuid size decode_mode) n (inr h) = absurd h
  body_kept offset (bodies.Data uuid size) n (inl e) = inl e
  body_kept offset (bodies.Data uuid size) n (inr h) = absurd h

  blocks_kept : Sub (flat_map (block_nodes k) i.blocks) (flat_map (block_nodes k) (new_blocks m p i s))
  blocks_kept n h =
      let b = out_flat (block_nodes k) n i.blocks h in
      let new = out_flat (block_nodes k) n (new_block m p i s b.0) (body_kept b.0.offset b.0.body n b.2) in
      in_flat (block_nodes k) new.0 n (new_blocks m p i s) (in_flat (new_block m p i s) b.0 new.0 i.blocks b.1 new.1) new.2

  part_of_body : (offset : ℕ) (x : Body) (id : List ℕ)
      → let b : Block = record { offset = offset; body = x } in is_code b ≡ true → In id (map (part_id m (id_of b)) (parts (code_block m p i b))) → In (node id (CodeKind k)) (flat_map (block_nodes k) (new_block m p i s b))
  part_of_body offset bodies.Bare id e h = absurd (false≢true e)
  part_of_body offset (bodies.Code uuid size decode_mode) id e h = code_parts offset uuid size decode_mode id h
  part_of_body offset (bodies.Data uuid size) id e h = absurd (false≢true e)

  part_among : (b : Block) (id : List ℕ) → In b i.blocks → is_code b ≡ true → In id (map (part_id m (id_of b)) (parts (code_block m p i b))) → In (node id (CodeKind k)) (flat_map (block_nodes k) (new_blocks m p i s))
  part_among b id h e l =
      let new = out_flat (block_nodes k) (node id (CodeKind k)) (new_block m p i s b) (part_of_body b.offset b.body id e l) in
      in_flat (block_nodes k) new.0 (node id (CodeKind k)) (new_blocks m p i s) (in_flat (new_block m p i s) b new.0 i.blocks h new.1) new.2

-- ---- intervals

either_kept : (k : ℕ) (m : Module) (p : PatchTable) (i : Interval) (s : Stretch) (x : Bool) → Sub (interval_nodes k i) (interval_nodes k (if x then stretched m p i s else i))
either_kept k m p i s true = sub_next (node i.uuid AnInterval) (flat_map (block_nodes k) i.blocks) (flat_map (block_nodes k) (new_blocks m p i s)) (blocks_kept k m p i s)
either_kept k m p i s false = λ n h. h

pub interval_kept : (k : ℕ) (m : Module) (t : Tables) (p : PatchTable) (i : Interval) → Sub (interval_nodes k i) (interval_nodes k (new_interval m t p i))
interval_kept k m t p i = either_kept k m p i (stretch m t p i) (list_any (has_words p) i.blocks)

-- a block in which nothing is inserted is one part
abbrev pub AreWhole : Type 0
AreWhole = (b : CodeBlock) → b.inserted ≡ [] → parts b ≡ part 0 (patched_words b) ∷ []

code_node : (k offset : ℕ) (x : Body) → let b : Block = record { offset = offset; body = x } in is_code b ≡ true → In (node (id_of b) (CodeKind k)) (block_nodes k b)
code_node k offset bodies.Bare e = absurd (false≢true e)
code_node k offset (bodies.Code uuid size decode_mode) e = inl refl
code_node k offset (bodies.Data uuid size) e = absurd (false≢true e)

empty : {A : Type 0} (xs : List A) → length xs ≡ 0 → xs ≡ []
empty [] e = refl
empty (x ∷ xs) e = absurd (omega (arith, e))

pub no_words : (m : Module) (p : PatchTable) (i : Interval) (b : Block) → has_words p b ≡ false → (code_block m p i b).inserted ≡ []
no_words m p i b h =
    ap (map (λ (w : ℕ × PatchWord). let v : ℕ × Word = (w.0, patched_word m p w.1) in v)) (empty (inserted_in p (id_of b)) (eqb-true (length (inserted_in p (id_of b))) 0 (not-false (length (inserted_in p (id_of b)) == 0) h)))

pub none_has : (p : PatchTable) (b : Block) (bs : List Block) → list_any (has_words p) bs ≡ false → In b bs → has_words p b ≡ false
none_has p b [] h k = absurd k
none_has p b (c ∷ bs) h (inl e) = ap (has_words p) e ∙ (or_parts (has_words p c) (list_any (has_words p) bs) h).0
none_has p b (c ∷ bs) h (inr k) = none_has p b bs (or_parts (has_words p c) (list_any (has_words p) bs) h).1 k

only_one : (id other : List ℕ) → In id (other ∷ []) → id ≡ other
only_one id other (inl e) = e
only_one id other (inr h) = absurd h

either_part : AreWhole → (k : ℕ) (m : Module) (p : PatchTable) (i : Interval) (s : Stretch) (b : Block) (id : List ℕ) (x : Bool) → list_any (has_words p) i.blocks ≡ x → In b i.blocks → is_code b ≡ true → In id (map (part_id m (id_of b)) (parts (code_block m p i b)))
    → In (node id (CodeKind k)) (interval_nodes k (if x then stretched m p i s else i))
either_part whole k m p i s b id true h l e n = inr (part_among k m p i s b id l e n)
either_part whole k m p i s b id false h l e n =
    let one = whole (code_block m p i b) (no_words m p i b (none_has p b i.blocks h l)) in
    let same : id ≡ id_of b = only_one id (id_of b) (subst (λ qs. In id (map (part_id m (id_of b)) qs)) one n) in
    inr (in_flat (block_nodes k) b (node id (CodeKind k)) i.blocks l (subst (λ z. In (node z (CodeKind k)) (block_nodes k b)) (sym same) (code_node k b.offset b.body e)))

-- each part of a code block of the interval is a code block
pub part_kept : AreWhole → (k : ℕ) (m : Module) (t : Tables) (p : PatchTable) (i : Interval) (b : Block) (id : List ℕ) → In b i.blocks → is_code b ≡ true → In id (map (part_id m (id_of b)) (parts (code_block m p i b)))
    → In (node id (CodeKind k)) (interval_nodes k (new_interval m t p i))
part_kept whole k m t p i b id h e l = either_part whole k m p i (stretch m t p i) b id (list_any (has_words p) i.blocks) refl h e l

-- ---- sections

loaded_kept : (k : ℕ) (m : Module) (t : Tables) (p : PatchTable) (s : Section) → Sub (flat_map (interval_nodes k) s.intervals) (flat_map (interval_nodes k) (new_intervals m t p s))
loaded_kept k m t p s =
    sub_flat (interval_nodes k) (interval_nodes k) (new_interval m t p) s.intervals (new_intervals m t p s) (λ i h. (
      in_front (new_interval m t p i) (map (new_interval m t p) s.intervals) (if has_entry m s then map (function_interval m) p.functions else []) (in_map (new_interval m t p) i s.intervals h),
      interval_kept k m t p i,
    ))

either_section : (k : ℕ) (m : Module) (t : Tables) (p : PatchTable) (s : Section) (x : Bool) → Sub (section_nodes k s) (section_nodes k (if x then record s { intervals = new_intervals m t p s } else s))
either_section k m t p s true = sub_next (node s.uuid ASection) (flat_map (interval_nodes k) s.intervals) (flat_map (interval_nodes k) (new_intervals m t p s)) (loaded_kept k m t p s)
either_section k m t p s false = λ n h. h

section_kept : (k : ℕ) (m : Module) (t : Tables) (p : PatchTable) (s : Section) → Sub (section_nodes k s) (section_nodes k (new_section m t p s))
section_kept k m t p s = either_section k m t p s (is_loaded s)

abbrev symbol_node : ℕ → Symbol → Node
symbol_node k s = node s.uuid (ASymbol k)

moved_node : (k : ℕ) (s : Symbol) (y : Payload) (x : Bool) → symbol_node k s ≡ symbol_node k (if x then record s { payload = y } else s)
moved_node k s y true = refl
moved_node k s y false = refl

either_symbol : (k : ℕ) (m : Module) (g : Program) (s : Symbol) → symbol_node k s ≡ symbol_node k (moved_symbol m g s)
either_symbol k m g s = moved_node k s (end_payload m g s.payload) s.at_end

symbols_kept : (k : ℕ) (m : Module) (g : Program) (p : PatchTable) → Sub (map (symbol_node k) m.symbols) (map (symbol_node k) (new_symbols m g p))
symbols_kept k m g p n h =
    let s = out_map (symbol_node k) n m.symbols h in
    subst (λ (y : Node). In y (map (symbol_node k) (new_symbols m g p))) (sym (s.2 ∙ either_symbol k m g s.0))
    (in_map (symbol_node k) (moved_symbol m g s.0) (new_symbols m g p) (in_front (moved_symbol m g s.0) (map (moved_symbol m g) m.symbols) (flat_map (function_symbols m) p.functions) (in_map (moved_symbol m g) s.0 m.symbols s.1)))

pub module_kept : (k : ℕ) (m : Module) (t : Tables) (p : PatchTable) → Sub (module_nodes k m) (module_nodes k (rewritten_module m t p))
module_kept k m t p =
    let proxies : List Node = map (λ id. node id (AProxy k)) m.proxies in
    let old : List Node = map (symbol_node k) m.symbols in
    let new : List Node = map (symbol_node k) (new_symbols m (program m t p) p) in
    sub_next (node m.uuid AModule) ((proxies ++ old) ++ flat_map (section_nodes k) m.sections) ((proxies ++ new) ++ flat_map (section_nodes k) (map (new_section m t p) m.sections))
    (sub_both (proxies ++ old) (proxies ++ new) (flat_map (section_nodes k) m.sections) (flat_map (section_nodes k) (map (new_section m t p) m.sections))
    (sub_both proxies proxies old new (λ n h. h) (symbols_kept k m (program m t p) p))
    (sub_flat (section_nodes k) (section_nodes k) (new_section m t p) m.sections (map (new_section m t p) m.sections) (λ s h. (in_map (new_section m t p) s m.sections h, section_kept k m t p s))))
