-- The loaded blocks of a repaired module: each has the identifier of a block of the module, or one that the patches derive.
use Rattle.std.proofs.Common.{◌≡◌, ℕ, suc, ◌+◌, ◌*◌, ◌⊎◌, inl, inr, Bool, true, false, List, [], ◌∷◌, length, map, refl, sym, ap, subst, ◌∙◌}
use Rattle.std.specs.Prelude.{if◌then◌else◌}
use Rattle.std.specs.List.{list_any}
use Rattle.aux_tables.specs.ModuleTables.{tables_of}
use Rattle.block_parts.specs.Parts.{parts}
use Rattle.edge_repair.specs.Repaired.{repaired_module}
use Rattle.gt_model.specs.declared.intervals.Block.{Block}
use Rattle.gt_model.specs.declared.intervals.Body.{Body}
use Rattle.gt_model.specs.declared.intervals.Body.TheVariants as bodies
use Rattle.gt_model.specs.declared.intervals.Interval.{Interval}
use Rattle.gt_model.specs.declared.modules.Module.{Module}
use Rattle.gt_model.specs.declared.modules.Section.{Section}
use Rattle.rewrite.specs.Blocks.{new_block, part_block}
use Rattle.rewrite.specs.Functions.{blocks_from, function_interval}
use Rattle.rewrite.specs.Identifiers.{part_id}
use Rattle.rewrite.specs.Offsets.{new_start}
use Rattle.rewrite.specs.Rewritten.{has_words, new_interval, new_intervals, new_section, stretched}
use Rattle.sym_expr.specs.declared.patches.Function.{Function}
use Rattle.sym_expr.specs.declared.patches.PatchTable.{PatchTable}
use Rattle.sym_expr.specs.declared.patches.PatchWord.{PatchWord}
use Rattle.sym_expr.specs.declared.program.CodeBlock.{CodeBlock}
use Rattle.sym_expr.specs.Modules.{blocks_of, id_of, is_loaded, loaded_intervals, loaded_sections}
use Rattle.sym_expr.specs.Patches.{function_blocks}
use Rattle.sym_expr.specs.Program.{code_block, has_entry, stretch}
use Rattle.taken_ids.specs.Identifiers.{block_ids, derived_ids, function_ids}
use Rattle.repaired_images.proofs.Free.{function_derived, part_derived}
use Rattle.repaired_images.proofs.Homes.{block_derived, goes_there}
use Rattle.repaired_images.proofs.Lists.{In, in_either, in_filter, in_flat, in_map, out_filter, out_flat, out_map}
use Rattle.repaired_images.proofs.Parts.{ids_of_parts}

module _ (m : Module) (p : PatchTable) where
  -- where an identifier of a block comes from
  abbrev pub Origin : List ℕ → Type 0
  Origin id = In id (map id_of (blocks_of (loaded_intervals m))) ⊎ In id (derived_ids m p)

  own : (i : Interval) (b : Block) → In i (loaded_intervals m) → In b i.blocks → Origin (id_of b)
  own i b k l = inl (in_map id_of b (blocks_of (loaded_intervals m)) (in_flat (λ (j : Interval). j.blocks) i b (loaded_intervals m) k l))

  -- ---- of an interval where words are inserted

  part_origin : (i : Interval) (offset : ℕ) (uuid : List ℕ) (size decode_mode place : ℕ) (x : Block) → let b : Block = record { offset = offset; body = bodies.Code uuid size decode_mode } in In i (loaded_intervals m) → In b i.blocks
      → In x (map (part_block m uuid decode_mode place) (parts (code_block m p i b))) → Origin (id_of x)
  part_origin i offset uuid size decode_mode place x k l n =
      let b : Block = record { offset = offset; body = bodies.Code uuid size decode_mode } in
      let c : CodeBlock = code_block m p i b in
      let q = out_map (part_block m uuid decode_mode place) x (parts c) n in
      let named : In (id_of x) (map (part_id m uuid) (parts c)) = subst (λ (y : Block). In (id_of y) (map (part_id m uuid) (parts c))) (sym q.2) (in_map (part_id m uuid) q.0 (parts c) q.1) in
      elim (subst (In (id_of x)) (ids_of_parts m c) named) [
        | inl e ↦ subst Origin (sym e) (own i b k l)
        | inr d ↦ inr (part_derived m p c (id_of x) (goes_there m (tables_of m) p i b k l refl) d)
      ]

  only : (x y : Block) → In x (y ∷ []) → id_of x ≡ id_of y
  only x y (inl e) = ap id_of e
  only x y (inr k) = absurd k

  body_origin : (i : Interval) (offset : ℕ) (body : Body) (x : Block) → let b : Block = record { offset = offset; body = body } in In i (loaded_intervals m) → In b i.blocks → In x (new_block m p i (stretch m (tables_of m) p i) b) → Origin (id_of x)
  body_origin i offset bodies.Bare x k l n = subst Origin (sym (only x (record { offset = offset; body = bodies.Bare }) n)) (own i (record { offset = offset; body = bodies.Bare }) k l)
  body_origin i offset (bodies.Code uuid size decode_mode) x k l n = part_origin i offset uuid size decode_mode (new_start (stretch m (tables_of m) p i) uuid) x k l n
  body_origin i offset (bodies.Data uuid size) x k l n =
      subst Origin (sym (only x (record { offset = new_start (stretch m (tables_of m) p i) uuid; body = bodies.Data uuid size }) n)) (own i (record { offset = offset; body = bodies.Data uuid size }) k l)

  either_origin : (i : Interval) (c : Bool) (x : Block) → In i (loaded_intervals m) → In x (if c then stretched m p i (stretch m (tables_of m) p i) else i).blocks → Origin (id_of x)
  either_origin i true x k n = let b = out_flat (new_block m p i (stretch m (tables_of m) p i)) x i.blocks n in body_origin i b.0.offset b.0.body x k b.1 b.2
  either_origin i false x k n = own i x k n

  -- ---- of a function

  blocks_origin : (f : Function) (k at : ℕ) (bs : List (List PatchWord)) (x : Block) → In x (blocks_from m f k at bs) → In (id_of x) (block_ids m.uuid f.name k (length bs))
  blocks_origin f k at [] x h = absurd h
  blocks_origin f k at (b ∷ bs) x (inl e) = inl (ap id_of e)
  blocks_origin f k at (b ∷ bs) x (inr h) = inr (blocks_origin f (suc k) (at + 4 * length b) bs x h)

  function_origin : (f : Function) (x : Block) → In f p.functions → In x (function_interval m f).blocks → Origin (id_of x)
  function_origin f x k h =
      inr (function_derived m p (id_of x) (in_flat (function_ids m.uuid) f (id_of x) p.functions k (block_derived m f (id_of x) (blocks_origin f 0 0 (function_blocks f) x h))))

  -- ---- of all loaded sections

  functions_origin : (c : Bool) (j : Interval) (x : Block) → In j (if c then map (function_interval m) p.functions else []) → In x j.blocks → Origin (id_of x)
  functions_origin true j x h n = let f = out_map (function_interval m) j p.functions h in function_origin f.0 x f.1 (subst (λ (y : Interval). In x y.blocks) f.2 n)
  functions_origin false j x h n = absurd h

  intervals_origin : (s : Section) (j : Interval) (x : Block) → In s (loaded_sections m) → In j (new_intervals m (tables_of m) p s) → In x j.blocks → Origin (id_of x)
  intervals_origin s j x k h n =
      elim (in_either j (map (new_interval m (tables_of m) p) s.intervals) (if has_entry m s then map (function_interval m) p.functions else []) h) [
        | inl a ↦
            let i = out_map (new_interval m (tables_of m) p) j s.intervals a in
            either_origin i.0 (list_any (has_words p) i.0.blocks) x (in_flat (λ (y : Section). y.intervals) s i.0 (loaded_sections m) k i.1) (subst (λ (y : Interval). In x y.blocks) i.2 n)
        | inr b ↦ functions_origin (has_entry m s) j x b n
      ]

  section_origin : (s : Section) (c : Bool) (j : Interval) (x : Block) → is_loaded s ≡ c → In s m.sections → is_loaded (if c then record s { intervals = new_intervals m (tables_of m) p s } else s) ≡ true
      → In j (if c then record s { intervals = new_intervals m (tables_of m) p s } else s).intervals → In x j.blocks → Origin (id_of x)
  section_origin s true j x e k loaded h n = intervals_origin s j x (in_filter is_loaded s m.sections e k) h n
  section_origin s false j x e k loaded h n = own j x (in_flat (λ (y : Section). y.intervals) s j (loaded_sections m) (in_filter is_loaded s m.sections loaded k) h) n

  pub block_origin : (x : Block) → In x (blocks_of (loaded_intervals (repaired_module m (tables_of m) p))) → Origin (id_of x)
  block_origin x h =
      let n : Module = repaired_module m (tables_of m) p in
      let j = out_flat (λ (i : Interval). i.blocks) x (loaded_intervals n) h in
      let r = out_flat (λ (s : Section). s.intervals) j.0 (loaded_sections n) j.1 in
      let kept = out_filter is_loaded r.0 n.sections r.1 in
      let s = out_map (new_section m (tables_of m) p) r.0 m.sections kept.0 in
      section_origin s.0 (is_loaded s.0) j.0 x refl s.1 (ap is_loaded (sym s.2) ∙ kept.1) (subst (λ (y : Section). In j.0 y.intervals) s.2 r.2) j.2
