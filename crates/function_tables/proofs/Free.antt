-- Where no derived identifier was taken, sets of blocks stay sets, and keys stay apart.
use Rattle.std.proofs.Common.{◌≡◌, ◌≢◌, ◌⊎◌, ℕ, suc, Bool, true, false, Option, Some, None, List, [], ◌∷◌, ◌++◌, map, length, refl, sym, ap, subst, ◌∙◌, inl, inr, append_assoc}
use Rattle.std.specs.List.{AllByRecursion, flat_map, list_any}
use Rattle.std.specs.Option.{option_map, option_map_or}
use Rattle.std.specs.Str.{bytes_eq}
use Rattle.std.proofs.lemmas.Slice.Eq.{bytes_eq-Decides}
use Rattle.aux_codec.specs.Spelling.{AreDistinct, Each}
use Rattle.aux_codec.specs.Value.{Values}
use Rattle.edge_repair.specs.Edges.{later_parts}
use Rattle.edge_repair.specs.Sets.{function_id, parts_of, with_parts}
use Rattle.gt_model.specs.declared.ir.Ir.{Ir}
use Rattle.gt_model.specs.declared.modules.Module.{Module}
use Rattle.gt_model.specs.Linked.{repeated}
use Rattle.module_program.specs.Graphs.{patched_in}
use Rattle.sym_expr.specs.declared.patches.Function.{Function}
use Rattle.sym_expr.specs.declared.patches.PatchTable.{PatchTable}
use Rattle.sym_expr.specs.declared.patches.PatchWord.{PatchWord}
use Rattle.sym_expr.specs.declared.program.CodeBlock.{CodeBlock}
use Rattle.sym_expr.specs.Derived.{derived, function_text, interval_text}
use Rattle.sym_expr.specs.Patches.{function_blocks}
use Rattle.sym_expr.specs.Points.{code_at, code_blocks}
use Rattle.sym_expr.specs.TableOk.{block_ids}
use Rattle.sym_expr.specs.Targets.{function_block_id}
use Rattle.taken_ids.specs.declared.fault.RewriteFault.TheVariants.{IdTaken}
use Rattle.taken_ids.specs.Faults.{id_fault, taken_ids}
use Rattle.taken_ids.specs.Identifiers.{derived_ids, function_ids, labels, part_ids, symbol_id}
use Rattle.taken_ids.specs.Identifiers.{block_ids as counted_ids}
use Rattle.taken_ids.specs.Named.{ids_of_each}
use Rattle.function_tables.proofs.Apart.{all_in, apart_back, apart_between, apart_front, apart_in, apart_one, found_in, in_flat, in_left, in_right, none_repeated, not_held, spread, spread_apart, Apart, IsIn}
use Rattle.function_tables.proofs.Lists.{found_passes}
use Rattle.function_tables.proofs.Starts.{same_parts}
use Rattle.function_tables.proofs.Types.{distinct_from, distinct_to, ids_again, members, with_parts_spread, IsIdValue}

no_fault : (o : Option (List ℕ)) → option_map IdTaken o ≡ None → o ≡ None
no_fault None h = refl
no_fault (Some id) h = absurd (cc)

module _ (ir : Ir) (m : Module) (p : PatchTable) (free : id_fault ir m p ≡ None) where
  abbrev later : List ℕ → List (List ℕ)
  later = parts_of m (patched_in m p)

  abbrev part_list : List (List ℕ)
  part_list = flat_map (part_ids m.uuid) (code_blocks (patched_in m p))

  abbrev function_list : List (List ℕ)
  function_list = flat_map (function_ids m.uuid) p.functions

  none : AllByRecursion (λ x. list_any (bytes_eq x) (taken_ids ir m) ≡ false) (derived_ids m p) × Apart (derived_ids m p)
  none = none_repeated (taken_ids ir m) (derived_ids m p) (no_fault (repeated (taken_ids ir m) (derived_ids m p)) free)

  pub parts_apart : Apart part_list
  parts_apart = apart_front part_list function_list none.1

  pub functions_apart : Apart function_list
  functions_apart = apart_back part_list function_list none.1

  -- no derived identifier is one that was taken
  pub new_differs : (u v : List ℕ) → IsIn u (derived_ids m p) → IsIn v (taken_ids ir m) → u ≢ v
  new_differs u v there held = not_held u (taken_ids ir m) v (all_in (λ x. list_any (bytes_eq x) (taken_ids ir m) ≡ false) u (derived_ids m p) none.0 there) held

  -- the block of which an identifier is a later part
  record IsLater (a u : List ℕ) : Type 0 where
    block : CodeBlock
    there : IsIn block (code_blocks (patched_in m p))
    named : block.id ≡ a
    part : IsIn u (part_ids m.uuid block)

  is_later : (a u : List ℕ) (o : Option CodeBlock) → code_at (patched_in m p) a ≡ o → IsIn u (option_map_or (later_parts m) o []) → IsLater a u
  is_later a u None e at = absurd at
  is_later a u (Some b) e at = record {
    block = b;
    there = found_in (λ (c : CodeBlock). bytes_eq c.id a) (code_blocks (patched_in m p)) b e;
    named = (bytes_eq-Decides b.id a).0 (found_passes (λ (c : CodeBlock). bytes_eq c.id a) (code_blocks (patched_in m p)) b e);
    part = subst (IsIn u) (same_parts m b) at;
  }

  of_later : (a u : List ℕ) → IsIn u (later a) → IsLater a u
  of_later a u at = is_later a u (code_at (patched_in m p) a) refl at

  own_from : (a : List ℕ) (o : Option CodeBlock) → code_at (patched_in m p) a ≡ o → Apart (option_map_or (later_parts m) o [])
  own_from a None e = tt
  own_from a (Some b) e =
      subst Apart (sym (same_parts m b)) (apart_in (part_ids m.uuid) (code_blocks (patched_in m p)) b parts_apart (found_in (λ (c : CodeBlock). bytes_eq c.id a) (code_blocks (patched_in m p)) b e))

  own : (a : List ℕ) → Apart (later a)
  own a = own_from a (code_at (patched_in m p) a) refl

  other : (a b u v : List ℕ) → a ≢ b → IsIn u (later a) → IsIn v (later b) → u ≢ v
  other a b u v differ at_u at_v =
      let x = of_later a u at_u in
      let y = of_later b v at_v in
      apart_between (part_ids m.uuid) (λ (c : CodeBlock). c.id) (code_blocks (patched_in m p)) x.block y.block u v parts_apart x.there y.there (λ same. differ (sym x.named ∙ same ∙ y.named)) x.part y.part

  -- later parts are derived
  pub later_derived : (a u : List ℕ) → IsIn u (later a) → IsIn u (derived_ids m p)
  later_derived a u at = let x = of_later a u at in in_left u part_list function_list (in_flat (part_ids m.uuid) u x.block (code_blocks (patched_in m p)) x.there x.part)

  -- a set of identifiers that were taken stays a set
  pub set_stays : (xs : Values) → Each IsIdValue xs → AreDistinct xs → ((v : List ℕ) → IsIn v (ids_of_each xs) → IsIn v (taken_ids ir m)) → AreDistinct (with_parts later xs)
  set_stays xs typed distinct held =
      let ids = ids_of_each xs in
      let apart : Apart ids = distinct_to ids (subst AreDistinct (ids_again xs typed) distinct) in
      let spread_out : Apart (spread later ids) = spread_apart later own other ids (λ a u v at there. new_differs u v (later_derived a u at) (held v there)) apart in
      subst (λ (ys : Values). AreDistinct (with_parts later ys)) (sym (ids_again xs typed)) (subst AreDistinct (sym (with_parts_spread later ids)) (distinct_from (spread later ids) spread_out))

  -- ---- functions

  same_blocks : (f : Function) (k : ℕ) (bs : List (List PatchWord)) → counted_ids m.uuid f.name k (length bs) ≡ block_ids m f k bs
  same_blocks f k [] = refl
  same_blocks f k (b ∷ bs) = ap (λ l. function_block_id m f k ∷ l) (same_blocks f (suc k) bs)

  abbrev behind_blocks : Function → List (List ℕ)
  behind_blocks f = symbol_id m.uuid f.name ∷ map (symbol_id m.uuid) (labels f)

  itself_in : (f : Function) → IsIn (function_id m f) (function_ids m.uuid f)
  itself_in f = in_right (function_id m f) ((derived m.uuid (interval_text f.name) ∷ counted_ids m.uuid f.name 0 (length (function_blocks f))) ++ behind_blocks f) (function_id m f ∷ []) (inl refl)

  -- the functions are apart, and derived
  pub keys_apart : Apart (map (function_id m) p.functions)
  keys_apart = apart_one (function_ids m.uuid) (function_id m) itself_in p.functions functions_apart

  pub key_derived : (f : Function) → IsIn f p.functions → IsIn (function_id m f) (derived_ids m p)
  key_derived f there = in_right (function_id m f) part_list function_list (in_flat (function_ids m.uuid) (function_id m f) f p.functions there (itself_in f))

  -- so are the blocks of each
  pub blocks_apart : (f : Function) → IsIn f p.functions → Apart (block_ids m f 0 (function_blocks f))
  blocks_apart f there =
      let all : Apart (function_ids m.uuid f) = apart_in (function_ids m.uuid) p.functions f functions_apart there in
      let blocks = counted_ids m.uuid f.name 0 (length (function_blocks f)) in
      let front : Apart (derived m.uuid (interval_text f.name) ∷ blocks) =
      apart_front (derived m.uuid (interval_text f.name) ∷ blocks) (behind_blocks f) (apart_front ((derived m.uuid (interval_text f.name) ∷ blocks) ++ behind_blocks f) (function_id m f ∷ []) all) in
      subst Apart (same_blocks f 0 (function_blocks f)) front.1
