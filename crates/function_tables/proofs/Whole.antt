-- The tables of functions, with parts and functions, are of their types.
use Rattle.std.proofs.Common.{◌≡◌, ◌≢◌, ◌<◌, ◌^◌, ℕ, suc, None, List, [], ◌∷◌, ◌++◌, map, length, refl, sym, ap, subst, ◌∙◌, inl, inr, arith, append_assoc}
use Rattle.std.specs.List.{AllByRecursion}
use Rattle.aux_types.specs.Shape.{Mapping, Plain, Set}
use Rattle.aux_types.specs.declared.name.Scalar.TheVariants as s
use Rattle.aux_codec.specs.Spelling.{AreDistinct, Each, EachEntry, HasDistinctKeys, HasType}
use Rattle.aux_codec.specs.Value.{Value, Id, Many, Pairs, Values, Entries, no_entry, entry, count}
use Rattle.edge_repair.specs.Sets.{blocks_value, entries_value, function_id, parts_of, symbol_value, with_functions}
use Rattle.gt_model.specs.declared.ir.Ir.{Ir}
use Rattle.gt_model.specs.declared.modules.Module.{Module}
use Rattle.module_program.specs.Graphs.{patched_in}
use Rattle.function_tables.specs.declared.kinds.TableKind.{TableKind}
use Rattle.function_tables.specs.declared.kinds.TableKind.TheVariants as kinds
use Rattle.function_tables.specs.Functions.{entries_in, split_in, type_of, value_in, HasFewEntries, HasFewParts, IsFew}
use Rattle.function_tables.proofs.Apart.{all_in, all_of, apart_join, in_either, in_left, in_right, Apart, IsIn}
use Rattle.function_tables.proofs.Free.{blocks_apart, key_derived, keys_apart, new_differs}
use Rattle.function_tables.proofs.Sixteen.{sixteen}
use Rattle.function_tables.proofs.Typed.{members_typed, same_keys, sets_typed, IsSixteen}
use Rattle.function_tables.proofs.Types.{distinct_from, keys_from, keys_of, keys_to, members, IsIdValue}
use Rattle.sym_expr.specs.declared.patches.Function.{Function}
use Rattle.sym_expr.specs.declared.patches.PatchTable.{PatchTable}
use Rattle.sym_expr.specs.declared.patches.PatchWord.{PatchWord}
use Rattle.sym_expr.specs.Derived.{block_text, function_text}
use Rattle.sym_expr.specs.Patches.{function_blocks}
use Rattle.sym_expr.specs.TableOk.{block_ids}
use Rattle.taken_ids.specs.Faults.{id_fault, taken_ids}
use Rattle.taken_ids.specs.Identifiers.{derived_ids}
use Rattle.taken_ids.specs.Named.{ids_of, ids_of_entries}

-- ---- entries of functions behind others

all_typed : (m : Module) (Q : Value → Type 0) (value : Function → Value) (fs : List Function) (es : Entries) → ((f : Function) → IsIn f fs → Q (value f)) → EachEntry IsIdValue Q es
    → EachEntry IsIdValue Q (with_functions m value fs es)
all_typed m Q value [] no_entry good typed = tt
all_typed m Q value (f ∷ fs) no_entry good typed = (sixteen m.uuid (function_text f.name), good f (inl refl), all_typed m Q value fs no_entry (λ g there. good g (inr there)) tt)
all_typed m Q value [] (entry k x es) good typed = (typed.0, typed.1, all_typed m Q value [] es good typed.2)
all_typed m Q value (f ∷ fs) (entry k x es) good typed = (typed.0, typed.1, all_typed m Q value (f ∷ fs) es good typed.2)

all_keys : (m : Module) (value : Function → Value) (fs : List Function) (es : Entries) → keys_of (with_functions m value fs es) ≡ keys_of es ++ map (function_id m) fs
all_keys m value [] no_entry = refl
all_keys m value (f ∷ fs) no_entry = ap (λ l. function_id m f ∷ l) (all_keys m value fs no_entry)
all_keys m value [] (entry k x es) = ap (λ l. ids_of k ++ l) (all_keys m value [] es) ∙ sym (append_assoc (ids_of k) (keys_of es) [])
all_keys m value (f ∷ fs) (entry k x es) = ap (λ l. ids_of k ++ l) (all_keys m value (f ∷ fs) es) ∙ sym (append_assoc (ids_of k) (keys_of es) (map (function_id m) (f ∷ fs)))

-- keys are among the identifiers
key_held : (es : Entries) (v : List ℕ) → IsIn v (keys_of es) → IsIn v (ids_of_entries es)
key_held no_entry v there = absurd there
key_held (entry k x es) v there = elim (in_either v (ids_of k) (keys_of es) there) [
  | inl here ↦ in_left v (ids_of k) (ids_of x ++ ids_of_entries es) here
  | inr later ↦ in_right v (ids_of k) (ids_of x ++ ids_of_entries es) (in_right v (ids_of x) (ids_of_entries es) (key_held es v later))
]

-- ---- what a table has of a function

blocks_sixteen : (m : Module) (f : Function) (k : ℕ) (bs : List (List PatchWord)) → AllByRecursion IsSixteen (block_ids m f k bs)
blocks_sixteen m f k [] = tt
blocks_sixteen m f k (b ∷ bs) = (sixteen m.uuid (block_text f.name k), blocks_sixteen m f (suc k) bs)

counted : (m : Module) (f : Function) (k : ℕ) (bs : List (List PatchWord)) → count (members (block_ids m f k bs)) ≡ length bs
counted m f k [] = refl
counted m f k (b ∷ bs) = ap suc (counted m f (suc k) bs)

module _ (ir : Ir) (m : Module) (p : PatchTable) (free : id_fault ir m p ≡ None) where
  abbrev later : List ℕ → List (List ℕ)
  later = parts_of m (patched_in m p)

  blocks_typed : (f : Function) → IsIn f p.functions → length (function_blocks f) < 2 ^ 64 → HasType (Set (Plain s.Id)) (blocks_value m f)
  blocks_typed f there few =
      let size : count (members (block_ids m f 0 (function_blocks f))) ≡ length (function_blocks f) = counted m f 0 (function_blocks f) in
      (omega arith, members_typed (block_ids m f 0 (function_blocks f)) (blocks_sixteen m f 0 (function_blocks f)), distinct_from (block_ids m f 0 (function_blocks f)) (blocks_apart ir m p free f there))

  entries_typed : (f : Function) → HasType (Set (Plain s.Id)) (entries_value m f)
  entries_typed f = (omega arith, (sixteen m.uuid (block_text f.name 0), tt), (tt, tt))

  -- keys that were taken, with the functions behind them, are apart
  keys_stay : (Q : Value → Type 0) (value : Function → Value) (es : Entries) → EachEntry IsIdValue Q es → HasDistinctKeys es → ((v : List ℕ) → IsIn v (keys_of es) → IsIn v (taken_ids ir m))
      → Apart (keys_of (with_functions m value p.functions es))
  keys_stay Q value es typed distinct held =
      subst Apart (sym (all_keys m value p.functions es))
      (apart_join (keys_of es) (map (function_id m) p.functions) (keys_to Q es typed distinct) (keys_apart ir m p free)
      (all_of (λ u. AllByRecursion (λ v. u ≢ v) (map (function_id m) p.functions)) (keys_of es) (λ u at. all_of (λ v. u ≢ v) (map (function_id m) p.functions) (λ v there same. new_differs ir m p free v u (function_derived v there) (held u at) (sym same)))))
    where
      named : (fs : List Function) (v : List ℕ) → IsIn v (map (function_id m) fs) → (f : Function) × IsIn f fs × (function_id m f ≡ v)
      named [] v there = absurd there
      named (f ∷ fs) v (inl e) = (f, inl refl, e)
      named (f ∷ fs) v (inr rest) = let one = named fs v rest in (one.0, inr one.1, one.2)

      function_derived : (v : List ℕ) → IsIn v (map (function_id m) p.functions) → IsIn v (derived_ids m p)
      function_derived v there = let one = named p.functions v there in subst (λ k. IsIn k (derived_ids m p)) one.2 (key_derived ir m p free one.0 one.1)

  pub table_typed : (kind : TableKind) (es : Entries) → HasType (type_of kind) (Pairs es) → ((v : List ℕ) → IsIn v (ids_of_entries es) → IsIn v (taken_ids ir m)) → HasFewEntries kind m later p.functions es
      → HasType (type_of kind) (Pairs (entries_in kind m later p.functions es))
  table_typed kinds.Blocks es typed held few =
      let Q = HasType (Set (Plain s.Id)) in
      let sets = sets_typed ir m p free es typed.1 held few.sets in
      let all = all_typed m Q (blocks_value m) p.functions (split_in kinds.Blocks later es) (λ f there. blocks_typed f there (all_in (IsFew kinds.Blocks) f p.functions few.blocks there)) sets in
      let apart : Apart (keys_of (split_in kinds.Blocks later es)) = subst Apart (sym (same_keys later es)) (keys_to Q es typed.1 typed.2) in (
        few.all,
        all,
        keys_from Q (entries_in kinds.Blocks m later p.functions es) all
            (keys_stay Q (blocks_value m) (split_in kinds.Blocks later es) sets (keys_from Q (split_in kinds.Blocks later es) sets apart) (λ v there. held v (key_held es v (subst (IsIn v) (same_keys later es) there)))),
      )
  table_typed kinds.Entries es typed held few =
      let Q = HasType (Set (Plain s.Id)) in
      let all = all_typed m Q (entries_value m) p.functions es (λ f there. entries_typed f) typed.1 in
      (few.all, all, keys_from Q (entries_in kinds.Entries m later p.functions es) all (keys_stay Q (entries_value m) es typed.1 typed.2 (λ v there. held v (key_held es v there))))
  table_typed kinds.Names es typed held few =
      let all = all_typed m IsIdValue (symbol_value m) p.functions es (λ f there. sixteen m.uuid _) typed.1 in
      (few.all, all, keys_from IsIdValue (entries_in kinds.Names m later p.functions es) all (keys_stay IsIdValue (symbol_value m) es typed.1 typed.2 (λ v there. held v (key_held es v there))))
