-- Tables of functions keep their types once parts and functions are put in.
use Rattle.std.proofs.Common.{◌≡◌, ◌≢◌, ◌<◌, ◌^◌, ℕ, suc, Option, Some, None, List, [], ◌∷◌, ◌++◌, map, drop, length, refl, sym, ap, subst, ◌∙◌, inl, inr, arith, append_assoc}
use Rattle.std.specs.List.{AllByRecursion, flat_map}
use Rattle.std.specs.Option.{option_map_or}
use Rattle.aux_types.specs.Shape.{Shape, Mapping, Plain, Set}
use Rattle.aux_types.specs.declared.name.Scalar.TheVariants as s
use Rattle.aux_codec.specs.Spelling.{AreDistinct, Each, EachEntry, HasDistinctKeys, HasType}
use Rattle.aux_codec.specs.Value.{Value, Str, Truth, Id, Number, Signed, At, Four, Eight, Many, Pairs, Parts, Choice, Values, none, more, Entries, no_entry, entry, values, entries, count, count_entries}
use Rattle.block_parts.specs.declared.parts.Part.{Part}
use Rattle.block_parts.specs.Parts.{parts}
use Rattle.edge_repair.specs.Edges.{later_parts}
use Rattle.edge_repair.specs.Sets.{function_id, parts_of, sets_with_parts, with_functions, with_parts}
use Rattle.gt_model.specs.declared.ir.Ir.{Ir}
use Rattle.gt_model.specs.declared.modules.Module.{Module}
use Rattle.module_program.specs.Graphs.{patched_in}
use Rattle.function_tables.specs.declared.kinds.TableKind.{TableKind}
use Rattle.function_tables.specs.declared.kinds.TableKind.TheVariants as kinds
use Rattle.function_tables.specs.Functions.{entries_in, split_in, type_of, value_in, HasFewParts}
use Rattle.function_tables.proofs.Apart.{all_in, all_of, in_left, in_right, in_spread, spread, Apart, IsIn}
use Rattle.function_tables.proofs.Free.{blocks_apart, key_derived, keys_apart, later_derived, new_differs, set_stays}
use Rattle.function_tables.proofs.Sixteen.{sixteen}
use Rattle.function_tables.proofs.Starts.{same_parts}
use Rattle.function_tables.proofs.Types.{distinct_from, ids_again, keys_from, keys_of, keys_to, members, with_parts_spread, IsIdValue}
use Rattle.sym_expr.specs.declared.patches.Function.{Function}
use Rattle.sym_expr.specs.declared.patches.PatchTable.{PatchTable}
use Rattle.sym_expr.specs.declared.program.CodeBlock.{CodeBlock}
use Rattle.sym_expr.specs.declared.program.Program.{Program}
use Rattle.sym_expr.specs.Derived.{derived, part_text}
use Rattle.sym_expr.specs.Points.{code_at}
use Rattle.taken_ids.specs.Faults.{id_fault, taken_ids}
use Rattle.taken_ids.specs.Identifiers.{part_ids}
use Rattle.taken_ids.specs.Named.{ids_of, ids_of_each, ids_of_entries}

abbrev pub IsSixteen : List ℕ → Type 0
IsSixteen id = length id ≡ 16

-- ---- members of sets

pub members_typed : (ids : List (List ℕ)) → AllByRecursion IsSixteen ids → Each IsIdValue (members ids)
members_typed [] all = tt
members_typed (id ∷ ids) all = (all.0, members_typed ids all.1)

ids_typed : (xs : Values) → Each IsIdValue xs → AllByRecursion IsSixteen (ids_of_each xs)
ids_typed none all = tt
ids_typed (more (Id id) xs) all = (all.0, ids_typed xs all.1)
ids_typed (more (Str x) xs) all = absurd all.0
ids_typed (more (Truth x) xs) all = absurd all.0
ids_typed (more (Number x) xs) all = absurd all.0
ids_typed (more (Signed x) xs) all = absurd all.0
ids_typed (more (At x) xs) all = absurd all.0
ids_typed (more (Four x) xs) all = absurd all.0
ids_typed (more (Eight x) xs) all = absurd all.0
ids_typed (more (Many x) xs) all = absurd all.0
ids_typed (more (Pairs x) xs) all = absurd all.0
ids_typed (more (Parts x) xs) all = absurd all.0
ids_typed (more (Choice n x) xs) all = absurd all.0

derived_sixteen : (m : Module) (f : Part → List ℕ) (qs : List Part) → AllByRecursion IsSixteen (map (λ q. derived m.uuid (f q)) qs)
derived_sixteen m f [] = tt
derived_sixteen m f (q ∷ qs) = (sixteen m.uuid (f q), derived_sixteen m f qs)

module _ (ir : Ir) (m : Module) (p : PatchTable) (free : id_fault ir m p ≡ None) where
  abbrev later : List ℕ → List (List ℕ)
  later = parts_of m (patched_in m p)

  later_from : (o : Option CodeBlock) → AllByRecursion IsSixteen (option_map_or (later_parts m) o [])
  later_from None = tt
  later_from (Some b) = subst (AllByRecursion IsSixteen) (sym (same_parts m b)) (derived_sixteen m (λ q. part_text b.id q.start) (drop 1 (parts b)))

  later_sixteen : (a : List ℕ) → AllByRecursion IsSixteen (later a)
  later_sixteen a = later_from (code_at (patched_in m p) a)

  spread_sixteen : (ids : List (List ℕ)) → AllByRecursion IsSixteen ids → AllByRecursion IsSixteen (spread later ids)
  spread_sixteen ids all = all_of IsSixteen (spread later ids) (λ u there.
      elim (in_spread later ids u there) [
        | inl old ↦ all_in IsSixteen u ids all old
        | inr new ↦ all_in IsSixteen u (later new.0) (later_sixteen new.0) new.2
      ])

  -- a set of blocks with its parts is one
  set_typed : (xs : Values) → HasType (Set (Plain s.Id)) (Many xs) → ((v : List ℕ) → IsIn v (ids_of_each xs) → IsIn v (taken_ids ir m)) → count (with_parts later xs) < 2 ^ 64
      → HasType (Set (Plain s.Id)) (Many (with_parts later xs))
  set_typed xs typed held few =
      let ids = ids_of_each xs in
      let each : Each IsIdValue (members (spread later ids)) = members_typed (spread later ids) (spread_sixteen ids (ids_typed xs typed.1)) in
      let back : members (spread later ids) ≡ with_parts later xs = sym (with_parts_spread later ids) ∙ ap (with_parts later) (sym (ids_again xs typed.1)) in
      (few, subst (Each IsIdValue) back each, set_stays ir m p free xs typed.1 typed.2 held)

  pub sets_typed : (es : Entries) → EachEntry IsIdValue (HasType (Set (Plain s.Id))) es → ((v : List ℕ) → IsIn v (ids_of_entries es) → IsIn v (taken_ids ir m)) → HasFewParts later es
      → EachEntry IsIdValue (HasType (Set (Plain s.Id))) (sets_with_parts later es)
  sets_typed no_entry typed held few = tt
  sets_typed (entry key (Many xs) rest) typed held few = (
    typed.0,
    set_typed xs typed.1 (λ v at. held v (in_right v (ids_of key) (ids_of_each xs ++ ids_of_entries rest) (in_left v (ids_of_each xs) (ids_of_entries rest) at))) few.0,
    sets_typed rest typed.2 (λ v at. held v (in_right v (ids_of key) (ids_of_each xs ++ ids_of_entries rest) (in_right v (ids_of_each xs) (ids_of_entries rest) at))) few.1,
  )
  sets_typed (entry key (Str x) rest) typed held few = absurd typed.1
  sets_typed (entry key (Truth x) rest) typed held few = absurd typed.1
  sets_typed (entry key (Id x) rest) typed held few = absurd typed.1
  sets_typed (entry key (Number x) rest) typed held few = absurd typed.1
  sets_typed (entry key (Signed x) rest) typed held few = absurd typed.1
  sets_typed (entry key (At x) rest) typed held few = absurd typed.1
  sets_typed (entry key (Four x) rest) typed held few = absurd typed.1
  sets_typed (entry key (Eight x) rest) typed held few = absurd typed.1
  sets_typed (entry key (Pairs x) rest) typed held few = absurd typed.1
  sets_typed (entry key (Parts x) rest) typed held few = absurd typed.1
  sets_typed (entry key (Choice n x) rest) typed held few = absurd typed.1

-- the keys stay
pub same_keys : (later : List ℕ → List (List ℕ)) (es : Entries) → keys_of (sets_with_parts later es) ≡ keys_of es
same_keys later no_entry = refl
same_keys later (entry key (Many x) rest) = ap (λ l. ids_of key ++ l) (same_keys later rest)
same_keys later (entry key (Str x) rest) = ap (λ l. ids_of key ++ l) (same_keys later rest)
same_keys later (entry key (Truth x) rest) = ap (λ l. ids_of key ++ l) (same_keys later rest)
same_keys later (entry key (Id x) rest) = ap (λ l. ids_of key ++ l) (same_keys later rest)
same_keys later (entry key (Number x) rest) = ap (λ l. ids_of key ++ l) (same_keys later rest)
same_keys later (entry key (Signed x) rest) = ap (λ l. ids_of key ++ l) (same_keys later rest)
same_keys later (entry key (At x) rest) = ap (λ l. ids_of key ++ l) (same_keys later rest)
same_keys later (entry key (Four x) rest) = ap (λ l. ids_of key ++ l) (same_keys later rest)
same_keys later (entry key (Eight x) rest) = ap (λ l. ids_of key ++ l) (same_keys later rest)
same_keys later (entry key (Pairs x) rest) = ap (λ l. ids_of key ++ l) (same_keys later rest)
same_keys later (entry key (Parts x) rest) = ap (λ l. ids_of key ++ l) (same_keys later rest)
same_keys later (entry key (Choice n x) rest) = ap (λ l. ids_of key ++ l) (same_keys later rest)
