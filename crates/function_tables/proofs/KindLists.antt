-- The three tables of functions have the types that they name, and get the entries of functions.
use Rattle.std.proofs.Common.{◌≡◌, ℕ, Bool, true, false, Option, Some, None, Ok, List, refl, sym, ap, subst, ◌∙◌}
use Rattle.std.specs.Prelude.{codes, ◌&&◌, if◌then◌else◌}
use Rattle.std.specs.Str.{bytes_eq}
use Rattle.std.proofs.lemmas.Slice.Eq.{bytes_eq-Decides}
use Rattle.aux_codec.specs.Value.{Value, Str, Truth, Id, Number, Signed, At, Four, Eight, Many, Pairs, Parts, Choice, Entries}
use Rattle.aux_tables.specs.ModuleTables.{is_table, result_option, shape_of_table}
use Rattle.aux_types.specs.Names.{scalar_named, container_named}
use Rattle.aux_types.specs.Reading.{inside, one, opened, read_type, two, type_at}
use Rattle.aux_types.specs.Shape.{Shape, Mapping, Plain, Set}
use Rattle.aux_types.specs.declared.name.Scalar.TheVariants as s
use Rattle.edge_repair.specs.Sets.{function_entries, function_value, is_blocks_table, is_entries_table, is_names_table, parts_of}
use Rattle.gt_model.specs.declared.modules.Module.{Module}
use Rattle.gt_model.specs.declared.tables.Aux.{Aux}
use Rattle.function_tables.specs.declared.kinds.TableKind.{TableKind}
use Rattle.function_tables.specs.declared.kinds.TableKind.TheVariants as kinds
use Rattle.function_tables.specs.Functions.{entries_in, kind_in, type_of}
use Rattle.sym_expr.specs.declared.patches.PatchTable.{PatchTable}
use Rattle.sym_expr.specs.declared.program.Program.{Program}

sets_shape : read_type (codes "mapping<UUID,set<UUID>>") ≡ Ok (Mapping (Plain s.Id) (Set (Plain s.Id)))
unfolding read_type type_at opened inside two one scalar_named container_named
sets_shape = refl

ids_shape : read_type (codes "mapping<UUID,UUID>") ≡ Ok (Mapping (Plain s.Id) (Plain s.Id))
unfolding read_type type_at opened inside two one scalar_named container_named
ids_shape = refl

both_true : (a b : Bool) → (a && b) ≡ true → b ≡ true
both_true true b h = h
both_true false b h = absurd (cc)

named_shape : (name type : List ℕ) (a : Aux) (shape : Shape) → is_table name type a ≡ true → read_type type ≡ Ok shape → shape_of_table a ≡ Some shape
named_shape name type a shape is read =
    let same : type ≡ a.type_name = (bytes_eq-Decides type a.type_name).0 (both_true (bytes_eq name a.name) (bytes_eq type a.type_name) is) in
    subst (λ (t : List ℕ). result_option (read_type t) ≡ Some shape) same (ap result_option read)

picked : (x y z : Bool) (kind : TableKind) → (if x then Some kinds.Blocks else if y then Some kinds.Entries else if z then Some kinds.Names else None) ≡ Some kind
    → (P : TableKind → Type 0) → (x ≡ true → P kinds.Blocks) → (y ≡ true → P kinds.Entries) → (z ≡ true → P kinds.Names) → P kind
picked true y z kind e P p q r = let same : kinds.Blocks ≡ kind = cc in subst P same (p refl)
picked false true z kind e P p q r = let same : kinds.Entries ≡ kind = cc in subst P same (q refl)
picked false false true kind e P p q r = let same : kinds.Names ≡ kind = cc in subst P same (r refl)
picked false false false kind e P p q r = absurd (cc)

pub kind_shape : (a : Aux) (kind : TableKind) → kind_in a ≡ Some kind → shape_of_table a ≡ Some (type_of kind)
kind_shape a kind e =
    picked (is_blocks_table a) (is_entries_table a) (is_names_table a) kind e (λ k. shape_of_table a ≡ Some (type_of k))
    (λ is. named_shape (codes "functionBlocks") (codes "mapping<UUID,set<UUID>>") a (type_of kinds.Blocks) is sets_shape)
    (λ is. named_shape (codes "functionEntries") (codes "mapping<UUID,set<UUID>>") a (type_of kinds.Entries) is sets_shape)
    (λ is. named_shape (codes "functionNames") (codes "mapping<UUID,UUID>") a (type_of kinds.Names) is ids_shape)

choose : (x y z : Bool) (o : Option TableKind) (f : TableKind → Entries) (es : Entries) → (if x then Some kinds.Blocks else if y then Some kinds.Entries else if z then Some kinds.Names else None) ≡ o
    → (if x then f kinds.Blocks else if y then f kinds.Entries else if z then f kinds.Names else es) ≡ elim o as (λ _. Entries) [ None ↦ es | Some kind ↦ f kind ]
choose true y z o f es e = subst (λ (q : Option TableKind). f kinds.Blocks ≡ elim q as (λ _. Entries) [ None ↦ es | Some kind ↦ f kind ]) e refl
choose false true z o f es e = subst (λ (q : Option TableKind). f kinds.Entries ≡ elim q as (λ _. Entries) [ None ↦ es | Some kind ↦ f kind ]) e refl
choose false false true o f es e = subst (λ (q : Option TableKind). f kinds.Names ≡ elim q as (λ _. Entries) [ None ↦ es | Some kind ↦ f kind ]) e refl
choose false false false o f es e = subst (λ (q : Option TableKind). es ≡ elim q as (λ _. Entries) [ None ↦ es | Some kind ↦ f kind ]) e refl

pub kind_entries : (m : Module) (g : Program) (p : PatchTable) (a : Aux) (es : Entries) (kind : TableKind) → kind_in a ≡ Some kind → function_entries m g p a es ≡ entries_in kind m (parts_of m g) p.functions es
kind_entries m g p a es kind e = choose (is_blocks_table a) (is_entries_table a) (is_names_table a) (Some kind) (λ k. entries_in k m (parts_of m g) p.functions es) es e

pub no_kind_entries : (m : Module) (g : Program) (p : PatchTable) (a : Aux) (es : Entries) → kind_in a ≡ None → function_entries m g p a es ≡ es
no_kind_entries m g p a es e = choose (is_blocks_table a) (is_entries_table a) (is_names_table a) None (λ k. entries_in k m (parts_of m g) p.functions es) es e

-- a table of another kind stays
pub value_stays : (m : Module) (g : Program) (p : PatchTable) (a : Aux) (x : Value) → kind_in a ≡ None → function_value m g p a x ≡ x
value_stays m g p a (Pairs es) e = ap Pairs (no_kind_entries m g p a es e)
value_stays m g p a (Str y) e = refl
value_stays m g p a (Truth y) e = refl
value_stays m g p a (Id y) e = refl
value_stays m g p a (Number y) e = refl
value_stays m g p a (Signed y) e = refl
value_stays m g p a (At y) e = refl
value_stays m g p a (Four y) e = refl
value_stays m g p a (Eight y) e = refl
value_stays m g p a (Many y) e = refl
value_stays m g p a (Parts y) e = refl
value_stays m g p a (Choice n y) e = refl
