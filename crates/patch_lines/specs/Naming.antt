-- What labels in patch text name.
use Rattle.std.specs.Prelude.{ℕ, zero, suc, ◌==◌, Bool, true, false, if◌then◌else◌, map, filter, find, Option, Some, None, Result, Ok, Err, List, [], ◌∷◌, slice_get}
use Rattle.std.specs.List.{list_any}
use Rattle.std.specs.Option.{ok_or}
use Rattle.std.specs.Str.{bytes_eq}
use Rattle.gt_model.specs.declared.modules.Module.{Module}
use Rattle.gt_model.specs.declared.symbols.Payload.{Payload}
use Rattle.gt_model.specs.declared.symbols.Payload.TheVariants as payloads
use Rattle.gt_model.specs.declared.symbols.Symbol.{Symbol}
use Rattle.sym_expr.specs.declared.patches.SymbolName.{SymbolName}
use Rattle.sym_expr.specs.declared.patches.SymbolName.TheVariants as names
use Rattle.patch_lines.specs.declared.fault.PatchReason.{PatchReason}
use Rattle.patch_lines.specs.declared.fault.PatchReason.TheVariants.{UnknownName, Ambiguous}
use Rattle.patch_lines.specs.declared.line.LabelName.{LabelName}
use Rattle.patch_lines.specs.declared.symbols.SymbolUse.{SymbolUse}

-- the block at whose start a symbol is
abbrev pub start_of : Bool → Payload → Option (List ℕ)
start_of true payload = None
start_of false payloads.Nothing = None
start_of false (payloads.Value value) = None
start_of false (payloads.Referent id) = Some id

abbrev pub use_with : List ℕ → Option (List ℕ) → SymbolUse
use_with id start = record { id = id; start = start }

-- what matters of a symbol where it is named
abbrev pub use_of : Symbol → SymbolUse
use_of s = use_with s.uuid (start_of s.at_end s.payload)

-- the symbols of a name, in the order of the module
abbrev pub uses_named : List Symbol → List ℕ → List SymbolUse
uses_named symbols name = map use_of (filter (λ (s : Symbol). bytes_eq name s.name) symbols)

-- the first symbol of an identifier
abbrev pub use_at : List Symbol → List ℕ → Option Symbol
use_at symbols id = find (λ (s : Symbol). bytes_eq s.uuid id) symbols

-- the one of these that an ordinal means: without one there must be a single one
abbrev pub pick : List SymbolUse → Option ℕ → Result SymbolUse PatchReason
pick [] None = Err UnknownName
pick (u ∷ []) None = Ok u
pick (u ∷ v ∷ rest) None = Err Ambiguous
pick uses (Some zero) = Err UnknownName
pick uses (Some (suc k)) = ok_or (slice_get uses k) UnknownName

-- the symbol that a label names
abbrev pub symbol_named : Module → LabelName → Result SymbolUse PatchReason
symbol_named m label = pick (uses_named m.symbols label.name) label.ordinal

-- the ordinal is left out, or 1
abbrev pub is_first : Option ℕ → Bool
is_first None = true
is_first (Some k) = k == 1

-- a result, made of what is there
abbrev pub then_ok : {A B : Type 0} → (A → Result B PatchReason) → Result A PatchReason → Result B PatchReason
then_ok f (Ok x) = f x
then_ok f (Err reason) = Err reason

-- a name of the patches, of which there is one
abbrev pub new_name : LabelName → Result SymbolName PatchReason
new_name label = if is_first label.ordinal then Ok (names.New label.name) else Err UnknownName

-- a symbol of the module
abbrev pub old_name : Module → LabelName → Result SymbolName PatchReason
old_name m label = then_ok (λ (u : SymbolUse). Ok (names.Old u.id)) (symbol_named m label)

-- what a label names, where the patches bring these names
abbrev pub resolved : Module → (List ℕ → Bool) → LabelName → Result SymbolName PatchReason
resolved m is_new label = if is_new label.name then new_name label else old_name m label
