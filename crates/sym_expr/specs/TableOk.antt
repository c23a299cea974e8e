-- Patches that a module can take (the rules are ours).
use Rattle.std.specs.Prelude.{◌≡◌, ◌≢◌, ℕ, suc, ◌%◌, ◌^◌, ◌<◌, ◌≤◌, Bool, true, false, ◌||◌, IsTrue, IsSome, IfSome, List, [], ◌∷◌, ◌++◌, length, find, Contains, AllPairs, IsUtf8, MatchOption}
use Rattle.std.specs.List.{flat_map, AllByRecursion}
use Rattle.std.specs.Option.{IsSomeAnd, option_map_or}
use Rattle.std.specs.Str.{bytes_eq}
use Rattle.a64_inst.specs.declared.inst.Inst.{Inst}
use Rattle.a64_inst.specs.declared.inst.Inst.TheVariants as rows
use Rattle.a64_inst.specs.Kinds.{operand_kind, is_branch}
use Rattle.a64_inst.specs.Table.{row}
use Rattle.gt_model.specs.declared.intervals.Block.{Block}
use Rattle.gt_model.specs.declared.ir.Ir.{Ir}
use Rattle.gt_model.specs.declared.modules.Module.{Module}
use Rattle.gt_model.specs.declared.symbols.Symbol.{Symbol}
use Rattle.gt_model.specs.Nodes.{nodes, ids}
use Rattle.gt_model.specs.Typed.{IsId, IsU64, IsI64}
use Rattle.sym_expr.specs.declared.patches.FunLine.{FunLine}
use Rattle.sym_expr.specs.declared.patches.FunLine.TheVariants as lines
use Rattle.sym_expr.specs.declared.patches.Function.{Function}
use Rattle.sym_expr.specs.declared.patches.Insert.{Insert}
use Rattle.sym_expr.specs.declared.patches.PatchTable.{PatchTable}
use Rattle.sym_expr.specs.declared.patches.PatchTarget.{PatchTarget}
use Rattle.sym_expr.specs.declared.patches.PatchWord.{PatchWord}
use Rattle.sym_expr.specs.declared.patches.SymbolName.{SymbolName}
use Rattle.sym_expr.specs.declared.patches.SymbolName.TheVariants as names
use Rattle.sym_expr.specs.Derived.{derived, interval_text}
use Rattle.sym_expr.specs.Expressions.{is_bad_sum, aim_of}
use Rattle.sym_expr.specs.Modules.{is_code, size_of, block_of, blocks_of, loaded_intervals}
use Rattle.sym_expr.specs.Patches.{function_blocks}
use Rattle.sym_expr.specs.Targets.{function_block_id, patch_target}

abbrev pub line_words : FunLine → List PatchWord
line_words (lines.Label name) = []
line_words (lines.Word w) = w ∷ []

abbrev pub line_labels : FunLine → List (List ℕ)
line_labels (lines.Label name) = name ∷ []
line_labels (lines.Word w) = []

abbrev pub function_words : Function → List PatchWord
function_words f = flat_map line_words f.body

-- all words of the patches
abbrev pub patch_words : PatchTable → List PatchWord
patch_words p = flat_map (λ (i : Insert). i.body) p.inserts ++ flat_map function_words p.functions

-- the names that the patches bring
abbrev pub new_names : PatchTable → List (List ℕ)
new_names p = flat_map (λ (f : Function). f.name ∷ flat_map line_labels f.body) p.functions

-- an offset at which words can be inserted in a block
pub record IsSpot (offset : ℕ) (b : Block) : Type 0 where
  pub code : IsTrue (is_code b)
  pub whole : offset % 4 ≡ 0
  pub within : offset ≤ size_of b

pub record IsInsert (m : Module) (i : Insert) : Type 0 where
  pub spot : IsSomeAnd (block_of i.block (blocks_of (loaded_intervals m))) (IsSpot i.offset)
  pub body : i.body ≢ []

-- the name is none of the module's symbols'
abbrev pub IsNew : Module → List ℕ → Type 0
IsNew m name = AllByRecursion (λ (s : Symbol). name ≢ s.name) m.symbols

-- ADR, ADRP and loads of literals
abbrev pub is_literal_row : Inst → Bool
is_literal_row (rows.AdrAdrp op lo hi rd) = true
is_literal_row (rows.Literal opc imm19 rt) = true
is_literal_row _ = false

-- a word that makes no sense without a target: one of these, or a direct branch
abbrev pub is_aimed : ℕ → Bool
is_aimed word = is_branch word || option_map_or is_literal_row (row word) false

-- there is such a symbol of the module, or such a name
abbrev pub IsNamed : Module → PatchTable → SymbolName → Type 0
IsNamed m p (names.Old id) = IsSome (find (λ (s : Symbol). bytes_eq s.uuid id) m.symbols)
IsNamed m p (names.New name) = Contains (new_names p) name

-- a target of a word that has an operand
pub record IsTarget (m : Module) (p : PatchTable) (word : ℕ) (t : PatchTarget) : Type 0 where
  pub operand : IsSome (operand_kind word)
  pub named : IsNamed m p t.symbol
  pub good : is_bad_sum word t.offset (aim_of (loaded_intervals m) (patch_target m p t)) ≡ false

abbrev pub IsWord : Module → PatchTable → PatchWord → Type 0
IsWord m p w = MatchOption w.target (is_aimed w.word ≡ false) (IsTarget m p w.word)

-- the values of the patches' fields are of their types
abbrev pub typed_name : SymbolName → Type 0
typed_name (names.Old id) = IsId id
typed_name (names.New name) = IsUtf8 name

pub record typed_word (w : PatchWord) : Type 0 where
  pub word : w.word < 2 ^ 32
  pub target : IfSome w.target (λ (t : PatchTarget). typed_name t.symbol × IsI64 t.offset)

pub record typed_insert (i : Insert) : Type 0 where
  pub block : IsId i.block
  pub offset : IsU64 i.offset

pub record typed_patches (p : PatchTable) : Type 0 where
  pub inserts : AllByRecursion typed_insert p.inserts
  pub words : AllByRecursion typed_word (patch_words p)
  pub names : AllByRecursion IsUtf8 (new_names p)

-- the module can take the patches
pub record table_ok (m : Module) (p : PatchTable) : Type 0 where
  pub typed : typed_patches p
  pub inserts : AllByRecursion (IsInsert m) p.inserts
  pub distinct : AllPairs (λ a b. a ≢ b) (new_names p)
  pub new : AllByRecursion (IsNew m) (new_names p)
  pub bodies : AllByRecursion (λ (f : Function). function_words f ≢ []) p.functions
  pub words : AllByRecursion (IsWord m p) (patch_words p)
  pub few : length (patch_words p) ≤ 1048576

-- the identifiers of the blocks of a function, from the k-th on
abbrev pub block_ids : Module → Function → ℕ → List (List PatchWord) → List (List ℕ)
block_ids m f k [] = []
block_ids m f k (block ∷ rest) = function_block_id m f k ∷ block_ids m f (suc k) rest

-- the identifiers of the patches' intervals and blocks
abbrev pub new_ids : Module → PatchTable → List (List ℕ)
new_ids m p = flat_map (λ (f : Function). derived m.uuid (interval_text f.name) ∷ block_ids m f 0 (function_blocks f)) p.functions

-- they are distinct, and no node of the IR has one
pub record ids_ok (ir : Ir) (m : Module) (p : PatchTable) : Type 0 where
  pub distinct : AllPairs (λ a b. a ≢ b) (new_ids m p)
  pub free : AllByRecursion (λ id. Contains (ids (nodes ir)) id → ⊥) (new_ids m p)
