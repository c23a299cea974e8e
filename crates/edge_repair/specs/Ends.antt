-- How the new blocks end: parts of blocks, and blocks of functions.
use Rattle.std.specs.Prelude.{ℕ, suc, List, [], ◌∷◌, ◌++◌, find, if◌then◌else◌, Option, Some, None, slice_get}
use Rattle.std.specs.List.{flat_map, filter_map}
use Rattle.std.specs.Option.{option_map, option_and_then}
use Rattle.std.specs.Str.{bytes_eq}
use Rattle.block_parts.specs.declared.parts.Part.{Part}
use Rattle.block_parts.specs.declared.words.Origin.{Origin}
use Rattle.block_parts.specs.declared.words.Origin.TheVariants.{Own, Inserted}
use Rattle.block_parts.specs.declared.words.PatchedWord.{PatchedWord}
use Rattle.block_parts.specs.Parts.{parts}
use Rattle.gt_model.specs.declared.intervals.Block.{Block}
use Rattle.gt_model.specs.declared.intervals.Interval.{Interval}
use Rattle.gt_model.specs.declared.modules.Module.{Module}
use Rattle.gt_model.specs.declared.symbols.Payload.{Payload}
use Rattle.gt_model.specs.declared.symbols.Payload.TheVariants as payloads
use Rattle.gt_model.specs.declared.symbols.Symbol.{Symbol}
use Rattle.rewrite.specs.Exprs.{news_of}
use Rattle.rewrite.specs.Identifiers.{part_id}
use Rattle.rewrite.specs.Symbols.{holder, is_end}
use Rattle.sym_expr.specs.declared.patches.Function.{Function}
use Rattle.sym_expr.specs.declared.patches.PatchTable.{PatchTable}
use Rattle.sym_expr.specs.declared.patches.PatchTarget.{PatchTarget}
use Rattle.sym_expr.specs.declared.patches.PatchWord.{PatchWord}
use Rattle.sym_expr.specs.declared.patches.SymbolName.{SymbolName}
use Rattle.sym_expr.specs.declared.patches.SymbolName.TheVariants as names
use Rattle.sym_expr.specs.declared.program.CodeBlock.{CodeBlock}
use Rattle.sym_expr.specs.Modules.{block_of, blocks_of, id_of, is_code, loaded_intervals}
use Rattle.sym_expr.specs.Patches.{FunPlace, function_blocks, name_in}
use Rattle.sym_expr.specs.Points.{code_of}
use Rattle.sym_expr.specs.Program.{stretch}
use Rattle.sym_expr.specs.Tables.{Tables}
use Rattle.sym_expr.specs.Targets.{function_block_id}

-- the end of a new block: its identifier, its last word, that word where patches brought it, and the part or block of the
-- function that follows
pub record End : Type 0 where
  pub id : List ℕ
  pub word : Option ℕ
  pub brought : Option PatchWord
  pub next : Option (List ℕ)

-- the first and the last of several
abbrev pub first_of : {A : Type 0} → List A → Option A
first_of [] = None
first_of (x ∷ xs) = Some x

abbrev pub last_of : {A : Type 0} → List A → Option A
last_of [] = None
last_of (x ∷ []) = Some x
last_of (x ∷ next ∷ rest) = last_of (next ∷ rest)

-- ---- parts of blocks

-- the word of the patches that a word is, where these are inserted in its block
abbrev pub brought_by : List PatchWord → Origin → Option PatchWord
brought_by news (Own offset) = None
brought_by news (Inserted k) = slice_get news k

abbrev pub part_end : Module → PatchTable → List ℕ → Part → Option Part → End
part_end m p block q next = record {
  id = part_id m block q;
  word = option_map (λ (w : PatchedWord). w.word) (last_of q.words);
  brought = option_and_then (λ (w : PatchedWord). brought_by (news_of p block) w.origin) (last_of q.words);
  next = option_map (part_id m block) next;
}

abbrev pub part_ends : Module → PatchTable → List ℕ → List Part → List End
part_ends m p block [] = []
part_ends m p block (q ∷ qs) = part_end m p block q (first_of qs) ∷ part_ends m p block qs

-- the module's code blocks in loaded intervals, in block order
abbrev pub own_blocks : Module → Tables → PatchTable → List CodeBlock
own_blocks m t p = flat_map (λ (i : Interval). filter_map code_of (stretch m t p i).pieces) (loaded_intervals m)

-- ---- blocks of functions

abbrev pub function_end : Module → Function → ℕ → List PatchWord → Option (List PatchWord) → End
function_end m f k words next = record {
  id = function_block_id m f k;
  word = option_map (λ (w : PatchWord). w.word) (last_of words);
  brought = last_of words;
  next = option_map (λ (others : List PatchWord). function_block_id m f (suc k)) next;
}

-- those of the blocks from the k-th on
abbrev pub function_ends : Module → Function → ℕ → List (List PatchWord) → List End
function_ends m f k [] = []
function_ends m f k (words ∷ rest) = function_end m f k words (first_of rest) ∷ function_ends m f (suc k) rest

-- ---- all of them

-- the parts of blocks in block order, and then the blocks of functions
abbrev pub ends : Module → Tables → PatchTable → List End
ends m t p =
    flat_map (λ (b : CodeBlock). part_ends m p b.id (parts b)) (own_blocks m t p)
    ++ flat_map (λ (f : Function). function_ends m f 0 (function_blocks f)) p.functions

-- ---- where a target leads

-- a code block of a loaded section
abbrev pub code_block_id : Module → List ℕ → Option (List ℕ)
code_block_id m id = option_and_then (λ (b : Block). if is_code b then Some (id_of b) else None) (block_of id (blocks_of (loaded_intervals m)))

abbrev pub payload_start : Module → Payload → Option (List ℕ)
payload_start m payloads.Nothing = None
payload_start m (payloads.Value value) = None
payload_start m (payloads.Referent id) = code_block_id m id

-- a symbol at the end of a block is at the start of none
abbrev pub symbol_start : Module → Symbol → Option (List ℕ)
symbol_start m s = if s.at_end then None else payload_start m s.payload

abbrev pub place_start : Module → Function → FunPlace → Option (List ℕ)
place_start m f place = if is_end place then None else Some (holder m f place)

-- the code block at whose start a symbol of the module, or a name of the patches, is
abbrev pub name_start : Module → PatchTable → SymbolName → Option (List ℕ)
name_start m p (names.Old id) = option_and_then (symbol_start m) (find (λ (s : Symbol). bytes_eq s.uuid id) m.symbols)
name_start m p (names.New name) = first_of (filter_map (λ (f : Function). option_and_then (place_start m f) (name_in name f)) p.functions)

abbrev pub target_start : Module → PatchTable → PatchTarget → Option (List ℕ)
target_start m p t = name_start m p t.symbol
