-- The program of a module and its patches: all that machines, layouts and images ask, as lists.
use Rattle.std.specs.Prelude.{ℕ, zero, suc, ◌+◌, ◌-◌, ◌*◌, ◌/◌, pos, Bool, ◌==◌, if◌then◌else◌, List, [], ◌∷◌, ◌++◌, length, map, filter, find, Option, None, Some, unwrap_or}
use Rattle.std.specs.List.{flat_map, filter_map, list_any}
use Rattle.std.specs.Option.{option_map, option_and_then}
use Rattle.gt_model.specs.declared.exprs.Expr.{Expr}
use Rattle.gt_model.specs.declared.exprs.ExprValue.{ExprValue}
use Rattle.gt_model.specs.declared.exprs.ExprValue.TheVariants as values
use Rattle.gt_model.specs.declared.intervals.Block.{Block}
use Rattle.gt_model.specs.declared.intervals.Interval.{Interval}
use Rattle.gt_model.specs.declared.modules.Module.{Module}
use Rattle.gt_model.specs.declared.modules.Section.{Section}
use Rattle.sym_expr.specs.declared.difference.DifferenceForm.{DifferenceForm}
use Rattle.sym_expr.specs.declared.patches.Function.{Function}
use Rattle.sym_expr.specs.declared.patches.PatchTable.{PatchTable}
use Rattle.sym_expr.specs.declared.patches.PatchWord.{PatchWord}
use Rattle.sym_expr.specs.declared.program.CodeBlock.{CodeBlock}
use Rattle.sym_expr.specs.declared.program.DataBlock.{DataBlock}
use Rattle.sym_expr.specs.declared.program.Filling.{Filling}
use Rattle.sym_expr.specs.declared.program.Filling.TheVariants.{Pointer, Difference, Entry}
use Rattle.sym_expr.specs.declared.program.Piece.{Piece}
use Rattle.sym_expr.specs.declared.program.Piece.TheVariants.{Code as CodePiece, Data as DataPiece, Gap}
use Rattle.sym_expr.specs.declared.program.Program.{Program}
use Rattle.sym_expr.specs.declared.program.Stretch.{Stretch}
use Rattle.sym_expr.specs.declared.program.Word.{Word}
use Rattle.sym_expr.specs.Derived.{derived, interval_text}
use Rattle.sym_expr.specs.Differences.{form_of}
use Rattle.sym_expr.specs.Modules.{loaded_sections, is_code, id_of, size_of, end_of, covers, in_order, bytes_at, word_of, has_id}
use Rattle.sym_expr.specs.Patches.{inserted_in, function_blocks}
use Rattle.sym_expr.specs.Tables.{Tables, alignment_entry, expr_size}
use Rattle.sym_expr.specs.declared.target.Target.{Target}
use Rattle.sym_expr.specs.Targets.{old_target, word_target, function_block_id, start_of}

-- what an expression of a code block names
abbrev pub code_target : Module → PatchTable → ExprValue → Option Target
code_target m p (values.AddrConst offset symbol) = option_map (λ id. old_target m p id offset) symbol
code_target m p values.Nothing = None
code_target m p (values.AddrAddr scale offset first second) = None

-- the expression at an offset of an interval
abbrev pub expr_at : ℕ → Interval → Option Expr
expr_at at i = find (λ (e : Expr). at == e.at) i.exprs

abbrev pub own_word : Module → PatchTable → Interval → ℕ → Word
own_word m p i at = record {
  word = word_of i at;
  target = option_and_then (λ (e : Expr). code_target m p e.value) (expr_at at i);
}

-- so many words from an offset on
abbrev pub own_words : Module → PatchTable → Interval → ℕ → ℕ → List Word
own_words m p i at zero = []
own_words m p i at (suc n) = own_word m p i at ∷ own_words m p i (at + 4) n

-- a word of the patches
abbrev pub patched_word : Module → PatchTable → PatchWord → Word
patched_word m p w = record { word = w.word; target = word_target m p w }

abbrev pub code_block : Module → PatchTable → Interval → Block → CodeBlock
code_block m p i b = record {
  id = id_of b;
  offset = b.offset;
  own = own_words m p i b.offset (size_of b / 4);
  inserted = map (λ (w : ℕ × PatchWord). (w.0, patched_word m p w.1)) (inserted_in p (id_of b));
}

-- a difference in a form
abbrev pub difference_in : Target → Target → DifferenceForm → Filling
difference_in p q f = if f.is_entry then Entry f.size f.scale p q else Difference f.size p q

-- what stands for an expression of a data block that has so many bytes
abbrev pub filling : Module → PatchTable → ℕ → ExprValue → Option Filling
filling m p size values.Nothing = None
filling m p size (values.AddrConst offset symbol) = option_map (λ id. Pointer (old_target m p id offset)) symbol
filling m p size (values.AddrAddr scale offset first second) = do_both first second (λ a b. option_map (difference_in (old_target m p a offset) (old_target m p b (pos 0))) (form_of size scale))
  where
    do_both : Option (List ℕ) → Option (List ℕ) → (List ℕ → List ℕ → Option Filling) → Option Filling
    do_both a b f = option_and_then (λ x. option_and_then (λ y. f x y) b) a

-- the same with its offset in the block
abbrev pub filling_at : Module → Tables → PatchTable → Interval → Block → Expr → Option (ℕ × Filling)
filling_at m t p i b e = option_map (λ f. (e.at - b.offset, f)) (filling m p (expr_size t i.uuid e.at) e.value)

abbrev pub data_block : Module → Tables → PatchTable → Interval → Block → DataBlock
data_block m t p i b = record {
  id = id_of b;
  offset = b.offset;
  bytes = bytes_at i b.offset (size_of b);
  fillings = filter_map (filling_at m t p i b) (filter (λ (e : Expr). covers e.at b) i.exprs);
  alignment = alignment_entry t (id_of b);
}

abbrev pub piece : Module → Tables → PatchTable → Interval → Block → Piece
piece m t p i b = if is_code b then CodePiece (code_block m p i b) else DataPiece (data_block m t p i b)

-- the bytes from one offset up to another, if there are any
abbrev pub gap : Interval → ℕ → ℕ → List Piece
gap i from to = if to - from == 0 then [] else Gap (bytes_at i from (to - from)) ∷ []

-- the pieces from an offset on, with these blocks in order
abbrev pub pieces : Module → Tables → PatchTable → Interval → ℕ → List Block → List Piece
pieces m t p i at [] = gap i at i.size
pieces m t p i at (b ∷ bs) = gap i at b.offset ++ piece m t p i b ∷ pieces m t p i (end_of b) bs

abbrev pub stretch : Module → Tables → PatchTable → Interval → Stretch
stretch m t p i = record {
  id = i.uuid;
  address = if i.has_address then Some i.address else None;
  pieces = pieces m t p i 0 (in_order i.blocks);
}

-- the blocks of a function, from the k-th on, which stands at this offset
abbrev pub function_pieces : Module → PatchTable → Function → ℕ → ℕ → List (List PatchWord) → List Piece
function_pieces m p f k at [] = []
function_pieces m p f k at (words ∷ rest) =
    CodePiece (record { id = function_block_id m f k; offset = at; own = map (patched_word m p) words; inserted = [] })
    ∷ function_pieces m p f (suc k) (at + 4 * length words) rest

-- each function is an interval of its own
abbrev pub function_stretch : Module → PatchTable → Function → Stretch
function_stretch m p f = record {
  id = derived m.uuid (interval_text f.name);
  address = None;
  pieces = function_pieces m p f 0 0 (function_blocks f);
}

abbrev pub entry_of : Module → List ℕ
entry_of m = unwrap_or m.entry []

-- the section has the entry
abbrev pub has_entry : Module → Section → Bool
has_entry m s = list_any (λ (i : Interval). list_any (has_id (entry_of m)) i.blocks) s.intervals

abbrev pub section_stretches : Module → Tables → PatchTable → Section → List Stretch
section_stretches m t p s = map (stretch m t p) s.intervals ++ (if has_entry m s then map (function_stretch m p) p.functions else [])

abbrev pub program : Module → Tables → PatchTable → Program
program m t p = record {
  stretches = flat_map (section_stretches m t p) (loaded_sections m);
  entry = start_of (entry_of m);
}
