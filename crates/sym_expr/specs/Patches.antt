-- Patches: what is inserted where, and the blocks that a function is cut into.
use Rattle.std.specs.Prelude.{ℕ, suc, Bool, true, false, ◌==◌, ◌||◌, if◌then◌else◌, List, [], ◌∷◌, map, filter, Option, Some, None}
use Rattle.std.specs.List.{flat_map}
use Rattle.std.specs.Option.{option_map_or}
use Rattle.std.specs.Str.{bytes_eq}
use Rattle.a64_inst.specs.declared.inst.Inst.{Inst}
use Rattle.a64_inst.specs.declared.inst.Inst.TheVariants as rows
use Rattle.a64_inst.specs.Kinds.{is_branch}
use Rattle.a64_inst.specs.Table.{row}
use Rattle.sym_expr.specs.declared.patches.FunLine.{FunLine}
use Rattle.sym_expr.specs.declared.patches.FunLine.TheVariants as lines
use Rattle.sym_expr.specs.declared.patches.Function.{Function}
use Rattle.sym_expr.specs.declared.patches.Insert.{Insert}
use Rattle.sym_expr.specs.declared.patches.PatchTable.{PatchTable}
use Rattle.sym_expr.specs.declared.patches.PatchWord.{PatchWord}

-- no patches
abbrev pub no_patches : PatchTable
no_patches = record { inserts = []; functions = [] }

-- the words inserted at each offset of a block, in the order of the patches
abbrev pub inserted_in : PatchTable → List ℕ → List (ℕ × PatchWord)
inserted_in p block =
    flat_map (λ (i : Insert). map (λ (w : PatchWord). (i.offset, w)) i.body) (filter (λ (i : Insert). bytes_eq i.block block) p.inserts)

-- those of one offset
abbrev pub inserted_at : {A : Type 0} → ℕ → List (ℕ × A) → List A
inserted_at {A} offset inserted = map (λ (w : ℕ × A). w.1) (filter (λ (w : ℕ × A). offset == w.0) inserted)

-- BR, BLR, RET
abbrev pub is_jump_row : Inst → Bool
is_jump_row (rows.BrBlrRet which rn) = true
is_jump_row _ = false

-- a word after which control may be elsewhere: a direct branch, or BR, BLR or RET
abbrev pub is_control : ℕ → Bool
is_control word = is_branch word || option_map_or is_jump_row (row word) false

-- each word of a function, and whether it begins a block: the first, one behind a label and one behind a control word (ours)
abbrev pub with_starts : Bool → List FunLine → List (Bool × PatchWord)
with_starts fresh [] = []
with_starts fresh (lines.Label name ∷ rest) = with_starts true rest
with_starts fresh (lines.Word w ∷ rest) = (fresh, w) ∷ with_starts (is_control w.word) rest

-- the words that follow begin a block, or there are none
abbrev pub begins : List (Bool × PatchWord) → Bool
begins [] = true
begins ((start, w) ∷ rest) = start

-- a word before the blocks that follow, in a block of its own or in the first of them
abbrev pub add_word : PatchWord → Bool → List (List PatchWord) → List (List PatchWord)
add_word w true blocks = (w ∷ []) ∷ blocks
add_word w false [] = (w ∷ []) ∷ []
add_word w false (block ∷ blocks) = (w ∷ block) ∷ blocks

abbrev pub cut : List (Bool × PatchWord) → List (List PatchWord)
cut [] = []
cut ((start, w) ∷ rest) = add_word w (begins rest) (cut rest)

-- the blocks of a function, each as its words
abbrev pub function_blocks : Function → List (List PatchWord)
function_blocks f = cut (with_starts true f.body)

-- a place in a function: the start of a block, by its number, or the end of the last
pub data FunPlace : Type 0 where
  Start : ℕ → FunPlace
  End : FunPlace

-- what stands behind a label: the block that begins there, or the end
abbrev pub place_behind : ℕ → List (Bool × PatchWord) → FunPlace
place_behind k [] = End
place_behind k (w ∷ rest) = Start k

-- the place of a label, where so many blocks began before these lines
abbrev pub label_in : List ℕ → ℕ → Bool → List FunLine → Option FunPlace
label_in label k fresh [] = None
label_in label k fresh (lines.Label name ∷ rest) = if bytes_eq label name then Some (place_behind k (with_starts true rest)) else label_in label k true rest
label_in label k fresh (lines.Word w ∷ rest) = label_in label (if fresh then suc k else k) (is_control w.word) rest

-- the place of a name: a function's is its start
abbrev pub name_in : List ℕ → Function → Option FunPlace
name_in name f = if bytes_eq name f.name then Some (Start 0) else label_in name 0 true f.body
