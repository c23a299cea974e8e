-- What stands in an interval, line by line.
use Rattle.std.specs.Prelude.{ℕ, zero, suc, ◌+◌, ◌-◌, ◌==◌, Bool, false, if◌then◌else◌, List, [], ◌∷◌, ◌++◌, codes, length, filter, take, drop, Option, None, Some}
use Rattle.std.specs.Fmt.{decimal}
use Rattle.std.specs.List.{flat_map, list_all}
use Rattle.std.specs.Option.{option_map_or}
use Rattle.hex.specs.Hex.{encode_lower}
use Rattle.gt_model.specs.declared.exprs.Expr.{Expr}
use Rattle.gt_model.specs.declared.exprs.ExprValue.{ExprValue}
use Rattle.gt_model.specs.declared.exprs.ExprValue.TheVariants as values
use Rattle.gt_model.specs.declared.intervals.Interval.{Interval}
use Rattle.gt_model.specs.declared.modules.Module.{Module}
use Rattle.gt_model.specs.declared.symbols.Symbol.{Symbol}
use Rattle.sym_expr.specs.declared.program.Filling.{Filling}
use Rattle.sym_expr.specs.declared.program.Filling.TheVariants.{Pointer, Difference, Entry}
use Rattle.sym_expr.specs.declared.program.Piece.{Piece}
use Rattle.sym_expr.specs.declared.program.Piece.TheVariants.{Code as CodePiece, Data as DataPiece, Gap}
use Rattle.sym_expr.specs.declared.program.Word.{Word}
use Rattle.sym_expr.specs.Images.{filling_size}
use Rattle.sym_expr.specs.Placing.{Placed}
use Rattle.sym_expr.specs.Program.{expr_at}
use Rattle.asm_spelling.specs.declared.named.Named.{Named}
use Rattle.asm_spelling.specs.declared.named.Named.TheVariants.{Nothing, Label}
use Rattle.asm_spelling.specs.Labels.{offset_text}
use Rattle.asm_spelling.specs.Words.{word_line}
use Rattle.asm_print.specs.Names.{entry_place, label_of, place_of, same_place}

-- a line of an item
abbrev pub item_line : List ℕ → List ℕ
item_line text = codes "    " ++ (text ++ codes "\n")

-- ---- what stands at a place before its item

abbrev pub is_at : List ℕ × ℕ → Option (List ℕ × ℕ) → Bool
is_at q place = option_map_or (λ p. same_place p q) place false

abbrev pub label_line : Module → Symbol → List ℕ
label_line m s = label_of m s.uuid ++ codes ":\n"

-- the labels of a place in the order of the symbols, and then the entry
abbrev pub marks_at : Module → List ℕ × ℕ → List ℕ
marks_at m q =
    flat_map (label_line m) (filter (λ (s : Symbol). is_at q (place_of m s)) m.symbols)
    ++ (if is_at q (entry_place m) then codes ".entry\n" else [])

abbrev pub marks : Module → Interval → ℕ → List ℕ
marks m i at = marks_at m (i.uuid, at)

-- ---- bytes

abbrev pub hex_line : List ℕ → List ℕ
hex_line bytes = item_line (codes ".hex " ++ encode_lower bytes)

-- bytes in lines of 32, the last of them shorter, by so many lines at most
abbrev pub hex_lines : ℕ → List ℕ → List ℕ
hex_lines zero bytes = []
hex_lines (suc n) [] = []
hex_lines (suc n) (b ∷ bytes) = hex_line (take 32 (b ∷ bytes)) ++ hex_lines n (drop 32 (b ∷ bytes))

-- bytes without a cut: zeros in one line
abbrev pub run_lines : List ℕ → List ℕ
run_lines bytes = if list_all (λ b. b == 0) bytes then item_line (codes ".zero " ++ decimal (length bytes)) else hex_lines (length bytes) bytes

-- the same at a place, if there are any
abbrev pub run : Module → Interval → ℕ → List ℕ → List ℕ
run m i at [] = []
run m i at (b ∷ bytes) = marks m i at ++ run_lines (b ∷ bytes)

-- ---- expressions

abbrev pub value_in : Interval → ℕ → ExprValue
value_in i at = option_map_or (λ (e : Expr). e.value) (expr_at at i) values.Nothing

-- what the operand of a word names
abbrev pub named_by : Module → ExprValue → Named
named_by m (values.AddrConst offset (Some id)) = Label (label_of m id) offset
named_by m _ = Nothing

abbrev pub sum_text : Module → ExprValue → List ℕ
sum_text m (values.AddrConst offset (Some id)) = label_of m id ++ offset_text offset
sum_text m _ = []

abbrev pub difference_text : Module → ExprValue → List ℕ
difference_text m (values.AddrAddr scale offset (Some a) (Some b)) = label_of m a ++ (codes "-" ++ (label_of m b ++ offset_text offset))
difference_text m _ = []

-- the directive of a number of bytes
abbrev pub directive : ℕ → List ℕ
directive size = if size == 1 then codes ".byte " else if size == 2 then codes ".hword " else if size == 4 then codes ".word " else codes ".quad "

-- a difference, by the scale by which it is divided
abbrev pub scaled : ℕ → List ℕ → List ℕ
scaled scale text = if scale == 1 then text else codes "(" ++ (text ++ (codes ")/" ++ decimal scale))

abbrev pub filling_text : Module → Filling → ExprValue → List ℕ
filling_text m (Pointer target) value = codes ".quad " ++ sum_text m value
filling_text m (Difference size p q) value = directive size ++ difference_text m value
filling_text m (Entry size scale p q) value = directive size ++ scaled scale (difference_text m value)

-- ---- pieces

-- words from a place on
abbrev pub word_lines : Module → Interval → ℕ → List Word → List ℕ
word_lines m i at [] = []
word_lines m i at (w ∷ ws) = marks m i at ++ (item_line (word_line w.word (named_by m (value_in i at))) ++ word_lines m i (at + 4) ws)

-- what stands for the expression at a place of data
abbrev pub filling_line : Module → Interval → ℕ → Filling → List ℕ
filling_line m i at f = marks m i at ++ item_line (filling_text m f (value_in i at))

-- bytes of data at a place, cut where there are expressions
abbrev pub data_lines : Module → Interval → ℕ → List ℕ → ℕ → List (ℕ × Filling) → List ℕ
data_lines m i at bytes from [] = run m i (at + from) (drop from bytes)
data_lines m i at bytes from (f ∷ fs) =
    run m i (at + from) (take (f.0 - from) (drop from bytes))
    ++ (filling_line m i (at + f.0) f.1 ++ data_lines m i at bytes (f.0 + filling_size f.1) fs)

abbrev pub piece_lines : Module → Interval → ℕ → Piece → List ℕ
piece_lines m i at (CodePiece b) = word_lines m i at b.own
piece_lines m i at (DataPiece b) = data_lines m i at b.bytes 0 b.fillings
piece_lines m i at (Gap bytes) = run m i at bytes

abbrev pub placed_lines : Module → Interval → Placed → List ℕ
placed_lines m i x = piece_lines m i x.at x.piece
