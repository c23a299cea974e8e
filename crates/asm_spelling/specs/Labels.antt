-- How labels and offsets are written.
use Rattle.std.specs.Prelude.{ℕ, ℤ, pos, Bool, false, true, ◌&&◌, ◌||◌, nat_lt, int_lt, if◌then◌else◌, List, [], ◌∷◌, ◌++◌, codes}
use Rattle.std.specs.Fmt.{decimal, signed_decimal}
use Rattle.std.specs.List.{list_all}
use Rattle.std.specs.Char.{is_ascii_digit}
use Rattle.asm_lines.specs.Labels.{begins_bare, quoted}

-- a byte of a name without quotes
abbrev pub is_bare_byte : ℕ → Bool
is_bare_byte b = begins_bare b || is_ascii_digit b

-- the name can stand without quotes
abbrev pub is_bare : List ℕ → Bool
is_bare [] = false
is_bare (b ∷ bytes) = begins_bare b && list_all is_bare_byte bytes

-- a name, bare where it can be
abbrev pub name_text : List ℕ → List ℕ
name_text name = if is_bare name then name else quoted name

-- which of the symbols of a name is meant: from the second on
abbrev pub ordinal_text : ℕ → List ℕ
ordinal_text k = if nat_lt 1 k then codes "#" ++ decimal k else []

-- the label of the k-th symbol of a name, counted from 1
abbrev pub label_text : List ℕ → ℕ → List ℕ
label_text name k = name_text name ++ ordinal_text k

-- how far from a label, left out for 0
abbrev pub offset_text : ℤ → List ℕ
offset_text z = if int_lt z (pos 0) then signed_decimal z else if int_lt (pos 0) z then codes "+" ++ signed_decimal z else []
