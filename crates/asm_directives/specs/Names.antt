-- The names of directives.
use Rattle.std.specs.Prelude.{ℕ, List, Option, Some, None, codes, if◌then◌else◌}
use Rattle.std.specs.Str.{bytes_eq}
use Rattle.asm_directives.specs.declared.directive.Directive.{Directive}
use Rattle.asm_directives.specs.declared.directive.Directive.TheVariants.{Set, Section, Interval, Entry, Hex, Zero, Quad, Word, Byte, Hword, Inst}

-- the directives that mark places
abbrev pub mark_of : List ℕ → Option Directive
mark_of word =
    if bytes_eq word (codes ".set") then Some Set
    else if bytes_eq word (codes ".section") then Some Section
    else if bytes_eq word (codes ".interval") then Some Interval
    else if bytes_eq word (codes ".entry") then Some Entry
    else None

-- those of bytes
abbrev pub bytes_of : List ℕ → Option Directive
bytes_of word =
    if bytes_eq word (codes ".hex") then Some Hex
    else if bytes_eq word (codes ".zero") then Some Zero
    else if bytes_eq word (codes ".inst") then Some Inst
    else None

-- those of addresses and differences
abbrev pub value_of : List ℕ → Option Directive
value_of word =
    if bytes_eq word (codes ".quad") then Some Quad
    else if bytes_eq word (codes ".word") then Some Word
    else if bytes_eq word (codes ".byte") then Some Byte
    else if bytes_eq word (codes ".hword") then Some Hword
    else None
