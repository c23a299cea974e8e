-- Parts of an image's bytes.
use Rattle.std.specs.Prelude.{ℕ, List}
use Rattle.std.specs.List.{flat_map}
use Rattle.sym_expr.specs.declared.layout.Layout.{Layout}
use Rattle.sym_expr.specs.declared.program.Program.{Program}
use Rattle.sym_expr.specs.declared.program.Word.{Word}
use Rattle.sym_expr.specs.Images.{bytes_of, filled_word, fit_or, words_at}

-- the bytes of words at an address
abbrev pub words_bytes : Layout → Program → ℕ → List Word → List ℕ
words_bytes l g at words = flat_map (λ (w : ℕ × Word). bytes_of 4 (fit_or w.1.word (filled_word l g w.0 w.1))) (words_at at words)
