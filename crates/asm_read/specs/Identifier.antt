-- Identifiers in texts.
use Rattle.std.specs.Prelude.{ℕ, List, Option}
use Rattle.uuid.specs.Text.{parsed_hyphenated}

-- the identifier of 8, 4, 4, 4 and 12 hexadecimal digits with hyphens between, letters in either case, after RFC 9562
abbrev pub identifier_of : List ℕ → Option (List ℕ)
identifier_of word = parsed_hyphenated word
