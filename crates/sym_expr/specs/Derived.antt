-- Identifiers that are derived from a module's: version 5 of RFC 9562 of a text (the texts are ours).
use Rattle.std.specs.Prelude.{ℕ, List, ◌++◌, take, codes}
use Rattle.std.specs.Fmt.{decimal}
use Rattle.sha1.specs.Sha1.{sha1}
use Rattle.uuid.specs.Parts.{with_variant, with_version}
use Rattle.uuid.specs.Text.{hyphenated_text, lower}
use Rattle.uuid.specs.declared.Variant.TheVariants.{RFC4122}
use Rattle.uuid.specs.declared.Version.TheVariants.{Sha1}

abbrev pub derived : List ℕ → List ℕ → List ℕ
derived namespace text = with_version (with_variant (take 16 (sha1 (namespace ++ text))) RFC4122) Sha1

-- a later part of a block, which begins at this offset from the block's new start
abbrev pub part_text : List ℕ → ℕ → List ℕ
part_text block offset = codes "part/" ++ hyphenated_text lower block ++ codes "/" ++ decimal offset

-- a function, its interval, its blocks from 0, and the symbol of a name
abbrev pub function_text : List ℕ → List ℕ
function_text name = codes "function/" ++ name

abbrev pub interval_text : List ℕ → List ℕ
interval_text name = codes "interval/" ++ name

abbrev pub block_text : List ℕ → ℕ → List ℕ
block_text name k = codes "block/" ++ name ++ codes "/" ++ decimal k

abbrev pub symbol_text : List ℕ → List ℕ
symbol_text name = codes "symbol/" ++ name
