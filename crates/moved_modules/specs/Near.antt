-- Own words that stand before an offset.
use Rattle.std.specs.Prelude.{ℕ, ◌<◌}
use Rattle.block_parts.specs.declared.words.Origin.{Origin}
use Rattle.block_parts.specs.declared.words.Origin.TheVariants.{Own, Inserted}
use Rattle.block_parts.specs.declared.words.PatchedWord.{PatchedWord}

-- the word is an inserted one, or stands before an offset
abbrev pub IsBefore : ℕ → Origin → Type 0
IsBefore end (Own offset) = offset < end
IsBefore end (Inserted k) = Unit {0}

abbrev pub IsNear : ℕ → PatchedWord → Type 0
IsNear end w = IsBefore end w.origin
