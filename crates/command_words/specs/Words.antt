-- The words of the command line: a job, and then words NAME=VALUE, each name at most once.
use Rattle.std.specs.Prelude.{◌≡◌, ◌<◌, ℕ, ◌⊎◌, Bool, true, false, ◌&&◌, ◌==◌, nat_lt, nat_le, List, [], ◌∷◌, length, take, slice_index_or, Option, Some, None, is_some, is_none, if◌then◌else◌}
use Rattle.std.specs.List.{position_or_len, before_first, after_first, list_any}
use Rattle.std.specs.Option.{option_and_then, option_map, option_map_or, option_or}
use Rattle.command_words.specs.declared.table.Job.{Job}
use Rattle.command_words.specs.declared.table.WordName.{WordName}
use Rattle.command_words.specs.declared.table.Kind.{Kind}
use Rattle.command_words.specs.declared.words.Said.{Said}
use Rattle.command_words.specs.declared.table.Kind.TheVariants.{File, Number, Flags}
use Rattle.command_words.specs.Numbers.{bounded, are_flags}
use Rattle.command_words.specs.Table.{job_named, name_named, required_of, same_name, takes}

-- the name of a file has 1 to 4,096 bytes
abbrev pub is_file_name : List ℕ → Bool
is_file_name value = nat_lt 0 (length value) && nat_le (length value) 4096

-- what may stand behind the `=` of a name
abbrev pub fits : Kind → List ℕ → Bool
fits File value = is_file_name value
fits (Number bounds) value = is_some (bounded bounds value)
fits Flags value = are_flags value

-- is this byte `=`
abbrev pub is_equals : ℕ → Bool
is_equals byte = byte == 61

-- what a word says: its name, what may stand behind the `=`, and what does
pub record Given : Type 0 where
  pub name : WordName
  pub kind : Kind
  pub value : List ℕ

abbrev pub given : WordName → Kind → List ℕ → Given
given name kind value = record { name = name; kind = kind; value = value }

-- what the program's own value says
abbrev pub given_view : Said → Given
given_view p = given p.name p.kind p.value.now

-- what a word says, where a name stands before its first `=`
abbrev pub word_parts : List ℕ → Option Given
word_parts word =
    if nat_lt (position_or_len is_equals word) (length word)
    then option_map (λ row. given row.name row.kind (after_first is_equals word)) (name_named (before_first is_equals word))
    else None

-- the value that a word gives to a name
abbrev pub value_at : WordName → List ℕ → Option (List ℕ)
value_at name word =
    option_and_then (λ said. if same_name said.name name then Some said.value else None) (word_parts word)

-- the value that the first word of a name gives
abbrev pub value_of : WordName → List (List ℕ) → Option (List ℕ)
value_of name [] = None
value_of name (word ∷ words) = option_or (value_at name word) (value_of name words)

-- may a word of this name and value stand behind others of the job
abbrev pub may_follow : Job → List (List ℕ) → Given → Bool
may_follow job earlier said = takes job said.name && is_none (value_of said.name earlier) && fits said.kind said.value

-- does a word keep the rules behind the earlier ones: the first is a job, each other gives a name of
-- the job that none gave before a value that fits
abbrev pub is_fine : List (List ℕ) → List ℕ → Bool
is_fine [] word = is_some (job_named word)
is_fine (first ∷ earlier) word =
    option_map_or (λ job. option_map_or (may_follow job earlier) (word_parts word) false) (job_named first) false

-- is a name wanting that the job requires
abbrev pub lacks_any : Job → List (List ℕ) → Bool
lacks_any job words = list_any (λ name. is_none (value_of name words)) (required_of job)

-- is a name wanting that the job requires, or the job itself
abbrev pub is_short : List (List ℕ) → Bool
is_short [] = true
is_short (first ∷ words) = option_map_or (λ job. lacks_any job words) (job_named first) true

-- each of the first words keeps the rules
abbrev pub FineBelow : List (List ℕ) → ℕ → Type 0
FineBelow words count = (k : ℕ) → k < count → is_fine (take k words) (slice_index_or words k []) ≡ true

-- the words are those of a job
pub record WordsOk (words : List (List ℕ)) : Type 0 where
  pub fine : FineBelow words (length words)
  pub whole : is_short words ≡ false

-- the first word that breaks the rules, or the number of words where only a required one is missing
pub record Usage (words : List (List ℕ)) (index : ℕ) : Type 0 where
  pub fine : FineBelow words index
  pub breaks : ((index < length words) × (is_fine (take index words) (slice_index_or words index []) ≡ false))
      ⊎ ((index ≡ length words) × (is_short words ≡ true))
