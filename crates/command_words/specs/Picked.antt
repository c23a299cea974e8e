-- What the words ask for: a job, the files that they name, and the other values with their defaults.
use Rattle.std.specs.Prelude.{ℕ, List, [], ◌∷◌, Option, None, unwrap_or}
use Rattle.std.specs.Option.{option_and_then, option_map}
use Rattle.command_words.specs.declared.role.Role.{Role}
use Rattle.command_words.specs.declared.table.Bounds.{Bounds}
use Rattle.command_words.specs.declared.table.Job.{Job}
use Rattle.command_words.specs.declared.table.WordName.{WordName}
use Rattle.command_words.specs.declared.table.WordName.TheVariants.{Out, Module, Plain, Isa, Steps, Seed, Blocks}
use Rattle.command_words.specs.declared.table.TheConstants.{MODULE, ISA, STEPS, SEED, BLOCKS}
use Rattle.command_words.specs.declared.words.Settings.{Settings}
use Rattle.command_words.specs.declared.words.Picked as declared
use Rattle.command_words.specs.Numbers.{bounded, IsWithin}
use Rattle.command_words.specs.Table.{job_named, role_word}
use Rattle.command_words.specs.Words.{value_of}

-- what the words ask for
pub record Picked : Type 0 where
  pub job : Job
  -- the name of the input file of each role, if a word gives it
  pub file : Role → Option (List ℕ)
  -- the name of the file that is written, if a word gives it
  pub out : Option (List ℕ)
  -- what a word says of the flags that are plain, if there is one
  pub plain : Option (List ℕ)
  pub settings : Settings

-- the number that words give a name, or the one that stands where none does
abbrev pub number_in : WordName → Bounds → List (List ℕ) → ℕ
number_in name bounds words = unwrap_or (option_and_then (bounded bounds) (value_of name words)) bounds.unsaid

-- what the words behind the job say that names no file
abbrev pub settings_of : List (List ℕ) → Settings
settings_of words = record {
  ordinal = number_in Module MODULE words;
  isa = number_in Isa ISA words;
  steps = number_in Steps STEPS words;
  seed = number_in Seed SEED words;
  blocks = number_in Blocks BLOCKS words;
}

-- each number is within its bounds
abbrev pub InBounds : Settings → Type 0
InBounds settings =
    IsWithin MODULE settings.ordinal × IsWithin ISA settings.isa × IsWithin STEPS settings.steps × IsWithin SEED settings.seed
    × IsWithin BLOCKS settings.blocks

-- what the words behind a job ask for
abbrev pub asked : Job → List (List ℕ) → Settings → Picked
asked job words settings = record {
  job = job;
  file = λ role. value_of (role_word role) words;
  out = value_of Out words;
  plain = value_of Plain words;
  settings = settings;
}

-- what the words ask for, where the first names a job
abbrev pub picked : List (List ℕ) → Option Picked
picked [] = None
picked (first ∷ words) = option_map (λ job. asked job words (settings_of words)) (job_named first)

-- what the program's own value asks for
abbrev pub picked_view : declared.Picked → Picked
picked_view p = asked p.job p.words.now p.settings
