-- What is kept of intervals and labels by their identifiers and names.
use Rattle.std.specs.Prelude.{◌<◌, ℕ, ◌+◌, ◌^◌, ◌==◌, ◌&&◌, nat_eq, Bool, List, Option, String, find, unwrap_or}
use Rattle.std.specs.HashMap.{HashMap, get, get_by_text}
use Rattle.std.specs.Option.{option_and_then, option_map}
use Rattle.std.specs.Str.{bytes_eq}
use Rattle.asm_modules.specs.declared.module.AsmAt.{AsmAt}
use Rattle.asm_modules.specs.declared.module.AsmAt.TheVariants as ats
use Rattle.asm_modules.specs.declared.module.AsmLabel.{AsmLabel}

-- an absolute address, or a place behind the address that is kept of its interval
abbrev pub value_by : (List ℕ → Option ℕ) → AsmAt → ℕ
value_by kept (ats.Absolute value) = value
value_by kept (ats.Inside uuid offset) = unwrap_or (kept uuid) 0 + offset

-- the address of a label is a number of 64 bits
abbrev pub FitsBy : (List ℕ → Option ℕ) → AsmLabel → Type 0
FitsBy kept label = value_by kept label.at < 2 ^ 64

-- the label has the name and the ordinal
abbrev pub has_name : List ℕ → ℕ → AsmLabel → Bool
has_name name k label = bytes_eq name label.name && (k == label.ordinal)

-- the address of the first label of a name and an ordinal
abbrev pub label_by : (List ℕ → Option ℕ) → List AsmLabel → List ℕ → ℕ → Option ℕ
label_by kept labels name k = option_map (λ (x : AsmLabel). value_by kept x.at) (find (has_name name k) labels)

-- the address that is kept of a name and an ordinal
abbrev pub kept_at : {X S T : Type 0} → HashMap (String X) (HashMap ℕ ℕ S) T → List ℕ → ℕ → Option ℕ
kept_at labels name k = option_and_then (λ ordinals. get nat_eq ordinals k) (get_by_text labels name)
