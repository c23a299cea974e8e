-- What two auxiliary tables of a module say, as finite maps: of several entries of one key the first counts.
use Rattle.std.specs.Prelude.{ℕ, zero, suc, ◌^◌, ◌%◌, ◌==◌, ◌&&◌, if◌then◌else◌, List, [], find, Option, None, Some, unwrap_or}
use Rattle.std.specs.Option.{option_map}
use Rattle.std.specs.Str.{bytes_eq}

-- the entries of `alignment`, by block, and those of `symbolicExpressionSizes`, by interval and offset
pub record Tables : Type 0 where
  pub alignment : List (List ℕ × ℕ)
  pub sizes : List ((List ℕ × ℕ) × ℕ)

-- where there is no such table
abbrev pub no_tables : Tables
no_tables = record { alignment = []; sizes = [] }

-- the alignment that the tables give a block, if they do
abbrev pub alignment_entry : Tables → List ℕ → Option ℕ
alignment_entry t id = option_map (λ (e : List ℕ × ℕ). e.1) (find (λ (e : List ℕ × ℕ). bytes_eq e.0 id) t.alignment)

-- the size of the expression at an offset of an interval
abbrev pub expr_size : Tables → List ℕ → ℕ → ℕ
expr_size t interval at =
    unwrap_or (option_map (λ (e : (List ℕ × ℕ) × ℕ). e.1) (find (λ (e : (List ℕ × ℕ) × ℕ). bytes_eq e.0.0 interval && (e.0.1 == at)) t.sizes)) 8

-- the greatest power of two, up to 2 ^ k, that divides both numbers
abbrev pub common_power : ℕ → ℕ → ℕ → ℕ
common_power zero a b = 1
common_power (suc k) a b = if (a % 2 ^ suc k == 0) && (b % 2 ^ suc k == 0) then 2 ^ suc k else common_power k a b

-- the effective alignment of a data block of a size at an offset, by the entry that the tables give it (ours)
abbrev pub effective : Option ℕ → ℕ → ℕ → ℕ
effective None size offset = 1
effective (Some entry) size offset = if size == 0 then 1 else if entry == 0 then 1 else common_power 12 entry offset
