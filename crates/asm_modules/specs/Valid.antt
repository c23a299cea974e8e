-- Which modules of assembly there are.
use Rattle.std.specs.Prelude.{◌≡◌, ◌≢◌, ◌⊎◌, ◌<◌, ◌≤◌, ◌%◌, ◌^◌, ◌==◌, ◌&&◌, ℕ, Bool, IfSome, IsSome, IsTrue, IsUtf8, Some, None, List, [], ◌∷◌, ◌++◌, AllPairs, length, sum_by}
use Rattle.std.specs.List.{AllByRecursion, list_any}
use Rattle.std.specs.Str.{bytes_eq}
use Rattle.a64_inst.specs.Kinds.{operand_kind}
use Rattle.gt_model.specs.Typed.{AreBytes, IsI64, IsId, IsU64}
use Rattle.asm_lines.specs.declared.line.AsmItem.{AsmItem}
use Rattle.asm_lines.specs.declared.line.AsmItem.TheVariants as items
use Rattle.asm_lines.specs.declared.line.AsmName.{AsmName}
use Rattle.asm_modules.specs.declared.module.AsmAt.{AsmAt}
use Rattle.asm_modules.specs.declared.module.AsmAt.TheVariants as ats
use Rattle.asm_modules.specs.declared.module.AsmInterval.{AsmInterval}
use Rattle.asm_modules.specs.declared.module.AsmLabel.{AsmLabel}
use Rattle.asm_modules.specs.declared.module.AsmModule.{AsmModule}
use Rattle.asm_modules.specs.Faults.{item_names, ordinal_of}
use Rattle.asm_modules.specs.Places.{item_size}

-- ---- intervals

-- a power of two up to 4096
abbrev pub IsAlignment : ℕ → Type 0
IsAlignment n = (k : ℕ) × (k ≤ 12) × (n ≡ 2 ^ k)

-- a place in a page of 4096 bytes that suits the alignment
abbrev pub IsResidue : ℕ → ℕ → Type 0
IsResidue align r = (r < 4096) × (r % align ≡ 0)

-- an entry of a table has one byte or two and any scale, or four bytes and the scale 4
abbrev pub IsEntry : (size scale : ℕ) → Type 0
IsEntry size scale = (((size ≡ 1) ⊎ (size ≡ 2)) × ((scale ≡ 1) ⊎ (scale ≡ 4))) ⊎ ((size ≡ 4) × (scale ≡ 4))

-- one byte or more, at most 2^24 zeros, and words of 32 bits, which have an operand where an expression fills it
abbrev pub IsItem : AsmItem → Type 0
IsItem (items.Bytes bytes) = (bytes ≢ []) × AreBytes bytes
IsItem (items.Zero count) = count ≤ 2 ^ 24
IsItem (items.Quad e) = IsI64 e.offset
IsItem (items.QuadDiff first second offset) = IsI64 offset
IsItem (items.WordDiff first second offset) = IsI64 offset
IsItem (items.Entry size scale first second) = IsEntry size scale
IsItem (items.Word word None) = word < 2 ^ 32
IsItem (items.Word word (Some e)) = (word < 2 ^ 32) × IsSome (operand_kind word) × IsI64 e.offset

pub record IsInterval (i : AsmInterval) : Type 0 where
  pub uuid : IsId i.uuid
  pub align : IsAlignment i.align
  pub residue : IfSome i.residue (IsResidue i.align)
  pub items : AllByRecursion IsItem i.items

-- how many bytes an interval has
abbrev pub interval_size : AsmInterval → ℕ
interval_size i = sum_by item_size i.items

-- ---- places

-- an interval of this identifier is there, and this holds of it
abbrev pub HasInterval : List AsmInterval → List ℕ → (AsmInterval → Type 0) → Type 0
HasInterval intervals uuid P =
    (before : List AsmInterval) × (i : AsmInterval) × (behind : List AsmInterval) × (intervals ≡ before ++ i ∷ behind) × (i.uuid ≡ uuid) × P i

-- an item begins at the offset, or the last one ends there
abbrev pub IsBoundary : ℕ → AsmInterval → Type 0
IsBoundary offset i = (before behind : List AsmItem) × (i.items ≡ before ++ behind) × (offset ≡ sum_by item_size before)

-- an address, or a place between items
abbrev pub IsPlaced : List AsmInterval → AsmAt → Type 0
IsPlaced intervals (ats.Absolute value) = IsU64 value
IsPlaced intervals (ats.Inside uuid offset) = HasInterval intervals uuid (IsBoundary offset)

-- a place between items, at a multiple of 4 in an interval of an alignment of 4 at least
abbrev pub IsEntered : List AsmInterval → AsmAt → Type 0
IsEntered intervals (ats.Absolute value) = ⊥
IsEntered intervals (ats.Inside uuid offset) = HasInterval intervals uuid (λ i. (offset % 4 ≡ 0) × (4 ≤ i.align) × IsBoundary offset i)

-- ---- labels

pub record IsLabelOf (intervals : List AsmInterval) (l : AsmLabel) : Type 0 where
  pub name : IsUtf8 l.name
  pub first : 1 ≤ l.ordinal
  pub last : IsU64 l.ordinal
  pub placed : IsPlaced intervals l.at

-- the label is the one of the name
abbrev pub is_named : AsmName → AsmLabel → Bool
is_named name l = bytes_eq name.name l.name && (ordinal_of name == l.ordinal)

-- a label of the name is there
abbrev pub IsThere : List AsmLabel → AsmName → Type 0
IsThere labels name = IsTrue (list_any (is_named name) labels)

-- each label that an item names is there
abbrev pub AreThere : List AsmLabel → AsmInterval → Type 0
AreThere labels i = AllByRecursion (λ item. AllByRecursion (IsThere labels) (item_names item)) i.items

-- ---- modules

-- a module keeps these rules
pub record asm_ok (m : AsmModule) : Type 0 where
  pub count : length m.intervals < 2 ^ 40
  pub distinct : AllPairs (λ (i later : AsmInterval). i.uuid ≢ later.uuid) m.intervals
  pub sizes : sum_by interval_size m.intervals < 2 ^ 62
  pub intervals : AllByRecursion IsInterval m.intervals
  pub entry : IsEntered m.intervals m.entry
  pub labels : AllByRecursion (IsLabelOf m.intervals) m.labels
  pub once : AllPairs (λ (l later : AsmLabel). l.name ≡ later.name → l.ordinal ≢ later.ordinal) m.labels
  pub named : AllByRecursion (AreThere m.labels) m.intervals
