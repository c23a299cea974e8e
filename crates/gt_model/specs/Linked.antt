-- Well-linked IRs: distinct identifiers, no bare block, and each reference on a node of its kind and module.
use Rattle.std.specs.Prelude.{◌≡◌, ◌≢◌, ℕ, Bool, true, false, IsTrue, Option, Some, None, List, [], ◌∷◌, find, AllPairs, if◌then◌else◌}
use Rattle.std.specs.List.{AllByRecursion, list_any, flat_map}
use Rattle.std.specs.Option.{option_map, option_or, IsSomeAnd}
use Rattle.std.specs.Str.{bytes_eq}
use Rattle.gt_model.specs.declared.intervals.Block.{Block}
use Rattle.gt_model.specs.declared.intervals.Body.{Body}
use Rattle.gt_model.specs.declared.intervals.Body.TheVariants as bodies
use Rattle.gt_model.specs.declared.intervals.Interval.{Interval}
use Rattle.gt_model.specs.declared.ir.Ir.{Ir}
use Rattle.gt_model.specs.declared.modules.Module.{Module}
use Rattle.gt_model.specs.declared.modules.Section.{Section}
use Rattle.gt_model.specs.Nodes.{Kind, Node, nodes, ids}
use Rattle.gt_model.specs.References.{Reference, references, suits}
use Rattle.gt_model.specs.Typed.{typed}

-- the intervals of an IR, in order
abbrev pub intervals : Ir → List Interval
intervals ir = flat_map (λ (m : Module). flat_map (λ (s : Section). s.intervals) m.sections) ir.modules

abbrev pub is_bare_body : Body → Bool
is_bare_body bodies.Bare = true
is_bare_body _ = false

-- whether a block has neither code nor data
abbrev pub is_bare : Block → Bool
is_bare b = is_bare_body b.body

abbrev pub kind_in : Option Node → Option Kind
kind_in found = option_map (λ (n : Node). n.kind) found

-- what an identifier stands for
abbrev pub kind_at : List Node → List ℕ → Option Kind
kind_at ns id = kind_in (find (λ (n : Node). bytes_eq id n.id) ns)

-- the reference is to a node of a wanted kind
abbrev pub Lands : List Node → Reference → Type 0
Lands ns r = IsSomeAnd (kind_at ns r.to) (λ kind. IsTrue (suits r.wanted kind))

pub record linked (ir : Ir) : Type 0 where
  pub distinct : AllPairs (λ a b. a ≢ b) (ids (nodes ir))
  pub no_bare : AllByRecursion (λ (i : Interval). list_any is_bare i.blocks ≡ false) (intervals ir)
  pub lands : AllByRecursion (Lands (nodes ir)) (references ir)

pub record well_linked (ir : Ir) : Type 0 where
  pub values : typed ir
  pub links : linked ir

-- why an IR isn't linked: an identifier held by an earlier node, an interval with a bare block, a reference to no
-- node, and one to a node of a wrong kind or module; a reference's node comes first, and then the identifier it names
pub data LinkFault : Type 0 where
  DupUuid : List ℕ → LinkFault
  BareBlock : List ℕ → LinkFault
  Dangling : List ℕ → List ℕ → LinkFault
  WrongKind : List ℕ → List ℕ → LinkFault

-- the first identifier that an earlier one equals
abbrev pub repeated : List (List ℕ) → List (List ℕ) → Option (List ℕ)
repeated earlier [] = None
repeated earlier (id ∷ rest) = if list_any (bytes_eq id) earlier then Some id else repeated (id ∷ earlier) rest

abbrev pub repeat_fault : List (List ℕ) → List Node → Option LinkFault
repeat_fault earlier ns = option_map DupUuid (repeated earlier (ids ns))

-- the first interval with a bare block
abbrev pub bare_fault : List Interval → Option LinkFault
bare_fault is = option_map (λ (i : Interval). BareBlock i.uuid) (find (λ (i : Interval). list_any is_bare i.blocks) is)

abbrev pub landing_fault : Reference → Option Kind → Option LinkFault
landing_fault r None = Some (Dangling r.from r.to)
landing_fault r (Some kind) = if suits r.wanted kind then None else Some (WrongKind r.from r.to)

-- of a reference, where each identifier stands for what the function says
abbrev pub reference_fault : (List ℕ → Option Kind) → Reference → Option LinkFault
reference_fault kind_of r = landing_fault r (kind_of r.to)

-- the first reference that is wrong
abbrev pub first_reference_fault : (List ℕ → Option Kind) → List Reference → Option LinkFault
first_reference_fault kind_of [] = None
first_reference_fault kind_of (r ∷ rs) = option_or (reference_fault kind_of r) (first_reference_fault kind_of rs)

-- the first fault
abbrev pub link_fault : Ir → Option LinkFault
link_fault ir =
    option_or (repeat_fault [] (nodes ir))
    (option_or (bare_fault (intervals ir)) (first_reference_fault (kind_at (nodes ir)) (references ir)))
