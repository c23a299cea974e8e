-- The identifiers of an IR's nodes, in order.
use Rattle.std.specs.Prelude.{ℕ, List, [], ◌∷◌, ◌++◌, map}
use Rattle.std.specs.List.{flat_map}
use Rattle.gt_model.specs.declared.intervals.Block.{Block}
use Rattle.gt_model.specs.declared.intervals.Body.{Body}
use Rattle.gt_model.specs.declared.intervals.Body.TheVariants as bodies
use Rattle.gt_model.specs.declared.intervals.Interval.{Interval}
use Rattle.gt_model.specs.declared.ir.Ir.{Ir}
use Rattle.gt_model.specs.declared.modules.Module.{Module}
use Rattle.gt_model.specs.declared.modules.Section.{Section}
use Rattle.gt_model.specs.declared.symbols.Symbol.{Symbol}

-- a bare block has none
abbrev pub body_ids : Body → List (List ℕ)
body_ids bodies.Bare = []
body_ids (bodies.Code uuid size decode_mode) = uuid ∷ []
body_ids (bodies.Data uuid size) = uuid ∷ []

abbrev pub block_ids : Block → List (List ℕ)
block_ids b = body_ids b.body

abbrev pub interval_ids : Interval → List (List ℕ)
interval_ids i = i.uuid ∷ flat_map block_ids i.blocks

abbrev pub section_ids : Section → List (List ℕ)
section_ids s = s.uuid ∷ flat_map interval_ids s.intervals

abbrev pub symbol_id : Symbol → List ℕ
symbol_id s = s.uuid

-- a module, its proxies, symbols and sections
abbrev pub module_ids : Module → List (List ℕ)
module_ids x = x.uuid ∷ x.proxies ++ map symbol_id x.symbols ++ flat_map section_ids x.sections

abbrev pub ir_ids : Ir → List (List ℕ)
ir_ids ir = ir.uuid ∷ flat_map module_ids ir.modules
