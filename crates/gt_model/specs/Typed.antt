-- Each number of an IR is a value of its field's type, a byte is below 256, and a text is UTF-8.
-- Every value of the program is so; a definition that speaks of every IR says it.
use Rattle.std.specs.Prelude.{◌≡◌, ℕ, ◌^◌, ◌<◌, ℤ, pos, negsuc, IfSome, List, length, IsUtf8}
use Rattle.std.specs.List.{AllByRecursion}
use Rattle.gt_model.specs.declared.edges.Cfg.{Cfg}
use Rattle.gt_model.specs.declared.edges.Edge.{Edge}
use Rattle.gt_model.specs.declared.edges.Label.{Label}
use Rattle.gt_model.specs.declared.exprs.Expr.{Expr}
use Rattle.gt_model.specs.declared.exprs.ExprValue.{ExprValue}
use Rattle.gt_model.specs.declared.exprs.ExprValue.TheVariants as values
use Rattle.gt_model.specs.declared.intervals.Block.{Block}
use Rattle.gt_model.specs.declared.intervals.Body.{Body}
use Rattle.gt_model.specs.declared.intervals.Body.TheVariants as bodies
use Rattle.gt_model.specs.declared.intervals.Interval.{Interval}
use Rattle.gt_model.specs.declared.ir.Ir.{Ir}
use Rattle.gt_model.specs.declared.modules.Module.{Module}
use Rattle.gt_model.specs.declared.modules.Section.{Section}
use Rattle.gt_model.specs.declared.symbols.Payload.{Payload}
use Rattle.gt_model.specs.declared.symbols.Payload.TheVariants as payloads
use Rattle.gt_model.specs.declared.symbols.Symbol.{Symbol}
use Rattle.gt_model.specs.declared.tables.Aux.{Aux}

-- bytes
abbrev pub AreBytes : List ℕ → Type 0
AreBytes bytes = AllByRecursion (λ b. b < 256) bytes

-- an identifier: sixteen bytes
pub record IsId (id : List ℕ) : Type 0 where
  pub len : length id ≡ 16
  pub bytes : AreBytes id

-- a signed number from the bound, negated, to one below the bound
abbrev pub IsSigned : ℕ → ℤ → Type 0
IsSigned bound (pos n) = n < bound
IsSigned bound (negsuc n) = n < bound

-- a number of 64 bits, and a signed one of 64 and of 32
abbrev pub IsU64 : ℕ → Type 0
IsU64 n = n < 2 ^ 64

abbrev pub IsI64 : ℤ → Type 0
IsI64 z = IsSigned (2 ^ 63) z

abbrev pub IsI32 : ℤ → Type 0
IsI32 z = IsSigned (2 ^ 31) z

abbrev pub typed_value : ExprValue → Type 0
typed_value values.Nothing = Unit {0}
typed_value (values.AddrConst offset symbol) = IsI64 offset × IfSome symbol IsId
typed_value (values.AddrAddr scale offset first second) = IsI64 scale × IsI64 offset × IfSome first IsId × IfSome second IsId

pub record typed_expr (e : Expr) : Type 0 where
  pub at : IsU64 e.at
  pub value : typed_value e.value
  pub flags : AllByRecursion IsI32 e.flags

abbrev pub typed_body : Body → Type 0
typed_body bodies.Bare = Unit {0}
typed_body (bodies.Code uuid size decode_mode) = IsId uuid × IsU64 size × IsU64 decode_mode
typed_body (bodies.Data uuid size) = IsId uuid × IsU64 size

pub record typed_block (b : Block) : Type 0 where
  pub offset : IsU64 b.offset
  pub body : typed_body b.body

pub record typed_interval (i : Interval) : Type 0 where
  pub uuid : IsId i.uuid
  pub blocks : AllByRecursion typed_block i.blocks
  pub exprs : AllByRecursion typed_expr i.exprs
  pub address : IsU64 i.address
  pub size : IsU64 i.size
  pub contents : AreBytes i.contents

pub record typed_section (s : Section) : Type 0 where
  pub uuid : IsId s.uuid
  pub name : IsUtf8 s.name
  pub intervals : AllByRecursion typed_interval s.intervals
  pub flags : AllByRecursion IsI32 s.flags

abbrev pub typed_payload : Payload → Type 0
typed_payload payloads.Nothing = Unit {0}
typed_payload (payloads.Value value) = IsU64 value
typed_payload (payloads.Referent uuid) = IsId uuid

pub record typed_symbol (s : Symbol) : Type 0 where
  pub uuid : IsId s.uuid
  pub name : IsUtf8 s.name
  pub payload : typed_payload s.payload

pub record typed_aux (a : Aux) : Type 0 where
  pub name : IsUtf8 a.name
  pub type_name : IsUtf8 a.type_name
  pub bytes : AreBytes a.bytes

pub record typed_module (m : Module) : Type 0 where
  pub uuid : IsId m.uuid
  pub binary_path : IsUtf8 m.binary_path
  pub preferred_addr : IsU64 m.preferred_addr
  pub rebase_delta : IsI64 m.rebase_delta
  pub file_format : IsI32 m.file_format
  pub isa : IsI32 m.isa
  pub name : IsUtf8 m.name
  pub symbols : AllByRecursion typed_symbol m.symbols
  pub sections : AllByRecursion typed_section m.sections
  pub proxies : AllByRecursion IsId m.proxies
  pub aux : AllByRecursion typed_aux m.aux
  pub entry : IfSome m.entry IsId
  pub byte_order : IsI32 m.byte_order

pub record typed_edge (e : Edge) : Type 0 where
  pub source : IsId e.source
  pub target : IsId e.target
  pub label : IfSome e.label (λ (label : Label). IsI32 label.kind)

pub record typed_cfg (c : Cfg) : Type 0 where
  pub edges : AllByRecursion typed_edge c.edges
  pub vertices : AllByRecursion IsId c.vertices

pub record typed (ir : Ir) : Type 0 where
  pub uuid : IsId ir.uuid
  pub modules : AllByRecursion typed_module ir.modules
  pub aux : AllByRecursion typed_aux ir.aux
  pub version : ir.version < 2 ^ 32
  pub cfg : IfSome ir.cfg typed_cfg
