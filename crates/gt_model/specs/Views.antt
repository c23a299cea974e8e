-- The parts of an IR as values of messages: one line for each message, its fields in the order of the schema.
use Rattle.std.specs.Prelude.{ℕ, ℤ, Option, Some, None, List, map}
use Rattle.std.specs.Option.{option_map}
use Rattle.gt_model.specs.declared.edges.Cfg.{Cfg}
use Rattle.gt_model.specs.declared.edges.Edge.{Edge}
use Rattle.gt_model.specs.declared.edges.Label.{Label}
use Rattle.gt_model.specs.declared.exprs.Expr.{Expr}
use Rattle.gt_model.specs.declared.exprs.ExprValue.{ExprValue}
use Rattle.gt_model.specs.declared.exprs.ExprValue.TheVariants as values
use Rattle.gt_model.specs.declared.intervals.Block.{Block}
use Rattle.gt_model.specs.declared.intervals.Body.{Body}
use Rattle.gt_model.specs.declared.intervals.Body.TheVariants as bodies
use Rattle.gt_model.specs.declared.intervals.Interval.{Interval}
use Rattle.gt_model.specs.declared.ir.Ir.{Ir}
use Rattle.gt_model.specs.declared.modules.Module.{Module}
use Rattle.gt_model.specs.declared.modules.Section.{Section}
use Rattle.gt_model.specs.declared.symbols.Payload.{Payload}
use Rattle.gt_model.specs.declared.symbols.Payload.TheVariants as payloads
use Rattle.gt_model.specs.declared.symbols.Symbol.{Symbol}
use Rattle.gt_model.specs.declared.tables.Aux.{Aux}
use Rattle.gt_model.specs.Schema.{table_rows, label_rows, edge_rows, cfg_rows, addr_addr_rows, addr_const_rows, expr_rows, symbol_rows, proxy_rows, data_rows, code_rows, block_rows, interval_rows, section_rows, module_rows, ir_rows}
use Rattle.gt_model.specs.Values.{Fields, Plain, ◌▹◌}

-- a table without its name, and the entry of a map from its name
unfoldable pub table_fields : List ℕ → List ℕ → Fields Plain table_rows
unfolding table_rows
table_fields type_name bytes = type_name ▹ bytes ▹ tt

abbrev pub table_value : Aux → Fields Plain table_rows
table_value a = table_fields a.type_name a.bytes

abbrev pub table_entry : Aux → List ℕ × Fields Plain table_rows
table_entry a = (a.name, table_value a)

unfoldable pub label_value : Label → Fields Plain label_rows
unfolding label_rows
label_value l = l.conditional ▹ l.direct ▹ l.kind ▹ tt

unfoldable pub edge_value : Edge → Fields Plain edge_rows
unfolding edge_rows
edge_value e = e.source ▹ e.target ▹ option_map label_value e.label ▹ tt

unfoldable pub cfg_value : Cfg → Fields Plain cfg_rows
unfolding cfg_rows
cfg_value c = map edge_value c.edges ▹ c.vertices ▹ tt

unfoldable pub addr_const_fields : ℤ → Option (List ℕ) → Fields Plain addr_const_rows
unfolding addr_const_rows
addr_const_fields offset symbol = offset ▹ symbol ▹ tt

unfoldable pub addr_addr_fields : ℤ → ℤ → Option (List ℕ) → Option (List ℕ) → Fields Plain addr_addr_rows
unfolding addr_addr_rows
addr_addr_fields scale offset first second = scale ▹ offset ▹ first ▹ second ▹ tt

abbrev pub addr_const_value : ExprValue → Option (Fields Plain addr_const_rows)
addr_const_value (values.AddrConst offset symbol) = Some (addr_const_fields offset symbol)
addr_const_value values.Nothing = None
addr_const_value (values.AddrAddr scale offset first second) = None

abbrev pub addr_addr_value : ExprValue → Option (Fields Plain addr_addr_rows)
addr_addr_value (values.AddrAddr scale offset first second) = Some (addr_addr_fields scale offset first second)
addr_addr_value values.Nothing = None
addr_addr_value (values.AddrConst offset symbol) = None

-- an expression without its offset, and the entry of a map from its offset
unfoldable pub expr_fields : ExprValue → List ℤ → Fields Plain expr_rows
unfolding expr_rows
expr_fields value flags = addr_const_value value ▹ addr_addr_value value ▹ flags ▹ tt

abbrev pub expr_value : Expr → Fields Plain expr_rows
expr_value e = expr_fields e.value e.flags

abbrev pub expr_entry : Expr → ℕ × Fields Plain expr_rows
expr_entry e = (e.at, expr_value e)

abbrev pub number_of : Payload → Option ℕ
number_of (payloads.Value value) = Some value
number_of payloads.Nothing = None
number_of (payloads.Referent uuid) = None

abbrev pub referent_of : Payload → Option (List ℕ)
referent_of (payloads.Referent uuid) = Some uuid
referent_of payloads.Nothing = None
referent_of (payloads.Value value) = None

unfoldable pub symbol_value : Symbol → Fields Plain symbol_rows
unfolding symbol_rows
symbol_value s = s.uuid ▹ number_of s.payload ▹ s.name ▹ referent_of s.payload ▹ s.at_end ▹ tt

unfoldable pub proxy_value : List ℕ → Fields Plain proxy_rows
unfolding proxy_rows
proxy_value uuid = uuid ▹ tt

unfoldable pub code_fields : List ℕ → ℕ → ℕ → Fields Plain code_rows
unfolding code_rows
code_fields uuid size decode_mode = uuid ▹ size ▹ decode_mode ▹ tt

unfoldable pub data_fields : List ℕ → ℕ → Fields Plain data_rows
unfolding data_rows
data_fields uuid size = uuid ▹ size ▹ tt

abbrev pub code_value : Body → Option (Fields Plain code_rows)
code_value (bodies.Code uuid size decode_mode) = Some (code_fields uuid size decode_mode)
code_value bodies.Bare = None
code_value (bodies.Data uuid size) = None

abbrev pub data_value : Body → Option (Fields Plain data_rows)
data_value (bodies.Data uuid size) = Some (data_fields uuid size)
data_value bodies.Bare = None
data_value (bodies.Code uuid size decode_mode) = None

unfoldable pub block_value : Block → Fields Plain block_rows
unfolding block_rows
block_value b = b.offset ▹ code_value b.body ▹ data_value b.body ▹ tt

unfoldable pub interval_value : Interval → Fields Plain interval_rows
unfolding interval_rows
interval_value i = i.uuid ▹ map block_value i.blocks ▹ map expr_entry i.exprs ▹ i.has_address ▹ i.address ▹ i.size ▹ i.contents ▹ tt

unfoldable pub section_value : Section → Fields Plain section_rows
unfolding section_rows
section_value s = s.uuid ▹ s.name ▹ map interval_value s.intervals ▹ s.flags ▹ tt

unfoldable pub module_value : Module → Fields Plain module_rows
unfolding module_rows
module_value m =
    m.uuid ▹ m.binary_path ▹ m.preferred_addr ▹ m.rebase_delta ▹ m.file_format ▹ m.isa ▹ m.name
    ▹ map symbol_value m.symbols ▹ map section_value m.sections ▹ map proxy_value m.proxies ▹ map table_entry m.aux
    ▹ m.entry ▹ m.byte_order ▹ tt

unfoldable pub ir_value : Ir → Fields Plain ir_rows
unfolding ir_rows
ir_value ir = ir.uuid ▹ map module_value ir.modules ▹ map table_entry ir.aux ▹ ir.version ▹ option_map cfg_value ir.cfg ▹ tt
