-- The drafts of the program as drafts of messages, field by field in the order of the schema.
use Rattle.std.specs.Prelude.{◌≡◌, ℕ, Option, Some, None, List, map}
use Rattle.std.specs.Option.{option_map}
use Rattle.gt_model.specs.declared.edges.Label.{Label}
use Rattle.gt_model.specs.declared.exprs.ExprValue.{ExprValue}
use Rattle.gt_model.specs.declared.intervals.Body.{Body}
use Rattle.gt_model.specs.declared.symbols.Payload.{Payload}
use Rattle.gt_model.specs.Schema.{TextKey, NumberKey, Id, Unsigned64, label_rows, edge_rows, cfg_rows, addr_const_rows, addr_addr_rows, expr_rows, code_rows, data_rows, block_rows, interval_rows, symbol_rows, proxy_rows, table_rows, section_rows, module_rows, ir_rows}
use Rattle.gt_model.specs.Values.{Fields, Plain, ◌▹◌}
use Rattle.gt_model.specs.Views.{edge_value, addr_const_fields, addr_addr_fields, addr_const_value, addr_addr_value, expr_fields, code_fields, data_fields, code_value, data_value, block_value, interval_value, number_of, referent_of, symbol_value, proxy_value, table_fields, section_value, module_value}
use Rattle.gt_read.specs.declared.block_drafts.CodeDraft.{CodeDraft}
use Rattle.gt_read.specs.declared.block_drafts.DataDraft.{DataDraft}
use Rattle.gt_read.specs.declared.block_drafts.CodeParts.{CodeParts}
use Rattle.gt_read.specs.declared.block_drafts.DataParts.{DataParts}
use Rattle.gt_read.specs.declared.block_drafts.BodyDraft.{BodyDraft}
use Rattle.gt_read.specs.declared.block_drafts.BodyDraft.TheVariants as bodies
use Rattle.gt_read.specs.declared.block_drafts.BlockDraft.{BlockDraft}
use Rattle.gt_read.specs.declared.block_drafts.IntervalDraft.{IntervalDraft}
use Rattle.gt_read.specs.declared.edge_drafts.EdgeDraft.{EdgeDraft}
use Rattle.gt_read.specs.declared.edge_drafts.CfgDraft.{CfgDraft}
use Rattle.gt_read.specs.declared.expr_drafts.AddrConst.{AddrConst}
use Rattle.gt_read.specs.declared.expr_drafts.AddrAddr.{AddrAddr}
use Rattle.gt_read.specs.declared.expr_drafts.AddrConstDraft.{AddrConstDraft}
use Rattle.gt_read.specs.declared.expr_drafts.AddrAddrDraft.{AddrAddrDraft}
use Rattle.gt_read.specs.declared.expr_drafts.ValueDraft.{ValueDraft}
use Rattle.gt_read.specs.declared.expr_drafts.ValueDraft.TheVariants as values
use Rattle.gt_read.specs.declared.expr_drafts.ExprDraft.{ExprDraft}
use Rattle.gt_read.specs.declared.expr_drafts.ExprParts.{ExprParts}
use Rattle.gt_read.specs.declared.expr_drafts.ExprEntryDraft.{ExprEntryDraft}
use Rattle.gt_read.specs.declared.expr_drafts.ExprEntry.{ExprEntry}
use Rattle.gt_read.specs.declared.expr_drafts.HeldExpr.{HeldExpr}
use Rattle.gt_read.specs.declared.ids.Identifier.{Identifier}
use Rattle.gt_read.specs.declared.ids.IdFault.{IdFault}
use Rattle.gt_read.specs.declared.module_drafts.PayloadDraft.{PayloadDraft}
use Rattle.gt_read.specs.declared.module_drafts.PayloadDraft.TheVariants as payloads
use Rattle.gt_read.specs.declared.module_drafts.SymbolDraft.{SymbolDraft}
use Rattle.gt_read.specs.declared.module_drafts.ProxyDraft.{ProxyDraft}
use Rattle.gt_read.specs.declared.module_drafts.TableParts.{TableParts}
use Rattle.gt_read.specs.declared.module_drafts.TableEntryDraft.{TableEntryDraft}
use Rattle.gt_read.specs.declared.module_drafts.TableEntry.{TableEntry}
use Rattle.gt_read.specs.declared.module_drafts.SectionDraft.{SectionDraft}
use Rattle.gt_read.specs.declared.module_drafts.ModuleDraft.{ModuleDraft}
use Rattle.gt_read.specs.declared.module_drafts.IrDraft.{IrDraft}
use Rattle.gt_read.specs.Pieces.{Carried, Number, Bytes, Fixed}
use Rattle.gt_read.specs.Drafts.Draft.{DFields, identifier, finished_plain, finished, worst, plain_fault, fault_if}
use Rattle.gt_read.specs.Drafts.Entries.{entry_rows}
use Rattle.gt_read.specs.Identifiers.{earlier}

-- ---- edges

unfoldable pub label_draft : Label → DFields label_rows
unfolding label_rows
label_draft l = l.conditional ▹ l.direct ▹ l.kind ▹ tt

unfoldable pub edge_draft : EdgeDraft → DFields edge_rows
unfolding edge_rows
edge_draft e = e.source ▹ e.target ▹ option_map label_draft e.label ▹ tt

unfoldable pub cfg_draft : CfgDraft → DFields cfg_rows
unfolding cfg_rows
cfg_draft c = (map edge_value c.edges.items, c.edges.fault) ▹ (c.vertices.items, c.vertices.fault) ▹ tt

-- ---- expressions

unfoldable pub addr_const_draft : AddrConstDraft → DFields addr_const_rows
unfolding addr_const_rows
addr_const_draft a = a.offset ▹ a.symbol ▹ tt

unfoldable pub addr_addr_draft : AddrAddrDraft → DFields addr_addr_rows
unfolding addr_addr_rows
addr_addr_draft a = a.scale ▹ a.offset ▹ a.first ▹ a.second ▹ tt

abbrev pub addr_const : AddrConst → Fields Plain addr_const_rows
addr_const a = addr_const_fields a.offset a.symbol

abbrev pub addr_addr : AddrAddr → Fields Plain addr_addr_rows
addr_addr a = addr_addr_fields a.scale a.offset a.first a.second

abbrev pub const_of : ValueDraft → Option AddrConstDraft
const_of values.Nothing = None
const_of (values.AddrConst draft) = Some draft
const_of (values.AddrAddr draft) = None

abbrev pub addr_of : ValueDraft → Option AddrAddrDraft
addr_of values.Nothing = None
addr_of (values.AddrConst draft) = None
addr_of (values.AddrAddr draft) = Some draft

unfoldable pub expr_draft : ExprDraft → DFields expr_rows
unfolding expr_rows
expr_draft e = option_map addr_const_draft (const_of e.value) ▹ option_map addr_addr_draft (addr_of e.value) ▹ (e.flags, None) ▹ tt

abbrev pub expr_parts : ExprParts → Fields Plain expr_rows
expr_parts e = expr_fields e.value e.flags

unfoldable pub expr_entry_draft : ExprEntryDraft → DFields (entry_rows NumberKey expr_rows)
expr_entry_draft e = e.at ▹ option_map expr_draft e.value ▹ tt

abbrev pub expr_entry_parts : ExprEntry → ℕ × Fields Plain expr_rows
expr_entry_parts e = (e.at, expr_parts e.parts)

abbrev pub expr_held : ℕ × HeldExpr → ℕ × (Fields Plain expr_rows × Option IdFault)
expr_held e = (e.0, (expr_parts e.1.parts, e.1.fault))

abbrev pub expr_finished : ℕ × HeldExpr → ℕ × Fields Plain expr_rows
expr_finished e = (e.0, expr_parts e.1.parts)

-- what a oneof comes to, and the fault in it
pub record FinishesValue (draft : ValueDraft) (made : ExprValue) (fault : Option IdFault) : Type 0 where
  pub addr_const : addr_const_value made ≡ option_map (finished addr_const_rows) (option_map addr_const_draft (const_of draft))
  pub addr_addr : addr_addr_value made ≡ option_map (finished addr_addr_rows) (option_map addr_addr_draft (addr_of draft))
  pub worst : fault ≡ earlier (fault_if (worst addr_const_rows) (option_map addr_const_draft (const_of draft))) (fault_if (worst addr_addr_rows) (option_map addr_addr_draft (addr_of draft)))

-- ---- blocks

unfoldable pub code_draft : CodeDraft → DFields code_rows
unfolding code_rows
code_draft c = c.uuid ▹ c.size ▹ c.decode_mode ▹ tt

unfoldable pub data_draft : DataDraft → DFields data_rows
unfolding data_rows
data_draft d = d.uuid ▹ d.size ▹ tt

abbrev pub code_parts : CodeParts → Fields Plain code_rows
code_parts c = code_fields c.uuid c.size c.decode_mode

abbrev pub data_parts : DataParts → Fields Plain data_rows
data_parts d = data_fields d.uuid d.size

abbrev pub code_of : BodyDraft → Option CodeDraft
code_of bodies.Bare = None
code_of (bodies.Code draft) = Some draft
code_of (bodies.Data draft) = None

abbrev pub data_of : BodyDraft → Option DataDraft
data_of bodies.Bare = None
data_of (bodies.Code draft) = None
data_of (bodies.Data draft) = Some draft

unfoldable pub block_draft : BlockDraft → DFields block_rows
unfolding block_rows
block_draft b = b.offset ▹ option_map code_draft (code_of b.body) ▹ option_map data_draft (data_of b.body) ▹ tt

pub record FinishesBody (draft : BodyDraft) (made : Body) (fault : Option IdFault) : Type 0 where
  pub code : code_value made ≡ option_map (finished code_rows) (option_map code_draft (code_of draft))
  pub data_ : data_value made ≡ option_map (finished data_rows) (option_map data_draft (data_of draft))
  pub worst : fault ≡ earlier (fault_if (worst code_rows) (option_map code_draft (code_of draft))) (fault_if (worst data_rows) (option_map data_draft (data_of draft)))

unfoldable pub interval_draft : IntervalDraft → DFields interval_rows
unfolding interval_rows
interval_draft i = i.uuid ▹ (map block_value i.blocks.items, i.blocks.fault) ▹ map expr_held i.exprs.entries ▹ i.has_address ▹ i.address ▹ i.size ▹ i.contents ▹ tt

-- ---- symbols

abbrev pub number_draft : PayloadDraft → Option ℕ
number_draft payloads.Nothing = None
number_draft (payloads.Value n) = Some n
number_draft (payloads.Referent id) = None

abbrev pub referent_draft : PayloadDraft → Option Identifier
referent_draft payloads.Nothing = None
referent_draft (payloads.Value n) = None
referent_draft (payloads.Referent id) = Some id

unfoldable pub symbol_draft : SymbolDraft → DFields symbol_rows
unfolding symbol_rows
symbol_draft s = s.uuid ▹ number_draft s.payload ▹ s.name ▹ referent_draft s.payload ▹ s.at_end ▹ tt

abbrev pub after_value : PayloadDraft → Carried → PayloadDraft
after_value old (Number n) = payloads.Value n
after_value old (Bytes start bytes) = old
after_value old Fixed = old

abbrev pub after_referent : PayloadDraft → ℕ → Carried → PayloadDraft
after_referent old place (Number n) = old
after_referent old place (Bytes start bytes) = payloads.Referent (identifier (record { place = place; bytes = bytes }))
after_referent old place Fixed = old

pub record FinishesPayload (draft : PayloadDraft) (made : Payload) (fault : Option IdFault) : Type 0 where
  pub number : number_of made ≡ option_map (finished_plain Unsigned64) (number_draft draft)
  pub referent : referent_of made ≡ option_map (finished_plain Id) (referent_draft draft)
  pub worst : fault ≡ earlier (fault_if (plain_fault Unsigned64) (number_draft draft)) (fault_if (plain_fault Id) (referent_draft draft))

unfoldable pub proxy_draft : ProxyDraft → DFields proxy_rows
unfolding proxy_rows
proxy_draft p = p.uuid ▹ tt

-- ---- tables

unfoldable pub table_draft : TableParts → DFields table_rows
unfolding table_rows
table_draft t = t.type_name ▹ t.bytes ▹ tt

abbrev pub table_parts : TableParts → Fields Plain table_rows
table_parts t = table_fields t.type_name t.bytes

unfoldable pub table_entry_draft : TableEntryDraft → DFields (entry_rows TextKey table_rows)
table_entry_draft e = e.name ▹ option_map table_draft e.value ▹ tt

abbrev pub table_entry_parts : TableEntry → List ℕ × Fields Plain table_rows
table_entry_parts e = (e.name, table_parts e.parts)

abbrev pub table_held : List ℕ × TableParts → List ℕ × (Fields Plain table_rows × Option IdFault)
table_held e = (e.0, (table_parts e.1, None))

abbrev pub table_finished : List ℕ × TableParts → List ℕ × Fields Plain table_rows
table_finished e = (e.0, table_parts e.1)

-- ---- modules

unfoldable pub section_draft : SectionDraft → DFields section_rows
unfolding section_rows
section_draft s = s.uuid ▹ s.name ▹ (map interval_value s.intervals.items, s.intervals.fault) ▹ (s.flags, None) ▹ tt

unfoldable pub module_draft : ModuleDraft → DFields module_rows
unfolding module_rows
module_draft m =
    m.uuid ▹ m.binary_path ▹ m.preferred_addr ▹ m.rebase_delta ▹ m.file_format ▹ m.isa ▹ m.name
    ▹ (map symbol_value m.symbols.items, m.symbols.fault) ▹ (map section_value m.sections.items, m.sections.fault) ▹ (map proxy_value m.proxies.items, m.proxies.fault)
    ▹ map table_held m.aux.entries ▹ m.entry ▹ m.byte_order ▹ tt

unfoldable pub ir_draft : IrDraft → DFields ir_rows
unfolding ir_rows
ir_draft ir =
    ir.uuid ▹ (map module_value ir.modules.items, ir.modules.fault) ▹ map table_held ir.aux.entries ▹ ir.version ▹ option_map cfg_draft ir.cfg ▹ tt
