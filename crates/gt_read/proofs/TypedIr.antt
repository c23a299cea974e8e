-- An IR that is the meaning of bytes is typed.
use Rattle.std.proofs.Common.{◌≡◌, ◌<◌, ℕ, ℤ, Bool, List, [], ◌∷◌, map, Option, Some, None, subst}
use Rattle.std.specs.Prelude.{IfSome, IsUtf8}
use Rattle.std.specs.List.{AllByRecursion}
use Rattle.std.specs.Option.{option_map}
use Rattle.gt_model.specs.declared.edges.Cfg.{Cfg}
use Rattle.gt_model.specs.declared.edges.Edge.{Edge}
use Rattle.gt_model.specs.declared.edges.Label.{Label}
use Rattle.gt_model.specs.declared.exprs.Expr.{Expr}
use Rattle.gt_model.specs.declared.exprs.ExprValue.{ExprValue}
use Rattle.gt_model.specs.declared.exprs.ExprValue.TheVariants as values
use Rattle.gt_model.specs.declared.intervals.Block.{Block}
use Rattle.gt_model.specs.declared.intervals.Body.{Body}
use Rattle.gt_model.specs.declared.intervals.Body.TheVariants as bodies
use Rattle.gt_model.specs.declared.intervals.Interval.{Interval}
use Rattle.gt_model.specs.declared.ir.Ir.{Ir}
use Rattle.gt_model.specs.declared.modules.Module.{Module}
use Rattle.gt_model.specs.declared.modules.Section.{Section}
use Rattle.gt_model.specs.declared.symbols.Payload.{Payload}
use Rattle.gt_model.specs.declared.symbols.Payload.TheVariants as payloads
use Rattle.gt_model.specs.declared.symbols.Symbol.{Symbol}
use Rattle.gt_model.specs.declared.tables.Aux.{Aux}
use Rattle.gt_model.specs.Schema.{table_rows, label_rows, edge_rows, cfg_rows, addr_addr_rows, addr_const_rows, expr_rows, symbol_rows, proxy_rows, data_rows, code_rows, block_rows, interval_rows, section_rows, module_rows, ir_rows}
use Rattle.gt_model.specs.Typed.{AreBytes, IsId, IsU64, IsI64, IsI32, typed_value, typed_expr, typed_body, typed_block, typed_interval, typed_section, typed_payload, typed_symbol, typed_aux, typed_module, typed_edge, typed_cfg, typed}
use Rattle.gt_model.specs.Values.{Fields, Plain}
use Rattle.gt_model.specs.Views.{table_fields, table_entry, label_value, edge_value, cfg_value, addr_const_fields, addr_addr_fields, expr_fields, expr_entry, symbol_value, proxy_value, code_fields, data_fields, block_value, interval_value, section_value, module_value, ir_value}
use Rattle.gt_read.specs.File.{file, body_at, body_meaning}
use Rattle.gt_read.specs.Faults.{piece_faults, broken_faults}
use Rattle.gt_read.specs.Pieces.{pieces, broken}
use Rattle.gt_read.proofs.GoodPieces.{GoodPiece, ReadIsSpelled, pieces_good}
use Rattle.gt_read.proofs.TypedMeaning.{RowsTyped, rows_typed, append_none, each_none, all_two}

all_back : {A B : Type 0} (P : B → Type 0) (Q : A → Type 0) (f : A → B) → ((a : A) → P (f a) → Q a) → (xs : List A) → AllByRecursion P (map f xs) → AllByRecursion Q xs
all_back P Q f q [] a = tt
all_back P Q f q (x ∷ xs) a = (q x a.0, all_back P Q f q xs a.1)

some_back : {A B : Type 0} (P : B → Type 0) (Q : A → Type 0) (f : A → B) → ((a : A) → P (f a) → Q a) → (o : Option A) → IfSome (option_map f o) P → IfSome o Q
some_back P Q f q None s = tt
some_back P Q f q (Some a) s = q a s

table_typed : (a : Aux) → IsUtf8 a.name × RowsTyped table_rows (table_fields a.type_name a.bytes) → typed_aux a
unfolding RowsTyped table_rows table_fields
table_typed a t = record { name = t.0; type_name = t.1.0; bytes = t.1.1.0 }

label_typed : (l : Label) → RowsTyped label_rows (label_value l) → IsI32 l.kind
unfolding RowsTyped label_rows label_value
label_typed l t = t.1.1.0

edge_typed : (e : Edge) → RowsTyped edge_rows (edge_value e) → typed_edge e
unfolding RowsTyped edge_rows edge_value
edge_typed e t = record { source = t.0; target = t.1.0; label = some_back (RowsTyped label_rows) (λ (l : Label). IsI32 l.kind) label_value label_typed e.label t.1.1.0 }

cfg_typed : (c : Cfg) → RowsTyped cfg_rows (cfg_value c) → typed_cfg c
unfolding RowsTyped cfg_rows cfg_value
cfg_typed c t = record { edges = all_back (RowsTyped edge_rows) typed_edge edge_value edge_typed c.edges t.0; vertices = t.1.0 }

const_typed : (offset : ℤ) (symbol : Option (List ℕ)) → RowsTyped addr_const_rows (addr_const_fields offset symbol) → IsI64 offset × IfSome symbol IsId
unfolding RowsTyped addr_const_rows addr_const_fields
const_typed offset symbol t = (t.0, t.1.0)

addr_typed : (scale offset : ℤ) (first second : Option (List ℕ)) → RowsTyped addr_addr_rows (addr_addr_fields scale offset first second) → IsI64 scale × IsI64 offset × IfSome first IsId × IfSome second IsId
unfolding RowsTyped addr_addr_rows addr_addr_fields
addr_typed scale offset first second t = (t.0, t.1.0, t.1.1.0, t.1.1.1.0)

value_typed : (v : ExprValue) (flags : List ℤ) → RowsTyped expr_rows (expr_fields v flags) → typed_value v
unfolding RowsTyped expr_rows expr_fields
value_typed values.Nothing flags t = tt
value_typed (values.AddrConst offset symbol) flags t = const_typed offset symbol t.0
value_typed (values.AddrAddr scale offset first second) flags t = addr_typed scale offset first second t.1.0

flags_typed : (v : ExprValue) (flags : List ℤ) → RowsTyped expr_rows (expr_fields v flags) → AllByRecursion IsI32 flags
unfolding RowsTyped expr_rows expr_fields
flags_typed v flags t = t.1.1.0

expr_typed : (e : Expr) → IsU64 e.at × RowsTyped expr_rows (expr_fields e.value e.flags) → typed_expr e
expr_typed e t = record { at = t.0; value = value_typed e.value e.flags t.1; flags = flags_typed e.value e.flags t.1 }

code_typed : (u : List ℕ) (s d : ℕ) → RowsTyped code_rows (code_fields u s d) → IsId u × IsU64 s × IsU64 d
unfolding RowsTyped code_rows code_fields
code_typed u s d t = (t.0, t.1.0, t.1.1.0)

data_typed : (u : List ℕ) (s : ℕ) → RowsTyped data_rows (data_fields u s) → IsId u × IsU64 s
unfolding RowsTyped data_rows data_fields
data_typed u s t = (t.0, t.1.0)

body_typed : (offset : ℕ) (b : Body) → RowsTyped block_rows (block_value (record { offset = offset; body = b })) → typed_body b
unfolding RowsTyped block_rows block_value
body_typed offset bodies.Bare t = tt
body_typed offset (bodies.Code u s d) t = code_typed u s d t.1.0
body_typed offset (bodies.Data u s) t = data_typed u s t.1.1.0

offset_typed : (b : Block) → RowsTyped block_rows (block_value b) → IsU64 b.offset
unfolding RowsTyped block_rows block_value
offset_typed b t = t.0

block_typed : (b : Block) → RowsTyped block_rows (block_value b) → typed_block b
block_typed b t = record { offset = offset_typed b t; body = body_typed b.offset b.body t }

interval_typed : (i : Interval) → RowsTyped interval_rows (interval_value i) → typed_interval i
unfolding RowsTyped interval_rows interval_value
interval_typed i t = record {
  uuid = t.0;
  blocks = all_back (RowsTyped block_rows) typed_block block_value block_typed i.blocks t.1.0;
  exprs = all_back (λ (e : ℕ × Fields Plain expr_rows). IsU64 e.0 × RowsTyped expr_rows e.1) typed_expr expr_entry expr_typed i.exprs t.1.1.0;
  address = t.1.1.1.1.0;
  size = t.1.1.1.1.1.0;
  contents = t.1.1.1.1.1.1.0;
}

section_typed : (s : Section) → RowsTyped section_rows (section_value s) → typed_section s
unfolding RowsTyped section_rows section_value
section_typed s t = record {
  uuid = t.0;
  name = t.1.0;
  intervals = all_back (RowsTyped interval_rows) typed_interval interval_value interval_typed s.intervals t.1.1.0;
  flags = t.1.1.1.0;
}

payload_typed : (u name : List ℕ) (end : Bool) (p : Payload) → RowsTyped symbol_rows (symbol_value (record { uuid = u; name = name; at_end = end; payload = p })) → typed_payload p
unfolding RowsTyped symbol_rows symbol_value
payload_typed u name end payloads.Nothing t = tt
payload_typed u name end (payloads.Value n) t = t.1.0
payload_typed u name end (payloads.Referent id) t = t.1.1.1.0

names_typed : (s : Symbol) → RowsTyped symbol_rows (symbol_value s) → IsId s.uuid × IsUtf8 s.name
unfolding RowsTyped symbol_rows symbol_value
names_typed s t = (t.0, t.1.1.0)

symbol_typed : (s : Symbol) → RowsTyped symbol_rows (symbol_value s) → typed_symbol s
symbol_typed s t = let names = names_typed s t in record { uuid = names.0; name = names.1; payload = payload_typed s.uuid s.name s.at_end s.payload t }

proxy_typed : (id : List ℕ) → RowsTyped proxy_rows (proxy_value id) → IsId id
unfolding RowsTyped proxy_rows proxy_value
proxy_typed id t = t.0

abbrev TypedTable : List ℕ × Fields Plain table_rows → Type 0
TypedTable e = IsUtf8 e.0 × RowsTyped table_rows e.1

module_typed : (m : Module) → RowsTyped module_rows (module_value m) → typed_module m
unfolding RowsTyped module_rows module_value
module_typed m t = record {
  uuid = t.0;
  binary_path = t.1.0;
  preferred_addr = t.1.1.0;
  rebase_delta = t.1.1.1.0;
  file_format = t.1.1.1.1.0;
  isa = t.1.1.1.1.1.0;
  name = t.1.1.1.1.1.1.0;
  symbols = all_back (RowsTyped symbol_rows) typed_symbol symbol_value symbol_typed m.symbols t.1.1.1.1.1.1.1.0;
  sections = all_back (RowsTyped section_rows) typed_section section_value section_typed m.sections t.1.1.1.1.1.1.1.1.0;
  proxies = all_back (RowsTyped proxy_rows) IsId proxy_value proxy_typed m.proxies t.1.1.1.1.1.1.1.1.1.0;
  aux = all_back TypedTable typed_aux table_entry table_typed m.aux t.1.1.1.1.1.1.1.1.1.1.0;
  entry = t.1.1.1.1.1.1.1.1.1.1.1.0;
  byte_order = t.1.1.1.1.1.1.1.1.1.1.1.1.0;
}

ir_typed : (ir : Ir) → RowsTyped ir_rows (ir_value ir) → typed ir
unfolding RowsTyped ir_rows ir_value
ir_typed ir t = record {
  uuid = t.0;
  modules = all_back (RowsTyped module_rows) typed_module module_value module_typed ir.modules t.1.0;
  aux = all_back TypedTable typed_aux table_entry table_typed ir.aux t.1.1.0;
  version = t.1.1.1.0;
  cfg = some_back (RowsTyped cfg_rows) typed_cfg cfg_value cfg_typed ir.cfg t.1.1.1.1.0;
}

-- the body behind the prefix, and the version's byte
body_bytes : (bytes : List ℕ) (ir : Ir) (f : file bytes ir) → AreBytes bytes → AreBytes f.body
body_bytes bytes ir f b = let all = subst AreBytes f.whole b in all.1.1.1.1.1.1.1.1

pub version_byte : (bytes : List ℕ) (ir : Ir) → AreBytes bytes → file bytes ir → ir.version < 256
version_byte bytes ir b f = let all = subst AreBytes f.whole b in subst (λ n. n < 256) f.same_version all.1.1.1.1.1.1.1.0

pub file_typed : ReadIsSpelled → (bytes : List ℕ) (ir : Ir) → AreBytes bytes → file bytes ir → typed ir
unfolding body_meaning
file_typed read bytes ir b f =
    let ps = pieces f.body body_at in
    let none = (append_none _ (broken_faults (broken f.body body_at)) f.sound).0 in
    let sound = all_two GoodPiece (λ p. piece_faults ir_rows p ≡ []) ps (pieces_good read f.body body_at (body_bytes bytes ir f b)) (each_none (piece_faults ir_rows) ps none) in
    ir_typed ir (subst (RowsTyped ir_rows) f.value (rows_typed read ir_rows 0 ps sound f.ids))
