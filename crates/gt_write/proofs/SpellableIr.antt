-- The parts of an IR whose numbers and texts are of their types and whose maps are in order can be spelled.
use Rattle.std.proofs.Common.{◌≡◌, ℕ, Bool, List, [], ◌∷◌, map, Option, Some, None, refl, sym, ap, subst}
use Rattle.std.specs.Prelude.{ℤ, IfSome, IsUtf8, length}
use Rattle.std.specs.Ordering.{nat_cmp}
use Rattle.std.specs.Cmp.Lexicographic.{slice_cmp}
use Rattle.std.specs.List.{AllByRecursion}
use Rattle.std.specs.List.Sorted.{IsStrictlySortedBy}
use Rattle.std.specs.Option.{option_map}
use Rattle.gt_model.specs.declared.edges.Cfg.{Cfg}
use Rattle.gt_model.specs.declared.edges.Edge.{Edge}
use Rattle.gt_model.specs.declared.edges.Label.{Label}
use Rattle.gt_model.specs.declared.exprs.Expr.{Expr}
use Rattle.gt_model.specs.declared.exprs.ExprValue.{ExprValue}
use Rattle.gt_model.specs.declared.exprs.ExprValue.TheVariants as values
use Rattle.gt_model.specs.declared.intervals.Block.{Block}
use Rattle.gt_model.specs.declared.intervals.Body.{Body}
use Rattle.gt_model.specs.declared.intervals.Body.TheVariants as bodies
use Rattle.gt_model.specs.declared.intervals.Interval.{Interval}
use Rattle.gt_model.specs.declared.ir.Ir.{Ir}
use Rattle.gt_model.specs.declared.modules.Module.{Module}
use Rattle.gt_model.specs.declared.modules.Section.{Section}
use Rattle.gt_model.specs.declared.symbols.Payload.{Payload}
use Rattle.gt_model.specs.declared.symbols.Payload.TheVariants as payloads
use Rattle.gt_model.specs.declared.symbols.Symbol.{Symbol}
use Rattle.gt_model.specs.declared.tables.Aux.{Aux}
use Rattle.gt_model.specs.Schema.{table_rows, label_rows, edge_rows, cfg_rows, addr_addr_rows, addr_const_rows, expr_rows, symbol_rows, proxy_rows, data_rows, code_rows, block_rows, interval_rows, section_rows, module_rows, ir_rows}
use Rattle.gt_model.specs.Values.{Fields, Plain}
use Rattle.gt_model.specs.Views.{table_fields, table_value, table_entry, label_value, edge_value, cfg_value, addr_const_fields, addr_addr_fields, expr_fields, expr_entry, symbol_value, proxy_value, code_fields, data_fields, block_value, interval_value, section_value, module_value, ir_value}
use Rattle.gt_model.specs.Typed.{IsId, IsU64, IsI64, IsI32, typed_value, typed_expr, typed_body, typed_block, typed_interval, typed_section, typed_payload, typed_symbol, typed_aux, typed_module, typed_edge, typed_cfg, typed}
use Rattle.gt_model.specs.Ordered.{ordered_exprs, ordered_aux, ordered_interval, ordered_section, ordered_module, ordered}
use Rattle.gt_write.proofs.Backs.{all_two}
use Rattle.gt_write.proofs.ReadsBack.{Spellable}

all_through : {A B : Type 0} (P : A → Type 0) (Q : B → Type 0) (f : A → B) → ((a : A) → P a → Q (f a)) → (xs : List A) → AllByRecursion P xs → AllByRecursion Q (map f xs)
all_through P Q f h [] all = tt
all_through P Q f h (x ∷ xs) all = (h x all.0, all_through P Q f h xs all.1)

some_through : {A B : Type 0} (P : A → Type 0) (Q : B → Type 0) (f : A → B) → ((a : A) → P a → Q (f a)) → (o : Option A) → IfSome o P → IfSome (option_map f o) Q
some_through P Q f h None p = tt
some_through P Q f h (Some a) p = h a p

optional_id : (o : Option (List ℕ)) → IfSome o IsId → IfSome o (λ bytes. length bytes ≡ 16)
optional_id None i = tt
optional_id (Some id) i = i.len

ids : (xs : List (List ℕ)) → AllByRecursion IsId xs → AllByRecursion (λ id. length id ≡ 16) xs
ids [] all = tt
ids (x ∷ xs) all = (all.0.len, ids xs all.1)

-- ---- tables

table_spellable : (a : Aux) → typed_aux a → Spellable table_rows (table_value a)
unfolding Spellable table_rows table_fields
table_spellable a t = (refl, refl, t.type_name, (refl, refl, tt, tt))

tables_spellable : (xs : List Aux) → AllByRecursion typed_aux xs → AllByRecursion (λ (e : List ℕ × Fields Plain table_rows). IsUtf8 e.0 × Spellable table_rows e.1) (map table_entry xs)
tables_spellable xs all = all_through typed_aux (λ (e : List ℕ × Fields Plain table_rows). IsUtf8 e.0 × Spellable table_rows e.1) table_entry (λ a t. (t.name, table_spellable a t)) xs all

names : (xs : List Aux) → map (λ (e : List ℕ × Fields Plain table_rows). e.0) (map table_entry xs) ≡ map (λ (a : Aux). a.name) xs
names [] = refl
names (a ∷ xs) = ap (λ (l : List (List ℕ)). a.name ∷ l) (names xs)

tables_sorted : (xs : List Aux) → ordered_aux xs → IsStrictlySortedBy (slice_cmp nat_cmp) (map (λ (e : List ℕ × Fields Plain table_rows). e.0) (map table_entry xs))
tables_sorted xs o = subst (IsStrictlySortedBy (slice_cmp nat_cmp)) (sym (names xs)) o

-- ---- edges

label_spellable : (l : Label) → IsI32 l.kind → Spellable label_rows (label_value l)
unfolding Spellable label_rows label_value
label_spellable l t = (refl, refl, tt, (refl, refl, tt, (refl, refl, t, tt)))

edge_spellable : (e : Edge) → typed_edge e → Spellable edge_rows (edge_value e)
unfolding Spellable edge_rows edge_value
edge_spellable e t = (refl, refl, t.source.len, (refl, refl, t.target.len, (refl, refl, some_through (λ (l : Label). IsI32 l.kind) (Spellable label_rows) label_value label_spellable e.label t.label, tt)))

cfg_spellable : (c : Cfg) → typed_cfg c → Spellable cfg_rows (cfg_value c)
unfolding Spellable cfg_rows cfg_value
cfg_spellable c t = (refl, refl, all_through typed_edge (Spellable edge_rows) edge_value edge_spellable c.edges t.edges, (refl, refl, ids c.vertices t.vertices, tt))

-- ---- expressions

const_spellable : (o : ℤ) (s : Option (List ℕ)) → IsI64 o → IfSome s IsId → Spellable addr_const_rows (addr_const_fields o s)
unfolding Spellable addr_const_rows addr_const_fields
const_spellable o s to ts = (refl, refl, to, (refl, refl, optional_id s ts, tt))

addr_spellable : (c o : ℤ) (s t : Option (List ℕ)) → IsI64 c → IsI64 o → IfSome s IsId → IfSome t IsId → Spellable addr_addr_rows (addr_addr_fields c o s t)
unfolding Spellable addr_addr_rows addr_addr_fields
addr_spellable c o s t tc to ts t't = (refl, refl, tc, (refl, refl, to, (refl, refl, optional_id s ts, (refl, refl, optional_id t t't, tt))))

expr_of : (v : ExprValue) (flags : List ℤ) → typed_value v → AllByRecursion IsI32 flags → Spellable expr_rows (expr_fields v flags)
unfolding Spellable expr_rows expr_fields
expr_of values.Nothing flags t f = (refl, refl, tt, (refl, refl, tt, (refl, refl, f, tt)))
expr_of (values.AddrConst o s) flags t f = (refl, refl, const_spellable o s t.0 t.1, (refl, refl, tt, (refl, refl, f, tt)))
expr_of (values.AddrAddr c o s u) flags t f = (refl, refl, tt, (refl, refl, addr_spellable c o s u t.0 t.1 t.2 t.3, (refl, refl, f, tt)))

exprs_spellable : (xs : List Expr) → AllByRecursion typed_expr xs → AllByRecursion (λ (e : ℕ × Fields Plain expr_rows). IsU64 e.0 × Spellable expr_rows e.1) (map expr_entry xs)
exprs_spellable xs all =
    all_through typed_expr (λ (e : ℕ × Fields Plain expr_rows). IsU64 e.0 × Spellable expr_rows e.1) expr_entry (λ (e : Expr) (t : typed_expr e). (t.at, expr_of e.value e.flags t.value t.flags)) xs all

offsets : (xs : List Expr) → map (λ (e : ℕ × Fields Plain expr_rows). e.0) (map expr_entry xs) ≡ map (λ (e : Expr). e.at) xs
offsets [] = refl
offsets (e ∷ xs) = ap (λ (l : List ℕ). e.at ∷ l) (offsets xs)

exprs_sorted : (xs : List Expr) → ordered_exprs xs → IsStrictlySortedBy nat_cmp (map (λ (e : ℕ × Fields Plain expr_rows). e.0) (map expr_entry xs))
exprs_sorted xs o = subst (IsStrictlySortedBy nat_cmp) (sym (offsets xs)) o

-- ---- blocks

code_spellable : (u : List ℕ) (s d : ℕ) → IsId u → IsU64 s → IsU64 d → Spellable code_rows (code_fields u s d)
unfolding Spellable code_rows code_fields
code_spellable u s d tu ts td = (refl, refl, tu.len, (refl, refl, ts, (refl, refl, td, tt)))

data_spellable : (u : List ℕ) (s : ℕ) → IsId u → IsU64 s → Spellable data_rows (data_fields u s)
unfolding Spellable data_rows data_fields
data_spellable u s tu ts = (refl, refl, tu.len, (refl, refl, ts, tt))

block_of : (offset : ℕ) (b : Body) → IsU64 offset → typed_body b → Spellable block_rows (block_value (record { offset = offset; body = b }))
unfolding Spellable block_rows block_value
block_of offset bodies.Bare o t = (refl, refl, o, (refl, refl, tt, (refl, refl, tt, tt)))
block_of offset (bodies.Code u s d) o t = (refl, refl, o, (refl, refl, code_spellable u s d t.0 t.1 t.2, (refl, refl, tt, tt)))
block_of offset (bodies.Data u s) o t = (refl, refl, o, (refl, refl, tt, (refl, refl, data_spellable u s t.0 t.1, tt)))

block_spellable : (b : Block) → typed_block b → Spellable block_rows (block_value b)
block_spellable b t = block_of b.offset b.body t.offset t.body

interval_spellable : (i : Interval) → typed_interval i × ordered_interval i → Spellable interval_rows (interval_value i)
unfolding Spellable interval_rows interval_value
interval_spellable i t = (
  refl,
  refl,
  t.0.uuid.len,
  (
    refl,
    refl,
    all_through typed_block (Spellable block_rows) block_value block_spellable i.blocks t.0.blocks,
    (
      refl,
      refl,
      (exprs_spellable i.exprs t.0.exprs, exprs_sorted i.exprs t.1.exprs),
      (refl, refl, tt, (refl, refl, t.0.address, (refl, refl, t.0.size, (refl, refl, tt, tt)))),
    ),
  ),
)

-- ---- modules

section_spellable : (s : Section) → typed_section s × ordered_section s → Spellable section_rows (section_value s)
unfolding Spellable section_rows section_value
section_spellable s t = (
  refl,
  refl,
  t.0.uuid.len,
  (
    refl,
    refl,
    t.0.name,
    (
      refl,
      refl,
      all_through (λ i. typed_interval i × ordered_interval i) (Spellable interval_rows) interval_value interval_spellable s.intervals (all_two typed_interval ordered_interval s.intervals t.0.intervals t.1.intervals),
      (refl, refl, t.0.flags, tt),
    ),
  ),
)

symbol_of : (u name : List ℕ) (end : Bool) (p : Payload) → IsId u → IsUtf8 name → typed_payload p → Spellable symbol_rows (symbol_value (record { uuid = u; name = name; at_end = end; payload = p }))
unfolding Spellable symbol_rows symbol_value
symbol_of u name end payloads.Nothing tu tn t = (refl, refl, tu.len, (refl, refl, tt, (refl, refl, tn, (refl, refl, tt, (refl, refl, tt, tt)))))
symbol_of u name end (payloads.Value n) tu tn t = (refl, refl, tu.len, (refl, refl, t, (refl, refl, tn, (refl, refl, tt, (refl, refl, tt, tt)))))
symbol_of u name end (payloads.Referent id) tu tn t = (refl, refl, tu.len, (refl, refl, tt, (refl, refl, tn, (refl, refl, t.len, (refl, refl, tt, tt)))))

symbol_spellable : (s : Symbol) → typed_symbol s → Spellable symbol_rows (symbol_value s)
symbol_spellable s t = symbol_of s.uuid s.name s.at_end s.payload t.uuid t.name t.payload

proxy_spellable : (id : List ℕ) → IsId id → Spellable proxy_rows (proxy_value id)
unfolding Spellable proxy_rows proxy_value
proxy_spellable id t = (refl, refl, t.len, tt)

module_spellable : (m : Module) → typed_module m × ordered_module m → Spellable module_rows (module_value m)
unfolding Spellable module_rows module_value
module_spellable m t =
    let sections = all_through (λ s. typed_section s × ordered_section s) (Spellable section_rows) section_value section_spellable m.sections (all_two typed_section ordered_section m.sections t.0.sections t.1.sections) in (
      refl,
      refl,
      t.0.uuid.len,
      (
        refl,
        refl,
        t.0.binary_path,
        (
          refl,
          refl,
          t.0.preferred_addr,
          (
            refl,
            refl,
            t.0.rebase_delta,
            (
              refl,
              refl,
              t.0.file_format,
              (
                refl,
                refl,
                t.0.isa,
                (
                  refl,
                  refl,
                  t.0.name,
                  (
                    refl,
                    refl,
                    all_through typed_symbol (Spellable symbol_rows) symbol_value symbol_spellable m.symbols t.0.symbols,
                    (
                      refl,
                      refl,
                      sections,
                      (
                        refl,
                        refl,
                        all_through IsId (Spellable proxy_rows) proxy_value proxy_spellable m.proxies t.0.proxies,
                        (
                          refl,
                          refl,
                          (tables_spellable m.aux t.0.aux, tables_sorted m.aux t.1.aux),
                          (refl, refl, optional_id m.entry t.0.entry, (refl, refl, t.0.byte_order, tt)),
                        ),
                      ),
                    ),
                  ),
                ),
              ),
            ),
          ),
        ),
      ),
    )

pub ir_spellable : (ir : Ir) → typed ir → ordered ir → Spellable ir_rows (ir_value ir)
unfolding Spellable ir_rows ir_value
ir_spellable ir t o =
    let modules = all_through (λ m. typed_module m × ordered_module m) (Spellable module_rows) module_value module_spellable ir.modules (all_two typed_module ordered_module ir.modules t.modules o.modules) in (
      refl,
      refl,
      t.uuid.len,
      (
        refl,
        refl,
        modules,
        (
          refl,
          refl,
          (tables_spellable ir.aux t.aux, tables_sorted ir.aux o.aux),
          (refl, refl, t.version, (refl, refl, some_through typed_cfg (Spellable cfg_rows) cfg_value cfg_spellable ir.cfg t.cfg, tt)),
        ),
      ),
    )
