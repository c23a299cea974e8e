-- An IR is determined by its value as a message, and so is each part of it.
use Rattle.std.proofs.Common.{◌≡◌, ℕ, ℤ, List, [], ◌∷◌, map, Option, Some, None, refl}
use Rattle.std.specs.Option.{option_map}
use Rattle.gt_model.specs.declared.exprs.ExprValue.{ExprValue}
use Rattle.gt_model.specs.declared.exprs.ExprValue.TheVariants as values
use Rattle.gt_model.specs.declared.intervals.Body.{Body}
use Rattle.gt_model.specs.declared.intervals.Body.TheVariants as bodies
use Rattle.gt_model.specs.declared.ir.Ir.{Ir}
use Rattle.gt_model.specs.declared.symbols.Payload.{Payload}
use Rattle.gt_model.specs.declared.symbols.Payload.TheVariants as payloads
use Rattle.gt_model.specs.Schema.{table_rows, label_rows, edge_rows, cfg_rows, addr_addr_rows, addr_const_rows, expr_rows, symbol_rows, proxy_rows, data_rows, code_rows, block_rows, interval_rows, section_rows, module_rows, ir_rows}
use Rattle.gt_model.specs.Views.{table_fields, table_entry, label_value, edge_value, cfg_value, addr_const_fields, addr_addr_fields, addr_const_value, addr_addr_value, expr_fields, expr_entry, number_of, referent_of, symbol_value, proxy_value, code_fields, data_fields, code_value, data_value, block_value, interval_value, section_value, module_value, ir_value}

-- different things have different values
abbrev pub Injective : {A B : Type 0} → (A → B) → Type 0
Injective {A} f = (a b : A) → f a ≡ f b → a ≡ b

some_is : {A : Type 0} (a b : A) → ◌≡◌ {A = Option A} (Some a) (Some b) → a ≡ b
some_is a b e = cc

none_not : {A : Type 0} (a : A) → ◌≡◌ {A = Option A} None (Some a) → ⊥
none_not a e = cc

some_not : {A : Type 0} (a : A) → ◌≡◌ {A = Option A} (Some a) None → ⊥
some_not a e = cc

first_is : {A : Type 0} (a b : A) (xs ys : List A) → a ∷ xs ≡ b ∷ ys → a ≡ b
first_is a b xs ys e = cc

rest_is : {A : Type 0} (a b : A) (xs ys : List A) → a ∷ xs ≡ b ∷ ys → xs ≡ ys
rest_is a b xs ys e = cc

mapped : {A B : Type 0} (f : A → B) → Injective f → Injective (map f)
mapped f same [] [] e = refl
mapped f same [] (b ∷ ys) e = absurd cc
mapped f same (a ∷ xs) [] e = absurd cc
mapped f same (a ∷ xs) (b ∷ ys) e = λ i. same a b (first_is _ _ _ _ e) i ∷ mapped f same xs ys (rest_is _ _ _ _ e) i

optional : {A B : Type 0} (f : A → B) → Injective f → Injective (option_map f)
optional f same None None e = refl
optional f same None (Some b) e = absurd (none_not _ e)
optional f same (Some a) None e = absurd (some_not _ e)
optional f same (Some a) (Some b) e = λ i. Some (same a b (some_is _ _ e) i)

-- ---- tables and edges

table_injective : Injective table_entry
unfolding table_fields table_rows
table_injective a b e = λ i. record { name = (e i).0; type_name = (e i).1.0; bytes = (e i).1.1.0 }

label_injective : Injective label_value
unfolding label_value label_rows
label_injective a b e = λ i. record { conditional = (e i).0; direct = (e i).1.0; kind = (e i).1.1.0 }

edge_injective : Injective edge_value
unfolding edge_value edge_rows
edge_injective a b e =
    let label = optional label_value label_injective a.label b.label (λ i. (e i).1.1.0) in
    λ i. record { source = (e i).0; target = (e i).1.0; label = label i }

cfg_injective : Injective cfg_value
unfolding cfg_value cfg_rows
cfg_injective a b e =
    let edges = mapped edge_value edge_injective a.edges b.edges (λ i. (e i).0) in
    λ i. record { edges = edges i; vertices = (e i).1.0 }

-- ---- expressions

const_injective : (o o' : ℤ) (s s' : Option (List ℕ)) → addr_const_fields o s ≡ addr_const_fields o' s' → values.AddrConst o s ≡ values.AddrConst o' s'
unfolding addr_const_fields addr_const_rows
const_injective o o' s s' e = λ i. values.AddrConst (e i).0 (e i).1.0

addr_injective : (c c' o o' : ℤ) (s s' t t' : Option (List ℕ)) → addr_addr_fields c o s t ≡ addr_addr_fields c' o' s' t' → values.AddrAddr c o s t ≡ values.AddrAddr c' o' s' t'
unfolding addr_addr_fields addr_addr_rows
addr_injective c c' o o' s s' t t' e = λ i. values.AddrAddr (e i).0 (e i).1.0 (e i).1.1.0 (e i).1.1.1.0

expr_value_injective : (a b : ExprValue) → addr_const_value a ≡ addr_const_value b → addr_addr_value a ≡ addr_addr_value b → a ≡ b
expr_value_injective values.Nothing values.Nothing e f = refl
expr_value_injective values.Nothing (values.AddrConst o s) e f = absurd (none_not _ e)
expr_value_injective values.Nothing (values.AddrAddr c o s t) e f = absurd (none_not _ f)
expr_value_injective (values.AddrConst o s) values.Nothing e f = absurd (some_not _ e)
expr_value_injective (values.AddrConst o s) (values.AddrConst o' s') e f = const_injective o o' s s' (some_is _ _ e)
expr_value_injective (values.AddrConst o s) (values.AddrAddr c o' s' t) e f = absurd (some_not _ e)
expr_value_injective (values.AddrAddr c o s t) values.Nothing e f = absurd (some_not _ f)
expr_value_injective (values.AddrAddr c o s t) (values.AddrConst o' s') e f = absurd (some_not _ f)
expr_value_injective (values.AddrAddr c o s t) (values.AddrAddr c' o' s' t') e f = addr_injective c c' o o' s s' t t' (some_is _ _ f)

expr_injective : Injective expr_entry
unfolding expr_fields expr_rows
expr_injective a b e =
    let value = expr_value_injective a.value b.value (λ i. (e i).1.0) (λ i. (e i).1.1.0) in
    λ i. record { at = (e i).0; value = value i; flags = (e i).1.1.1.0 }

-- ---- blocks

code_injective : (u u' : List ℕ) (s s' d d' : ℕ) → code_fields u s d ≡ code_fields u' s' d' → bodies.Code u s d ≡ bodies.Code u' s' d'
unfolding code_fields code_rows
code_injective u u' s s' d d' e = λ i. bodies.Code (e i).0 (e i).1.0 (e i).1.1.0

data_injective : (u u' : List ℕ) (s s' : ℕ) → data_fields u s ≡ data_fields u' s' → bodies.Data u s ≡ bodies.Data u' s'
unfolding data_fields data_rows
data_injective u u' s s' e = λ i. bodies.Data (e i).0 (e i).1.0

body_injective : (a b : Body) → code_value a ≡ code_value b → data_value a ≡ data_value b → a ≡ b
body_injective bodies.Bare bodies.Bare e f = refl
body_injective bodies.Bare (bodies.Code u s d) e f = absurd (none_not _ e)
body_injective bodies.Bare (bodies.Data u s) e f = absurd (none_not _ f)
body_injective (bodies.Code u s d) bodies.Bare e f = absurd (some_not _ e)
body_injective (bodies.Code u s d) (bodies.Code u' s' d') e f = code_injective u u' s s' d d' (some_is _ _ e)
body_injective (bodies.Code u s d) (bodies.Data u' s') e f = absurd (some_not _ e)
body_injective (bodies.Data u s) bodies.Bare e f = absurd (some_not _ f)
body_injective (bodies.Data u s) (bodies.Code u' s' d') e f = absurd (some_not _ f)
body_injective (bodies.Data u s) (bodies.Data u' s') e f = data_injective u u' s s' (some_is _ _ f)

block_injective : Injective block_value
unfolding block_value block_rows
block_injective a b e =
    let body = body_injective a.body b.body (λ i. (e i).1.0) (λ i. (e i).1.1.0) in
    λ i. record { offset = (e i).0; body = body i }

-- ---- modules

interval_injective : Injective interval_value
unfolding interval_value interval_rows
interval_injective a b e =
    let blocks = mapped block_value block_injective a.blocks b.blocks (λ i. (e i).1.0) in
    let exprs = mapped expr_entry expr_injective a.exprs b.exprs (λ i. (e i).1.1.0) in
    λ i. record { uuid = (e i).0; blocks = blocks i; exprs = exprs i; has_address = (e i).1.1.1.0; address = (e i).1.1.1.1.0; size = (e i).1.1.1.1.1.0; contents = (e i).1.1.1.1.1.1.0 }

section_injective : Injective section_value
unfolding section_value section_rows
section_injective a b e =
    let intervals = mapped interval_value interval_injective a.intervals b.intervals (λ i. (e i).1.1.0) in
    λ i. record { uuid = (e i).0; name = (e i).1.0; intervals = intervals i; flags = (e i).1.1.1.0 }

payload_injective : (a b : Payload) → number_of a ≡ number_of b → referent_of a ≡ referent_of b → a ≡ b
payload_injective payloads.Nothing payloads.Nothing e f = refl
payload_injective payloads.Nothing (payloads.Value n) e f = absurd (none_not _ e)
payload_injective payloads.Nothing (payloads.Referent u) e f = absurd (none_not _ f)
payload_injective (payloads.Value n) payloads.Nothing e f = absurd (some_not _ e)
payload_injective (payloads.Value n) (payloads.Value n') e f = λ i. payloads.Value (some_is _ _ e i)
payload_injective (payloads.Value n) (payloads.Referent u) e f = absurd (some_not _ e)
payload_injective (payloads.Referent u) payloads.Nothing e f = absurd (some_not _ f)
payload_injective (payloads.Referent u) (payloads.Value n) e f = absurd (some_not _ f)
payload_injective (payloads.Referent u) (payloads.Referent u') e f = λ i. payloads.Referent (some_is _ _ f i)

symbol_injective : Injective symbol_value
unfolding symbol_value symbol_rows
symbol_injective a b e =
    let payload = payload_injective a.payload b.payload (λ i. (e i).1.0) (λ i. (e i).1.1.1.0) in
    λ i. record { uuid = (e i).0; name = (e i).1.1.0; at_end = (e i).1.1.1.1.0; payload = payload i }

proxy_injective : Injective proxy_value
unfolding proxy_value proxy_rows
proxy_injective a b e = λ i. (e i).0

module_injective : Injective module_value
unfolding module_value module_rows
module_injective a b e =
    let symbols = mapped symbol_value symbol_injective a.symbols b.symbols (λ i. (e i).1.1.1.1.1.1.1.0) in
    let sections = mapped section_value section_injective a.sections b.sections (λ i. (e i).1.1.1.1.1.1.1.1.0) in
    let proxies = mapped proxy_value proxy_injective a.proxies b.proxies (λ i. (e i).1.1.1.1.1.1.1.1.1.0) in
    let aux = mapped table_entry table_injective a.aux b.aux (λ i. (e i).1.1.1.1.1.1.1.1.1.1.0) in
    λ i. record {
      uuid = (e i).0;
      binary_path = (e i).1.0;
      preferred_addr = (e i).1.1.0;
      rebase_delta = (e i).1.1.1.0;
      file_format = (e i).1.1.1.1.0;
      isa = (e i).1.1.1.1.1.0;
      name = (e i).1.1.1.1.1.1.0;
      symbols = symbols i;
      sections = sections i;
      proxies = proxies i;
      aux = aux i;
      entry = (e i).1.1.1.1.1.1.1.1.1.1.1.0;
      byte_order = (e i).1.1.1.1.1.1.1.1.1.1.1.1.0;
    }

pub ir_injective : (a b : Ir) → ir_value a ≡ ir_value b → a ≡ b
unfolding ir_value ir_rows
ir_injective a b e =
    let modules = mapped module_value module_injective a.modules b.modules (λ i. (e i).1.0) in
    let aux = mapped table_entry table_injective a.aux b.aux (λ i. (e i).1.1.0) in
    let cfg = optional cfg_value cfg_injective a.cfg b.cfg (λ i. (e i).1.1.1.1.0) in
    λ i. record { uuid = (e i).0; modules = modules i; aux = aux i; version = (e i).1.1.1.0; cfg = cfg i }
