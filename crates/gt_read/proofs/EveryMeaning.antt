-- The meaning of a body is the value of an IR: of each oneof one member at most is set.
use Rattle.std.proofs.Common.{◌≡◌, ◌≢◌, ℕ, ℤ, Bool, true, false, cond, List, [], ◌∷◌, map, Option, Some, None, refl, sym, ap, ◌∙◌, inl, inr}
use Rattle.std.specs.Prelude.{◌⊎◌, ◌==◌, ◌&&◌, unwrap_or}
use Rattle.std.specs.declared.cmp.Ordering.{Ordering}
use Rattle.std.specs.declared.cmp.Ordering.TheVariants.{Less, Equal, Greater}
use Rattle.std.specs.Ordering.{match_ordering}
use Rattle.std.specs.BTreeMap.{insert_entry}
use Rattle.std.specs.List.{AllByRecursion, filter, filter_map, fold, list_all}
use Rattle.std.specs.Option.{option_map}
use Rattle.std.proofs.lemmas.Bool.{eqb-true}
use Rattle.gt_model.specs.declared.exprs.ExprValue.{ExprValue}
use Rattle.gt_model.specs.declared.exprs.ExprValue.TheVariants as values
use Rattle.gt_model.specs.declared.intervals.Body.{Body}
use Rattle.gt_model.specs.declared.intervals.Body.TheVariants as bodies
use Rattle.gt_model.specs.declared.symbols.Payload.{Payload}
use Rattle.gt_model.specs.declared.symbols.Payload.TheVariants as payloads
use Rattle.gt_model.specs.Schema.{Kind, Id, Unsigned64, NumberKey, Members, Rows, expr_values, symbol_payloads, block_bodies, table_rows, label_rows, edge_rows, cfg_rows, addr_addr_rows, addr_const_rows, expr_rows, symbol_rows, proxy_rows, data_rows, code_rows, block_rows, interval_rows, section_rows, module_rows, ir_rows}
use Rattle.gt_model.specs.Values.{Fields, Plain}
use Rattle.gt_model.specs.Views.{table_fields, table_entry, label_value, edge_value, cfg_value, addr_const_fields, addr_addr_fields, addr_const_value, addr_addr_value, expr_fields, expr_entry, number_of, referent_of, symbol_value, proxy_value, code_fields, data_fields, code_value, data_value, block_value, interval_value, section_value, module_value, ir_value}
use Rattle.gt_read.specs.Pieces.{Piece}
use Rattle.gt_read.specs.Kinds.{Read, Run, run_of, of_number}
use Rattle.gt_read.specs.Meaning.{meaning, joined, joined_message, last_value, last_turn, trailing, is_member, alone, entry_of, map_of, key_cmp}
use Rattle.gt_read.specs.Identifiers.{plain, plain_of}

-- the value is that of something
abbrev pub Made : {A B : Type 0} → (A → B) → B → Type 0
Made {A} f b = (a : A) × (f a ≡ b)

-- ---- lists and options

made_each : {A B R : Type 0} (f : A → B) (g : R → B) → ((r : R) → Made f (g r)) → (rs : List R) → Made (map f) (map g rs)
made_each f g make [] = ([], refl)
made_each f g make (r ∷ rs) = let a = make r in let more = made_each f g make rs in (a.0 ∷ more.0, λ i. a.1 i ∷ more.1 i)

made_all : {A B : Type 0} (f : A → B) → ((b : B) → Made f b) → (bs : List B) → Made (map f) bs
made_all f make [] = ([], refl)
made_all f make (b ∷ bs) = let a = make b in let more = made_all f make bs in (a.0 ∷ more.0, λ i. a.1 i ∷ more.1 i)

made_option : {A B : Type 0} (f : A → B) → ((b : B) → Made f b) → (o : Option B) → Made (option_map f) o
made_option f make None = (None, refl)
made_option f make (Some b) = let a = make b in (Some a.0, λ i. Some (a.1 i))

module _ (rows : Rows) where
  abbrev inside : ℕ → List Piece → Fields Read rows
  inside place ps = meaning rows place ps

  -- messages one by one
  made_messages : {A : Type 0} (f : A → Fields Plain rows) → ((place : ℕ) (ps : List Piece) → Made f (plain rows (meaning rows place ps))) → (rs : List Run) → Made (map f) (map (plain rows) (map (alone inside) rs))
  made_messages f make [] = ([], refl)
  made_messages f make (r ∷ rs) = let a = make _ _ in let more = made_messages f make rs in (a.0 ∷ more.0, λ i. a.1 i ∷ more.1 i)

-- ---- oneofs

nothing_at_end : {A : Type 0} (test : A → Bool) (other : A → Bool) → ((x : A) → test x ≡ true → other x ≡ true → ⊥) → (x : A) (xs : List A) → list_all test (x ∷ xs) ≡ true → trailing other (x ∷ xs) ≡ []
nothing_at_end test other apart x [] e = by (test x) (other x) refl refl e
  where
    by : (a b : Bool) → test x ≡ a → other x ≡ b → list_all test (x ∷ []) ≡ true → trailing other (x ∷ []) ≡ []
    by true true s t e = absurd (apart x s t)
    by true false s t e = ap (λ b. cond (b && true) (x ∷ []) []) t
    by false b s t e = let no : ◌≡◌ {A = Bool} false true = sym (ap (λ b. b && true) s) ∙ e in absurd cc
nothing_at_end test other apart x (y ∷ ys) e =
    let rest : list_all test (y ∷ ys) ≡ true = second (test x) (list_all test (y ∷ ys)) e in
    let more = nothing_at_end test other apart y ys rest in
    let fails : list_all other (y ∷ ys) ≡ false = not_all (list_all other (y ∷ ys)) refl more in
    ap (λ b. cond (other x && b) (x ∷ y ∷ ys) (trailing other (y ∷ ys))) fails ∙ neither (other x) ∙ more
  where
    second : (a b : Bool) → a && b ≡ true → b ≡ true
    second true b e = e
    second false b e = absurd cc

    not_all : (b : Bool) → list_all other (y ∷ ys) ≡ b → trailing other (y ∷ ys) ≡ [] → list_all other (y ∷ ys) ≡ false
    not_all true s t = let no = sym (ap (λ b. cond b (y ∷ ys) (trailing other ys)) s) ∙ t in absurd cc
    not_all false s t = s

    neither : (a : Bool) → cond (a && false) (x ∷ y ∷ ys) (trailing other (y ∷ ys)) ≡ trailing other (y ∷ ys)
    neither true = refl
    neither false = refl

one_trailing : {A : Type 0} (test other : A → Bool) → ((x : A) → test x ≡ true → other x ≡ true → ⊥) → (xs : List A) → (trailing test xs ≡ []) ⊎ (trailing other xs ≡ [])
one_trailing test other apart [] = inl refl
one_trailing test other apart (x ∷ xs) = by (one_trailing test other apart xs) (list_all test (x ∷ xs)) (list_all other (x ∷ xs)) refl refl
  where
    by : (trailing test xs ≡ []) ⊎ (trailing other xs ≡ []) → (a b : Bool) → list_all test (x ∷ xs) ≡ a → list_all other (x ∷ xs) ≡ b → (trailing test (x ∷ xs) ≡ []) ⊎ (trailing other (x ∷ xs) ≡ [])
    by h true b s t = inr (nothing_at_end test other apart x xs s)
    by h false true s t = inl (nothing_at_end other test (λ y p q. apart y q p) x xs t)
    by (inl h) false false s t = inl (ap (λ b. cond b (x ∷ xs) (trailing test xs)) s ∙ h)
    by (inr h) false false s t = inr (ap (λ b. cond b (x ∷ xs) (trailing other xs)) t ∙ h)

-- of two members one has no last turn
one_turn : (members : Members) (m n : ℕ) → m ≢ n → (ps : List Piece) → (last_turn members m ps ≡ []) ⊎ (last_turn members n ps ≡ [])
one_turn members m n apart ps =
    one_trailing (λ (p : Piece). p.number == m) (λ (p : Piece). p.number == n) (λ p s t. apart (sym (eqb-true p.number m s) ∙ eqb-true p.number n t)) (filter (is_member members) ps)

-- ---- parts without oneofs

table_made : (e : List ℕ × Fields Plain table_rows) → Made table_entry e
unfolding table_rows table_fields
table_made e = (record { name = e.0; type_name = e.1.0; bytes = e.1.1.0 }, refl)

label_made : (v : Fields Plain label_rows) → Made label_value v
unfolding label_rows label_value
label_made v = (record { conditional = v.0; direct = v.1.0; kind = v.1.1.0 }, refl)

edge_made : (v : Fields Plain edge_rows) → Made edge_value v
unfolding edge_rows edge_value
edge_made v =
    let label = made_option label_value label_made v.1.1.0 in
    (record { source = v.0; target = v.1.0; label = label.0 }, λ i. (v.0, (v.1.0, (label.1 i, tt))))

cfg_made : (v : Fields Plain cfg_rows) → Made cfg_value v
unfolding cfg_rows cfg_value
cfg_made v =
    let edges = made_all edge_value edge_made v.0 in
    (record { edges = edges.0; vertices = v.1.0 }, λ i. (edges.1 i, (v.1.0, tt)))

proxy_made : (v : Fields Plain proxy_rows) → Made proxy_value v
unfolding proxy_rows proxy_value
proxy_made v = (v.0, refl)

-- ---- expressions

const_made : (v : Fields Plain addr_const_rows) → (o : ℤ) × (s : Option (List ℕ)) × (addr_const_fields o s ≡ v)
unfolding addr_const_rows addr_const_fields
const_made v = (v.0, v.1.0, refl)

addr_made : (v : Fields Plain addr_addr_rows) → (c : ℤ) × (o : ℤ) × (s : Option (List ℕ)) × (t : Option (List ℕ)) × (addr_addr_fields c o s t ≡ v)
unfolding addr_addr_rows addr_addr_fields
addr_made v = (v.0, v.1.0, v.1.1.0, v.1.1.1.0, refl)

abbrev IsValueOf : ExprValue → Option (Fields Plain addr_const_rows) → Option (Fields Plain addr_addr_rows) → Type 0
IsValueOf v a b = (addr_const_value v ≡ a) × (addr_addr_value v ≡ b)

value_made : (a : Option (Fields Plain addr_const_rows)) (b : Option (Fields Plain addr_addr_rows)) → (a ≡ None) ⊎ (b ≡ None) → (v : ExprValue) × IsValueOf v a b
value_made None None one = (values.Nothing, (refl, refl))
value_made (Some a) None one = let c = const_made a in (values.AddrConst c.0 c.1, (ap (λ (x : Fields Plain addr_const_rows). Some x) c.2, refl))
value_made None (Some b) one = let c = addr_made b in (values.AddrAddr c.0 c.1 c.2 c.3, (refl, ap (λ (x : Fields Plain addr_addr_rows). Some x) c.4))
value_made (Some a) (Some b) (inl e) = absurd cc
value_made (Some a) (Some b) (inr e) = absurd cc

-- a message that isn't there
no_message : (rows : Rows) (ps : List Piece) → ps ≡ [] → option_map (plain rows) (joined_message (inside rows) ps) ≡ None
no_message rows ps e = ap (λ qs. option_map (plain rows) (joined_message (inside rows) qs)) e

either : {A B C D : Type 0} → (A → C) → (B → D) → A ⊎ B → C ⊎ D
either f g (inl a) = inl (f a)
either f g (inr b) = inr (g b)

record IsExpr (v : Fields Plain expr_rows) : Type 0 where
  value : ExprValue
  flags : List ℤ
  same : expr_fields value flags ≡ v

expr_made : (place : ℕ) (ps : List Piece) → IsExpr (plain expr_rows (meaning expr_rows place ps))
unfolding meaning plain expr_rows expr_fields
expr_made place ps =
    let v = plain expr_rows (meaning expr_rows place ps) in
    let one = value_made v.0 v.1.0 (either (no_message addr_const_rows _) (no_message addr_addr_rows _) (one_turn expr_values 2 3 (λ e. cc) ps)) in
    record { value = one.0; flags = v.1.1.0; same = λ i. (one.1.0 i, (one.1.1 i, (v.1.1.0, tt))) }

-- ---- maps of expressions

module _ {K V : Type 0} (R : K → K → Ordering) (P : V → Type 0) where
  all_inserted : (es : List (K × V)) (k : K) (v : V) → P v → AllByRecursion (λ (e : K × V). P e.1) es → AllByRecursion (λ (e : K × V). P e.1) (insert_entry R es k v)
  all_inserted [] k v p all = (p, tt)
  all_inserted (e ∷ es) k v p all = by (R k e.0) (all_inserted es k v p all.1)
    where
      by : (r : Ordering) → AllByRecursion (λ (e : K × V). P e.1) (insert_entry R es k v) → AllByRecursion (λ (e : K × V). P e.1) (match_ordering r ((k, v) ∷ e ∷ es) ((e.0, v) ∷ es) (e ∷ insert_entry R es k v))
      by Less h = (p, all)
      by Equal h = (p, all.1)
      by Greater h = (all.0, h)

  all_folded : (es m : List (K × V)) → AllByRecursion (λ (e : K × V). P e.1) es → AllByRecursion (λ (e : K × V). P e.1) m → AllByRecursion (λ (e : K × V). P e.1) (fold (λ n (e : K × V). insert_entry R n e.0 e.1) m es)
  all_folded [] m all done = done
  all_folded (e ∷ es) m all done = all_folded es (insert_entry R m e.0 e.1) all.1 (all_inserted m e.0 e.1 all.0 done)

abbrev HoldsExpr : Fields Read expr_rows → Type 0
HoldsExpr w = IsExpr (plain expr_rows w)

joined_expr : (place : ℕ) (rs : List Run) → HoldsExpr (unwrap_or (joined (inside expr_rows) rs) (inside expr_rows place []))
joined_expr place [] = expr_made place []
joined_expr place (r ∷ rs) = expr_made _ _

entry_exprs : (rs : List Run) → AllByRecursion (λ (e : ℕ × Fields Read expr_rows). HoldsExpr e.1) (map (entry_of NumberKey (inside expr_rows)) rs)
entry_exprs [] = tt
entry_exprs (r ∷ rs) = (joined_expr r.place _, entry_exprs rs)

abbrev plain_entry : ℕ × Fields Read expr_rows → ℕ × Fields Plain expr_rows
plain_entry e = (e.0, plain expr_rows e.1)

exprs_of : (es : List (ℕ × Fields Read expr_rows)) → AllByRecursion (λ (e : ℕ × Fields Read expr_rows). HoldsExpr e.1) es → Made (map expr_entry) (map plain_entry es)
exprs_of [] all = ([], refl)
exprs_of (e ∷ es) all =
    let x = all.0 in
    let more = exprs_of es all.1 in
    (record { at = e.0; value = x.value; flags = x.flags } ∷ more.0, λ i. (e.0, x.same i) ∷ more.1 i)

exprs_made : (rs : List Run) → Made (map expr_entry) (map plain_entry (map_of (key_cmp NumberKey) (map (entry_of NumberKey (inside expr_rows)) rs)))
exprs_made rs = exprs_of _ (all_folded (key_cmp NumberKey) HoldsExpr (map (entry_of NumberKey (inside expr_rows)) rs) [] (entry_exprs rs) tt)

-- ---- blocks

code_made : (v : Fields Plain code_rows) → (u : List ℕ) × (s : ℕ) × (d : ℕ) × (code_fields u s d ≡ v)
unfolding code_rows code_fields
code_made v = (v.0, v.1.0, v.1.1.0, refl)

data_made : (v : Fields Plain data_rows) → (u : List ℕ) × (s : ℕ) × (data_fields u s ≡ v)
unfolding data_rows data_fields
data_made v = (v.0, v.1.0, refl)

body_made : (a : Option (Fields Plain code_rows)) (b : Option (Fields Plain data_rows)) → (a ≡ None) ⊎ (b ≡ None) → (body : Body) × ((code_value body ≡ a) × (data_value body ≡ b))
body_made None None one = (bodies.Bare, (refl, refl))
body_made (Some a) None one = let c = code_made a in (bodies.Code c.0 c.1 c.2, (ap (λ (x : Fields Plain code_rows). Some x) c.3, refl))
body_made None (Some b) one = let c = data_made b in (bodies.Data c.0 c.1, (refl, ap (λ (x : Fields Plain data_rows). Some x) c.2))
body_made (Some a) (Some b) (inl e) = absurd cc
body_made (Some a) (Some b) (inr e) = absurd cc

block_made : (place : ℕ) (ps : List Piece) → Made block_value (plain block_rows (meaning block_rows place ps))
unfolding meaning plain block_rows block_value
block_made place ps =
    let v = plain block_rows (meaning block_rows place ps) in
    let one = body_made v.1.0 v.1.1.0 (either (no_message code_rows _) (no_message data_rows _) (one_turn block_bodies 2 3 (λ e. cc) ps)) in
    (record { offset = v.0; body = one.0 }, λ i. (v.0, (one.1.0 i, (one.1.1 i, tt))))

interval_made : (place : ℕ) (ps : List Piece) → Made interval_value (plain interval_rows (meaning interval_rows place ps))
unfolding meaning plain interval_rows interval_value
interval_made place ps =
    let v = plain interval_rows (meaning interval_rows place ps) in
    let blocks = made_messages block_rows block_value block_made (filter_map run_of (of_number 2 ps)) in
    let exprs = exprs_made (filter_map run_of (of_number 3 ps)) in (
      record { uuid = v.0; blocks = blocks.0; exprs = exprs.0; has_address = v.1.1.1.0; address = v.1.1.1.1.0; size = v.1.1.1.1.1.0; contents = v.1.1.1.1.1.1.0 },
      λ i. (v.0, (blocks.1 i, (exprs.1 i, v.1.1.1))),
    )

-- ---- modules

section_made : (place : ℕ) (ps : List Piece) → Made section_value (plain section_rows (meaning section_rows place ps))
unfolding meaning plain section_rows section_value
section_made place ps =
    let v = plain section_rows (meaning section_rows place ps) in
    let intervals = made_messages interval_rows interval_value interval_made (filter_map run_of (of_number 5 ps)) in
    (record { uuid = v.0; name = v.1.0; intervals = intervals.0; flags = v.1.1.1.0 }, λ i. (v.0, (v.1.0, (intervals.1 i, v.1.1.1))))

payload_made : (a : Option ℕ) (b : Option (List ℕ)) → (a ≡ None) ⊎ (b ≡ None) → (p : Payload) × ((number_of p ≡ a) × (referent_of p ≡ b))
payload_made None None one = (payloads.Nothing, (refl, refl))
payload_made (Some a) None one = (payloads.Value a, (refl, refl))
payload_made None (Some b) one = (payloads.Referent b, (refl, refl))
payload_made (Some a) (Some b) (inl e) = absurd cc
payload_made (Some a) (Some b) (inr e) = absurd cc

no_value : (k : Kind) (ps : List Piece) → ps ≡ [] → option_map (plain_of k) (last_value k ps) ≡ None
no_value k ps e = ap (λ qs. option_map (plain_of k) (last_value k qs)) e

symbol_made : (place : ℕ) (ps : List Piece) → Made symbol_value (plain symbol_rows (meaning symbol_rows place ps))
unfolding meaning plain symbol_rows symbol_value
symbol_made place ps =
    let v = plain symbol_rows (meaning symbol_rows place ps) in
    let one = payload_made v.1.0 v.1.1.1.0 (either (no_value Unsigned64 _) (no_value Id _) (one_turn symbol_payloads 2 5 (λ e. cc) ps)) in
    (record { uuid = v.0; name = v.1.1.0; at_end = v.1.1.1.1.0; payload = one.0 }, λ i. (v.0, (one.1.0 i, (v.1.1.0, (one.1.1 i, v.1.1.1.1)))))

module_made : (place : ℕ) (ps : List Piece) → Made module_value (plain module_rows (meaning module_rows place ps))
unfolding meaning plain module_rows module_value
module_made place ps =
    let v = plain module_rows (meaning module_rows place ps) in
    let symbols = made_messages symbol_rows symbol_value symbol_made (filter_map run_of (of_number 9 ps)) in
    let sections = made_messages section_rows section_value section_made (filter_map run_of (of_number 12 ps)) in
    let proxies = made_all proxy_value proxy_made v.1.1.1.1.1.1.1.1.1.0 in
    let aux = made_all table_entry table_made v.1.1.1.1.1.1.1.1.1.1.0 in (
      record {
        uuid = v.0;
        binary_path = v.1.0;
        preferred_addr = v.1.1.0;
        rebase_delta = v.1.1.1.0;
        file_format = v.1.1.1.1.0;
        isa = v.1.1.1.1.1.0;
        name = v.1.1.1.1.1.1.0;
        symbols = symbols.0;
        sections = sections.0;
        proxies = proxies.0;
        aux = aux.0;
        entry = v.1.1.1.1.1.1.1.1.1.1.1.0;
        byte_order = v.1.1.1.1.1.1.1.1.1.1.1.1.0;
      },
      λ i. (v.0, (v.1.0, (v.1.1.0, (v.1.1.1.0, (v.1.1.1.1.0, (v.1.1.1.1.1.0, (v.1.1.1.1.1.1.0, (symbols.1 i, (sections.1 i, (proxies.1 i, (aux.1 i, v.1.1.1.1.1.1.1.1.1.1.1))))))))))),
    )

pub ir_made : (place : ℕ) (ps : List Piece) → Made ir_value (plain ir_rows (meaning ir_rows place ps))
unfolding meaning plain ir_rows ir_value
ir_made place ps =
    let v = plain ir_rows (meaning ir_rows place ps) in
    let modules = made_messages module_rows module_value module_made (filter_map run_of (of_number 3 ps)) in
    let aux = made_all table_entry table_made v.1.1.0 in
    let cfg = made_option cfg_value cfg_made v.1.1.1.1.0 in
    (record { uuid = v.0; modules = modules.0; aux = aux.0; version = v.1.1.1.0; cfg = cfg.0 }, λ i. (v.0, (modules.1 i, (aux.1 i, (v.1.1.1.0, (cfg.1 i, tt))))))
