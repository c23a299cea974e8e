-- The last parts of blocks, and how they are found.
use Rattle.std.proofs.Common.{◌≡◌, ℕ, suc, ◌-◌, Bool, true, false, cond, List, [], ◌∷◌, length, map, Option, Some, None, refl, sym, ap, ◌∙◌, arith}
use Rattle.std.specs.Prelude.{find, slice_get, unwrap_or, if◌then◌else◌}
use Rattle.std.specs.Option.{option_map, option_map_or}
use Rattle.std.specs.Str.{bytes_eq}
use Rattle.block_parts.specs.declared.parts.Part.{Part}
use Rattle.gt_model.specs.declared.modules.Module.{Module}
use Rattle.gt_model.specs.declared.symbols.Payload.{Payload}
use Rattle.gt_model.specs.declared.symbols.Payload.TheVariants as payloads
use Rattle.gt_model.specs.declared.symbols.Symbol.{Symbol}
use Rattle.new_symbols.specs.Entries.{last_entry, value_of}
use Rattle.new_symbols.specs.Finding.{payload_by, symbol_by}
use Rattle.rewrite.specs.Identifiers.{last_part, part_id}
use Rattle.rewrite.specs.Symbols.{end_holder, end_payload, last_id, moved_symbol}
use Rattle.sym_expr.specs.declared.program.CodeBlock.{CodeBlock}
use Rattle.sym_expr.specs.declared.program.Program.{Program}
use Rattle.sym_expr.specs.Points.{code_at}

-- the last of the parts, by its place
pub last_is : (m : Module) (id : List ℕ) (qs : List Part) → option_map_or (part_id m id) (slice_get qs (length qs - 1)) id ≡ part_id m id (last_part qs)
last_is m id [] = refl
last_is m id (q ∷ []) = refl
last_is m id (q ∷ r ∷ rest) =
    let e : length (q ∷ r ∷ rest) - 1 ≡ suc (length (r ∷ rest) - 1) = omega arith in
    ap (λ n. option_map_or (part_id m id) (slice_get (q ∷ r ∷ rest) n) id) e ∙ last_is m id (r ∷ rest)

map_cond : {A B : Type 0} (f : A → B) (t : Bool) (x : A) (o : Option A) → option_map f (cond t (Some x) o) ≡ cond t (Some (f x)) (option_map f o)
map_cond f true x o = refl
map_cond f false x o = refl

pub first_value : (id : List ℕ) (e : List ℕ × List ℕ) (es : List (List ℕ × List ℕ)) → value_of id (e ∷ es) ≡ cond (bytes_eq e.0 id) (Some e.1) (value_of id es)
first_value id e es = map_cond (λ (x : List ℕ × List ℕ). x.1) (bytes_eq e.0 id) e (find (λ (x : List ℕ × List ℕ). bytes_eq x.0 id) es)

pub lasts_found : (m : Module) (id : List ℕ) (bs : List CodeBlock) → value_of id (map (last_entry m) bs) ≡ option_map (last_id m) (find (λ (b : CodeBlock). bytes_eq b.id id) bs)
lasts_found m id [] = refl
lasts_found m id (b ∷ bs) =
    first_value id (last_entry m b) (map (last_entry m) bs)
    ∙ ap (λ (o : Option (List ℕ)). cond (bytes_eq b.id id) (Some (last_id m b)) o) (lasts_found m id bs)
    ∙ sym (map_cond (last_id m) (bytes_eq b.id id) b (find (λ (x : CodeBlock). bytes_eq x.id id) bs))

-- ---- symbols, by how last parts are found

either_way : (f : CodeBlock → List ℕ) (o : Option CodeBlock) (id : List ℕ) → unwrap_or (option_map f o) id ≡ option_map_or f o id
either_way f None id = refl
either_way f (Some b) id = refl

payload_same : (m : Module) (g : Program) (found : List ℕ → Option (List ℕ)) → ((id : List ℕ) → found id ≡ option_map (last_id m) (code_at g id)) → (x : Payload) → payload_by found x ≡ end_payload m g x
payload_same m g found finds payloads.Nothing = refl
payload_same m g found finds (payloads.Value value) = refl
payload_same m g found finds (payloads.Referent id) =
    ap (λ (o : Option (List ℕ)). payloads.Referent (unwrap_or o id)) (finds id)
    ∙ ap (λ (x : List ℕ). payloads.Referent x) (either_way (last_id m) (code_at g id) id)

pub symbol_same : (m : Module) (g : Program) (found : List ℕ → Option (List ℕ)) → ((id : List ℕ) → found id ≡ option_map (last_id m) (code_at g id)) → (s : Symbol) → symbol_by found s ≡ moved_symbol m g s
symbol_same m g found finds s = ap (λ (x : Payload). if s.at_end then record s { payload = x } else s) (payload_same m g found finds s.payload)
