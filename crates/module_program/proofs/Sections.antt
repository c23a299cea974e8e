-- The intervals of sections, one section further; what symbols name.
use Rattle.std.proofs.Common.{◌≡◌, ℕ, zero, suc, ◌+◌, ◌<◌, Bool, true, false, List, [], ◌∷◌, ◌++◌, length, get_or, take, Option, Some, None, refl, sym, ap, subst, ◌∙◌, append-nil, arith}
use Rattle.std.specs.Prelude.{filter, unwrap_or, if◌then◌else◌}
use Rattle.std.specs.List.{flat_map, list_any, AllByRecursion}
use Rattle.std.specs.Option.{option_map, option_map_or}
use Rattle.std.proofs.lemmas.Bool.{cond-true, cond-false}
use Rattle.std.proofs.lemmas.List.{take_more}
use Rattle.std.proofs.lemmas.List.Concat.{flat_map-append}
use Rattle.std.proofs.lemmas.List.Elements.{filter-append}
use Rattle.gt_model.specs.declared.intervals.Block.{Block}
use Rattle.gt_model.specs.declared.intervals.Interval.{Interval}
use Rattle.gt_model.specs.declared.modules.Module.{Module}
use Rattle.gt_model.specs.declared.modules.Section.{Section}
use Rattle.gt_model.specs.declared.symbols.Payload.{Payload}
use Rattle.gt_model.specs.declared.symbols.Payload.TheVariants as payloads
use Rattle.gt_model.specs.declared.symbols.Symbol.{Symbol}
use Rattle.module_program.specs.Naming.{block_base, payload_base, symbol_base}
use Rattle.sym_expr.specs.declared.patches.PatchTable.{PatchTable}
use Rattle.sym_expr.specs.declared.target.Target.{Target}
use Rattle.sym_expr.specs.declared.target.Target.TheVariants.{Address, Code, Undefined}
use Rattle.sym_expr.specs.Modules.{has_id, is_loaded, is_code, id_of, size_of}
use Rattle.sym_expr.specs.Program.{has_entry, section_stretches}
use Rattle.sym_expr.specs.Tables.{Tables}
use Rattle.sym_expr.specs.Targets.{point, start_of}

-- one section, with its intervals and, where it has the entry, the functions, where it is loaded
pub one_loaded : (m : Module) (t : Tables) (p : PatchTable) (s : Section) → is_loaded s ≡ true → section_stretches m t p s ≡ flat_map (section_stretches m t p) (filter is_loaded (s ∷ []))
one_loaded m t p s loaded = sym (append-nil (section_stretches m t p s)) ∙ ap (flat_map (section_stretches m t p)) (sym (cond-true (is_loaded s) (s ∷ []) [] loaded))

pub one_skipped : (m : Module) (t : Tables) (p : PatchTable) (s : Section) → is_loaded s ≡ false → [] ≡ flat_map (section_stretches m t p) (filter is_loaded (s ∷ []))
one_skipped m t p s loaded = ap (flat_map (section_stretches m t p)) (sym (cond-false (is_loaded s) (s ∷ []) [] loaded))

-- the section has the block of an identifier, and so the entry, where that is it
pub entry_in : (m : Module) (s : Section) (id : List ℕ) → m.entry ≡ Some id → list_any (λ (i : Interval). list_any (has_id id) i.blocks) s.intervals ≡ has_entry m s
entry_in m s id e = ap (λ (o : Option (List ℕ)). list_any (λ (i : Interval). list_any (has_id (unwrap_or o [])) i.blocks) s.intervals) (sym e)

pub loaded_more : {X A : Type 0} (f : X → List A) (p : X → Bool) (xs : List X) (k : ℕ) (s : X) → k < length xs → s ≡ get_or xs k s
    → flat_map f (filter p (take (k + 1) xs)) ≡ flat_map f (filter p (take k xs)) ++ flat_map f (filter p (s ∷ []))
loaded_more f p xs k s within is =
    ap (λ ys. flat_map f (filter p ys)) (take_more xs k s within ∙ ap (λ y. take k xs ++ y ∷ []) (sym is))
    ∙ ap (flat_map f) (filter-append p (take k xs) (s ∷ []))
    ∙ flat_map-append f (filter p (take k xs)) (filter p (s ∷ []))

base_payload_same : (count other : List ℕ → ℕ → ℕ) (found find : List ℕ → Option Block) (s : Symbol) (payload : Payload)
    → ((b : List ℕ) (o : ℕ) → count b o ≡ other b o) → ((id : List ℕ) → found id ≡ find id) → payload_base count found s payload ≡ payload_base other find s payload
base_payload_same count other found find s payloads.Nothing same blocks = refl
base_payload_same count other found find s (payloads.Value value) same blocks = refl
base_payload_same count other found find s (payloads.Referent id) same blocks =
    ap (λ (o : Option Block). option_map_or (block_base count s.at_end) o (Undefined s.uuid)) (blocks id)
    ∙ each (find id)
  where
    block_same : (b : Block) → block_base count s.at_end b ≡ block_base other s.at_end b
    block_same b = ap (λ (n : ℕ). if is_code b then Code (if s.at_end then point (id_of b) (size_of b) n else start_of (id_of b)) else Address (id_of b) (if s.at_end then size_of b else 0)) (same (id_of b) (size_of b))

    each : (o : Option Block) → option_map_or (block_base count s.at_end) o (Undefined s.uuid) ≡ option_map_or (block_base other s.at_end) o (Undefined s.uuid)
    each None = refl
    each (Some b) = block_same b

-- counts and blocks that are alike give symbols the same
pub bases_same : (count other : List ℕ → ℕ → ℕ) (found find : List ℕ → Option Block) (o : Option Symbol)
    → ((b : List ℕ) (at : ℕ) → count b at ≡ other b at) → ((id : List ℕ) → found id ≡ find id) → option_map (symbol_base count found) o ≡ option_map (symbol_base other find) o
bases_same count other found find None same blocks = refl
bases_same count other found find (Some s) same blocks = ap (λ (t : Target). Some t) (base_payload_same count other found find s s.payload same blocks)

-- what holds of each holds of the one at a place, as a loop comes to it
holds_at : {X : Type 0} (P : X → Type 0) (xs : List X) (k : ℕ) (d : X) → AllByRecursion P xs → k < length xs → P (get_or xs k d)
holds_at P [] k d all within = absurd (omega arith)
holds_at P (x ∷ xs) zero d all within = all.0
holds_at P (x ∷ xs) (suc k) d all within = holds_at P xs k d all.1 (omega arith)

pub holds_of : {X : Type 0} (P : X → Type 0) (xs ys : List X) (k : ℕ) (x : X) → ys ≡ xs → AllByRecursion P xs → k < length ys → x ≡ get_or ys k x → P x
holds_of P xs ys k x same all within is = subst P (sym is) (holds_at P ys k x (subst (AllByRecursion P) (sym same) all) within)
