-- Bytes mean one IR at most, and bytes that mean one have no fault.
use Rattle.std.proofs.Common.{◌≡◌, ◌≤◌, ℕ, List, [], length, cond, Option, Some, None, sym, ap, subst, ◌∙◌, arith}
use Rattle.std.specs.Option.{option_map}
use Rattle.std.proofs.lemmas.Bool.{eq-eqb}
use Rattle.gt_model.specs.declared.ir.Ir.{Ir}
use Rattle.gt_model.specs.Schema.{ir_rows}
use Rattle.gt_model.specs.Values.{Fields, Plain}
use Rattle.gt_model.specs.Views.{ir_value}
use Rattle.gt_read.specs.declared.fault.FormatFault.{FormatFault}
use Rattle.gt_read.specs.declared.fault.FormatFault.TheVariants.{Version, UuidLength}
use Rattle.gt_read.specs.declared.ids.IdFault.{IdFault}
use Rattle.gt_read.specs.Faults.{faults, first_of}
use Rattle.gt_read.specs.Identifiers.{bad, least, plain}
use Rattle.gt_read.specs.File.{file, letters, format_fault, prefix_fault, body_fault, id_fault, version_of, version_fault, version_byte, body_of, body_at, body_meaning, differs_at, or_else}
use Rattle.gt_read.proofs.Prefixes.{sound}

-- ---- the parts of a file

body_is : (bytes : List ℕ) (ir : Ir) → (f : file bytes ir) → body_of bytes ≡ f.body
body_is bytes ir f = ap body_of f.whole

byte_is : (bytes : List ℕ) (ir : Ir) → (f : file bytes ir) → version_byte bytes ≡ f.version
byte_is bytes ir f = ap version_byte f.whole

value_is : (bytes : List ℕ) (ir : Ir) → file bytes ir → plain ir_rows (body_meaning (body_of bytes)) ≡ ir_value ir
value_is bytes ir f = ap (λ b. plain ir_rows (body_meaning b)) (body_is bytes ir f) ∙ f.value

pub one_meaning : ((a b : Ir) → ir_value a ≡ ir_value b → a ≡ b) → (bytes : List ℕ) (a b : Ir) → file bytes a → file bytes b → a ≡ b
one_meaning one_value bytes a b f g = one_value a b (sym (value_is bytes a f) ∙ value_is bytes b g)

-- ---- no fault

prefix_sound : (bytes : List ℕ) (ir : Ir) → file bytes ir → prefix_fault bytes ≡ None
prefix_sound bytes ir f = sym (sound bytes (ap (λ b. differs_at letters b 0) f.whole) (subst (λ b. 8 ≤ length b) (sym f.whole) (omega arith)))

version_is : (bytes : List ℕ) (ir : Ir) → file bytes ir → version_byte bytes ≡ version_of (body_meaning (body_of bytes))
unfolding version_of ir_rows ir_value plain
version_is bytes ir f = byte_is bytes ir f ∙ f.same_version ∙ sym (ap (λ (v : Fields Plain ir_rows). v.1.1.1.0) (value_is bytes ir f))

body_sound : (bytes : List ℕ) (ir : Ir) → file bytes ir → body_fault (version_byte bytes) (body_of bytes) ≡ None
unfolding version_fault
body_sound bytes ir f =
    let body = body_of bytes in
    let byte = version_byte bytes in
    let none : faults ir_rows body body_at ≡ [] = ap (λ b. faults ir_rows b body_at) (body_is bytes ir f) ∙ f.sound in
    ap (λ fs. or_else (first_of fs) (version_fault byte (version_of (body_meaning body)))) none
    ∙ ap (λ t. cond t None (Some (Version byte (version_of (body_meaning body))))) (eq-eqb _ _ (version_is bytes ir f))

ids_sound : (bytes : List ℕ) (ir : Ir) → file bytes ir → id_fault (body_meaning (body_of bytes)) ≡ None
unfolding id_fault
ids_sound bytes ir f =
    let none : bad ir_rows (body_meaning (body_of bytes)) ≡ [] = ap (λ b. bad ir_rows (body_meaning b)) (body_is bytes ir f) ∙ f.ids in
    ap (λ fs. option_map (λ (x : IdFault). UuidLength x.place x.len) (least fs)) none

pub no_fault : (bytes : List ℕ) (ir : Ir) → file bytes ir → format_fault bytes ≡ None
unfolding format_fault
no_fault bytes ir f =
    ap (λ p. or_else p (or_else (body_fault (version_byte bytes) (body_of bytes)) (id_fault (body_meaning (body_of bytes))))) (prefix_sound bytes ir f)
    ∙ ap (λ p. or_else p (id_fault (body_meaning (body_of bytes)))) (body_sound bytes ir f)
    ∙ ids_sound bytes ir f

pub fault_excludes : (bytes : List ℕ) (fault : FormatFault) (ir : Ir) → format_fault bytes ≡ Some fault → file bytes ir → ⊥
fault_excludes bytes fault ir e f = let no : ◌≡◌ {A = Option FormatFault} None (Some fault) = sym (no_fault bytes ir f) ∙ e in absurd cc
