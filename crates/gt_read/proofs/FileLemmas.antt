-- A file that was read.
use Rattle.std.proofs.Common.{◌≡◌, ◌≤◌, ◌-◌, ℕ, take, drop, List, [], ◌∷◌, length, Option, Some, None, Bool, true, false, cond, leb, refl, sym, ap, subst, ◌∙◌, arith}
use Rattle.std.proofs.lemmas.Bool.{eq-eqb}
use Rattle.std.proofs.lemmas.List.{take_all, length-drop}
use Rattle.gt_model.specs.Values.{Fields, Plain}
use Rattle.std.specs.Option.{option_map}
use Rattle.gt_model.specs.declared.ir.Ir.{Ir}
use Rattle.gt_model.specs.Schema.{ir_rows}
use Rattle.gt_model.specs.Views.{ir_value}
use Rattle.gt_read.specs.declared.fault.FormatFault.{FormatFault}
use Rattle.gt_read.specs.declared.fault.FormatFault.TheVariants.{Prefix, Version, UuidLength}
use Rattle.gt_read.specs.declared.ids.IdFault.{IdFault}
use Rattle.gt_read.specs.Faults.{faults, first_of}
use Rattle.gt_read.specs.Identifiers.{bad, least, earlier, plain}
use Rattle.gt_read.specs.File.{file, format_fault, prefix_fault, body_fault, id_fault, version_of, version_fault, version_byte, body_of, body_at, body_meaning, or_else}
use Rattle.gr_base.specs.declared.end.End.{End}
use Rattle.gr_base.specs.declared.end.End.TheVariants as ends
use Rattle.gt_read.specs.Reading.{IsFault}
use Rattle.gt_read.specs.Drafts.Bodies.{IsBody}
use Rattle.gt_read.proofs.Prefixes.{has_prefix}

-- a prefix that has no fault
pub no_fault : (p : Option ℕ) (fault : Option FormatFault) → option_map Prefix p ≡ fault → p ≡ None → fault ≡ None
no_fault p fault e n = sym e ∙ ap (option_map Prefix) n

pub long_enough : (bytes : List ℕ) → prefix_fault bytes ≡ None → 8 ≤ length bytes
long_enough bytes e = (has_prefix bytes e).long

pub prefix_first : (bytes : List ℕ) (fault : FormatFault) → prefix_fault bytes ≡ Some fault → format_fault bytes ≡ Some fault
unfolding format_fault
prefix_first bytes fault e = ap (λ p. or_else p (or_else (body_fault (version_byte bytes) (body_of bytes)) (id_fault (body_meaning (body_of bytes))))) e

pub body_next : (bytes : List ℕ) (fault : FormatFault) → prefix_fault bytes ≡ None → body_fault (version_byte bytes) (body_of bytes) ≡ Some fault → format_fault bytes ≡ Some fault
unfolding format_fault
body_next bytes fault e b =
    ap (λ p. or_else p (or_else (body_fault (version_byte bytes) (body_of bytes)) (id_fault (body_meaning (body_of bytes))))) e
    ∙ ap (λ p. or_else p (id_fault (body_meaning (body_of bytes)))) b

body_sound : (byte : ℕ) (body : List ℕ) (made : Ir) (fault : Option IdFault) → IsBody byte body made fault → body_fault byte body ≡ None
unfolding version_fault
body_sound byte body made fault b =
    ap (λ fs. or_else (first_of fs) (version_fault byte (version_of (body_meaning body)))) b.sound
    ∙ ap (λ t. cond t None (Some (Version byte (version_of (body_meaning body))))) (eq-eqb _ _ b.same_version)

nothing_least : (fs : List IdFault) → least fs ≡ None → fs ≡ []
nothing_least [] e = refl
nothing_least (f ∷ fs) e = by (least fs) e
  where
    either : (g : IdFault) (t : Bool) → ◌≡◌ {A = Option IdFault} (cond t (Some f) (Some g)) None → f ∷ fs ≡ []
    either g true wrong = absurd cc
    either g false wrong = absurd cc

    by : (g : Option IdFault) → earlier (Some f) g ≡ None → f ∷ fs ≡ []
    by None wrong = absurd cc
    by (Some g) wrong = either g (leb f.place g.place) wrong

pub id_last : (bytes : List ℕ) (made : Ir) (fault : IdFault) → prefix_fault bytes ≡ None → IsBody (version_byte bytes) (body_of bytes) made (Some fault)
    → format_fault bytes ≡ Some (UuidLength fault.place fault.len)
unfolding format_fault id_fault
id_last bytes made fault e b =
    ap (λ p. or_else p (or_else (body_fault (version_byte bytes) (body_of bytes)) (id_fault (body_meaning (body_of bytes))))) e
    ∙ ap (λ p. or_else p (id_fault (body_meaning (body_of bytes)))) (body_sound _ _ made (Some fault) b)
    ∙ ap (λ f. option_map (λ (f : IdFault). UuidLength f.place f.len) f) (sym b.ids)

pub is_file : (bytes : List ℕ) (made : Ir) → prefix_fault bytes ≡ None → IsBody (version_byte bytes) (body_of bytes) made None → file bytes made
unfolding version_of ir_rows ir_value plain
is_file bytes made e b =
    let p = has_prefix bytes e in
    let same : body_of bytes ≡ p.body = p.body_is in
    record {
      reserved = (p.first, p.second);
      version = p.version;
      body = p.body;
      whole = p.whole;
      sound = subst (λ x. faults ir_rows x body_at ≡ []) same b.sound;
      ids = nothing_least _ (sym (subst (λ x. ◌≡◌ {A = Option IdFault} None (least (bad ir_rows (body_meaning x)))) same b.ids));
      value = subst (λ x. plain ir_rows (body_meaning x) ≡ ir_value made) same (sym b.value);
      same_version = sym p.version_is ∙ b.same_version ∙ sym (ap (λ (v : Fields Plain ir_rows). v.1.1.1.0) b.value);
    }

pub fault_passed : (bytes : List ℕ) (end : End FormatFault) → prefix_fault bytes ≡ None → IsFault end (body_fault (version_byte bytes) (body_of bytes)) → IsFault end (format_fault bytes)
fault_passed bytes (ends.Fault f) e b = body_next bytes f e b
fault_passed bytes ends.Memory e b = tt

-- the slice behind the prefix
pub behind : (bytes : List ℕ) → 8 ≤ length bytes → take (length bytes - 8) (drop 8 bytes) ≡ body_of bytes
behind bytes le = let all : length (drop 8 bytes) ≡ length bytes - 8 = length-drop 8 bytes in take_all (length bytes - 8) (drop 8 bytes) (omega arith)
