-- What the first bytes of a file say of what it comes to.
use Rattle.std.proofs.Common.{◌≡◌, ◌≢◌, ℕ, ◌+◌, ◌<◌, ◌≤◌, Bool, true, false, cond, eqb, List, [], ◌∷◌, ◌++◌, length, get_or, drop, Option, Some, None, Ok, Err, refl, sym, ap, subst, ◌∙◌, arith}
use Rattle.std.specs.Prelude.{nat_lt, Result, IfOk, IfErr}
use Rattle.std.specs.List.{fold}
use Rattle.std.specs.Option.{option_map}
use Rattle.std.proofs.lemmas.Bool.{ltb-false, ltb-true}
use Rattle.std.proofs.lemmas.List.{append-nil, drop-append-le, get_or_append_left, length-append}
use Rattle.gr_base.specs.declared.end.End.{End}
use Rattle.gr_base.specs.declared.end.End.TheVariants as ends
use Rattle.gt_model.specs.declared.ir.Ir.{Ir}
use Rattle.gt_model.specs.Schema.{ir_rows}
use Rattle.gt_model.specs.Values.{Fields, Plain}
use Rattle.gt_model.specs.Views.{ir_value}
use Rattle.gt_read.specs.declared.fault.FormatFault.{FormatFault}
use Rattle.gt_read.specs.declared.fault.FormatFault.TheVariants.{Prefix}
use Rattle.gt_read.specs.declared.ids.IdFault.{IdFault}
use Rattle.gt_read.specs.Drafts.Draft.{DFields, drafted, empty, step, finished, worst}
use Rattle.gt_read.specs.Faults.{faults, first_of}
use Rattle.gt_read.specs.Feeding.{draft_version, draft_ends, length_fault, body_ends, Comes}
use Rattle.gt_read.specs.File.{file, letters, differs_at, format_fault, prefix_fault, body_fault, id_fault, version_of, version_fault, version_byte, body_of, body_at, body_meaning, or_else}
use Rattle.gt_read.specs.Identifiers.{bad, least, plain}
use Rattle.gt_read.specs.Kinds.{Read}
use Rattle.gt_read.specs.Outcome.{Outcome, or_fault, outcome}
use Rattle.gt_read.specs.Pieces.{pieces}
use Rattle.gt_read.specs.Reading.{IsFault}
use Rattle.gt_read.proofs.FileLemmas.{prefix_first}
use Rattle.gt_read.proofs.Finishing.{back, all_worst}
use Rattle.gt_read.proofs.NoFault.{sound_as}
use Rattle.gt_read.proofs.Prefixes.{found, sound, rest_fault}
use Rattle.gt_read.proofs.Steps.{stepped_all}

-- ---- the letters of bytes to which more come

same_letters : (ls bs rest : List ℕ) (at : ℕ) → differs_at ls bs at ≡ None → differs_at ls (bs ++ rest) at ≡ None
same_letters [] bs rest at e = refl
same_letters (c ∷ cs) [] rest at e = absurd cc
same_letters (c ∷ cs) (b ∷ bs) rest at e = by (eqb b c) (same_letters cs bs rest (at + 1)) e
  where
    by : (t : Bool) → (differs_at cs bs (at + 1) ≡ None → differs_at cs (bs ++ rest) (at + 1) ≡ None) → cond t (differs_at cs bs (at + 1)) (Some at) ≡ None → cond t (differs_at cs (bs ++ rest) (at + 1)) (Some at) ≡ None
    by true more e = more e
    by false more e = absurd cc

wrong_letter : (ls bs rest : List ℕ) (at n : ℕ) → n < at + length bs → differs_at ls bs at ≡ Some n → differs_at ls (bs ++ rest) at ≡ Some n
wrong_letter [] bs rest at n h e = absurd cc
wrong_letter (c ∷ cs) [] rest at n h e = let same : at ≡ n = cc in absurd (omega arith)
wrong_letter (c ∷ cs) (b ∷ bs) rest at n h e = by (eqb b c) (wrong_letter cs bs rest (at + 1) n (omega (arith, h))) e
  where
    by : (t : Bool) → (differs_at cs bs (at + 1) ≡ Some n → differs_at cs (bs ++ rest) (at + 1) ≡ Some n) → cond t (differs_at cs bs (at + 1)) (Some at) ≡ Some n → cond t (differs_at cs (bs ++ rest) (at + 1)) (Some at) ≡ Some n
    by true more e = more e
    by false more e = e

prefix_of : (d : Option ℕ) (bytes : List ℕ) → differs_at letters bytes 0 ≡ d → prefix_fault bytes ≡ option_map Prefix (or_else d (rest_fault bytes))
unfolding prefix_fault
prefix_of d bytes e = ap (λ d. option_map Prefix (or_else d (rest_fault bytes))) e

some_prefix : (a b : ℕ) → ◌≡◌ {A = Option FormatFault} (Some (Prefix a)) (Some (Prefix b)) → a ≡ b
some_prefix a b e = cc

-- a prefix without a fault has none whatever follows
record Sound (bytes : List ℕ) : Type 0 where
  letters_are : differs_at letters bytes 0 ≡ None
  long : 8 ≤ length bytes

is_sound : (bytes : List ℕ) → prefix_fault bytes ≡ None → Sound bytes
is_sound bytes e = by (differs_at letters bytes 0) refl
  where
    long : (t : Bool) → nat_lt (length bytes) 8 ≡ t → option_map Prefix (cond t (Some (length bytes)) None) ≡ None → 8 ≤ length bytes
    long true is h = absurd cc
    long false is h = ltb-false _ _ is

    by : (d : Option ℕ) → differs_at letters bytes 0 ≡ d → Sound bytes
    by (Some n) is = let wrong : ◌≡◌ {A = Option FormatFault} (Some (Prefix n)) None = sym (prefix_of (Some n) bytes is) ∙ e in absurd cc
    by None is = record { letters_are = is; long = long (nat_lt (length bytes) 8) refl (sym (prefix_of None bytes is) ∙ e) }

pub prefix_lasts : (bytes rest : List ℕ) → prefix_fault bytes ≡ None → prefix_fault (bytes ++ rest) ≡ None
prefix_lasts bytes rest e =
    let s = is_sound bytes e in
    sym (sound (bytes ++ rest) (same_letters letters bytes rest 0 s.letters_are) (omega (arith, length-append bytes rest, s.long)))

pub wrong_lasts : (bytes rest : List ℕ) (n : ℕ) → prefix_fault bytes ≡ Some (Prefix n) → n < length bytes → prefix_fault (bytes ++ rest) ≡ Some (Prefix n)
wrong_lasts bytes rest n e h = by (differs_at letters bytes 0) refl
  where
    short : (t : Bool) → option_map Prefix (cond t (Some (length bytes)) None) ≡ Some (Prefix n) → length bytes ≡ n
    short true e = some_prefix _ _ e
    short false e = absurd cc

    by : (d : Option ℕ) → differs_at letters bytes 0 ≡ d → prefix_fault (bytes ++ rest) ≡ Some (Prefix n)
    by (Some m) is =
        let same : m ≡ n = some_prefix m n (sym (prefix_of (Some m) bytes is) ∙ e) in
        sym (found (bytes ++ rest) n (wrong_letter letters bytes rest 0 n (omega arith) (is ∙ ap Some same)))
    by None is = let same = short (nat_lt (length bytes) 8) (sym (prefix_of None bytes is) ∙ e) in absurd (omega (arith, same, h))

pub wrong_prefix : (bytes : List ℕ) (n : ℕ) → prefix_fault bytes ≡ Some (Prefix n) → outcome bytes ≡ Err (ends.Fault (Prefix n))
unfolding outcome
wrong_prefix bytes n e = ap (λ f. or_fault f (plain ir_rows (body_meaning (body_of bytes)))) (prefix_first bytes (Prefix n) e)

pub wrong_comes : (bytes rest : List ℕ) (n : ℕ) → prefix_fault bytes ≡ Some (Prefix n) → n < length bytes → outcome (bytes ++ rest) ≡ Err (ends.Fault (Prefix n))
wrong_comes bytes rest n e h = wrong_prefix (bytes ++ rest) n (wrong_lasts bytes rest n e h)

-- ---- the body

or_else-assoc : {A : Type 0} (a b c : Option A) → or_else (or_else a b) c ≡ or_else a (or_else b c)
or_else-assoc None b c = refl
or_else-assoc (Some x) b c = refl

version_drafted : (v : Fields Read ir_rows) → draft_version (drafted ir_rows v) ≡ version_of v
unfolding ir_rows drafted version_of draft_version
version_drafted v = refl

body_drafted : (body : List ℕ) → fold (step ir_rows) (empty ir_rows 0) (pieces body body_at) ≡ drafted ir_rows (body_meaning body)
unfolding body_meaning
body_drafted body = sym (stepped_all ir_rows 0 [] (pieces body body_at))

-- where there is a fault, the value says nothing
or_fault-same : (a b : Option FormatFault) (f : Option IdFault) (v w : Fields Plain ir_rows) → (f ≡ None → v ≡ w)
    → or_fault (or_else a (or_else b (length_fault f))) v ≡ or_fault (or_else a (or_else b (length_fault f))) w
or_fault-same (Some x) b f v w same = refl
or_fault-same None (Some x) f v w same = refl
or_fault-same None None (Some x) v w same = refl
or_fault-same None None None v w same = ap (λ (u : Fields Plain ir_rows). Ok u) (same refl)

body_outcome : (byte : ℕ) (body : List ℕ)
    → body_ends byte (empty ir_rows 0) 8 body ≡ or_fault (or_else (body_fault byte body) (id_fault (body_meaning body))) (plain ir_rows (body_meaning body))
unfolding body_ends id_fault
body_outcome byte body =
    let fs = faults ir_rows body body_at in
    let v = body_meaning body in
    ap (draft_ends byte fs) (body_drafted body)
    ∙ (λ i. or_fault (or_else (first_of fs) (or_else (version_fault byte (version_drafted v i)) (length_fault (all_worst ir_rows v i)))) (finished ir_rows (drafted ir_rows v)))
    ∙ or_fault-same (first_of fs) (version_fault byte (version_of v)) (least (bad ir_rows v)) (finished ir_rows (drafted ir_rows v)) (plain ir_rows v) (back ir_rows v)
    ∙ ap (λ f. or_fault f (plain ir_rows v)) (sym (or_else-assoc (first_of fs) (version_fault byte (version_of v)) (length_fault (least (bad ir_rows v)))))

whole_outcome : (bytes : List ℕ) → prefix_fault bytes ≡ None → outcome bytes ≡ body_ends (version_byte bytes) (empty ir_rows 0) 8 (body_of bytes)
unfolding outcome format_fault
whole_outcome bytes e =
    ap (λ p. or_fault (or_else p (or_else (body_fault (version_byte bytes) (body_of bytes)) (id_fault (body_meaning (body_of bytes))))) (plain ir_rows (body_meaning (body_of bytes)))) e
    ∙ sym (body_outcome (version_byte bytes) (body_of bytes))

pub file_begun : (bytes rest : List ℕ) → prefix_fault bytes ≡ None → outcome (bytes ++ rest) ≡ body_ends (version_byte bytes) (empty ir_rows 0) 8 (body_of bytes ++ rest)
file_begun bytes rest e =
    let long = (is_sound bytes e).long in
    let byte : version_byte (bytes ++ rest) ≡ version_byte bytes = get_or_append_left bytes rest 0 7 (omega (arith, long)) in
    let body : body_of (bytes ++ rest) ≡ body_of bytes ++ rest = drop-append-le 8 bytes rest long in
    whole_outcome (bytes ++ rest) (prefix_lasts bytes rest e) ∙ (λ i. body_ends (byte i) (empty ir_rows 0) 8 (body i))

-- ---- what an outcome says of the file

pub outcome_fault : (bytes : List ℕ) (end : End FormatFault) → Comes end (outcome bytes) → IsFault end (format_fault bytes)
unfolding outcome
outcome_fault bytes (ends.Fault f) e = by (format_fault bytes) e
  where
    by : (o : Option FormatFault) → or_fault o (plain ir_rows (body_meaning (body_of bytes))) ≡ Err (ends.Fault f) → o ≡ Some f
    by None e = absurd cc
    by (Some g) e = cc
outcome_fault bytes ends.Memory e = tt

pub outcome_file : (bytes : List ℕ) (ir : Ir) → outcome bytes ≡ Ok (ir_value ir) → file bytes ir
unfolding outcome
outcome_file bytes ir e = by (format_fault bytes) refl e
  where
    by : (o : Option FormatFault) → format_fault bytes ≡ o → or_fault o (plain ir_rows (body_meaning (body_of bytes))) ≡ Ok (ir_value ir) → file bytes ir
    by (Some f) is e = absurd cc
    by None is e = sound_as bytes ir is (ok_value e)
      where
        ok_value : ◌≡◌ {A = Outcome} (Ok (plain ir_rows (body_meaning (body_of bytes)))) (Ok (ir_value ir)) → plain ir_rows (body_meaning (body_of bytes)) ≡ ir_value ir
        ok_value e = cc

-- ---- what calls answer

pub begun_comes : (bytes body rest : List ℕ) (end : End FormatFault) → prefix_fault bytes ≡ None → body ≡ body_of bytes → Comes end (body_ends (version_byte bytes) (empty ir_rows 0) 8 (body ++ rest)) → Comes end (outcome (bytes ++ rest))
begun_comes bytes body rest end e same h =
    subst (Comes end) (ap (λ (l : List ℕ). body_ends (version_byte bytes) (empty ir_rows 0) 8 (l ++ rest)) same ∙ sym (file_begun bytes rest e)) h

pub begun_as : (bytes body rest : List ℕ) (o : Outcome) → prefix_fault bytes ≡ None → body ≡ body_of bytes → o ≡ body_ends (version_byte bytes) (empty ir_rows 0) 8 (body ++ rest) → o ≡ outcome (bytes ++ rest)
begun_as bytes body rest o e same h =
    h ∙ ap (λ (l : List ℕ). body_ends (version_byte bytes) (empty ir_rows 0) 8 (l ++ rest)) same ∙ sym (file_begun bytes rest e)

pub prefix_ends : (bytes : List ℕ) (n : ℕ) → prefix_fault bytes ≡ Some (Prefix n) → outcome (bytes ++ []) ≡ Err (ends.Fault (Prefix n))
prefix_ends bytes n e = ap outcome (append-nil bytes) ∙ wrong_prefix bytes n e

-- a fact of the value that is answered
pub if_ok : (P Q : Ir → Type 0) → ((ir : Ir) → P ir → Q ir) → (result : Result Ir (End FormatFault)) → IfOk result P → IfOk result Q
if_ok P Q f (Ok ir) h = f ir h
if_ok P Q f (Err end) h = tt

pub if_err : (P Q : End FormatFault → Type 0) → ((end : End FormatFault) → P end → Q end) → (result : Result Ir (End FormatFault)) → IfErr result P → IfErr result Q
if_err P Q f (Ok ir) h = tt
if_err P Q f (Err end) h = f end h

module _ (bytes : List ℕ) (o : Outcome) (is : o ≡ outcome bytes) (result : Result Ir (End FormatFault)) where
  pub whole_file : IfOk result (λ ir. o ≡ Ok (ir_value ir)) → IfOk result (λ ir. file bytes ir)
  whole_file h = if_ok (λ ir. o ≡ Ok (ir_value ir)) (λ ir. file bytes ir) (λ ir e. outcome_file bytes ir (sym is ∙ e)) result h

  pub whole_fault : IfErr result (λ end. Comes end o) → IfErr result (λ end. IsFault end (format_fault bytes))
  whole_fault h = if_err (λ end. Comes end o) (λ end. IsFault end (format_fault bytes)) (λ end c. outcome_fault bytes end (subst (Comes end) is c)) result h

pub no_bytes : prefix_fault [] ≡ Some (Prefix 0)
unfolding prefix_fault
no_bytes = refl
