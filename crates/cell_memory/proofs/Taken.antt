-- Values, differences and entries as what cells are parts of.
use Rattle.std.proofs.Common.{◌≡◌, ℕ, suc, Bool, true, false, cond, eqb, ◌&&◌, Option, Some, None, List, [], ◌∷◌, refl, sym, ap, ◌∙◌}
use Rattle.std.specs.Option.{option_and_then, option_map}
use Rattle.std.proofs.lemmas.Bool.{and_right}
use Rattle.a64_inst.specs.declared.operations.Width.{Width}
use Rattle.cell_memory.specs.declared.whole.Entry.{Entry as EntryRecord}
use Rattle.cell_memory.specs.declared.whole.Whole.{Whole}
use Rattle.cell_memory.specs.declared.whole.Whole.TheVariants.{Value, Difference, Entry}
use Rattle.cell_memory.specs.Wholes.{are_parts_of, difference_in, entry_in, is_part_of, value_in, whole_in}
use Rattle.sym_expr.specs.declared.program.Program.{Program}
use Rattle.sym_expr.specs.declared.target.Target.{Target}
use Rattle.sym_expr.specs.declared.value.Value.{Value as ValueOf}
use Rattle.sym_expr.specs.declared.value.Value.TheVariants.{Diff}
use Rattle.sym_expr.specs.Symbolic.{are_entry_parts, are_parts, are_quarters, entry_step, is_entry_part, is_part, is_quarter, whole_difference, whole_entry, whole_value}
use Rattle.sym_expr.specs.Values.{Cell, Byte, Part, Quarter, EntryPart, Blank}

part_same : (k : ℕ) (v : ValueOf) (c : Cell) → is_part_of k (Value v) c ≡ is_part k v c
part_same k v (Byte b) = refl
part_same k v (Part j w) = refl
part_same k v (Quarter j p q) = and_right (eqb j k) false refl
part_same k v (EntryPart j size scale p q) = and_right (eqb j k) false refl
part_same k v Blank = refl

parts_same : (k : ℕ) (v : ValueOf) (cs : List Cell) → are_parts_of k (Value v) cs ≡ are_parts k v cs
parts_same k v [] = refl
parts_same k v (c ∷ cs) = ap (λ t. t && are_parts_of (suc k) (Value v) cs) (part_same k v c) ∙ ap (λ t. is_part k v c && t) (parts_same (suc k) v cs)

quarter_same : (k : ℕ) (p q : Target) (c : Cell) → is_part_of k (Difference p q) c ≡ is_quarter k p q c
quarter_same k p q (Byte b) = refl
quarter_same k p q (Part j w) = and_right (eqb j k) false refl
quarter_same k p q (Quarter j r s) = refl
quarter_same k p q (EntryPart j size scale r s) = and_right (eqb j k) false refl
quarter_same k p q Blank = refl

quarters_same : (k : ℕ) (p q : Target) (cs : List Cell) → are_parts_of k (Difference p q) cs ≡ are_quarters k p q cs
quarters_same k p q [] = refl
quarters_same k p q (c ∷ cs) = ap (λ t. t && are_parts_of (suc k) (Difference p q) cs) (quarter_same k p q c) ∙ ap (λ t. is_quarter k p q c && t) (quarters_same (suc k) p q cs)

entry_same : (k : ℕ) (e : EntryRecord) (c : Cell) → is_part_of k (Entry e) c ≡ is_entry_part k e.size e.scale e.first e.second c
entry_same k e (Byte b) = refl
entry_same k e (Part j w) = and_right (eqb j k) false refl
entry_same k e (Quarter j r s) = and_right (eqb j k) false refl
entry_same k e (EntryPart j size scale r s) = refl
entry_same k e Blank = refl

entries_same : (k : ℕ) (e : EntryRecord) (cs : List Cell) → are_parts_of k (Entry e) cs ≡ are_entry_parts k e.size e.scale e.first e.second cs
entries_same k e [] = refl
entries_same k e (c ∷ cs) =
    ap (λ t. t && are_parts_of (suc k) (Entry e) cs) (entry_same k e c) ∙ ap (λ t. is_entry_part k e.size e.scale e.first e.second c && t) (entries_same (suc k) e cs)

-- what is found passes on to what it is, or isn't
found : {A : Type 0} (f : Whole → Option A) (w : Whole) (none : f w ≡ None) (t : Bool) → None ≡ option_and_then f (cond t (Some w) None)
found f w none true = sym none
found f w none false = refl

kept_on : {A : Type 0} (f : Whole → Option A) (w : Whole) (a : A) (is : f w ≡ Some a) (t : Bool) → cond t (Some a) None ≡ option_and_then f (cond t (Some w) None)
kept_on f w a is true = sym is
kept_on f w a is false = refl

pub value_is : (cs : List Cell) → whole_value cs ≡ option_and_then value_in (whole_in cs)
value_is [] = refl
value_is (Byte b ∷ cs) = refl
value_is (Part j v ∷ cs) =
    ap (λ t. cond t (Some v) None) (sym (parts_same 0 v (Part j v ∷ cs))) ∙ kept_on value_in (Value v) v refl (are_parts_of 0 (Value v) (Part j v ∷ cs))
value_is (Quarter j p q ∷ cs) = found value_in (Difference p q) refl (are_parts_of 0 (Difference p q) (Quarter j p q ∷ cs))
value_is (EntryPart j size scale p q ∷ cs) =
    let e : EntryRecord = record { size = size; scale = scale; first = p; second = q } in
    found value_in (Entry e) refl (are_parts_of 0 (Entry e) (EntryPart j size scale p q ∷ cs))
value_is (Blank ∷ cs) = refl

pub difference_is : (cs : List Cell) → whole_difference cs ≡ option_and_then difference_in (whole_in cs)
difference_is [] = refl
difference_is (Byte b ∷ cs) = refl
difference_is (Part j v ∷ cs) = found difference_in (Value v) refl (are_parts_of 0 (Value v) (Part j v ∷ cs))
difference_is (Quarter j p q ∷ cs) =
    ap (λ t. cond t (Some (Diff p q)) None) (sym (quarters_same 0 p q (Quarter j p q ∷ cs))) ∙ kept_on difference_in (Difference p q) (Diff p q) refl (are_parts_of 0 (Difference p q) (Quarter j p q ∷ cs))
difference_is (EntryPart j size scale p q ∷ cs) =
    let e : EntryRecord = record { size = size; scale = scale; first = p; second = q } in
    found difference_in (Entry e) refl (are_parts_of 0 (Entry e) (EntryPart j size scale p q ∷ cs))
difference_is (Blank ∷ cs) = refl

module _ (g : Program) (count : ℕ) (signed : Bool) (width : Width) where
  abbrev step : EntryRecord → ValueOf
  step e = entry_step g count signed width e.scale e.first e.second

  abbrev step_in : Whole → Option ValueOf
  step_in w = option_map step (entry_in count w)

  sized : (e : EntryRecord) (t : Bool) → cond (eqb e.size count && t) (Some (step e)) None ≡ option_and_then step_in (cond t (Some (Entry e)) None)
  sized e true = elim (eqb e.size count) as (λ s. cond (s && true) (Some (step e)) None ≡ option_map step (cond s (Some e) None)) [ true ↦ refl | false ↦ refl ]
  sized e false = ap (λ t. cond t (Some (step e)) None) (and_right (eqb e.size count) false refl)

  steps_are : (cs : List Cell) → whole_entry g count signed width cs ≡ option_and_then step_in (whole_in cs)
  steps_are [] = refl
  steps_are (Byte b ∷ cs) = refl
  steps_are (Part j v ∷ cs) = found step_in (Value v) refl (are_parts_of 0 (Value v) (Part j v ∷ cs))
  steps_are (Quarter j p q ∷ cs) = found step_in (Difference p q) refl (are_parts_of 0 (Difference p q) (Quarter j p q ∷ cs))
  steps_are (EntryPart j size scale p q ∷ cs) =
      let e : EntryRecord = record { size = size; scale = scale; first = p; second = q } in
      ap (λ t. cond (eqb size count && t) (Some (step e)) None) (sym (entries_same 0 e (EntryPart j size scale p q ∷ cs))) ∙ sized e (are_parts_of 0 (Entry e) (EntryPart j size scale p q ∷ cs))
  steps_are (Blank ∷ cs) = refl

  pub entry_is : (cs : List Cell) → whole_entry g count signed width cs ≡ option_map step (option_and_then (entry_in count) (whole_in cs))
  entry_is cs = steps_are cs ∙ elim (whole_in cs) as (λ (o : Option Whole). option_and_then step_in o ≡ option_map step (option_and_then (entry_in count) o)) [ None ↦ refl | Some w ↦ refl ]
