-- Lines without a fault make a table that the module can take.
use Rattle.std.proofs.Common.{◌≡◌, ◌≢◌, ℕ, ◌<◌, ◌≤◌, Bool, true, false, not, cond, ◌||◌, Option, Some, None, Result, Ok, Err, List, [], ◌∷◌, ◌++◌, length, refl, sym, ap, subst, ◌∙◌, arith}
use Rattle.std.specs.Prelude.{ℤ, Contains, IsSome, IsUtf8, filter, find}
use Rattle.std.specs.List.{AllByRecursion, AllPairs, flat_map, list_any}
use Rattle.std.specs.Str.{bytes_eq}
use Rattle.std.proofs.lemmas.Grind.{flat_map-append}
use Rattle.std.proofs.lemmas.Map.Views.{Contains-from_any}
use Rattle.gt_model.specs.declared.modules.Module.{Module}
use Rattle.gt_model.specs.declared.symbols.Symbol.{Symbol}
use Rattle.gt_model.specs.declared.intervals.Interval.{Interval}
use Rattle.gt_model.specs.declared.modules.Section.{Section}
use Rattle.gt_model.specs.Typed.{typed_block, typed_interval, typed_module, typed_section, typed_symbol}
use Rattle.sym_expr.specs.declared.patches.Insert.{Insert}
use Rattle.sym_expr.specs.declared.patches.PatchTable.{PatchTable}
use Rattle.sym_expr.specs.declared.patches.PatchTarget.{PatchTarget}
use Rattle.sym_expr.specs.declared.patches.PatchWord.{PatchWord}
use Rattle.sym_expr.specs.declared.patches.SymbolName.{SymbolName}
use Rattle.sym_expr.specs.declared.patches.SymbolName.TheVariants as names
use Rattle.sym_expr.specs.declared.point.Point.{Point}
use Rattle.sym_expr.specs.Expressions.{aim_of, is_bad_sum, is_zero, symbol_aim}
use Rattle.sym_expr.specs.Modules.{blocks_of, intervals_of, is_loaded, loaded_intervals}
use Rattle.sym_expr.specs.TableOk.{IsInsert, IsNamed, IsNew, IsTarget, IsWord, new_names, patch_words, table_ok, typed_insert, typed_name, typed_patches, typed_word}
use Rattle.sym_expr.specs.Targets.{first_target, old_target, patch_target, points_of_name}
use Rattle.patch_lines.specs.declared.fault.PatchFault.{PatchFault}
use Rattle.patch_lines.specs.declared.fault.PatchReason.{PatchReason}
use Rattle.patch_lines.specs.declared.fault.PatchReason.TheVariants as reasons
use Rattle.patch_lines.specs.declared.line.LabelName.{LabelName}
use Rattle.patch_lines.specs.declared.line.LabelSum.{LabelSum}
use Rattle.patch_lines.specs.declared.line.PatchLine.{PatchLine}
use Rattle.patch_lines.specs.declared.line.PatchLine.TheVariants as lines
use Rattle.patch_lines.specs.declared.place.Place.TheVariants as places
use Rattle.patch_lines.specs.declared.symbols.SymbolUse.{SymbolUse}
use Rattle.patch_lines.specs.Building.{outcome, sum_target, table_of, table_without, target_of, word_of, words_of_line}
use Rattle.patch_lines.specs.Faults.{first_pass, is_bad_name, is_name_in, is_symbol_name, line_names, lines_fault, name_fault, names_in, second_pass, target_fault}
use Rattle.patch_lines.specs.Naming.{is_first, new_name, old_name, resolved, symbol_named, then_ok}
use Rattle.patch_lines.specs.Values.{IsWordLine, typed_line}
use Rattle.patch_lines.proofs.Aimed.{aim_case, old_case}
use Rattle.patch_lines.proofs.Bodies.{all_words, counted, functions_all, inserts_all}
use Rattle.patch_lines.proofs.Every.{every_append, every_both, every_flat, every_weaker}
use Rattle.patch_lines.proofs.Firsts.{IsFresh, distinct, few, fresh, no_or, placed_behind, targets, unless}
use Rattle.patch_lines.proofs.Spots.{IsPut, insert_put, named_there, other_bytes, same_bytes}
use Rattle.patch_lines.proofs.Structure.{all_names}

-- ---- names

line_utf8 : (l : PatchLine) → typed_line l → AllByRecursion IsUtf8 (line_names l)
line_utf8 lines.Blank t = tt
line_utf8 (lines.Insert spot offset) t = tt
line_utf8 (lines.Function name) t = (t, tt)
line_utf8 (lines.Label name) t = (t, tt)
line_utf8 (lines.Word word sum) t = tt
line_utf8 lines.End t = tt
line_utf8 lines.UnfitInsert t = tt
line_utf8 lines.UnfitWord t = tt
line_utf8 lines.Other t = tt

names_utf8 : (ls : List PatchLine) → AllByRecursion typed_line ls → AllByRecursion IsUtf8 (names_in ls)
names_utf8 [] t = tt
names_utf8 (l ∷ ls) t = every_append IsUtf8 (line_names l) (names_in ls) (line_utf8 l t.0) (names_utf8 ls t.1)

utf8_here : (name n : List ℕ) (rest : Bool) (b : Bool) → bytes_eq name n ≡ b → IsUtf8 n → (rest ≡ true → IsUtf8 name) → (b || rest) ≡ true → IsUtf8 name
utf8_here name n rest true e here there h = subst IsUtf8 (sym (same_bytes name n e)) here
utf8_here name n rest false e here there h = there h

one_utf8 : (ns : List (List ℕ)) (name : List ℕ) → AllByRecursion IsUtf8 ns → list_any (λ n. bytes_eq name n) ns ≡ true → IsUtf8 name
one_utf8 [] name t h = let no : false ≡ true = h in cc
one_utf8 (n ∷ ns) name t h = utf8_here name n (list_any (λ x. bytes_eq name x) ns) (bytes_eq name n) refl t.0 (one_utf8 ns name t.1) h

not_here : (name other : List ℕ) (rest : Bool) (b : Bool) → bytes_eq name other ≡ b → (b || rest) ≡ false → (name ≢ other) × (rest ≡ false)
not_here name other rest true e h = cc
not_here name other rest false e h = (other_bytes name other e, h)

no_symbol : (symbols : List Symbol) (name : List ℕ) → list_any (λ (s : Symbol). bytes_eq name s.name) symbols ≡ false → AllByRecursion (λ (s : Symbol). name ≢ s.name) symbols
no_symbol [] name h = tt
no_symbol (s ∷ symbols) name h =
    let here = not_here name s.name (list_any (λ (x : Symbol). bytes_eq name x.name) symbols) (bytes_eq name s.name) refl h in
    (here.0, no_symbol symbols name here.1)

-- ---- targets

abbrev Known : Module → List PatchLine → SymbolName → Type 0
Known m ls (names.Old id) = typed_name (names.Old id) × IsSome (find (λ (s : Symbol). bytes_eq s.uuid id) m.symbols)
Known m ls (names.New name) = typed_name (names.New name) × (is_name_in ls name ≡ true)

known_old : (m : Module) (ls : List PatchLine) (r : Result SymbolUse PatchReason) (name : SymbolName) → ((u : SymbolUse) → r ≡ Ok u → Known m ls (names.Old u.id)) → then_ok (λ (u : SymbolUse). Ok (names.Old u.id)) r ≡ Ok name → Known m ls name
known_old m ls (Ok u) name h is = let same : names.Old u.id ≡ name = cc in subst (Known m ls) same (h u refl)
known_old m ls (Err reason) name h is = cc

known_new : (m : Module) (ls : List PatchLine) (b : Bool) (n : List ℕ) (name : SymbolName) → Known m ls (names.New n) → ◌≡◌ {A = Result SymbolName PatchReason} (cond b (Ok (names.New n)) (Err reasons.UnknownName)) (Ok name) → Known m ls name
known_new m ls true n name h is = let same : names.New n ≡ name = cc in subst (Known m ls) same h
known_new m ls false n name h is = cc

known : (m : Module) (ls : List PatchLine) (label : LabelName) (name : SymbolName) → AllByRecursion typed_symbol m.symbols → AllByRecursion typed_line ls → (b : Bool) → is_name_in ls label.name ≡ b
    → cond b (new_name label) (old_name m label) ≡ Ok name → Known m ls name
known m ls label name symbols typed true new is = known_new m ls (is_first label.ordinal) label.name name (one_utf8 (names_in ls) label.name (names_utf8 ls typed) new, new) is
known m ls label name symbols typed false new is =
    known_old m ls (symbol_named m label) name (λ u e. let there = named_there m label u symbols e in (there.id, there.there)) is

new_case : (m : Module) (word : ℕ) (offset : ℤ) (points : List Point) → not (is_zero offset) ≡ false → is_bad_sum word offset (aim_of (loaded_intervals m) (first_target points)) ≡ false
new_case m word offset [] h = refl
new_case m word offset (at ∷ points) h = h

good : (m : Module) (p : PatchTable) (word : ℕ) (offset : ℤ) (name : SymbolName) → is_bad_name m word offset name ≡ false
    → is_bad_sum word offset (aim_of (loaded_intervals m) (patch_target m p (record { symbol = name; offset = offset }))) ≡ false
good m p word offset (names.Old id) h = old_case m p word offset offset id ∙ sym (aim_case m word offset id) ∙ h
good m p word offset (names.New name) h = new_case m word offset (points_of_name m p name) h

module _ (m : Module) (ls : List PatchLine) (symbols : AllByRecursion typed_symbol m.symbols) (typed : AllByRecursion typed_line ls) (brings : new_names (table_of m ls) ≡ names_in ls) where
  named : (name : SymbolName) → Known m ls name → IsNamed m (table_of m ls) name
  named (names.Old id) h = h.1
  named (names.New name) h = subst (λ ns. Contains ns name) (sym brings) (Contains-from_any same_bytes name (names_in ls) h.1)

  typed_known : (name : SymbolName) → Known m ls name → typed_name name
  typed_known (names.Old id) h = h.0
  typed_known (names.New name) h = h.0

  abbrev Fits : PatchWord → Type 0
  Fits w = IsWord m (table_of m ls) w × typed_word w

  with_name : (word : ℕ) (s : LabelSum) (name : SymbolName) → IsWordLine word (Some s) → is_bad_name m word s.offset name ≡ false → Known m ls name
      → Fits (record { word = word; target = Some (record { symbol = name; offset = s.offset }) })
  with_name word s name line fine h = (
    record { operand = line.aim.0; named = named name h; good = good m (table_of m ls) word s.offset name fine },
    record { word = line.word; target = (typed_known name h, line.aim.1) },
  )

  with_target : (word : ℕ) (s : LabelSum) (r : Result SymbolName PatchReason) → ((name : SymbolName) → r ≡ Ok name → Known m ls name) → IsWordLine word (Some s) → name_fault m word s.offset r ≡ None
      → Fits (record { word = word; target = target_of s.offset r })
  with_target word s (Ok name) h line fine = with_name word s name line (unless (is_bad_name m word s.offset name) reasons.BadTarget fine) (h name refl)
  with_target word s (Err reason) h line fine = cc

  word_fits : (word : ℕ) (sum : Option LabelSum) → IsWordLine word sum → target_fault m (is_name_in ls) (lines.Word word sum) ≡ None → Fits (word_of m (is_name_in ls) word sum)
  word_fits word None line fine = (line.aim, record { word = line.word; target = tt })
  word_fits word (Some s) line fine = with_target word s (resolved m (is_name_in ls) s.label) (λ name e. known m ls s.label name symbols typed (is_name_in ls s.label.name) refl e) line fine

  line_fits : (l : PatchLine) → typed_line l × (target_fault m (is_name_in ls) l ≡ None) → AllByRecursion Fits (words_of_line m (is_name_in ls) l)
  line_fits lines.Blank h = tt
  line_fits (lines.Insert spot offset) h = tt
  line_fits (lines.Function name) h = tt
  line_fits (lines.Label name) h = tt
  line_fits (lines.Word word sum) h = (word_fits word sum h.0 h.1, tt)
  line_fits lines.End h = tt
  line_fits lines.UnfitInsert h = tt
  line_fits lines.UnfitWord h = tt
  line_fits lines.Other h = tt

  words_fit : second_pass m (is_name_in ls) [] ls ≡ None → AllByRecursion Fits (patch_words (table_of m ls))
  words_fit h =
      all_words m (is_name_in ls) Fits ls
      (every_weaker (λ l. typed_line l × (target_fault m (is_name_in ls) l ≡ None)) (λ l. AllByRecursion Fits (words_of_line m (is_name_in ls) l)) line_fits ls
      (every_both typed_line (λ l. target_fault m (is_name_in ls) l ≡ None) ls typed (targets m (is_name_in ls) [] ls h)))

-- ---- the table

insert_fits : (m : Module) → AllByRecursion typed_block (blocks_of (loaded_intervals m)) → (ls : List PatchLine) → AllByRecursion typed_line ls → first_pass m [] ls ≡ None
    → AllByRecursion (λ (i : Insert). IsInsert m i × typed_insert i) (table_of m ls).inserts
insert_fits m blocks ls typed h =
    inserts_all m (is_name_in ls) (λ (i : Insert). IsInsert m i × typed_insert i) typed_line places.Outside ls
    (λ spot offset id body t found some. let put = insert_put m spot offset id blocks found in (record { spot = put.spot; body = some }, record { block = put.id; offset = t }))
    typed (placed_behind m [] ls h)

no_fault : (m : Module) (ls : List PatchLine) (t : PatchTable) (o : Option PatchFault) (made : PatchTable) → table_without o made ≡ Ok t → (o ≡ None) × (made ≡ t)
no_fault m ls t None made is = (refl, cc)
no_fault m ls t (Some fault) made is = cc

-- the blocks of loaded sections have values of their types
blocks_typed : (sections : List Section) → AllByRecursion typed_section sections → AllByRecursion typed_block (blocks_of (intervals_of (filter is_loaded sections)))
blocks_typed [] typed = tt
blocks_typed (s ∷ sections) typed = one (is_loaded s) (blocks_typed sections typed.1)
  where
    one : (x : Bool) → AllByRecursion typed_block (blocks_of (intervals_of (filter is_loaded sections))) → AllByRecursion typed_block (blocks_of (intervals_of (cond x (s ∷ filter is_loaded sections) (filter is_loaded sections))))
    one true rest =
        subst (AllByRecursion typed_block) (sym (flat_map-append (λ (i : Interval). i.blocks) s.intervals (intervals_of (filter is_loaded sections))))
        (every_append typed_block (blocks_of s.intervals) (blocks_of (intervals_of (filter is_loaded sections)))
        (every_flat typed_block (λ (i : Interval). i.blocks) s.intervals (every_weaker typed_interval (λ (i : Interval). AllByRecursion typed_block i.blocks) (λ i t. t.blocks) s.intervals typed.0.intervals)) rest)
    one false rest = rest

made_fits : (m : Module) (ls : List PatchLine) → typed_module m → AllByRecursion typed_line ls → lines_fault m ls ≡ None → table_ok m (table_of m ls)
made_fits m ls values typed h =
    let both = no_or (first_pass m [] ls) (second_pass m (is_name_in ls) [] ls) h in
    let placed = placed_behind m [] ls both.0 in
    let brings : new_names (table_of m ls) ≡ names_in ls = all_names m (is_name_in ls) ls placed in
    let words = words_fit m ls values.symbols typed brings both.1 in
    let inserts = insert_fits m (blocks_typed m.sections values.sections) ls typed both.0 in
    record {
      typed = record {
        inserts = every_weaker (λ (i : Insert). IsInsert m i × typed_insert i) typed_insert (λ i x. x.1) (table_of m ls).inserts inserts;
        words = every_weaker (λ w. IsWord m (table_of m ls) w × typed_word w) typed_word (λ w x. x.1) (patch_words (table_of m ls)) words;
        names = subst (AllByRecursion IsUtf8) (sym brings) (names_utf8 ls typed);
      };
      inserts = every_weaker (λ (i : Insert). IsInsert m i × typed_insert i) (IsInsert m) (λ i x. x.0) (table_of m ls).inserts inserts;
      distinct = subst (AllPairs (λ (a b : List ℕ). a ≢ b)) (sym brings) (distinct m [] ls both.0);
      new = subst (AllByRecursion (IsNew m)) (sym brings) (every_weaker (IsFresh m []) (IsNew m) (λ n x. no_symbol m.symbols n x.0) (names_in ls) (fresh m [] ls both.0));
      bodies = functions_all m (is_name_in ls) places.Outside ls placed;
      words = every_weaker (λ w. IsWord m (table_of m ls) w × typed_word w) (IsWord m (table_of m ls)) (λ w x. x.0) (patch_words (table_of m ls)) words;
      few = let all = counted m (is_name_in ls) ls placed in let most = few m ls both.0 in omega arith;
    }

pub fits : (m : Module) (ls : List PatchLine) (t : PatchTable) → typed_module m → AllByRecursion typed_line ls → outcome m ls ≡ Ok t → table_ok m t
fits m ls t values typed is =
    let parts = no_fault m ls t (lines_fault m ls) (table_of m ls) is in
    subst (table_ok m) parts.1 (made_fits m ls values typed parts.0)
