-- The points of the names that functions bring.
use Rattle.std.proofs.Common.{◌≡◌, ℕ, zero, suc, ◌+◌, ◌-◌, ◌*◌, ◌<◌, Bool, true, false, cond, nat_lt, List, [], ◌∷◌, ◌++◌, length, map, take, drop, get_or, Option, Some, None, refl, sym, ap, subst, ◌∙◌, add-one, append-nil, arith}
use Rattle.std.specs.Prelude.{find, Contains, is_some}
use Rattle.std.specs.List.{flat_map, filter_map}
use Rattle.std.specs.Option.{option_map, option_map_or, option_or}
use Rattle.std.specs.Str.{bytes_eq}
use Rattle.std.proofs.lemmas.List.{drop_more, map-append, take_more}
use Rattle.std.proofs.lemmas.List.Concat.{flat_map-append}
use Rattle.std.proofs.lemmas.Slice.Eq.{bytes_eq-Decides}
use Rattle.std.proofs.lemmas.Bool.{false≢true, cond-true, cond-false, lt-ltb, le-ltb}
use Rattle.gt_model.specs.declared.modules.Module.{Module}
use Rattle.module_program.specs.Cutting.{cut_behind, first_cut, next_cut, label_entries, label_point, name_entries, point_among, point_in, whole_cut}
use Rattle.module_program.specs.declared.cut.Cut.{Cut}
use Rattle.module_program.proofs.Keys.{map_cond}
use Rattle.module_program.proofs.Cuts.{block_count, last_count, blocks_rise}
use Rattle.sym_expr.specs.declared.patches.FunLine.{FunLine}
use Rattle.sym_expr.specs.declared.patches.FunLine.TheVariants as lines
use Rattle.sym_expr.specs.declared.patches.Function.{Function}
use Rattle.sym_expr.specs.declared.patches.PatchTable.{PatchTable}
use Rattle.sym_expr.specs.declared.point.Point.{Point}
use Rattle.sym_expr.specs.declared.target.Target.TheVariants.{Code, Undefined}
use Rattle.sym_expr.specs.Patches.{Start, End, function_blocks, is_control, label_in, name_in, place_behind, with_starts}
use Rattle.sym_expr.specs.TableOk.{line_labels, new_names}
use Rattle.sym_expr.specs.Targets.{first_target, function_block_id, place_point, point, points_of_name, start_of}

-- ---- entries

or_cond : {A : Type 0} (t : Bool) (x : A) (o r : Option A) → cond t (Some x) (option_or o r) ≡ option_or (cond t (Some x) o) r
or_cond true x o r = refl
or_cond false x o r = refl

pub entry_first : (q : List ℕ) (e : List ℕ × Point) (es : List (List ℕ × Point)) → point_in q (e ∷ es) ≡ cond (bytes_eq q e.0) (Some e.1) (point_in q es)
entry_first q e es = map_cond (λ (e : List ℕ × Point). e.1) (bytes_eq q e.0) e (find (λ (e : List ℕ × Point). bytes_eq q e.0) es)

pub entries_split : (q : List ℕ) (es rest : List (List ℕ × Point)) → point_in q (es ++ rest) ≡ option_or (point_in q es) (point_in q rest)
entries_split q [] rest = refl
entries_split q (e ∷ es) rest =
    entry_first q e (es ++ rest) ∙ ap (λ o. cond (bytes_eq q e.0) (Some e.1) o) (entries_split q es rest)
    ∙ or_cond (bytes_eq q e.0) e.1 (point_in q es) (point_in q rest) ∙ ap (λ o. option_or o (point_in q rest)) (sym (entry_first q e es))

-- ---- labels

end_is : (m : Module) (f : Function) → point (function_block_id m f ((whole_cut f).blocks - 1)) (4 * (whole_cut f).last) 0 ≡ place_point m f End
end_is m f =
    ap (λ n. point (function_block_id m f (n - 1)) (4 * (whole_cut f).last) 0) (block_count f)
    ∙ ap (λ n. point (function_block_id m f (length (function_blocks f) - 1)) (4 * n) 0) (last_count f)

begun : (m : Module) (f : Function) (k : ℕ) → k < (whole_cut f).blocks → label_point m f k ≡ start_of (function_block_id m f k)
begun m f k h = cond-true (nat_lt k (whole_cut f).blocks) _ _ (lt-ltb k (whole_cut f).blocks h)

ended : (m : Module) (f : Function) (k : ℕ) → (whole_cut f).blocks ≡ k → label_point m f k ≡ place_point m f End
ended m f k h = cond-false (nat_lt k (whole_cut f).blocks) _ _ (le-ltb k (whole_cut f).blocks (omega (arith, h))) ∙ end_is m f

-- a label names what stands behind it
label_is : (m : Module) (f : Function) (k l : ℕ) (rest : List FunLine) → cut_behind (record { blocks = k; last = l; fresh = true }) rest ≡ whole_cut f
    → label_point m f k ≡ place_point m f (place_behind k (with_starts true rest))
label_is m f k l [] h = ended m f k (sym (ap (λ (c : Cut). c.blocks) h))
label_is m f k l (lines.Label name ∷ rest) h = label_is m f k l rest h
label_is m f k l (lines.Word w ∷ rest) h =
    let rise = blocks_rise (k + 1) 1 (is_control w.word) rest in
    let same = ap (λ (c : Cut). c.blocks) h in
    begun m f k (omega (arith, rise, same))

labels_found : (m : Module) (f : Function) (q : List ℕ) (k l : ℕ) (fresh : Bool) (ls : List FunLine) → cut_behind (record { blocks = k; last = l; fresh = fresh }) ls ≡ whole_cut f
    → point_in q (label_entries m f (record { blocks = k; last = l; fresh = fresh }) ls) ≡ option_map (place_point m f) (label_in q k fresh ls)
labels_found m f q k l fresh [] h = refl
labels_found m f q k l fresh (lines.Label name ∷ rest) h =
    entry_first q (name, label_point m f k) (label_entries m f (record { blocks = k; last = l; fresh = true }) rest)
    ∙ ap (λ o. cond (bytes_eq q name) (Some (label_point m f k)) o) (labels_found m f q k l true rest h)
    ∙ ap (λ at. cond (bytes_eq q name) (Some at) (option_map (place_point m f) (label_in q k true rest))) (label_is m f k l rest h)
    ∙ sym (map_cond (place_point m f) (bytes_eq q name) (place_behind k (with_starts true rest)) (label_in q k true rest))
labels_found m f q k l true (lines.Word w ∷ rest) h =
    labels_found m f q (k + 1) 1 (is_control w.word) rest h ∙ ap (λ n. option_map (place_point m f) (label_in q n (is_control w.word) rest)) (add-one k)
labels_found m f q k l false (lines.Word w ∷ rest) h = labels_found m f q k (l + 1) (is_control w.word) rest h

-- ---- functions

function_found : (m : Module) (f : Function) (q : List ℕ) → point_in q (name_entries m f) ≡ option_map (place_point m f) (name_in q f)
function_found m f q =
    entry_first q (f.name, start_of (function_block_id m f 0)) (label_entries m f first_cut f.body)
    ∙ ap (λ o. cond (bytes_eq q f.name) (Some (start_of (function_block_id m f 0))) o) (labels_found m f q 0 0 true f.body refl)
    ∙ sym (map_cond (place_point m f) (bytes_eq q f.name) (Start 0) (label_in q 0 true f.body))

abbrev first_of : List Point → Option Point
first_of [] = None
first_of (at ∷ rest) = Some at

first_either : (o : Option Point) (f : Function) (fs : List Function) (g : Function → Option Point) → g f ≡ o → first_of (filter_map g (f ∷ fs)) ≡ option_or o (first_of (filter_map g fs))
first_either None f fs g e = rw e refl
first_either (Some at) f fs g e = rw e refl

functions_found : (m : Module) (q : List ℕ) (fs : List Function) → point_among m fs q ≡ first_of (filter_map (λ (f : Function). option_map (place_point m f) (name_in q f)) fs)
functions_found m q [] = refl
functions_found m q (f ∷ fs) =
    entries_split q (name_entries m f) (flat_map (name_entries m) fs)
    ∙ ap (λ o. option_or o (point_among m fs q)) (function_found m f q)
    ∙ ap (λ o. option_or (option_map (place_point m f) (name_in q f)) o) (functions_found m q fs)
    ∙ sym (first_either (option_map (place_point m f) (name_in q f)) f fs (λ (f : Function). option_map (place_point m f) (name_in q f)) refl)

target_first : (points : List Point) → first_target points ≡ option_map_or Code (first_of points) (Undefined [])
target_first [] = refl
target_first (at ∷ rest) = refl

-- what a name of the patches names
pub names_found : (m : Module) (p : PatchTable) (q : List ℕ) → first_target (points_of_name m p q) ≡ option_map_or Code (point_among m p.functions q) (Undefined [])
names_found m p q = target_first (points_of_name m p q) ∙ ap (λ o. option_map_or Code o (Undefined [])) (sym (functions_found m q p.functions))

-- ---- every name of the patches has a point

label_keys : (m : Module) (f : Function) (c : Cut) (ls : List FunLine) → map (λ (e : List ℕ × Point). e.0) (label_entries m f c ls) ≡ flat_map line_labels ls
label_keys m f c [] = refl
label_keys m f c (lines.Label name ∷ rest) = ap (λ l. name ∷ l) (label_keys m f (next_cut c (lines.Label name)) rest)
label_keys m f c (lines.Word w ∷ rest) = label_keys m f (next_cut c (lines.Word w)) rest

keys_are : (m : Module) (fs : List Function) → map (λ (e : List ℕ × Point). e.0) (flat_map (name_entries m) fs) ≡ flat_map (λ (f : Function). f.name ∷ flat_map line_labels f.body) fs
keys_are m [] = refl
keys_are m (f ∷ fs) =
    map-append (λ (e : List ℕ × Point). e.0) (name_entries m f) (flat_map (name_entries m) fs)
    ∙ ap (λ l. (f.name ∷ l) ++ map (λ (e : List ℕ × Point). e.0) (flat_map (name_entries m) fs)) (label_keys m f first_cut f.body)
    ∙ ap (λ l. (f.name ∷ flat_map line_labels f.body) ++ l) (keys_are m fs)

some_either : (t : Bool) (x : Point) (o : Option Point) → is_some o ≡ true → is_some (cond t (Some x) o) ≡ true
some_either true x o h = refl
some_either false x o h = h

some_here : (t : Bool) (x : Point) (o : Option Point) → t ≡ true → is_some (cond t (Some x) o) ≡ true
some_here true x o h = refl
some_here false x o h = absurd (false≢true h)

key_found : (q : List ℕ) (es : List (List ℕ × Point)) → Contains (map (λ (e : List ℕ × Point). e.0) es) q → is_some (point_in q es) ≡ true
key_found q [] (k, within, is) = absurd (omega (arith, within))
key_found q (e ∷ es) (zero, within, is) =
    let same : bytes_eq q e.0 ≡ true = (bytes_eq-Decides q e.0).1 (sym is) in
    ap is_some (entry_first q e es) ∙ some_here (bytes_eq q e.0) e.1 (point_in q es) same
key_found q (e ∷ es) (suc k, within, is) =
    ap is_some (entry_first q e es) ∙ some_either (bytes_eq q e.0) e.1 (point_in q es) (key_found q es (k, omega (arith, within), is))

pub name_known : (m : Module) (p : PatchTable) (q : List ℕ) → Contains (new_names p) q → is_some (point_among m p.functions q) ≡ true
name_known m p q h = key_found q (flat_map (name_entries m) p.functions) (let P : List (List ℕ) → Type 0 = λ l. Contains l q in subst P (sym (keys_are m p.functions)) h)

-- ---- one line

pub label_next : (m : Module) (f : Function) (q : List ℕ) (c : Cut) (line : FunLine) (rest : List FunLine)
    → point_in q (label_entries m f c (line ∷ rest)) ≡ option_or (point_in q (label_entries m f c (line ∷ []))) (point_in q (label_entries m f (next_cut c line) rest))
label_next m f q c (lines.Label name) rest = entries_split q ((name, label_point m f c.blocks) ∷ []) (label_entries m f (next_cut c (lines.Label name)) rest)
label_next m f q c (lines.Word w) rest = refl

or_three : (a b c : Option Point) → option_or (option_or a b) c ≡ option_or a (option_or b c)
or_three None b c = refl
or_three (Some x) b c = refl

-- the labels of a line and of those behind it, with the names before them
pub label_kept : (m : Module) (f : Function) (q : List ℕ) (before : Option Point) (c : Cut) (ls : List FunLine) (k : ℕ) (line : FunLine) → k < length ls → line ≡ get_or ls k line
    → option_or (option_or before (point_in q (label_entries m f c (line ∷ [])))) (point_in q (label_entries m f (next_cut c line) (drop (k + 1) ls))) ≡ option_or before (point_in q (label_entries m f c (drop k ls)))
label_kept m f q before c ls k line within is =
    let rest = drop (k + 1) ls in
    or_three before (point_in q (label_entries m f c (line ∷ []))) (point_in q (label_entries m f (next_cut c line) rest))
    ∙ ap (option_or before) (sym (ap (λ l. point_in q (label_entries m f c l)) (drop_more ls k line within ∙ ap (λ l. l ∷ rest) (sym is)) ∙ label_next m f q c line rest))

-- ---- one function

pub names_next : (m : Module) (q : List ℕ) (fs : List Function) (k : ℕ) (f : Function) → k < length fs → f ≡ get_or fs k f → point_among m (take (k + 1) fs) q ≡ option_or (point_among m (take k fs) q) (point_in q (name_entries m f))
names_next m q fs k f within is =
    ap (λ l. point_among m l q) (take_more fs k f within ∙ ap (λ g. take k fs ++ g ∷ []) (sym is))
    ∙ ap (point_in q) (flat_map-append (name_entries m) (take k fs) (f ∷ []))
    ∙ entries_split q (flat_map (name_entries m) (take k fs)) (flat_map (name_entries m) (f ∷ []))
    ∙ ap (λ l. option_or (point_among m (take k fs) q) (point_in q l)) (append-nil (name_entries m f))
