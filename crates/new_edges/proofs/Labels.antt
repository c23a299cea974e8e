-- The blocks at whose starts the names are that functions bring.
use Rattle.std.proofs.Common.{◌≡◌, ℕ, suc, ◌+◌, ◌-◌, ◌<◌, Bool, true, false, cond, List, [], ◌∷◌, ◌++◌, length, take, drop, get_or, Option, Some, None, refl, sym, ap, ◌∙◌, add-one, append-nil, arith}
use Rattle.std.specs.Prelude.{find, if◌then◌else◌, ◌==◌}
use Rattle.std.specs.List.{flat_map, filter_map}
use Rattle.std.specs.Option.{option_and_then, option_map, option_or}
use Rattle.std.specs.Str.{bytes_eq}
use Rattle.std.proofs.lemmas.Bool.{eqb-true}
use Rattle.std.proofs.lemmas.Bool.Decides.{nat_tests}
use Rattle.std.proofs.lemmas.List.{drop_more, take_more}
use Rattle.std.proofs.lemmas.List.Concat.{flat_map-append}
use Rattle.edge_repair.specs.Ends.{first_of, name_start, place_start}
use Rattle.gt_model.specs.declared.modules.Module.{Module}
use Rattle.new_edges.proofs.Keys.{map_cond}
use Rattle.new_edges.specs.declared.names.Walk.{Walk}
use Rattle.new_edges.specs.Names.{first_walk, label_entries, label_entry, name_entries, next_walk, start_among, start_in, word_count}
use Rattle.sym_expr.specs.declared.patches.FunLine.{FunLine}
use Rattle.sym_expr.specs.declared.patches.FunLine.TheVariants as lines
use Rattle.sym_expr.specs.declared.patches.Function.{Function}
use Rattle.sym_expr.specs.declared.patches.PatchTable.{PatchTable}
use Rattle.sym_expr.specs.declared.patches.SymbolName.TheVariants as symbols
use Rattle.sym_expr.specs.Patches.{FunPlace, Start, End, is_control, label_in, name_in, place_behind, with_starts}
use Rattle.sym_expr.specs.Targets.{function_block_id}

-- ---- entries

or_cond : {A : Type 0} (t : Bool) (x : A) (o r : Option A) → cond t (Some x) (option_or o r) ≡ option_or (cond t (Some x) o) r
or_cond true x o r = refl
or_cond false x o r = refl

pub entry_first : (q : List ℕ) (e : List ℕ × List ℕ) (es : List (List ℕ × List ℕ)) → start_in q (e ∷ es) ≡ cond (bytes_eq q e.0) (Some e.1) (start_in q es)
entry_first q e es = map_cond (λ (e : List ℕ × List ℕ). e.1) (bytes_eq q e.0) e (find (λ (e : List ℕ × List ℕ). bytes_eq q e.0) es)

pub entries_split : (q : List ℕ) (es rest : List (List ℕ × List ℕ)) → start_in q (es ++ rest) ≡ option_or (start_in q es) (start_in q rest)
entries_split q [] rest = refl
entries_split q (e ∷ es) rest =
    entry_first q e (es ++ rest) ∙ ap (λ o. cond (bytes_eq q e.0) (Some e.1) o) (entries_split q es rest)
    ∙ or_cond (bytes_eq q e.0) e.1 (start_in q es) (start_in q rest) ∙ ap (λ o. option_or o (start_in q rest)) (sym (entry_first q e es))

-- ---- labels

suc_not : (n : ℕ) → (suc n == 0) ≡ false
suc_not n = grind (arith, nat_tests)

-- what stands behind a label, by whether no words follow
abbrev behind : ℕ → Bool → FunPlace
behind k true = End
behind k false = Start k

behind_is : (k : ℕ) (rest : List FunLine) → place_behind k (with_starts true rest) ≡ behind k (word_count rest == 0)
behind_is k [] = refl
behind_is k (lines.Label name ∷ rest) = behind_is k rest
behind_is k (lines.Word w ∷ rest) = sym (ap (behind k) (suc_not (word_count rest)))

-- the start that a label finds, by whether it has the name
abbrev starting : Module → Function → Option FunPlace → Option (List ℕ)
starting m f o = option_and_then (place_start m f) o

starting_cond : (m : Module) (f : Function) (t : Bool) (place : FunPlace) (o : Option FunPlace) → starting m f (cond t (Some place) o) ≡ cond t (place_start m f place) (starting m f o)
starting_cond m f true place o = refl
starting_cond m f false place o = refl

both_none : (t : Bool) (o : Option (List ℕ)) → o ≡ None → cond t None o ≡ None
both_none true o h = refl
both_none false o h = h

-- without words a label is at no start
none_found : (m : Module) (f : Function) (q : List ℕ) (k : ℕ) (fresh : Bool) (ls : List FunLine) → word_count ls ≡ 0 → starting m f (label_in q k fresh ls) ≡ None
none_found m f q k fresh [] h = refl
none_found m f q k fresh (lines.Label name ∷ rest) h =
    ap (λ (place : FunPlace). starting m f (cond (bytes_eq q name) (Some place) (label_in q k true rest))) (behind_is k rest ∙ ap (λ (n : ℕ). behind k (n == 0)) h)
    ∙ starting_cond m f (bytes_eq q name) End (label_in q k true rest)
    ∙ both_none (bytes_eq q name) (starting m f (label_in q k true rest)) (none_found m f q k true rest h)
none_found m f q k fresh (lines.Word w ∷ rest) h = absurd (omega (arith, h))

-- a label and what is behind it, by whether no words follow
label_is : (m : Module) (f : Function) (q : List ℕ) (k : ℕ) (none : Bool) (name : List ℕ) (o : Option (List ℕ)) → (none ≡ true → o ≡ None)
    → option_or (start_in q (if none then [] else (name, function_block_id m f k) ∷ [])) o ≡ cond (bytes_eq q name) (place_start m f (behind k none)) o
label_is m f q k true name o h = h refl ∙ sym (both_none (bytes_eq q name) o (h refl))
label_is m f q k false name o h = ap (λ x. option_or x o) (entry_first q (name, function_block_id m f k) []) ∙ at (bytes_eq q name)
  where
    at : (t : Bool) → option_or (cond t (Some (function_block_id m f k)) None) o ≡ cond t (Some (function_block_id m f k)) o
    at true = refl
    at false = refl

one_less : (n : ℕ) → suc n - 1 ≡ n
one_less n = omega arith

abbrev walk : ℕ → Bool → ℕ → Walk
walk k fresh left = record { blocks = k; fresh = fresh; left = left }

labels_found : (m : Module) (f : Function) (q : List ℕ) (k : ℕ) (fresh : Bool) (ls : List FunLine) → start_in q (label_entries m f (walk k fresh (word_count ls)) ls) ≡ starting m f (label_in q k fresh ls)
labels_found m f q k fresh [] = refl
labels_found m f q k fresh (lines.Label name ∷ rest) =
    let left = word_count rest in
    let entries = label_entries m f (walk k true left) rest in
    entries_split q (if left == 0 then [] else (name, function_block_id m f k) ∷ []) entries
    ∙ ap (option_or (start_in q (if left == 0 then [] else (name, function_block_id m f k) ∷ []))) (labels_found m f q k true rest)
    ∙ label_is m f q k (left == 0) name (starting m f (label_in q k true rest)) (λ e. none_found m f q k true rest (eqb-true left 0 e))
    ∙ ap (λ (place : FunPlace). cond (bytes_eq q name) (place_start m f place) (starting m f (label_in q k true rest))) (sym (behind_is k rest))
    ∙ sym (starting_cond m f (bytes_eq q name) (place_behind k (with_starts true rest)) (label_in q k true rest))
labels_found m f q k true (lines.Word w ∷ rest) =
    ap (λ (n : ℕ). start_in q (label_entries m f (walk (k + 1) (is_control w.word) n) rest)) (one_less (word_count rest))
    ∙ labels_found m f q (k + 1) (is_control w.word) rest
    ∙ ap (λ n. starting m f (label_in q n (is_control w.word) rest)) (add-one k)
labels_found m f q k false (lines.Word w ∷ rest) =
    ap (λ (n : ℕ). start_in q (label_entries m f (walk k (is_control w.word) n) rest)) (one_less (word_count rest))
    ∙ labels_found m f q k (is_control w.word) rest

-- ---- functions

function_found : (m : Module) (f : Function) (q : List ℕ) → start_in q (name_entries m f) ≡ starting m f (name_in q f)
function_found m f q =
    entry_first q (f.name, function_block_id m f 0) (label_entries m f (first_walk f) f.body)
    ∙ ap (λ o. cond (bytes_eq q f.name) (Some (function_block_id m f 0)) o) (labels_found m f q 0 true f.body)
    ∙ sym (starting_cond m f (bytes_eq q f.name) (Start 0) (label_in q 0 true f.body))

first_either : (o : Option (List ℕ)) (f : Function) (fs : List Function) (g : Function → Option (List ℕ)) → g f ≡ o → first_of (filter_map g (f ∷ fs)) ≡ option_or o (first_of (filter_map g fs))
first_either None f fs g e = rw e refl
first_either (Some at) f fs g e = rw e refl

-- the block at whose start a name of the patches is
pub names_found : (m : Module) (q : List ℕ) (fs : List Function) → start_among m fs q ≡ first_of (filter_map (λ (f : Function). option_and_then (place_start m f) (name_in q f)) fs)
names_found m q [] = refl
names_found m q (f ∷ fs) =
    entries_split q (name_entries m f) (flat_map (name_entries m) fs)
    ∙ ap (λ o. option_or o (start_among m fs q)) (function_found m f q)
    ∙ ap (λ o. option_or (starting m f (name_in q f)) o) (names_found m q fs)
    ∙ sym (first_either (starting m f (name_in q f)) f fs (λ (f : Function). option_and_then (place_start m f) (name_in q f)) refl)

-- ---- one line

pub label_next : (m : Module) (f : Function) (q : List ℕ) (x : Walk) (line : FunLine) (rest : List FunLine)
    → start_in q (label_entries m f x (line ∷ rest)) ≡ option_or (start_in q (label_entries m f x (line ∷ []))) (start_in q (label_entries m f (next_walk x line) rest))
label_next m f q x (lines.Label name) rest =
    entries_split q (label_entry m f x name) (label_entries m f (next_walk x (lines.Label name)) rest)
    ∙ ap (λ l. option_or (start_in q l) (start_in q (label_entries m f (next_walk x (lines.Label name)) rest))) (sym (append-nil (label_entry m f x name)))
label_next m f q x (lines.Word w) rest = refl

or_three : (a b c : Option (List ℕ)) → option_or (option_or a b) c ≡ option_or a (option_or b c)
or_three None b c = refl
or_three (Some x) b c = refl

-- the labels of a line and of those behind it, with the names before them
pub label_kept : (m : Module) (f : Function) (q : List ℕ) (before : Option (List ℕ)) (x : Walk) (ls : List FunLine) (k : ℕ) (line : FunLine) → k < length ls → line ≡ get_or ls k line
    → option_or (option_or before (start_in q (label_entries m f x (line ∷ [])))) (start_in q (label_entries m f (next_walk x line) (drop (k + 1) ls))) ≡ option_or before (start_in q (label_entries m f x (drop k ls)))
label_kept m f q before x ls k line within is =
    let rest = drop (k + 1) ls in
    or_three before (start_in q (label_entries m f x (line ∷ []))) (start_in q (label_entries m f (next_walk x line) rest))
    ∙ ap (option_or before) (sym (ap (λ l. start_in q (label_entries m f x l)) (drop_more ls k line within ∙ ap (λ l. l ∷ rest) (sym is)) ∙ label_next m f q x line rest))

-- ---- one function

pub names_next : (m : Module) (q : List ℕ) (fs : List Function) (k : ℕ) (f : Function) → k < length fs → f ≡ get_or fs k f → start_among m (take (k + 1) fs) q ≡ option_or (start_among m (take k fs) q) (start_in q (name_entries m f))
names_next m q fs k f within is =
    ap (λ l. start_among m l q) (take_more fs k f within ∙ ap (λ g. take k fs ++ g ∷ []) (sym is))
    ∙ ap (start_in q) (flat_map-append (name_entries m) (take k fs) (f ∷ []))
    ∙ entries_split q (flat_map (name_entries m) (take k fs)) (flat_map (name_entries m) (f ∷ []))
    ∙ ap (λ l. option_or (start_among m (take k fs) q) (start_in q l)) (append-nil (name_entries m f))
