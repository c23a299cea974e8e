-- The symbols of the names of a function.
use Rattle.std.proofs.Common.{◌≡◌, ◌≢◌, ℕ, ◌+◌, ◌<◌, Bool, true, false, cond, nat_lt, List, [], ◌∷◌, ◌++◌, length, Option, Some, refl, sym, ap, ◌∙◌, add-one, arith}
use Rattle.std.specs.Prelude.{AllPairs, if◌then◌else◌}
use Rattle.std.specs.List.{AllByRecursion, cons_option, filter_map, flat_map}
use Rattle.std.specs.Option.{option_map}
use Rattle.std.specs.Str.{bytes_eq}
use Rattle.std.proofs.lemmas.Bool.{cond-true, cond-false, lt-ltb, le-ltb}
use Rattle.std.proofs.lemmas.Slice.Eq.{bytes_eq-Decides}
use Rattle.gt_model.specs.declared.modules.Module.{Module}
use Rattle.gt_model.specs.declared.symbols.Symbol.{Symbol}
use Rattle.new_symbols.proofs.Apart.{first_apart, rest_apart}
use Rattle.new_symbols.specs.declared.names.Begun.{Begun}
use Rattle.new_symbols.specs.Naming.{label_symbols, line_symbols, next_begun, place_of}
use Rattle.rewrite.specs.Symbols.{function_symbols, name_symbol, names_of}
use Rattle.sym_expr.specs.declared.patches.FunLine.{FunLine}
use Rattle.sym_expr.specs.declared.patches.FunLine.TheVariants as lines
use Rattle.sym_expr.specs.declared.patches.Function.{Function}
use Rattle.sym_expr.specs.Patches.{FunPlace, Start, End, function_blocks, is_control, label_in, name_in, place_behind, with_starts}
use Rattle.sym_expr.specs.TableOk.{line_labels}
use Rattle.taken_ids.specs.Functions.{starts_in}

-- ---- names

same_name : (a : List ℕ) → bytes_eq a a ≡ true
same_name a = (bytes_eq-Decides a a).1 refl

other_name : (a b : List ℕ) → a ≢ b → bytes_eq b a ≡ false
other_name a b apart = at (bytes_eq b a) refl
  where
    at : (x : Bool) → bytes_eq b a ≡ x → bytes_eq b a ≡ false
    at true h = absurd (apart (sym ((bytes_eq-Decides b a).0 h)))
    at false h = h

kept_same : {X Y : Type 0} (g h : X → Option Y) (xs : List X) → AllByRecursion (λ (x : X). g x ≡ h x) xs → filter_map g xs ≡ filter_map h xs
kept_same g h [] same = refl
kept_same g h (x ∷ xs) same = ap (λ o. cons_option o (filter_map g xs)) same.0 ∙ ap (λ l. cons_option (h x) l) (kept_same g h xs same.1)

each_so : {X : Type 0} (P Q : X → Type 0) (xs : List X) → ((x : X) → P x → Q x) → AllByRecursion P xs → AllByRecursion Q xs
each_so P Q [] so all = tt
each_so P Q (x ∷ xs) so all = (so x all.0, each_so P Q xs so all.1)

-- ---- labels

-- what stands behind a label, where so many blocks began before it
place_is : (f : Function) (k : ℕ) (rest : List FunLine) → k + starts_in true rest ≡ length (function_blocks f) → place_behind k (with_starts true rest) ≡ place_of f k
place_is f k [] h = sym (cond-false (nat_lt k (length (function_blocks f))) (Start k) End (le-ltb k (length (function_blocks f)) (omega (arith, h))))
place_is f k (lines.Label name ∷ rest) h = place_is f k rest h
place_is f k (lines.Word w ∷ rest) h = sym (cond-true (nat_lt k (length (function_blocks f))) (Start k) End (lt-ltb k (length (function_blocks f)) (omega (arith, h))))

-- the symbols of the labels among lines, where so many blocks began before them
abbrev pub symbols_yet : Module → Function → ℕ → Bool → List FunLine → List Symbol
symbols_yet m f k fresh [] = []
symbols_yet m f k fresh (lines.Label name ∷ rest) = name_symbol m f name (place_behind k (with_starts true rest)) ∷ symbols_yet m f k true rest
symbols_yet m f k fresh (lines.Word w ∷ rest) = symbols_yet m f (if fresh then k + 1 else k) (is_control w.word) rest

-- one line further
pub line_yet : (m : Module) (f : Function) (b : Begun) (line : FunLine) (rest : List FunLine) → b.count + starts_in b.fresh (line ∷ rest) ≡ length (function_blocks f)
    → line_symbols m f b.count line ++ symbols_yet m f (next_begun b line).count (next_begun b line).fresh rest ≡ symbols_yet m f b.count b.fresh (line ∷ rest)
line_yet m f b (lines.Label name) rest h = ap (λ (at : FunPlace). name_symbol m f name at ∷ symbols_yet m f b.count true rest) (sym (place_is f b.count rest h))
line_yet m f b (lines.Word w) rest h = refl

-- a label is found where it stands
labels_are : (m : Module) (f : Function) (k : ℕ) (fresh : Bool) (ls : List FunLine) → AllPairs (λ (a b : List ℕ). a ≢ b) (flat_map line_labels ls)
    → filter_map (λ name. option_map (name_symbol m f name) (label_in name k fresh ls)) (flat_map line_labels ls) ≡ symbols_yet m f k fresh ls
labels_are m f k fresh [] apart = refl
labels_are m f k fresh (lines.Label name ∷ rest) apart =
    let symbol : List ℕ → Option FunPlace → Option Symbol = λ n o. option_map (name_symbol m f n) o in
    let place : FunPlace = place_behind k (with_starts true rest) in
    let here : label_in name k fresh (lines.Label name ∷ rest) ≡ Some place = cond-true (bytes_eq name name) (Some place) (label_in name k true rest) (same_name name) in
    let others = each_so (λ (n : List ℕ). name ≢ n) (λ (n : List ℕ). symbol n (label_in n k fresh (lines.Label name ∷ rest)) ≡ symbol n (label_in n k true rest)) (flat_map line_labels rest)
    (λ n differ. ap (symbol n) (cond-false (bytes_eq n name) (Some place) (label_in n k true rest) (other_name name n differ)))
    (first_apart (λ (a b : List ℕ). a ≢ b) name (flat_map line_labels rest) apart) in
    ap (λ (o : Option FunPlace). cons_option (symbol name o) (filter_map (λ n. symbol n (label_in n k fresh (lines.Label name ∷ rest))) (flat_map line_labels rest))) here
    ∙ ap (λ l. name_symbol m f name place ∷ l)
    (kept_same (λ n. symbol n (label_in n k fresh (lines.Label name ∷ rest))) (λ n. symbol n (label_in n k true rest)) (flat_map line_labels rest) others
    ∙ labels_are m f k true rest (rest_apart (λ (a b : List ℕ). a ≢ b) name (flat_map line_labels rest) apart))
labels_are m f k true (lines.Word w ∷ rest) apart =
    ap (λ (j : ℕ). filter_map (λ name. option_map (name_symbol m f name) (label_in name j (is_control w.word) rest)) (flat_map line_labels rest)) (sym (add-one k))
    ∙ labels_are m f (k + 1) (is_control w.word) rest apart
labels_are m f k false (lines.Word w ∷ rest) apart = labels_are m f k (is_control w.word) rest apart

pub all_labels : (m : Module) (f : Function) → AllPairs (λ (a b : List ℕ). a ≢ b) (flat_map line_labels f.body) → symbols_yet m f 0 true f.body ≡ label_symbols m f
all_labels m f apart = sym (labels_are m f 0 true f.body apart)

-- ---- all names

pub labels_apart : (f : Function) → AllPairs (λ (a b : List ℕ). a ≢ b) (names_of f) → AllPairs (λ (a b : List ℕ). a ≢ b) (flat_map line_labels f.body)
labels_apart f apart = rest_apart (λ (a b : List ℕ). a ≢ b) f.name (flat_map line_labels f.body) apart

-- its own name, and its labels
pub names_are : (m : Module) (f : Function) → AllPairs (λ (a b : List ℕ). a ≢ b) (names_of f) → name_symbol m f f.name (Start 0) ∷ label_symbols m f ≡ function_symbols m f
names_are m f apart =
    let symbol : List ℕ → Option FunPlace → Option Symbol = λ n o. option_map (name_symbol m f n) o in
    let here : name_in f.name f ≡ Some (Start 0) = cond-true (bytes_eq f.name f.name) (Some (Start 0)) (label_in f.name 0 true f.body) (same_name f.name) in
    let others = each_so (λ (n : List ℕ). f.name ≢ n) (λ (n : List ℕ). symbol n (name_in n f) ≡ symbol n (label_in n 0 true f.body)) (flat_map line_labels f.body)
    (λ n differ. ap (symbol n) (cond-false (bytes_eq n f.name) (Some (Start 0)) (label_in n 0 true f.body) (other_name f.name n differ)))
    (first_apart (λ (a b : List ℕ). a ≢ b) f.name (flat_map line_labels f.body) apart) in
    sym
    (ap (λ (o : Option FunPlace). cons_option (symbol f.name o) (filter_map (λ n. symbol n (name_in n f)) (flat_map line_labels f.body))) here
    ∙ ap (λ l. name_symbol m f f.name (Start 0) ∷ l)
    (kept_same (λ n. symbol n (name_in n f)) (λ n. symbol n (label_in n 0 true f.body)) (flat_map line_labels f.body) others))
