-- The nodes that functions and names of the patches add to a rewritten module.
use Rattle.std.proofs.Common.{◌≡◌, ◌≢◌, ℕ, zero, suc, ◌+◌, ◌-◌, ◌*◌, ◌<◌, ◌≤◌, inl, inr, Bool, true, false, ◌||◌, List, [], ◌∷◌, ◌++◌, length, map, Option, Some, None, refl, sym, ap, subst, ◌∙◌, arith}
use Rattle.std.specs.Prelude.{IfSome, if◌then◌else◌, unwrap_or}
use Rattle.std.specs.List.{flat_map, list_any}
use Rattle.std.specs.Option.{option_map, option_map_or}
use Rattle.std.proofs.lemmas.Bool.{false≢true, or_left, or_right}
use Rattle.gt_model.specs.declared.intervals.Interval.{Interval}
use Rattle.gt_model.specs.declared.ir.Ir.{Ir}
use Rattle.gt_model.specs.declared.modules.Module.{Module}
use Rattle.gt_model.specs.declared.modules.Section.{Section}
use Rattle.gt_model.specs.declared.symbols.Symbol.{Symbol}
use Rattle.gt_model.specs.Nodes.{Node, AProxy, ASymbol, CodeBlock as CodeKind, node, block_nodes, interval_nodes, section_nodes, module_nodes}
use Rattle.rewrite.specs.Functions.{blocks_from, function_interval}
use Rattle.rewrite.specs.Identifiers.{new_symbol_id}
use Rattle.rewrite.specs.Rewritten.{new_interval, new_intervals, new_section, rewritten_module}
use Rattle.rewrite.specs.Symbols.{function_symbols, holder, moved_symbol, name_symbol, names_of}
use Rattle.sym_expr.specs.declared.patches.Function.{Function}
use Rattle.sym_expr.specs.declared.patches.PatchTable.{PatchTable}
use Rattle.sym_expr.specs.declared.patches.PatchWord.{PatchWord}
use Rattle.sym_expr.specs.Linkable.{formed, have_block}
use Rattle.sym_expr.specs.Modules.{blocks_of, has_id, is_loaded, loaded_intervals, loaded_sections}
use Rattle.sym_expr.specs.Patches.{FunPlace, Start, End, function_blocks, name_in}
use Rattle.sym_expr.specs.Program.{entry_of, has_entry, program}
use Rattle.sym_expr.specs.TableOk.{function_words, new_names}
use Rattle.sym_expr.specs.Tables.{Tables}
use Rattle.sym_expr.specs.Targets.{function_block_id}
use Rattle.rewritten_links.proofs.Kept.{Sub}
use Rattle.rewritten_links.proofs.Lists.{In, in_back, in_filter_map, in_flat, in_front, in_map, out_filter, out_flat}
use Rattle.rewritten_links.proofs.Names.{IsWithin, has_block, name_found, name_within}

-- ---- the section that has the entry

one_passes : {A : Type 0} (test : A → Bool) (y : A) (b c : Bool) (ys : List A) → test y ≡ b → (b || c) ≡ true → (c ≡ true → (x : A) × In x ys × (test x ≡ true)) → (x : A) × In x (y ∷ ys) × (test x ≡ true)
one_passes test y true c ys e h f = (y, inl refl, e)
one_passes test y false c ys e h f = let rest = f h in (rest.0, inr rest.1, rest.2)

pub any_out : {A : Type 0} (test : A → Bool) (xs : List A) → list_any test xs ≡ true → (x : A) × In x xs × (test x ≡ true)
any_out test [] h = absurd (false≢true h)
any_out test (y ∷ ys) h = one_passes test y (test y) (list_any test ys) ys refl h (any_out test ys)

pub any_in : {A : Type 0} (test : A → Bool) (x : A) (xs : List A) → In x xs → test x ≡ true → list_any test xs ≡ true
any_in test x [] h e = absurd h
any_in test x (y ∷ ys) (inl d) e = or_left (test y) (list_any test ys) (ap test (sym d) ∙ e)
any_in test x (y ∷ ys) (inr h) e = or_right (test y) (list_any test ys) (any_in test x ys h e)

-- a loaded section that has the entry
pub record HasEntry (m : Module) : Type 0 where
  pub section : Section
  pub among : In section m.sections
  pub loaded : is_loaded section ≡ true
  pub entry : has_entry m section ≡ true

entered_at : (m : Module) (o : Option (List ℕ)) → m.entry ≡ o → option_map_or (have_block (loaded_intervals m)) o false ≡ true → HasEntry m
entered_at m None e h = absurd (false≢true h)
entered_at m (Some id) e h =
    let b = any_out (has_id id) (blocks_of (loaded_intervals m)) h in
    let i = out_flat (λ (x : Interval). x.blocks) b.0 (loaded_intervals m) b.1 in
    let s = out_flat (λ (x : Section). x.intervals) i.0 (loaded_sections m) i.1 in
    let kept = out_filter is_loaded s.0 m.sections s.1 in
    let same : entry_of m ≡ id = ap (λ o. unwrap_or o []) e in
    let has : has_id (entry_of m) b.0 ≡ true = ap (λ x. has_id x b.0) same ∙ b.2 in
    record {
      section = s.0;
      among = kept.0;
      loaded = kept.1;
      entry = any_in (λ (x : Interval). list_any (has_id (entry_of m)) x.blocks) i.0 s.0.intervals s.2 (any_in (has_id (entry_of m)) b.0 i.0.blocks i.2 has);
    }

pub has_entry_section : (ir : Ir) (m : Module) (t : Tables) → formed ir m t → HasEntry m
has_entry_section ir m t h = entered_at m m.entry refl h.faultless.entered

-- ---- new intervals are in the module

pub interval_there : (k : ℕ) (m : Module) (t : Tables) (p : PatchTable) (s : Section) (j : Interval) → In s m.sections → is_loaded s ≡ true → In j (new_intervals m t p s) → Sub (interval_nodes k j) (module_nodes k (rewritten_module m t p))
interval_there k m t p s j h loaded l n in_j =
    let new = rewritten_module m t p in
    let same : new_section m t p s ≡ record s { intervals = new_intervals m t p s } = ap (λ x. if x then record s { intervals = new_intervals m t p s } else s) loaded in
    let inside : In n (section_nodes k (record s { intervals = new_intervals m t p s })) = inr (in_flat (interval_nodes k) j n (new_intervals m t p s) l in_j) in
    let there : In n (section_nodes k (new_section m t p s)) = subst (λ (x : Section). In n (section_nodes k x)) (sym same) inside in
    inr (in_back n (map (λ id. node id (AProxy k)) new.proxies ++ map (λ (s : Symbol). node s.uuid (ASymbol k)) new.symbols) (flat_map (section_nodes k) new.sections)
    (in_flat (section_nodes k) (new_section m t p s) n new.sections (in_map (new_section m t p) s m.sections h) there))

pub function_in_section : (m : Module) (t : Tables) (p : PatchTable) (s : Section) (f : Function) → has_entry m s ≡ true → In f p.functions → In (function_interval m f) (new_intervals m t p s)
function_in_section m t p s f e h =
    let there : In (function_interval m f) (if has_entry m s then map (function_interval m) p.functions else []) = subst (λ x. In (function_interval m f) (if x then map (function_interval m) p.functions else [])) (sym e) (in_map (function_interval m) f p.functions h) in
    in_back (function_interval m f) (map (new_interval m t p) s.intervals) (if has_entry m s then map (function_interval m) p.functions else []) there

pub function_there : (k : ℕ) (m : Module) (t : Tables) (p : PatchTable) (f : Function) → HasEntry m → In f p.functions → Sub (interval_nodes k (function_interval m f)) (module_nodes k (rewritten_module m t p))
function_there k m t p f e h = interval_there k m t p e.section (function_interval m f) e.among e.loaded (function_in_section m t p e.section f e.entry h)

block_from : (k : ℕ) (m : Module) (f : Function) (first at j : ℕ) (bs : List (List PatchWord)) → j < length bs → In (node (function_block_id m f (first + j)) (CodeKind k)) (flat_map (block_nodes k) (blocks_from m f first at bs))
block_from k m f first at j [] l = absurd (omega (arith, l))
block_from k m f first at zero (b ∷ bs) l = let same : first + zero ≡ first = omega arith in inl (ap (λ x. node (function_block_id m f x) (CodeKind k)) same)
block_from k m f first at (suc j) (b ∷ bs) l =
    let same : suc first + j ≡ first + suc j = omega arith in
    inr (subst (λ x. In (node (function_block_id m f x) (CodeKind k)) (flat_map (block_nodes k) (blocks_from m f (suc first) (at + 4 * length b) bs))) same (block_from k m f (suc first) (at + 4 * length b) j bs (omega (arith, l))))

pub function_block : (k : ℕ) (m : Module) (f : Function) (j : ℕ) → j < length (function_blocks f) → In (node (function_block_id m f j) (CodeKind k)) (interval_nodes k (function_interval m f))
function_block k m f j l =
    let same : 0 + j ≡ j = omega arith in
    inr (subst (λ x. In (node (function_block_id m f x) (CodeKind k)) (flat_map (block_nodes k) (blocks_from m f 0 0 (function_blocks f)))) same (block_from k m f 0 0 j (function_blocks f) l))

-- what has a place in a function is one of its blocks
holder_block : (k : ℕ) (m : Module) (f : Function) (place : FunPlace) → IsWithin (length (function_blocks f)) place → 1 ≤ length (function_blocks f) → In (node (holder m f place) (CodeKind k)) (interval_nodes k (function_interval m f))
holder_block k m f (Start j) h some = function_block k m f j h
holder_block k m f End h some = function_block k m f (length (function_blocks f) - 1) (omega (arith, some))

at_place : (n : ℕ) (o : Option FunPlace) (place : FunPlace) → o ≡ Some place → IfSome o (IsWithin n) → IsWithin n place
at_place n o place e h = subst (λ x. IfSome x (IsWithin n)) e h

pub holder_there : (k : ℕ) (m : Module) (f : Function) (name : List ℕ) (place : FunPlace) → function_words f ≢ [] → name_in name f ≡ Some place → In (node (holder m f place) (CodeKind k)) (interval_nodes k (function_interval m f))
holder_there k m f name place words e = holder_block k m f place (at_place (length (function_blocks f)) (name_in name f) place e (name_within name f words)) (has_block f words)

-- ---- symbols of names

pub name_there : (k : ℕ) (m : Module) (t : Tables) (p : PatchTable) (name : List ℕ) → In name (new_names p) → In (node (new_symbol_id m name) (ASymbol k)) (module_nodes k (rewritten_module m t p))
name_there k m t p name h =
    let new = rewritten_module m t p in
    let f = out_flat names_of name p.functions h in
    let place = name_found name f.0 f.2 in
    let s : Symbol = name_symbol m f.0 name place.0 in
    let own : In s (function_symbols m f.0) = in_filter_map (λ x. option_map (name_symbol m f.0 x) (name_in x f.0)) name s (names_of f.0) f.2 (ap (option_map (name_symbol m f.0 name)) place.1) in
    let all : In s new.symbols = in_back s (map (moved_symbol m (program m t p)) m.symbols) (flat_map (function_symbols m) p.functions) (in_flat (function_symbols m) f.0 s p.functions f.1 own) in
    let symbol : Symbol → Node = λ (x : Symbol). node x.uuid (ASymbol k) in
    let proxies : List Node = map (λ id. node id (AProxy k)) new.proxies in
    inr (in_front (symbol s) (proxies ++ map symbol new.symbols) (flat_map (section_nodes k) new.sections) (in_back (symbol s) proxies (map symbol new.symbols) (in_map symbol s new.symbols all)))

pub old_symbol_there : (k : ℕ) (m : Module) (s : Symbol) → In s m.symbols → In (node s.uuid (ASymbol k)) (module_nodes k m)
old_symbol_there k m s h =
    let symbol : Symbol → Node = λ (x : Symbol). node x.uuid (ASymbol k) in
    let proxies : List Node = map (λ id. node id (AProxy k)) m.proxies in
    inr (in_front (symbol s) (proxies ++ map symbol m.symbols) (flat_map (section_nodes k) m.sections) (in_back (symbol s) proxies (map symbol m.symbols) (in_map symbol s m.symbols h)))
