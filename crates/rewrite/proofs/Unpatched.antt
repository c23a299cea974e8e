-- Without patches nothing of an IR changes.
use Rattle.std.proofs.Common.{◌≡◌, ℕ, Bool, true, false, List, [], ◌∷◌, ◌++◌, map, Option, Some, None, refl, sym, ap, subst, ◌∙◌}
use Rattle.std.specs.Prelude.{find, IfSome, if◌then◌else◌}
use Rattle.std.specs.List.{AllByRecursion as Every, flat_map, filter_map, list_any}
use Rattle.std.specs.Option.{option_map_or}
use Rattle.std.specs.Str.{bytes_eq}
use Rattle.block_parts.proofs.Cuts.{whole}
use Rattle.gt_model.specs.declared.intervals.Block.{Block}
use Rattle.gt_model.specs.declared.intervals.Interval.{Interval}
use Rattle.gt_model.specs.declared.ir.Ir.{Ir}
use Rattle.gt_model.specs.declared.modules.Module.{Module}
use Rattle.gt_model.specs.declared.modules.Section.{Section}
use Rattle.gt_model.specs.declared.symbols.Payload.{Payload}
use Rattle.gt_model.specs.declared.symbols.Payload.TheVariants as payloads
use Rattle.gt_model.specs.declared.symbols.Symbol.{Symbol}
use Rattle.rewrite.specs.Identifiers.{part_id, last_part}
use Rattle.rewrite.specs.Rewritten.{has_words, new_interval, new_intervals, new_section, rewritten, rewritten_module, stretched}
use Rattle.rewrite.specs.Symbols.{end_holder, end_payload, last_id, moved_symbol, new_symbols}
use Rattle.sym_expr.specs.declared.program.CodeBlock.{CodeBlock}
use Rattle.sym_expr.specs.declared.program.Piece.{Piece}
use Rattle.sym_expr.specs.declared.program.Piece.TheVariants.{Code as CodePiece, Data as DataPiece}
use Rattle.sym_expr.specs.declared.program.Stretch.{Stretch}
use Rattle.sym_expr.specs.Modules.{in_order, is_code, is_loaded, loaded_intervals}
use Rattle.sym_expr.specs.Patches.{no_patches}
use Rattle.sym_expr.specs.Points.{code_at, code_blocks, code_of}
use Rattle.sym_expr.specs.Program.{code_block, data_block, has_entry, piece, program, stretch}
use Rattle.sym_expr.specs.Tables.{Tables}
use Rattle.sym_expr.proofs.Counts.{same_id}
use Rattle.sym_expr.proofs.Listed.{stretches_are}
use Rattle.sym_expr.proofs.Lists.{every_all, every_filter_map, every_flat, every_map, found_one}
use Rattle.sym_expr.proofs.Parts.{pieces_each}

same_each : {X : Type 0} (f : X → X) → ((x : X) → f x ≡ x) → (xs : List X) → map f xs ≡ xs
same_each f h [] = refl
same_each f h (x ∷ xs) = ap (λ y. y ∷ map f xs) (h x) ∙ ap (λ l. x ∷ l) (same_each f h xs)

nothing_more : {X : Type 0} (b : Bool) (xs : List X) → xs ++ (if b then [] else []) ≡ xs
nothing_more true [] = refl
nothing_more false [] = refl
nothing_more b (x ∷ xs) = ap (λ l. x ∷ l) (nothing_more b xs)

-- ---- intervals

none_has : (bs : List Block) → list_any (has_words no_patches) bs ≡ false
none_has [] = refl
none_has (b ∷ bs) = none_has bs

interval_stays : (m : Module) (t : Tables) (i : Interval) → new_interval m t no_patches i ≡ i
interval_stays m t i = ap (λ x. if x then stretched m no_patches i (stretch m t no_patches i) else i) (none_has i.blocks)

intervals_stay : (m : Module) (t : Tables) (s : Section) → new_intervals m t no_patches s ≡ s.intervals
intervals_stay m t s =
    nothing_more (has_entry m s) (map (new_interval m t no_patches) s.intervals)
    ∙ same_each (new_interval m t no_patches) (interval_stays m t) s.intervals

either_section : (s : Section) (is : List Interval) (b : Bool) → is ≡ s.intervals → (if b then record s { intervals = is } else s) ≡ s
either_section s is true h = ap (λ x. record s { intervals = x }) h
either_section s is false h = refl

section_stays : (m : Module) (t : Tables) (s : Section) → new_section m t no_patches s ≡ s
section_stays m t s = either_section s (new_intervals m t no_patches s) (is_loaded s) (intervals_stay m t s)

-- ---- symbols

abbrev pub IsQuiet : Piece → Type 0
IsQuiet x = IfSome (code_of x) (λ (b : CodeBlock). b.inserted ≡ [])

block_quiet : (m : Module) (t : Tables) (i : Interval) (b : Block) (x : Bool) → IsQuiet (if x then CodePiece (code_block m no_patches i b) else DataPiece (data_block m t no_patches i b))
block_quiet m t i b true = refl
block_quiet m t i b false = tt

pub stretch_quiet : (m : Module) (t : Tables) (i : Interval) → Every IsQuiet (stretch m t no_patches i).pieces
stretch_quiet m t i =
    pieces_each IsQuiet (λ bytes. tt) m t no_patches i 0 (in_order i.blocks)
    (every_all (λ b. IsQuiet (piece m t no_patches i b)) (λ b. block_quiet m t i b (is_code b)) (in_order i.blocks))

quiet_in : (ss : List Stretch) → Every (λ (s : Stretch). Every IsQuiet s.pieces) ss → Every (λ (b : CodeBlock). b.inserted ≡ []) (filter_map code_of (flat_map (λ (s : Stretch). s.pieces) ss))
quiet_in ss h =
    every_filter_map code_of (λ (b : CodeBlock). b.inserted ≡ []) (flat_map (λ (s : Stretch). s.pieces) ss)
    (every_flat (λ (s : Stretch). s.pieces) IsQuiet ss h)

pub all_quiet : (m : Module) (t : Tables) → Every (λ (b : CodeBlock). b.inserted ≡ []) (code_blocks (program m t no_patches))
all_quiet m t =
    quiet_in (program m t no_patches).stretches
    (subst (Every (λ (s : Stretch). Every IsQuiet s.pieces)) (sym (stretches_are m t))
    (every_map (stretch m t no_patches) (λ (s : Stretch). Every IsQuiet s.pieces) (loaded_intervals m)
    (every_all (λ i. Every IsQuiet (stretch m t no_patches i).pieces) (stretch_quiet m t) (loaded_intervals m))))

-- a block in which nothing is inserted has its end itself
whole_last : (m : Module) (b : CodeBlock) → b.inserted ≡ [] → last_id m b ≡ b.id
whole_last m b none = ap (λ qs. part_id m b.id (last_part qs)) (whole b none)

found_last : (m : Module) (id : List ℕ) (bs : List CodeBlock) (o : Option CodeBlock) → Every (λ (b : CodeBlock). b.inserted ≡ []) bs → find (λ (b : CodeBlock). bytes_eq b.id id) bs ≡ o → option_map_or (last_id m) o id ≡ id
found_last m id bs None h e = refl
found_last m id bs (Some b) h e =
    let it = found_one (λ (b : CodeBlock). bytes_eq b.id id) (λ (b : CodeBlock). b.inserted ≡ []) bs b h e in
    whole_last m b it.1 ∙ same_id b.id id it.0

holder_stays : (m : Module) (t : Tables) (id : List ℕ) → end_holder m (program m t no_patches) id ≡ id
holder_stays m t id = found_last m id (code_blocks (program m t no_patches)) (code_at (program m t no_patches) id) (all_quiet m t) refl

payload_stays : (m : Module) (t : Tables) (p : Payload) → end_payload m (program m t no_patches) p ≡ p
payload_stays m t payloads.Nothing = refl
payload_stays m t (payloads.Value value) = refl
payload_stays m t (payloads.Referent id) = ap payloads.Referent (holder_stays m t id)

either_symbol : (s : Symbol) (p : Payload) (b : Bool) → p ≡ s.payload → (if b then record s { payload = p } else s) ≡ s
either_symbol s p true h = ap (λ x. record s { payload = x }) h
either_symbol s p false h = refl

symbol_stays : (m : Module) (t : Tables) (s : Symbol) → moved_symbol m (program m t no_patches) s ≡ s
symbol_stays m t s = either_symbol s (end_payload m (program m t no_patches) s.payload) s.at_end (payload_stays m t s.payload)

symbols_stay : (m : Module) (t : Tables) → new_symbols m (program m t no_patches) no_patches ≡ m.symbols
symbols_stay m t =
    nothing_more true (map (moved_symbol m (program m t no_patches)) m.symbols)
    ∙ same_each (moved_symbol m (program m t no_patches)) (symbol_stays m t) m.symbols

-- ---- the whole

pub module_stays : (m : Module) (t : Tables) → rewritten_module m t no_patches ≡ m
module_stays m t =
    ap (λ symbols. record m { symbols = symbols; sections = map (new_section m t no_patches) m.sections }) (symbols_stay m t)
    ∙ ap (λ sections. record m { sections = sections }) (same_each (new_section m t no_patches) (section_stays m t) m.sections)

either_module : (m n : Module) (b : Bool) → n ≡ m → (if b then n else m) ≡ m
either_module m n true h = h
either_module m n false h = refl

pub stays : (ir : Ir) (id : List ℕ) (t : Tables) → rewritten ir id t no_patches ≡ ir
stays ir id t =
    ap (λ modules. record ir { modules = modules })
    (same_each (λ (m : Module). if bytes_eq m.uuid id then rewritten_module m t no_patches else m)
    (λ m. either_module m (rewritten_module m t no_patches) (bytes_eq m.uuid id) (module_stays m t)) ir.modules)
