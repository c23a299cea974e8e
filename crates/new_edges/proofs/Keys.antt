-- Values by key, one entry more at the front.
use Rattle.std.proofs.Common.{◌≡◌, ℕ, Bool, true, false, cond, List, [], ◌∷◌, map, Option, Some, refl, sym, ap, ◌∙◌}
use Rattle.std.specs.Prelude.{find}
use Rattle.std.specs.Option.{option_map}
use Rattle.std.specs.Str.{bytes_eq}
use Rattle.edge_repair.specs.Ends.{symbol_start}
use Rattle.gt_model.specs.declared.intervals.Block.{Block}
use Rattle.gt_model.specs.declared.modules.Module.{Module}
use Rattle.gt_model.specs.declared.symbols.Symbol.{Symbol}
use Rattle.new_edges.specs.Keyed.{value_at}
use Rattle.new_edges.specs.Loaded.{block_entry, symbol_entry, symbol_of}
use Rattle.sym_expr.specs.Modules.{block_of, id_of}

pub map_cond : {A B : Type 0} (f : A → B) (t : Bool) (x : A) (o : Option A) → option_map f (cond t (Some x) o) ≡ cond t (Some (f x)) (option_map f o)
map_cond f true x o = refl
map_cond f false x o = refl

pub value_at-cons : {K V : Type 0} (eq : K → K → Bool) (key : K) (e : K × V) (entries : List (K × V)) → value_at eq key (e ∷ entries) ≡ cond (eq e.0 key) (Some e.1) (value_at eq key entries)
value_at-cons {K} {V} eq key e entries = map_cond (λ (e : K × V). e.1) (eq e.0 key) e (find (λ (e : K × V). eq e.0 key) entries)

-- blocks by their identifiers
pub blocks_found : (id : List ℕ) (blocks : List Block) → value_at bytes_eq id (map block_entry blocks) ≡ block_of id blocks
blocks_found id [] = refl
blocks_found id (b ∷ bs) =
    value_at-cons bytes_eq id (block_entry b) (map block_entry bs)
    ∙ ap (λ (o : Option Block). cond (bytes_eq (id_of b) id) (Some b) o) (blocks_found id bs)

-- symbols by theirs, with the blocks at whose starts they are
pub symbols_found : (m : Module) (id : List ℕ) (symbols : List Symbol) → value_at bytes_eq id (map (symbol_entry m) symbols) ≡ option_map (symbol_start m) (symbol_of id symbols)
symbols_found m id [] = refl
symbols_found m id (s ∷ ss) =
    value_at-cons bytes_eq id (symbol_entry m s) (map (symbol_entry m) ss)
    ∙ ap (λ (o : Option (Option (List ℕ))). cond (bytes_eq s.uuid id) (Some (symbol_start m s)) o) (symbols_found m id ss)
    ∙ sym (map_cond (symbol_start m) (bytes_eq s.uuid id) s (symbol_of id ss))
