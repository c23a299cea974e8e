-- Values by key, one entry more at the front.
use Rattle.std.proofs.Common.{◌≡◌, ℕ, Bool, true, false, cond, List, [], ◌∷◌, map, Option, Some, refl, sym, ap, ◌∙◌}
use Rattle.std.specs.Prelude.{find}
use Rattle.std.specs.Option.{option_map}
use Rattle.std.specs.Str.{bytes_eq}
use Rattle.gt_model.specs.declared.intervals.Block.{Block}
use Rattle.gt_model.specs.declared.symbols.Symbol.{Symbol}
use Rattle.sym_expr.specs.declared.target.Target.{Target}
use Rattle.sym_expr.specs.Modules.{block_of, id_of}
use Rattle.module_program.specs.Entries.{block_entry, symbol_entry}
use Rattle.module_program.specs.Keyed.{value_at}
use Rattle.module_program.specs.Naming.{symbol_base, symbol_of}

pub map_cond : {A B : Type 0} (f : A → B) (t : Bool) (x : A) (o : Option A) → option_map f (cond t (Some x) o) ≡ cond t (Some (f x)) (option_map f o)
map_cond f true x o = refl
map_cond f false x o = refl

pub value_at-cons : {K V : Type 0} (eq : K → K → Bool) (key : K) (e : K × V) (entries : List (K × V)) → value_at eq key (e ∷ entries) ≡ cond (eq e.0 key) (Some e.1) (value_at eq key entries)
value_at-cons {K} {V} eq key e entries = map_cond (λ (e : K × V). e.1) (eq e.0 key) e (find (λ (e : K × V). eq e.0 key) entries)

-- blocks by their identifiers
pub blocks_found : (id : List ℕ) (blocks : List Block) → value_at bytes_eq id (map block_entry blocks) ≡ block_of id blocks
blocks_found id [] = refl
blocks_found id (b ∷ bs) =
    value_at-cons bytes_eq id (block_entry b) (map block_entry bs)
    ∙ ap (λ (o : Option Block). cond (bytes_eq (id_of b) id) (Some b) o) (blocks_found id bs)

-- symbols by theirs, with what they name
pub symbols_found : (count : List ℕ → ℕ → ℕ) (found : List ℕ → Option Block) (id : List ℕ) (symbols : List Symbol) → value_at bytes_eq id (map (symbol_entry count found) symbols) ≡ option_map (symbol_base count found) (symbol_of id symbols)
symbols_found count found id [] = refl
symbols_found count found id (s ∷ ss) =
    value_at-cons bytes_eq id (symbol_entry count found s) (map (symbol_entry count found) ss)
    ∙ ap (λ (o : Option Target). cond (bytes_eq s.uuid id) (Some (symbol_base count found s)) o) (symbols_found count found id ss)
    ∙ sym (map_cond (symbol_base count found) (bytes_eq s.uuid id) s (symbol_of id ss))
