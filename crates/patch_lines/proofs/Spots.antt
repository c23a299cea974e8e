-- Where inserts go, and which symbols labels name.
use Rattle.std.proofs.Common.{◌≡◌, ◌≢◌, ◌⊎◌, inl, inr, ℕ, zero, suc, ◌<◌, ◌≤◌, ◌%◌, ◌==◌, Bool, true, false, cond, ◌&&◌, Option, Some, None, Result, Ok, Err, List, [], ◌∷◌, map, refl, sym, ap, subst, ◌∙◌, arith}
use Rattle.std.specs.Prelude.{IsTrue, IsSome, IsSomeAnd, filter, find, nat_le, slice_get}
use Rattle.std.specs.List.{AllByRecursion}
use Rattle.std.specs.Option.{ok_or}
use Rattle.std.specs.Str.{bytes_eq}
use Rattle.std.proofs.lemmas.Bool.{cases_Bool}
use Rattle.std.proofs.lemmas.Bool.Decides.{nat_tests}
use Rattle.std.proofs.lemmas.Slice.Eq.{bytes_eq-Decides}
use Rattle.gt_model.specs.declared.intervals.Block.{Block}
use Rattle.gt_model.specs.declared.modules.Module.{Module}
use Rattle.gt_model.specs.declared.symbols.Symbol.{Symbol}
use Rattle.gt_model.specs.declared.intervals.Body.{Body}
use Rattle.gt_model.specs.declared.intervals.Body.TheVariants as bodies
use Rattle.gt_model.specs.Typed.{IsId, typed_block, typed_body, typed_symbol}
use Rattle.sym_expr.specs.Modules.{block_of, blocks_of, id_of, id_of_body, is_code, is_code_body, loaded_intervals, size_of}
use Rattle.sym_expr.specs.TableOk.{IsSpot}
use Rattle.patch_lines.specs.declared.fault.PatchReason.{PatchReason}
use Rattle.patch_lines.specs.declared.fault.PatchReason.TheVariants as reasons
use Rattle.patch_lines.specs.declared.line.LabelName.{LabelName}
use Rattle.patch_lines.specs.declared.line.Spot.{Spot}
use Rattle.patch_lines.specs.declared.line.Spot.TheVariants as spots
use Rattle.patch_lines.specs.declared.symbols.SymbolUse.{SymbolUse}
use Rattle.patch_lines.specs.Faults.{at_offset, block_at, code_block, insert_block, spot_block, start_block, symbol_block}
use Rattle.patch_lines.specs.Naming.{pick, symbol_named, then_ok, use_at, use_of, uses_named}

pub same_bytes : (xs ys : List ℕ) → bytes_eq xs ys ≡ true → xs ≡ ys
same_bytes xs ys h = grind (arith, bytes_eq-Decides xs ys)

pub other_bytes : (xs ys : List ℕ) → bytes_eq xs ys ≡ false → xs ≢ ys
other_bytes xs ys h = λ e. grind (arith, bytes_eq-Decides xs ys)

pub itself : (xs : List ℕ) → bytes_eq xs xs ≡ true
itself xs = grind (arith, bytes_eq-Decides xs xs)

-- ---- symbols

-- a symbol of the module has the identifier, which is one
pub record IsThere (symbols : List Symbol) (u : SymbolUse) : Type 0 where
  pub there : IsSome (use_at symbols u.id)
  pub id : IsId u.id

some_cond : {A : Type 0} (b : Bool) (x : A) (o : Option A) → IsSome o → IsSome (cond b (Some x) o)
some_cond true x o h = refl
some_cond false x o h = h

later : (s : Symbol) (symbols : List Symbol) (u : SymbolUse) → IsThere symbols u → IsThere (s ∷ symbols) u
later s symbols u h = record { there = some_cond (bytes_eq s.uuid u.id) s (use_at symbols u.id) h.there; id = h.id }

first : (s : Symbol) (symbols : List Symbol) → typed_symbol s → IsThere (s ∷ symbols) (use_of s)
first s symbols typed = record {
  there = subst (λ b. IsSome (cond b (Some s) (use_at symbols s.uuid))) (sym (itself s.uuid)) refl;
  id = typed.uuid;
}

uses_there : (symbols : List Symbol) (name : List ℕ) → AllByRecursion typed_symbol symbols → AllByRecursion (IsThere symbols) (uses_named symbols name)
uses_there [] name typed = tt
uses_there (s ∷ symbols) name typed = kept s symbols name (bytes_eq name s.name) typed.0 (weaker s symbols (uses_named symbols name) (uses_there symbols name typed.1))
  where
    weaker : (s : Symbol) (symbols : List Symbol) (us : List SymbolUse) → AllByRecursion (IsThere symbols) us → AllByRecursion (IsThere (s ∷ symbols)) us
    weaker s symbols [] h = tt
    weaker s symbols (u ∷ us) h = (later s symbols u h.0, weaker s symbols us h.1)

    kept : (s : Symbol) (symbols : List Symbol) (name : List ℕ) (b : Bool) → typed_symbol s → AllByRecursion (IsThere (s ∷ symbols)) (uses_named symbols name)
        → AllByRecursion (IsThere (s ∷ symbols)) (map use_of (cond b (s ∷ filter (λ (x : Symbol). bytes_eq name x.name) symbols) (filter (λ (x : Symbol). bytes_eq name x.name) symbols)))
    kept s symbols name true typed rest = (first s symbols typed, rest)
    kept s symbols name false typed rest = rest

at_ordinal : (P : SymbolUse → Type 0) (us : List SymbolUse) (k : ℕ) (u : SymbolUse) → AllByRecursion P us → ok_or (slice_get us k) reasons.UnknownName ≡ Ok u → P u
at_ordinal P [] k u each is = cc
at_ordinal P (v ∷ us) zero u each is = let same : v ≡ u = cc in subst P same each.0
at_ordinal P (v ∷ us) (suc k) u each is = at_ordinal P us k u each.1 is

picked : (P : SymbolUse → Type 0) (us : List SymbolUse) (ordinal : Option ℕ) (u : SymbolUse) → AllByRecursion P us → pick us ordinal ≡ Ok u → P u
picked P [] None u each is = cc
picked P (v ∷ []) None u each is = let same : v ≡ u = cc in subst P same each.0
picked P (v ∷ w ∷ us) None u each is = cc
picked P [] (Some zero) u each is = cc
picked P (v ∷ []) (Some zero) u each is = cc
picked P (v ∷ w ∷ us) (Some zero) u each is = cc
picked P [] (Some (suc k)) u each is = cc
picked P (v ∷ []) (Some (suc k)) u each is = at_ordinal P (v ∷ []) k u each is
picked P (v ∷ w ∷ us) (Some (suc k)) u each is = at_ordinal P (v ∷ w ∷ us) k u each is

pub named_there : (m : Module) (label : LabelName) (u : SymbolUse) → AllByRecursion typed_symbol m.symbols → symbol_named m label ≡ Ok u → IsThere m.symbols u
named_there m label u typed is = picked (IsThere m.symbols) (uses_named m.symbols label.name) label.ordinal u (uses_there m.symbols label.name typed) is

-- ---- blocks

-- the code block of an identifier
record CodeAt (m : Module) (b : Block) : Type 0 where
  id : List ℕ
  at : block_at m id ≡ Some b
  code : is_code b ≡ true

code_at : (m : Module) (id : List ℕ) (o : Option Block) (b : Block) → block_at m id ≡ o → code_block o ≡ Ok b → CodeAt m b
code_at m id None b at is = cc
code_at m id (Some c) b at is = coded (is_code c) refl is
  where
    coded : (x : Bool) → is_code c ≡ x → ◌≡◌ {A = Result Block PatchReason} (cond x (Ok c) (Err reasons.UnknownBlock)) (Ok b) → CodeAt m b
    coded true code e =
        let same : c ≡ b = cc in
        record { id = id; at = at ∙ ap (λ (d : Block). Some d) same; code = subst (λ d. is_code d ≡ true) same code }
    coded false code e = cc

start_at : (m : Module) (start : Option (List ℕ)) (b : Block) → start_block m start ≡ Ok b → CodeAt m b
start_at m None b is = cc
start_at m (Some id) b is = code_at m id (block_at m id) b refl is

named_block : (m : Module) (r : Result SymbolUse PatchReason) (b : Block) → then_ok (symbol_block m) r ≡ Ok b → CodeAt m b
named_block m (Ok u) b is = start_at m u.start b is
named_block m (Err reason) b is = cc

spot_at : (m : Module) (spot : Spot) (b : Block) → spot_block m spot ≡ Ok b → CodeAt m b
spot_at m (spots.Block id) b is = code_at m id (block_at m id) b refl is
spot_at m (spots.Symbol label) b is = named_block m (symbol_named m label) b is

-- what `find` finds passes its test, and is one of the blocks
found_passes : (P : Block → Type 0) (id : List ℕ) (bs : List Block) (b : Block) → AllByRecursion P bs → block_of id bs ≡ Some b → (bytes_eq (id_of b) id ≡ true) × P b
found_passes P id [] b each is = cc
found_passes P id (c ∷ bs) b each is = elim (cases_Bool (bytes_eq (id_of c) id)) [
  | inl same ↦
      let e : c ≡ b = some_same c b (sym (ap (λ x. cond x (Some c) (block_of id bs)) same) ∙ is) in
      (subst (λ d. bytes_eq (id_of d) id ≡ true) e same, subst P e each.0)
  | inr other ↦ found_passes P id bs b each.1 (sym (ap (λ x. cond x (Some c) (block_of id bs)) other) ∙ is)
]
  where
    some_same : (c b : Block) → Some c ≡ Some b → c ≡ b
    some_same c b e = cc

code_id : (body : Body) → typed_body body → is_code_body body ≡ true → IsId (id_of_body body)
code_id bodies.Bare typed code = let no : false ≡ true = code in cc
code_id (bodies.Code uuid size decode_mode) typed code = typed.0
code_id (bodies.Data uuid size) typed code = let no : false ≡ true = code in cc

-- the place of an insert
pub record IsPut (m : Module) (offset : ℕ) (block : List ℕ) : Type 0 where
  pub id : IsId block
  pub spot : IsSomeAnd (block_of block (blocks_of (loaded_intervals m))) (IsSpot offset)

put_there : (m : Module) (offset : ℕ) (b : Block) (id : List ℕ) → AllByRecursion typed_block (blocks_of (loaded_intervals m)) → CodeAt m b → (x : Bool) → ((offset % 4 == 0) && nat_le offset (size_of b)) ≡ x
    → ◌≡◌ {A = Result (List ℕ) PatchReason} (cond x (Ok (id_of b)) (Err reasons.BadOffset)) (Ok id) → IsPut m offset id
put_there m offset b id typed at true fits is =
    let mine : id_of b ≡ id = cc in
    let found = found_passes typed_block at.id (blocks_of (loaded_intervals m)) b typed at.at in
    let same : id_of b ≡ at.id = same_bytes (id_of b) at.id found.0 in
    let ids : at.id ≡ id = sym same ∙ mine in
    let whole : offset % 4 ≡ 0 = grind (arith, nat_tests) in
    let within : offset ≤ size_of b = grind (arith, nat_tests) in
    record {
      id = subst IsId mine (code_id b.body found.1.body at.code);
      spot = subst (λ o. IsSomeAnd o (IsSpot offset)) (sym at.at ∙ ap (block_at m) ids) (record { code = at.code; whole = whole; within = within });
    }
put_there m offset b id typed at false fits is = cc

put_at : (m : Module) (offset : ℕ) (id : List ℕ) (r : Result Block PatchReason) → AllByRecursion typed_block (blocks_of (loaded_intervals m)) → ((b : Block) → r ≡ Ok b → CodeAt m b) → then_ok (at_offset offset) r ≡ Ok id → IsPut m offset id
put_at m offset id (Ok b) typed at is = put_there m offset b id typed (at b refl) ((offset % 4 == 0) && nat_le offset (size_of b)) refl is
put_at m offset id (Err reason) typed at is = cc

pub insert_put : (m : Module) (spot : Spot) (offset : ℕ) (id : List ℕ) → AllByRecursion typed_block (blocks_of (loaded_intervals m)) → insert_block m spot offset ≡ Ok id → IsPut m offset id
insert_put m spot offset id typed is = put_at m offset id (spot_block m spot) typed (λ b e. spot_at m spot b e) is
