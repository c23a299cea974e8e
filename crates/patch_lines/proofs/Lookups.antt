-- What is found of a name.
use Rattle.std.proofs.Common.{◌≡◌, ◌↔◌, ◌||◌, ℕ, Bool, true, false, not, cond, List, [], ◌∷◌, map, refl, sym, ap, ◌∙◌}
use Rattle.std.specs.Prelude.{IsTrue, filter}
use Rattle.std.specs.List.{list_any}
use Rattle.std.specs.Str.{bytes_eq}
use Rattle.gt_model.specs.declared.symbols.Symbol.{Symbol}
use Rattle.patch_lines.specs.declared.symbols.SymbolUse.{SymbolUse}
use Rattle.patch_lines.specs.Naming.{use_of, uses_named}

abbrev pub is_any : List SymbolUse → Bool
is_any [] = false
is_any (u ∷ us) = true

any_cond : (b : Bool) (s : Symbol) (ss : List Symbol) (x : Bool) → x ≡ is_any (map use_of ss) → (b || x) ≡ is_any (map use_of (cond b (s ∷ ss) ss))
any_cond true s ss x e = refl
any_cond false s ss x e = e

-- a symbol has a name where there are symbols of the name
pub any_named : (symbols : List Symbol) (q : List ℕ) → list_any (λ (s : Symbol). bytes_eq q s.name) symbols ≡ is_any (uses_named symbols q)
any_named [] q = refl
any_named (s ∷ ss) q = any_cond (bytes_eq q s.name) s (filter (λ (x : Symbol). bytes_eq q x.name) ss) (list_any (λ (x : Symbol). bytes_eq q x.name) ss) (any_named ss q)

pub not_empty : (b : Bool) (us : List SymbolUse) → IsTrue b ↔ (us ≡ []) → not b ≡ is_any us
not_empty true [] h = refl
not_empty false [] h = let no : false ≡ true = h.1 refl in cc
not_empty true (u ∷ us) h = let no = h.0 refl in cc
not_empty false (u ∷ us) h = refl
