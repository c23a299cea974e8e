-- The symbols of each name, with one more.
use Rattle.std.proofs.Common.{◌≡◌, ℕ, ◌+◌, ◌<◌, length, take, get_or, map, Bool, true, false, cond, Option, Some, None, List, [], ◌∷◌, ◌++◌, refl, sym, ap, subst, ◌∙◌, inl, inr, append-nil}
use Rattle.std.specs.Prelude.{filter}
use Rattle.std.specs.Map.{update}
use Rattle.std.specs.Option.{unwrap_or}
use Rattle.std.specs.Str.{bytes_eq}
use Rattle.std.proofs.lemmas.Bool.{cases_Bool}
use Rattle.std.proofs.lemmas.Slice.Eq.{bytes_eq-Decides}
use Rattle.std.proofs.lemmas.List.{map-append}
use Rattle.std.proofs.lemmas.List.Elements.{filter-append}
use Rattle.gt_model.specs.declared.symbols.Symbol.{Symbol}
use Rattle.patch_lines.specs.Naming.{use_of, uses_named}
use Rattle.patch_lines.proofs.Spots.{itself, same_bytes}
use Rattle.patch_lines.proofs.Steps.{taken}

other_way : (p q : List ℕ) → bytes_eq p q ≡ false → bytes_eq q p ≡ false
other_way p q h = either (bytes_eq q p) refl
  where
    either : (b : Bool) → bytes_eq q p ≡ b → b ≡ false
    either true e = sym (itself p) ∙ ap (bytes_eq p) (sym (same_bytes q p e)) ∙ h
    either false e = refl

-- at a name: what is found before and behind a change there
pub grown : {A : Type 0} (old new : List ℕ → Option (List A)) (name : List ℕ) (named : A) (had pushed : List A) → unwrap_or (old name) [] ≡ had → pushed ≡ had ++ named ∷ []
    → ((q : List ℕ) → new q ≡ update bytes_eq old name (Some pushed) q) → (q : List ℕ) → unwrap_or (new q) [] ≡ unwrap_or (old q) [] ++ cond (bytes_eq q name) (named ∷ []) []
grown {A} old new name named had pushed before is changed q = elim (cases_Bool (bytes_eq name q)) [
  | inl same ↦
      subst (λ r. unwrap_or (new r) [] ≡ unwrap_or (old r) [] ++ cond (bytes_eq r name) (named ∷ []) []) (same_bytes name q same)
      (ap (λ o. unwrap_or o []) (changed name ∙ ap (λ b. cond b (Some pushed) (old name)) (itself name))
      ∙ is ∙ ap (λ us. us ++ named ∷ []) (sym before)
      ∙ ap (λ b. unwrap_or (old name) [] ++ cond b (named ∷ []) []) (sym (itself name)))
  | inr other ↦
      ap (λ o. unwrap_or o []) (changed q ∙ ap (λ b. cond b (Some pushed) (old q)) other)
      ∙ sym (append-nil (unwrap_or (old q) []))
      ∙ ap (λ b. unwrap_or (old q) [] ++ cond b (named ∷ []) []) (sym (other_way name q other))
]

one_use : (b : Bool) (s : Symbol) → map use_of (cond b (s ∷ []) []) ≡ cond b (use_of s ∷ []) []
one_use true s = refl
one_use false s = refl

-- the symbols of a name among one symbol more
pub uses_more : (symbols : List Symbol) (i : ℕ) (s : Symbol) (q : List ℕ) → i < length symbols → s ≡ get_or symbols i s
    → uses_named (take i symbols) q ++ cond (bytes_eq q s.name) (use_of s ∷ []) [] ≡ uses_named (take (i + 1) symbols) q
uses_more symbols i s q lt is =
    ap (λ us. uses_named (take i symbols) q ++ us) (sym (one_use (bytes_eq q s.name) s))
    ∙ sym (map-append use_of (filter (λ (x : Symbol). bytes_eq q x.name) (take i symbols)) (filter (λ (x : Symbol). bytes_eq q x.name) (s ∷ [])))
    ∙ ap (map use_of) (sym (filter-append (λ (x : Symbol). bytes_eq q x.name) (take i symbols) (s ∷ [])))
    ∙ ap (λ ss. uses_named ss q) (sym (taken symbols i s lt is))
