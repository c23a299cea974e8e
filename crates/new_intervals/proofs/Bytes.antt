-- The bytes of code are those of its words.
use Rattle.std.proofs.Common.{◌≡◌, List, [], ◌∷◌, ◌++◌, map, refl, sym, ap, ◌∙◌}
use Rattle.std.specs.List.{flat_map}
use Rattle.block_parts.specs.declared.words.PatchedWord.{PatchedWord}
use Rattle.rewrite.specs.Contents.{word_bytes}
use Rattle.sym_expr.specs.declared.program.Word.{Word}
use Rattle.sym_expr.specs.Images.{bytes_of}

flat_of_map : {X Y Z : Type 0} (f : X → Y) (g : Y → List Z) (xs : List X) → flat_map g (map f xs) ≡ flat_map (λ x. g (f x)) xs
flat_of_map f g [] = refl
flat_of_map f g (x ∷ xs) = ap (λ l. g (f x) ++ l) (flat_of_map f g xs)

pub same_bytes : (ps : List PatchedWord) (ws : List Word) → map (λ (w : PatchedWord). w.word) ps ≡ map (λ (w : Word). w.word) ws
    → flat_map (λ (w : PatchedWord). bytes_of 4 w.word) ps ≡ flat_map word_bytes ws
same_bytes ps ws e =
    sym (flat_of_map (λ (w : PatchedWord). w.word) (bytes_of 4) ps)
    ∙ ap (flat_map (bytes_of 4)) e
    ∙ flat_of_map (λ (w : Word). w.word) (bytes_of 4) ws
