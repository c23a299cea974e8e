-- Pieces that are taken one after another are one piece.
use Rattle.std.proofs.Common.{◌≡◌, List, ℕ, [], ◌∷◌, ◌++◌, refl, sym, ap, ◌∙◌, append_assoc}
use Rattle.gt_model.specs.Typed.{AreBytes}
use Rattle.gt_read.specs.declared.feeding.Feeder.{Feeder}
use Rattle.gt_read.specs.Feeding.{ends_as, TookPiece}

-- no bytes change nothing
pub took_none : (feeder : Feeder) → TookPiece feeder [] feeder
took_none feeder = record { same = λ rest. refl; bytes = tt }

both_bytes : (first second : List ℕ) → AreBytes first → AreBytes second → AreBytes (first ++ second)
both_bytes [] second a b = b
both_bytes (x ∷ xs) second a b = (a.0, both_bytes xs second a.1 b)

-- two pieces make one
pub took_both : (old mid new : Feeder) (first second : List ℕ) → TookPiece old first mid → TookPiece mid second new → TookPiece old (first ++ second) new
took_both old mid new first second a b = record {
  same = λ rest. b.same rest ∙ a.same (second ++ rest) ∙ ap (ends_as old) (sym (append_assoc first second rest));
  bytes = both_bytes first second a.bytes b.bytes;
}
