-- One step more of what a program lists in order.
use Rattle.std.proofs.Common.{◌≡◌, ℕ, zero, suc, ◌+◌, ◌*◌, List, [], ◌∷◌, ◌++◌, ap, ◌∙◌, add-one, arith}
use Rattle.gt_model.specs.declared.intervals.Interval.{Interval}
use Rattle.gt_model.specs.declared.modules.Module.{Module}
use Rattle.sym_expr.specs.declared.patches.PatchTable.{PatchTable}
use Rattle.sym_expr.specs.Modules.{byte_at, bytes_at}
use Rattle.sym_expr.specs.Program.{own_word, own_words}

bytes_next : (i : Interval) (at k : ℕ) → bytes_at i at (suc k) ≡ bytes_at i at k ++ byte_at i (at + k) ∷ []
bytes_next i at zero = ap (λ (n : ℕ). byte_at i n ∷ []) (omega arith)
bytes_next i at (suc k) =
    let e : at + 1 + k ≡ at + suc k = omega arith in
    ap (λ (bs : List ℕ). byte_at i at ∷ bs) (bytes_next i (at + 1) k) ∙ ap (λ (n : ℕ). byte_at i at ∷ (bytes_at i (at + 1) k ++ byte_at i n ∷ [])) e

pub bytes_more : (i : Interval) (at k : ℕ) → bytes_at i at (k + 1) ≡ bytes_at i at k ++ byte_at i (at + k) ∷ []
bytes_more i at k = rw add-one (bytes_next i at k)

words_next : (m : Module) (p : PatchTable) (i : Interval) (at k : ℕ) → own_words m p i at (suc k) ≡ own_words m p i at k ++ own_word m p i (at + 4 * k) ∷ []
words_next m p i at zero = ap (λ (n : ℕ). own_word m p i n ∷ []) (omega arith)
words_next m p i at (suc k) =
    let e : at + 4 + 4 * k ≡ at + 4 * suc k = omega arith in
    ap (λ ws. own_word m p i at ∷ ws) (words_next m p i (at + 4) k) ∙ ap (λ (n : ℕ). own_word m p i at ∷ (own_words m p i (at + 4) k ++ own_word m p i n ∷ [])) e

pub words_more : (m : Module) (p : PatchTable) (i : Interval) (at k : ℕ) → own_words m p i at (k + 1) ≡ own_words m p i at k ++ own_word m p i (at + 4 * k) ∷ []
words_more m p i at k = rw add-one (words_next m p i at k)
