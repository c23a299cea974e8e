-- Intervals from their parts.
use Rattle.std.proofs.Common.{◌≡◌, ℕ, ◌*◌, false, List, [], ◌∷◌, ◌++◌, length, find, map, ap, ◌∙◌, refl, arith}
use Rattle.std.specs.Prelude.{Option}
use Rattle.std.specs.List.{flat_map}
use Rattle.std.proofs.lemmas.List.{length-append}
use Rattle.gt_model.specs.declared.exprs.Expr.{Expr}
use Rattle.gt_model.specs.declared.intervals.Block.{Block}
use Rattle.gt_model.specs.declared.intervals.Interval.{Interval}
use Rattle.gt_model.specs.declared.modules.Module.{Module}
use Rattle.new_intervals.specs.Blocks.{block_where}
use Rattle.new_intervals.specs.Inserting.{brought_by}
use Rattle.new_intervals.specs.Whole.{block_in, stretched_by}
use Rattle.new_intervals.specs.declared.inserts.Inserts.{Inserts}
use Rattle.new_intervals.proofs.Kept.{blocks_same}
use Rattle.rewrite.specs.Contents.{bytes_from}
use Rattle.rewrite.specs.Exprs.{by_offset, moved_expr}
use Rattle.rewrite.specs.Functions.{function_interval}
use Rattle.sym_expr.specs.declared.patches.Function.{Function}
use Rattle.sym_expr.specs.declared.patches.PatchWord.{PatchWord}
use Rattle.sym_expr.specs.declared.program.Stretch.{Stretch}
use Rattle.sym_expr.specs.Images.{bytes_of, is_block}
use Rattle.sym_expr.specs.Placing.{Placed, placed, stretch_size}
use Rattle.sym_expr.specs.TableOk.{function_words}

abbrev bytes_in : PatchWord → List ℕ
bytes_in w = bytes_of 4 w.word

length-words : (ws : List PatchWord) → length (flat_map bytes_in ws) ≡ 4 * length ws
length-words [] = refl
length-words (w ∷ ws) = omega (arith, length-append (bytes_in w) (flat_map bytes_in ws), length-words ws)

abbrev pub assembled : List ℕ → List Block → List Expr → ℕ → List ℕ → Interval
assembled uuid blocks exprs size contents = record { uuid = uuid; blocks = blocks; exprs = exprs; has_address = false; address = 0; size = size; contents = contents }

pub function_is : (m : Module) (f : Function) (uuid : List ℕ) (blocks : List Block) (exprs : List Expr) (size : ℕ) (contents : List ℕ) → let whole = function_interval m f in
    uuid ≡ whole.uuid → blocks ≡ whole.blocks → exprs ≡ whole.exprs → size ≡ length contents → contents ≡ whole.contents → assembled uuid blocks exprs size contents ≡ whole
function_is m f uuid blocks exprs size contents u b e s k =
    let whole = function_interval m f in
    let long : size ≡ whole.size = s ∙ ap (λ (l : List ℕ). length l) k ∙ length-words (function_words f) in
    ap (λ x. assembled x blocks exprs size contents) u
    ∙ ap (λ x. assembled whole.uuid x exprs size contents) b
    ∙ ap (λ x. assembled whole.uuid whole.blocks x size contents) e
    ∙ ap (λ x. assembled whole.uuid whole.blocks whole.exprs x contents) long
    ∙ ap (λ x. assembled whole.uuid whole.blocks whole.exprs whole.size x) k

-- ---- one that is rewritten

pub stretched_is : (n : Inserts) (i : Interval) (s moved : Stretch) (spots : List Placed) (before : List Block) (olds : List Expr) (kept : List ℕ → Option Placed) (blocks : List Block) (exprs : List Expr) (size : ℕ) (contents : List ℕ)
    → spots ≡ placed s → before ≡ i.blocks → olds ≡ i.exprs → moved ≡ s → ((id : List ℕ) → kept id ≡ find (λ (x : Placed). is_block id x.piece) spots)
    → blocks ≡ flat_map (block_where n.module.now kept) before
    → exprs ≡ by_offset (map (moved_expr moved) olds ++ flat_map (brought_by n) spots)
    → size ≡ stretch_size s → contents ≡ bytes_from 0 spots
    → record i { blocks = blocks; exprs = exprs; size = size; contents = contents } ≡ stretched_by n i s
stretched_is n i s moved spots before olds kept blocks exprs size contents laid same_blocks same_exprs from index b e z k =
    let m : Module = n.module.now in
    let whole : Interval = stretched_by n i s in
    let found : (id : List ℕ) → kept id ≡ block_in s id = λ id. index id ∙ ap (find (λ (x : Placed). is_block id x.piece)) laid in
    let bs : blocks ≡ whole.blocks = b ∙ ap (flat_map (block_where m kept)) same_blocks ∙ blocks_same m kept (block_in s) found i.blocks in
    let es : exprs ≡ whole.exprs =
    e ∙ ap (λ (x : Stretch). by_offset (map (moved_expr x) olds ++ flat_map (brought_by n) spots)) from
    ∙ ap (λ l. by_offset (map (moved_expr s) l ++ flat_map (brought_by n) spots)) same_exprs
    ∙ ap (λ l. by_offset (map (moved_expr s) i.exprs ++ flat_map (brought_by n) l)) laid in
    let ks : contents ≡ whole.contents = k ∙ ap (bytes_from 0) laid in
    ap (λ x. record i { blocks = x; exprs = exprs; size = size; contents = contents }) bs
    ∙ ap (λ x. record i { blocks = whole.blocks; exprs = x; size = size; contents = contents }) es
    ∙ ap (λ x. record i { blocks = whole.blocks; exprs = whole.exprs; size = x; contents = contents }) z
    ∙ ap (λ x. record i { blocks = whole.blocks; exprs = whole.exprs; size = whole.size; contents = x }) ks
