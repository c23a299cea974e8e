use Rattle.std.proofs.Common.{◌∙◌, ℕ, OnOk, ltb, List, [], ◌∷◌, ◌++◌, length, filter, refl, sym, ap, subst}
use Rattle.std.specs.Str.{bytes_eq}
use Rattle.indexmap.specs.IndexMap.{get}
use Rattle.sym_expr.specs.declared.program.Piece.{Piece}
use Rattle.sym_expr.specs.declared.program.Piece.TheVariants.{Code as CodePiece, Data as DataPiece, Gap}
use Rattle.sym_expr.specs.declared.program.Word.{Word}
use Rattle.sym_expr.specs.Placing.{Placed}
use Rattle.link_image.specs.declared.blocks.BlockAt.{BlockAt}
use Rattle.link_image.specs.Ready.{KeepsAll}
use Rattle.link_image.proofs.Indexing.{eq_swap, keeps_added, keeps_passed, on_ok}
use Rattle.link_image.proofs.index.add_piece.Goals as goal

pub returns-in_ok-inserted-in-Code : goal.returns-in_ok-inserted-in-Code
returns-in_ok-inserted-in-Code c =
    let x : Placed = record { at = c.args.at; piece = CodePiece c.in-Code.block } in
    let b : BlockAt = record { at = c.args.at; inserted = c.in_ok-inserted-in-Code.inserted } in
    subst
    (λ (p : Piece). OnOk c.add_block.result ((before : List Placed) → KeepsAll before (get bytes_eq c.args.blocks.now) → KeepsAll (before ++ record { at = c.args.at; piece = p } ∷ []) (get bytes_eq c.add_block.new.blocks)))
    (sym c.in-Code.is)
    (on_ok c.add_block.result (λ put before. keeps_added before x c.in-Code.block.id b (get bytes_eq c.args.blocks.now) (get bytes_eq c.add_block.new.blocks) (λ q. eq_swap q c.in-Code.block.id) (record {
      at = refl;
      inserted = (c.in_ok-inserted-in-Code.ensures.sorted, λ bound. c.in_ok-inserted-in-Code.ensures.counts bound ∙ ap (λ (ws : List (ℕ × Word)). length (filter (λ (w : ℕ × Word). ltb w.0 bound) ws)) c.as_slice.ensures);
    }) put) c.add_block.ensures)

pub returns-in-Data : goal.returns-in-Data
returns-in-Data c =
    let x : Placed = record { at = c.args.at; piece = DataPiece c.in-Data.block } in
    let b : BlockAt = record { at = c.args.at; inserted = c.new-inserted.result } in
    subst
    (λ (p : Piece). OnOk c.add_block-in-Data.result ((before : List Placed) → KeepsAll before (get bytes_eq c.args.blocks.now) → KeepsAll (before ++ record { at = c.args.at; piece = p } ∷ []) (get bytes_eq c.add_block-in-Data.new.blocks)))
    (sym c.in-Data.is)
    (on_ok c.add_block-in-Data.result (λ put before. keeps_added before x c.in-Data.block.id b (get bytes_eq c.args.blocks.now) (get bytes_eq c.add_block-in-Data.new.blocks) (λ q. eq_swap q c.in-Data.block.id) (record { at = refl; inserted = tt }) put) c.add_block-in-Data.ensures)

pub returns-in-Gap : goal.returns-in-Gap
returns-in-Gap c =
    let x : Placed = record { at = c.args.at; piece = Gap c.in-Gap.field-0 } in
    subst
    (λ (p : Piece). (before : List Placed) → KeepsAll before (get bytes_eq c.args.blocks.now) → KeepsAll (before ++ record { at = c.args.at; piece = p } ∷ []) (get bytes_eq c.args.blocks.now))
    (sym c.in-Gap.is) (λ before. keeps_passed before x (get bytes_eq c.args.blocks.now) (λ q. refl))
