-- Maps of the readers as maps of messages.
use Rattle.std.proofs.Common.{◌≡◌, ℕ, List, [], ◌∷◌, map, Option, None, refl}
use Rattle.gt_model.specs.Schema.{TextKey, NumberKey, key_kind, expr_rows, table_rows}
use Rattle.gt_model.specs.Values.{Fields, Plain}
use Rattle.gt_read.specs.declared.expr_drafts.HeldExpr.{HeldExpr}
use Rattle.gt_read.specs.declared.module_drafts.TableParts.{TableParts}
use Rattle.gt_read.specs.declared.ids.IdFault.{IdFault}
use Rattle.gt_read.specs.Kinds.{Read}
use Rattle.gt_read.specs.Identifiers.{plain_of}
use Rattle.gt_read.specs.Drafts.Draft.{map_fault}
use Rattle.gt_read.specs.Drafts.Views.{expr_held, expr_finished, table_held, table_finished}
use Rattle.gt_read.proofs.Finishing.{map_back}

pub exprs_back : (es : List (ℕ × HeldExpr)) → map (λ (e : Read (key_kind NumberKey) × (Fields Plain expr_rows × Option IdFault)). (plain_of (key_kind NumberKey) e.0, e.1.0)) (map expr_held es) ≡ map expr_finished es
exprs_back es = map_back (λ (e : Read (key_kind NumberKey) × (Fields Plain expr_rows × Option IdFault)). (plain_of (key_kind NumberKey) e.0, e.1.0)) expr_held expr_finished (λ e. refl) es

pub tables_back : (es : List (List ℕ × TableParts)) → map (λ (e : Read (key_kind TextKey) × (Fields Plain table_rows × Option IdFault)). (plain_of (key_kind TextKey) e.0, e.1.0)) (map table_held es) ≡ map table_finished es
tables_back es = map_back (λ (e : Read (key_kind TextKey) × (Fields Plain table_rows × Option IdFault)). (plain_of (key_kind TextKey) e.0, e.1.0)) table_held table_finished (λ e. refl) es

pub tables_clean : (es : List (List ℕ × TableParts)) → map_fault (map table_held es) ≡ None
tables_clean [] = refl
tables_clean (e ∷ es) = tables_clean es
