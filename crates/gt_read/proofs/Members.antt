-- Members of oneofs after one more record.
use Rattle.std.proofs.Common.{◌≡◌, ℕ, Some, None, refl, ap, ◌∙◌}
use Rattle.gt_model.specs.Schema.{symbol_rows, expr_rows, addr_const_rows, addr_addr_rows, block_rows, code_rows, data_rows}
use Rattle.gt_read.specs.declared.block_drafts.BlockDraft.{BlockDraft}
use Rattle.gt_read.specs.declared.block_drafts.BodyDraft.{BodyDraft}
use Rattle.gt_read.specs.declared.expr_drafts.ExprDraft.{ExprDraft}
use Rattle.gt_read.specs.declared.expr_drafts.ValueDraft.{ValueDraft}
use Rattle.gt_read.specs.declared.module_drafts.SymbolDraft.{SymbolDraft}
use Rattle.gt_read.specs.Pieces.{Carried, Number, Bytes, Fixed, pieces}
use Rattle.gt_read.specs.Kinds.{run_in}
use Rattle.gt_read.specs.Drafts.Draft.{DFields, step}
use Rattle.gt_read.specs.declared.block_drafts.BodyDraft.TheVariants as bodies
use Rattle.gt_read.specs.declared.expr_drafts.ValueDraft.TheVariants as values
use Rattle.gt_read.specs.Drafts.Answers.{Starts, Steps, TakesMember}
use Rattle.gt_read.specs.Drafts.Views.{symbol_draft, after_value, after_referent, expr_draft, addr_const_draft, addr_addr_draft, const_of, addr_of, block_draft, code_draft, data_draft, code_of, data_of}
use Rattle.gt_read.proofs.DraftLemmas.{entered_view}

pub value_steps : (d : SymbolDraft) (place : ℕ) (c : Carried) → symbol_draft (record d { payload = after_value d.payload c }) ≡ step symbol_rows (symbol_draft d) (record { place = place; number = 2; carried = c })
unfolding step symbol_rows symbol_draft
value_steps d place (Number n) = refl
value_steps d place (Bytes start bytes) = refl
value_steps d place Fixed = refl

pub referent_steps : (d : SymbolDraft) (place : ℕ) (c : Carried) → symbol_draft (record d { payload = after_referent d.payload place c }) ≡ step symbol_rows (symbol_draft d) (record { place = place; number = 5; carried = c })
unfolding step symbol_rows symbol_draft
referent_steps d place (Number n) = refl
referent_steps d place (Bytes start bytes) = refl
referent_steps d place Fixed = refl

pub const_steps : (d : ExprDraft) (place : ℕ) (c : Carried) (new : ValueDraft) → TakesMember (Starts addr_const_rows addr_const_draft) (Steps addr_const_rows addr_const_draft) const_of values.AddrConst d.value (run_in place c) new → expr_draft (record d { value = new }) ≡ step expr_rows (expr_draft d) (record { place = place; number = 2; carried = c })
unfolding step expr_rows expr_draft
const_steps d place (Number n) new e = ap (λ v. expr_draft (record d { value = v })) e
const_steps d place (Bytes start bytes) new e =
    ap (λ v. expr_draft (record d { value = v })) e.1
    ∙ ap (λ (x : DFields addr_const_rows). (Some x, (None, ((d.flags, None), tt)))) (entered_view addr_const_rows addr_const_draft (const_of d.value) place (pieces bytes start) e.0 e.2)
const_steps d place Fixed new e = ap (λ v. expr_draft (record d { value = v })) e

pub addr_steps : (d : ExprDraft) (place : ℕ) (c : Carried) (new : ValueDraft) → TakesMember (Starts addr_addr_rows addr_addr_draft) (Steps addr_addr_rows addr_addr_draft) addr_of values.AddrAddr d.value (run_in place c) new → expr_draft (record d { value = new }) ≡ step expr_rows (expr_draft d) (record { place = place; number = 3; carried = c })
unfolding step expr_rows expr_draft
addr_steps d place (Number n) new e = ap (λ v. expr_draft (record d { value = v })) e
addr_steps d place (Bytes start bytes) new e =
    ap (λ v. expr_draft (record d { value = v })) e.1
    ∙ ap (λ (x : DFields addr_addr_rows). (None, (Some x, ((d.flags, None), tt)))) (entered_view addr_addr_rows addr_addr_draft (addr_of d.value) place (pieces bytes start) e.0 e.2)
addr_steps d place Fixed new e = ap (λ v. expr_draft (record d { value = v })) e

pub code_steps : (d : BlockDraft) (place : ℕ) (c : Carried) (new : BodyDraft) → TakesMember (Starts code_rows code_draft) (Steps code_rows code_draft) code_of bodies.Code d.body (run_in place c) new → block_draft (record d { body = new }) ≡ step block_rows (block_draft d) (record { place = place; number = 2; carried = c })
unfolding step block_rows block_draft
code_steps d place (Number n) new e = ap (λ v. block_draft (record d { body = v })) e
code_steps d place (Bytes start bytes) new e =
    ap (λ v. block_draft (record d { body = v })) e.1
    ∙ ap (λ (x : DFields code_rows). (d.offset, (Some x, (None, tt)))) (entered_view code_rows code_draft (code_of d.body) place (pieces bytes start) e.0 e.2)
code_steps d place Fixed new e = ap (λ v. block_draft (record d { body = v })) e

pub data_steps : (d : BlockDraft) (place : ℕ) (c : Carried) (new : BodyDraft) → TakesMember (Starts data_rows data_draft) (Steps data_rows data_draft) data_of bodies.Data d.body (run_in place c) new → block_draft (record d { body = new }) ≡ step block_rows (block_draft d) (record { place = place; number = 3; carried = c })
unfolding step block_rows block_draft
data_steps d place (Number n) new e = ap (λ v. block_draft (record d { body = v })) e
data_steps d place (Bytes start bytes) new e =
    ap (λ v. block_draft (record d { body = v })) e.1
    ∙ ap (λ (x : DFields data_rows). (d.offset, (None, (Some x, tt)))) (entered_view data_rows data_draft (data_of d.body) place (pieces bytes start) e.0 e.2)
data_steps d place Fixed new e = ap (λ v. block_draft (record d { body = v })) e
