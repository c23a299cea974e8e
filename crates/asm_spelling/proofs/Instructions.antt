-- Words that are written are read.
use Rattle.std.proofs.Common.{◌≡◌, ℕ, ℤ, List, Option, Some, None, subst}
use Rattle.a64_inst.specs.declared.kind.Kind.{Kind}
use Rattle.a64_inst.specs.Kinds.{operand, operand_kind}
use Rattle.a64_forms.specs.declared.form.Aim.{Aim}
use Rattle.a64_forms.specs.Spelling.{IsSpelling, spelled}
use Rattle.asm_spelling.specs.declared.named.Named.TheVariants.{Nothing, Label}
use Rattle.asm_spelling.specs.declared.written.Texts.{Texts}
use Rattle.asm_spelling.specs.Labels.{label_text}
use Rattle.asm_spelling.specs.Slots.{aim_text, without_operand}
use Rattle.asm_spelling.specs.Words.{table_texts, word_texts}
use Rattle.asm_spelling.proofs.Labelled.{label_begins}
use Rattle.asm_spelling.proofs.Read.{chained, label_named, nothing_named, table_read}

pub plain_word : (word : ℕ) (x : Texts) → word_texts word Nothing ≡ Some x → IsSpelling x.texts (spelled word None)
plain_word word x e =
    let r = table_read word Nothing x tt e in
    let none = nothing_named r.form.pieces in
    subst (λ (t : Option (Aim × List ℕ)). IsSpelling x.texts (spelled word t)) none r.reads

pub named_word : (word k : ℕ) (name : List ℕ) (offset : ℤ) (x : Texts) → word_texts word (Label (label_text name k) offset) ≡ Some x
    → (kind : Kind) × (aim : Aim) × (text : List ℕ) × (operand_kind word ≡ Some kind) × (aim_text aim (Label (label_text name k) offset) ≡ Some text) × IsSpelling x.texts (spelled (without_operand (operand kind) word) (Some (aim, text)))
named_word word k name offset x e =
    let named = Label (label_text name k) offset in
    let c = chained (λ kind. table_texts (without_operand (operand kind) word) named) (operand_kind word) x e in
    let bare = without_operand (operand c.0) word in
    let r = table_read bare named x (label_begins name k) c.2 in
    let n = label_named bare named r.form.pieces r.has.pieces.0 r.has.names r.has.pieces.1 in
    (c.0, n.0, n.1, c.1, n.3, subst (λ (t : Option (Aim × List ℕ)). IsSpelling x.texts (spelled bare t)) n.2 r.reads)
