use Rattle.std.proofs.Common.{refl}
use Rattle.gt_model.specs.Schema.{symbol_rows}
use Rattle.gt_read.specs.Drafts.Views.{symbol_draft}
use Rattle.gt_read.specs.Drafts.Draft.{drafted}
use Rattle.gt_read.specs.Meaning.{meaning}
use Rattle.gt_read.proofs.symbols.SymbolDraftMessage.start.Goals as goal

pub returns : goal.returns
unfolding drafted meaning symbol_rows symbol_draft
returns c = rw (c.missing.ensures, c.new.ensures) refl
