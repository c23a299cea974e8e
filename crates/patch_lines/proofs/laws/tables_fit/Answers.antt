use Rattle.patch_lines.proofs.Fits.{fits}
use Rattle.patch_lines.proofs.laws.tables_fit.Goals as goal

pub returns : goal.returns
returns c = fits
