-- The line that the program prints of an answer.
use Rattle.std.specs.Prelude.{ℕ, List, ◌++◌, codes}
use Rattle.std.specs.Fmt.{decimal}
use Rattle.gt_front.specs.declared.answer.Answer.{Answer}
use Rattle.gt_front.specs.declared.answer.Answer.TheVariants.{Done, Usage, ReadFault, WriteFault, Memory, TooLarge, Format, Check, Image}
use Rattle.gt_front.specs.declared.answer.Answer.TheVariants.{Patch as PatchAnswer, Rewrite as RewriteAnswer, Layout as LayoutAnswer, Link as LinkAnswer}
use Rattle.command_words.specs.Roles.{role_name}
use Rattle.note_texts.specs.FaultTexts.{check_text, layout_text, link_text, patch_text, rewrite_text}
use Rattle.gt_read.specs.FaultText.{fault_text}

-- the line of an answer
abbrev pub note : Answer → List ℕ
note (Done text) = text
note (Usage index) = codes "usage: word " ++ decimal index
note (ReadFault role) = codes "read fault: " ++ role_name role
note WriteFault = codes "write fault"
note Memory = codes "memory"
note (TooLarge role) = codes "too large: " ++ role_name role
note (Format fault) = codes "format: " ++ fault_text fault
note (Check fault) = codes "check " ++ check_text fault
note (PatchAnswer fault) = codes "patch " ++ patch_text fault
note (RewriteAnswer fault) = codes "rewrite " ++ rewrite_text fault
note (LayoutAnswer fault) = codes "layout " ++ layout_text fault
note (LinkAnswer fault) = codes "link " ++ link_text fault
note (Image fault) = codes "image at " ++ decimal fault.place
