-- Answers: the exit status of each, and which is that of a refusal.
use Rattle.std.specs.Prelude.{ℕ}
use Rattle.gr_base.specs.declared.end.End.{End}
use Rattle.gr_base.specs.declared.end.End.TheVariants as ends
use Rattle.gr_base.specs.declared.whole.ReadEnd.{ReadEnd}
use Rattle.gr_base.specs.declared.whole.ReadEnd.TheVariants as reads
use Rattle.gt_front.specs.declared.answer.Answer.{Answer}
use Rattle.command_words.specs.declared.role.Role.{Role}
use Rattle.gt_front.specs.declared.answer.Answer.TheVariants.{Done, Usage, ReadFault, WriteFault, Memory, TooLarge, Format, Check, Image}
use Rattle.gt_front.specs.declared.answer.Answer.TheVariants.{Patch as PatchAnswer, Rewrite as RewriteAnswer, Layout as LayoutAnswer, Link as LinkAnswer}
use Rattle.jobs.specs.declared.verdict.Refusal.{Refusal}
use Rattle.jobs.specs.declared.verdict.Refusal.TheVariants as refusals

-- the exit status of an answer
abbrev pub status_of : Answer → ℕ
status_of (Done text) = 0
status_of (Usage index) = 2
status_of (ReadFault role) = 3
status_of WriteFault = 4
status_of Memory = 5
status_of (TooLarge role) = 6
status_of (Format fault) = 7
status_of (Check fault) = 8
status_of (PatchAnswer fault) = 9
status_of (RewriteAnswer fault) = 10
status_of (LayoutAnswer fault) = 11
status_of (LinkAnswer fault) = 12
status_of (Image fault) = 14

-- the answer of a job that refused
abbrev pub answer_of : Refusal → Answer
answer_of (refusals.Format fault) = Format fault
answer_of (refusals.Check fault) = Check fault
answer_of (refusals.Patch fault) = PatchAnswer fault
answer_of (refusals.Rewrite fault) = RewriteAnswer fault
answer_of (refusals.Layout fault) = LayoutAnswer fault
answer_of (refusals.Link fault) = LinkAnswer fault
answer_of (refusals.Image fault) = Image fault

-- the answer where the input of a role wasn't read
abbrev pub unread_answer : Role → End ReadEnd → Answer
unread_answer role (ends.Fault reads.Fault) = ReadFault role
unread_answer role (ends.Fault reads.TooLarge) = TooLarge role
unread_answer role ends.Memory = Memory
