use Rattle.std.proofs.Common.{◌≡◌, ◌≤◌, ℕ, List, [], length, take, drop}
use Rattle.std.specs.HashMap.{get_by_text}
use Rattle.std.specs.Option.{is_some}
use Rattle.patch_lines.specs.Faults.{first_pass, is_name_in, place_at, words_in}
use Rattle.patch_lines.proofs.first.check_lines.Given as goal

abbrev pub invariant-loop-line : goal.invariant-loop-line
invariant-loop-line l = record {
  kept : (q : List ℕ) → is_some (get_by_text l.names q) ≡ is_name_in (take l.line-index l.lines) q;
  place : l.place ≡ place_at (take l.line-index l.lines);
  words : l.words ≡ words_in (take l.line-index l.lines);
  few : l.words ≤ l.line-index;
  number : l.number ≡ l.line-index;
  within : l.line-index ≤ length l.lines;
  rest : first_pass l.index.«module» (take l.line-index l.lines) (drop l.line-index l.lines) ≡ first_pass l.index.«module» [] l.lines;
}
