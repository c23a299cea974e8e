-- What a whole read and a whole write make of a desk's calls.
use Rattle.std.specs.Prelude.{◌≡◌, ◌≤◌, ◌^◌, ℕ, List, [], ◌++◌, length, take, Option, Some}
use Rattle.std.proofs.Common.{sym, ap, ◌∙◌, append_assoc}
use Rattle.std.proofs.lemmas.List.{append-nil}
use Rattle.gr_base.specs.Desk.{Files, Told, Leaves}
use Rattle.gr_base.specs.declared.desk.DeskFault.{DeskFault}
use Rattle.gr_base.specs.declared.desk.DeskFault.TheVariants.{Failed, Memory}
use Rattle.gr_base.specs.declared.end.End.{End}
use Rattle.gr_base.specs.declared.end.End.TheVariants as ends
use Rattle.gr_base.specs.declared.whole.ReadEnd.{ReadEnd}
use Rattle.gr_base.specs.declared.whole.ReadEnd.TheVariants as reads
use Rattle.gr_base.specs.declared.whole.WriteFault.{WriteFault}

-- the end of a whole read where the desk refuses
abbrev pub read_end : DeskFault → End ReadEnd
read_end Failed = ends.Fault reads.Fault
read_end Memory = ends.Memory

-- the end of a whole write where the desk refuses
abbrev pub write_end : DeskFault → End WriteFault
write_end Failed = ends.Fault (record {})
write_end Memory = ends.Memory

-- the file of this name holds a prefix of the bytes, and no other file differs
abbrev pub LeavesFront : List ℕ → List ℕ → Files → Files → Type 0
LeavesFront name bytes old new = (count : ℕ) × Leaves name (take count bytes) old new

-- a taker took so many bytes, and where a desk tells its files, these are all that the name holds
pub record TakesFile {T : Type 0} (took : T → List ℕ → T → Type 0) (files : Option Files) (name : List ℕ) (old new : T) (count : ℕ) : Type 0 where
  pub bytes : List ℕ
  pub len : length bytes ≡ count
  pub bound : count ≤ 2 ^ 26
  pub taken : took old bytes new
  pub content : Told files (λ held. held name ≡ Some bytes)

-- adding no bytes changes none
pub added_none : (bytes : List ℕ) → bytes ≡ bytes ++ []
added_none bytes = sym (append-nil bytes)

-- adding bytes and then others adds both
pub added_both : (old mid new first second : List ℕ) → mid ≡ old ++ first → new ≡ mid ++ second → new ≡ old ++ (first ++ second)
added_both old mid new first second a b = b ∙ ap (λ (l : List ℕ). l ++ second) a ∙ append_assoc old first second
