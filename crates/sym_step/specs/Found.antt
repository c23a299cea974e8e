-- What is found of a place, and kept.
use Rattle.std.specs.Prelude.{◌≡◌, [], Option, None, Some, All, IfSome, IsSome, IsTrue}
use Rattle.std.specs.List.{list_all}
use Rattle.a64_inst.specs.Domain.{exec}
use Rattle.a64_ops.specs.Sound.{is_sound}
use Rattle.sym_expr.specs.declared.program.Program.{Program}
use Rattle.sym_expr.specs.Points.{after, word_at}
use Rattle.sym_expr.specs.States.{State}
use Rattle.sym_expr.specs.Steps.{step}
use Rattle.sym_expr.specs.Symbolic.{symbolic}
use Rattle.sym_step.specs.declared.cache.Cache.{Cache}
use Rattle.sym_step.specs.declared.cache.Found.{Found}
use Rattle.sym_step.specs.declared.common.Common.{Common}
use Rattle.sym_step.specs.Common.{common_ops, is_sound_end}
use Rattle.sym_step.specs.Order.{stores_early}

-- a step from the place does these operations, at this point, where a word is and the other point follows, with what its expression names
pub record IsFound (g : Program) (x : Found) : Type 0 where
  pub word : IsSome (word_at g x.at)
  pub sound : IsTrue (list_all is_sound x.ops)
  pub onward : x.after ≡ after g x.at
  pub common : IfSome x.common (λ c. x.ops ≡ common_ops c)
  pub sound_end : IfSome x.common (λ c. IsTrue (is_sound_end c.end))
  pub early : IsTrue (stores_early x.ops)
  pub does : (s : State) → s.place ≡ x.place → step g s ≡ exec (symbolic g) x.ops [] (record s { place = x.at; named = x.named })

-- a slot is empty, or what it has is so
abbrev pub IsSlot : Program → Option Found → Type 0
IsSlot g None = Unit {0}
IsSlot g (Some x) = IsFound g x

-- and this holds of each slot
abbrev pub IsCache : Program → Cache → Type 0
IsCache g cache = All (IsSlot g) cache.slots.items
