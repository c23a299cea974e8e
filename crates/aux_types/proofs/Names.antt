-- A type that begins here, by the word that it begins with and the brackets behind that.
use Rattle.std.proofs.Common.{◌≡◌, ℕ, zero, suc, ◌-◌, List, length, Some, None, Ok, Err, refl}
use Rattle.gr_base.specs.declared.end.End.{End}
use Rattle.gr_base.specs.declared.end.End.TheVariants as ends
use Rattle.aux_types.specs.declared.fault.TypeFault.{TypeFault}
use Rattle.aux_types.specs.declared.fault.TypeFault.TheVariants.{NotAType, Deep}
use Rattle.aux_types.specs.declared.name.Scalar.{Scalar}
use Rattle.aux_types.specs.declared.name.Container.{Container}
use Rattle.aux_types.specs.Gives.{Fails}
use Rattle.aux_types.specs.Names.{scalar_named, container_named}
use Rattle.aux_types.specs.Shape.{Plain}
use Rattle.aux_types.specs.Reading.{word, after_word, expect, inside, opened, refused, container_at, type_at}

module _ (total : ℕ) where
  -- the open bracket is missing
  pub refuses : (room : ℕ) (k : Container) (bytes : List ℕ) (e : End TypeFault) → Fails e (expect total 60 bytes) → Fails e (container_at total room k bytes)
  unfolding container_at opened refused
  refuses room k bytes ends.Memory h = tt
  refuses zero k bytes (ends.Fault f) h = rw h refl
  refuses (suc room) k bytes (ends.Fault f) h = rw h refl

  -- no other bracket may open
  pub at_no_room : (room : ℕ) (k : Container) (bytes rest : List ℕ) → room ≡ 0 → expect total 60 bytes ≡ Ok rest → container_at total room k bytes ≡ Err (Deep (total - length bytes))
  unfolding container_at refused
  at_no_room room k bytes rest none h = rw (none, h) refl

  -- a bracket opens
  pub at_room : (room less : ℕ) (k : Container) (bytes rest : List ℕ) → room ≡ suc less → expect total 60 bytes ≡ Ok rest → container_at total room k bytes ≡ inside (type_at total less) total k rest
  unfolding container_at opened
  at_room room less k bytes rest some h = rw (some, h) refl

  pub type_is_scalar : (room : ℕ) (bytes : List ℕ) (k : Scalar) → scalar_named (word bytes) ≡ Some k → type_at total room bytes ≡ Ok (Plain k, after_word bytes)
  unfolding type_at
  type_is_scalar zero bytes k h = rw h refl
  type_is_scalar (suc room) bytes k h = rw h refl

  pub type_is_container : (room : ℕ) (bytes : List ℕ) (k : Container) → scalar_named (word bytes) ≡ None → container_named (word bytes) ≡ Some k → type_at total room bytes ≡ container_at total room k (after_word bytes)
  unfolding type_at container_at
  type_is_container zero bytes k none h = rw (none, h) refl
  type_is_container (suc room) bytes k none h = rw (none, h) refl

  pub type_is_none : (room : ℕ) (bytes : List ℕ) → scalar_named (word bytes) ≡ None → container_named (word bytes) ≡ None → type_at total room bytes ≡ Err (NotAType (total - length bytes))
  unfolding type_at
  type_is_none zero bytes none h = rw (none, h) refl
  type_is_none (suc room) bytes none h = rw (none, h) refl
