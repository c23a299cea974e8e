-- Where the two machines go on: the next word, a point that is jumped to, and the point that a call comes back to.
use Rattle.std.proofs.Common.{◌≡◌, ℕ, suc, ◌+◌, ◌/◌, ◌%◌, ◌^◌, ◌<◌, ◌≤◌, Bool, true, false, List, length, Option, Some, None, refl, sym, ap, ◌∙◌, subst, arith}
use Rattle.std.specs.Prelude.{◌==◌, nat_lt, if◌then◌else◌, slice_get}
use Rattle.std.specs.Option.{option_map_or, option_and_then, option_or}
use Rattle.std.proofs.lemmas.Bool.{ltb-true, ltb-false}
use Rattle.std.proofs.lemmas.Option.{slice_get_past, slice_get_within, none-some}
use Rattle.a64_inst.specs.Domain.{next}
use Rattle.num_run.specs.Machine.{Machine, with_register as with_number}
use Rattle.num_run.specs.Numeric.{at_place as at_address}
use Rattle.paged_memory.specs.Mapping.{Mapping}
use Rattle.sym_expr.specs.declared.point.Point.{Point}
use Rattle.sym_expr.specs.declared.program.CodeBlock.{CodeBlock}
use Rattle.sym_expr.specs.declared.program.Program.{Program}
use Rattle.sym_expr.specs.declared.program.Word.{Word}
use Rattle.sym_expr.specs.declared.target.Target.{Target}
use Rattle.sym_expr.specs.declared.value.Value.{Value}
use Rattle.sym_expr.specs.declared.value.Value.TheVariants.{Num, Addr, At, PageOf, Diff, Step}
use Rattle.sym_expr.specs.Points.{ins, own_at, word_in, word_at, after, after_in, code_at, code_size}
use Rattle.sym_expr.specs.Targets.{point}
use Rattle.sym_expr.specs.States.{State, with_register}
use Rattle.sym_expr.specs.Symbolic.{advanced, jumped, is_zero}
use Rattle.sym_expr.specs.WellMade.{IsPoint}
use Rattle.simulation.specs.Placement.{Placement, point_address}
use Rattle.simulation.specs.Meant.{Means}
use Rattle.simulation.specs.Held.{Related}
use Rattle.simulation.specs.Placed.{IsPlaced}
use Rattle.simulation.proofs.Context.{During, Ends}
use Rattle.simulation.proofs.Changes.{onto, write_during, placed_at}

-- ---- the point after a word

-- there is a word of a block at a point
own_word : (b : CodeBlock) (at : Point) (w : Word) → length (ins b at.offset) ≤ at.j → word_in b at ≡ Some w → own_at b at.offset ≡ Some w
own_word b at w past e = sym (ap (λ (o : Option Word). option_or o (own_at b at.offset)) (slice_get_past (ins b at.offset) at.j past)) ∙ e

own_either : (t : Bool) (own : List Word) (k : ℕ) (w : Word) → (if t then slice_get own k else None) ≡ Some w → (t ≡ true) × (k < length own)
own_either true own k w e = (refl, slice_get_within own k w e)
own_either false own k w e = absurd (none-some w e)

next_either : (g : Program) (b : CodeBlock) (at : Point) (w : Word) (t : Bool) → nat_lt at.j (length (ins b at.offset)) ≡ t → code_at g at.block ≡ Some b → IsPoint g at → word_in b at ≡ Some w
    → at.offset ≤ code_size b → at.j ≤ length (ins b at.offset)
    → IsPoint g (if t then point at.block at.offset (suc at.j) else point at.block (at.offset + 4) 0)
next_either g b at w true e found is word inside passed =
    record { block = b; found = found; whole = is.whole; inside = inside; passed = ltb-true at.j (length (ins b at.offset)) e }
next_either g b at w false e found is word inside passed =
    let own = own_either (at.offset % 4 == 0) b.own (at.offset / 4) w (own_word b at w (ltb-false at.j (length (ins b at.offset)) e) word) in
    let whole = is.whole in
    let within = own.1 in
    record { block = b; found = found; whole = omega (arith, whole); inside = omega (arith, whole, within); passed = omega arith }

pub after_is_point : (g : Program) (at : Point) (w : Word) → IsPoint g at → word_at g at ≡ Some w → IsPoint g (after g at)
after_is_point g at w is e =
    let b = is.block in
    let word : word_in b at ≡ Some w = sym (ap (λ (o : Option CodeBlock). option_and_then (λ c. word_in c at) o) is.found) ∙ e in
    let next : after g at ≡ after_in b at = ap (λ (o : Option CodeBlock). option_map_or (λ c. after_in c at) o at) is.found in
    rw next (next_either g b at w (nat_lt at.j (length (ins b at.offset))) refl is.found is word is.inside is.passed)

module _ (pl : Placement) (g : Program) (memory : Mapping) (placed : IsPlaced pl g memory) where
  after_address : (at : Point) (w : Word) → IsPoint g at → word_at g at ≡ Some w → (point_address pl g at + 4) % 2 ^ 64 ≡ point_address pl g (after g at)
  after_address at w is e =
      let next = placed.after at w is e in
      let high = (placed.points at is).high in
      omega (arith, next, high)

  module _ (at : Point) (w : Word) (t : Option Target) (there : word_at g at ≡ Some w) where
    here : (s : State) (m : Machine) → During pl g at t s m → IsPoint g at
    here s m h = subst (λ (p : Point). IsPoint g p) h.place h.related.is_point

    next_address : (s : State) (m : Machine) → During pl g at t s m → (m.place + 4) % 2 ^ 64 ≡ point_address pl g (after g s.place)
    next_address s m h =
        ap (λ (n : ℕ). (n + 4) % 2 ^ 64) (h.related.place ∙ ap (point_address pl g) h.place) ∙ after_address at w (here s m h) there
        ∙ ap (λ (p : Point). point_address pl g (after g p)) (sym h.place)

    next_point : (s : State) (m : Machine) → During pl g at t s m → IsPoint g (after g s.place)
    next_point s m h = subst (λ (p : Point). IsPoint g (after g p)) (sym h.place) (after_is_point g at w (here s m h) there)

    pub advances : (s : State) (m : Machine) → During pl g at t s m → Related pl g (advanced g s) (at_address ((m.place + 4) % 2 ^ 64) m)
    advances s m h = placed_at pl g (after g s.place) ((m.place + 4) % 2 ^ 64) s m h.related (next_point s m h) (next_address s m h)

    pub links : (s : State) (m : Machine) → During pl g at t s m
        → During pl g at t (with_register false 30 (At (after g s.place)) s) (with_number false 30 ((m.place + 4) % 2 ^ 64) m)
    links s m h = write_during pl g at t false 30 (At (after g s.place)) ((m.place + 4) % 2 ^ 64) s m h (record { valid = next_point s m h; number = next_address s m h })

    pub jumps : (v : Value) (n : ℕ) (s : State) (m : Machine) → During pl g at t s m → Means pl g v n → Ends pl g (jumped v s) (onto (at_address n m))
    jumps (At p) n s m h v = placed_at pl g p n s m h.related v.valid v.number
    jumps (Num k) n s m h v = tt
    jumps (Addr o x) n s m h v = tt
    jumps (PageOf u) n s m h v = tt
    jumps (Diff p q) n s m h v = tt
    jumps (Step p q k) n s m h v = tt

    jumps_either : (z : Bool) (v : Value) (n : ℕ) (s : State) (m : Machine) → During pl g at t s m → Means pl g v n
        → Ends pl g (if z then next (advanced g s) else jumped v s) (onto (at_address (if z then (m.place + 4) % 2 ^ 64 else n) m))
    jumps_either true v n s m h k = advances s m h
    jumps_either false v n s m h k = jumps v n s m h k

    pub jumps_if : (test v : Value) (c n : ℕ) (s : State) (m : Machine) → During pl g at t s m → test ≡ Num c → Means pl g v n
        → Ends pl g (if is_zero test then next (advanced g s) else jumped v s) (onto (at_address (if c == 0 then (m.place + 4) % 2 ^ 64 else n) m))
    jumps_if test v c n s m h e k = rw e (jumps_either (c == 0) v n s m h k)
