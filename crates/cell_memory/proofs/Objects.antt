-- The cells of each object, where one of them changes or none does.
use Rattle.std.proofs.Common.{◌≡◌, ℕ, zero, suc, ◌+◌, ◌≤◌, Bool, true, false, cond, Option, Some, None, Result, Ok, Err, OnErr, List, [], ◌∷◌, map, replicate, refl, sym, ap, subst, ◌∙◌, arith}
use Rattle.std.specs.Option.{option_map, option_map_or}
use Rattle.std.specs.Prelude.{IfSome}
use Rattle.std.specs.Str.{bytes_eq}
use Rattle.indexmap.specs.IndexMap.{get}
use Rattle.cell_memory.specs.declared.cells.Cells.{Cells}
use Rattle.cell_memory.specs.declared.memory.CellMemory.{CellMemory}
use Rattle.cell_memory.specs.declared.whole.Whole.TheVariants as wholes
use Rattle.cell_memory.specs.Memory.{room, HasRoom}
use Rattle.cell_memory.specs.Shown.{part_of, shown}
use Rattle.sym_expr.specs.declared.value.Object.{Object}
use Rattle.sym_expr.specs.declared.value.Object.TheVariants.{Block, Stack}
use Rattle.sym_expr.specs.declared.value.Value.{Value}
use Rattle.sym_expr.specs.declared.value.Value.TheVariants.{Num, Addr, At, PageOf, Diff, Step}
use Rattle.sym_expr.specs.States.{parts_from, value_cells}
use Rattle.sym_expr.specs.Values.{Byte}

pub on_err : {A E : Type 0} {P Q : Type 0} (r : Result A E) → (P → Q) → OnErr r P → OnErr r Q
on_err (Ok a) f h = tt
on_err (Err e) f h = f h

-- an object whose cells are written back as they were
pub same_shown : (test : Bool) (w before : Cells) (old new : Option Cells) → shown w ≡ shown before → (test ≡ true → old ≡ Some before) → new ≡ cond test (Some w) old
    → option_map_or shown new [] ≡ option_map_or shown old []
same_shown true w before old new same here is = ap (λ (o : Option Cells). option_map_or shown o []) is ∙ same ∙ sym (ap (λ (o : Option Cells). option_map_or shown o []) (here refl))
same_shown false w before old new same here is = ap (λ (o : Option Cells). option_map_or shown o []) is

-- a value that isn't a number is stored whole
pub value_parts : (v : Value) → ((n : ℕ) → v ≡ Num n → ⊥) → parts_from 8 0 (part_of (wholes.Value v)) ≡ value_cells v
value_parts (Num n) other = absurd (other n refl)
value_parts (Addr o x) other = refl
value_parts (At p) other = refl
value_parts (PageOf t) other = refl
value_parts (Diff p q) other = refl
value_parts (Step p q n) other = refl

pub zero_cells : (n : ℕ) → map Byte (replicate n 0) ≡ replicate n (Byte 0)
zero_cells zero = refl
zero_cells (suc n) = ap (λ cs. Byte 0 ∷ cs) (zero_cells n)

pub map_or : {A B C : Type 0} (f : A → C) (g : B → C) (d : C) (a : Option A) (b : Option B) → option_map f a ≡ option_map g b → option_map_or f a d ≡ option_map_or g b d
map_or f g d None None e = refl
map_or f g d None (Some y) e = cc
map_or f g d (Some x) None e = cc
map_or f g d (Some x) (Some y) e = cc

-- room for some is room for fewer
less_kept : (kept : Option Cells) (n m : ℕ) → n ≤ m → IfSome kept (λ c. m ≤ room c) → IfSome kept (λ c. n ≤ room c)
less_kept None n m le has = tt
less_kept (Some c) n m le has = omega (arith, has, le)

pub less_room : (memory : CellMemory) (o : Object) (n m : ℕ) → n ≤ m → HasRoom memory m o → HasRoom memory n o
less_room memory (Block id) n m le has = less_kept (get bytes_eq memory.blocks id) n m le has
less_room memory Stack n m le has = omega (arith, has, le)

-- where one object is written back, with as much room but for so many, each has as much but for so many
kept_on : (test : Bool) (w before : Cells) (old new : Option Cells) (n used m : ℕ) → n + used ≤ m → room before ≤ room w + used → (test ≡ true → old ≡ Some before)
    → new ≡ cond test (Some w) old → IfSome old (λ c. m ≤ room c) → IfSome new (λ c. n ≤ room c)
kept_on true w before old new n used m le most here is has =
    let kept : m ≤ room before = subst (λ (o : Option Cells). IfSome o (λ c. m ≤ room c)) (here refl) has in
    subst (λ (o : Option Cells). IfSome o (λ c. n ≤ room c)) (sym is) (omega (arith, kept, most, le))
kept_on false w before old new n used m le most here is has =
    subst (λ (o : Option Cells). IfSome o (λ c. n ≤ room c)) (sym is) (less_kept old n m (omega (arith, le)) has)

pub written_room : (old new : CellMemory) (id : List ℕ) (w before : Cells) (n used m : ℕ) (other : Object) → n + used ≤ m → room before ≤ room w + used → new.stack ≡ old.stack
    → ((q : List ℕ) → bytes_eq id q ≡ true → get bytes_eq old.blocks q ≡ Some before) → ((q : List ℕ) → get bytes_eq new.blocks q ≡ cond (bytes_eq id q) (Some w) (get bytes_eq old.blocks q))
    → HasRoom old m other → HasRoom new n other
written_room old new id w before n used m (Block q) le most stack here is has = kept_on (bytes_eq id q) w before (get bytes_eq old.blocks q) (get bytes_eq new.blocks q) n used m le most (here q) (is q) has
written_room old new id w before n used m Stack le most stack here is has = subst (λ (s : Cells). n ≤ room s) (sym stack) (omega (arith, has, le))

-- what is not there takes all
pub absent_room : (memory : CellMemory) (id : List ℕ) (n : ℕ) → None ≡ get bytes_eq memory.blocks id → HasRoom memory n (Block id)
absent_room memory id n none = subst (λ (o : Option Cells). IfSome o (λ c. n ≤ room c)) none tt
