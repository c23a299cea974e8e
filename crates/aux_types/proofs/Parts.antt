-- Reading the parts of a type one after another, as a loop does.
use Rattle.std.proofs.Common.{◌≡◌, ℕ, zero, suc, ◌≤◌, ◌<◌, true, false, List, [], ◌∷◌, ◌++◌, length, Ok, Err, refl, sym, ap, ◌∙◌, arith}
use Rattle.gr_base.specs.declared.end.End.{End}
use Rattle.gr_base.specs.declared.end.End.TheVariants as ends
use Rattle.aux_types.specs.declared.fault.TypeFault.{TypeFault}
use Rattle.aux_types.specs.Gives.{◌>>=◌, Fails}
use Rattle.aux_types.specs.Shape.{Shape, Shapes, none, more, shapes}
use Rattle.aux_types.specs.Reading.{Read, separator, parts, all_parts}
use Rattle.aux_types.proofs.Takes.{separator_takes}

-- shapes before others
abbrev pub prepend : List Shape → Shapes → Shapes
prepend [] ts = ts
prepend (x ∷ xs) ts = more x (prepend xs ts)

-- what was read before, and what is still read
abbrev pub with_front : List Shape → Read Shapes → Read Shapes
with_front front read = read >>= λ x. Ok (prepend front x.0, x.1)

prepend-last : (xs : List Shape) (t : Shape) → prepend xs (more t none) ≡ shapes (xs ++ t ∷ [])
prepend-last [] t = refl
prepend-last (x ∷ xs) t = ap (more x) (prepend-last xs t)

prepend-push : (xs : List Shape) (t : Shape) (ts : Shapes) → prepend xs (more t ts) ≡ prepend (xs ++ t ∷ []) ts
prepend-push [] t ts = refl
prepend-push (x ∷ xs) t ts = ap (more x) (prepend-push xs t ts)

with_front-more : (front : List Shape) (t : Shape) (read : Read Shapes) → with_front front (read >>= λ ts. Ok (more t ts.0, ts.1)) ≡ with_front (front ++ t ∷ []) read
with_front-more front t (Ok x) = ap (λ (ts : Shapes). Ok (ts, x.1)) (prepend-push front t x.0)
with_front-more front t (Err e) = refl

with_front-none : (read : Read Shapes) → with_front [] read ≡ read
with_front-none (Ok x) = refl
with_front-none (Err e) = refl

-- fewer than n parts are left, and with those before them they are all
abbrev pub IsLeft : (List ℕ → Read Shape) → ℕ → List Shape → List ℕ → Read Shapes → Type 0
IsLeft inner total front rest known = (n : ℕ) × (length rest < n) × (with_front front (parts inner total n rest) ≡ known)

module _ (inner : List ℕ → Read Shape) (total : ℕ) where
  pub starts : (bytes : List ℕ) → IsLeft inner total [] bytes (all_parts inner total bytes)
  unfolding all_parts
  starts bytes = (suc (length bytes), omega arith, with_front-none (parts inner total (suc (length bytes)) bytes))

  module _ (front : List Shape) (rest : List ℕ) (known : Read Shapes) where
    fails_at : (n : ℕ) (e : End TypeFault) → length rest < n → with_front front (parts inner total n rest) ≡ known → Fails e (inner rest) → Fails e known
    fails_at zero e lt so_far h = absurd (omega arith)
    fails_at (suc n) ends.Memory lt so_far h = tt
    fails_at (suc n) (ends.Fault f) lt so_far h = sym so_far ∙ rw h refl

    -- a part that isn't read
    pub fails : (e : End TypeFault) → IsLeft inner total front rest known → Fails e (inner rest) → Fails e known
    fails e left h = fails_at left.0 e left.1 left.2 h

    module _ (t : Shape) (after : List ℕ) (is_read : inner rest ≡ Ok (t, after)) where
      stops_at : (n : ℕ) (e : End TypeFault) → length rest < n → with_front front (parts inner total n rest) ≡ known → Fails e (separator total after) → Fails e known
      stops_at zero e lt so_far h = absurd (omega arith)
      stops_at (suc n) ends.Memory lt so_far h = tt
      stops_at (suc n) (ends.Fault f) lt so_far h = sym so_far ∙ rw (is_read, h) refl

      -- a part that nothing of what may follow comes behind
      pub stops : (e : End TypeFault) → IsLeft inner total front rest known → Fails e (separator total after) → Fails e known
      stops e left h = stops_at left.0 e left.1 left.2 h

      closes_at : (n : ℕ) (end : List ℕ) → length rest < n → with_front front (parts inner total n rest) ≡ known → separator total after ≡ Ok (false, end) → known ≡ Ok (shapes (front ++ t ∷ []), end)
      closes_at zero end lt so_far h = absurd (omega arith)
      closes_at (suc n) end lt so_far h = sym so_far ∙ rw (is_read, h) (ap (λ (ts : Shapes). Ok (ts, end)) (prepend-last front t))

      -- the last part
      pub closes : (end : List ℕ) → IsLeft inner total front rest known → separator total after ≡ Ok (false, end) → known ≡ Ok (shapes (front ++ t ∷ []), end)
      closes end left h = closes_at left.0 end left.1 left.2 h

      module _ (shorter : length after ≤ length rest) where
        goes_on_at : (n : ℕ) (next : List ℕ) → length rest < n → with_front front (parts inner total n rest) ≡ known → separator total after ≡ Ok (true, next) → IsLeft inner total (front ++ t ∷ []) next known
        goes_on_at zero next lt so_far h = absurd (omega arith)
        goes_on_at (suc n) next lt so_far h =
            let e = separator_takes total after (true, next) h in
            let one : with_front front (parts inner total (suc n) rest) ≡ with_front (front ++ t ∷ []) (parts inner total n next) = rw (is_read, h) (with_front-more front t (parts inner total n next)) in
            (n, omega (arith, ap length e), sym one ∙ so_far)

        -- another part follows
        pub goes_on : (next : List ℕ) → IsLeft inner total front rest known → separator total after ≡ Ok (true, next) → IsLeft inner total (front ++ t ∷ []) next known
        goes_on next left h = goes_on_at left.0 next left.1 left.2 h
