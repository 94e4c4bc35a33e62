-- The list laws of the holder.
use Rattle.std.proofs.Common.{◌≡◌, ℕ, ◌+◌, ◌-◌, ◌<◌, ◌≤◌, min, List, [], ◌∷◌, reverse, length, get_or, take, set, sym, ap, ◌∙◌, inl, inr, arith}
use Rattle.std.proofs.lemmas.Bool.{cases_lt}
use Rattle.holder.specs.Stack.{Holding, room, waits}
use Rattle.std.proofs.lemmas.List.{get_or-take, take_more, take_more_set, take_all, reverse-append, length-reverse, length-take}

module _ {A : Type 0} (xs : List A) where
  -- One value more waits in front.
  pub waits-push : (i : ℕ) (x : A) → i < length xs → reverse (take (i + 1) (set xs i x)) ≡ x ∷ reverse (take i xs)
  waits-push i x h = ap reverse (take_more_set xs i x h) ∙ reverse-append (take i xs) (x ∷ [])

  within : (used : ℕ) → take used xs ≡ take (min used (length xs)) xs
  within used =
      elim (cases_lt used (length xs)) [
        | inl h ↦ let e : min used (length xs) ≡ used = omega arith in ap (λ n. take n xs) (sym e)
        | inr h ↦ let l : length xs ≤ min used (length xs) = omega arith in take_all used xs h ∙ sym (take_all (min used (length xs)) xs l)
      ]

  pub waits_none : (used count : ℕ) → count ≡ min used (length xs) → count ≡ 0 → reverse (take used xs) ≡ []
  waits_none used count e z = ap reverse (within used ∙ ap (λ n. take n xs) (sym e ∙ z))

  pub waits-pop : (used count : ℕ) (d : A) → count ≡ min used (length xs) → 0 < count → reverse (take used xs) ≡ get_or xs (count - 1) d ∷ reverse (take (count - 1) xs)
  waits-pop used count d e p =
      let more : count ≡ (count - 1) + 1 = omega arith in
      let in' : count - 1 < length xs = omega arith in
      ap reverse (within used ∙ ap (λ n. take n xs) (sym e ∙ more) ∙ take_more xs (count - 1) d in') ∙ reverse-append (take (count - 1) xs) (get_or xs (count - 1) d ∷ [])

  pub length-waits : (used : ℕ) → length (reverse (take used xs)) ≡ min used (length xs)
  length-waits used = length-reverse (take used xs) ∙ length-take used xs

  -- The value that came last waits in front.
  pub last_waits : (used : ℕ) (d : A) → 0 < length (take used xs)
      → reverse (take used xs) ≡ get_or (take used xs) (length (take used xs) - 1) d ∷ reverse (take (length (take used xs) - 1) xs)
  last_waits used d p =
      let n = length (take used xs) in
      let e : n ≡ min used (length xs) = length-take used xs in
      let l : n - 1 < used = omega (arith, e, p) in
      waits-pop used n d e p ∙ ap (λ x. x ∷ reverse (take (n - 1) xs)) (sym (get_or-take used xs (n - 1) d l))

-- After a value was taken out there is room for one.
pub taken_out : {A : Type 0} (h g : Holding A) (x : A) (n : ℕ) → waits h ≡ x ∷ waits g → room h ≡ n → length (waits g) < n
taken_out h g x n e r = let l = length-waits h.places h.used in let m = ap length e in omega (arith, l, m, r)
