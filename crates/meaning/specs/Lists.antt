-- Words on lists that the other files share.
use Rattle.std.specs.Prelude.{ℕ, zero, suc, List, [], ◌∷◌, slice_set}

-- The list with the given places set, one after another, to the given values, while both last.
abbrev pub put : {A : Type 0} → List A → List ℕ → List A → List A
put s [] vs = s
put s (x ∷ xs) [] = s
put s (x ∷ xs) (v ∷ vs) = put (slice_set s x v) xs vs

-- f n, f (n + 1) and so on, m of them.
abbrev pub counted : {A : Type 0} → (ℕ → A) → ℕ → ℕ → List A
counted f n zero = []
counted f n (suc m) = f n ∷ counted f (suc n) m

-- x is an element of the list.
pub data In {A : Type 0} (x : A) : List A → Type 0 where
  here : {xs : List A} → In x (x ∷ xs)
  later : {y : A} {xs : List A} → In x xs → In x (y ∷ xs)
