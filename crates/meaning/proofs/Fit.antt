-- A reading that fits, block by block.
use Rattle.std.proofs.Common.{◌≡◌, ℕ, zero, suc, ◌+◌, Bool, true, false, cond, ◌||◌, List, [], ◌∷◌, ◌++◌, length, get_or}
use Rattle.std.proofs.lemmas.Bool.{false≢true}
use Rattle.language.specs.declared.ValueType.{ValueType}
use Rattle.world.specs.Worlds.{Reading, OfTypes}
use Rattle.meaning.specs.Routine.{Block, Routine, variables}
use Rattle.meaning.specs.Telling.{takes, Placed, member, places, nowhere, place, symbols_at, symbol_types, Fits}
use Rattle.meaning.proofs.Alikes.{counted_left, counted_right}

-- The reading fits one block.
abbrev pub FitsPlaced : {V : Type 0} → Reading V → Routine → Placed → Type 0
FitsPlaced q r b = b.reached ≡ true → OfTypes q.world (variables r ++ takes r b.block.commands) (symbols_at q b.first (length (variables r ++ takes r b.block.commands)))

-- The reading fits each block.
abbrev pub FitsEach : {V : Type 0} → Reading V → Routine → Type 0
FitsEach q r = (k : ℕ) → FitsPlaced q r (place r k)

fits_places : {V : Type 0} (q : Reading V) (r : Routine) (bs : List Block) (m : ℕ → Bool) (n k : ℕ) → OfTypes q.world (symbol_types r (places r m n k bs)) (symbols_at q n (length (symbol_types r (places r m n k bs)))) → (j : ℕ) → FitsPlaced q r (get_or (places r m n k bs) j nowhere)
fits_places q r [] m n k h j re = absurd (false≢true re)
fits_places {V} q r (b ∷ bs) m n k h zero re = go (m k) re h
  where
    rest : Bool → List ValueType
    rest c = symbol_types r (places r (cond c (λ t. m t || member t b.targets) m) (cond c (n + length (variables r ++ takes r b.commands)) n) (suc k) bs)

    go : (c : Bool) → c ≡ true → OfTypes q.world (cond c (variables r ++ takes r b.commands) [] ++ rest c) (symbols_at q n (length (cond c (variables r ++ takes r b.commands) [] ++ rest c))) → OfTypes q.world (variables r ++ takes r b.commands) (symbols_at q n (length (variables r ++ takes r b.commands)))
    go true e h = counted_left _ _ n (variables r ++ takes r b.commands) (rest true) h
    go false e h = absurd (false≢true e)
fits_places {V} q r (b ∷ bs) m n k h (suc j) re = fits_places q r bs _ _ (suc k) (go (m k) h) j re
  where
    rest : Bool → List ValueType
    rest c = symbol_types r (places r (cond c (λ t. m t || member t b.targets) m) (cond c (n + length (variables r ++ takes r b.commands)) n) (suc k) bs)

    go : (c : Bool) → OfTypes q.world (cond c (variables r ++ takes r b.commands) [] ++ rest c) (symbols_at q n (length (cond c (variables r ++ takes r b.commands) [] ++ rest c)))
        → OfTypes q.world (rest c) (symbols_at q (cond c (n + length (variables r ++ takes r b.commands)) n) (length (rest c)))
    go true h = counted_right _ _ n (variables r ++ takes r b.commands) (rest true) h
    go false h = h

-- One that fits the routine fits each block.
pub fits_each : {V : Type 0} (q : Reading V) (r : Routine) → Fits q r → FitsEach q r
fits_each q r h = fits_places q r r.blocks _ 0 0 h
