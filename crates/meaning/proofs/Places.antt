-- What the layout of a routine says of each block, and what the list of formulas holds at each.
use Rattle.std.proofs.Common.{◌≡◌, ℕ, zero, suc, ◌+◌, ◌<◌, Bool, true, false, cond, ◌||◌, eqb, List, [], ◌∷◌, length, get_or, drop, sym, refl, ap, ◌∙◌, le_of_suc-le-suc, not-suc-le-zero, add-zero, add-suc, suc-add, zero-add, arith, drop-cons}
use Rattle.std.proofs.lemmas.Bool.{false≢true, eq-eqb, or_left, or_right}
use Rattle.world.specs.Worlds.{Reading}
use Rattle.meaning.specs.Lists.{In, here, later}
use Rattle.meaning.specs.Routine.{Block, Routine, no_block, block, variables}
use Rattle.meaning.specs.Telling.{Placed, member, places, layout, nowhere, place, symbols_at}
use Rattle.meaning.proofs.Passes.{block_formula, formulas}

places_block : (r : Routine) (bs : List Block) (m : ℕ → Bool) (n k : ℕ) (j : ℕ) → (get_or (places r m n k bs) j nowhere).block ≡ get_or bs j no_block
places_block r [] m n k j = refl
places_block r (b ∷ bs) m n k zero = refl
places_block r (b ∷ bs) m n k (suc j) = places_block r bs _ _ (suc k) j

-- The block at place k is block k.
pub place_block : (r : Routine) (k : ℕ) → (place r k).block ≡ block r k
place_block r k = places_block r r.blocks _ 0 0 k

places-length : (r : Routine) (bs : List Block) (m : ℕ → Bool) (n k : ℕ) → length (places r m n k bs) ≡ length bs
places-length r [] m n k = refl
places-length r (b ∷ bs) m n k = ap suc (places-length r bs _ _ (suc k))

-- Every block has a place.
pub layout-length : (r : Routine) → length (layout r) ≡ length r.blocks
layout-length r = places-length r r.blocks _ 0 0

still_marked : (b : Bool) (n : ℕ) (a c : ℕ → Bool) → a n ≡ true → cond b (λ t. a t || c t) a n ≡ true
still_marked true n a c h = rw h
still_marked false n a c h = h

now_marked : (b : Bool) (n : ℕ) (a c : ℕ → Bool) → b ≡ true → c n ≡ true → cond b (λ t. a t || c t) a n ≡ true
now_marked true n a c e h = or_right (a n) (c n) h
now_marked false n a c e h = absurd (false≢true e)

member_in : (t : ℕ) (ts : List ℕ) → In t ts → member t ts ≡ true
member_in t [] x = elim x [ ]
member_in t (u ∷ ts) here = or_left (eqb t t) (member t ts) (eq-eqb t t refl)
member_in t (u ∷ ts) (later h) = or_right (eqb t u) (member t ts) (member_in t ts h)

places_marked : (r : Routine) (bs : List Block) (m : ℕ → Bool) (n k : ℕ) (j : ℕ) → j < length bs → m (k + j) ≡ true → (get_or (places r m n k bs) j nowhere).reached ≡ true
places_marked r [] m n k j h e = absurd (not-suc-le-zero h)
places_marked r (b ∷ bs) m n k zero h e = rw add-zero at e
places_marked r (b ∷ bs) m n k (suc j) h e = places_marked r bs _ _ (suc k) j (le_of_suc-le-suc h) (still_marked (m k) (suc k + j) m (λ t. member t b.targets) (rw (add-suc k j ∙ sym (suc-add k j)) at e))

places_reached : (r : Routine) (bs : List Block) (m : ℕ → Bool) (n k : ℕ) (i t : ℕ) → i < t → t < length bs → (get_or (places r m n k bs) i nowhere).reached ≡ true → In (k + t) (get_or bs i no_block).targets → (get_or (places r m n k bs) t nowhere).reached ≡ true
places_reached r [] m n k i t l h e x = absurd (not-suc-le-zero h)
places_reached r (b ∷ bs) m n k zero zero l h e x = absurd (not-suc-le-zero l)
places_reached r (b ∷ bs) m n k (suc i) zero l h e x = absurd (not-suc-le-zero l)
places_reached r (b ∷ bs) m n k zero (suc t) l h e x = places_marked r bs _ _ (suc k) t (le_of_suc-le-suc h) (now_marked (m k) (suc k + t) m (λ u. member u b.targets) e (member_in (suc k + t) b.targets (rw (add-suc k t ∙ sym (suc-add k t)) at x)))
places_reached r (b ∷ bs) m n k (suc i) (suc t) l h e x = places_reached r bs _ _ (suc k) i t (le_of_suc-le-suc l) (le_of_suc-le-suc h) e (rw (add-suc k t ∙ sym (suc-add k t)) at x)

-- A target of a reached block is reached.
pub target_reached : (r : Routine) (k t : ℕ) → k < t → t < length r.blocks → (place r k).reached ≡ true → In t (block r k).targets → (place r t).reached ≡ true
target_reached r k t l h e x = places_reached r r.blocks _ 0 0 k t l h e (rw zero-add x)

-- The first block is reached.
pub first_reached : (r : Routine) → zero < length r.blocks → (place r 0).reached ≡ true
first_reached r h = places_marked r r.blocks _ 0 0 0 h refl

places_first : (r : Routine) (bs : List Block) (m : ℕ → Bool) → (get_or (places r m 0 0 bs) 0 nowhere).first ≡ 0
places_first r [] m = refl
places_first r (b ∷ bs) m = refl

-- Its symbols are the first ones.
pub first_zero : (r : Routine) → (place r 0).first ≡ 0
first_zero r = places_first r r.blocks _

-- A reached block is one of the blocks.
pub reached_below : (l : List Placed) (j : ℕ) → (get_or l j nowhere).reached ≡ true → j < length l
reached_below [] j e = absurd (false≢true e)
reached_below (b ∷ l) zero e = omega arith
reached_below (b ∷ l) (suc j) e = let h = reached_below l j e in omega arith

-- The formula at each place of the list.
pub formulas_at : {V : Type 0} (q : Reading V) (r : Routine) (start : List V) (l : List Placed) (j k : ℕ) → k + j < length l
    → get_or (formulas q r start k (drop k l)) j true
    ≡ block_formula q r start (suc (k + j)) (drop (suc (k + j)) l) (formulas q r start (suc (k + j)) (drop (suc (k + j)) l)) (get_or l (k + j) nowhere) (symbols_at q (get_or l (k + j) nowhere).first (length (variables r)))
unfolding formulas
formulas_at q r start l zero k h = rw add-zero (rw (drop-cons l k nowhere (omega arith)))
formulas_at q r start l (suc j) k h = rw (drop-cons l k nowhere (omega arith)) (rw (add-suc k j ∙ sym (suc-add k j)) (formulas_at q r start l j (suc k) (omega arith)))
