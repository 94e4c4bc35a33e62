-- Lists that are alike, place by place, and lists that are counted or dropped.
use Rattle.std.proofs.Common.{◌≡◌, ℕ, zero, suc, ◌+◌, ◌<◌, List, [], ◌∷◌, ◌++◌, length, get_or, take, drop, set, Some, sym, refl, ap, ◌∙◌, le_of_suc-le-suc, not-suc-le-zero, add-zero, add-suc, suc-add, arith}
use Rattle.std.specs.List.{slice_get}
use Rattle.std.proofs.lemmas.List.{length-drop, get_or-drop}
use Rattle.std.proofs.lemmas.Option.{none-some}
use Rattle.std.proofs.lemmas.Slice.Zip.{AllZip-long}
use Rattle.language.specs.Lists.{Alike}
use Rattle.meaning.specs.Lists.{put, counted}

module _ {A B : Type 0} (R : A → B → Type 0) where
  -- What stands at a place that the first list has.
  pub alike_at : (xs : List A) (ys : List B) (n : ℕ) (a : A) (d : B) → Alike R xs ys → slice_get xs n ≡ Some a → R a (get_or ys n d)
  alike_at [] ys n a d h e = absurd (none-some _ e)
  alike_at (x ∷ xs) [] n a d h e = absurd h
  alike_at (x ∷ xs) (y ∷ ys) zero a d h e = let same : x ≡ a = cc in rw (← same) h.0
  alike_at (x ∷ xs) (y ∷ ys) (suc n) a d h e = alike_at xs ys n a d h.1 e

  -- One place set in the second list.
  pub alike_set : (xs : List A) (ys : List B) (n : ℕ) (a : A) (b : B) → Alike R xs ys → slice_get xs n ≡ Some a → R a b → Alike R xs (set ys n b)
  alike_set [] ys n a b h e k = absurd (none-some _ e)
  alike_set (x ∷ xs) [] n a b h e k = absurd h
  alike_set (x ∷ xs) (y ∷ ys) zero a b h e k = let same : x ≡ a = cc in (rw same k, h.1)
  alike_set (x ∷ xs) (y ∷ ys) (suc n) a b h e k = (h.0, alike_set xs ys n a b h.1 e k)

  -- Several places set in the second list.
  pub alike-put : (xs : List A) (ys : List B) (ns : List ℕ) (us : List A) (bs : List B) → Alike R xs ys → Alike (λ n a. slice_get xs n ≡ Some a) ns us → Alike R us bs → Alike R xs (put ys ns bs)
  alike-put xs ys [] us bs h e k = h
  alike-put xs ys (n ∷ ns) [] bs h e k = absurd e
  alike-put xs ys (n ∷ ns) (a ∷ us) [] h e k = h
  alike-put xs ys (n ∷ ns) (a ∷ us) (b ∷ bs) h e k = alike-put xs (set ys n b) ns us bs (alike_set xs ys n a b h e.0 k.0) e.1 k.1

  -- One pair of lists after another.
  pub alike-append : (xs xs' : List A) (ys ys' : List B) → Alike R xs ys → Alike R xs' ys' → Alike R (xs ++ xs') (ys ++ ys')
  alike-append [] xs' [] ys' h k = k
  alike-append [] xs' (y ∷ ys) ys' h k = absurd h
  alike-append (x ∷ xs) xs' [] ys' h k = absurd h
  alike-append (x ∷ xs) xs' (y ∷ ys) ys' h k = (h.0, alike-append xs xs' ys ys' h.1 k)

  -- The front of the second list, as long as a front of the first.
  pub alike-take : (xs xs' : List A) (ys : List B) → Alike R (xs ++ xs') ys → Alike R xs (take (length xs) ys)
  alike-take [] xs' ys h = tt
  alike-take (x ∷ xs) xs' [] h = absurd h
  alike-take (x ∷ xs) xs' (y ∷ ys) h = (h.0, alike-take xs xs' ys h.1)

  -- They are of one length.
  pub alike-length : (xs : List A) (ys : List B) → Alike R xs ys → length xs ≡ length ys
  alike-length xs ys h = sym (AllZip-long R xs ys h)

  -- The first part of a counted list.
  pub counted_left : (f : ℕ → B) (n : ℕ) (xs ys : List A) → Alike R (xs ++ ys) (counted f n (length (xs ++ ys))) → Alike R xs (counted f n (length xs))
  counted_left f n [] ys h = tt
  counted_left f n (x ∷ xs) ys h = (h.0, counted_left f (suc n) xs ys h.1)

  -- Its second part.
  pub counted_right : (f : ℕ → B) (n : ℕ) (xs ys : List A) → Alike R (xs ++ ys) (counted f n (length (xs ++ ys))) → Alike R ys (counted f (n + length xs) (length ys))
  counted_right f n [] ys h = rw add-zero h
  counted_right f n (x ∷ xs) ys h = rw (add-suc n (length xs)) (rw (← suc-add n (length xs)) (counted_right f (suc n) xs ys h.1))

  -- One place set in both lists.
  pub both-set : (xs : List A) (ys : List B) (n : ℕ) (a : A) (b : B) → Alike R xs ys → R a b → Alike R (set xs n a) (set ys n b)
  both-set [] [] n a b h k = tt
  both-set [] (y ∷ ys) n a b h k = absurd h
  both-set (x ∷ xs) [] n a b h k = absurd h
  both-set (x ∷ xs) (y ∷ ys) zero a b h k = (k, h.1)
  both-set (x ∷ xs) (y ∷ ys) (suc n) a b h k = (h.0, both-set xs ys n a b h.1 k)

  -- Several places set in both.
  pub both-put : (ns : List ℕ) (xs : List A) (ys : List B) (us : List A) (vs : List B) → Alike R xs ys → Alike R us vs → Alike R (put xs ns us) (put ys ns vs)
  both-put [] xs ys us vs h k = h
  both-put (n ∷ ns) xs ys [] [] h k = h
  both-put (n ∷ ns) xs ys [] (v ∷ vs) h k = absurd k
  both-put (n ∷ ns) xs ys (u ∷ us) [] h k = absurd k
  both-put (n ∷ ns) xs ys (u ∷ us) (v ∷ vs) h k = both-put ns (set xs n u) (set ys n v) us vs (both-set xs ys n u v h k.0) k.1

  -- A front of both.
  pub both-take : (n : ℕ) (xs : List A) (ys : List B) → Alike R xs ys → Alike R (take n xs) (take n ys)
  both-take zero xs ys h = tt
  both-take (suc n) [] [] h = tt
  both-take (suc n) [] (y ∷ ys) h = absurd h
  both-take (suc n) (x ∷ xs) [] h = absurd h
  both-take (suc n) (x ∷ xs) (y ∷ ys) h = (h.0, both-take n xs ys h.1)

  -- What stands in both at a place.
  pub both_at : (xs : List A) (ys : List B) (n : ℕ) (a : A) (b : B) → Alike R xs ys → n < length ys → R (get_or xs n a) (get_or ys n b)
  both_at [] [] n a b h l = absurd (not-suc-le-zero l)
  both_at [] (y ∷ ys) n a b h l = absurd h
  both_at (x ∷ xs) [] n a b h l = absurd h
  both_at (x ∷ xs) (y ∷ ys) zero a b h l = h.0
  both_at (x ∷ xs) (y ∷ ys) (suc n) a b h l = both_at xs ys n a b h.1 (le_of_suc-le-suc l)

-- How long a counted list is.
pub length-counted : {A : Type 0} (f : ℕ → A) (n m : ℕ) → length (counted f n m) ≡ m
length-counted f n zero = refl
length-counted f n (suc m) = ap suc (length-counted f (suc n) m)

-- What is left after one more is dropped.
pub drop_next : {A : Type 0} (k : ℕ) (l : List A) (x : A) (xs : List A) → drop k l ≡ x ∷ xs → drop (suc k) l ≡ xs
drop_next zero [] x xs e = cc
drop_next zero (y ∷ l) x xs e = cc
drop_next (suc k) [] x xs e = cc
drop_next (suc k) (y ∷ l) x xs e = drop_next k l x xs e

-- Where something is left, the list is longer.
pub drop_some : {A : Type 0} (k : ℕ) (l : List A) (x : A) (xs : List A) → drop k l ≡ x ∷ xs → k < length l
drop_some k l x xs e = omega (arith, length-drop k l, ap length e)

-- The first that is left is the one at that place.
pub drop_first : {A : Type 0} (k : ℕ) (l : List A) (x : A) (xs : List A) (d : A) → drop k l ≡ x ∷ xs → get_or l k d ≡ x
drop_first k l x xs d e = sym (ap (λ n. get_or l n d) (add-zero k)) ∙ sym (get_or-drop k l 0 d) ∙ ap (λ m. get_or m 0 d) e
