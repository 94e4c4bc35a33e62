-- What one more entry leaves of what is held.
use Rattle.std.specs.Prelude.{◌≡◌, ℕ, suc, ◌+◌, ◌<◌, ◌≤◌, true, false, List, [], ◌∷◌, ◌++◌, map, length, take, drop, Some, slice_index_or, refl}
use Rattle.std.proofs.Common.{sym, ap, subst, ◌∙◌, arith}
use Rattle.std.proofs.Math.Seq.{paste}
use Rattle.std.specs.List.{All}
use Rattle.std.proofs.lemmas.List.Elements.{All-push, All-weaker}
use Rattle.std.proofs.lemmas.List.{take_more_set, take-take, drop-take, length-take-le, length_push, get_or_append_left, get_or_push, get_or-take}
use Rattle.std.proofs.lemmas.Bool.Decides.{nat_tests}
use Rattle.std.proofs.lemmas.Grind.{common_steps}
use Rattle.sink.specs.Laws.{apt}
use Rattle.sink.proofs.Apt.{apt_parts}
use Rattle.world.specs.Tells.{Tell, arity, meant}
use Rattle.world.specs.Worlds.{Reading}
use Rattle.terms.specs.declared.Term.{Term}
use Rattle.terms.specs.Held.{Held, spare_of, new_term, grown_by, operands_in, looked, entered, grown, values_of, value_of}

-- The operands of each used record stand among the first so many places.
abbrev pub Among : ℕ → ℕ → List Term → Type 0
Among placed used ts = All (λ t. t.first + t.count ≤ placed) (take used ts)

-- What that says of one of the records.
pub among_at : (placed used k : ℕ) (ts : List Term) (d : Term) → Among placed used ts → k < used → used ≤ length ts → (slice_index_or ts k d).first + (slice_index_or ts k d).count ≤ placed
among_at placed used k ts d h l m =
    let P : Term → Type 0 = λ t. t.first + t.count ≤ placed in
    let b : k < length (take used ts) = let e = length-take-le used ts m in omega arith in
    subst P (get_or-take used ts k d l) (h k d b)

-- A told code has at most two operands.
pub arity_few : (code n : ℕ) → arity code ≡ Some n → n ≤ 2
arity_few code n h = grind (arith, nat_tests)

-- What a write of all of xs leaves.
module _ (ps xs : List ℕ) (at : ℕ) (room : at + length xs ≤ length ps) where
  -- the places before it stay
  paste_before : take at (paste ps at xs (length xs)) ≡ take at ps
  paste_before = grind (arith, common_steps)

  -- and there it is
  paste_there : take (length xs) (drop at (paste ps at xs (length xs))) ≡ xs
  paste_there = grind (arith, common_steps)

-- Values of records in turn.
module _ {V : Type 0} (q : Reading V) where
  -- one more record gives one more value
  grown-push : (places : List ℕ) (vs : List V) (ts : List Term) (t : Term) → grown q places vs (ts ++ (t ∷ [])) ≡ grown q places vs ts ++ (entered q places (grown q places vs ts) t ∷ [])
  grown-push places vs [] t = refl
  grown-push places vs (u ∷ ts) t = grown-push places (vs ++ (entered q places vs u ∷ [])) ts t

  -- there are as many values as records
  length-grown : (places : List ℕ) (vs : List V) (ts : List Term) → length (grown q places vs ts) ≡ length vs + length ts
  length-grown places vs [] = omega arith
  length-grown places vs (u ∷ ts) = let h = length-grown places (vs ++ (entered q places vs u ∷ [])) ts in let k = length_push vs (entered q places vs u) in omega arith

  -- only the places that the records use matter
  grown_same : (places places' : List ℕ) (n : ℕ) → take n places ≡ take n places' → (vs : List V) (ts : List Term) → All (λ t. t.first + t.count ≤ n) ts → grown q places' vs ts ≡ grown q places vs ts
  grown_same places places' n same vs [] a = refl
  grown_same places places' n same vs (u ∷ ts) a =
      let e : entered q places' vs u ≡ entered q places vs u = ap (λ ks. meant q u.code u.argument (map (looked q vs) ks)) (operands_same places places' n same u (a 0 u (omega arith))) in
      ap (λ v. grown q places' (vs ++ (v ∷ [])) ts) e ∙ grown_same places places' n same (vs ++ (entered q places vs u ∷ [])) ts (λ k d l. a (suc k) d (omega arith))
    where
      operands_same : (places places' : List ℕ) (n : ℕ) → take n places ≡ take n places' → (t : Term) → t.first + t.count ≤ n → operands_in places' t ≡ operands_in places t
      operands_same places places' n same t h =
          let a = t.first + t.count in
          sym (drop-take t.first t.count places') ∙ ap (drop t.first) (sym (take-take a n places' h) ∙ ap (take a) (sym same) ∙ take-take a n places h) ∙ drop-take t.first t.count places

-- What every term list keeps of what it holds.
pub record Sound (h : Held) : Type 0 where
  pub fit : h.used ≤ length h.records
  pub room : h.placed ≤ length h.places
  pub operands : Among h.placed h.used h.records

-- One more entry, where there is spare for it.
module _ (t : Tell) (h : Held) (on : Sound h) (suits : apt h.used t ≡ true) (spare : 0 < spare_of h) where
  -- there are a record and places for it
  pub roomy : (h.used < length h.records) × (h.placed + length t.operands ≤ length h.places) × (length t.operands ≤ 2)
  roomy =
      let n = arity_few t.code (length t.operands) (apt_parts h.used t suits).0 in
      (omega arith, omega arith, n)

  -- the records in use are those before and its own
  records_more : take (h.used + 1) (grown_by t h).records ≡ take h.used h.records ++ (new_term t h ∷ [])
  records_more = take_more_set h.records h.used (new_term t h) roomy.0

  -- the spare falls by at most one
  pub falls_one : spare_of h ≤ spare_of (grown_by t h) + 1
  falls_one = let r = roomy in grind (arith, common_steps)

  -- its operands stand among the places
  pub among_more : Among (grown_by t h).placed (h.used + 1) (grown_by t h).records
  among_more =
      let P : Term → Type 0 = λ u. u.first + u.count ≤ h.placed + length t.operands in
      let old : All P (take h.used h.records) = All-weaker (λ u. u.first + u.count ≤ h.placed) P (λ u b. omega arith) (take h.used h.records) on.operands in
      let new : P (new_term t h) = omega arith in
      subst (All P) (sym records_more) (All-push P (take h.used h.records) (new_term t h) old new)

  module _ {V : Type 0} (q : Reading V) where
    -- there is a value for each entry
    length-values : length (values_of h q) ≡ h.used
    length-values = let f = on.fit in grind (arith, common_steps, length-grown q h.places [] (take h.used h.records))

    -- all values are those before and its own
    values_more : values_of (grown_by t h) q ≡ values_of h q ++ (entered q (grown_by t h).places (values_of h q) (new_term t h) ∷ [])
    values_more =
        let ts = take h.used h.records in
        let p = (grown_by t h).places in
        let before : take h.placed h.places ≡ take h.placed p = sym (paste_before h.places t.operands h.placed roomy.1) in
        ap (grown q p []) records_more ∙ grown-push q p [] ts (new_term t h)
        ∙ ap (λ (vs : List V). vs ++ (entered q p vs (new_term t h) ∷ [])) (grown_same q h.places p h.placed before [] ts on.operands)

    -- its value is the reading's for the tell
    pub new_value : value_of (grown_by t h) q h.used ≡ meant q t.code t.argument (map (value_of h q) t.operands)
    new_value =
        let x = entered q (grown_by t h).places (values_of h q) (new_term t h) in
        ap (λ (vs : List V). looked q vs h.used) values_more ∙ get_or_push (values_of h q) x (q.world.truth false) h.used length-values
        ∙ ap (λ (ks : List ℕ). meant q t.code t.argument (map (value_of h q) ks)) (paste_there h.places t.operands h.placed roomy.1)

    -- older values stay
    pub old_value : (k : ℕ) → k < h.used → value_of (grown_by t h) q k ≡ value_of h q k
    old_value k b =
        let x = entered q (grown_by t h).places (values_of h q) (new_term t h) in
        let l : k < length (values_of h q) = let e = length-values in omega arith in
        ap (λ (vs : List V). looked q vs k) values_more ∙ get_or_append_left (values_of h q) (x ∷ []) (q.world.truth false) k l
