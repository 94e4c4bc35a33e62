-- A small logic of tellings: what is known of the tells after one.
use Rattle.std.proofs.Common.{◌≡◌, ℕ, ◌<◌, List, [], ◌∷◌, map, length, Some, refl, arith}
use Rattle.std.specs.List.{AllByRecursion}
use Rattle.std.proofs.lemmas.Bool.{eq-eqb, ne_eqb}
use Rattle.language.specs.Lists.{Alike}
use Rattle.world.specs.Worlds.{Reading}
use Rattle.world.specs.Tells.{Tell, arity, meant, Binds}
use Rattle.meaning.specs.Telling.{Telling, answer, ◌>>=◌, tell, told_value, Lawful}

-- The second tells are the first and others after them.
pub data Extends (s : List Tell) : List Tell → Type 0 where
  unchanged : Extends s s
  extended : {s' : List Tell} (t : Tell) → Extends s s' → Extends s (t ∷ s')

-- One extension after another.
pub ext_trans : {a b c : List Tell} → Extends a b → Extends b c → Extends a c
ext_trans x unchanged = x
ext_trans x (extended t y) = extended t (ext_trans x y)

module _ {V : Type 0} (q : Reading V) where
  -- Number e is a tell of the value v.
  pub record Knows (v : V) (s : List Tell) (e : ℕ) : Type 0 where
    pub entry : e < length s
    pub value : told_value q s e ≡ v

  -- These numbers are tells of these values.
  abbrev pub KnowsAll : List V → List Tell → List ℕ → Type 0
  KnowsAll vs s es = Alike (λ e v. Knows v s e) es vs

  -- From the tells s the telling m only adds tells, keeps them lawful, and ends with Q.
  pub record Ok {A : Type 0} (s : List Tell) (m : Telling A) (Q : List Tell → A → Type 0) : Type 0 where
    pub grows : Extends s (m s).1
    pub lawful : Lawful q s → Lawful q (m s).1
    pub post : Q (m s).1 (m s).0

module _ {V : Type 0} {q : Reading V} where
  -- What is known stays known.
  pub knows_ext : {s s' : List Tell} {e : ℕ} {v : V} → Extends s s' → Knows q v s e → Knows q v s' e
  knows_ext unchanged k = k
  knows_ext {e = e} (extended {s'} t x) k =
      let h = knows_ext x k in
      let l : e < length s' = h.entry in
      record { entry = omega arith; value = rw (ne_eqb e (length s') (λ z. omega arith)) h.value }

  -- An answer.
  pub ok_answer : {A : Type 0} {s : List Tell} {Q : List Tell → A → Type 0} (a : A) → Q s a → Ok q s (answer a) Q
  unfolding answer
  ok_answer a h = record { grows = unchanged; lawful = λ l. l; post = h }

  -- One telling after another.
  pub ok_bind : {A B : Type 0} {s : List Tell} {m : Telling A} {f : A → Telling B} {P : List Tell → A → Type 0} {Q : List Tell → B → Type 0} → Ok q s m P → ((a : A) (s' : List Tell) → Extends s s' → P s' a → Ok q s' (f a) Q) → Ok q s (m >>= f) Q
  unfolding ◌>>=◌
  ok_bind {s = s} {m = m} x k =
      let y = k (m s).0 (m s).1 x.grows x.post in
      record { grows = ext_trans x.grows y.grows; lawful = λ l. y.lawful (x.lawful l); post = y.post }

  -- A weaker end.
  pub ok_weaken : {A : Type 0} {s : List Tell} {m : Telling A} {P : List Tell → A → Type 0} {Q : List Tell → A → Type 0} → Ok q s m P → ((a : A) (s' : List Tell) → P s' a → Q s' a) → Ok q s m Q
  ok_weaken {s = s} {m = m} x k = record { grows = x.grows; lawful = x.lawful; post = k (m s).0 (m s).1 x.post }

module _ {V : Type 0} (q : Reading V) where
  -- Of several too.
  pub all_ext : {s s' : List Tell} (es : List ℕ) (vs : List V) → Extends s s' → KnowsAll q vs s es → KnowsAll q vs s' es
  all_ext [] [] x h = tt
  all_ext [] (v ∷ vs) x h = absurd h
  all_ext (e ∷ es) [] x h = absurd h
  all_ext (e ∷ es) (v ∷ vs) x h = (knows_ext x h.0, all_ext es vs x h.1)

  known_values : (s : List Tell) (es : List ℕ) (vs : List V) → KnowsAll q vs s es → map (told_value q s) es ≡ vs
  known_values s [] [] h = refl
  known_values s [] (v ∷ vs) h = absurd h
  known_values s (e ∷ es) [] h = absurd h
  known_values s (e ∷ es) (v ∷ vs) h = rw (h.0.value, known_values s es vs h.1)

  known_earlier : (s : List Tell) (es : List ℕ) (vs : List V) → KnowsAll q vs s es → AllByRecursion (λ e. e < length s) es
  known_earlier s [] vs h = tt
  known_earlier s (e ∷ es) [] h = absurd h
  known_earlier s (e ∷ es) (v ∷ vs) h = (h.0.entry, known_earlier s es vs h.1)

  -- One tell, which the reading binds.
  pub ok_tell : {s : List Tell} (c a : ℕ) (es : List ℕ) (vs : List V) → arity c ≡ Some (length es) → KnowsAll q vs s es → Binds q c vs → Ok q s (tell c a es) (Knows q (meant q c a vs))
  unfolding tell
  ok_tell {s} c a es vs n h b =
      record {
        grows = extended _ unchanged;
        lawful = λ l. (record { earlier = known_earlier s es vs h; count = n; binds = rw (known_values s es vs h) b }, l);
        post = record { entry = omega arith; value = rw (eq-eqb (length s) (length s) refl, known_values s es vs h) };
      }
