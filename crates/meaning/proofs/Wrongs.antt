-- A run that goes wrong makes the formula false, in each reading that shows it.
use Rattle.std.proofs.Common.{◌≡◌, ℕ, suc, ◌+◌, ◌-◌, ◌<◌, Bool, true, false, List, [], ◌∷◌, ◌++◌, map, length, get_or, drop, set, sym, refl, ap, ◌∙◌, subst, arith}
use Rattle.std.proofs.Math.Bool.{and-false}
use Rattle.std.proofs.lemmas.List.{append-nil, append_assoc, length-map, get_or-drop}
use Rattle.world.specs.Worlds.{World, Reading}
use Rattle.meaning.specs.Lists.{In, here, later}
use Rattle.meaning.specs.Routine.{Command, Block, Routine, block, procedure, variables, modified_types, value, values, TargetsLater, Sound}
use Rattle.meaning.specs.Runs.{wrong, Tested, none_left, this_false, this_true, Run, assigns, asserts, asserts_false, assumes, havocs, calls, calls_false, goes, returns_false}
use Rattle.meaning.specs.Telling.{Check, tested, assumed, Placed, layout, nowhere, place, symbols_at}
use Rattle.meaning.specs.Promise.{Shows}
use Rattle.meaning.proofs.Alikes.{alike-length}
use Rattle.meaning.proofs.Passes.{holds, after, linked, joined, own_checks, rest_formula, block_formula, formulas}
use Rattle.meaning.proofs.Places.{place_block, layout-length, formulas_at}

module _ {V : Type 0} (w : World V) where
  -- A true value holds.
  pub holds_true : (v : V) → v ≡ w.truth true → holds w v ≡ true
  holds_true v e = rw e (w.same_self (w.truth true))

  false_apart : (b : Bool) → w.same (w.truth false) (w.truth true) ≡ b → b ≡ false
  false_apart true e = sym (w.apart false true (w.same_only (w.truth false) (w.truth true) e))
  false_apart false e = refl

  -- A false one does not.
  pub holds_false : (v : V) → v ≡ w.truth false → holds w v ≡ false
  holds_false v e = rw e (false_apart (w.same (w.truth false) (w.truth true)) refl)

  -- Tested conditions that are all true leave the formula as it is.
  pub tests_pass : (vs : List V) (cs : List (Check V)) (b : Bool) → Tested w vs true → after w (map tested vs ++ cs) b ≡ after w cs b
  tests_pass [] cs b none_left = refl
  tests_pass (v ∷ vs) cs b (this_true e t) = rw (holds_true v e) (tests_pass vs cs b t)

  -- A tested condition that is false makes it false.
  pub tests_fail : (vs : List V) (cs : List (Check V)) (b : Bool) → Tested w vs false → after w (map tested vs ++ cs) b ≡ false
  tests_fail [] cs b t = elim t [ ]
  tests_fail (v ∷ vs) cs b (this_false e) = rw (holds_false v e)
  tests_fail (v ∷ vs) cs b (this_true e t) = rw (holds_true v e) (tests_fail vs cs b t)

  -- Assumed conditions that are all true leave it as it is.
  pub assumes_pass : (vs : List V) (cs : List (Check V)) (b : Bool) → Tested w vs true → after w (map assumed vs ++ cs) b ≡ after w cs b
  assumes_pass [] cs b none_left = refl
  assumes_pass (v ∷ vs) cs b (this_true e t) = rw (holds_true v e) (assumes_pass vs cs b t)

  -- So do links between equal values.
  pub links_pass : (s : List V) (b : Bool) → linked w s s b ≡ b
  links_pass [] b = refl
  links_pass (v ∷ s) b = rw (w.same_self v) (links_pass s b)

  -- The same with nothing after them.
  pub tests_fail_last : (vs : List V) (b : Bool) → Tested w vs false → after w (map tested vs) b ≡ false
  tests_fail_last vs b t = rw append-nil at (tests_fail vs [] b t)

  call_pass : (xs ys : List V) (cs own : List (Check V)) (b : Bool) → Tested w xs true → Tested w ys true → after w (((map tested xs ++ map assumed ys) ++ cs) ++ own) b ≡ after w (cs ++ own) b
  call_pass xs ys cs own b t u = rw (append_assoc (map tested xs ++ map assumed ys) cs own, append_assoc (map tested xs) (map assumed ys) (cs ++ own)) (tests_pass xs (map assumed ys ++ (cs ++ own)) b t ∙ assumes_pass ys (cs ++ own) b u)

  call_fail : (xs : List V) (ys cs own : List (Check V)) (b : Bool) → Tested w xs false → after w (((map tested xs ++ ys) ++ cs) ++ own) b ≡ false
  call_fail xs ys cs own b t = rw (append_assoc (map tested xs ++ ys) cs own, append_assoc (map tested xs) ys (cs ++ own)) (tests_fail xs (ys ++ (cs ++ own)) b t)

own_none : {V : Type 0} (q : Reading V) (r : Routine) (start s : List V) (t : ℕ) (ts : List ℕ) → In t ts → own_checks q r start s ts ≡ []
own_none q r start s t [] i = elim i [ ]
own_none q r start s t (u ∷ ts) i = refl

joined_false : {V : Type 0} (q : Reading V) (r : Routine) (k : ℕ) (bs : List Placed) (fs : List Bool) (s : List V) (t : ℕ) (ts : List ℕ) → In t ts
    → linked q.world (symbols_at q (get_or bs (t - k) nowhere).first (length (variables r))) s (get_or fs (t - k) true) ≡ false → joined q r k bs fs s ts ≡ false
joined_false q r k bs fs s t [] i e = elim i [ ]
joined_false q r k bs fs s t (u ∷ ts) here e = rw e
joined_false q r k bs fs s t (u ∷ ts) (later i) e = rw (joined_false q r k bs fs s t ts i e) (and-false _)

-- What is known of a target.
pub later_target : (k n t : ℕ) (ts : List ℕ) → TargetsLater k n ts → In t ts → (k < t) × (t < n)
later_target k n t [] h i = elim i [ ]
later_target k n t (u ∷ ts) h here = h.0
later_target k n t (u ∷ ts) h (later i) = later_target k n t ts h.1 i

-- The rest of block k's formula.
abbrev pub here_formula : {V : Type 0} → Reading V → Routine → List V → ℕ → ℕ → List V → List Command → Bool
here_formula q r start k n s cs = rest_formula q r start (suc k) (drop (suc k) (layout r)) (formulas q r start (suc k) (drop (suc k) (layout r))) (block r k).targets n s cs

-- Block k's formula, at its symbols.
unfoldable pub formula_of : {V : Type 0} → Reading V → Routine → List V → ℕ → Bool
formula_of q r start k = here_formula q r start k ((place r k).first + length (variables r)) (symbols_at q (place r k).first (length (variables r))) (block r k).commands

-- The formula that the list has for a target is the target's.
pub at_target : {V : Type 0} (q : Reading V) (r : Routine) (start : List V) (k t : ℕ) → k < t → t < length r.blocks
    → get_or (formulas q r start (suc k) (drop (suc k) (layout r))) (t - suc k) true ≡ formula_of q r start t
unfolding formula_of
at_target q r start k t l h =
    subst (λ m. get_or (formulas q r start (suc k) (drop (suc k) (layout r))) (t - suc k) true ≡ block_formula q r start (suc m) (drop (suc m) (layout r)) (formulas q r start (suc m) (drop (suc m) (layout r))) (place r m) (symbols_at q (place r m).first (length (variables r)))) (omega arith)
    (formulas_at q r start (layout r) (t - suc k) (suc k) (rw (layout-length r) (omega arith)))
    ∙ ap (λ (b : Block). rest_formula q r start (suc t) (drop (suc t) (layout r)) (formulas q r start (suc t) (drop (suc t) (layout r))) b.targets ((place r t).first + length (variables r)) (symbols_at q (place r t).first (length (variables r))) b.commands) (place_block r t)

-- And so is the place.
pub at_place : (r : Routine) (k t : ℕ) → k < t → get_or (drop (suc k) (layout r)) (t - suc k) nowhere ≡ place r t
at_place r k t l = get_or-drop (suc k) (layout r) (t - suc k) nowhere ∙ ap (λ (m : ℕ). place r m) (omega arith)

-- At each step of a run that goes wrong, what is left of the formula is false.
pub wrong_false : {V : Type 0} (q : Reading V) (r : Routine) (S : Sound r) (start : List V) {k : ℕ} {cs : List Command} {s : List V} (n : ℕ)
    (d : Run q.world r start k cs s wrong) → Shows q r n d → k < length r.blocks → here_formula q r start k n s cs ≡ false
unfolding formula_of
wrong_false q r S start n (assigns d) sh l = wrong_false q r S start n d sh l
wrong_false q r S start n (asserts {e = e} {s = s} h d) sh l = rw (holds_true q.world (value q.world s [] e) h) (wrong_false q r S start n d sh l)
wrong_false q r S start n (asserts_false {e = e} {s = s} h) sh l = rw (holds_false q.world (value q.world s [] e) h)
wrong_false q r S start n (assumes {e = e} {s = s} h d) sh l = rw (holds_true q.world (value q.world s [] e) h) (wrong_false q r S start n d sh l)
wrong_false q r S start n (havocs {k = k} {x = x} {cs = cs} {s = s} g v h d) sh l = subst (λ u. here_formula q r start k (suc n) (set s x u) cs ≡ false) (sym sh.0) (wrong_false q r S start (suc n) d sh.1 l)
wrong_false q r S start n (calls {p = p} {es = es} {s = s} h gs outs g o e d) sh l =
    let ea : length (procedure r p).modifies ≡ length gs = sym (length-map (procedure r p).modifies _) ∙ alike-length _ (modified_types r (procedure r p)) gs g in
    let eb : length (procedure r p).outs ≡ length outs = alike-length _ (procedure r p).outs outs o in
    rw (ea, eb, sh.0, sh.1) (call_pass q.world _ _ _ _ _ h e ∙ wrong_false q r S start (n + length gs + length outs) d sh.2 l)
wrong_false q r S start n (calls_false h) sh l = call_fail q.world _ _ _ _ _ h
wrong_false {V} q r S start n (goes {k = k} {s = s} t i d) sh l =
    let lt = later_target k (length r.blocks) t (block r k).targets (S.targets_later k l) i in
    rw (own_none q r start s t (block r k).targets i)
    (joined_false q r (suc k) (drop (suc k) (layout r)) (formulas q r start (suc k) (drop (suc k) (layout r))) s t (block r k).targets i
    (rw (at_place r k t lt.0, at_target q r start k t lt.0 lt.1) (enter (symbols_at q (place r t).first (length (variables r))) sh.0 (wrong_false q r S start ((place r t).first + length (variables r)) d sh.1 lt.1))))
  where
    enter : (u : List V) → u ≡ s → here_formula q r start t ((place r t).first + length (variables r)) s (block r t).commands ≡ false → linked q.world u s (here_formula q r start t ((place r t).first + length (variables r)) u (block r t).commands) ≡ false
    enter u e h = rw e (links_pass q.world s _ ∙ h)
wrong_false q r S start n (returns_false {s = s} e t) sh l = rw e (tests_fail_last q.world (values q.world s start r.own.ensures) true t)
