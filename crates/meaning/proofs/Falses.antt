-- A false formula is a run that goes wrong.
use Rattle.std.proofs.Common.{◌≡◌, ℕ, zero, suc, ◌+◌, ◌-◌, ◌<◌, ◌≤◌, Bool, true, false, not, ◌&&◌, ◌||◌, ◌⊎◌, List, [], ◌∷◌, ◌++◌, map, length, get_or, drop, set, sym, refl, ◌∙◌, subst, inl, inr, ⊎_elim, arith}
use Rattle.std.proofs.lemmas.List.{append_assoc}
use Rattle.std.proofs.lemmas.Option.{get_or_from_slice_get}
use Rattle.std.proofs.lemmas.Bool.{true≢false}
use Rattle.language.specs.Codes.{bool}
use Rattle.world.specs.Worlds.{World, Reading, OfTypes}
use Rattle.meaning.specs.Lists.{put, In, here, later}
use Rattle.meaning.specs.Routine.{Command, assign, assert, assume, havoc, call, Block, Routine, block, procedure, variables, value, values, SoundCommands, Sound}
use Rattle.meaning.specs.Runs.{wrong, Tested, none_left, this_false, this_true, on_entry, on_exit, Run, assigns, asserts, asserts_false, assumes, havocs, calls, calls_false, goes, returns_false, HasConstants}
use Rattle.meaning.specs.Telling.{Check, tested, assumed, takes, layout, nowhere, place, symbols_at}
use Rattle.meaning.proofs.Alikes.{alike_set, alike-length, counted_left, counted_right, length-counted}
use Rattle.meaning.proofs.Passes.{holds, after, linked, joined, own_checks, formulas}
use Rattle.meaning.proofs.Types.{Bools, truly_false, truly_true, decided, entry_bools, expression_typed, arguments_typed, return_bools}
use Rattle.meaning.proofs.Calls.{taken, given, call_typed}
use Rattle.meaning.proofs.Places.{place_block, target_reached}
use Rattle.meaning.proofs.Fit.{FitsEach}
use Rattle.meaning.proofs.Wrongs.{tests_pass, later_target, here_formula, formula_of, at_target, at_place}

and_cases : (a b : Bool) → (a && b) ≡ false → (a ≡ false) ⊎ ((a ≡ true) × (b ≡ false))
and_cases true b e = inr (refl, e)
and_cases false b e = inl refl

implied : (a b : Bool) → (not a || b) ≡ false → (a ≡ true) × (b ≡ false)
implied true b e = (refl, e)
implied false b e = absurd (true≢false e)

module _ {V : Type 0} (w : World V) where
  link_false : (ss s : List V) (b : Bool) → length ss ≡ length s → linked w ss s b ≡ false → (ss ≡ s) × (b ≡ false)
  link_false [] [] b l e = (refl, e)
  link_false [] (v ∷ s) b l e = absurd (omega arith)
  link_false (u ∷ ss) [] b l e = absurd (omega arith)
  link_false (u ∷ ss) (v ∷ s) b l e =
      let h = implied (w.same u v) (linked w ss s b) e in
      let i = link_false ss s b (omega arith) h.1 in
      (rw (w.same_only u v h.0, i.0), i.1)

  tests_false : (vs : List V) (b : Bool) → Bools w vs → b ≡ true → after w (map tested vs) b ≡ false → Tested w vs false
  tests_false [] b h t e = absurd (true≢false (sym t ∙ e))
  tests_false (v ∷ vs) b h t e =
      ⊎_elim (λ f. this_false (truly_false w v h.0 f)) (λ p. this_true (truly_true w v p.0) (tests_false vs b h.1 t p.1))
      (and_cases (holds w v) (after w (map tested vs) b) e)

  call_open : (xs : List V) (ys cs own : List (Check V)) (b : Bool) → after w (((map tested xs ++ ys) ++ cs) ++ own) b ≡ after w (map tested xs ++ (ys ++ (cs ++ own))) b
  call_open xs ys cs own b = rw (append_assoc (map tested xs ++ ys) cs own, append_assoc (map tested xs) ys (cs ++ own))

  -- Where assumed conditions leave a false formula, they are all true and what comes after is false.
  pub assumes_true : (vs : List V) (cs : List (Check V)) (b : Bool) → after w (map assumed vs ++ cs) b ≡ false → Tested w vs true × (after w cs b ≡ false)
  assumes_true [] cs b e = (none_left, e)
  assumes_true (v ∷ vs) cs b e =
      let h = implied (holds w v) (after w (map assumed vs ++ cs) b) e in
      let i = assumes_true vs cs b h.1 in
      (this_true (truly_true w v h.0) i.0, i.1)

module _ {V : Type 0} (q : Reading V) (r : Routine) (S : Sound r) (C : HasConstants q.world r) (F : FitsEach q r) (start : List V) (start_typed : OfTypes q.world (variables r) start) where
  abbrev Later : ℕ → Type 0
  Later k = (t : ℕ) → k < t → t < length r.blocks → (place r t).reached ≡ true → formula_of q r start t ≡ false → Run q.world r start t (block r t).commands (symbols_at q (place r t).first (length (variables r))) wrong

  pick : (k : ℕ) → k < length r.blocks → (place r k).reached ≡ true → Later k → (s : List V) → length (variables r) ≡ length s → (ts : List ℕ) → ((t : ℕ) → In t ts → In t (block r k).targets)
      → joined q r (suc k) (drop (suc k) (layout r)) (formulas q r start (suc k) (drop (suc k) (layout r))) s ts ≡ false
      → Run q.world r start k [] s wrong
  pick k l re L s n [] inc e = absurd (true≢false e)
  pick k l re L s n (t ∷ ts) inc e =
      ⊎_elim (λ g.
      let lt = later_target k (length r.blocks) t (block r k).targets (S.targets_later k l) (inc t here) in
      let g' = rw (at_place r k t lt.0, at_target q r start k t lt.0 lt.1) at g in
      let i = link_false q.world (symbols_at q (place r t).first (length (variables r))) s (formula_of q r start t) (length-counted _ (place r t).first (length (variables r)) ∙ n) g' in
      goes t (inc t here) (subst (λ (u : List V). Run q.world r start t (block r t).commands u wrong) i.0 (L t lt.0 lt.1 (target_reached r k t lt.0 lt.1 re (inc t here)) i.1)))
      (λ g. pick k l re L s n ts (λ u x. inc u (later x)) g.1)
      (and_cases (linked q.world (symbols_at q (get_or (drop (suc k) (layout r)) (t - suc k) nowhere).first (length (variables r))) s (get_or (formulas q r start (suc k) (drop (suc k) (layout r))) (t - suc k) true)) _ e)

  end_false : (k : ℕ) → k < length r.blocks → (place r k).reached ≡ true → Later k → (s : List V) → OfTypes q.world (variables r) s → (ts : List ℕ) → (block r k).targets ≡ ts
      → after q.world (own_checks q r start s ts) (joined q r (suc k) (drop (suc k) (layout r)) (formulas q r start (suc k) (drop (suc k) (layout r))) s ts) ≡ false
      → Run q.world r start k [] s wrong
  end_false k l re L s T [] e f = returns_false e (tests_false q.world _ true (return_bools q.world r C S s start T start_typed) refl f)
  end_false k l re L s T (t ∷ ts) e f = pick k l re L s (alike-length _ (variables r) s T) (t ∷ ts) (λ u x. rw e x) f

  commands_false : (k : ℕ) → k < length r.blocks → (place r k).reached ≡ true → Later k → (cs : List Command) (n : ℕ) (s : List V)
      → SoundCommands r cs → OfTypes q.world (variables r) s → OfTypes q.world (takes r cs) (symbols_at q n (length (takes r cs)))
      → here_formula q r start k n s cs ≡ false → Run q.world r start k cs s wrong
  commands_false k l re L [] n s h T M e = end_false k l re L s T (block r k).targets refl e
  commands_false k l re L (assign x e ∷ cs) n s h T M f = assigns (commands_false k l re L cs n _ h.1 (alike_set _ (variables r) s x h.0.0 _ T h.0.1 (expression_typed q.world r C s T e h.0.0 h.0.2)) M f)
  commands_false k l re L (assert e ∷ cs) n s h T M f =
      ⊎_elim (λ g. asserts_false (truly_false q.world _ (expression_typed q.world r C s T e bool h.0) g))
      (λ g. asserts (truly_true q.world _ g.0) (commands_false k l re L cs n s h.1 T M g.1))
      (and_cases (holds q.world (value q.world s [] e)) _ f)
  commands_false k l re L (assume e ∷ cs) n s h T M f =
      let i = implied (holds q.world (value q.world s [] e)) _ f in
      assumes (truly_true q.world _ i.0) (commands_false k l re L cs n s h.1 T M i.1)
  commands_false k l re L (havoc x ∷ cs) n s h T M f =
      let b : q.world.belongs h.0.0 (q.symbol n) ≡ true = rw (get_or_from_slice_get (variables r) x h.0.0 bool h.0.1) at M.0 in
      havocs h.0.1 (q.symbol n) b (commands_false k l re L cs (suc n) (set s x (q.symbol n)) h.1 (alike_set _ (variables r) s x h.0.0 (q.symbol n) T h.0.1 b) M.1 f)
  commands_false k l re L (call p es xs ∷ cs) n s h T M f =
      let P = procedure r p in
      let ins = values q.world s [] es in
      let gs = taken q r P xs cs n s in
      let outs = given q r P xs cs n s in
      let s' = put s P.modifies gs in
      let k' = call_typed q r P xs cs n s h.0.0 h.0.2 T M in
      let f' = sym (call_open q.world (on_entry q.world r P s ins) (map assumed (on_exit q.world r P s s' ins outs)) _ _ _) ∙ f in
      ⊎_elim (λ t.
      let g = assumes_true q.world (on_exit q.world r P s s' ins outs) _ _ (sym (tests_pass q.world (on_entry q.world r P s ins) _ _ t) ∙ f') in
      calls t gs outs k'.taken_typed k'.given_typed g.0 (commands_false k l re L cs (n + length P.modifies + length P.outs) (put s' xs outs) h.1 k'.ending_typed k'.rest_typed g.1))
      (λ t. calls_false t)
      (decided q.world _ (entry_bools q.world r C P h.0.0 s ins T (arguments_typed q.world r C s T es P.ins h.0.1)))

  -- A block whose formula is false has a run from its symbols that goes wrong; `m` bounds the blocks that are left.
  pub false_wrong : (m k : ℕ) → length r.blocks ≤ k + m → k < length r.blocks → (place r k).reached ≡ true → formula_of q r start k ≡ false
      → Run q.world r start k (block r k).commands (symbols_at q (place r k).first (length (variables r))) wrong
  unfolding formula_of
  false_wrong zero k g l re f = absurd (omega arith)
  false_wrong (suc m) k g l re f =
      let fit = subst (λ (b : Block). OfTypes q.world (variables r ++ takes r b.commands) (symbols_at q (place r k).first (length (variables r ++ takes r b.commands)))) (place_block r k) (F k re) in
      commands_false k l re (λ t lt h re' f'. false_wrong m t (omega arith) h re' f') (block r k).commands ((place r k).first + length (variables r)) _ (S.commands_sound k l)
      (counted_left _ _ (place r k).first (variables r) (takes r (block r k).commands) fit)
      (counted_right _ _ (place r k).first (variables r) (takes r (block r k).commands) fit) f
