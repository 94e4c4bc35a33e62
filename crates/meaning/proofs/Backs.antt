-- The blocks, told backwards: the tell of each block's formula has the formula's truth.
use Rattle.std.proofs.Common.{◌≡◌, ℕ, zero, suc, ◌+◌, ◌-◌, ◌<◌, Bool, true, false, not, ◌&&◌, ◌||◌, List, [], ◌∷◌, ◌++◌, map, length, get_or, drop, sym, refl, ap, ◌∙◌, subst, le_of_suc-le-suc, not-suc-le-zero, arith}
use Rattle.std.proofs.Math.Bool.{and-true}
use Rattle.std.proofs.lemmas.List.{append-nil, length-drop}
use Rattle.std.proofs.lemmas.Bool.{false≢true}
use Rattle.language.specs.Codes.{bool}
use Rattle.language.specs.Lists.{Alike}
use Rattle.world.specs.Worlds.{World, Reading, OfTypes}
use Rattle.world.specs.Tells.{Tell}
use Rattle.meaning.specs.Lists.{In, here, later}
use Rattle.meaning.specs.Routine.{Block, Routine, block, variables, SoundCommands, Sound}
use Rattle.meaning.specs.Telling.{tell, Check, tested, assumed, Passed, takes, Placed, layout, nowhere, place, Begun, tell_return, tell_block, tell_if_reached, forward, tell_links, unbegun, tell_targets, tell_checks, tell_formula, backward, symbols_at}
use Rattle.meaning.proofs.Alikes.{alike-append, both_at, drop_next, drop_some, drop_first}
use Rattle.meaning.proofs.Passes.{pass, holds, after, linked, joined, own_checks, block_formula, formulas}
use Rattle.meaning.proofs.Types.{Constants, looks, truly_false, truly_true, return_bools}
use Rattle.meaning.proofs.Places.{place_block, layout-length, target_reached}
use Rattle.meaning.proofs.Wrongs.{later_target, at_place}
use Rattle.meaning.proofs.Oks.{Extends, ext_trans, Knows, KnowsAll, knows_ext, all_ext, Ok, ok_answer, ok_bind, ok_weaken, ok_tell}
use Rattle.meaning.proofs.Tells.{finds, symbols_ok, clauses_ok, Checked, all_checked_ext, tests_checked, PassedOk, commands_ok}

module _ {V : Type 0} (q : Reading V) where
  abbrev w : World V
  w = q.world

  ok_and : {s : List Tell} (x y : ℕ) (a b : Bool) → Knows q (w.truth a) s x → Knows q (w.truth b) s y → Ok q s (tell 26 0 (x ∷ y ∷ [])) (Knows q (w.truth (a && b)))
  ok_and {s} x y a b h k = subst (λ (v : V). Ok q s (tell 26 0 (x ∷ y ∷ [])) (Knows q v)) (w.and_is a b) (ok_tell q 26 0 (x ∷ y ∷ []) (w.truth a ∷ w.truth b ∷ []) refl (h, (k, tt)) (λ l. ((a, refl), ((b, refl), tt))))

  ok_implies : {s : List Tell} (x y : ℕ) (a b : Bool) → Knows q (w.truth a) s x → Knows q (w.truth b) s y → Ok q s (tell 28 0 (x ∷ y ∷ [])) (Knows q (w.truth (not a || b)))
  ok_implies {s} x y a b h k = subst (λ (v : V). Ok q s (tell 28 0 (x ∷ y ∷ [])) (Knows q v)) (w.implies_is a b) (ok_tell q 28 0 (x ∷ y ∷ []) (w.truth a ∷ w.truth b ∷ []) refl (h, (k, tt)) (λ l. ((a, refl), ((b, refl), tt))))

  ok_equal : {s : List Tell} (x y : ℕ) (v u : V) → Knows q v s x → Knows q u s y → Ok q s (tell 14 0 (x ∷ y ∷ [])) (Knows q (w.truth (w.same v u)))
  ok_equal {s} x y v u h k = subst (λ (z : V). Ok q s (tell 14 0 (x ∷ y ∷ [])) (Knows q z)) (w.equal_is v u) (ok_tell q 14 0 (x ∷ y ∷ []) (v ∷ u ∷ []) refl (h, (k, tt)) (λ l. absurd (false≢true l)))

  links_ok : (ss es : List ℕ) (ss_v es_v : List V) (f : ℕ) (b : Bool) (s : List Tell) → KnowsAll q ss_v s ss → KnowsAll q es_v s es → Knows q (w.truth b) s f → Ok q s (tell_links ss es f) (Knows q (w.truth (linked w ss_v es_v b)))
  links_ok [] es [] es_v f b s h k z = ok_answer f z
  links_ok [] es (v ∷ ss_v) es_v f b s h k z = absurd h
  links_ok (x ∷ ss) es [] es_v f b s h k z = absurd h
  links_ok (x ∷ ss) [] (v ∷ ss_v) [] f b s h k z = ok_answer f z
  links_ok (x ∷ ss) [] (v ∷ ss_v) (u ∷ es_v) f b s h k z = absurd k
  links_ok (x ∷ ss) (e ∷ es) (v ∷ ss_v) [] f b s h k z = absurd k
  links_ok (x ∷ ss) (e ∷ es) (v ∷ ss_v) (u ∷ es_v) f b s h k z =
      ok_bind (links_ok ss es ss_v es_v f b s h.1 k.1 z) (λ y s₁ x₁ k₁.
      ok_bind (ok_equal x e v u (knows_ext x₁ h.0) (knows_ext x₁ k.0)) (λ t s₂ x₂ k₂.
      ok_implies t y (w.same v u) (linked w ss_v es_v b) k₂ (knows_ext x₂ k₁)))

  truth_holds : (v : V) → w.belongs bool v ≡ true → (b : Bool) → holds w v ≡ b → v ≡ w.truth b
  truth_holds v h true e = truly_true w v e
  truth_holds v h false e = truly_false w v h e

  -- Conditions before a formula.
  pub checks_ok : (cs : List (Check ℕ)) (ds : List (Check V)) (f : ℕ) (b : Bool) (s : List Tell) → Alike (Checked q s) cs ds → Knows q (w.truth b) s f → Ok q s (tell_checks cs f) (Knows q (w.truth (after w ds b)))
  checks_ok [] [] f b s h k = ok_answer f k
  checks_ok [] (d ∷ ds) f b s h k = absurd h
  checks_ok (c ∷ cs) [] f b s h k = absurd h
  checks_ok (tested e ∷ cs) (tested v ∷ ds) f b s h k =
      ok_bind (checks_ok cs ds f b s h.1 k) (λ y s₁ x₁ k₁.
      ok_and e y (holds w v) (after w ds b) (subst (λ (z : V). Knows q z s₁ e) (truth_holds v h.0.1 (holds w v) refl) (knows_ext x₁ h.0.0)) k₁)
  checks_ok (tested e ∷ cs) (assumed v ∷ ds) f b s h k = absurd h.0
  checks_ok (assumed e ∷ cs) (tested v ∷ ds) f b s h k = absurd h.0
  checks_ok (assumed e ∷ cs) (assumed v ∷ ds) f b s h k =
      ok_bind (checks_ok cs ds f b s h.1 k) (λ y s₁ x₁ k₁.
      ok_implies e y (holds w v) (after w ds b) (subst (λ (z : V). Knows q z s₁ e) (truth_holds v h.0.1 (holds w v) refl) (knows_ext x₁ h.0.0)) k₁)

  module _ (r : Routine) where
    -- What is known of a target.
    abbrev Target : List Tell → ℕ → List (Begun ℕ) → List ℕ → List Placed → List Bool → ℕ → Type 0
    Target s k xs fs bs fs_v t = KnowsAll q (symbols_at q (get_or bs (t - k) nowhere).first (length (variables r))) s (get_or xs (t - k) unbegun).symbols × Knows q (w.truth (get_or fs_v (t - k) true)) s (get_or fs (t - k) 0)

    target_ext : {s s' : List Tell} (k : ℕ) (xs : List (Begun ℕ)) (fs : List ℕ) (bs : List Placed) (fs_v : List Bool) (t : ℕ) → Extends s s' → Target s k xs fs bs fs_v t → Target s' k xs fs bs fs_v t
    target_ext k xs fs bs fs_v t x h = (all_ext q (get_or xs (t - k) unbegun).symbols (symbols_at q (get_or bs (t - k) nowhere).first (length (variables r))) x h.0, knows_ext x h.1)

    targets_ok : (ts : List ℕ) (k : ℕ) (xs : List (Begun ℕ)) (fs : List ℕ) (bs : List Placed) (fs_v : List Bool) (ending : List ℕ) (ending_v : List V) (s : List Tell) → KnowsAll q ending_v s ending
        → ((t : ℕ) → In t ts → Target s k xs fs bs fs_v t) → Ok q s (tell_targets k xs fs ending ts) (Knows q (w.truth (joined q r k bs fs_v ending_v ts)))
    targets_ok [] k xs fs bs fs_v ending ending_v s e h = subst (λ (v : V). Ok q s (tell 2 0 []) (Knows q v)) w.true_is (ok_tell q 2 0 [] [] refl tt (λ l. tt))
    targets_ok (t ∷ []) k xs fs bs fs_v ending ending_v s e h = rw (and-true _) (links_ok (get_or xs (t - k) unbegun).symbols ending (symbols_at q (get_or bs (t - k) nowhere).first (length (variables r))) ending_v (get_or fs (t - k) 0) (get_or fs_v (t - k) true) s (h t here).0 e (h t here).1)
    targets_ok (t ∷ u ∷ ts) k xs fs bs fs_v ending ending_v s e h =
        ok_bind (targets_ok (u ∷ ts) k xs fs bs fs_v ending ending_v s e (λ n i. h n (later i))) (λ y s₁ x₁ k₁.
        let g = target_ext k xs fs bs fs_v t x₁ (h t here) in
        ok_bind (links_ok (get_or xs (t - k) unbegun).symbols ending (symbols_at q (get_or bs (t - k) nowhere).first (length (variables r))) ending_v (get_or fs (t - k) 0) (get_or fs_v (t - k) true) s₁ g.0 (all_ext q ending ending_v x₁ e) g.1) (λ x s₂ x₂ k₂.
        ok_and x y _ _ k₂ (knows_ext x₂ k₁)))

  module _ (r : Routine) (S : Sound r) (C : Constants w r.constants) (start_v : List V) (start_t : OfTypes w (variables r) start_v) where
    -- What a block leaves in the reading, the own ensures at a return included.
    abbrev pub block_passed : Placed → List V → Passed V
    block_passed b σ = record {
      checks = (pass q r (b.first + length (variables r)) σ b.block.commands).checks ++ own_checks q r start_v (pass q r (b.first + length (variables r)) σ b.block.commands).ending b.block.targets;
      ending = (pass q r (b.first + length (variables r)) σ b.block.commands).ending;
    }

    passed_ext : {s s' : List Tell} (p : Passed ℕ) (p' : Passed V) → Extends s s' → PassedOk q r C s p p' → PassedOk q r C s' p p'
    passed_ext p p' x h = record { checked = all_checked_ext q p.checks p'.checks x h.checked; ended = all_ext q p.ending p'.ending x h.ended; typed = h.typed }

    return_ok : (ts : List ℕ) (start : List ℕ) (p : Passed ℕ) (p' : Passed V) (s : List Tell) → KnowsAll q start_v s start → PassedOk q r C s p p'
        → Ok q s (tell_return r start p ts) (λ s' z. PassedOk q r C s' z (record { checks = p'.checks ++ own_checks q r start_v p'.ending ts; ending = p'.ending }))
    return_ok (t ∷ ts) start p p' s k h = ok_answer p (record { checked = rw (append-nil p'.checks) h.checked; ended = h.ended; typed = h.typed })
    return_ok [] start p p' s k h =
        let L = looks w (variables r) p'.ending h.typed in
        let O = looks w (variables r) start_v start_t in
        ok_bind
        (clauses_ok q r.constants (variables r) (variables r) p.ending start p'.ending start_v C L O r.own.ensures S.ensures_typed s (finds q s (variables r) p.ending p'.ending h.typed h.ended) (finds q s (variables r) start start_v start_t k)) (λ es s₁ x₁ k₁.
        ok_answer _ (record {
          checked = alike-append (Checked q s₁) p.checks (map tested es) p'.checks _ (all_checked_ext q p.checks p'.checks x₁ h.checked)
              (tests_checked q s₁ es _ k₁ (return_bools w r C S p'.ending start_v h.typed start_t));
          ended = all_ext q p.ending p'.ending x₁ h.ended;
          typed = h.typed;
        }))

    -- A told block, and the values at its start.
    pub record BegunOk (s : List Tell) (x : Begun ℕ) (b : Placed) (σ : List V) : Type 0 where
      pub place_is : x.placed ≡ b
      pub starts : KnowsAll q σ s x.symbols
      pub passes : PassedOk q r C s x.passed (block_passed b σ)

    -- It stays known.
    pub begun_ext : {s s' : List Tell} (x : Begun ℕ) (b : Placed) (σ : List V) → Extends s s' → BegunOk s x b σ → BegunOk s' x b σ
    begun_ext x b σ e h = record { place_is = h.place_is; starts = all_ext q x.symbols σ e h.starts; passes = passed_ext x.passed (block_passed b σ) e h.passes }

    -- A block is told so.
    pub block_ok : (b : Placed) (env : List ℕ) (σ : List V) (start : List ℕ) → SoundCommands r b.block.commands → OfTypes w (variables r) σ → OfTypes w (takes r b.block.commands) (symbols_at q (b.first + length (variables r)) (length (takes r b.block.commands)))
        → (s : List Tell) → KnowsAll q start_v s start → KnowsAll q σ s env → Ok q s (tell_block r start b env) (λ s' x. BegunOk s' x b σ)
    block_ok b env σ start h T M s ks k =
        let n = b.first + length (variables r) in
        ok_bind (commands_ok q r C b.block.commands n env σ h T M s k) (λ p s₁ x₁ k₁.
        ok_bind (return_ok b.block.targets start p (pass q r n σ b.block.commands) s₁ (all_ext q start start_v x₁ ks) k₁) (λ z s₂ x₂ k₂.
        ok_answer _ (record { place_is = refl; starts = all_ext q env σ (ext_trans x₁ x₂) k; passes = k₂ })))

    -- What a block needs, if it is reached.
    abbrev pub Ready : Placed → Type 0
    Ready b = b.reached ≡ true → SoundCommands r b.block.commands × OfTypes w (variables r) (symbols_at q b.first (length (variables r))) × OfTypes w (takes r b.block.commands) (symbols_at q (b.first + length (variables r)) (length (takes r b.block.commands)))

    -- A block that is told if it is reached.
    pub record MaybeBegun (s : List Tell) (x : Begun ℕ) (b : Placed) : Type 0 where
      pub the_place : x.placed ≡ b
      pub if_reached : b.reached ≡ true → BegunOk s x b (symbols_at q b.first (length (variables r)))

    maybe_ext : {s s' : List Tell} (x : Begun ℕ) (b : Placed) → Extends s s' → MaybeBegun s x b → MaybeBegun s' x b
    maybe_ext x b e h = record { the_place = h.the_place; if_reached = λ re. begun_ext x b _ e (h.if_reached re) }

    -- Such blocks stay known.
    pub all_maybe_ext : {s s' : List Tell} (xs : List (Begun ℕ)) (bs : List Placed) → Extends s s' → Alike (MaybeBegun s) xs bs → Alike (MaybeBegun s') xs bs
    all_maybe_ext [] [] e h = tt
    all_maybe_ext [] (b ∷ bs) e h = absurd h
    all_maybe_ext (x ∷ xs) [] e h = absurd h
    all_maybe_ext (x ∷ xs) (b ∷ bs) e h = (maybe_ext x b e h.0, all_maybe_ext xs bs e h.1)

    one_ok : (c : Bool) (b : Placed) → b.reached ≡ c → Ready b → (start : List ℕ) (s : List Tell) → KnowsAll q start_v s start → Ok q s (tell_if_reached r start b c) (λ s' x. MaybeBegun s' x b)
    one_ok false b e R start s k = ok_answer _ (record { the_place = refl; if_reached = λ re. absurd (false≢true (sym e ∙ re)) })
    one_ok true b e R start s k =
        let σ = symbols_at q b.first (length (variables r)) in
        let h = R e in
        ok_bind (symbols_ok q (length (variables r)) s b.first) (λ env s₁ x₁ k₁.
        ok_weaken (block_ok b env σ start h.0 h.1 h.2 s₁ (all_ext q start start_v x₁ k) k₁) (λ x s' g. record { the_place = g.place_is; if_reached = λ re. g }))

    -- The blocks after the first.
    pub forward_ok : (bs : List Placed) → ((j : ℕ) → Ready (get_or bs j nowhere)) → (start : List ℕ) (s : List Tell) → KnowsAll q start_v s start → Ok q s (forward r start bs) (λ s' xs. Alike (MaybeBegun s') xs bs)
    forward_ok [] R start s k = ok_answer [] tt
    forward_ok (b ∷ bs) R start s k =
        ok_bind (one_ok b.reached b refl (R 0) start s k) (λ x s₁ x₁ k₁.
        ok_bind (forward_ok bs (λ j. R (suc j)) start s₁ (all_ext q start start_v x₁ k)) (λ xs s₂ x₂ k₂.
        ok_answer (x ∷ xs) (maybe_ext x b x₂ k₁, k₂)))

    -- The tells fs are the formulas of the blocks bs, from number k on.
    abbrev pub Formed : List Tell → ℕ → List ℕ → List Placed → Type 0
    Formed s k fs bs = (j : ℕ) → j < length bs → (get_or bs j nowhere).reached ≡ true → Knows q (w.truth (get_or (formulas q r start_v k bs) j true)) s (get_or fs j 0)

    formed_ext : {s s' : List Tell} (k : ℕ) (fs : List ℕ) (bs : List Placed) → Extends s s' → Formed s k fs bs → Formed s' k fs bs
    formed_ext k fs bs e h j l re = knows_ext e (h j l re)

    formed_more : (s : List Tell) (k : ℕ) (f : ℕ) (fs : List ℕ) (b : Placed) (bs : List Placed)
        → (b.reached ≡ true → Knows q (w.truth (block_formula q r start_v (suc k) bs (formulas q r start_v (suc k) bs) b (symbols_at q b.first (length (variables r))))) s f)
        → Formed s (suc k) fs bs → Formed s k (f ∷ fs) (b ∷ bs)
    unfolding formulas
    formed_more s k f fs b bs h g zero l re = h re
    formed_more s k f fs b bs h g (suc j) l re = g j (le_of_suc-le-suc l) re

    -- The formula of block k, whose later blocks are bs.
    pub formula_ok : (k : ℕ) (b : Placed) (bs : List Placed) → drop k (layout r) ≡ b ∷ bs → b.reached ≡ true → (x : Begun ℕ) (σ : List V) (xs : List (Begun ℕ)) (fs : List ℕ) (s : List Tell)
        → BegunOk s x b σ → Alike (MaybeBegun s) xs bs → Formed s (suc k) fs bs → Ok q s (tell_formula (suc k) xs fs x true) (Knows q (w.truth (block_formula q r start_v (suc k) bs (formulas q r start_v (suc k) bs) b σ)))
    formula_ok k b bs e re x σ xs fs s h hs g =
        let end_v = (pass q r (b.first + length (variables r)) σ b.block.commands).ending in
        let fs_v = formulas q r start_v (suc k) bs in
        let tg : x.placed.block.targets ≡ b.block.targets = ap (λ (p : Placed). p.block.targets) h.place_is in
        ok_bind
        (subst (λ (ts : List ℕ). Ok q s (tell_targets (suc k) xs fs x.passed.ending x.placed.block.targets) (Knows q (w.truth (joined q r (suc k) bs fs_v end_v ts)))) tg
        (targets_ok r x.placed.block.targets (suc k) xs fs bs fs_v x.passed.ending end_v s h.passes.ended (λ t i. target t (subst (λ (ts : List ℕ). In t ts) tg i)))) (λ f s₁ x₁ k₁.
        checks_ok x.passed.checks (block_passed b σ).checks f _ s₁ (all_checked_ext q x.passed.checks (block_passed b σ).checks x₁ h.passes.checked) k₁)
      where
        kl : k < length r.blocks
        kl = rw (layout-length r) at (drop_some k (layout r) b bs e)

        pb : place r k ≡ b
        pb = drop_first k (layout r) b bs nowhere e

        wb : b.block ≡ block r k
        wb = ap (λ (p : Placed). p.block) (sym pb) ∙ place_block r k

        en : drop (suc k) (layout r) ≡ bs
        en = drop_next k (layout r) b bs e

        lb : length bs ≡ length r.blocks - suc k
        lb = ap (λ (l : List Placed). length l) (sym en) ∙ length-drop (suc k) (layout r) ∙ ap (λ (n : ℕ). n - suc k) (layout-length r)

        target : (t : ℕ) → In t b.block.targets → Target r s (suc k) xs fs bs (formulas q r start_v (suc k) bs) t
        target t i =
            let i' : In t (block r k).targets = subst (λ (y : Block). In t y.targets) wb i in
            let lt = later_target k (length r.blocks) t (block r k).targets (S.targets_later k kl) i' in
            let a : k < t = lt.0 in
            let c : t < length r.blocks = lt.1 in
            let lj : t - suc k < length bs = rw lb (omega arith) in
            let pt : get_or bs (t - suc k) nowhere ≡ place r t = subst (λ (l : List Placed). get_or l (t - suc k) nowhere ≡ place r t) en (at_place r k t a) in
            let rt : (get_or bs (t - suc k) nowhere).reached ≡ true = ap (λ (p : Placed). p.reached) pt ∙ target_reached r k t a c (ap (λ (p : Placed). p.reached) pb ∙ re) i' in
            (((both_at (MaybeBegun s) xs bs (t - suc k) unbegun nowhere hs lj).if_reached rt).starts, g (t - suc k) lj rt)

    -- The formulas of the blocks from number k on.
    pub backward_ok : (bs : List Placed) (k : ℕ) (xs : List (Begun ℕ)) → drop k (layout r) ≡ bs → (s : List Tell) → Alike (MaybeBegun s) xs bs → Ok q s (backward k xs) (λ s' fs. Formed s' k fs bs)
    backward_ok [] k [] e s h = ok_answer [] (λ j l re. absurd (not-suc-le-zero l))
    backward_ok [] k (x ∷ xs) e s h = absurd h
    backward_ok (b ∷ bs) k [] e s h = absurd h
    backward_ok (b ∷ bs) k (x ∷ xs) e s h =
        ok_bind (backward_ok bs (suc k) xs (drop_next k (layout r) b bs e) s h.1) (λ fs s₁ x₁ k₁.
        ok_bind
        (maybe x.placed.reached refl fs s₁ (maybe_ext x b x₁ h.0) (all_maybe_ext xs bs x₁ h.1) k₁) (λ f s₂ x₂ k₂.
        ok_answer (f ∷ fs) (formed_more s₂ k f fs b bs k₂ (formed_ext (suc k) fs bs x₂ k₁))))
      where
        maybe : (c : Bool) → x.placed.reached ≡ c → (fs : List ℕ) (s₁ : List Tell) → MaybeBegun s₁ x b → Alike (MaybeBegun s₁) xs bs → Formed s₁ (suc k) fs bs
            → Ok q s₁ (tell_formula (suc k) xs fs x c) (λ s' f. b.reached ≡ true → Knows q (w.truth (block_formula q r start_v (suc k) bs (formulas q r start_v (suc k) bs) b (symbols_at q b.first (length (variables r))))) s' f)
        maybe false ec fs s₁ m ms g = ok_answer 0 (λ re. absurd (false≢true (sym ec ∙ (ap (λ (p : Placed). p.reached) m.the_place ∙ re))))
        maybe true ec fs s₁ m ms g =
            let re : b.reached ≡ true = ap (λ (p : Placed). p.reached) (sym m.the_place) ∙ ec in
            ok_weaken (formula_ok k b bs e re x _ xs fs s₁ (m.if_reached re) ms g) (λ f s' kf re'. kf)
