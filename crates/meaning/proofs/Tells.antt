-- Each part of the telling: its tells have the values that Passes computes.
use Rattle.std.proofs.Common.{◌≡◌, ℕ, zero, suc, ◌+◌, Bool, true, List, [], ◌∷◌, ◌++◌, map, length, get_or, take, set, Some, refl, subst}
use Rattle.std.specs.List.{slice_get}
use Rattle.std.proofs.lemmas.Option.{none-some, get_or_from_slice_get}
use Rattle.language.specs.declared.ValueType.{ValueType}
use Rattle.language.specs.Codes.{bool}
use Rattle.language.specs.Lists.{Alike}
use Rattle.world.specs.Worlds.{World, Reading, OfTypes, result}
use Rattle.world.specs.Tells.{Tell, Binds}
use Rattle.meaning.specs.Lists.{put}
use Rattle.meaning.specs.Routine.{Expression, Command, assign, assert, assume, havoc, call, Routine, procedure, variables, view, value, values, Typed, leaf_typed, constant_typed, variable_typed, before_typed, one_typed, two_typed, AllTyped, Clauses, SoundCommands}
use Rattle.meaning.specs.Runs.{on_entry, on_exit}
use Rattle.meaning.specs.Telling.{tell, tell_symbols, tell_value, tell_values, Check, tested, assumed, Passed, first_checks, tell_commands, takes, symbols_at}
use Rattle.meaning.proofs.Alikes.{alike_set, alike-append, both-set, both-put, both-take}
use Rattle.meaning.proofs.Passes.{pass}
use Rattle.meaning.proofs.Types.{nth_left, Looks, Constants, looks, looks_none, looks_left, value_typed, Bools, view_typed, entry_bools, exit_bools, expression_typed, arguments_typed}
use Rattle.meaning.proofs.Calls.{taken, given, call_typed}
use Rattle.meaning.proofs.Oks.{Extends, ext_trans, Knows, KnowsAll, knows_ext, all_ext, Ok, ok_answer, ok_bind, ok_tell}
use Rattle.meaning.proofs.Codes.{result_arity, result_no_symbol, one_logic, two_logic}

module _ {V : Type 0} (q : Reading V) where
  abbrev w : World V
  w = q.world

  -- The tells `env` stand for the values σ at the places of variables of types ts.
  abbrev pub Finds : List Tell → List ValueType → List ℕ → List V → Type 0
  Finds s ts env σ = (x : ℕ) (t : ValueType) → slice_get ts x ≡ Some t → Knows q (get_or σ x (w.truth true)) s (get_or env x 0)

  finds_ext : {s s' : List Tell} (ts : List ValueType) (env : List ℕ) (σ : List V) → Extends s s' → Finds s ts env σ → Finds s' ts env σ
  finds_ext ts env σ x f n t e = knows_ext x (f n t e)

  -- Where all are known.
  pub finds : (s : List Tell) (ts : List ValueType) (env : List ℕ) (σ : List V) → OfTypes w ts σ → KnowsAll q σ s env → Finds s ts env σ
  finds s [] env σ h k x t e = absurd (none-some _ e)
  finds s (u ∷ ts) [] [] h k x t e = absurd h
  finds s (u ∷ ts) [] (v ∷ σ) h k x t e = absurd k
  finds s (u ∷ ts) (y ∷ env) [] h k x t e = absurd k
  finds s (u ∷ ts) (y ∷ env) (v ∷ σ) h k zero t e = k.0
  finds s (u ∷ ts) (y ∷ env) (v ∷ σ) h k (suc x) t e = finds s ts env σ h.1 k.1 x t e

  finds_left : (s : List Tell) (ts us : List ValueType) (env : List ℕ) (σ : List V) → OfTypes w (ts ++ us) σ → KnowsAll q σ s env → Finds s ts env σ
  finds_left s ts us env σ h k x t e = finds s (ts ++ us) env σ h k x t (nth_left ts us x t e)

  -- Where there is no variable.
  pub finds_none : (s : List Tell) (env : List ℕ) (σ : List V) → Finds s [] env σ
  finds_none s env σ x t e = absurd (none-some _ e)

  ok_operate : {s : List Tell} (c a : ℕ) (ts : List ValueType) (t : ValueType) (es : List ℕ) (vs : List V) → length ts ≡ length es → result c ts ≡ Some t → KnowsAll q vs s es → Binds q c vs → Ok q s (tell c a es) (Knows q (w.operate c a vs))
  ok_operate {s} c a ts t es vs n h k b = subst (λ (v : V). Ok q s (tell c a es) (Knows q v)) (rw (result_no_symbol c ts t h)) (ok_tell q c a es vs (rw n at (result_arity c ts t h)) k b)

  -- Symbols have the reading's values.
  pub symbols_ok : (m : ℕ) (s : List Tell) (n : ℕ) → Ok q s (tell_symbols n m) (KnowsAll q (symbols_at q n m))
  symbols_ok zero s n = ok_answer [] tt
  symbols_ok (suc m) s n =
      ok_bind (ok_tell q 7 n [] [] refl tt (λ l. tt)) (λ x s₁ x₁ k₁.
      ok_bind (symbols_ok m s₁ (suc n)) (λ xs s₂ x₂ k₂.
      ok_answer (x ∷ xs) (knows_ext x₂ k₁, k₂)))

  as_bool : (t : ValueType) (v : V) → t ≡ bool → w.belongs t v ≡ true → (b : Bool) × (v ≡ w.truth b)
  as_bool t v e h = w.bool_only v (rw e at h)

  module _ (cs ts os : List ValueType) (env old : List ℕ) (σ o : List V) (C : Constants w cs) (S : Looks w ts σ) (O : Looks w os o) where
    -- A rightly typed expression has its value.
    value_ok : (e : Expression) (t : ValueType) → Typed cs ts os e t → (s : List Tell) → Finds s ts env σ → Finds s os old o → Ok q s (tell_value env old e) (Knows q (value w σ o e))
    value_ok e t (leaf_typed c a h) s f g = ok_operate c a [] t [] [] refl h tt (λ l. tt)
    value_ok e t (constant_typed n h) s f g = ok_tell q 5 n [] [] refl tt (λ l. tt)
    value_ok e t (variable_typed x h) s f g = ok_answer (get_or env x 0) (f x t h)
    value_ok e t (before_typed x h) s f g = ok_answer (get_or old x 0) (g x t h)
    value_ok e t (one_typed c {e = a} {t = u} d h) s f g =
        ok_bind (value_ok a u d s f g) (λ x s₁ x₁ k₁.
        ok_operate c 0 (u ∷ []) t (x ∷ []) (value w σ o a ∷ []) refl h (k₁, tt)
        (λ l. (as_bool u _ (one_logic c u t h l) (value_typed w cs ts os σ o C S O a u d), tt)))
    value_ok e t (two_typed c {e = a} {f = b} {t = u} {s = v} d d' h) s f g =
        ok_bind (value_ok a u d s f g) (λ x s₁ x₁ k₁.
        ok_bind (value_ok b v d' s₁ (finds_ext ts env σ x₁ f) (finds_ext os old o x₁ g)) (λ y s₂ x₂ k₂.
        ok_operate c 0 (u ∷ v ∷ []) t (x ∷ y ∷ []) (value w σ o a ∷ value w σ o b ∷ []) refl h (knows_ext x₂ k₁, (k₂, tt))
        (λ l. (
          as_bool u _ (two_logic c u v t h l).0 (value_typed w cs ts os σ o C S O a u d),
          (as_bool v _ (two_logic c u v t h l).1 (value_typed w cs ts os σ o C S O b v d'), tt),
        ))))

    values_ok : (es : List Expression) (us : List ValueType) → AllTyped cs ts os es us → (s : List Tell) → Finds s ts env σ → Finds s os old o → Ok q s (tell_values env old es) (KnowsAll q (values w σ o es))
    values_ok [] us h s f g = ok_answer [] tt
    values_ok (e ∷ es) [] h s f g = absurd h
    values_ok (e ∷ es) (u ∷ us) h s f g =
        ok_bind (value_ok e u h.0 s f g) (λ x s₁ x₁ k₁.
        ok_bind (values_ok es us h.1 s₁ (finds_ext ts env σ x₁ f) (finds_ext os old o x₁ g)) (λ xs s₂ x₂ k₂.
        ok_answer (x ∷ xs) (knows_ext x₂ k₁, k₂)))

    all_bool : (es : List Expression) → Clauses cs ts os es → AllTyped cs ts os es (map (λ e. bool) es)
    all_bool [] h = tt
    all_bool (e ∷ es) h = (h.0, all_bool es h.1)

    -- Clauses have their values.
    pub clauses_ok : (es : List Expression) → Clauses cs ts os es → (s : List Tell) → Finds s ts env σ → Finds s os old o → Ok q s (tell_values env old es) (KnowsAll q (values w σ o es))
    clauses_ok es h s f g = values_ok es (map (λ e. bool) es) (all_bool es h) s f g

  -- Told conditions, and their values.
  abbrev pub Checked : List Tell → Check ℕ → Check V → Type 0
  Checked s (tested e) (tested v) = Knows q v s e × (w.belongs bool v ≡ true)
  Checked s (tested e) (assumed v) = ⊥
  Checked s (assumed e) (tested v) = ⊥
  Checked s (assumed e) (assumed v) = Knows q v s e × (w.belongs bool v ≡ true)

  checked_ext : {s s' : List Tell} (c : Check ℕ) (d : Check V) → Extends s s' → Checked s c d → Checked s' c d
  checked_ext (tested e) (tested v) x h = (knows_ext x h.0, h.1)
  checked_ext (tested e) (assumed v) x h = h
  checked_ext (assumed e) (tested v) x h = h
  checked_ext (assumed e) (assumed v) x h = (knows_ext x h.0, h.1)

  -- Conditions stay known.
  pub all_checked_ext : {s s' : List Tell} (cs : List (Check ℕ)) (ds : List (Check V)) → Extends s s' → Alike (Checked s) cs ds → Alike (Checked s') cs ds
  all_checked_ext [] [] x h = tt
  all_checked_ext [] (d ∷ ds) x h = absurd h
  all_checked_ext (c ∷ cs) [] x h = absurd h
  all_checked_ext (c ∷ cs) (d ∷ ds) x h = (checked_ext c d x h.0, all_checked_ext cs ds x h.1)

  -- Known clauses, tested.
  pub tests_checked : (s : List Tell) (es : List ℕ) (vs : List V) → KnowsAll q vs s es → Bools w vs → Alike (Checked s) (map tested es) (map tested vs)
  tests_checked s [] [] k b = tt
  tests_checked s [] (v ∷ vs) k b = absurd k
  tests_checked s (e ∷ es) [] k b = absurd k
  tests_checked s (e ∷ es) (v ∷ vs) k b = ((k.0, b.0), tests_checked s es vs k.1 b.1)

  -- Known clauses, assumed.
  pub assumes_checked : (s : List Tell) (es : List ℕ) (vs : List V) → KnowsAll q vs s es → Bools w vs → Alike (Checked s) (map assumed es) (map assumed vs)
  assumes_checked s [] [] k b = tt
  assumes_checked s [] (v ∷ vs) k b = absurd k
  assumes_checked s (e ∷ es) [] k b = absurd k
  assumes_checked s (e ∷ es) (v ∷ vs) k b = ((k.0, b.0), assumes_checked s es vs k.1 b.1)

  module _ (r : Routine) (C : Constants w r.constants) where
    -- What commands left, told and as values.
    pub record PassedOk (s : List Tell) (p : Passed ℕ) (p' : Passed V) : Type 0 where
      pub checked : Alike (Checked s) p.checks p'.checks
      pub ended : KnowsAll q p'.ending s p.ending
      pub typed : OfTypes w (variables r) p'.ending

    know_view : (s : List Tell) (env : List ℕ) (σ : List V) (ins : List ℕ) (ins_v : List V) (outs : List ℕ) (outs_v : List V) → KnowsAll q σ s env → KnowsAll q ins_v s ins → KnowsAll q outs_v s outs → KnowsAll q (view r σ ins_v outs_v) s (view r env ins outs)
    know_view s env σ ins ins_v outs outs_v h i o = alike-append _ (take (length r.globals) env) (ins ++ outs) _ _ (both-take _ (length r.globals) env σ h) (alike-append _ ins outs ins_v outs_v i o)

    expression_ok : (e : Expression) (t : ValueType) → Typed r.constants (variables r) [] e t → (env : List ℕ) (σ : List V) → OfTypes w (variables r) σ → (s : List Tell) → KnowsAll q σ s env → Ok q s (tell_value env [] e) (Knows q (value w σ [] e))
    expression_ok e t d env σ T s k = value_ok r.constants (variables r) [] env [] σ [] C (looks w (variables r) σ T) (looks_none w []) e t d s (finds s (variables r) env σ T k) (finds_none s [] [])

    checked_first : (s : List Tell) (c : Check ℕ) (d : Check V) (p : Passed ℕ) (p' : Passed V) → Checked s c d → PassedOk s p p' → PassedOk s (first_checks (c ∷ []) p) (first_checks (d ∷ []) p')
    checked_first s c d p p' h k = record { checked = (h, k.checked); ended = k.ended; typed = k.typed }

    -- Commands leave what `pass` says.
    pub commands_ok : (cs : List Command) (n : ℕ) (env : List ℕ) (σ : List V) → SoundCommands r cs → OfTypes w (variables r) σ → OfTypes w (takes r cs) (symbols_at q n (length (takes r cs)))
        → (s : List Tell) → KnowsAll q σ s env → Ok q s (tell_commands r n env cs) (λ s' p. PassedOk s' p (pass q r n σ cs))
    commands_ok [] n env σ h T M s k = ok_answer _ (record { checked = tt; ended = k; typed = T })
    commands_ok (assign x e ∷ cs) n env σ h T M s k =
        ok_bind (expression_ok e h.0.0 h.0.2 env σ T s k) (λ y s₁ x₁ k₁.
        commands_ok cs n (set env x y) (set σ x (value w σ [] e)) h.1
        (alike_set _ (variables r) σ x h.0.0 _ T h.0.1 (expression_typed w r C σ T e h.0.0 h.0.2)) M s₁
        (both-set _ env σ x y (value w σ [] e) (all_ext q env σ x₁ k) k₁))
    commands_ok (assert e ∷ cs) n env σ h T M s k =
        ok_bind (expression_ok e bool h.0 env σ T s k) (λ y s₁ x₁ k₁.
        ok_bind (commands_ok cs n env σ h.1 T M s₁ (all_ext q env σ x₁ k)) (λ p s₂ x₂ k₂.
        ok_answer _ (checked_first s₂ (tested y) (tested _) p _ (knows_ext x₂ k₁, expression_typed w r C σ T e bool h.0) k₂)))
    commands_ok (assume e ∷ cs) n env σ h T M s k =
        ok_bind (expression_ok e bool h.0 env σ T s k) (λ y s₁ x₁ k₁.
        ok_bind (commands_ok cs n env σ h.1 T M s₁ (all_ext q env σ x₁ k)) (λ p s₂ x₂ k₂.
        ok_answer _ (checked_first s₂ (assumed y) (assumed _) p _ (knows_ext x₂ k₁, expression_typed w r C σ T e bool h.0) k₂)))
    commands_ok (havoc x ∷ cs) n env σ h T M s k =
        let b : w.belongs h.0.0 (q.symbol n) ≡ true = rw (get_or_from_slice_get (variables r) x h.0.0 bool h.0.1) at M.0 in
        ok_bind (ok_tell q 7 n [] [] refl tt (λ l. tt)) (λ y s₁ x₁ k₁.
        commands_ok cs (suc n) (set env x y) (set σ x (q.symbol n)) h.1 (alike_set _ (variables r) σ x h.0.0 (q.symbol n) T h.0.1 b) M.1 s₁ (both-set _ env σ x y (q.symbol n) (all_ext q env σ x₁ k) k₁))
    commands_ok (call p es xs ∷ cs) n env σ h T M s k =
        let P = procedure r p in
        let ins_v = values w σ [] es in
        let gs_v = taken q r P xs cs n σ in
        let outs_v = given q r P xs cs n σ in
        let σ' = put σ P.modifies gs_v in
        let c = call_typed q r P xs cs n σ h.0.0 h.0.2 T M in
        let i_t = arguments_typed w r C σ T es P.ins h.0.1 in
        let rest = r.own.ins ++ (r.own.outs ++ r.locals) in
        let v_t = view_typed w r rest σ ins_v [] P.ins [] T i_t tt in
        let v_t' = view_typed w r rest σ' ins_v outs_v P.ins P.outs c.middle_typed i_t c.given_typed in
        ok_bind (values_ok r.constants (variables r) [] env [] σ [] C (looks w (variables r) σ T) (looks_none w []) es P.ins h.0.1 s (finds s (variables r) env σ T k) (finds_none s [] [])) (λ ins s₁ x₁ k₁.
        let e₁ = all_ext q env σ x₁ k in
        ok_bind
        (clauses_ok r.constants (r.globals ++ (P.ins ++ [])) [] (view r env ins []) [] (view r σ ins_v []) [] C (looks w _ _ v_t) (looks_none w []) P.requires h.0.0.requires_typed s₁
        (finds s₁ _ (view r env ins []) (view r σ ins_v []) v_t (know_view s₁ env σ ins ins_v [] [] e₁ k₁ tt)) (finds_none s₁ [] [])) (λ rs s₂ x₂ k₂.
        ok_bind (symbols_ok (length P.modifies) s₂ n) (λ gs s₃ x₃ k₃.
        ok_bind (symbols_ok (length P.outs) s₃ (n + length P.modifies)) (λ outs s₄ x₄ k₄.
        let x₂₄ = ext_trans x₂ (ext_trans x₃ x₄) in
        let e₄ = all_ext q env σ x₂₄ e₁ in
        let u₄ = both-put _ P.modifies env σ gs gs_v e₄ (all_ext q gs gs_v x₄ k₃) in
        ok_bind
        (clauses_ok r.constants (r.globals ++ (P.ins ++ P.outs)) r.globals (view r (put env P.modifies gs) ins outs) env (view r σ' ins_v outs_v) σ C (looks w _ _ v_t') (looks_left w r.globals rest σ T) P.ensures h.0.0.ensures_typed s₄
        (finds s₄ _ _ (view r σ' ins_v outs_v) v_t' (know_view s₄ (put env P.modifies gs) σ' ins ins_v outs outs_v u₄ (all_ext q ins ins_v x₂₄ k₁) k₄)) (finds_left s₄ r.globals rest env σ T e₄)) (λ qs s₅ x₅ k₅.
        ok_bind
        (commands_ok cs (n + length P.modifies + length P.outs) (put (put env P.modifies gs) xs outs) (put σ' xs outs_v) h.1 c.ending_typed c.rest_typed s₅
        (both-put _ xs (put env P.modifies gs) σ' outs outs_v (all_ext q _ σ' x₅ u₄) (all_ext q outs outs_v x₅ k₄))) (λ z s₆ x₆ k₆.
        ok_answer _ (record {
          checked = alike-append _ (map tested rs ++ map assumed qs) z.checks _ _
              (alike-append _ (map tested rs) (map assumed qs) _ _
              (tests_checked s₆ rs (on_entry w r P σ ins_v) (all_ext q rs _ (ext_trans x₃ (ext_trans x₄ (ext_trans x₅ x₆))) k₂) (entry_bools w r C P h.0.0 σ ins_v T i_t))
              (assumes_checked s₆ qs (on_exit w r P σ σ' ins_v outs_v) (all_ext q qs _ x₆ k₅) (exit_bools w r C P h.0.0 σ σ' ins_v outs_v T c.middle_typed i_t c.given_typed)))
              k₆.checked;
          ended = k₆.ended;
          typed = k₆.typed;
        })))))))
