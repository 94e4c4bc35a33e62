-- The promises on runs.
use Rattle.std.proofs.Common.{◌≡◌, ℕ, suc, ◌+◌, ◌<◌, Bool, true, false, List, [], ◌∷◌, ◌++◌, map, length, get_or, drop, sym, refl, ap, ◌∙◌, subst, zero-add, arith}
use Rattle.std.proofs.lemmas.List.{append-nil}
use Rattle.world.specs.Worlds.{World, Reading, OfTypes}
use Rattle.meaning.specs.Routine.{Block, Routine, block, variables, values, SoundCommands, Sound}
use Rattle.meaning.specs.Runs.{wrong, Tested, Run, HasConstants, RunOf}
use Rattle.meaning.specs.Telling.{assumed, takes, Placed, layout, nowhere, place, telling, told, told_value, formula_value, Lawful, symbols_at, start_values}
use Rattle.meaning.specs.Promise.{ReadingOf, FalseIsWrong, WrongIsFalse, ToldLawfully}
use Rattle.meaning.proofs.Alikes.{counted_left, counted_right, drop_next, drop_first}
use Rattle.meaning.proofs.Passes.{after, rest_formula, block_formula, formulas}
use Rattle.meaning.proofs.Types.{looks, looks_none, clauses_bools}
use Rattle.meaning.proofs.Places.{place_block, layout-length, first_reached, first_zero, reached_below}
use Rattle.meaning.proofs.Fit.{FitsEach, fits_each}
use Rattle.meaning.proofs.Wrongs.{assumes_pass, here_formula, formula_of, wrong_false}
use Rattle.meaning.proofs.Falses.{assumes_true, false_wrong}
use Rattle.meaning.proofs.Oks.{ext_trans, Knows, all_ext, Ok, ok_bind}
use Rattle.meaning.proofs.Tells.{finds, finds_none, symbols_ok, clauses_ok, assumes_checked}
use Rattle.meaning.proofs.Backs.{checks_ok, begun_ext, block_ok, Ready, all_maybe_ext, forward_ok, formula_ok, backward_ok}

some_layout : (r : Routine) → Sound r → layout r ≡ [] → ⊥
some_layout r S e = omega (arith, ap length e, layout-length r, S.some_block)

module _ {V : Type 0} (w : World V) where
  all_assumed : (vs : List V) (b : Bool) → after w (map assumed vs) b ≡ false → Tested w vs true × (b ≡ false)
  all_assumed vs b e = assumes_true w vs [] b (rw append-nil e)

  all_assume : (vs : List V) (b : Bool) → Tested w vs true → b ≡ false → after w (map assumed vs) b ≡ false
  all_assume vs b t e = rw append-nil at (assumes_pass w vs [] b t) ∙ e

module _ {V : Type 0} (q : Reading V) (r : Routine) (S : Sound r) (C : HasConstants q.world r) (F : FitsEach q r) where
  abbrev w : World V
  w = q.world

  abbrev start_v : List V
  start_v = start_values q r

  fit : (k : ℕ) → (place r k).reached ≡ true → OfTypes w (variables r ++ takes r (block r k).commands) (symbols_at q (place r k).first (length (variables r ++ takes r (block r k).commands)))
  fit k re = subst (λ (b : Block). OfTypes w (variables r ++ takes r b.commands) (symbols_at q (place r k).first (length (variables r ++ takes r b.commands)))) (place_block r k) (F k re)

  start_t : OfTypes w (variables r) start_v
  start_t = subst (λ (n : ℕ). OfTypes w (variables r) (symbols_at q n (length (variables r)))) (first_zero r) (counted_left _ _ (place r 0).first (variables r) (takes r (block r 0).commands) (fit 0 (first_reached r S.some_block)))

  ready : (k : ℕ) → Ready q r S C start_v start_t (place r k)
  ready k re =
      let l : k < length r.blocks = rw (layout-length r) at (reached_below (layout r) k re) in (
        subst (λ (b : Block). SoundCommands r b.commands) (sym (place_block r k)) (S.commands_sound k l),
        counted_left _ _ (place r k).first (variables r) (takes r (place r k).block.commands) (F k re),
        counted_right _ _ (place r k).first (variables r) (takes r (place r k).block.commands) (F k re),
      )

  axioms_v : List V
  axioms_v = values w [] [] r.axioms

  requires_v : List V
  requires_v = values w start_v [] r.own.requires

  abbrev first_formula : Placed → List Placed → Bool
  first_formula b bs = block_formula q r start_v 1 bs (formulas q r start_v 1 bs) b start_v

  -- What the whole formula says, from what the first block's does.
  whole : Bool → Bool
  whole f = after w (map assumed axioms_v) (after w (map assumed requires_v) f)

  telling_ok : (b : Placed) (bs : List Placed) → layout r ≡ b ∷ bs → Ok q [] (telling r (b ∷ bs)) (Knows q (w.truth (whole (first_formula b bs))))
  unfolding whole axioms_v requires_v
  telling_ok b bs e =
      let pb : place r 0 ≡ b = drop_first 0 (layout r) b bs nowhere e in
      let re : b.reached ≡ true = ap (λ (p : Placed). p.reached) (sym pb) ∙ first_reached r S.some_block in
      let R = subst (λ (p : Placed). Ready q r S C start_v start_t p) pb (ready 0) re in
      let A = clauses_bools w r.constants [] [] [] [] C (looks_none w []) (looks_none w []) r.axioms S.axioms_typed in
      let Q = clauses_bools w r.constants (variables r) [] start_v [] C (looks w (variables r) start_v start_t) (looks_none w []) r.own.requires S.requires_typed in
      let n0 : b.first ≡ 0 = ap (λ (p : Placed). p.first) (sym pb) ∙ first_zero r in
      ok_bind (symbols_ok q (length (variables r)) [] 0) (λ start s₁ x₁ k₁.
      ok_bind (clauses_ok q r.constants [] [] [] [] [] [] C (looks_none w []) (looks_none w []) r.axioms S.axioms_typed s₁ (finds_none q s₁ [] []) (finds_none q s₁ [] [])) (λ axioms s₂ x₂ k₂.
      let start₂ = all_ext q start start_v x₂ k₁ in
      ok_bind (clauses_ok q r.constants (variables r) [] start [] start_v [] C (looks w (variables r) start_v start_t) (looks_none w []) r.own.requires S.requires_typed s₂ (finds q s₂ (variables r) start start_v start_t start₂) (finds_none q s₂ [] [])) (λ requires s₃ x₃ k₃.
      let start₃ = all_ext q start start_v x₃ start₂ in
      ok_bind (block_ok q r S C start_v start_t b start start_v start R.0 start_t R.2 s₃ start₃ start₃) (λ x s₄ x₄ k₄.
      ok_bind (forward_ok q r S C start_v start_t bs (λ j. subst (λ (l : List Placed). Ready q r S C start_v start_t (get_or l (suc j) nowhere)) e (ready (suc j))) start s₄ (all_ext q start start_v x₄ start₃)) (λ xs s₅ x₅ k₅.
      ok_bind (backward_ok q r S C start_v start_t bs 1 xs (drop_next 0 (layout r) b bs e) s₅ k₅) (λ fs s₆ x₆ k₆.
      ok_bind (formula_ok q r S C start_v start_t 0 b bs e re x start_v xs fs s₆ (begun_ext q r S C start_v start_t x b start_v (ext_trans x₅ x₆) k₄) (all_maybe_ext q r S C start_v start_t xs bs x₆ k₅) k₆) (λ f s₇ x₇ k₇.
      let to₇ = ext_trans x₄ (ext_trans x₅ (ext_trans x₆ x₇)) in
      ok_bind (checks_ok q (map assumed requires) (map assumed requires_v) f _ s₇ (assumes_checked q s₇ requires requires_v (all_ext q requires requires_v to₇ k₃) Q) k₇) (λ g s₈ x₈ k₈.
      checks_ok q (map assumed axioms) (map assumed axioms_v) g _ s₈ (assumes_checked q s₈ axioms axioms_v (all_ext q axioms axioms_v (ext_trans x₃ (ext_trans to₇ x₈)) k₂) A) k₈))))))))

  -- The first block's formula is that of block 0.
  first-is : (b : Placed) (bs : List Placed) → layout r ≡ b ∷ bs → first_formula b bs ≡ here_formula q r start_v 0 (length (variables r)) start_v (block r 0).commands
  first-is b bs e =
      let pb : b ≡ place r 0 = sym (drop_first 0 (layout r) b bs nowhere e) in
      let en : bs ≡ drop 1 (layout r) = sym (drop_next 0 (layout r) b bs e) in
      ap (λ (l : List Placed). first_formula b l) en
      ∙ ap (λ (p : Placed). first_formula p (drop 1 (layout r))) pb
      ∙ ap (λ (c : Block). rest_formula q r start_v 1 (drop 1 (layout r)) (formulas q r start_v 1 (drop 1 (layout r))) c.targets ((place r 0).first + length (variables r)) start_v c.commands) (place_block r 0)
      ∙ ap (λ (n : ℕ). here_formula q r start_v 0 n start_v (block r 0).commands) (ap (λ (n : ℕ). n + length (variables r)) (first_zero r) ∙ zero-add (length (variables r)))

  told_whole : formula_value q r ≡ w.truth (whole (here_formula q r start_v 0 (length (variables r)) start_v (block r 0).commands))
  told_whole = go (layout r) refl
    where
      go : (l : List Placed) → layout r ≡ l → formula_value q r ≡ w.truth (whole (here_formula q r start_v 0 (length (variables r)) start_v (block r 0).commands))
      go [] e = absurd (some_layout r S e)
      go (b ∷ bs) e = rw (← first-is b bs e) (subst (λ (l : List Placed). told_value q (telling r l []).1 (telling r l []).0 ≡ w.truth (whole (first_formula b bs))) (sym e) (telling_ok b bs e).post.value)

  false_run : formula_value q r ≡ w.truth false → RunOf r w start_v wrong
  unfolding whole axioms_v requires_v formula_of
  false_run e =
      let h = w.apart (whole (here_formula q r start_v 0 (length (variables r)) start_v (block r 0).commands)) false (sym told_whole ∙ e) in
      let a = all_assumed w axioms_v _ h in
      let b = all_assumed w requires_v _ a.1 in
      record {
        constants_typed = C;
        axioms_true = a.0;
        start_typed = start_t;
        requires_true = b.0;
        steps = subst (λ (n : ℕ). Run w r start_v 0 (block r 0).commands (symbols_at q n (length (variables r))) wrong) (first_zero r)
            (false_wrong q r S C F start_v start_t (length r.blocks) 0 (omega arith) S.some_block (first_reached r S.some_block)
            (subst (λ (n : ℕ). here_formula q r start_v 0 (n + length (variables r)) (symbols_at q n (length (variables r))) (block r 0).commands ≡ false) (sym (first_zero r))
            (rw zero-add b.1)));
      }

  run_false : (start : List V) (d : RunOf r w start wrong) → ReadingOf q r d → formula_value q r ≡ w.truth false
  unfolding whole axioms_v requires_v
  run_false start d h =
      let f : here_formula q r start 0 (length (variables r)) start (block r 0).commands ≡ false = wrong_false q r S start (length (variables r)) d.steps h.1 S.some_block in
      let g : here_formula q r start_v 0 (length (variables r)) start_v (block r 0).commands ≡ false = subst (λ (u : List V). here_formula q r u 0 (length (variables r)) u (block r 0).commands ≡ false) (sym h.0) f in
      let t : Tested w requires_v true = subst (λ (u : List V). Tested w (values w u [] r.own.requires) true) (sym h.0) d.requires_true in
      told_whole ∙ ap (λ (b : Bool). w.truth b) (all_assume w axioms_v _ d.axioms_true (all_assume w requires_v _ t g))

-- A false formula is a run that goes wrong.
pub false_is_wrong : (V : Type 0) → FalseIsWrong V
false_is_wrong V r S q C F e = false_run q r S C (fits_each q r F) e

-- A run that goes wrong is a false formula.
pub wrong_is_false : (V : Type 0) → WrongIsFalse V
wrong_is_false V r S q F start d h = run_false q r S d.constants_typed (fits_each q r F) start d h

-- The tells are lawful in each fitting reading.
pub told_lawfully : (V : Type 0) → ToldLawfully V
told_lawfully V r S q C F = go (layout r) refl
  where
    go : (l : List Placed) → layout r ≡ l → Lawful q (told r).1 × ((told r).0 < length (told r).1)
    go [] e = absurd (some_layout r S e)
    go (b ∷ bs) e = subst (λ (l : List Placed). Lawful q (telling r l []).1 × ((telling r l []).0 < length (telling r l []).1)) (sym e) ((telling_ok q r S C (fits_each q r F) b bs e).lawful tt, (telling_ok q r S C (fits_each q r F) b bs e).post.entry)
