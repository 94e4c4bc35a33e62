-- Every run has a reading that fits and shows it.
use Rattle.std.proofs.Common.{◌≡◌, ℕ, zero, suc, ◌+◌, ◌<◌, Bool, true, false, cond, List, [], ◌∷◌, ◌++◌, length, get_or, drop, sym, refl, ap, ◌∙◌, subst, le_of_suc-le-suc, not-suc-le-zero, add-zero, arith}
use Rattle.std.proofs.lemmas.List.{append-nil, append_assoc, length-append, get_or_at, nil_from_length}
use Rattle.std.proofs.lemmas.Option.{get_or_from_slice_get}
use Rattle.std.proofs.lemmas.Bool.{false≢true}
use Rattle.language.specs.declared.ValueType.{ValueType}
use Rattle.language.specs.Codes.{bool}
use Rattle.world.specs.Worlds.{World, Reading, OfTypes}
use Rattle.meaning.specs.Lists.{counted, In}
use Rattle.meaning.specs.Routine.{Command, Block, Routine, no_block, block, procedure, variables, modified_types, SoundCommands, Sound}
use Rattle.meaning.specs.Runs.{Ending, wrong, Run, assigns, asserts, asserts_false, assumes, assumes_false, havocs, calls, calls_false, calls_stalled, goes, returns, returns_false, HasConstants}
use Rattle.meaning.specs.Telling.{takes, Placed, places, layout, nowhere, place, symbols_at, symbol_types}
use Rattle.meaning.specs.Promise.{Shows, HasReading, TrueIsRight}
use Rattle.meaning.proofs.Alikes.{alike_set, alike-put, alike-append, alike-length}
use Rattle.meaning.proofs.Types.{modified_places, expression_typed}
use Rattle.meaning.proofs.Places.{target_reached, first_reached, first_zero}
use Rattle.meaning.proofs.Wrongs.{later_target}
use Rattle.meaning.proofs.Theorem.{wrong_is_false}

regroup : {A : Type 0} (p a b c : List A) → ((p ++ a) ++ b) ++ c ≡ p ++ (a ++ (b ++ c))
regroup p a b c = append_assoc (p ++ a) b c ∙ append_assoc p a (b ++ c)

-- A part of a list, counted off.
part : {A : Type 0} (xs p ys : List A) (d : A) (n m : ℕ) → length p ≡ n → length xs ≡ m → counted (λ i. get_or (p ++ (xs ++ ys)) i d) n m ≡ xs
part [] p ys d n zero e f = refl
part [] p ys d n (suc m) e f = absurd (omega arith)
part (x ∷ xs) p ys d n zero e f = absurd (omega arith)
part {A} (x ∷ xs) p ys d n (suc m) e f =
    let a : get_or (p ++ (x ∷ (xs ++ ys))) n d ≡ x = get_or_at p x (xs ++ ys) d n e in
    let b : counted (λ i. get_or (p ++ (x ∷ (xs ++ ys))) i d) (suc n) m ≡ xs = subst (λ (l : List A). counted (λ i. get_or l i d) (suc n) m ≡ xs) (append_assoc p (x ∷ []) (xs ++ ys)) (part xs (p ++ (x ∷ [])) ys d (suc n) m (rw (length-append p (x ∷ [])) (omega arith)) (omega arith)) in
    cc

-- Where a block's symbols lie among those of types ts from number n on: after some others, and before those of the places bs.
record Lies (r : Routine) (n : ℕ) (ts : List ValueType) (first : ℕ) (cs : List Command) (bs : List Placed) : Type 0 where
  before : List ValueType
  split : ts ≡ before ++ ((variables r ++ takes r cs) ++ symbol_types r bs)
  number : first ≡ n + length before

skipped : (c : Bool) (n : ℕ) (ts us : List ValueType) → cond c (n + length ts) n + length us ≡ n + length (cond c ts [] ++ us)
skipped true n ts us = rw (length-append ts us) (omega arith)
skipped false n ts us = refl

lies : (r : Routine) (bs : List Block) (m : ℕ → Bool) (n k j : ℕ) → (get_or (places r m n k bs) j nowhere).reached ≡ true
    → Lies r n (symbol_types r (places r m n k bs)) (get_or (places r m n k bs) j nowhere).first (get_or bs j no_block).commands (drop (suc j) (places r m n k bs))
lies r [] m n k j e = absurd (false≢true e)
lies r (b ∷ bs) m n k zero e = record { before = []; split = rw e; number = sym (add-zero n) }
lies r (b ∷ bs) m n k (suc j) e =
    let ts = variables r ++ takes r b.commands in
    let L = lies r bs _ _ (suc k) j e in
    record {
      before = cond (m k) ts [] ++ L.before;
      split = ap (λ (us : List ValueType). cond (m k) ts [] ++ us) L.split ∙ sym (append_assoc (cond (m k) ts []) L.before _);
      number = L.number ∙ skipped (m k) n ts L.before;
    }

lies_later : (r : Routine) (bs : List Block) (m : ℕ → Bool) (n k i j : ℕ) → i < j → (get_or (places r m n k bs) i nowhere).reached ≡ true → (get_or (places r m n k bs) j nowhere).reached ≡ true
    → Lies r ((get_or (places r m n k bs) i nowhere).first + length (variables r ++ takes r (get_or bs i no_block).commands)) (symbol_types r (drop (suc i) (places r m n k bs)))
    (get_or (places r m n k bs) j nowhere).first (get_or bs j no_block).commands (drop (suc j) (places r m n k bs))
lies_later r [] m n k i j l e f = absurd (false≢true e)
lies_later r (b ∷ bs) m n k i zero l e f = absurd (not-suc-le-zero l)
lies_later r (b ∷ bs) m n k zero (suc j) l e f =
    let ts = variables r ++ takes r b.commands in
    let L = lies r bs _ _ (suc k) j f in
    record { before = L.before; split = L.split; number = L.number ∙ ap (λ (c : Bool). cond c (n + length ts) n + length L.before) e }
lies_later r (b ∷ bs) m n k (suc i) (suc j) l e f = lies_later r bs _ _ (suc k) i j (le_of_suc-le-suc l) e f

module _ {V : Type 0} (w : World V) where
  -- The reading that has these values at the first symbols.
  abbrev having : List V → Reading V
  having vs = record { world = w; symbol = λ i. get_or vs i (w.truth true) }

  -- Some values of given types.
  some : List ValueType → List V
  some [] = []
  some (t ∷ ts) = (w.non_empty t).0 ∷ some ts

  some_typed : (ts : List ValueType) → OfTypes w ts (some ts)
  unfolding some
  some_typed [] = tt
  some_typed (t ∷ ts) = ((w.non_empty t).1, some_typed ts)

  abbrev R : ValueType → V → Type 0
  R t v = w.belongs t v ≡ true

  two_typed : (ms os ts us : List ValueType) (gs outs vs : List V) → OfTypes w ms gs → OfTypes w os outs → OfTypes w (ts ++ us) vs → OfTypes w ((ms ++ (os ++ ts)) ++ us) (gs ++ (outs ++ vs))
  two_typed ms os ts us gs outs vs g o h = rw (append_assoc ms (os ++ ts) us, append_assoc os ts us) (alike-append R ms (os ++ (ts ++ us)) gs (outs ++ vs) g (alike-append R os (ts ++ us) outs vs o h))

  first_shown : (p gs vs : List V) (n m : ℕ) → length p ≡ n → length gs ≡ m → symbols_at (having (p ++ (gs ++ vs))) n m ≡ gs
  first_shown p gs vs n m e f = part gs p vs (w.truth true) n m e f

  second_shown : (p gs outs vs : List V) (n m : ℕ) → length p + length gs ≡ n → length outs ≡ m → symbols_at (having (p ++ (gs ++ (outs ++ vs)))) n m ≡ outs
  second_shown p gs outs vs n m e f = subst (λ (l : List V). symbols_at (having l) n m ≡ outs) (append_assoc p gs (outs ++ vs)) (first_shown (p ++ gs) outs vs n m (length-append p gs ∙ e) f)

  all_shown : (ts : List ValueType) (vs : List V) → OfTypes w ts vs → OfTypes w ts (symbols_at (having vs) 0 (length ts))
  all_shown ts vs h = subst (λ (us : List V). OfTypes w ts us) (sym (subst (λ (l : List V). symbols_at (having l) 0 (length ts) ≡ vs) (append-nil vs) (first_shown [] vs [] 0 (length ts) refl (sym (alike-length R ts vs h))))) h

  module _ (r : Routine) (S : Sound r) (C : HasConstants w r) (start : List V) where
    -- The types of the symbols after those of block k.
    abbrev beyond : ℕ → List ValueType
    beyond k = symbol_types r (drop (suc k) (layout r))

    -- Values for the symbols from number n on, after the values p, that show what is left of a run.
    record Shown {k : ℕ} {cs : List Command} {s : List V} {o : Ending} (d : Run w r start k cs s o) (p : List V) (n : ℕ) : Type 0 where
      rest : List V
      typed : OfTypes w (takes r cs ++ beyond k) rest
      shows : Shows (having (p ++ rest)) r n d

    -- One that shows what is left in block t, with the values bs for the symbols between, shows the step into it.
    entered : {k : ℕ} {s : List V} {o : Ending} (t : ℕ) (i : In t (block r k).targets) (d : Run w r start t (block r t).commands s o) (p : List V) (n : ℕ) (before : List ValueType) (bs : List V)
        → length p + length bs ≡ (place r t).first → beyond k ≡ before ++ ((variables r ++ takes r (block r t).commands) ++ beyond t)
        → OfTypes w before bs → OfTypes w (variables r) s → Shown d ((p ++ bs) ++ s) ((place r t).first + length (variables r)) → Shown (goes {k = k} t i d) p n
    entered {s = s} t i d p n before bs m e B T H =
        record {
          rest = bs ++ (s ++ H.rest);
          typed = rw (e, append_assoc (variables r) (takes r (block r t).commands) (beyond t)) (alike-append R before _ bs _ B (alike-append R (variables r) _ s H.rest T H.typed));
          shows = (
            second_shown p bs s H.rest (place r t).first (length (variables r)) m (sym (alike-length R (variables r) s T)),
            subst (λ (u : List V). Shows (having u) r ((place r t).first + length (variables r)) d) (regroup p bs s H.rest) H.shows,
          );
        }

    shown : {k : ℕ} {cs : List Command} {s : List V} {o : Ending} (d : Run w r start k cs s o) (p : List V) (n : ℕ)
        → length p ≡ n → k < length r.blocks → (place r k).reached ≡ true
        → n + length (takes r cs) ≡ (place r k).first + length (variables r ++ takes r (block r k).commands)
        → SoundCommands r cs → OfTypes w (variables r) s → Shown d p n
    shown (assigns {x = x} {e = y} {s = s} d) p n a l re e h T =
        let H = shown d p n a l re e h.1 (alike_set _ (variables r) s x h.0.0 _ T h.0.1 (expression_typed w r C s T y h.0.0 h.0.2)) in
        record { rest = H.rest; typed = H.typed; shows = H.shows }
    shown (asserts g d) p n a l re e h T =
        let H = shown d p n a l re e h.1 T in
        record { rest = H.rest; typed = H.typed; shows = H.shows }
    shown (asserts_false g) p n a l re e h T = record { rest = some _; typed = some_typed _; shows = tt }
    shown (assumes g d) p n a l re e h T =
        let H = shown d p n a l re e h.1 T in
        record { rest = H.rest; typed = H.typed; shows = H.shows }
    shown (assumes_false g) p n a l re e h T = record { rest = some _; typed = some_typed _; shows = tt }
    shown (havocs {x = x} {t = t} {s = s} g v b d) p n a l re e h T =
        let H = shown d (p ++ (v ∷ [])) (suc n) (rw (length-append p (v ∷ [])) (omega arith)) l re (omega arith) h.1 (alike_set _ (variables r) s x t v T g b) in
        record {
          rest = v ∷ H.rest;
          typed = (rw (get_or_from_slice_get (variables r) x t bool g) b, H.typed);
          shows = (get_or_at p v H.rest (w.truth true) n a, subst (λ (u : List V). Shows (having u) r (suc n) d) (append_assoc p (v ∷ []) H.rest) H.shows);
        }
    shown (calls {k = k} {p = q} {xs = xs} {cs = cs} {s = s} g gs outs G O E d) p n a l re e h T =
        let P = procedure r q in
        let M = alike-put _ (variables r) s P.modifies (modified_types r P) gs T (modified_places r.globals _ P.modifies h.0.0.modifies_globals) G in
        let lg = alike-length R (modified_types r P) gs G in
        let lo = alike-length R P.outs outs O in
        let H = shown d ((p ++ gs) ++ outs) (n + length gs + length outs) (rw (length-append (p ++ gs) outs, length-append p gs) (omega arith)) l re
        (omega (arith, length-append (modified_types r P) (P.outs ++ takes r cs), length-append P.outs (takes r cs))) h.1 (alike-put _ (variables r) _ xs P.outs outs M h.0.2 O) in
        record {
          rest = gs ++ (outs ++ H.rest);
          typed = two_typed (modified_types r P) P.outs (takes r cs) (beyond k) gs outs H.rest G O H.typed;
          shows = (first_shown p gs (outs ++ H.rest) n (length gs) a refl, second_shown p gs outs H.rest (n + length gs) (length outs) (omega arith) refl, subst (λ (u : List V). Shows (having u) r (n + length gs + length outs) d) (regroup p gs outs H.rest) H.shows);
        }
    shown (calls_false g) p n a l re e h T = record { rest = some _; typed = some_typed _; shows = tt }
    shown (calls_stalled {k = k} {p = q} {cs = cs} g gs outs G O E) p n a l re e h T =
        let vs = some (takes r cs ++ beyond k) in
        record {
          rest = gs ++ (outs ++ vs);
          typed = two_typed (modified_types r (procedure r q)) (procedure r q).outs (takes r cs) (beyond k) gs outs vs G O (some_typed _);
          shows = (first_shown p gs (outs ++ vs) n (length gs) a refl, second_shown p gs outs vs (n + length gs) (length outs) (omega arith) refl);
        }
    shown (goes {k = k} {s = s} t i d) p n a l re e h T =
        let lt = later_target k (length r.blocks) t (block r k).targets (S.targets_later k l) i in
        let re' = target_reached r k t lt.0 lt.1 re i in
        let L = lies_later r r.blocks _ 0 0 k t lt.0 re re' in
        let bs = some L.before in
        let lb = alike-length R L.before bs (some_typed L.before) in
        let ls = alike-length R (variables r) s T in
        let m : length p + length bs ≡ (place r t).first = omega (arith, L.number) in
        entered t i d p n L.before bs m L.split (some_typed L.before) T
        (shown d ((p ++ bs) ++ s) ((place r t).first + length (variables r)) (rw (length-append (p ++ bs) s, length-append p bs) (omega arith)) lt.1 re'
        (rw (length-append (variables r) (takes r (block r t).commands)) (omega arith)) (S.commands_sound t lt.1) T)
    shown (returns g f) p n a l re e h T = record { rest = some _; typed = some_typed _; shows = tt }
    shown (returns_false g f) p n a l re e h T = record { rest = some _; typed = some_typed _; shows = tt }

-- Every run has a reading that fits.
pub has_reading : (V : Type 0) → HasReading V
has_reading V r S w start o d =
    let cs = (block r 0).commands in
    let re = first_reached r S.some_block in
    let L = lies r r.blocks _ 0 0 0 re in
    let z : (place r 0).first ≡ 0 = first_zero r in
    let none : L.before ≡ [] = nil_from_length L.before (omega (arith, L.number)) in
    let H = shown w r S d.constants_typed start d.steps start (length (variables r)) (sym (alike-length _ (variables r) start d.start_typed)) S.some_block re
    (omega (arith, length-append (variables r) (takes r cs))) (S.commands_sound 0 S.some_block) d.start_typed in
    let T : OfTypes w (symbol_types r (layout r)) (start ++ H.rest) = rw (L.split, none, append_assoc (variables r) (takes r cs) _) (alike-append _ (variables r) _ start H.rest d.start_typed H.typed) in (
      (having w (start ++ H.rest)).symbol,
      all_shown w (symbol_types r (layout r)) (start ++ H.rest) T,
      (first_shown w [] start H.rest 0 (length (variables r)) refl (sym (alike-length _ (variables r) start d.start_typed)), H.shows),
    )

-- Where the formula is true in every fitting reading, no run goes wrong.
pub true_is_right : (V : Type 0) → TrueIsRight V
true_is_right V r S w v start d =
    let h = has_reading V r S w start wrong d in
    let q : Reading V = record { world = w; symbol = h.0 } in
    false≢true (w.apart false true (sym (wrong_is_false V r S q h.1 start d h.2) ∙ v d.constants_typed h.0 h.1))
