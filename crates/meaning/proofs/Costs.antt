-- How many tells each part of the telling makes.
use Rattle.std.proofs.Common.{◌≡◌, ℕ, zero, suc, ◌+◌, ◌-◌, ◌*◌, ◌<◌, ◌≤◌, Bool, true, false, cond, ◌||◌, List, [], ◌∷◌, ◌++◌, map, length, get_or, set, refl, ap, subst, suc-mul, add-mul, arith}
use Rattle.std.proofs.lemmas.List.{length-append, length-map}
use Rattle.language.specs.Lists.{Alike}
use Rattle.world.specs.Tells.{Tell}
use Rattle.meaning.specs.Routine.{Expression, leaf, constant, variable, before, one, two, Command, assign, assert, assume, havoc, call, Block, Procedure, Routine, no_block, procedure, variables, SoundCommands, Sound}
use Rattle.meaning.specs.Telling.{Telling, answer, ◌>>=◌, tell, tell_symbols, tell_value, tell_values, Check, tested, assumed, Passed, tell_commands, takes, Placed, member, places, layout, Begun, tell_return, tell_block, tell_if_reached, forward, tell_links, unbegun, tell_targets, tell_checks, tell_formula, backward, telling, told}
use Rattle.meaning.specs.Bound.{size, sizes, weight, entries, called, returning, total, T}
use Rattle.meaning.proofs.Alikes.{alike-length}

-- The telling makes at most n tells, and its answer is P.
record Costs {A : Type 0} (m : Telling A) (n : ℕ) (P : A → Type 0) : Type 0 where
  pub most : (s : List Tell) → length (m s).1 ≤ length s + n
  pub post : (s : List Tell) → P (m s).0

cost_answer : {A : Type 0} {P : A → Type 0} (a : A) → P a → Costs (answer a) 0 P
unfolding answer
cost_answer a h = record { most = λ s. omega arith; post = λ s. h }

cost_tell : (c a : ℕ) (es : List ℕ) → Costs (tell c a es) 1 (λ e. Unit {0})
unfolding tell
cost_tell c a es = record { most = λ s. omega arith; post = λ s. tt }

cost_bind : {A B : Type 0} {m : Telling A} {f : A → Telling B} {a b : ℕ} {P : A → Type 0} {Q : B → Type 0} → Costs m a P → ((x : A) → P x → Costs (f x) b Q) → Costs (m >>= f) (a + b) Q
unfolding ◌>>=◌
cost_bind {m = m} {f = f} {a = a} {b = b} h k =
    record { most = λ s. bound (length s) (length (m s).1) _ (h.most s) ((k (m s).0 (h.post s)).most (m s).1); post = λ s. (k (m s).0 (h.post s)).post (m s).1 }
  where
    bound : (x y z : ℕ) → y ≤ x + a → z ≤ y + b → z ≤ x + (a + b)
    bound x y z g h = omega arith

cost_more : {A : Type 0} {m : Telling A} {a b : ℕ} {P : A → Type 0} → Costs m a P → a ≤ b → Costs m b P
cost_more {m = m} {a = a} {b = b} h l = record { most = λ s. go (length s) (length (m s).1) (h.most s); post = h.post }
  where
    go : (x y : ℕ) → y ≤ x + a → y ≤ x + b
    go x y g = omega arith

symbols_cost : (m n : ℕ) → Costs (tell_symbols n m) m (λ xs. length xs ≡ m)
symbols_cost zero n = cost_answer [] refl
symbols_cost (suc m) n =
    cost_more (cost_bind (cost_tell 7 n []) (λ x _. cost_bind (symbols_cost m (suc n)) (λ xs h. cost_answer (x ∷ xs) (ap suc h)))) (omega arith)

value_cost : (e : Expression) (s o : List ℕ) → Costs (tell_value s o e) (size e) (λ x. Unit {0})
value_cost (leaf c a) s o = cost_tell c a []
value_cost (constant n) s o = cost_tell 5 n []
value_cost (variable x) s o = cost_more (cost_answer (get_or s x 0) tt) (omega arith)
value_cost (before x) s o = cost_more (cost_answer (get_or o x 0) tt) (omega arith)
value_cost (one c e) s o = cost_bind (value_cost e s o) (λ x _. cost_tell c 0 (x ∷ []))
value_cost (two c e f) s o =
    cost_more (cost_bind (value_cost e s o) (λ x _. cost_bind (value_cost f s o) (λ y _. cost_tell c 0 (x ∷ y ∷ [])))) (omega arith)

values_cost : (es : List Expression) (s o : List ℕ) → Costs (tell_values s o es) (sizes es) (λ xs. length xs ≡ length es)
values_cost [] s o = cost_answer [] refl
values_cost (e ∷ es) s o =
    cost_more (cost_bind (value_cost e s o) (λ x _. cost_bind (values_cost es s o) (λ xs h. cost_answer (x ∷ xs) (ap suc h)))) (omega arith)

-- The tells of commands.
fw : Routine → List Command → ℕ
fw r [] = 0
fw r (assign x e ∷ cs) = size e + fw r cs
fw r (assert e ∷ cs) = size e + fw r cs
fw r (assume e ∷ cs) = size e + fw r cs
fw r (havoc x ∷ cs) = 1 + fw r cs
fw r (call p es xs ∷ cs) = sizes es + (sizes (procedure r p).requires + (length (procedure r p).modifies + (length (procedure r p).outs + (sizes (procedure r p).ensures + fw r cs))))

-- The conditions that they leave.
ck : Routine → List Command → ℕ
ck r [] = 0
ck r (assign x e ∷ cs) = ck r cs
ck r (assert e ∷ cs) = 1 + ck r cs
ck r (assume e ∷ cs) = 1 + ck r cs
ck r (havoc x ∷ cs) = ck r cs
ck r (call p es xs ∷ cs) = length (procedure r p).requires + length (procedure r p).ensures + ck r cs

spend : (r : Routine) (cs : List Command) → SoundCommands r cs → fw r cs + ck r cs ≤ entries cs + called r cs
unfolding fw ck
spend r [] h = omega arith
spend r (assign x e ∷ cs) h = let i = spend r cs h.1 in omega arith
spend r (assert e ∷ cs) h = let i = spend r cs h.1 in omega arith
spend r (assume e ∷ cs) h = let i = spend r cs h.1 in omega arith
spend r (havoc x ∷ cs) h = let i = spend r cs h.1 in omega arith
spend r (call p es xs ∷ cs) h =
    let i = spend r cs h.1 in
    let j : length xs ≡ length (procedure r p).outs = alike-length _ xs (procedure r p).outs h.0.2 in
    omega arith

call_checks : (r : Routine) (p : Procedure) (rs qs : List ℕ) (z : Passed ℕ) (n : ℕ) → length rs ≡ length p.requires → length qs ≡ length p.ensures → length z.checks ≡ n
    → length ((map tested rs ++ map assumed qs) ++ z.checks) ≡ length p.requires + length p.ensures + n
call_checks r p rs qs z n a b c = simp (length-append, length-map) (rw (a, b, c))

commands_cost : (r : Routine) (cs : List Command) (n : ℕ) (s : List ℕ) → Costs (tell_commands r n s cs) (fw r cs) (λ p. length p.checks ≡ ck r cs)
unfolding fw ck
commands_cost r [] n s = cost_answer _ refl
commands_cost r (assign x e ∷ cs) n s = cost_bind (value_cost e s []) (λ y _. commands_cost r cs n (set s x y))
commands_cost r (assert e ∷ cs) n s =
    cost_more (cost_bind (value_cost e s []) (λ y _. cost_bind (commands_cost r cs n s) (λ p h. cost_answer _ (omega arith)))) (omega arith)
commands_cost r (assume e ∷ cs) n s =
    cost_more (cost_bind (value_cost e s []) (λ y _. cost_bind (commands_cost r cs n s) (λ p h. cost_answer _ (omega arith)))) (omega arith)
commands_cost r (havoc x ∷ cs) n s = cost_bind (cost_tell 7 n []) (λ y _. commands_cost r cs (suc n) (set s x y))
commands_cost r (call p es xs ∷ cs) n s =
    let P = procedure r p in
    let a = length P.modifies in
    let b = length P.outs in
    cost_more (cost_bind (values_cost es s []) (λ ins _.
    cost_bind (values_cost P.requires _ []) (λ rs hr.
    cost_bind (symbols_cost a n) (λ gs _.
    cost_bind (symbols_cost b (n + a)) (λ os _.
    cost_bind (values_cost P.ensures _ s) (λ qs hq.
    cost_bind (commands_cost r cs (n + a + b) _) (λ z hz.
    cost_answer _ (call_checks r P rs qs z (ck r cs) hr hq hz)))))))) (omega arith)

-- The tells of a return.
rf : Routine → List ℕ → ℕ
rf r [] = sizes r.own.ensures
rf r (t ∷ ts) = 0

-- The conditions that it leaves.
rk : Routine → List ℕ → ℕ
rk r [] = length r.own.ensures
rk r (t ∷ ts) = 0

return_cost : (r : Routine) (ts start : List ℕ) (p : Passed ℕ) → Costs (tell_return r start p ts) (rf r ts) (λ z. length z.checks ≡ length p.checks + rk r ts)
unfolding rf rk
return_cost r (t ∷ ts) start p = cost_answer p (omega arith)
return_cost r [] start p =
    cost_more (cost_bind (values_cost r.own.ensures p.ending start) (λ es h. cost_answer _ (simp (length-append, length-map) (rw h)))) (omega arith)

-- What a told block leaves.
record Left (r : Routine) (x : Begun ℕ) (b : Placed) : Type 0 where
  pub place_is : x.placed ≡ b
  pub symbols_most : length x.symbols ≤ length (variables r)
  pub checks_most : length x.passed.checks ≤ ck r b.block.commands + rk r b.block.targets

-- The tells of a block, but for its symbols.
ff : Routine → Placed → ℕ
ff r b = fw r b.block.commands + rf r b.block.targets

block_cost : (r : Routine) (start s : List ℕ) (b : Placed) → length s ≤ length (variables r) → Costs (tell_block r start b s) (ff r b) (λ x. Left r x b)
unfolding ff
block_cost r start s b l =
    cost_more (cost_bind (commands_cost r b.block.commands _ s) (λ p h.
    cost_bind (return_cost r b.block.targets start p) (λ z g.
    cost_answer _ (record { place_is = refl; symbols_most = l; checks_most = omega arith })))) (omega arith)

one_cost : (r : Routine) (start : List ℕ) (b : Placed) (c : Bool) → Costs (tell_if_reached r start b c) (length (variables r) + ff r b) (λ x. Left r x b)
one_cost r start b false = cost_more (cost_answer _ (record { place_is = refl; symbols_most = omega arith; checks_most = omega arith })) (omega arith)
one_cost r start b true = cost_bind (symbols_cost (length (variables r)) b.first) (λ s h. block_cost r start s b (omega arith))

-- The tells of blocks.
fsum : Routine → List Placed → ℕ
fsum r [] = 0
fsum r (b ∷ bs) = (length (variables r) + ff r b) + fsum r bs

forward_cost : (r : Routine) (start : List ℕ) (bs : List Placed) → Costs (forward r start bs) (fsum r bs) (λ xs. Alike (Left r) xs bs)
unfolding fsum
forward_cost r start [] = cost_answer [] tt
forward_cost r start (b ∷ bs) =
    cost_more (cost_bind (one_cost r start b b.reached) (λ x h.
    cost_bind (forward_cost r start bs) (λ xs g. cost_answer (x ∷ xs) (h, g)))) (omega arith)

links_cost : (ss es : List ℕ) (f : ℕ) → Costs (tell_links ss es f) (2 * length ss) (λ x. Unit {0})
links_cost [] es f = cost_answer f tt
links_cost (s ∷ ss) [] f = cost_more (cost_answer f tt) (omega arith)
links_cost (s ∷ ss) (e ∷ es) f =
    cost_more (cost_bind (links_cost ss es f) (λ y _. cost_bind (cost_tell 14 0 (s ∷ e ∷ [])) (λ x _. cost_tell 28 0 (x ∷ y ∷ [])))) (omega arith)

-- The tells of the targets' formulas, joined, v being the number of variables.
tc : ℕ → List ℕ → ℕ
tc v [] = 1
tc v (t ∷ ts) = length (t ∷ ts) * (2 * v + 1)

targets_cost : (v k : ℕ) (xs : List (Begun ℕ)) → ((j : ℕ) → length (get_or xs j unbegun).symbols ≤ v) → (ts fs ending : List ℕ) → Costs (tell_targets k xs fs ending ts) (tc v ts) (λ x. Unit {0})
unfolding tc
targets_cost v k xs h [] fs ending = cost_tell 2 0 []
targets_cost v k xs h (t ∷ []) fs ending =
    let g = h (t - k) in
    cost_more (links_cost (get_or xs (t - k) unbegun).symbols ending (get_or fs (t - k) 0)) (omega arith)
targets_cost v k xs h (t ∷ u ∷ ts) fs ending =
    let g = h (t - k) in
    let n = length (get_or xs (t - k) unbegun).symbols in
    cost_more (cost_bind (targets_cost v k xs h (u ∷ ts) fs ending) (λ y _.
    cost_bind (links_cost (get_or xs (t - k) unbegun).symbols ending (get_or fs (t - k) 0)) (λ x _. cost_tell 26 0 (x ∷ y ∷ [])))) (rw (suc-mul (suc (length ts)) (2 * v + 1)) (omega arith))

checks_cost : (cs : List (Check ℕ)) (f : ℕ) → Costs (tell_checks cs f) (length cs) (λ x. Unit {0})
checks_cost [] f = cost_answer f tt
checks_cost (tested x ∷ cs) f = cost_more (cost_bind (checks_cost cs f) (λ y _. cost_tell 26 0 (x ∷ y ∷ []))) (omega arith)
checks_cost (assumed x ∷ cs) f = cost_more (cost_bind (checks_cost cs f) (λ y _. cost_tell 28 0 (x ∷ y ∷ []))) (omega arith)

-- The tells of a block's formula.
bb : Routine → Placed → ℕ
bb r b = tc (length (variables r)) b.block.targets + (ck r b.block.commands + rk r b.block.targets)

formula_cost : (r : Routine) (k : ℕ) (xs : List (Begun ℕ)) (fs : List ℕ) (x : Begun ℕ) (b : Placed) (c : Bool) → ((j : ℕ) → length (get_or xs j unbegun).symbols ≤ length (variables r)) → Left r x b → Costs (tell_formula k xs fs x c) (bb r b) (λ x. Unit {0})
unfolding bb
formula_cost r k xs fs x b false h l = cost_more (cost_answer 0 tt) (omega arith)
formula_cost r k xs fs x b true h l =
    let e : tc (length (variables r)) x.placed.block.targets ≡ tc (length (variables r)) b.block.targets = ap (λ (p : Placed). tc (length (variables r)) p.block.targets) l.place_is in
    let g = l.checks_most in
    cost_more (cost_bind (targets_cost (length (variables r)) k xs h x.placed.block.targets fs x.passed.ending) (λ f _. checks_cost x.passed.checks f)) (omega arith)

symbols_short : (r : Routine) (xs : List (Begun ℕ)) (bs : List Placed) → Alike (Left r) xs bs → (j : ℕ) → length (get_or xs j unbegun).symbols ≤ length (variables r)
symbols_short r [] bs h j = omega arith
symbols_short r (x ∷ xs) [] h j = absurd h
symbols_short r (x ∷ xs) (b ∷ bs) h zero = h.0.symbols_most
symbols_short r (x ∷ xs) (b ∷ bs) h (suc j) = symbols_short r xs bs h.1 j

-- Those of several.
bsum : Routine → List Placed → ℕ
bsum r [] = 0
bsum r (b ∷ bs) = bb r b + bsum r bs

backward_cost : (r : Routine) (bs : List Placed) (xs : List (Begun ℕ)) (k : ℕ) → Alike (Left r) xs bs → Costs (backward k xs) (bsum r bs) (λ fs. Unit {0})
unfolding bsum
backward_cost r [] [] k h = cost_answer [] tt
backward_cost r [] (x ∷ xs) k h = absurd h
backward_cost r (b ∷ bs) [] k h = absurd h
backward_cost r (b ∷ bs) (x ∷ xs) k h =
    cost_more (cost_bind (backward_cost r bs xs (suc k) h.1) (λ fs _.
    cost_bind (formula_cost r (suc k) xs fs x b x.placed.reached (symbols_short r xs bs h.1) h.0) (λ f _. cost_answer _ tt))) (omega arith)

one_block : (r : Routine) (b : Placed) → SoundCommands r b.block.commands → (ts : List ℕ) → b.block.targets ≡ ts
    → (length (variables r) + (fw r b.block.commands + rf r ts)) + (tc (length (variables r)) ts + (ck r b.block.commands + rk r ts)) ≤ entries b.block.commands + called r b.block.commands + returning r ts + length ts * (2 * length (variables r) + 1) + (length (variables r) + 1)
unfolding rf rk tc
one_block r b h [] e = let i = spend r b.block.commands h in omega arith
one_block r b h (t ∷ ts) e = let i = spend r b.block.commands h in omega arith

-- T without the variables, axioms and own requires.
abbrev most : Routine → List Block → ℕ
most r bs =
    total (λ b. entries b.commands) bs
    + total (λ b. called r b.commands) bs
    + total (λ b. returning r b.targets) bs
    + length bs * (length (variables r) + 1)
    + total (λ b. length b.targets) bs * (2 * length (variables r) + 1)

sums : (r : Routine) (bs : List Block) (m : ℕ → Bool) (n k : ℕ) → ((j : ℕ) → j < length bs → SoundCommands r (get_or bs j no_block).commands) → fsum r (places r m n k bs) + bsum r (places r m n k bs) ≤ most r bs
unfolding fsum bsum ff bb
sums r [] m n k h = omega arith
sums r (b ∷ bs) m n k h =
    let p : Placed = record { reached = m k; first = n; block = b } in
    let i = sums r bs (cond (m k) (λ t. m t || member t b.targets) m) (cond (m k) (n + length (variables r ++ takes r b.commands)) n) (suc k) (λ j l. h (suc j) (omega arith)) in
    let g = one_block r p (h 0 (omega arith)) b.targets refl in
    let d = add-mul (length b.targets) (total (λ b. length b.targets) bs) (2 * length (variables r) + 1) in
    omega arith

telling_cost : (r : Routine) (b : Placed) (bs : List Placed) → Costs (telling r (b ∷ bs)) (length (variables r) + (weight r.axioms + (weight r.own.requires + (fsum r (b ∷ bs) + bsum r (b ∷ bs))))) (λ e. Unit {0})
unfolding fsum bsum
telling_cost r b bs =
    let v = length (variables r) in
    let A = r.axioms in
    let Q = r.own.requires in
    cost_more (cost_bind (symbols_cost v 0) (λ start hs.
    cost_bind (values_cost A [] []) (λ axioms ha.
    cost_bind (values_cost Q start []) (λ requires hq.
    cost_bind (block_cost r start start b (omega arith)) (λ x hx.
    cost_bind (forward_cost r start bs) (λ xs hxs.
    cost_bind (backward_cost r bs xs 1 hxs) (λ fs _.
    cost_bind (formula_cost r 1 xs fs x b true (symbols_short r xs bs hxs) hx) (λ f _.
    cost_bind (cost_more {b = length Q} (checks_cost (map assumed requires) f) (rw (length-map requires (λ x. assumed x)) (omega arith))) (λ g _.
    cost_more {b = length A} (checks_cost (map assumed axioms) g) (rw (length-map axioms (λ x. assumed x)) (omega arith))))))))))) (omega arith)

-- A routine's formula takes at most T tells.
pub at_most_t : (r : Routine) → Sound r → length (told r).1 ≤ T r
at_most_t r S = go (layout r) refl
  where
    go : (l : List Placed) → layout r ≡ l → length (told r).1 ≤ T r
    go [] e = rw e (let h : length (answer {A = ℕ} 0 []).1 ≤ 0 + 0 = (cost_answer {A = ℕ} {P = λ x. Unit {0}} 0 tt).most [] in omega arith)
    go (b ∷ bs) e =
        let h : length (telling r (b ∷ bs) []).1 ≤ 0 + _ = (telling_cost r b bs).most [] in
        let g : fsum r (b ∷ bs) + bsum r (b ∷ bs) ≤ most r r.blocks = subst (λ (l : List Placed). fsum r l + bsum r l ≤ most r r.blocks) e (sums r r.blocks _ 0 0 S.commands_sound) in
        rw e (omega arith)
