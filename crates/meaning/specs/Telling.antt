-- The telling: which tells a routine's formula consists of, and in which order.
use Rattle.std.specs.Prelude.{◌≡◌, ℕ, zero, suc, ◌+◌, ◌-◌, ◌<◌, Bool, true, false, cond, ◌||◌, List, [], ◌∷◌, ◌++◌, map, length, Some, ◌==◌, slice_index, slice_index_or, slice_set}
use Rattle.std.specs.List.{AllByRecursion}
use Rattle.language.specs.declared.ValueType.{ValueType}
use Rattle.language.specs.Codes.{bool}
use Rattle.world.specs.Worlds.{Reading, OfTypes}
use Rattle.world.specs.Tells.{Tell, arity, meant, Binds}
use Rattle.meaning.specs.Lists.{put, counted}
use Rattle.meaning.specs.Routine.{Expression, leaf, constant, variable, before, one, two, Command, assign, assert, assume, havoc, call, Block, Routine, no_block, procedure, variables, view, modified_types}

-- A telling takes the tells so far, the last one first, to an answer and the tells after it.
-- A tell goes by its number, counted from 0, and operands are such numbers.
abbrev pub Telling : Type 0 → Type 0
Telling A = List Tell → A × List Tell

-- Answers, and tells nothing.
unfoldable pub answer : {A : Type 0} → A → Telling A
answer a s = (a, s)

infixl 10 ◌>>=◌
-- One telling after another, the second made from the answer of the first.
unfoldable pub ◌>>=◌ : {A B : Type 0} → Telling A → (A → Telling B) → Telling B
◌>>=◌ m f s = f (m s).0 (m s).1

-- One tell, which answers its number.
unfoldable pub tell : ℕ → ℕ → List ℕ → Telling ℕ
tell c a es s = (length s, record { code = c; argument = a; operands = es } ∷ s)

-- Tells m symbols from number n on.
abbrev pub tell_symbols : ℕ → ℕ → Telling (List ℕ)
tell_symbols n zero = answer []
tell_symbols n (suc m) = do
  x ← tell 7 n []
  xs ← tell_symbols (suc n) m
  answer (x ∷ xs)

-- Tells an expression, a tell for each code; a variable is the tell that `s` has for it, an old one that of `o`.
abbrev pub tell_value : List ℕ → List ℕ → Expression → Telling ℕ
tell_value s o (leaf c a) = tell c a []
tell_value s o (constant n) = tell 5 n []
tell_value s o (variable x) = answer (slice_index s x)
tell_value s o (before x) = answer (slice_index o x)
tell_value s o (one c e) = do
  x ← tell_value s o e
  tell c 0 (x ∷ [])
tell_value s o (two c e f) = do
  x ← tell_value s o e
  y ← tell_value s o f
  tell c 0 (x ∷ y ∷ [])

-- Several, in their order.
abbrev pub tell_values : List ℕ → List ℕ → List Expression → Telling (List ℕ)
tell_values s o [] = answer []
tell_values s o (e ∷ es) = do
  x ← tell_value s o e
  xs ← tell_values s o es
  answer (x ∷ xs)

-- A condition that a run tests or assumes.
pub data Check (E : Type 0) : Type 0 where
  tested assumed : E → Check E

-- What commands leave for the block's formula: their conditions, in order, and what stands for the variables at their end.
pub record Passed (E : Type 0) : Type 0 where
  pub checks : List (Check E)
  pub ending : List E

-- Conditions before those of the commands that follow.
abbrev pub first_checks : {E : Type 0} → List (Check E) → Passed E → Passed E
first_checks cs p = record { checks = cs ++ p.checks; ending = p.ending }

-- Tells the commands, `n` being the number of the next symbol and `s` the tells that stand for the variables.
abbrev pub tell_commands : Routine → ℕ → List ℕ → List Command → Telling (Passed ℕ)
tell_commands r n s [] = answer (record { checks = []; ending = s })
tell_commands r n s (assign x e ∷ cs) = do
  y ← tell_value s [] e
  tell_commands r n (slice_set s x y) cs
tell_commands r n s (assert e ∷ cs) = do
  y ← tell_value s [] e
  p ← tell_commands r n s cs
  answer (first_checks (tested y ∷ []) p)
tell_commands r n s (assume e ∷ cs) = do
  y ← tell_value s [] e
  p ← tell_commands r n s cs
  answer (first_checks (assumed y ∷ []) p)
tell_commands r n s (havoc x ∷ cs) = do
  y ← tell 7 n []
  tell_commands r (suc n) (slice_set s x y) cs
tell_commands r n s (call q es xs ∷ cs) = do
  ins ← tell_values s [] es
  rs ← tell_values (view r s ins []) [] (procedure r q).requires
  gs ← tell_symbols n (length (procedure r q).modifies)
  os ← tell_symbols (n + length (procedure r q).modifies) (length (procedure r q).outs)
  qs ← tell_values (view r (put s (procedure r q).modifies gs) ins os) s (procedure r q).ensures
  p ← tell_commands r (n + length (procedure r q).modifies + length (procedure r q).outs) (put (put s (procedure r q).modifies gs) xs os) cs
  answer (first_checks (map tested rs ++ map assumed qs) p)

-- The types of the symbols that commands tell, in order.
abbrev pub takes : Routine → List Command → List ValueType
takes r [] = []
takes r (assign x e ∷ cs) = takes r cs
takes r (assert e ∷ cs) = takes r cs
takes r (assume e ∷ cs) = takes r cs
takes r (havoc x ∷ cs) = slice_index_or (variables r) x bool ∷ takes r cs
takes r (call p es xs ∷ cs) = modified_types r (procedure r p) ++ ((procedure r p).outs ++ takes r cs)

-- A block with whether a run can reach it, and the number of its first symbol.
-- A reached block has a symbol for each variable, and then those that its commands tell.
pub record Placed : Type 0 where
  pub reached : Bool
  pub first : ℕ
  pub block : Block

-- Is n in the list?
abbrev pub member : ℕ → List ℕ → Bool
member n [] = false
member n (x ∷ xs) = n == x || member n xs

-- The blocks from number k on, `m` saying which are reached so far and `n` being the number of the next symbol.
-- As targets are later blocks, all that lead to a block are known when it is placed.
abbrev pub places : Routine → (ℕ → Bool) → ℕ → ℕ → List Block → List Placed
places r m n k [] = []
places r m n k (b ∷ bs) =
    record { reached = m k; first = n; block = b }
    ∷ places r (cond (m k) (λ t. m t || member t b.targets) m) (cond (m k) (n + length (variables r ++ takes r b.commands)) n) (suc k) bs

-- All blocks; the first is where a run begins.
abbrev pub layout : Routine → List Placed
layout r = places r (λ k. k == 0) 0 0 r.blocks

-- What stands for the place of a block that there is not.
abbrev pub nowhere : Placed
nowhere = record { reached = false; first = 0; block = no_block }

-- The place of block k.
abbrev pub place : Routine → ℕ → Placed
place r k = slice_index_or (layout r) k nowhere

-- A block of which the formula is still to be told: its place, what stands for the variables at its start, and what its commands left.
pub record Begun (E : Type 0) : Type 0 where
  pub placed : Placed
  pub symbols : List E
  pub passed : Passed E

-- Tells the own ensures at a return, where they are tested last; with a target there is nothing to tell.
abbrev pub tell_return : Routine → List ℕ → Passed ℕ → List ℕ → Telling (Passed ℕ)
tell_return r start p (t ∷ ts) = answer p
tell_return r start p [] = do
  es ← tell_values p.ending start r.own.ensures
  answer (record { checks = p.checks ++ map tested es; ending = p.ending })

-- Tells a block whose variables are `s` at its start.
abbrev pub tell_block : Routine → List ℕ → Placed → List ℕ → Telling (Begun ℕ)
tell_block r start b s = do
  p ← tell_commands r (b.first + length (variables r)) s b.block.commands
  q ← tell_return r start p b.block.targets
  answer (record { placed = b; symbols = s; passed = q })

-- A block other than the first begins with a symbol for each variable. One that is not reached is left out.
abbrev pub tell_if_reached : Routine → List ℕ → Placed → Bool → Telling (Begun ℕ)
tell_if_reached r start b false = answer (record { placed = b; symbols = []; passed = record { checks = []; ending = [] } })
tell_if_reached r start b true = do
  s ← tell_symbols b.first (length (variables r))
  tell_block r start b s

-- Those blocks, in listing order.
abbrev pub forward : Routine → List ℕ → List Placed → Telling (List (Begun ℕ))
forward r start [] = answer []
forward r start (b ∷ bs) = do
  x ← tell_if_reached r start b b.reached
  xs ← forward r start bs
  answer (x ∷ xs)

-- A target's formula f behind an implication for each of its symbols, that the symbol is the value brought; the first variable outermost.
abbrev pub tell_links : List ℕ → List ℕ → ℕ → Telling ℕ
tell_links [] es f = answer f
tell_links (s ∷ ss) [] f = answer f
tell_links (s ∷ ss) (e ∷ es) f = do
  y ← tell_links ss es f
  x ← tell 14 0 (s ∷ e ∷ [])
  tell 28 0 (x ∷ y ∷ [])

-- What stands for a block that was not begun.
abbrev pub unbegun : {E : Type 0} → Begun E
unbegun = record { placed = nowhere; symbols = []; passed = record { checks = []; ending = [] } }

-- The formulas of the targets joined by "and", from the last on; a return has a told true. `xs` and `fs` are the later blocks and their formulas, from number k on.
abbrev pub tell_targets : ℕ → List (Begun ℕ) → List ℕ → List ℕ → List ℕ → Telling ℕ
tell_targets k xs fs ending [] = tell 2 0 []
tell_targets k xs fs ending (t ∷ []) = tell_links (slice_index_or xs (t - k) unbegun).symbols ending (slice_index fs (t - k))
tell_targets k xs fs ending (t ∷ u ∷ ts) = do
  y ← tell_targets k xs fs ending (u ∷ ts)
  x ← tell_links (slice_index_or xs (t - k) unbegun).symbols ending (slice_index fs (t - k))
  tell 26 0 (x ∷ y ∷ [])

-- Conditions before a formula, last to first: a tested one is joined by "and", an assumed one implies it.
abbrev pub tell_checks : List (Check ℕ) → ℕ → Telling ℕ
tell_checks [] f = answer f
tell_checks (tested x ∷ cs) f = do
  y ← tell_checks cs f
  tell 26 0 (x ∷ y ∷ [])
tell_checks (assumed x ∷ cs) f = do
  y ← tell_checks cs f
  tell 28 0 (x ∷ y ∷ [])

-- The formula of a block, if it is reached.
abbrev pub tell_formula : ℕ → List (Begun ℕ) → List ℕ → Begun ℕ → Bool → Telling ℕ
tell_formula k xs fs x false = answer 0
tell_formula k xs fs x true = do
  f ← tell_targets k xs fs x.passed.ending x.placed.block.targets
  tell_checks x.passed.checks f

-- The formulas of the blocks from number k on, the last block's told first.
abbrev pub backward : ℕ → List (Begun ℕ) → Telling (List ℕ)
backward k [] = answer []
backward k (x ∷ xs) = do
  fs ← backward (suc k) xs
  f ← tell_formula (suc k) xs fs x x.placed.reached
  answer (f ∷ fs)

-- The whole: symbols for the variables, axioms, own requires, blocks forward, blocks backward; then the requires and the axioms imply it.
abbrev pub telling : Routine → List Placed → Telling ℕ
telling r [] = answer 0
telling r (b ∷ bs) = do
  start ← tell_symbols 0 (length (variables r))
  axioms ← tell_values [] [] r.axioms
  requires ← tell_values start [] r.own.requires
  x ← tell_block r start b start
  xs ← forward r start bs
  fs ← backward 1 xs
  f ← tell_formula 1 xs fs x true
  g ← tell_checks (map assumed requires) f
  tell_checks (map assumed axioms) g

-- The formula of a routine: its number among the tells, and the tells, the last one first.
abbrev pub told : Routine → ℕ × List Tell
told r = telling r (layout r) []

-- The value of tell number e in a reading.
abbrev pub told_value : {V : Type 0} → Reading V → List Tell → ℕ → V
told_value q [] e = q.world.truth true
told_value q (t ∷ s) e = cond (e == length s) (meant q t.code t.argument (map (told_value q s) t.operands)) (told_value q s e)

-- The value of the routine's formula in a reading.
abbrev pub formula_value : {V : Type 0} → Reading V → Routine → V
formula_value q r = told_value q (told r).1 (told r).0

-- A tell that a reading binds, after the tells s: its operands are earlier tells, as many as its code has, and truth values where its code is of logic.
pub record LawfulTell {V : Type 0} (q : Reading V) (s : List Tell) (t : Tell) : Type 0 where
  pub earlier : AllByRecursion (λ e. e < length s) t.operands
  pub count : arity t.code ≡ Some (length t.operands)
  pub binds : Binds q t.code (map (told_value q s) t.operands)

-- Tells that are all so, the last one first.
abbrev pub Lawful : {V : Type 0} → Reading V → List Tell → Type 0
Lawful q [] = Unit {0}
Lawful q (t ∷ s) = LawfulTell q s t × Lawful q s

-- The values of m symbols from number n on.
abbrev pub symbols_at : {V : Type 0} → Reading V → ℕ → ℕ → List V
symbols_at q n m = counted (λ i. q.symbol i) n m

-- The values of the variables at the start: those of the first symbols.
abbrev pub start_values : {V : Type 0} → Reading V → Routine → List V
start_values q r = symbols_at q 0 (length (variables r))

-- The types of the symbols, in the order of their numbers.
abbrev pub symbol_types : Routine → List Placed → List ValueType
symbol_types r [] = []
symbol_types r (b ∷ bs) = cond b.reached (variables r ++ takes r b.block.commands) [] ++ symbol_types r bs

-- A reading fits a routine if it gives each symbol a value of its type.
abbrev pub Fits : {V : Type 0} → Reading V → Routine → Type 0
Fits q r = OfTypes q.world (symbol_types r (layout r)) (symbols_at q 0 (length (symbol_types r (layout r))))
