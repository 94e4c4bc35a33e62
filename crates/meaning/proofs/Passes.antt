-- What the telling amounts to in a reading, without numbers of tells: conditions as values, and each block's formula as a truth value.
use Rattle.std.proofs.Common.{ℕ, suc, ◌+◌, ◌-◌, Bool, true, not, ◌&&◌, ◌||◌, List, [], ◌∷◌, ◌++◌, map, length, get_or, set}
use Rattle.world.specs.Worlds.{World, Reading}
use Rattle.meaning.specs.Lists.{put}
use Rattle.meaning.specs.Routine.{Command, assign, assert, assume, havoc, call, Routine, procedure, variables, value, values}
use Rattle.meaning.specs.Runs.{on_entry, on_exit}
use Rattle.meaning.specs.Telling.{Check, tested, assumed, Passed, first_checks, Placed, nowhere, symbols_at}

-- What commands leave in a reading, `n` being the number of the next symbol and `s` the values of the variables.
abbrev pub pass : {V : Type 0} → Reading V → Routine → ℕ → List V → List Command → Passed V
pass q r n s [] = record { checks = []; ending = s }
pass q r n s (assign x e ∷ cs) = pass q r n (set s x (value q.world s [] e)) cs
pass q r n s (assert e ∷ cs) = first_checks (tested (value q.world s [] e) ∷ []) (pass q r n s cs)
pass q r n s (assume e ∷ cs) = first_checks (assumed (value q.world s [] e) ∷ []) (pass q r n s cs)
pass q r n s (havoc x ∷ cs) = pass q r (suc n) (set s x (q.symbol n)) cs
pass q r n s (call p es xs ∷ cs) =
    let ins = values q.world s [] es in
    let ms = (procedure r p).modifies in
    let gs = symbols_at q n (length ms) in
    let outs = symbols_at q (n + length ms) (length (procedure r p).outs) in
    first_checks (map tested (on_entry q.world r (procedure r p) s ins) ++ map assumed (on_exit q.world r (procedure r p) s (put s ms gs) ins outs))
    (pass q r (n + length ms + length (procedure r p).outs) (put (put s ms gs) xs outs) cs)

-- Is the value true?
abbrev pub holds : {V : Type 0} → World V → V → Bool
holds w v = w.same v (w.truth true)

-- What conditions make of a formula that comes after them.
abbrev pub after : {V : Type 0} → World V → List (Check V) → Bool → Bool
after w [] b = b
after w (tested v ∷ cs) b = holds w v && after w cs b
after w (assumed v ∷ cs) b = not (holds w v) || after w cs b

-- A target's formula behind its links.
abbrev pub linked : {V : Type 0} → World V → List V → List V → Bool → Bool
linked w [] es b = b
linked w (s ∷ ss) [] b = b
linked w (s ∷ ss) (e ∷ es) b = not (w.same s e) || linked w ss es b

-- The formulas of the targets, joined. `bs` and `fs` are the later blocks and their formulas, from number k on.
abbrev pub joined : {V : Type 0} → Reading V → Routine → ℕ → List Placed → List Bool → List V → List ℕ → Bool
joined q r k bs fs s [] = true
joined q r k bs fs s (t ∷ ts) = linked q.world (symbols_at q (get_or bs (t - k) nowhere).first (length (variables r))) s (get_or fs (t - k) true) && joined q r k bs fs s ts

-- The own ensures at a return.
abbrev pub own_checks : {V : Type 0} → Reading V → Routine → List V → List V → List ℕ → List (Check V)
own_checks q r start s [] = map tested (values q.world s start r.own.ensures)
own_checks q r start s (t ∷ ts) = []

-- The rest of a block's formula, from the commands cs on, in the state s, `n` being the number of the next symbol.
abbrev pub rest_formula : {V : Type 0} → Reading V → Routine → List V → ℕ → List Placed → List Bool → List ℕ → ℕ → List V → List Command → Bool
rest_formula q r start k bs fs ts n s cs =
    after q.world ((pass q r n s cs).checks ++ own_checks q r start (pass q r n s cs).ending ts) (joined q r k bs fs (pass q r n s cs).ending ts)

-- A block's formula, the variables being s at its start.
abbrev pub block_formula : {V : Type 0} → Reading V → Routine → List V → ℕ → List Placed → List Bool → Placed → List V → Bool
block_formula q r start k bs fs b s = rest_formula q r start k bs fs b.block.targets (b.first + length (variables r)) s b.block.commands

-- The formulas of the blocks from number k on, each at its symbols.
unfoldable pub formulas : {V : Type 0} → Reading V → Routine → List V → ℕ → List Placed → List Bool
formulas q r start k [] = []
formulas q r start k (b ∷ bs) =
    block_formula q r start (suc k) bs (formulas q r start (suc k) bs) b (symbols_at q b.first (length (variables r))) ∷ formulas q r start (suc k) bs
