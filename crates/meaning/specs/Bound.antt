-- T, the most tells that a routine's formula takes.
use Rattle.std.specs.Prelude.{ℕ, ◌+◌, ◌*◌, List, [], ◌∷◌, length}
use Rattle.meaning.specs.Routine.{Expression, leaf, constant, variable, before, one, two, Command, assign, assert, assume, havoc, call, Block, Routine, procedure, variables}

-- The entries of an expression, one for each leaf, constant, variable and operator.
abbrev pub size : Expression → ℕ
size (leaf c a) = 1
size (constant n) = 1
size (variable x) = 1
size (before x) = 1
size (one c e) = size e + 1
size (two c e f) = size e + size f + 1

-- The entries of several.
abbrev pub sizes : List Expression → ℕ
sizes [] = 0
sizes (e ∷ es) = size e + sizes es

-- Clauses and their entries.
abbrev pub weight : List Expression → ℕ
weight es = length es + sizes es

-- The entries of commands: one for each command and receiver, and those of the expressions.
abbrev pub entries : List Command → ℕ
entries [] = 0
entries (assign x e ∷ cs) = size e + 1 + entries cs
entries (assert e ∷ cs) = size e + 1 + entries cs
entries (assume e ∷ cs) = size e + 1 + entries cs
entries (havoc x ∷ cs) = 1 + entries cs
entries (call p es xs ∷ cs) = sizes es + length xs + 1 + entries cs

-- What calls add: the globals that the procedure modifies, and the weight of its clauses.
abbrev pub called : Routine → List Command → ℕ
called r [] = 0
called r (assign x e ∷ cs) = called r cs
called r (assert e ∷ cs) = called r cs
called r (assume e ∷ cs) = called r cs
called r (havoc x ∷ cs) = called r cs
called r (call p es xs ∷ cs) = length (procedure r p).modifies + weight (procedure r p).requires + weight (procedure r p).ensures + called r cs

-- What a return adds: the weight of the own ensures.
abbrev pub returning : Routine → List ℕ → ℕ
returning r [] = weight r.own.ensures
returning r (t ∷ ts) = 0

-- A number of each block, added up.
abbrev pub total : (Block → ℕ) → List Block → ℕ
total f [] = 0
total f (b ∷ bs) = f b + total f bs

-- V + X + N + K + R + B × (V + 1) + G × (2 × V + 1): variables, weight of axioms and own requires, entries of the commands,
-- what calls add, what returns add, blocks, targets. Blocks that are not reached count too.
abbrev pub T : Routine → ℕ
T r =
    length (variables r)
    + (weight r.axioms + weight r.own.requires)
    + total (λ b. entries b.commands) r.blocks
    + total (λ b. called r b.commands) r.blocks
    + total (λ b. returning r b.targets) r.blocks
    + length r.blocks * (length (variables r) + 1)
    + total (λ b. length b.targets) r.blocks * (2 * length (variables r) + 1)
