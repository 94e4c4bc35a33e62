-- What lists of records hold.
use Rattle.std.specs.Prelude.{◌≡◌, ℕ, ◌+◌, Bool, true, false, cond, not, ◌&&◌, ◌||◌, List, [], ◌∷◌, ◌++◌, map, length, take, drop, Some, None, Option, nat_le, nat_lt}
use Rattle.page.specs.declared.Entry.{Entry}
use Rattle.records.specs.declared.lists.Clause.{Clause}
use Rattle.records.specs.declared.lists.ClauseKind.{ClauseKind}
use Rattle.records.specs.declared.lists.ClauseKind.TheVariants.{Axiom, Requires, Ensures, Modifies}
use Rattle.records.specs.declared.lists.Counts.{Counts}
use Rattle.records.specs.declared.lists.Declaration.{Declaration}
use Rattle.records.specs.declared.lists.DeclarationKind.TheVariants.{Procedure}
use Rattle.records.specs.declared.lists.HeldBook.{HeldBook}
use Rattle.records.specs.declared.lists.Lists.{Lists}
use Rattle.records.specs.Kinds.{same_declaration, same_clause}
use Rattle.records.specs.Book.{Declared, Stated, Book, constants, globals, procedures, belongs}

-- The contents of the lists.
pub record Stored : Type 0 where
  pub declarations : List Declaration
  pub clauses : List Clause
  pub entries : List Entry

abbrev pub stored : Lists → Stored
stored l = record { declarations = l.declarations.now; clauses = l.clauses.now; entries = l.entries.now }

-- The lists are the same places in memory.
abbrev pub Same : Lists → Lists → Type 0
Same l m =
    (m.declarations.ghost_name ≡ l.declarations.ghost_name)
    × (m.clauses.ghost_name ≡ l.clauses.ghost_name)
    × (m.entries.ghost_name ≡ l.entries.ghost_name)

-- The contents in use.
abbrev pub in_use : Counts → Stored → Stored
in_use n st = record {
  declarations = take n.declarations st.declarations;
  clauses = take n.clauses st.clauses;
  entries = take n.entries st.entries;
}

-- A record with its entries.
abbrev pub declared_in : List Entry → Declaration → Declared
declared_in entries d = record { kind = d.kind; name = d.name; ins = d.a; entries = take (d.a + d.b) (drop d.start entries) }

abbrev pub stated_in : List Entry → Clause → Stated
stated_in entries c = record { kind = c.kind; procedure = c.procedure; entries = take c.count (drop c.start entries) }

abbrev pub book_in : Stored → Book
book_in st = record {
  declarations = map (declared_in st.entries) st.declarations;
  clauses = map (stated_in st.entries) st.clauses;
}

-- The book that a reader of the lists sees.
abbrev pub book_of : HeldBook → Book
book_of b = book_in (record { declarations = b.declarations.now; clauses = b.clauses.now; entries = b.entries.now })

-- Each list is as long as the counts say.
abbrev pub long_enough : Counts → Stored → Bool
long_enough n st =
    nat_le n.declarations (length st.declarations)
    && (nat_le n.clauses (length st.clauses) && nat_le n.entries (length st.entries))

-- A declaration's entries lie in the table, and a procedure has at most 16 in- and 16 out-parameters.
abbrev pub parameters_fit : Declaration → Bool
parameters_fit d = not (same_declaration d.kind Procedure) || (nat_le d.a 16 && nat_le d.b 16)

abbrev pub declaration_fits : ℕ → Declaration → Bool
declaration_fits count d = nat_le (d.start + (d.a + d.b)) count && parameters_fit d

abbrev pub declarations_fit : ℕ → List Declaration → Bool
declarations_fit count [] = true
declarations_fit count (d ∷ ds) = declaration_fits count d && declarations_fit count ds

-- May no more than these of one kind be stated: 64 axioms, and 8 requires and 8 ensures clauses for each procedure?
abbrev pub is_full : ClauseKind → ℕ → Bool
is_full Axiom n = nat_le 64 n
is_full Requires n = nat_le 8 n
is_full Ensures n = nat_le 8 n
is_full Modifies n = false

-- How many of these clauses are of that kind, and of that procedure where it is no axiom.
abbrev pub count_of : ClauseKind → ℕ → List Clause → ℕ
count_of kind procedure [] = 0
count_of kind procedure (c ∷ cs) = cond (belongs kind procedure c.kind c.procedure) (1 + count_of kind procedure cs) (count_of kind procedure cs)

-- A clause's entries lie in the table and fill at most one page, its procedure is one of so many, and the clauses before it leave room for it.
abbrev pub clause_fits : ℕ → ℕ → List Clause → Clause → Bool
clause_fits count procedures before c =
    nat_le (c.start + c.count) count
    && (nat_le c.count 1024
    && ((same_clause c.kind Axiom || nat_lt c.procedure procedures)
    && not (is_full c.kind (count_of c.kind c.procedure before))))

abbrev pub clauses_fit : ℕ → ℕ → List Clause → List Clause → Bool
clauses_fit count procedures before [] = true
clauses_fit count procedures before (c ∷ cs) = clause_fits count procedures before c && clauses_fit count procedures (before ++ (c ∷ [])) cs

-- At most 256 constants, 64 globals and 64 procedures.
abbrev pub within_limits : Book → Bool
within_limits b = nat_le (length (constants b)) 256 && (nat_le (length (globals b)) 64 && nat_le (length (procedures b)) 64)

abbrev pub sound : Stored → Bool
sound st =
    declarations_fit (length st.entries) st.declarations
    && (within_limits (book_in st) && clauses_fit (length st.entries) (length (procedures (book_in st))) [] st.clauses)

-- The book in the records, unless one points outside its table or is over a limit.
abbrev pub sound_book : Stored → Option Book
sound_book st = cond (sound st) (Some (book_in st)) None

-- The book that the lists hold; they hold none where a list is shorter than the counts, either.
abbrev pub held_in : Counts → Stored → Option Book
held_in n st = cond (long_enough n st) (sound_book (in_use n st)) None
