-- What Declare and Settle answer, and what they leave.
use Rattle.std.specs.Prelude.{ℕ, ◌+◌, ◌<◌, ◌≤◌, Bool, cond, ◌&&◌, ◌||◌, List, ◌++◌, length, take, drop, Some, None, Ok, Err, Option, Result, ◌==◌, nat_le, nat_lt, slice_set}
use Rattle.fault.specs.declared.Cause.{Cause}
use Rattle.fault.specs.declared.Cause.TheVariants.{Call}
use Rattle.fault.specs.declared.Fault.{Fault}
use Rattle.fault.specs.declared.Ground.TheVariants.{Form, Lists}
use Rattle.page.specs.declared.Entry.{Entry}
use Rattle.page.specs.Pages.{Sheet, entries_of, page_of}
use Rattle.records.specs.declared.lists.ClauseKind.{ClauseKind}
use Rattle.records.specs.declared.lists.ClauseKind.TheVariants.{Axiom, Requires, Ensures, Modifies}
use Rattle.records.specs.declared.lists.Counts.{Counts}
use Rattle.records.specs.declared.lists.DeclarationKind.{DeclarationKind}
use Rattle.records.specs.declared.lists.DeclarationKind.TheVariants.{Constants, Globals, Procedure}
use Rattle.records.specs.Book.{Book, Numbered, clauses_of, procedure_named}
use Rattle.records.specs.Held.{Stored, held_in}
use Rattle.book.specs.declared.clauses.Stating.{Stating}
use Rattle.book.specs.declared.states.Open.{Open}
use Rattle.book.specs.declared.states.Settled.{Settled}
use Rattle.book.specs.declared.kinds.Kind.{Kind}
use Rattle.book.specs.declared.kinds.Kind.TheVariants.{Declaration, Clause}
use Rattle.book.specs.Kinds.{kind_of}
use Rattle.book.specs.Rules.{axiom_rule, condition_rule, count_of, modifies_rule, procedure_rule, stated_for, values_rule}

-- What a call ends with: its answer, the counts of the book, and the contents of the lists.
pub record Ended : Type 0 where
  pub answer : Result ℕ Fault
  pub counts : Counts
  pub lists : Stored

-- A refusal leaves all as it was.
abbrev pub refused : Cause → Counts → Stored → Ended
refused cause n st = record { answer = Err (record { block = None; cause = cause }); counts = n; lists = st }

-- The page's entries do not fit into the book's 65,536, or not into the list.
abbrev pub overfull : Counts → Stored → Sheet → Bool
overfull n st p = nat_lt 65536 (n.entries + (p.a + p.b)) || nat_lt (length st.entries) (n.entries + (p.a + p.b))

abbrev pub no_declaration_left : Counts → Stored → Sheet → Bool
no_declaration_left n st p = nat_le (length st.declarations) n.declarations || overfull n st p

abbrev pub no_clause_left : Counts → Stored → Sheet → Bool
no_clause_left n st p = nat_le (length st.clauses) n.clauses || overfull n st p

-- Entries written from a place on.
abbrev pub written : List Entry → ℕ → List Entry → List Entry
written old place new = take place old ++ (new ++ drop (place + length new) old)

-- One declaration record more, and its entries.
abbrev pub declaration_added : DeclarationKind → ℕ → Sheet → ℕ → Counts → Stored → Ended
declaration_added kind name p number n st = record {
  answer = Ok number;
  counts = record { declarations = n.declarations + 1; clauses = n.clauses; entries = n.entries + (p.a + p.b) };
  lists = record {
    declarations = slice_set st.declarations n.declarations (record { kind = kind; name = name; start = n.entries; a = p.a; b = p.b });
    clauses = st.clauses;
    entries = written st.entries n.entries (entries_of p);
  };
}

-- One clause record more, and its entries.
abbrev pub clause_added : ClauseKind → ℕ → Sheet → ℕ → Counts → Stored → Ended
clause_added kind procedure p number n st = record {
  answer = Ok number;
  counts = record { declarations = n.declarations; clauses = n.clauses + 1; entries = n.entries + (p.a + p.b) };
  lists = record {
    declarations = st.declarations;
    clauses = slice_set st.clauses n.clauses (record { kind = kind; procedure = procedure; start = n.entries; count = p.a + p.b });
    entries = written st.entries n.entries (entries_of p);
  };
}

-- A declaration that was judged.
abbrev pub declaration_ended : DeclarationKind → ℕ → Sheet → Counts → Stored → Result ℕ Cause → Ended
declaration_ended kind name p n st (Ok number) = declaration_added kind name p number n st
declaration_ended kind name p n st (Err cause) = refused cause n st

-- A clause that was judged.
abbrev pub clause_ended : ClauseKind → Sheet → Counts → Stored → Result Stating Cause → Ended
clause_ended kind p n st (Ok s) = clause_added kind s.procedure p s.number n st
clause_ended kind p n st (Err cause) = refused cause n st

abbrev pub accepting : {A : Type 0} → Option Cause → A → Result A Cause
accepting None a = Ok a
accepting (Some cause) a = Err cause

-- First the sizes are looked at, then whether the lists hold a book, and then the rule.
abbrev pub verdict : {A : Type 0} → Bool → Counts → Stored → (Book → Result A Cause) → Result A Cause
verdict suits n st rule =
    cond suits (elim (held_in n st) [ Some b ↦ rule b | None ↦ Err (Call Lists) ]) (Err (Call Form))

-- A page of constants or globals has a first name and no second size; a procedure has at most 16 in- and 16 out-parameters.
abbrev pub sizes_suit : DeclarationKind → Sheet → Bool
sizes_suit Constants p = nat_lt 0 p.a && p.b == 0
sizes_suit Globals p = nat_lt 0 p.a && p.b == 0
sizes_suit Procedure p = nat_le p.a 16 && nat_le p.b 16

-- Constants or globals by their rule: the number of the first; and a procedure: its number.
abbrev pub declaration_ruled : DeclarationKind → ℕ → Sheet → Bool → Book → Result ℕ Cause
declaration_ruled Constants name p full b = accepting (values_rule Constants name p full b) (count_of Constants b)
declaration_ruled Globals name p full b = accepting (values_rule Globals name p full b) (count_of Globals b)
declaration_ruled Procedure name p full b = accepting (procedure_rule name p full b) (count_of Procedure b)

-- Only a procedure has a name.
abbrev pub name_for : DeclarationKind → ℕ → ℕ
name_for Constants name = 0
name_for Globals name = 0
name_for Procedure name = name

-- The number of the named procedure, which an accepted clause has.
abbrev pub number_in : Option Numbered → ℕ
number_in None = 0
number_in (Some q) = q.number

-- A clause of a procedure: the procedure's number, and its own among the clauses of its kind.
abbrev pub stating : ClauseKind → ℕ → Book → Stating
stating kind name b = record { procedure = number_in (procedure_named name b); number = stated_for kind (procedure_named name b) b }

-- A clause by the rule of its kind; an axiom's number is its own among the axioms.
abbrev pub clause_ruled : ClauseKind → ℕ → Sheet → Bool → Book → Result Stating Cause
clause_ruled Axiom name p full b = accepting (axiom_rule name p full b) (record { procedure = 0; number = length (clauses_of Axiom 0 b) })
clause_ruled Requires name p full b = accepting (condition_rule Requires name p full b) (stating Requires name b)
clause_ruled Ensures name p full b = accepting (condition_rule Ensures name p full b) (stating Ensures name b)
clause_ruled Modifies name p full b = accepting (modifies_rule name p full b) (stating Modifies name b)

-- What is said of a declaration.
abbrev pub declaration_verdict : DeclarationKind → ℕ → Sheet → Counts → Stored → Result ℕ Cause
declaration_verdict kind name p n st = verdict (sizes_suit kind p) n st (λ b. declaration_ruled kind name p (no_declaration_left n st p) b)

-- What is said of a clause, whose page has no second size.
abbrev pub clause_verdict : ClauseKind → ℕ → Sheet → Counts → Stored → Result Stating Cause
clause_verdict kind name p n st = verdict (p.b == 0) n st (λ b. clause_ruled kind name p (no_clause_left n st p) b)

-- What a call of a kind ends with.
abbrev pub declared_as : Kind → ℕ → Counts → Stored → Sheet → Ended
declared_as (Declaration kind) name n st p = declaration_ended kind (name_for kind name) p n st (declaration_verdict kind name p n st)
declared_as (Clause kind) name n st p = clause_ended kind p n st (clause_verdict kind name p n st)

-- By the kind's number.
abbrev pub declared_page : ℕ → ℕ → Counts → Stored → Sheet → Ended
declared_page kind name n st p = elim (kind_of kind) [ Ok k ↦ declared_as k name n st p | Err cause ↦ refused cause n st ]

-- Declare.
abbrev pub declared : ℕ → ℕ → List ℕ → Counts → Stored → Ended
declared kind name numbers n st = elim (page_of numbers) [ Some p ↦ declared_page kind name n st p | None ↦ refused (Call Form) n st ]

-- A new book.
abbrev pub new_book : Open
new_book = record { counts = record { declarations = 0; clauses = 0; entries = 0 } }

-- Settle closes the book, and changes nothing else.
abbrev pub settled : Open → Settled
settled b = record { counts = b.counts }

-- What the adding half of a declaration, or of a clause, needs.
pub record DeclarationRoom (n : Counts) (st : Stored) (p : Sheet) : Type 0 where
  pub within : n.entries + (p.a + p.b) ≤ 65536
  pub entries : n.entries + (p.a + p.b) ≤ length st.entries
  pub free : n.declarations < length st.declarations

pub record ClauseRoom (n : Counts) (st : Stored) (p : Sheet) : Type 0 where
  pub within : n.entries + (p.a + p.b) ≤ 65536
  pub entries : n.entries + (p.a + p.b) ≤ length st.entries
  pub free : n.clauses < length st.clauses
