-- The scope that the code's record of a scope stands for.
use Rattle.std.specs.Prelude.{cond, List, [], ◌++◌, Some, None}
use Rattle.page.specs.declared.Entry.{Entry}
use Rattle.language.specs.Expressions.{Scope}
use Rattle.records.specs.Book.{constants, globals}
use Rattle.records.specs.Held.{book_of}
use Rattle.expression.specs.declared.scope.Scope.{Scope as Places}

-- The globals, where they may be used, and the constants.
abbrev pub values_in : Places → List Entry
values_in s = cond s.globals (globals (book_of s.book)) [] ++ constants (book_of s.book)

-- Look-up goes through locals, then parameters, then the rest.
abbrev pub scope_of : Places → Scope
scope_of s = record {
  names = s.locals.now ++ (s.parameters.now ++ values_in s);
  olds = cond s.olds (Some (globals (book_of s.book))) None;
}
