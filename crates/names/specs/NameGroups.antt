-- Groups of names of a held book.
use Rattle.std.specs.Prelude.{List, []}
use Rattle.page.specs.declared.Entry.{Entry}
use Rattle.records.specs.declared.lists.HeldBook.{HeldBook}
use Rattle.records.specs.Book.{globals, modified, values}
use Rattle.records.specs.Held.{book_of}
use Rattle.names.specs.declared.NameGroup.{NameGroup}
use Rattle.names.specs.declared.NameGroup.TheVariants.{Nothing, Globals, Values, ModifiedBy}

abbrev pub names_in : NameGroup → HeldBook → List Entry
names_in Nothing b = []
names_in Globals b = globals (book_of b)
names_in Values b = values (book_of b)
names_in (ModifiedBy procedure) b = modified procedure (book_of b)
