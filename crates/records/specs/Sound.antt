-- A book that was found sound.
use Rattle.records.specs.declared.sound.SoundBook.{SoundBook}
use Rattle.records.specs.Book.{Book}
use Rattle.records.specs.Held.{book_of}

-- The book in its records.
abbrev pub shown : SoundBook → Book
shown b = book_of b.held
