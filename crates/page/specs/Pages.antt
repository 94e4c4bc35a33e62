-- What a page of numbers is, and what the reader shows of it.
use Rattle.std.specs.Prelude.{ℕ, ◌+◌, ◌*◌, Bool, cond, ◌&&◌, List, [], ◌∷◌, length, take, drop, Some, None, Option, ◌==◌, nat_le, slice_index}
use Rattle.page.specs.declared.Entry.{Entry}
use Rattle.page.specs.declared.Page.{Page}
use Rattle.page.specs.declared.Part.{Part}

-- Some of a page's numbers, with the index at which they begin.
pub record Half : Type 0 where
  pub place : ℕ
  pub numbers : List ℕ

-- A page: sizes a and b, then a + b left numbers, then a + b right numbers.
pub record Sheet : Type 0 where
  pub a : ℕ
  pub b : ℕ
  pub left : Half
  pub right : Half

abbrev pub half : Part → Half
half p = record { place = p.place; numbers = p.numbers.now }

abbrev pub shown : Page → Sheet
shown p = record { a = p.a; b = p.b; left = half p.left; right = half p.right }

-- The two sizes, and the rest taken apart: the left numbers begin at index 2, the right ones behind them.
abbrev pub sheet_of : ℕ → ℕ → List ℕ → Sheet
sheet_of a b rest = record {
  a = a;
  b = b;
  left = record { place = 2; numbers = take (a + b) rest };
  right = record { place = 2 + (a + b); numbers = drop (a + b) rest };
}

-- There are at most 1,024 entries, and just the numbers for these.
abbrev pub formed : ℕ → ℕ → List ℕ → Bool
formed a b rest = nat_le (a + b) 1024 && length rest == 2 * (a + b)

abbrev pub page_with : ℕ → ℕ → List ℕ → Option Sheet
page_with a b rest = cond (formed a b rest) (Some (sheet_of a b rest)) None

-- The page in these numbers, if they have the form of one.
abbrev pub page_of : List ℕ → Option Sheet
page_of numbers = cond (nat_le 2 (length numbers)) (page_with (slice_index numbers 0) (slice_index numbers 1) (drop 2 numbers)) None

-- The left and right numbers, entry by entry.
abbrev pub paired : List ℕ → List ℕ → List Entry
paired [] rights = []
paired (l ∷ lefts) [] = []
paired (l ∷ lefts) (r ∷ rights) = record { left = l; right = r } ∷ paired lefts rights

-- The entries of a page.
abbrev pub entries_of : Sheet → List Entry
entries_of p = paired p.left.numbers p.right.numbers
