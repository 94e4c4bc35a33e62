-- Names and types of a page.
use Rattle.std.specs.Prelude.{ℕ, ◌+◌, Bool, cond, ◌&&◌, ◌||◌, List, [], ◌∷◌, ◌++◌, ◌==◌, nat_le}
use Rattle.page.specs.declared.Entry.{Entry}
use Rattle.language.specs.Expressions.{has}
use Rattle.language.specs.Lists.{member}

-- A name is a number from 1 to 65,535.
abbrev pub is_name : ℕ → Bool
is_name n = nat_le 1 n && nat_le n 65535

-- 1 bool, 2 int, 3 ref, 4 name
abbrev pub is_type : ℕ → Bool
is_type n = nat_le 1 n && nat_le n 4

-- A name with 0 on the right.
abbrev pub is_bare_name : Entry → Bool
is_bare_name e = is_name e.left && e.right == 0

-- How many names come before the first that is taken, or that stands among those before it.
abbrev pub fresh : List Entry → List ℕ → List ℕ → ℕ
fresh taken before [] = 0
fresh taken before (x ∷ xs) = cond (has x taken || member x before) 0 (1 + fresh taken (before ++ (x ∷ [])) xs)
