-- Lines of a text, words of a line, and numbers of decimal digits.
use Rattle.std.specs.Prelude.{ℕ, Bool, ◌==◌, ◌&&◌, ◌+◌, nat_le, List, [], take, length, Option, Some, None, if◌then◌else◌, position}
use Rattle.std.specs.Borrow.{Bor}
use Rattle.std.specs.List.{slice_split, list_all}
use Rattle.std.specs.Str.Parse.{digits_value}

abbrev pub is_line_feed : ℕ → Bool
is_line_feed b = b == 10

abbrev pub is_space : ℕ → Bool
is_space b = b == 32

abbrev pub is_digit : ℕ → Bool
is_digit b = nat_le 48 b && nat_le b 57

-- how many bytes stand before the first line feed, where one is among the first n bytes
unfoldable pub line_within : ℕ → List ℕ → Option ℕ
line_within n s = position is_line_feed (take n s)

-- the words of a line, of which some may be empty
unfoldable pub words : List ℕ → List (List ℕ)
words line = slice_split is_space line

-- a number of 1 to 9 decimal digits
unfoldable pub number : List ℕ → Option ℕ
number digits =
    if nat_le 1 (length digits) && nat_le (length digits) 9 && list_all is_digit digits
    then Some (digits_value 10 digits) else None

-- the words of what is left of a line, and a measure of it
abbrev pub words_left : Option (Bor (List ℕ)) → List (List ℕ)
words_left None = []
words_left (Some line) = words line.now

abbrev pub to_read : Option (Bor (List ℕ)) → ℕ
to_read None = 0
to_read (Some line) = length line.now + 1
