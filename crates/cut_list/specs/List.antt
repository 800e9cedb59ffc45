-- Cut lists: lines NAME FROM TO, each the frames FROM to TO of the input of a name.
use Rattle.std.specs.Prelude.{ℕ, ◌+◌, ◌-◌, ◌==◌, ◌&&◌, ◌||◌, nat_le, nat_lt, Bool, true, false, List, [], ◌∷◌, length, slice_index, Option, Some, None, Result, Ok, Err, if◌then◌else◌}
use Rattle.std.specs.List.{slice_split}
use Rattle.std.specs.Str.{is_utf8}
use Rattle.y4m_frames.specs.Lines.{is_line_feed, words, number}
use Rattle.y4m_frames.specs.Header.{◌>>=◌}
use Rattle.cut_list.specs.declared.entry.Entry.{Entry}

-- a list has at most so many bytes, and so many lines
abbrev pub list_limit : ℕ
list_limit = 1048576

abbrev pub lines_limit : ℕ
lines_limit = 4096

-- exactly three words
abbrev pub three_words : List (List ℕ) → Option (List ℕ × List ℕ × List ℕ)
three_words [] = None
three_words (name ∷ []) = None
three_words (name ∷ from ∷ []) = None
three_words (name ∷ from ∷ to ∷ []) = Some (name, from, to)
three_words (name ∷ from ∷ to ∷ more ∷ words) = None

-- the number of a frame, without a leading zero
abbrev pub has_leading_zero : List ℕ → Bool
has_leading_zero digits = nat_lt 1 (length digits) && slice_index digits 0 == 48

unfoldable pub frame_number : List ℕ → Option ℕ
frame_number digits = if has_leading_zero digits then None else number digits

-- a name: 1 to 255 bytes of UTF-8
abbrev pub is_name : List ℕ → Bool
is_name name = nat_le 1 (length name) && nat_le (length name) 255 && is_utf8 name

unfoldable pub name_of : List ℕ → Option (List ℕ)
name_of name = if is_name name then Some name else None

unfoldable pub in_order : List ℕ → ℕ → ℕ → Option Entry
in_order name from to =
    if nat_le from to then Some (record { name = name; from = from; to = to }) else None

-- what a line says, without its line feed
unfoldable pub entry_of : List ℕ → Option Entry
entry_of line = do
  said ← three_words (words line)
  from ← frame_number said.1
  to ← frame_number said.2
  name ← name_of said.0
  in_order name from to

-- The text that a list is split to at its line feeds; a list that ends in a line feed has nothing behind it, and this is
-- no line.
abbrev pub lines_of : List ℕ → List (List ℕ)
lines_of text = slice_split is_line_feed text

abbrev pub is_end : List ℕ → List (List ℕ) → Bool
is_end [] [] = true
is_end [] (next ∷ lines) = false
is_end (b ∷ line) lines = false

-- how many bytes a line takes, with its line feed, which the last one lacks
abbrev pub line_len : List ℕ → List (List ℕ) → ℕ
line_len line [] = length line
line_len line (next ∷ lines) = length line + 1

-- line n, which takes so many bytes, passes a limit
abbrev pub is_past : ℕ → ℕ → ℕ → Bool
is_past n room taken = nat_lt lines_limit n || nat_lt room taken

abbrev pub in_front : Entry → Result (List Entry) ℕ → Result (List Entry) ℕ
in_front e (Ok entries) = Ok (e ∷ entries)
in_front e (Err n) = Err n

abbrev pub entries_by : ℕ → Option Entry → Result (List Entry) ℕ → Result (List Entry) ℕ
entries_by n None others = Err n
entries_by n (Some e) others = in_front e others

-- The entries of the lines n and on, where `room` of their bytes may belong to the list; or the number of the first line
-- that is refused.
unfoldable pub entries_from : ℕ → ℕ → List (List ℕ) → Result (List Entry) ℕ
entries_from n room [] = Ok []
entries_from n room (line ∷ lines) =
    if is_end line lines then Ok []
    else if is_past n room (line_len line lines) then Err n
    else entries_by n (entry_of line) (entries_from (n + 1) (room - line_len line lines) lines)

-- the entries of a whole list; an empty one is refused in its line 1
unfoldable pub entries_of : List ℕ → Result (List Entry) ℕ
entries_of [] = Err 1
entries_of (b ∷ text) = entries_from 1 list_limit (lines_of (b ∷ text))
