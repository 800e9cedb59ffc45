-- Start codes by their names (H.262, table 6-1), and the parts of a stream that elements are by their codes (6.2.2).
use Rattle.std.specs.Prelude.{ℕ, Bool, true, false, ◌&&◌, ◌||◌, ◌==◌, nat_le, if◌then◌else◌, List, [], ◌∷◌, drop}
use Rattle.std.specs.List.{list_all}
use Rattle.mv_bits.specs.Elements.{code}

abbrev pub picture : ℕ
picture = 0x00

-- 01 to AF
abbrev pub is_slice : ℕ → Bool
is_slice code = nat_le 0x01 code && nat_le code 0xAF

abbrev pub user_data : ℕ
user_data = 0xB2

abbrev pub sequence_header : ℕ
sequence_header = 0xB3

abbrev pub extension : ℕ
extension = 0xB5

abbrev pub sequence_end : ℕ
sequence_end = 0xB7

abbrev pub group : ℕ
group = 0xB8

-- what a header carries behind it
abbrev pub is_extension_or_user_data : ℕ → Bool
is_extension_or_user_data code = code == extension || code == user_data

abbrev pub is_carried : List ℕ → Bool
is_carried element = is_extension_or_user_data (code element)

-- an element with this code stands in front
abbrev pub begins_with : ℕ → List (List ℕ) → Bool
begins_with header [] = false
begins_with header (element ∷ others) = code element == header

-- One part: an element with this code, and then extensions and user data alone.
abbrev pub is_one_part : ℕ → List (List ℕ) → Bool
is_one_part header [] = false
is_one_part header (element ∷ others) = code element == header && list_all is_carried others

-- a sequence part: a sequence header, and what it carries
abbrev pub are_sequence : List (List ℕ) → Bool
are_sequence elements = is_one_part sequence_header elements

-- a picture's head: a picture header, and what it carries
abbrev pub are_head : List (List ℕ) → Bool
are_head elements = is_one_part picture elements

-- one part or none
abbrev pub is_part_or_none : ℕ → List (List ℕ) → Bool
is_part_or_none header [] = true
is_part_or_none header (element ∷ others) = is_one_part header (element ∷ others)

-- the elements behind the extensions and user data in front
unfoldable pub behind_carried : List (List ℕ) → List (List ℕ)
behind_carried [] = []
behind_carried (element ∷ others) =
    if is_carried element then behind_carried others else element ∷ others

-- A prefix: a sequence part or none, and then the part of a group of pictures or none.
unfoldable pub are_prefix : List (List ℕ) → Bool
are_prefix elements =
    if begins_with sequence_header elements
    then is_part_or_none group (behind_carried (drop 1 elements))
    else is_part_or_none group elements
