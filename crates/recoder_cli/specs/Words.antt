-- The forms of the words behind the program's name.
use Rattle.std.specs.Prelude.{ℕ, ◌==◌, ◌||◌, ◌&&◌, nat_lt, nat_le, ⊤, List, length, take, drop, slice_index, [], ◌∷◌, map, codes, Option, None, Some, if◌then◌else◌, string_bytes, String}
use Rattle.std.specs.Option.{option_map}
use Rattle.std.specs.Str.{bytes_eq}
use Rattle.mv_terms.specs.Ranges.{IsScaleCode}
use Rattle.y4m_frames.specs.Lines.{number}

-- a command, with the names that it was given, and for `recode` the quantiser scale code of fresh pictures
pub data Form : Type 0 where
  decode : List ℕ → Form
  cut : List ℕ → Form
  recode : List ℕ → ℕ → Form
  audit : List ℕ → Form

-- the scale code where none is given
abbrev pub default_scale : ℕ
default_scale = 8

-- what a verb with a name asks for; a name isn't empty
abbrev pub named_form : List ℕ → List ℕ → Option Form
named_form verb name =
    if length name == 0 then None
    else if bytes_eq verb (codes "decode") then Some (decode name)
    else if bytes_eq verb (codes "cut") then Some (cut name)
    else if bytes_eq verb (codes "recode") then Some (recode name default_scale)
    else if bytes_eq verb (codes "audit") then Some (audit name)
    else None

-- a number that is a quantiser scale code
abbrev pub scale_by : Option ℕ → Option ℕ
scale_by None = None
scale_by (Some n) = if nat_le 1 n && nat_le n 31 then Some n else None

-- the quantiser scale code of `q=N`, in decimal digits without a leading zero
abbrev pub scale_of : List ℕ → Option ℕ
scale_of option =
    if nat_lt (length option) 3 || slice_index option 2 == 48 then None
    else if bytes_eq (take 2 option) (codes "q=") then scale_by (number (drop 2 option))
    else None

-- what a verb with a name and an option asks for
abbrev pub scaled_form : List ℕ → List ℕ → List ℕ → Option Form
scaled_form verb name option =
    if length name == 0 then None
    else if bytes_eq verb (codes "recode") then option_map (recode name) (scale_of option)
    else None

-- `decode NAME`, `cut LIST`, `recode NAME`, `recode NAME q=N`, `audit NAME`
abbrev pub form_of : List (List ℕ) → Option Form
form_of [] = None
form_of (verb ∷ []) = None
form_of (verb ∷ name ∷ []) = named_form verb name
form_of (verb ∷ name ∷ option ∷ []) = scaled_form verb name option
form_of (verb ∷ name ∷ option ∷ more ∷ words) = None

-- its scale is a quantiser scale code
abbrev pub IsLegal : Form → Type 0
IsLegal (decode name) = ⊤
IsLegal (cut list) = ⊤
IsLegal (recode name scale) = IsScaleCode scale
IsLegal (audit name) = ⊤

-- the bytes of each word
abbrev pub texts : {Z : Type 0} → List (String Z) → List (List ℕ)
texts words = map string_bytes words
