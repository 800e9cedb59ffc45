-- Frames and fields: the structure of a picture, and which lines of its frame it has (H.262, 6.1.1.1 to 6.1.1.4 and
-- 6.3.10).
use Rattle.std.specs.Prelude.{◌≡◌, ℕ, ◌+◌, ◌*◌, ◌/◌, ◌%◌, ◌==◌, Bool, true, false}
use Rattle.mv_terms.specs.declared.head.PicType.{PicType}
use Rattle.mv_terms.specs.declared.head.PicType.TheVariants as pic
use Rattle.mv_terms.specs.declared.head.Structure.{Structure}
use Rattle.mv_terms.specs.declared.head.Structure.TheVariants.{Frame, Top, Bottom}
use Rattle.mv_terms.specs.declared.head.Head.{Head}

abbrev pub is_frame : Structure → Bool
is_frame Frame = true
is_frame other = false

abbrev pub is_field : Structure → Bool
is_field Frame = false
is_field other = true

abbrev pub is_bottom : Structure → Bool
is_bottom Bottom = true
is_bottom other = false

-- one is the top field and the other the bottom field
abbrev pub are_opposite : Structure → Structure → Bool
are_opposite Top Bottom = true
are_opposite Bottom Top = true
are_opposite other another = false

-- the head of a frame picture, which is no field of a frame
pub record IsOfFrame (head : Head) : Type 0 where
  pub structure : head.structure ≡ Frame
  pub not_second : head.second ≡ false

-- ---- rows of macroblocks

-- those of a picture, in a frame that has so many
abbrev pub rows_in : Structure → ℕ → ℕ
rows_in Frame mb_high = mb_high
rows_in other mb_high = mb_high / 2

-- those of the frame of a picture that has so many
abbrev pub rows_of_frame : Structure → ℕ → ℕ
rows_of_frame Frame mb_high = mb_high
rows_of_frame other mb_high = 2 * mb_high

abbrev pub frame_rows : Head → ℕ
frame_rows head = rows_of_frame head.structure head.mb_high

-- ---- lines

-- The field that a line of a picture belongs to, the bottom one where this is true: the lines of a frame alternate, and
-- those of a field are all its own.
abbrev pub parity : Structure → ℕ → Bool
parity Frame line = line % 2 == 1
parity Top line = false
parity Bottom line = true

-- a line of a frame belongs to the picture: each one to a frame picture, the even ones to the top field and the odd ones
-- to the bottom field
abbrev pub has_line : Structure → ℕ → Bool
has_line Frame y = true
has_line Top y = y % 2 == 0
has_line Bottom y = y % 2 == 1

-- which line of the picture it is then, and which line of the frame a line of the picture is
abbrev pub line_in : Structure → ℕ → ℕ
line_in Frame y = y
line_in other y = y / 2

abbrev pub line_of_frame : Structure → ℕ → ℕ
line_of_frame Frame y = y
line_of_frame Top y = 2 * y
line_of_frame Bottom y = 2 * y + 1

-- ---- types of two fields

-- A second field may have this type behind a first field of that one (H.262, 6.1.1.4): I or P behind I, P behind P and B
-- behind B.
abbrev pub may_follow : PicType → PicType → Bool
may_follow pic.I pic.I = true
may_follow pic.I pic.P = true
may_follow pic.P pic.P = true
may_follow pic.B pic.B = true
may_follow other another = false

-- The type of a frame of two fields: I where both are I, B where they are B, and P otherwise.
abbrev pub type_with : PicType → PicType → PicType
type_with pic.I pic.I = pic.I
type_with pic.B other = pic.B
type_with other another = pic.P
