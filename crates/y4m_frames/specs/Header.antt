-- The header line of a frame file, and what it means.
use Rattle.std.specs.Prelude.{ℕ, ◌%◌, ◌==◌, ◌&&◌, ◌||◌, nat_le, Bool, true, false, List, [], ◌∷◌, codes, take, filter, bytes_eq, Option, Some, None, Result, Ok, Err, if◌then◌else◌}
use Rattle.std.specs.List.{before_first, after_first}
use Rattle.mv_terms.specs.declared.status.FrameFault.{FrameFault}
use Rattle.mv_terms.specs.declared.status.FrameFault.TheVariants.{BadHeader, BadSize}
use Rattle.mv_terms.specs.declared.frame_header.FrameHeader.{FrameHeader}
use Rattle.y4m_frames.specs.declared.header.Says.{Says}
use Rattle.y4m_frames.specs.Lines.{words, number, line_within}

infixl 10 ◌>>=◌
abbrev pub ◌>>=◌ : {A B : Type 0} → Option A → (A → Option B) → Option B
None >>= f = None
(Some x) >>= f = f x

abbrev pub begins_with : ℕ → List ℕ → Bool
begins_with letter [] = false
begins_with letter (b ∷ token) = b == letter

-- the tokens of one letter: none, one, which is read without its letter, or more
pub data Token : Type 0 where
  absent : Token
  once : List ℕ → Token
  often : Token

abbrev pub tail : List ℕ → List ℕ
tail [] = []
tail (b ∷ token) = token

abbrev pub one_of : List (List ℕ) → Token
one_of [] = absent
one_of (token ∷ []) = once (tail token)
one_of (token ∷ other ∷ tokens) = often

unfoldable pub token : ℕ → List ℕ → Token
token letter line = one_of (filter (begins_with letter) (words line))

-- a token that is needed, and one that may be absent
abbrev pub needed : Token → Option (List ℕ)
needed absent = None
needed (once text) = Some text
needed often = None

abbrev pub optional : {A : Type 0} → A → (List ℕ → Option A) → Token → Option A
optional otherwise read absent = Some otherwise
optional otherwise read (once text) = read text
optional otherwise read often = None

-- n:m, frames in so many seconds; a 0 in it counts as absent
abbrev pub is_colon : ℕ → Bool
is_colon b = b == 58

abbrev pub known_rate : ℕ → ℕ → ℕ × ℕ
known_rate n m = if n == 0 || m == 0 then (0, 0) else (n, m)

unfoldable pub rate : List ℕ → Option (ℕ × ℕ)
rate text = do
  n ← number (before_first is_colon text)
  m ← number (after_first is_colon text)
  Some (known_rate n m)

-- whether the frames are progressive, and whether the bottom field is first
unfoldable pub fields : List ℕ → Option (Bool × Bool)
fields text =
    if bytes_eq text (codes "p") || bytes_eq text (codes "?") then Some (true, false)
    else (if bytes_eq text (codes "t") || bytes_eq text (codes "m") then Some (false, false)
    else (if bytes_eq text (codes "b") then Some (false, true) else None))

-- 4:2:0, 10 bits a sample
abbrev pub is_kind : List ℕ → Bool
is_kind text = bytes_eq text (codes "420p10")

unfoldable pub kind : List ℕ → Option (Unit {0})
kind text = if is_kind text then Some tt else None

abbrev pub is_first_word : List (List ℕ) → Bool
is_first_word [] = false
is_first_word (word ∷ others) = bytes_eq word (codes "YUV4MPEG2")

abbrev pub says : ℕ → ℕ → ℕ × ℕ → Bool × Bool → Says
says wide high rate scan = record {
  wide = wide;
  high = high;
  progressive = scan.0;
  bottom_first = scan.1;
  rate_num = rate.0;
  rate_den = rate.1;
}

-- the tokens W, H, C, F and I; others are passed over
unfoldable pub said : List ℕ → Option Says
said line = do
  wide_text ← needed (token 87 line)
  wide ← number wide_text
  high_text ← needed (token 72 line)
  high ← number high_text
  kind_text ← needed (token 67 line)
  is_kind ← kind kind_text
  frames ← optional (0, 0) rate (token 70 line)
  scan ← optional (true, false) fields (token 73 line)
  Some (says wide high frames scan)

-- whole macroblocks of the frame, or of each field, within 1920x1152
abbrev pub is_right_size : Says → Bool
is_right_size s =
    nat_le 1 s.wide && nat_le s.wide 1920 && nat_le 1 s.high && nat_le s.high 1152
    && s.wide % 16 == 0 && s.high % (if s.progressive then 16 else 32) == 0

abbrev pub header : Says → FrameHeader
header s = record {
  wide = s.wide;
  high = s.high;
  progressive = s.progressive;
  bottom_first = s.bottom_first;
  rate_num = s.rate_num;
  rate_den = s.rate_den;
}

abbrev pub header_by : Option Says → Result FrameHeader FrameFault
header_by None = Err BadHeader
header_by (Some s) = if is_right_size s then Ok (header s) else Err BadSize

-- what a header line means, without its line feed
unfoldable pub header_of : List ℕ → Result FrameHeader FrameFault
header_of line = if is_first_word (words line) then header_by (said line) else Err BadHeader

-- a header line has at most so many bytes, with its line feed
abbrev pub header_limit : ℕ
header_limit = 1024

abbrev pub start_by : Option ℕ → List ℕ → Result FrameHeader FrameFault
start_by None s = Err BadHeader
start_by (Some text) s = header_of (take text s)

-- what the header line in front of a file means
unfoldable pub file_header : List ℕ → Result FrameHeader FrameFault
file_header s = start_by (line_within header_limit s) s
