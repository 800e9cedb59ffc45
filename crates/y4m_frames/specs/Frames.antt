-- Frame files: Y4M of 4:2:0 frames, 10 bits a sample, and the first fault of any bytes that are none.
use Rattle.std.specs.Prelude.{◌≡◌, ◌≢◌, ◌<◌, ◌≤◌, ◌++◌, ℕ, zero, suc, ◌+◌, ◌-◌, ◌*◌, ◌^◌, ◌==◌, nat_lt, nat_le, Bool, true, false, ◌&&◌, ◌||◌, List, [], ◌∷◌, length, take, drop, codes, bytes_eq, Option, Some, None, Result, Ok, Err, if◌then◌else◌}
use Rattle.mv_terms.specs.declared.status.FrameFault.{FrameFault}
use Rattle.mv_terms.specs.declared.status.FrameFault.TheVariants.{NoFrames, BadFrame, BadSample, TooLong}
use Rattle.mv_terms.specs.declared.frame_header.FrameHeader.{FrameHeader}
use Rattle.std.specs.List.{list_any}
use Rattle.y4m_frames.specs.Lines.{is_line_feed, line_within}
use Rattle.y4m_frames.specs.Header.{header_limit, header_of, file_header}

-- at most so many bytes belong to a file, and to a line of a frame, with its line feed
abbrev pub file_limit : ℕ
file_limit = 2 ^ 44

abbrev pub line_limit : ℕ
line_limit = 256

-- how many bytes the samples of a frame take, two each
abbrev pub frame_len : FrameHeader → ℕ
frame_len h = 3 * h.wide * h.high

-- `FRAME`, or `FRAME` and a space and anything
abbrev pub is_frame_line : List ℕ → Bool
is_frame_line text = bytes_eq text (codes "FRAME") || bytes_eq (take 6 text) (codes "FRAME ")

-- each sample, low byte first, is at most 1023
abbrev pub are_samples : List ℕ → Bool
are_samples [] = true
are_samples (low ∷ []) = true
are_samples (low ∷ high ∷ samples) = nat_le (low + 256 * high) 1023 && are_samples samples

-- what stands in front of some bytes: nothing, a frame whose line takes so many bytes, a frame of which the bytes
-- have less than all, a line that isn't a frame's, or a frame with a sample above 1023
pub data Front : Type 0 where
  nothing : Front
  whole : ℕ → Front
  short : Front
  other : Front
  high : Front

abbrev pub samples_front : ℕ → ℕ → List ℕ → Front
samples_front line len behind =
    if nat_lt (length behind) len then short else if are_samples (take len behind)
    then whole line else high

abbrev pub line_front : Option ℕ → ℕ → List ℕ → Front
line_front None len s = if nat_lt (length s) line_limit then short else other
line_front (Some text) len s =
    if is_frame_line (take text s) then samples_front (text + 1) len (drop (text + 1) s) else other

abbrev pub front : ℕ → List ℕ → Front
front len s = if length s == 0 then nothing else line_front (line_within line_limit s) len s

-- What that says of frame n: the length of its line, or the end of the file, or a fault. Where bytes follow that may
-- not belong to the file, a frame that isn't whole before them is too long.
abbrev pub judged : Bool → ℕ → Front → Result (Option ℕ) FrameFault
judged more n nothing = if more then Err (TooLong n) else if n == 0 then Err NoFrames else Ok None
judged more n (whole line) = Ok (Some line)
judged more n short = if more then Err (TooLong n) else Err (BadFrame n)
judged more n other = Err (BadFrame n)
judged more n high = Err (BadSample n)

-- the next frame of what is left of a file behind n frames, where `room` of the bytes may belong to it
unfoldable pub next_frame : ℕ → ℕ → ℕ → List ℕ → Result (Option ℕ) FrameFault
next_frame len n room s = judged (nat_lt room (length s)) n (front len (take room s))

-- whole and right frames, and why the bytes behind them are none, if they aren't at their end
pub record Frames : Type 0 where
  pub frames : List (List ℕ)
  pub fault : Option FrameFault

abbrev pub none_but : Option FrameFault → Frames
none_but fault = record { frames = []; fault = fault }

abbrev pub in_front : List ℕ → Frames → Frames
in_front samples others = record { frames = samples ∷ others.frames; fault = others.fault }

abbrev pub behind_frames : List (List ℕ) → Frames → Frames
behind_frames frames others = record { frames = frames ++ others.frames; fault = others.fault }

abbrev pub frames_by : Result (Option ℕ) FrameFault → ℕ → List ℕ → (ℕ → Frames) → Frames
frames_by (Err fault) len s others = none_but (Some fault)
frames_by (Ok None) len s others = none_but None
frames_by (Ok (Some line)) len s others = in_front (take len (drop line s)) (others (line + len))

-- the first frames of what is left, at most as many as `turns`
unfoldable pub first_frames : ℕ → ℕ → ℕ → ℕ → List ℕ → Frames
first_frames zero len n room s = none_but None
first_frames (suc turns) len n room s =
    frames_by (next_frame len n room s) len s
    (λ taken. first_frames turns len (n + 1) (room - taken) (drop taken s))

-- all frames of what is left: each has at least one byte
unfoldable pub frames_left : ℕ → ℕ → ℕ → List ℕ → Frames
frames_left len n room s = first_frames (length s + 1) len n room s

-- A frame: its line, of which the text has no line feed, and its samples.
pub record IsFrame (len : ℕ) (taken samples : List ℕ) : Type 0 where
  pub text : List ℕ
  pub parts : taken ≡ text ++ 10 ∷ samples
  pub one_line : list_any is_line_feed text ≡ false
  pub short : length text < line_limit
  pub right : is_frame_line text ≡ true
  pub all : length samples ≡ len
  pub range : are_samples samples ≡ true

-- bytes that are these frames, one after another
abbrev pub AreFrames : ℕ → List (List ℕ) → List ℕ → Type 0
AreFrames len [] bytes = bytes ≡ []
AreFrames len (samples ∷ frames) bytes =
    (taken : List ℕ) × (rest : List ℕ) × IsFrame len taken samples × (bytes ≡ taken ++ rest)
    × AreFrames len frames rest

-- A header line with its meaning.
pub record IsHeaderLine (line : List ℕ) (h : FrameHeader) : Type 0 where
  pub text : List ℕ
  pub parts : line ≡ text ++ 10 ∷ []
  pub one_line : list_any is_line_feed text ≡ false
  pub short : length text < header_limit
  pub means : header_of text ≡ Ok h

-- A frame file.
pub record Holds (bytes line : List ℕ) (h : FrameHeader) (frames : List (List ℕ)) : Type 0 where
  pub behind : List ℕ
  pub parts : bytes ≡ line ++ behind
  pub header : IsHeaderLine line h
  pub frames_are : AreFrames (frame_len h) frames behind
  pub some : frames ≢ []
  pub within : length bytes ≤ file_limit

-- a file's header line with its meaning, and what stands behind it
pub record File : Type 0 where
  pub line : List ℕ
  pub header : FrameHeader
  pub frames : Frames

abbrev pub file_by : Result FrameHeader FrameFault → List ℕ → List ℕ → Result File FrameFault
file_by (Err fault) line behind = Err fault
file_by (Ok h) line behind = Ok (record {
  line = line;
  header = h;
  frames = frames_left (frame_len h) 0 (file_limit - length line) behind;
})

abbrev pub line_len : Option ℕ → ℕ
line_len None = 0
line_len (Some text) = text + 1

-- any bytes: the fault of their header line, or the frames behind it up to their first fault or their end
unfoldable pub file_of : List ℕ → Result File FrameFault
file_of s =
    let n = line_len (line_within header_limit s) in file_by (file_header s) (take n s) (drop n s)
