-- Frame files: Y4M of 4:2:0 frames, 10 bits a sample.
use Rattle.std.specs.Prelude.{ℕ, ◌/◌, ◌%◌, Bool, true, false, List, [], ◌∷◌, ◌++◌, codes, decimal}
use Rattle.std.specs.List.{flat_map}
use Rattle.mv_terms.specs.declared.frame_header.FrameHeader.{FrameHeader}

-- progressive, or the field that comes first
abbrev pub scan : Bool → Bool → List ℕ
scan true bottom_first = codes "p"
scan false true = codes "b"
scan false false = codes "t"

-- the header line, as `YUV4MPEG2 W720 H576 F25:1 It A0:0 C420p10`
abbrev pub header_line : FrameHeader → List ℕ
header_line h =
    codes "YUV4MPEG2 W" ++ (decimal h.wide
    ++ (codes " H" ++ (decimal h.high
    ++ (codes " F" ++ (decimal h.rate_num ++ (codes ":" ++ (decimal h.rate_den
    ++ (codes " I" ++ (scan h.progressive h.bottom_first
    ++ codes " A0:0 C420p10\n")))))))))

-- a frame: its line, and the bytes of its samples
abbrev pub frame : List ℕ → List ℕ
frame samples = codes "FRAME\n" ++ samples

-- a frame file: its header line, and its frames
abbrev pub frame_file : FrameHeader → List (List ℕ) → List ℕ
frame_file h frames = header_line h ++ flat_map frame frames

-- the two bytes of a 10-bit sample, the low one first
abbrev pub sample_bytes : ℕ → List ℕ
sample_bytes v = v % 256 ∷ v / 256 ∷ []
