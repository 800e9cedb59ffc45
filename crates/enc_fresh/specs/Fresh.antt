-- Fresh coding: the pictures of frames without recording data are coded anew, as intra pictures.
use Rattle.std.specs.Prelude.{ℕ, ◌*◌, ◌%◌, ◌==◌, Bool, true, false, not, ◌&&◌, if◌then◌else◌, List, [], ◌∷◌, map, unwrap_or}
use Rattle.std.specs.List.{range_with_len}
use Rattle.mv_terms.specs.declared.head.PicType.{PicType}
use Rattle.mv_terms.specs.declared.head.PicType.TheVariants as pic
use Rattle.mv_terms.specs.declared.head.Structure.TheVariants.{Frame}
use Rattle.mv_terms.specs.declared.head.Context.{Context}
use Rattle.mv_terms.specs.declared.head.Head.{Head}
use Rattle.mv_terms.specs.declared.frame_header.FrameHeader.{FrameHeader}
use Rattle.mv_terms.specs.declared.macroblock.Decision.{Decision}
use Rattle.mv_terms.specs.Decisions.{no_decision}
use Rattle.mv_terms.specs.Matrices.{default_matrices}
use Rattle.mv_terms.specs.Ranges.{macroblock_columns, macroblock_rows}
use Rattle.enc_fresh.specs.declared.rate.FrameRate.{FrameRate}
use Rattle.enc_fresh.specs.FrameRate.{rate, exact_rate}

-- the rate of a file's sequence: 25 frames a second where the file has none, or one that headers can't say
abbrev pub default_rate : FrameHeader → FrameRate
default_rate file = unwrap_or (exact_rate file.rate_num file.rate_den) (rate 0 0 3)

-- The context of a frame file that brings none: its size, scan and rate, and the default matrices (H.262, 6.2.2.1 and
-- 6.2.2.3).
abbrev pub default_context : FrameHeader → Context
default_context file = record {
  width = file.wide;
  height = file.high;
  mb_wide = macroblock_columns file.wide;
  mb_high = macroblock_rows file.progressive file.high;
  progressive = file.progressive;
  low_delay = false;
  rate_code = (default_rate file).code;
  rate_n = (default_rate file).n;
  rate_d = (default_rate file).d;
  matrices = default_matrices;
}

-- f_code of the four kinds of vectors: 15 in an I picture, which has none, and else 1 (H.262, 6.3.10)
abbrev pub fresh_f_code : PicType → ℕ
fresh_f_code pic.I = 15
fresh_f_code other = 1

-- top_field_first: where the file has fields, and the bottom one isn't first
abbrev pub top_first : FrameHeader → Bool
top_first file = not file.progressive && not file.bottom_first

-- progressive_frame and chroma_420_type, which the bytes of the head say besides
abbrev pub is_progressive : FrameHeader → Bool
is_progressive file = file.progressive

-- The head of a fresh picture under a context: a frame, frame prediction and frame transform alone, the least precision of DC
-- levels, the linear scale, table B.14 and the zigzag scan (H.262, 6.2.3 and 6.2.3.1).
abbrev pub fresh_head : FrameHeader → Context → PicType → ℕ → Head
fresh_head file context pic temporal = record {
  pic = pic;
  temporal = temporal;
  f_code =
      (fresh_f_code pic ∷ fresh_f_code pic ∷ []) ∷ (fresh_f_code pic ∷ fresh_f_code pic ∷ []) ∷ [];
  dc_precision = 0;
  structure = Frame;
  top_first = top_first file;
  frame_only = true;
  concealment = false;
  non_linear = false;
  table_15 = false;
  alternate = false;
  second = false;
  mb_wide = macroblock_columns file.wide;
  mb_high = macroblock_rows file.progressive file.high;
  matrices = context.matrices;
}

-- the decision of a macroblock: intra, with this scale code, which is in the slice header where a slice starts
abbrev pub fresh_decision : Bool → ℕ → Decision
fresh_decision slice_start scale = record no_decision {
  slice_start = slice_start;
  intra = true;
  scale = scale;
  head_scale = (if slice_start then scale else 0);
}

-- The decisions of a fresh picture, row after row: a slice starts at each row.
unfoldable pub fresh_decisions : Head → ℕ → List Decision
fresh_decisions head scale =
    map (λ k. fresh_decision (k % head.mb_wide == 0) scale)
    (range_with_len 0 (head.mb_wide * head.mb_high))
