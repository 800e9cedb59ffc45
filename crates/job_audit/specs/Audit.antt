-- The audit of a frame file: a line for each frame, which says what record is found in it and how it is coded.
use Rattle.std.specs.Prelude.{◌≡◌, ℕ, zero, suc, Bool, true, false, List, [], ◌++◌, length, codes, decimal, Option, option_map}
use Rattle.std.specs.Option.{option_map_or}
use Rattle.mv_terms.specs.declared.head.PicType.{PicType}
use Rattle.mv_terms.specs.declared.head.PicType.TheVariants as pic
use Rattle.plan_window.specs.declared.summary.Mode.{Mode}
use Rattle.plan_window.specs.declared.summary.Mode.TheVariants as mode
use Rattle.plan_window.specs.Plan.{ahead, mode_at}
use Rattle.rec_legal.specs.FoundRecord.{FoundRecord}
use Rattle.rec_legal.specs.Conditions.{has_flag, uses_forward_flag}
use Rattle.enc_guided.specs.Recoded.{Recoding}
use Rattle.enc_guided.specs.FileSteps.{summaries_in}
use Rattle.cert_chains.specs.Planned.{found_at}
use Rattle.cert_chains.specs.Chains.{has_chain, says_certified}
use Rattle.job_audit.specs.declared.line.Said.{Said}
use Rattle.job_audit.specs.declared.line.Line.{Line}

-- ---- the text of a line

abbrev pub type_word : PicType → List ℕ
type_word pic.I = codes "I"
type_word pic.P = codes "P"
type_word pic.B = codes "B"

abbrev pub mode_word : Mode → List ℕ
mode_word mode.Guided = codes "guided"
mode_word mode.Fresh = codes "fresh"

abbrev pub certified_word : Bool → List ℕ
certified_word true = codes "certified"
certified_word false = codes "plain"

abbrev pub chain_word : Bool → List ℕ
chain_word true = codes "chain"
chain_word false = codes "-"

-- the words for what a record says, and for a frame without one
abbrev pub found_type : Option Said → List ℕ
found_type found = option_map_or (λ said. type_word said.pic) found (codes "-")

abbrev pub found_flag : Option Said → List ℕ
found_flag found = option_map_or (λ said. certified_word said.certified) found (codes "-")

-- a line, as `0 I guided certified chain`
abbrev pub line_text : Line → List ℕ
line_text line =
    decimal line.frame
    ++ (codes " " ++ (found_type line.found
    ++ (codes " " ++ (mode_word line.mode
    ++ (codes " " ++ (found_flag line.found
    ++ (codes " " ++ (chain_word line.has_chain
    ++ codes "\n"))))))))

-- ---- the lines of a file

-- what a record says of its picture: the type, whether it is certified, and whether it uses the forward reference
abbrev pub said_by : FoundRecord → Said
said_by r = record {
  pic = r.sheet.pic;
  certified = says_certified r;
  uses_forward = has_flag r.sheet uses_forward_flag;
}

-- the line of frame i
abbrev pub audit_line : Recoding → List (List ℕ) → ℕ → Line
audit_line r frames i = record {
  frame = i;
  found = option_map said_by (found_at r frames i);
  mode = mode_at ahead (summaries_in r frames) i;
  has_chain = has_chain r frames i;
}

-- the lines of the first n frames
abbrev pub first_lines : Recoding → List (List ℕ) → ℕ → List ℕ
first_lines r frames zero = []
first_lines r frames (suc n) =
    first_lines r frames n ++ line_text (audit_line r frames n)

-- THE AUDIT of these frames
abbrev pub audit_text : Recoding → List (List ℕ) → List ℕ
audit_text r frames = first_lines r frames (length frames)

-- behind the lines of the frames before it frame i has the line `{i} {type} guided certified chain`
pub record SaysChain (r : Recoding) (frames : List (List ℕ)) (i : ℕ) : Type 0 where
  pub pic : PicType
  pub behind : List ℕ
  pub text : audit_text r frames
      ≡ first_lines r frames i
      ++ (decimal i
      ++ (codes " " ++ (type_word pic ++ (codes " guided certified chain\n" ++ behind))))
