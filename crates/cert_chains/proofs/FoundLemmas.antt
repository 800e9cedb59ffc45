-- The record that is found in a frame that holds a certified picture, and what it says.
use Rattle.std.proofs.Common.{◌≡◌, ℕ, true, List, slice_get, Option, Some, option_map, option_and_then, ap, ◌∙◌}
use Rattle.std.proofs.lemmas.Bool.{and_parts}
use Rattle.std.proofs.lemmas.Option.{slice_get-map}
use Rattle.mv_terms.specs.Ranges.{IsFrameHeader}
use Rattle.rec_legal.specs.FoundRecord.{FoundRecord}
use Rattle.rec_legal.specs.Conditions.{file_size}
use Rattle.rec_legal.specs.Found.{IsFound, found}
use Rattle.rec_legal.specs.Laws.{FoundIsFound}
use Rattle.rec_reader.specs.Summaries.{summary_of}
use Rattle.cert_picture.specs.Records.{is_certified, is_recordable, returns_slices}
use Rattle.cert_found.specs.RecordLaw.{RecordIsFound, record_behind}
use Rattle.enc_guided.specs.Recoded.{Recoding}
use Rattle.enc_guided.specs.FileSteps.{summary_in, summaries_in}
use Rattle.cert_chains.specs.Planned.{found_at}
use Rattle.cert_chains.specs.Intact.{StreamPicture, IsAccepted, Holds, frame_in_stream, parts_in_stream}

-- frames are coded by the records that are found in them
pub record IsByRecords (r : Recoding) : Type 0 where
  pub header : IsFrameHeader r.header
  pub finds : (frame : List ℕ) → r.find frame ≡ found (file_size r.header) frame

-- the record of a picture
abbrev pub record_in_stream : StreamPicture → FoundRecord
record_in_stream p = record_behind p.before p.unit

pub recordable : (p : StreamPicture) → is_certified (parts_in_stream p) ≡ true → is_recordable (parts_in_stream p) ≡ true
recordable p is = (and_parts (is_recordable (parts_in_stream p)) (returns_slices (parts_in_stream p)) is).0

pub returned : (p : StreamPicture) → is_certified (parts_in_stream p) ≡ true → returns_slices (parts_in_stream p) ≡ true
returned p is = (and_parts (is_recordable (parts_in_stream p)) (returns_slices (parts_in_stream p)) is).1

-- the frame has it
pub finds_record : RecordIsFound → (r : Recoding) (frames : List (List ℕ)) (i : ℕ) (p : StreamPicture) → IsByRecords r → IsAccepted p
    → Holds r frames i p → is_certified (parts_in_stream p) ≡ true → r.find (frame_in_stream p).samples ≡ Some (record_in_stream p)
finds_record law r frames i p by are held is =
    by.finds (frame_in_stream p).samples ∙ ap (λ s. found s (frame_in_stream p).samples) held.size ∙ law p.unit p.before are (recordable p is)

pub record_there : RecordIsFound → (r : Recoding) (frames : List (List ℕ)) (i : ℕ) (p : StreamPicture) → IsByRecords r → IsAccepted p
    → Holds r frames i p → is_certified (parts_in_stream p) ≡ true → found_at r frames i ≡ Some (record_in_stream p)
record_there law r frames i p by are held is = ap (option_and_then r.find) held.frame ∙ finds_record law r frames i p by are held is

-- and the plan knows it
pub summary_there : RecordIsFound → (r : Recoding) (frames : List (List ℕ)) (i : ℕ) (p : StreamPicture) → IsByRecords r → IsAccepted p
    → Holds r frames i p → is_certified (parts_in_stream p) ≡ true → slice_get (summaries_in r frames) i ≡ Some (summary_of (Some (record_in_stream p)))
summary_there law r frames i p by are held is =
    slice_get-map (summary_in r) frames i ∙ ap (option_map (summary_in r)) held.frame
    ∙ ap (λ (o : Option FoundRecord). Some (summary_of o)) (finds_record law r frames i p by are held is)

-- it meets all conditions of found records
pub is_found : RecordIsFound → FoundIsFound → (p : StreamPicture) → IsAccepted p → is_certified (parts_in_stream p) ≡ true
    → IsFound p.unit.accepted.heads.first (frame_in_stream p).samples (record_in_stream p)
is_found law found p are is = (found p.unit.accepted.heads.first (frame_in_stream p).samples (record_in_stream p)).0 (law p.unit p.before are (recordable p is))
