-- What each step of decoding answers. Nobody needs to believe it: it only carries proofs.
use Rattle.std.specs.Prelude.{◌≡◌, ◌⊎◌, ⊤, ◌≤◌, ◌<◌, ℕ, ◌+◌, ◌-◌, ◌*◌, Bool, true, false, if◌then◌else◌, List, [], ◌∷◌, ◌++◌, length, map, take, drop, is_some, Option, None, Some, option_map, unwrap_or, Result, Ok, Err}
use Rattle.std.specs.Option.{ForSome}
use Rattle.std.specs.Io.KnownBytes.{Appends, Consumes, IsAtEnd, Keeps}
use Rattle.mv_ends.specs.Ends.{Ends, Outcome}
use Rattle.mv_ends.specs.Endings.{ending_of}
use Rattle.mv_ends.specs.Moves.{Inputs, input_of, AppendsFront}
use Rattle.mv_terms.specs.declared.status.Why.{Why}
use Rattle.mv_terms.specs.declared.status.Status.{Status}
use Rattle.mv_terms.specs.declared.status.Status.TheVariants as status
use Rattle.mv_terms.specs.declared.head.Context.{Context}
use Rattle.mv_terms.specs.declared.head.PicType.{PicType}
use Rattle.mv_terms.specs.declared.head.PicType.TheVariants as pic
use Rattle.mv_terms.specs.Order.{anchors, first, held, second}
use Rattle.mv_terms.specs.Rates.{frame_header_of}
use Rattle.mv_terms.specs.UnitLists.{UnitLists}
use Rattle.mv_heads.specs.HeadsInTurn.{context_bytes}
use Rattle.mv_units.specs.Units.{Fed, StandsFor, units_within}
use Rattle.mv_units.specs.Profile.{CodedUnit, Accepts, Refuses, heads_in}
use Rattle.mv_store.specs.declared.store.Shown.{Shown}
use Rattle.mv_store.specs.declared.store.Shown.TheVariants.{Nothing, Previous, Current}
use Rattle.mv_store.specs.Answers.{answer_to}
use Rattle.mv_decode.specs.Stands.{StandsFor as IsDecoderOf}
use Rattle.mv_decode.specs.Units.{FitsAsFirst}
use Rattle.y4m_frames.specs.FrameFile.{frame, header_line}
use Rattle.cert_picture.specs.Records.{no_seal}
use Rattle.cert_picture.specs.Lent.{HasRoomFor}
use Rattle.cert_picture.specs.FrameFileOf.{UnitFrame, pic_of_frame, link_to, frame_behind, frames_of, gives, held_frame}
use Rattle.job_decode.specs.declared.frames.FrameMaker.{FrameMaker}
use Rattle.job_decode.specs.declared.links.Links.{Links}
use Rattle.job_decode.specs.declared.work.Work.{Work}
use Rattle.job_decode.specs.declared.work.Stop.{Stop}
use Rattle.job_decode.specs.declared.work.Stop.TheVariants as stop
use Rattle.job_decode.specs.declared.piece.Piece.{Piece}
use Rattle.job_decode.specs.Stream.{IsOutcome, AppendsTaken, TakesNear, piece_limit}

-- ---- the frames

-- what is kept of a sequence part: of one that is too long for a record enough to show it
abbrev pub kept_limit : ℕ
kept_limit = 65536

abbrev pub kept_front : List ℕ → List ℕ
kept_front bytes = take kept_limit bytes

abbrev pub lists_in : List UnitFrame → List UnitLists
lists_in frames = map (λ f. f.unit.lists) frames

-- the links to the last two anchors among these frames, where there are such
pub record LinksStand (links : Links) (frames : List UnitFrame) : Type 0 where
  pub last : links.last ≡ option_map link_to (first (anchors pic_of_frame frames))
  pub older : links.older ≡ option_map link_to (second (anchors pic_of_frame frames))

abbrev pub forward_link : PicType → Links → Option (List ℕ)
forward_link pic.I links = None
forward_link pic.P links = links.last
forward_link pic.B links = links.older

abbrev pub backward_link : PicType → Links → Option (List ℕ)
backward_link pic.B links = links.last
backward_link other links = None

-- the links behind a frame of this type with this seal
abbrev pub with_seal : PicType → Option (List ℕ) → Links → Links
with_seal pic.B seal links = links
with_seal other seal links = record {
  last = Some (unwrap_or seal no_seal);
  older = links.last;
}

-- The maker may make the frame behind these frames, the latest first, of a unit with so many macroblocks.
pub record MakesFrames (count : ℕ) (maker : FrameMaker) (frames : List UnitFrame) : Type 0 where
  pub sequence : maker.sequence ≡ kept_front (context_bytes (lists_in frames))
  pub links : LinksStand maker.links frames
  pub room : HasRoomFor count maker.room

-- it made the frame of a unit behind them
pub record HasMade (count : ℕ) (new : FrameMaker) (samples : List ℕ) (frames : List UnitFrame)
    (u : CodedUnit) : Type 0 where
  pub samples_are : samples ≡ (frame_behind frames u).samples
  pub stands : MakesFrames count new (frame_behind frames u ∷ frames)

-- ---- the units

-- the sample bytes of the frame that is held, where one is
abbrev pub AreHeld : Option UnitFrame → List ℕ → Type 0
AreHeld None bytes = ⊤
AreHeld (Some f) bytes = bytes ≡ f.samples

-- The work stands for these accepted units, the latest first, and has room for a frame of their size.
pub record IsWork (work : Work) (before : List CodedUnit) : Type 0 where
  pub mb_wide : ℕ
  pub mb_high : ℕ
  pub decoder : IsDecoderOf mb_wide mb_high work.decoder before
  pub frames : MakesFrames (mb_wide * mb_high) work.frames (frames_of before)
  pub holds : work.holds ≡ is_some (held pic_of_frame (frames_of before))
  pub held_is : AreHeld (held pic_of_frame (frames_of before)) work.held.items
  pub held_room : length work.held.items ≡ 768 * (mb_wide * mb_high)
  pub next_room : length work.next.items ≡ 768 * (mb_wide * mb_high)

abbrev pub is_empty : List CodedUnit → Bool
is_empty [] = true
is_empty (u ∷ us) = false

-- before the first unit there is none
abbrev pub WorkStands : Option Work → List CodedUnit → Type 0
WorkStands None before = before ≡ []
WorkStands (Some work) before = IsWork work before × (is_empty before ≡ false)

-- work before the first unit, for pictures of this size
pub record IsStarted (mb_wide mb_high : ℕ) (work : Work) : Type 0 where
  pub stands : IsDecoderOf mb_wide mb_high work.decoder []
  pub frames : MakesFrames (mb_wide * mb_high) work.frames []
  pub holds : work.holds ≡ false
  pub held_room : length work.held.items ≡ 768 * (mb_wide * mb_high)
  pub next_room : length work.next.items ≡ 768 * (mb_wide * mb_high)

-- it may take this unit
pub record MayTake (work : Work) (before : List CodedUnit) (lists : UnitLists) : Type 0 where
  pub stands : IsWork work before
  pub fits : FitsAsFirst stands.mb_wide stands.mb_high before lists

-- A unit was decoded, and its frame stands ready: what is shown now is as the display order says.
pub record HasDecoded (old new : Work) (before : List CodedUnit) (lists : UnitLists)
    (shown : Shown) : Type 0 where
  pub unit : CodedUnit
  pub accepts : Accepts (heads_in before) lists unit
  pub mb_wide : ℕ
  pub mb_high : ℕ
  pub decoder : IsDecoderOf mb_wide mb_high new.decoder (unit ∷ before)
  pub frames : MakesFrames (mb_wide * mb_high) new.frames (frames_of (unit ∷ before))
  pub shown_is : shown ≡ answer_to pic_of_frame unit.picture.head.pic (frames_of before)
  pub next : new.next.items ≡ (frame_behind (frames_of before) unit).samples
  pub held : new.held ≡ old.held
  pub holds : new.holds ≡ old.holds
  pub held_room : length new.held.items ≡ 768 * (mb_wide * mb_high)
  pub next_room : length new.next.items ≡ 768 * (mb_wide * mb_high)

abbrev pub DecodesUnit : Work → Work → List CodedUnit → UnitLists → Result Shown Why → Type 0
DecodesUnit old new before lists (Ok shown) = HasDecoded old new before lists shown
DecodesUnit old new before lists (Err why) = Refuses (heads_in before) lists why × IsWork new before

-- what is written in front of what a unit lets be shown: the header line before the first one
abbrev pub heading : Bool → Option Context → List ℕ
heading false context = []
heading true None = []
heading true (Some context) = header_line (frame_header_of context)

-- the frame that is shown now
abbrev pub shown_frame : Shown → List ℕ → List ℕ → List ℕ
shown_frame Nothing held next = []
shown_frame Previous held next = frame held
shown_frame Current held next = frame next

-- the frame of an anchor is held from now on
abbrev pub kept : Shown → Work → Work
kept Current work = work
kept other work = record work { held = work.next; next = work.held; holds = true }

-- the frame that is held, where one is
abbrev pub held_bytes : Option Work → List ℕ
held_bytes None = []
held_bytes (Some work) = (if work.holds then frame work.held.items else [])

-- A unit is accepted, and what may be written as soon as it comes moves.
pub record Takes (before : List CodedUnit) (lists : UnitLists)
    (Moves : List ℕ → Type 0) : Type 0 where
  pub unit : CodedUnit
  pub accepts : Accepts (heads_in before) lists unit
  pub moves : Moves (gives (frames_of before) (frame_behind (frames_of before) unit))

pub record TakesWhole (Stands : List CodedUnit → Type 0) (before : List CodedUnit)
    (lists : UnitLists) (old now : Option (List ℕ)) : Type 0 where
  pub takes : Takes before lists (Appends old now)
  pub stands : Stands (takes.unit ∷ before)

-- What a unit behind others comes to, where something stands for the units that are accepted. Memory is wanting only before
-- the first one.
abbrev pub StepsTo : (List CodedUnit → Type 0) → List CodedUnit → UnitLists → Option (List ℕ)
    → Option (List ℕ) → Result (Unit {0}) Stop → Type 0
StepsTo Stands before lists old now (Ok _) = TakesWhole Stands before lists old now
StepsTo Stands before lists old now (Err (stop.Refused why)) =
    Refuses (heads_in before) lists why × Stands before × (now ≡ old)
StepsTo Stands before lists old now (Err stop.NoMemory) = (before ≡ []) × (now ≡ old)
StepsTo Stands before lists old now (Err stop.WriteFault) =
    Takes before lists (AppendsFront old now)

-- ---- the bytes

-- the bytes of the piece that aren't fed yet
abbrev pub unfed : Piece → List ℕ
unfed piece = take (piece.end - piece.at) (drop piece.at piece.bytes.items)

-- The piece has its bytes, and those of it and of the cutter are no more than a piece beyond what the stream may have.
pub record Fits (piece : Piece) (fed : Fed) : Type 0 where
  pub within : piece.at ≤ piece.end
  pub inside : piece.end ≤ length piece.bytes.items
  pub full : length piece.bytes.items ≡ piece_limit
  pub room : length fed.bytes + (piece.end - piece.at) ≤ fed.room + piece_limit

-- so much is to be done: each byte is read, fed and let go, and the end is told
abbrev pub left_to_do : Piece → Fed → ℕ
left_to_do piece fed =
    3 * ((fed.room + piece_limit) - (length fed.bytes + (piece.end - piece.at)))
    + (2 * (piece.end - piece.at) + (length fed.bytes + (if fed.closed then 0 else 1)))

-- Of an input that is told these bytes were taken, and nothing is left where the cutter is closed. Less than a piece was
-- taken behind the bytes that show the next unit whole.
pub record IsTaken (input : List ℕ) (rest : Option (List ℕ)) (fed : Fed) (unfed past : List ℕ)
    (count : ℕ) : Type 0 where
  pub taken : Consumes (Some input) rest (past ++ unfed)
  pub ended : fed.closed ≡ true → (unfed ≡ []) × IsAtEnd rest
  pub near : (n : ℕ) → count < units_within input n → length (past ++ unfed) < n + piece_limit

-- The cutter was fed the first bytes of the input of a name, and let these units go.
pub record IsFed (named : Option Inputs) (name : List ℕ) (rest : Option (List ℕ)) (fed : Fed)
    (unfed : List ℕ) (let_go : List UnitLists) : Type 0 where
  pub past : List ℕ
  pub stands : StandsFor fed past let_go
  pub at_end : fed.closed ≡ true → IsAtEnd rest
  pub told : ForSome named
      (λ inputs. IsTaken (input_of inputs name) rest fed unfed past (length let_go))

-- ---- how a stream ends

-- the frame that is held is written, and the status is answered; or that write failed
abbrev pub Finishes : Option Work → Status → Status → Option (List ℕ) → Option (List ℕ) → Type 0
Finishes work answer result old new =
    ((result ≡ answer)
    ×
    ((before : List CodedUnit) → WorkStands work before → Appends old new (held_frame before)))
    ⊎ ((result ≡ status.WriteFault) × ((before : List CodedUnit) → WorkStands work before
    → AppendsFront old new (held_frame before)))

-- the statuses of an input that was opened
abbrev pub IsStreamStatus : Status → Type 0
IsStreamStatus status.Done = ⊤
IsStreamStatus (status.Unit count why) = ⊤
IsStreamStatus status.ReadFault = ⊤
IsStreamStatus status.WriteFault = ⊤
IsStreamStatus status.NoMemory = ⊤
IsStreamStatus other = ⊥

pub record EndsStream (named : Option Inputs) (name : List ℕ) (rest old new : Option (List ℕ))
    (result : Status) : Type 0 where
  pub kind : IsStreamStatus result
  pub ends : ForSome named
      (λ inputs. (outcome : Outcome Status) × IsOutcome (input_of inputs name) outcome
      × Ends outcome (ending_of result) old new)
  pub done : result ≡ status.Done → IsAtEnd rest
  pub no_memory : result ≡ status.NoMemory → Keeps old new
  pub read_part : result ≡ status.ReadFault → AppendsTaken name named rest old new
  pub near : result ≡ status.WriteFault → TakesNear name named rest old new
