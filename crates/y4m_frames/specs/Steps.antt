-- What each step of reading finds in what is left. Nobody needs to believe it: it only carries proofs.
use Rattle.std.specs.Prelude.{◌≡◌, ℕ, ◌+◌, ◌≤◌, ◌<◌, false, true, nat_lt, List, [], ◌∷◌, ◌++◌, length, take, drop, Option, Some, None, Result, Ok, Err}
use Rattle.std.specs.Borrow.{Bor}
use Rattle.std.specs.Io.KnownBytes.{Consumes}
use Rattle.std.specs.List.{list_any}
use Rattle.y4m_frames.specs.declared.halt.Halt.{Halt}
use Rattle.y4m_frames.specs.declared.halt.Halt.TheVariants.{Fault, Read, NoMemory}
use Rattle.y4m_frames.specs.Lines.{is_line_feed, line_within}
use Rattle.y4m_frames.specs.Frames.{IsFrame, is_frame_line, are_samples, line_limit, judged, samples_front, next_frame}
use Rattle.y4m_frames.specs.Header.{Token, absent, once, often}
use Rattle.y4m_frames.specs.declared.header.Found.{Found}
use Rattle.y4m_frames.specs.declared.header.Found.TheVariants.{Absent, Once, Often}

-- the tokens of a letter, as they are found
abbrev pub token_of : Found → Token
token_of Absent = absent
token_of (Once text) = once text.now
token_of Often = often

-- the tokens of a letter that were found
abbrev pub found_tokens : ℕ → Found → List (List ℕ)
found_tokens letter Absent = []
found_tokens letter (Once text) = (letter ∷ text.now) ∷ []
found_tokens letter Often = []

abbrev pub now_of : Option (Bor (List ℕ)) → Option (List ℕ)
now_of None = None
now_of (Some text) = Some text.now

-- the line of a frame was taken, with its line feed
pub record TakesLine (line room : ℕ) (old new : Option (List ℕ)) : Type 0 where
  pub text : List ℕ
  pub len : line ≡ length text + 1
  pub within : line ≤ room
  pub consumed : Consumes old new (text ++ 10 ∷ [])
  pub one_line : list_any is_line_feed text ≡ false
  pub short : length text < line_limit
  pub right : is_frame_line text ≡ true

-- what it says of the bytes that were left
abbrev pub LineTells : ℕ → ℕ → List ℕ → Result (Option ℕ) Halt → Type 0
LineTells n room s (Ok (Some line)) =
    (len : ℕ)
    → next_frame len n room s
    ≡ judged (nat_lt room (length s)) n (samples_front line len (drop line (take room s)))
LineTells n room s (Ok None) = (len : ℕ) → next_frame len n room s ≡ Ok None
LineTells n room s (Err (Fault fault)) = (len : ℕ) → next_frame len n room s ≡ Err fault
LineTells n room s (Err Read) = Unit {0}
LineTells n room s (Err NoMemory) = ⊥

-- the samples of a frame were taken
pub record TakesSamples (left : ℕ) (old new : Option (List ℕ)) (samples : List ℕ) : Type 0 where
  pub within : length samples ≤ left
  pub consumed : Consumes old new samples
  pub range : are_samples samples ≡ true

abbrev pub SamplesTell : ℕ → ℕ → ℕ → List ℕ → Result (Unit {0}) Halt → Type 0
SamplesTell len n left s (Ok _) = Unit {0}
SamplesTell len n left s (Err (Fault fault)) =
    (line : ℕ)
    → judged (nat_lt left (length s)) n (samples_front line len (take left s)) ≡ Err fault
SamplesTell len n left s (Err Read) = Unit {0}
SamplesTell len n left s (Err NoMemory) = ⊥

-- a frame was taken
pub record TakesFrame (taken len room : ℕ) (old new : Option (List ℕ))
    (samples : List ℕ) : Type 0 where
  pub bytes : List ℕ
  pub is : IsFrame len bytes samples
  pub count : taken ≡ length bytes
  pub within : taken ≤ room
  pub consumed : Consumes old new bytes

abbrev pub FrameTells : ℕ → ℕ → ℕ → List ℕ → Result (Option ℕ) Halt → Type 0
FrameTells len n room s (Ok (Some taken)) = Unit {0}
FrameTells len n room s (Ok None) = next_frame len n room s ≡ Ok None
FrameTells len n room s (Err (Fault fault)) = next_frame len n room s ≡ Err fault
FrameTells len n room s (Err Read) = Unit {0}
FrameTells len n room s (Err NoMemory) = ⊥

-- the shelf failed within a line: what was taken has no line feed where one may stand
pub record StopsInLine (old new : Option (List ℕ)) : Type 0 where
  pub taken : List ℕ
  pub consumed : Consumes old new taken
  pub no_line : line_within line_limit taken ≡ None

-- the shelf failed within a frame: what was taken has no whole frame in front
pub record StopsShort (len n room : ℕ) (old new : Option (List ℕ)) : Type 0 where
  pub taken : List ℕ
  pub consumed : Consumes old new taken
  pub part : (line : ℕ) → next_frame len n room taken ≡ Ok (Some line) → ⊥
