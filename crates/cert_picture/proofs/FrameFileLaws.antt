-- A frame file as its units come.
use Rattle.std.proofs.Common.{◌≡◌, ℕ, List, [], ◌∷◌, ◌++◌, map, refl, sym, ap, ◌∙◌, append_assoc, append-nil}
use Rattle.std.specs.List.{flat_map}
use Rattle.std.proofs.lemmas.List.{map-append}
use Rattle.std.proofs.lemmas.Grind.{flat_map-append}
use Rattle.mv_terms.specs.Order.{listed, shown_by, shows, held}
use Rattle.mv_terms.proofs.ShownLaws.{shown_and_held}
use Rattle.mv_units.specs.Profile.{CodedUnit}
use Rattle.mv_planes.specs.References.{DecodedPicture}
use Rattle.mv_recon.specs.Decoded.{decoded_behind, pictures_of}
use Rattle.y4m_frames.specs.FrameFile.{frame, header_line}
use Rattle.cert_picture.specs.FrameFileOf.{UnitFrame, pic_of_frame, frame_behind, frames_of, header_of, file_of, bytes_of, gives, due_to, due, FileIsDueAndHeld, DueGrows, FramesHavePictures}

-- frames and others behind them
pub bytes_append : (frames others : List UnitFrame) → bytes_of (frames ++ others) ≡ bytes_of frames ++ bytes_of others
bytes_append frames others =
    ap (λ (samples : List (List ℕ)). flat_map frame samples) (map-append (λ (f : UnitFrame). f.samples) frames others)
    ∙ flat_map-append frame (map (λ (f : UnitFrame). f.samples) frames) (map (λ (f : UnitFrame). f.samples) others)

-- what is due to frames is the header line and what was shown
pub due_is : (before : List UnitFrame) (f : UnitFrame) → due_to (f ∷ before) ≡ header_line (header_of f before) ++ bytes_of (shown_by pic_of_frame (f ∷ before))
unfolding due_to shown_by
due_is [] f = refl
due_is (g ∷ before) f =
    let line = header_line (header_of g before) in
    let shown = shows pic_of_frame (held pic_of_frame (g ∷ before)) f in
    ap (λ (s : List ℕ). s ++ bytes_of shown) (due_is before g)
    ∙ (append_assoc line (bytes_of (shown_by pic_of_frame (g ∷ before))) (bytes_of shown)
    ∙ ap (λ (s : List ℕ). line ++ s) (sym (bytes_append (shown_by pic_of_frame (g ∷ before)) shown)))

file_is : (frames : List UnitFrame) → file_of frames ≡ due_to frames ++ bytes_of (listed (held pic_of_frame frames))
unfolding due_to
file_is [] = refl
file_is (f ∷ before) =
    let line = header_line (header_of f before) in
    let last = listed (held pic_of_frame (f ∷ before)) in
    let shown = shown_by pic_of_frame (f ∷ before) in
    ap (λ (s : List UnitFrame). line ++ bytes_of s) (shown_and_held pic_of_frame (f ∷ before))
    ∙ (ap (λ (s : List ℕ). line ++ s) (bytes_append shown last)
    ∙ (sym (append_assoc line (bytes_of shown) (bytes_of last))
    ∙ ap (λ (s : List ℕ). s ++ bytes_of last) (sym (due_is before f))))

pub file_is_due_and_held : FileIsDueAndHeld
file_is_due_and_held units = file_is (frames_of units)

-- one unit more
pub due_next : (before : List CodedUnit) (u : CodedUnit) → due (u ∷ before) ≡ due before ++ gives (frames_of before) (frame_behind (frames_of before) u)
unfolding frames_of due_to
due_next before u = refl

pub due_grows : DueGrows
due_grows [] before = ([], sym (append-nil (due before)))
due_grows (u ∷ more) before =
    let earlier = due_grows more before in
    let last = gives (frames_of (more ++ before)) (frame_behind (frames_of (more ++ before)) u) in (
      earlier.0 ++ last,
      due_next (more ++ before) u
          ∙ (ap (λ (s : List ℕ). s ++ last) earlier.1
          ∙ append_assoc (due before) earlier.0 last),
    )

pub frames_have_pictures : FramesHavePictures
unfolding frames_of frame_behind pictures_of
frames_have_pictures [] = refl
frames_have_pictures (u ∷ before) =
    ap (λ (ps : List DecodedPicture). decoded_behind ps u.picture ∷ ps) (frames_have_pictures before)
