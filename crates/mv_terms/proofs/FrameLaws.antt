-- Pictures make frames, and these are their pictures again.
use Rattle.std.proofs.Common.{◌≡◌, ◌+◌, ◌≤◌, Bool, true, false, List, [], ◌∷◌, ◌++◌, length, Option, None, Some, refl, sym, ap, ◌∙◌, append_assoc, arith}
use Rattle.std.specs.Prelude.{is_some}
use Rattle.mv_terms.specs.declared.head.PicType.{PicType}
use Rattle.mv_terms.specs.declared.head.PicType.TheVariants as pic
use Rattle.mv_terms.specs.PicTypes.{is_anchor}
use Rattle.mv_terms.specs.Order.{listed}
use Rattle.mv_terms.specs.Frames.{FrameOf, AreFrames, ArePaired, in_frames, joined, pictures_of_frames, standing_alone, type_of_both, whole_frames}

-- one picture more
pub one_more : {A : Type 0} (is_field : A → Bool) (p : A) (before : List A)
    → in_frames is_field (p ∷ before) ≡ joined (is_field p) p (whole_frames is_field before) (standing_alone is_field before)
unfolding in_frames
one_more is_field p before = refl

-- ---- more pictures are more frames

joined_grows : {A : Type 0} (field : Bool) (p : A) (frames : List (FrameOf A)) (alone : Option A)
    → (later : List (FrameOf A)) × ((joined field p frames alone).frames ≡ later ++ frames)
joined_grows field p frames (Some f) = (record { first = f; second = Some p } ∷ [], refl)
joined_grows true p frames None = ([], refl)
joined_grows false p frames None = (record { first = p; second = None } ∷ [], refl)

-- the frames of pictures are those of the first of them, and later ones
pub frames_grow : {A : Type 0} (is_field : A → Bool) (more before : List A)
    → (later : List (FrameOf A)) × (whole_frames is_field (more ++ before) ≡ later ++ whole_frames is_field before)
frames_grow is_field [] before = ([], refl)
frames_grow is_field (p ∷ more) before =
    let earlier = frames_grow is_field more before in
    let one = joined_grows (is_field p) p (whole_frames is_field (more ++ before)) (standing_alone is_field (more ++ before)) in (
      one.0 ++ earlier.0,
      ap (λ x. x.frames) (one_more is_field p (more ++ before))
          ∙ (one.1
          ∙ (ap (λ xs. one.0 ++ xs) earlier.1
          ∙ sym (append_assoc one.0 earlier.0 (whole_frames is_field before)))),
    )

joined_count : {A : Type 0} (field : Bool) (p : A) (frames : List (FrameOf A)) (alone : Option A)
    → length (joined field p frames alone).frames ≤ length frames + 1
joined_count field p frames (Some f) = omega arith
joined_count true p frames None = omega arith
joined_count false p frames None = omega arith

-- there are no more frames than pictures
pub few_frames : {A : Type 0} (is_field : A → Bool) (pictures : List A) → length (whole_frames is_field pictures) ≤ length pictures
unfolding in_frames
few_frames is_field [] = omega arith
few_frames is_field (p ∷ before) =
    let one = joined_count (is_field p) p (whole_frames is_field before) (standing_alone is_field before) in
    let others = few_frames is_field before in
    omega (arith, one, others)

-- ---- the pictures of frames

joined_pictures : {A : Type 0} (field : Bool) (p : A) (frames : List (FrameOf A)) (alone : Option A)
    → listed (joined field p frames alone).alone ++ pictures_of_frames (joined field p frames alone).frames
    ≡ p ∷ (listed alone ++ pictures_of_frames frames)
unfolding pictures_of_frames
joined_pictures field p frames (Some f) = refl
joined_pictures true p frames None = refl
joined_pictures false p frames None = refl

-- pictures are those of their frames, and the one that stands alone
pub pictures_back : {A : Type 0} (is_field : A → Bool) (pictures : List A)
    → listed (standing_alone is_field pictures) ++ pictures_of_frames (whole_frames is_field pictures) ≡ pictures
unfolding in_frames pictures_of_frames
pictures_back is_field [] = refl
pictures_back is_field (p ∷ before) =
    joined_pictures (is_field p) p (whole_frames is_field before) (standing_alone is_field before)
    ∙ ap (λ xs. p ∷ xs) (pictures_back is_field before)

-- ---- frames are paired

some_is : {A : Type 0} (a b : A) → (let o : Option A = Some a in o) ≡ Some b → a ≡ b
some_is a b h = cc

none_is : {A : Type 0} (b : A) (P : Type 0) → (let o : Option A = None in o) ≡ Some b → P
none_is b P h = absurd cc

joined_pairs : {A : Type 0} (is_field : A → Bool) (field : Bool) (p : A) (frames : List (FrameOf A)) (alone : Option A)
    → is_field p ≡ field → ArePaired is_field frames → ((f : A) → alone ≡ Some f → is_field f ≡ true)
    → AreFrames is_field (joined field p frames alone)
unfolding ArePaired
joined_pairs is_field field p frames (Some f) e pairs of = record {
  pairs = (sym (of f refl), pairs);
  field = λ g h. none_is g (is_field g ≡ true) h;
}
joined_pairs is_field true p frames None e pairs of = record {
  pairs = pairs;
  field = λ g h. ap is_field (sym (some_is p g h)) ∙ e;
}
joined_pairs is_field false p frames None e pairs of = record {
  pairs = (sym e, pairs);
  field = λ g h. none_is g (is_field g ≡ true) h;
}

pub frames_are : {A : Type 0} (is_field : A → Bool) (pictures : List A) → AreFrames is_field (in_frames is_field pictures)
unfolding in_frames ArePaired
frames_are {A} is_field [] = record { pairs = tt; field = λ g h. none_is g (is_field g ≡ true) h }
frames_are is_field (p ∷ before) =
    let others = frames_are is_field before in
    joined_pairs is_field (is_field p) p (whole_frames is_field before) (standing_alone is_field before) refl others.pairs others.field

-- ---- paired frames come back from their pictures

pair_back : {A : Type 0} (is_field : A → Bool) (p : A) (o : Option A) (before : List A) (frames : List (FrameOf A))
    → is_some o ≡ is_field p → in_frames is_field before ≡ record { frames = frames; alone = None }
    → in_frames is_field ((listed o ++ p ∷ []) ++ before) ≡ record { frames = record { first = p; second = o } ∷ frames; alone = None }
unfolding in_frames
pair_back is_field p None before frames e h = rw (sym e, h) refl
pair_back is_field p (Some s) before frames e h = rw (sym e, h) refl

pub frames_back : {A : Type 0} (is_field : A → Bool) (frames : List (FrameOf A)) → ArePaired is_field frames
    → in_frames is_field (pictures_of_frames frames) ≡ record { frames = frames; alone = None }
unfolding in_frames pictures_of_frames ArePaired
frames_back is_field [] pairs = refl
frames_back is_field (f ∷ before) pairs =
    pair_back is_field f.first f.second (pictures_of_frames before) before pairs.0 (frames_back is_field before pairs.1)

-- ---- the type of a frame

-- a frame is an anchor where its first picture is one
pub anchor_by_first : (t : PicType) (o : Option PicType) → is_anchor (type_of_both t o) ≡ is_anchor t
anchor_by_first t None = refl
anchor_by_first pic.I (Some pic.I) = refl
anchor_by_first pic.I (Some pic.P) = refl
anchor_by_first pic.I (Some pic.B) = refl
anchor_by_first pic.P (Some pic.I) = refl
anchor_by_first pic.P (Some pic.P) = refl
anchor_by_first pic.P (Some pic.B) = refl
anchor_by_first pic.B (Some pic.I) = refl
anchor_by_first pic.B (Some pic.P) = refl
anchor_by_first pic.B (Some pic.B) = refl
