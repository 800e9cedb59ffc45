-- What is shown when a picture is committed behind others (H.262, 6.1.1.11). These are in coded order, the latest first.
use Rattle.std.specs.Prelude.{◌≡◌, List, [], ◌∷◌, ◌++◌, reverse, if◌then◌else◌, Option, None, Some}
use Rattle.mv_terms.specs.declared.head.PicType.{PicType}
use Rattle.mv_terms.specs.PicTypes.{is_anchor}
use Rattle.mv_terms.specs.Order.{listed, held, shown_by, shown_from, display_order}
use Rattle.mv_planes.specs.References.{DecodedPicture, type_of}
use Rattle.mv_store.specs.declared.store.Shown.{Shown}
use Rattle.mv_store.specs.declared.store.Shown.TheVariants.{Nothing, Previous, Current}

-- the answer to an anchor: the one that was held, where there is one
abbrev pub answer_to_anchor : {A : Type 0} → Option A → Shown
answer_to_anchor None = Nothing
answer_to_anchor (Some anchor) = Previous

-- the answer to a picture of type t
abbrev pub answer_to : {A : Type 0} → (A → PicType) → PicType → List A → Shown
answer_to type_of t before =
    (if is_anchor t then answer_to_anchor (held type_of before) else Current)

-- the pictures that an answer names, by the anchor that was held and the picture itself
abbrev pub named_by : {A : Type 0} → Shown → Option A → A → List A
named_by Nothing held p = []
named_by Previous held p = listed held
named_by Current held p = p ∷ []

-- Whatever pictures come later, all pictures in display order are those that were shown before p came, those that the
-- answer to p names, and others.
abbrev pub AnswersFollowDisplayOrder : Type 0
AnswersFollowDisplayOrder =
    (before : List DecodedPicture) (p : DecodedPicture) (later : List DecodedPicture)
    → display_order type_of (reverse (p ∷ before) ++ later)
    ≡ shown_by type_of before
    ++ (named_by (answer_to type_of p.pic before) (held type_of before) p
    ++ shown_from type_of (listed (held type_of (p ∷ before))) later)
