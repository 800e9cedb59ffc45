-- What a commit answers is what display order shows when the picture comes.
use Rattle.std.proofs.Common.{◌≡◌, Bool, true, false, List, [], ◌∷◌, ◌++◌, Option, None, Some, refl, sym, ap, ◌∙◌, append_assoc}
use Rattle.std.specs.Prelude.{if◌then◌else◌}
use Rattle.mv_terms.specs.declared.head.PicType.{PicType}
use Rattle.mv_terms.specs.PicTypes.{is_anchor}
use Rattle.mv_terms.specs.Order.{listed, held, shows, shown_by, shown_from}
use Rattle.mv_terms.proofs.ShownLaws.{shown_and_more}
use Rattle.mv_planes.specs.References.{type_of}
use Rattle.mv_store.specs.declared.store.Shown.TheVariants.{Current}
use Rattle.mv_store.specs.Answers.{answer_to_anchor, answer_to, named_by, AnswersFollowDisplayOrder}

to_anchor : {A : Type 0} (o : Option A) (p : A) → named_by (answer_to_anchor o) o p ≡ listed o
to_anchor None p = refl
to_anchor (Some anchor) p = refl

by_test : {A : Type 0} (anchor : Bool) (o : Option A) (p : A)
    → named_by (if anchor then answer_to_anchor o else Current) o p ≡ (if anchor then listed o else p ∷ [])
by_test true o p = to_anchor o p
by_test false o p = refl

-- the pictures that the answer names are those that are shown when the picture comes
pub names_what_is_shown : {A : Type 0} (type_of : A → PicType) (before : List A) (p : A)
    → named_by (answer_to type_of (type_of p) before) (held type_of before) p ≡ shows type_of (held type_of before) p
names_what_is_shown type_of before p = by_test (is_anchor (type_of p)) (held type_of before) p

-- and in display order they stand behind those that were shown before
pub answers_follow_display_order : AnswersFollowDisplayOrder
unfolding shown_by
answers_follow_display_order before p later =
    let then_shown = shown_from type_of (listed (held type_of (p ∷ before))) later in
    shown_and_more type_of (p ∷ before) later
    ∙ (append_assoc (shown_by type_of before) (shows type_of (held type_of before) p) then_shown
    ∙ sym (ap (λ xs. shown_by type_of before ++ (xs ++ then_shown)) (names_what_is_shown type_of before p)))
