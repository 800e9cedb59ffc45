-- Whether a frame is coded by its record. The record names the frames that its picture refers to by their seals, its
-- links; it serves where these frames are still the ones that the picture would refer to in the plan.
use Rattle.std.specs.Prelude.{Bool, true, false, ◌&&◌, ◌||◌, not, if◌then◌else◌, List, ℕ, Option, None, Some, is_some, bytes_eq}
use Rattle.std.specs.Option.{option_map_or}
use Rattle.mv_terms.specs.declared.head.PicType.{PicType}
use Rattle.mv_terms.specs.declared.head.PicType.TheVariants as pic
use Rattle.mv_terms.specs.PicTypes.{is_anchor}
use Rattle.plan_window.specs.declared.summary.Summary.{Summary}
use Rattle.plan_window.specs.declared.summary.Mode.{Mode}
use Rattle.plan_window.specs.declared.summary.Mode.TheVariants.{Guided, Fresh}

-- a record was found, of type I or P
abbrev pub is_anchor_record : Summary → Bool
is_anchor_record s = option_map_or is_anchor s.kind false

-- a record with this seal was found
abbrev pub is_sealed_by : List ℕ → Summary → Bool
is_sealed_by link s = is_some s.kind && bytes_eq s.seal link

-- A forward link, if there is one, and the nearest anchor before, if there is one: it is the seal of that anchor's
-- record, or both are missing.
abbrev pub is_link_of : Option (List ℕ) → Option Summary → Bool
is_link_of None None = true
is_link_of None (Some anchor) = false
is_link_of (Some link) None = false
is_link_of (Some link) (Some anchor) = is_sealed_by link anchor

-- the forward side is right
abbrev pub is_forward_right : Summary → Option Summary → Bool
is_forward_right s nearest = not s.uses_forward || is_link_of s.forward nearest

-- the record of a B has the context of its group's anchor, and the seal of that anchor's record as its backward link
abbrev pub is_in_group_of : Summary → Option Summary → Bool
is_in_group_of s None = false
is_in_group_of s (Some anchor) = bytes_eq s.context anchor.context && is_sealed_by s.backward anchor

-- A frame with this kind of record is linked, where these are the nearest anchor before it and, for a B of the plan,
-- the anchor of its group.
abbrev pub is_linked : Option PicType → Summary → Option Summary → Option Summary → Bool
is_linked None s nearest group = false
is_linked (Some pic.I) s nearest group = true
is_linked (Some pic.P) s nearest group = is_forward_right s nearest
is_linked (Some pic.B) s nearest group = is_forward_right s nearest && is_in_group_of s group

-- a linked frame is coded by its record, any other one anew
abbrev pub mode_by : Summary → Option Summary → Option Summary → Mode
mode_by s nearest group = (if is_linked s.kind s nearest group then Guided else Fresh)
