-- What the plan has to know of a frame, by the record that is found in it.
use Rattle.std.specs.Prelude.{ℕ, false, if◌then◌else◌, List, [], Option, None, Some}
use Rattle.rec_legal.specs.FoundRecord.{FoundRecord}
use Rattle.rec_legal.specs.Conditions.{has_flag, no_link, forward_link_flag, uses_forward_flag}
use Rattle.plan_window.specs.declared.summary.Summary.{Summary}

-- the link to the frame that the picture refers to forward, where it has one
abbrev pub forward_link : FoundRecord → Option (List ℕ)
forward_link r = if has_flag r.sheet forward_link_flag then Some r.sheet.forward else None

-- of a frame without a record
abbrev pub no_record : Summary
no_record = record {
  kind = None;
  low_delay = false;
  uses_forward = false;
  forward = None;
  backward = no_link;
  seal = no_link;
  context = [];
}

-- By a record: its context is the bytes of its sequence part.
abbrev pub record_summary : FoundRecord → Summary
record_summary r = record {
  kind = Some r.sheet.pic;
  low_delay = r.context.low_delay;
  uses_forward = has_flag r.sheet uses_forward_flag;
  forward = forward_link r;
  backward = r.sheet.backward;
  seal = r.seal;
  context = r.sheet.context;
}

abbrev pub summary_of : Option FoundRecord → Summary
summary_of None = no_record
summary_of (Some r) = record_summary r
