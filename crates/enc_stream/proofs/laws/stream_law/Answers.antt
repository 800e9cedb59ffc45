use Rattle.enc_stream.proofs.FrameLemmas.{frames_are_shown, frames_are_stream}
use Rattle.enc_stream.proofs.FrontLemmas.{Laws}
use Rattle.enc_stream.proofs.ShownLemmas.{steps_are_shown}
use Rattle.enc_stream.proofs.StreamLemmas.{no_steps_are_nothing, steps_are_stream, steps_have_their_pictures, streams_are_in_profile}
use Rattle.enc_stream.proofs.laws.stream_law.Goals as goal

-- what the laws of crates below say
laws : goal.After-coded_law → Laws
laws c = record {
  context = c.headers_law.ensures.context;
  head = c.headers_law.ensures.head;
  decisions = c.decisions_law.ensures.legal;
  said = c.coded_law.ensures.headers;
  prefix = c.parts_law.ensures.prefix;
  zeros = c.parts_law.ensures.zeros;
  unit_head = c.parts_law.ensures.head;
  unit_zeros = c.joined_law.ensures.zeros;
  joined = c.joined_law.ensures.written;
}

pub returns-clause-stream : goal.returns-clause-stream
returns-clause-stream c = steps_are_stream (laws c)

pub returns-clause-nothing : goal.returns-clause-nothing
returns-clause-nothing c = no_steps_are_nothing

pub returns-clause-pictures : goal.returns-clause-pictures
returns-clause-pictures c = steps_have_their_pictures

pub returns-clause-shown : goal.returns-clause-shown
returns-clause-shown c = steps_are_shown

pub returns-clause-frames : goal.returns-clause-frames
returns-clause-frames c = frames_are_stream (laws c) c.steps_law.ensures.fits c.steps_law.ensures.shown c.right_law.ensures

pub returns-clause-frames_shown : goal.returns-clause-frames_shown
returns-clause-frames_shown c = frames_are_shown steps_are_shown c.steps_law.ensures.fits c.steps_law.ensures.shown c.right_law.ensures

pub returns-clause-profile : goal.returns-clause-profile
returns-clause-profile c = streams_are_in_profile
