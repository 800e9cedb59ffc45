-- What a sink in memory holds.
use Rattle.std.specs.Prelude.{◌≡◌, ℕ, List, [], Some}
use Rattle.mv_ends.specs.declared.failing.MemSink.{MemSink}
use Rattle.mv_ends.specs.declared.failing.Plan.{Plan}
use Rattle.mv_ends.specs.Told.{SinkTold}

-- the bytes that it took, for how many it has room, how often it failed, and which calls are to fail
abbrev pub taken_by : MemSink → List ℕ
taken_by s = s.taken.items

abbrev pub room_of : MemSink → ℕ
room_of s = s.room

abbrev pub faults_of : MemSink → ℕ
faults_of s = s.faults

abbrev pub plan_of : MemSink → Plan
plan_of s = s.plan

-- what it tells: as any write may fail, it surely takes none
abbrev pub told_by : MemSink → SinkTold
told_by s = record { written = Some (taken_by s); faults = faults_of s; room = 0 }

-- A sink that took nothing yet.
pub record IsNew (sink : MemSink) (room : ℕ) (fails : List ℕ) (most : ℕ) : Type 0 where
  pub taken : taken_by sink ≡ []
  pub room_is : room_of sink ≡ room
  pub faults : faults_of sink ≡ 0
  pub call : (plan_of sink).call ≡ 0
  pub fails_are : (plan_of sink).fails.items ≡ fails
  pub most_is : (plan_of sink).most ≡ most
