use Rattle.std.proofs.Common.{◌≡◌, length, All}
use Rattle.job_coding.proofs.slots.empty_slots.Given as goal

abbrev pub invariant-loop : goal.invariant-loop
invariant-loop l = record {
  count : length l.frames.items ≡ l.counter;
  sizes : All (λ v. length v.items ≡ l.size) l.frames.items;
}
