use Rattle.std.proofs.Common.{sym, subst, ℕ, ◌≤◌, ◌<◌, ◌^◌}
use Rattle.mv_blocks.proofs.DcWritten.{size_leading, size_few, size_room}
use Rattle.mv_blocks.proofs.write.dc_size.Goals as goal

pub returns-clause-value : goal.returns-clause-value
returns-clause-value c = size_leading c.args.magnitude c.requires

pub returns-clause-few : goal.returns-clause-few
returns-clause-few c = subst (λ (n : ℕ). n ≤ 11) (sym (size_leading c.args.magnitude c.requires)) (size_few c.args.magnitude)

pub returns-clause-room : goal.returns-clause-room
returns-clause-room c = subst (λ (n : ℕ). c.args.magnitude < 2 ^ n) (sym (size_leading c.args.magnitude c.requires)) (size_room c.args.magnitude c.requires)
