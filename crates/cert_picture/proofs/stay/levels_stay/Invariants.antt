use Rattle.std.proofs.Common.{◌<◌, ◌+◌, ◌*◌, ℕ}
use Rattle.cert_picture.specs.Steps.{MacroblockStays}
use Rattle.cert_picture.proofs.stay.levels_stay.Given as goal

abbrev pub invariant-rows : goal.invariant-rows
invariant-rows l = (k : ℕ) → k < l.mb_y * l.coded.head.now.mb_wide → MacroblockStays l.coded k

abbrev pub invariant-macroblocks : goal.invariant-macroblocks
invariant-macroblocks l = (k : ℕ) → k < l.mb_y * l.coded.head.now.mb_wide + l.mb_x → MacroblockStays l.coded k
