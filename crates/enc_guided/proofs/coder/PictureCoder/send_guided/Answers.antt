use Rattle.std.proofs.Common.{ℕ, ◌-◌, List, [], ◌++◌, Err, refl, ap, ◌∙◌, subst}
use Rattle.std.proofs.lemmas.Result.{err_from_is_err_and}
use Rattle.mv_bits.specs.Zeros.{zero_bytes, zeros_at_end}
use Rattle.mv_ends.specs.Sends.{Sends}
use Rattle.mv_ends.proofs.SendLaws.{sends_behind, sends_first}
use Rattle.enc_guided.proofs.SendLemmas.{four_pieces}
use Rattle.enc_guided.proofs.coder.PictureCoder.send_guided.Goals as goal

pub returns-in_err-send_all : goal.returns-in_err-send_all
returns-in_err-send_all g c =
    let p = err_from_is_err_and c.from_residual.result c.from_residual.ensures.1 in
    let sheet = c.args.sheet.now in
    let slices : List ℕ = c.bytes-slices.result.now in
    let pieces : List ℕ = c.part_if.result.now ++ (sheet.prefix.now ++ (sheet.head.now ++ (slices ++ []))) in
    let left : ℕ = sheet.n1 - zeros_at_end c.args.self.now.slices.bytes in
    let same = four_pieces c.part_if.result.now _ sheet.prefix.now sheet.head.now slices c.args.self.now.slices.bytes left left c.part_if.ensures c.bytes-slices.ensures refl in
    rw p.1
    (subst (λ (bytes : List ℕ). Sends {T = Unit {0}} (g.O.Sink.told c.args.out.now) (g.O.Sink.told c.send_all.new.out) bytes (Err p.0)) same
    (sends_first (g.O.Sink.told c.args.out.now) (g.O.Sink.told c.send_all.new.out) pieces (zero_bytes left) _ p.0 c.in_err-send_all.ensures))

pub returns : goal.returns
returns g c =
    let sheet = c.args.sheet.now in
    let slices : List ℕ = c.bytes-slices.result.now in
    let pieces : List ℕ = c.part_if.result.now ++ (sheet.prefix.now ++ (sheet.head.now ++ (slices ++ []))) in
    let left = c.zeros_left.ensures ∙ ap (λ (x : List ℕ). sheet.n1 - zeros_at_end x) c.bytes-slices.ensures in
    let same = four_pieces c.part_if.result.now _ sheet.prefix.now sheet.head.now slices c.args.self.now.slices.bytes c.zeros_left.result _ c.part_if.ensures c.bytes-slices.ensures left in
    let sent = c.in_ok-send_all.ensures in
    subst (λ (bytes : List ℕ). Sends (g.O.Sink.told c.args.out.now) (g.O.Sink.told c.send_zeros.new.out) bytes c.send_zeros.result) same
    (sends_behind (g.O.Sink.told c.args.out.now) (g.O.Sink.told c.send_all.new.out) (g.O.Sink.told c.send_zeros.new.out) pieces (zero_bytes c.zeros_left.result) c.send_zeros.result sent.sent sent.keeps c.send_zeros.ensures)
