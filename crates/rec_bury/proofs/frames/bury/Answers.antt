use Rattle.std.proofs.Common.{◌≡◌, ◌*◌, ◌∙◌, arith, refl}
use Rattle.rec_bury.proofs.FrameLemmas.{whole_frame}
use Rattle.rec_bury.proofs.frames.bury.Goals as goal

pub returns : goal.returns
returns c =
    let f = c.args.picture.now in
    let wide : c.mb_wide-wide.result ≡ f.mb_wide = c.mb_wide-wide.ensures.value in
    let high : c.mb_high-high.result ≡ f.mb_high = c.mb_high-high.ensures.value in
    let a : c.from.result ≡ f.mb_wide = c.from.ensures ∙ wide in
    let b : c.from-2.result ≡ f.mb_high = c.from-2.ensures ∙ high in
    let area : c.from.result * c.from-2.result ≡ f.mb_wide * f.mb_high = rw (a, b) refl in
    whole_frame f _ _ _ _ _ _ _ _ _ _ c.samples-samples.ensures wide high (omega (arith, area)) (omega (arith, area)) (omega (arith, c.mb_wide-wide.ensures.whole))
    c.put_luma.ensures c.put_plane.ensures c.put_plane-2.ensures
