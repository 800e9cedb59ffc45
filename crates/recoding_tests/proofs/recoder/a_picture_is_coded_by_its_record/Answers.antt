use Rattle.std.proofs.Common.{rules, ◌≡◌, [], ◌∷◌, replicate, sym, ◌∙◌}
use Rattle.enc_guided.specs.Stands.{frame_step}
use Rattle.recoding_tests.proofs.RecoderLemmas.{always, first_step, is_guided, known_ok, known_some}
use Rattle.recoding_tests.proofs.recoder.a_picture_is_coded_by_its_record.Goals as goal

pub guided-requires : goal.guided-requires
guided-requires g c =
    let said = known_some _ _ c.legal.result c.in_ok-record.record c.in_ok-record.ensures.ok_part c.legal.ensures.meaning in
    let grey : c.deref.result.now ≡ replicate 18432 2 = c.deref.ensures.value ∙ c.in_ok-frame.ensures.items_if_clones_equal (λ y same. same) in
    let started = known_ok _ c.start.result c.in_ok-recoder.recoder (sym c.ok.ensures.value ∙ c.in_ok-recoder.ensures.ok_part) c.start.ensures in
    (always _, [], started _, is_guided _ c.deref.result.now (_, _, said) (c.is_intra.ensures (search rules)) grey)

pub finish-requires : goal.finish-requires
finish-requires g c =
    let said = known_some _ _ c.legal.result c.in_ok-record.record c.in_ok-record.ensures.ok_part c.legal.ensures.meaning in
    let grey : c.deref.result.now ≡ replicate 18432 2 = c.deref.ensures.value ∙ c.in_ok-frame.ensures.items_if_clones_equal (λ y same. same) in
    let started = known_ok _ c.start.result c.in_ok-recoder.recoder (sym c.ok.ensures.value ∙ c.in_ok-recoder.ensures.ok_part) c.start.ensures in
    let guided = is_guided _ c.deref.result.now (_, _, said) (c.is_intra.ensures (search rules)) grey in
    (always _, frame_step first_step c.deref.result.now ∷ [], c.guided.ensures.stands (always _) [] (started _) guided)
