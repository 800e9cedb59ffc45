use Rattle.std.proofs.Common.{rules, ◌≡◌, [], sym, ◌∙◌}
use Rattle.mv_planes.specs.Planes.{Planes, grey_of}
use Rattle.recoding_tests.proofs.RecoderLemmas.{file, known_ok, known_some, may_be_guided_alone}
use Rattle.recoding_tests.proofs.recoder.a_picture_is_coded_by_a_record_of_no_frame.Goals as goal

pub guided-requires : goal.guided-requires
guided-requires g c =
    let said = known_some _ _ c.legal.result c.in_ok-record.record c.in_ok-record.ensures.ok_part c.legal.ensures.meaning in
    let grey = known_ok (λ (p : Planes). p ≡ grey_of 6 4) c.grey.result c.in_ok-source.source (sym c.ok.ensures.value ∙ c.in_ok-source.ensures.ok_part) c.grey.ensures in
    let started = known_ok _ c.start.result c.in_ok-coder.coder (sym c.ok-2.ensures.value ∙ c.in_ok-coder.ensures.ok_part) c.start.ensures in
    (file, 8, [], started, may_be_guided_alone c.coded_law.ensures.headers _ _ (_, _, said) (c.is_intra.ensures (search rules)) grey)

pub finish-requires : goal.finish-requires
finish-requires g c =
    let said = known_some _ _ c.legal.result c.in_ok-record.record c.in_ok-record.ensures.ok_part c.legal.ensures.meaning in
    let grey = known_ok (λ (p : Planes). p ≡ grey_of 6 4) c.grey.result c.in_ok-source.source (sym c.ok.ensures.value ∙ c.in_ok-source.ensures.ok_part) c.grey.ensures in
    let started = known_ok _ c.start.result c.in_ok-coder.coder (sym c.ok-2.ensures.value ∙ c.in_ok-coder.ensures.ok_part) c.start.ensures in
    (file, 8, _, c.guided.ensures.codes file 8 [] started (may_be_guided_alone c.coded_law.ensures.headers _ _ (_, _, said) (c.is_intra.ensures (search rules)) grey))
