use Rattle.mv_spellings.proofs.WithinLaws.{component_within, block_within, macroblock_within}
use Rattle.mv_spellings.proofs.laws.reading_law.Goals as goal

pub returns : goal.returns
returns c = record {
  components = λ code prediction v bits rest h. (component_within code prediction).gives bits v rest h;
  blocks = λ code predictor levels bits rest h. (block_within code predictor).gives bits levels rest h;
  macroblocks = λ head given m bits rest h. (macroblock_within head given).gives bits m rest h;
}
