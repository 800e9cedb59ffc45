use Rattle.enc_guided.proofs.StartLemmas.{none_coded}
use Rattle.enc_guided.proofs.recoder.Recoder.start.Goals as goal

pub returns : goal.returns
returns c find =
    none_coded _ c.args.header.now c.args.scale c.default_context-size.result find c.in_ok-coder.ensures c.default_context-size.ensures.value c.in_ok-source.ensures
