use Rattle.std.proofs.Common.{rules, [], refl}
use Rattle.enc_guided.proofs.StartLemmas.{started}
use Rattle.enc_guided.proofs.coder.PictureCoder.start.Goals as goal

pub returns : goal.returns
returns c =
    let context = c.default_context-context.result in
    started c.args.header.now c.args.scale context _ c.requires.header c.requires.scale c.default_context-context.ensures.value (record {
      header_is = refl;
      scale_is = refl;
      context_is = refl;
      legal_context = c.default_context-context.ensures.legal;
      part = c.write_context.ensures.written 65536 [] (search rules);
      store = c.in_ok-start.ensures;
      decisions = search rules;
      levels = search rules;
      front = ([], search rules);
      slices = ([], search rules);
      count = refl;
      anchor = refl;
      ending = refl;
    })
