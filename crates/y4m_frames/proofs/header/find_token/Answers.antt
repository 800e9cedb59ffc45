use Rattle.std.proofs.Common.{◌∙◌, sym}
use Rattle.y4m_frames.proofs.TokenLemmas.{found_again, all_found}
use Rattle.y4m_frames.proofs.header.find_token.Goals as goal

pub returns-in-Once : goal.returns-in-Once
returns-in-Once c =
    found_again c.args.letter c.words.found c.words.rest c.in-Once.field-0 c.in-Some.text c.args.line.now _ _ c.words.invariant.tokens c.in-Once.is c.in-Some.is
    c.first_word.ensures.parts (sym c.begins_with.ensures ∙ c.if-begins_with.true)

pub returns : goal.returns
returns c = all_found c.args.letter c.words.found c.words.rest c.args.line.now c.words.invariant.tokens c.words.invariant.few c.in_default.is
