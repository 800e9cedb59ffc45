-- The tokens of one letter.
use Rattle.std.proofs.Common.{◌≡◌, ◌≢◌, ℕ, true, cond, List, ◌∷◌, ◌++◌, refl, sym, ap, ◌∙◌, Option, Some, None, filter, Bor}
use Rattle.y4m_frames.specs.Lines.{words, words_left}
use Rattle.y4m_frames.specs.Header.{often, one_of, begins_with, token}
use Rattle.y4m_frames.specs.Steps.{token_of, found_tokens}
use Rattle.y4m_frames.specs.declared.header.Found.{Found}
use Rattle.y4m_frames.specs.declared.header.Found.TheVariants.{Absent, Once, Often}

pub found_again : (letter : ℕ) (found : Found) (rest : Option (Bor (List ℕ))) (t text : Bor (List ℕ)) (line word : List ℕ) (later : List (List ℕ)) →
    filter (begins_with letter) (words line) ≡ found_tokens letter found ++ filter (begins_with letter) (words_left rest) → found ≡ Once t → rest ≡ Some text →
    words text.now ≡ word ∷ later → begins_with letter word ≡ true → often ≡ token letter line
unfolding token
found_again letter found rest t text line word later h found_is rest_is words_is begins =
    let p = begins_with letter in
    let more : filter p (words_left rest) ≡ word ∷ filter p later =
    ap (λ r. filter p (words_left r)) rest_is ∙ ap (filter p) words_is ∙ ap (λ b. cond b (word ∷ filter p later) (filter p later)) begins in
    let all : filter p (words line) ≡ (letter ∷ t.now) ∷ word ∷ filter p later =
    h ∙ ap (λ f. found_tokens letter f ++ filter p (words_left rest)) found_is ∙ ap (λ ws. (letter ∷ t.now) ∷ ws) more in
    sym (ap one_of all)

pub all_found : (letter : ℕ) (found : Found) (rest : Option (Bor (List ℕ))) (line : List ℕ) →
    filter (begins_with letter) (words line) ≡ found_tokens letter found ++ filter (begins_with letter) (words_left rest) → found ≢ Often → rest ≡ None → token_of found ≡ token letter line
unfolding token
all_found letter Absent rest line h few none =
    sym (ap one_of (h ∙ ap (λ r. filter (begins_with letter) (words_left r)) none))
all_found letter (Once t) rest line h few none =
    sym (ap one_of (h ∙ ap (λ r. (letter ∷ t.now) ∷ filter (begins_with letter) (words_left r)) none))
all_found letter Often rest line h few none = absurd (few refl)
