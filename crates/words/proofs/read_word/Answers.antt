-- `words::read_word` meets its contract: the text begins with the word from `at` on, or does not. Assumes nothing.
use mathlib.Core.Path.{refl}
use Rattle.words.proofs.Lines.{rest_is, word_stands, word_missing}
use Rattle.words.proofs.read_word.Goals as goal

pub returns-then-starts_with : goal.returns-then-starts_with
returns-then-starts_with c =
    let a = c.args in
    word_stands a.text.now a.at a.word.now (rest_is _ _ _ c.min.ensures) c.starts_with.ensures.value c.if-starts_with.true

pub returns-else-starts_with : goal.returns-else-starts_with
returns-else-starts_with c =
    let a = c.args in
    (refl, word_missing a.text.now a.at a.word.now (rest_is _ _ _ c.min.ensures) c.starts_with.ensures.value c.if-starts_with.false)
