use Rattle.vs_words.specs.Words.{IsWordAt, setting_name, words_of}
use Rattle.vs_words.specs.declared.words.Setting.{Setting}
use Rattle.vs_words.specs.declared.words.Setting.TheVariants.{Workers, Nodes, Seconds, Gap}
use Rattle.vs_words.proofs.words.setting_at.Goals as goal

-- it is none of the four names
pub returns-else-gap : goal.returns-else-gap
returns-else-gap c = none
  where
    none : (s : Setting) → ¬ (IsWordAt (words_of c.args.words.now) c.args.place (setting_name s))
    none Workers at = let is = c.is_word-workers.ensures.1 at in let no = c.if-workers.false in cc
    none Nodes at = let is = c.is_word-nodes.ensures.1 at in let no = c.if-nodes.false in cc
    none Seconds at = let is = c.is_word-seconds.ensures.1 at in let no = c.if-seconds.false in cc
    none Gap at = let is = c.is_word-gap.ensures.1 at in let no = c.if-gap.false in cc
