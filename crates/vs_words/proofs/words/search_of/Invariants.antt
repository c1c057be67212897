use Rattle.std.proofs.Common.{◌-◌, length}
use Rattle.vs_words.specs.Words.{AreOptionsTaken, words_of}
use Rattle.vs_words.proofs.words.search_of.Given as goal

-- the words before the place gave these options
abbrev pub invariant-loop-place : goal.invariant-loop-place
invariant-loop-place l = AreOptionsTaken l.kind (words_of l.words) l.place l.given

abbrev pub decreases-loop-place : goal.decreases-loop-place
decreases-loop-place l = length l.words - l.place
