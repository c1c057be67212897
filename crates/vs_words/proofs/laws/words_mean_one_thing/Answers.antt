use Rattle.vs_words.proofs.WordLaws.{one_command, one_place, never_both}
use Rattle.vs_words.proofs.laws.words_mean_one_thing.Goals as goal

pub returns-clause-one_command : goal.returns-clause-one_command
returns-clause-one_command c = one_command

pub returns-clause-one_place : goal.returns-clause-one_place
returns-clause-one_place c = one_place

pub returns-clause-never_both : goal.returns-clause-never_both
returns-clause-never_both c = never_both
