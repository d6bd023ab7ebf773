use Rattle.action_profile.proofs.KindWords.{kind_named-name, name-kind_named}
use Rattle.action_profile.proofs.laws.kinds_have_their_words.Goals as goal

pub returns-clause-read : goal.returns-clause-read
returns-clause-read c = kind_named-name

pub returns-clause-named : goal.returns-clause-named
returns-clause-named c = name-kind_named
