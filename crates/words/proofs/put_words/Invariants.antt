-- By the invariant that the words so far stand at the front.
use Rattle.words.proofs.WordLaws.{Fronted}
use Rattle.words.proofs.put_words.Given as goal

abbrev pub invariant-loop-i : goal.invariant-loop-i
invariant-loop-i l = Fronted l.words l.initial.answer l.i l.answer
