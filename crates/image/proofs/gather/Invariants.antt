use Rattle.std.proofs.Common.{◌≡◌, take}
use Rattle.image.specs.Words.{gathered}
use Rattle.image.proofs.gather.Given as goal

abbrev pub invariant-loop-k : goal.invariant-loop-k
invariant-loop-k l = take l.k l.word-items ≡ take l.k (gathered l.board.io.now l.board.apic.now l.board.pair.now)
