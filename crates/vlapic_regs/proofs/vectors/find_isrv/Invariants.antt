use Rattle.std.proofs.Common.{◌<◌, ◌+◌, ◌*◌, ◌≤◌}
use Rattle.vlapic_regs.proofs.Highest.{Left}
use Rattle.vlapic_regs.proofs.vectors.find_isrv.Given as goal

abbrev pub invariant-words : goal.invariant-words
invariant-words l = (1 ≤ l.word) × (l.word ≤ 8) × Left 32 l.isr (l.word * 32)

abbrev pub invariant-bits : goal.invariant-bits
invariant-bits l = (1 ≤ l.word) × (l.word < 8) × (l.bit ≤ 32) × Left 32 l.isr (l.word * 32 + l.bit)
