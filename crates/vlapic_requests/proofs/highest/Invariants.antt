use Rattle.std.proofs.Common.{◌≤◌}
use Rattle.vlapic_requests.proofs.Search.{Above}
use Rattle.vlapic_requests.proofs.highest.Given as goal

abbrev pub invariant-loop-w : goal.invariant-loop-w
invariant-loop-w l = (l.w ≤ 8) × Above l.words l.base l.w
