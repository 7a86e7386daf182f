use Rattle.vioapic.proofs.Entries.{quiet}
use Rattle.vioapic.proofs.is_quiet.Goals as goal

pub returns-then-none_deferred : goal.returns-then-none_deferred
returns-then-none_deferred c = λ h. quiet _ _ _ _ c.args.place.in_table c.none_deferred.ensures c.if-none_deferred.true c.has.ensures h
