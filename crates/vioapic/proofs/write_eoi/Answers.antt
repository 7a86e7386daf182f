use Rattle.vioapic.proofs.Ways.{eoi_old, eoi_written_lem}
use Rattle.vioapic.proofs.write_eoi.Goals as goal

pub returns-then-not-is_version_20 : goal.returns-then-not-is_version_20
returns-then-not-is_version_20 c = search eoi_old

pub returns : goal.returns
returns c = search eoi_written_lem
