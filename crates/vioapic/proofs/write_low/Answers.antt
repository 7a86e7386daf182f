use Rattle.vioapic.proofs.Entries.{low_anew_none, low_same_none, low_written_anew, low_written_masked, low_written_same}
use Rattle.vioapic.proofs.write_low.Goals as goal

pub returns-then-not-same_low : goal.returns-then-not-same_low
returns-then-not-same_low c = search low_anew_none

pub returns-else-not-same_low : goal.returns-else-not-same_low
returns-else-not-same_low c = search low_same_none

pub returns-then-not-same_low-2 : goal.returns-then-not-same_low-2
returns-then-not-same_low-2 c = search low_written_anew

pub returns-then-is_masked : goal.returns-then-is_masked
returns-then-is_masked c = search low_written_masked

pub returns-else-is_masked : goal.returns-else-is_masked
returns-else-is_masked c = search low_written_same
