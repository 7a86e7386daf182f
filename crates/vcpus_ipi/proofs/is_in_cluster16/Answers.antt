use borrow.Author.Tests.{ne_eqb}
use Rattle.vcpus_ipi.proofs.Members.{cluster_16}
use Rattle.utils.specs.Cases.{cases}
use Rattle.vcpus_ipi.proofs.is_in_cluster16.Goals as goal

pub returns-then-id-dest : goal.returns-then-id-dest
returns-then-id-dest c = rw (cluster_16 _ _) (search cases)

pub returns-else-id-dest : goal.returns-else-id-dest
returns-else-id-dest c = rw (cluster_16 _ _, ne_eqb _ _ c.if-id-dest.false)
