-- What a call by value leaves: the vCPUs, and what the caller is answered.
use Rattle.vcpus_ipi.specs.declared.Sent.{Sent}
use Rattle.vcpus_ipi.specs.Steps.{Left, left}
use Rattle.vcpus.specs.declared.Vcpus.{Vcpus}

abbrev pub left_after : Vcpus × Sent → Left
left_after r = left r.0.records r.1
