-- The kinds of interrupt command in the numbers of its low word, and the reply of an IPI.
-- Intel SDM volume 3, the APIC chapter: interrupt command register (delivery mode, destination shorthand).
use Rattle.std.specs.Prelude.{ℕ, cond, eqb}
use Rattle.types.specs.declared.Reply.{Reply}
use Rattle.types.specs.declared.Reply.TheVariants.{Three}
use Rattle.vlapic_icr.specs.declared.fields.DeliveryMode.{DeliveryMode}
use Rattle.vlapic_icr.specs.declared.fields.DeliveryMode.TheVariants.{Fixed, LowestPriority, Smi, Reserved3, Nmi, Init, StartUp, Reserved7}
use Rattle.vlapic_icr.specs.declared.fields.DestinationShorthand.{DestinationShorthand}
use Rattle.vlapic_icr.specs.declared.fields.DestinationShorthand.TheVariants.{NoShorthand, OnlySelf, AllIncludingSelf, AllExcludingSelf}
use Rattle.vlapic_icr.specs.declared.Ipi.{Ipi}

abbrev pub mode_number : DeliveryMode → ℕ
mode_number Fixed = 0
mode_number LowestPriority = 1
mode_number Smi = 2
mode_number Reserved3 = 3
mode_number Nmi = 4
mode_number Init = 5
mode_number StartUp = 6
mode_number Reserved7 = 7

-- and back, of the eight numbers that three bits have
abbrev pub mode_of : ℕ → DeliveryMode
mode_of n =
    cond (eqb n 0) Fixed
    (cond (eqb n 1) LowestPriority
    (cond (eqb n 2) Smi
    (cond (eqb n 3) Reserved3
    (cond (eqb n 4) Nmi
    (cond (eqb n 5) Init
    (cond (eqb n 6) StartUp Reserved7))))))

abbrev pub shorthand_number : DestinationShorthand → ℕ
shorthand_number NoShorthand = 0
shorthand_number OnlySelf = 1
shorthand_number AllIncludingSelf = 2
shorthand_number AllExcludingSelf = 3

-- an IPI in document 01's values: the delivery mode's number, the vector, the mask
abbrev pub ipi_reply : Ipi → Reply
ipi_reply i = Three (mode_number i.kind) i.vector.0 i.mask
