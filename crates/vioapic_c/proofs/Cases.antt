-- Which vectors an EOI takes, computed on a new chip.
use mathlib.Core.Path.{◌≡◌, refl}
use Rattle.types.specs.Reply.{reply_number}
use Rattle.vioapic.specs.IoApic.{chip_at, end_of_interrupt}
use Rattle.vioapic.specs.Table.{end_of_every, end_of}
use Rattle.vioapic_c.specs.Calls.{end_number}

pub vector_bound : (reply_number (end_number (chip_at 0 0x1000) 255).reply ≡ 0) × (reply_number (end_number (chip_at 0 0x1000) 256).reply ≡ 5)
unfolding end_number end_of_interrupt end_of_every end_of
vector_bound = (refl, refl)
