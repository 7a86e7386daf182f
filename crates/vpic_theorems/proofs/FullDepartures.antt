-- Where the full profile does other than the data sheet: computed. Assumes nothing.
use mathlib.Core.Path.{refl}
use Rattle.utils.specs.Set.{with, without, outside}
use Rattle.vpic_priority.specs.Ring.{first_rank, first_by}
use Rattle.vpic_chip.specs.Chip.{opened, commanded, fed, command_read, read_shown, poll_shown, pulsed, counts, pending_line, asks, driven, pending_irq, acknowledged, acknowledge}
use Rattle.vpic.specs.Pair.{new_state, settled, latched, master_claim, slave_claim, claim_pending, claim_irq, port_written, written_at, port_read}
use Rattle.vpic_theorems.specs.Rotation.{full_departures, FullDeparts, full_cured, FullCured}

pub full_departs : FullDeparts
unfolding full_departures poll_shown first_rank first_by opened commanded fed command_read pulsed counts pending_line pending_irq acknowledged acknowledge asks driven new_state settled latched master_claim slave_claim claim_pending claim_irq port_written written_at with without outside
full_departs = ((refl, refl), ((refl, refl), ((refl, refl), ((refl, refl), ((refl, refl), ((refl, refl), ((refl, refl), ((refl, refl), ((refl, refl), ((refl, refl), ((refl, refl), ((refl, refl), ((refl, refl), ((refl, refl), ((refl, refl), tt)))))))))))))))

pub full_cured_lem : FullCured
unfolding full_cured command_read read_shown poll_shown port_read first_rank first_by opened commanded fed pulsed counts pending_line pending_irq acknowledged asks driven new_state settled latched master_claim slave_claim claim_pending claim_irq port_written written_at with without outside
full_cured_lem = (refl, (refl, (refl, (refl, (refl, (refl, (refl, (refl, (refl, (refl, tt))))))))))
