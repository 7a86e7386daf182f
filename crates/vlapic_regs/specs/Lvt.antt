-- What an entry of the local vector table keeps of a value that is written to it.
-- Intel SDM volume 3, the APIC chapter: local vector table (fields: vector 0-7, delivery mode 8-10, delivery status 12, polarity 13, remote IRR 14, trigger mode 15,
-- mask 16, timer mode 17-18; which entry has which). D-82: in x2APIC mode too the reserved bits are dropped.
use Rattle.std.specs.Prelude.{ℕ, ◌+◌, ◌*◌, ◌/◌, ◌%◌}

-- timer: vector, delivery status, mask, timer mode
abbrev pub lvt_timer : ℕ → ℕ
lvt_timer v = v % 0x100 + v / 0x1000 % 2 * 0x1000 + v / 0x10000 % 8 * 0x10000  -- D-71: delivery status (and remote IRR below) can be written

-- error: vector, delivery status, mask
abbrev pub lvt_error : ℕ → ℕ
lvt_error v = v % 0x100 + v / 0x1000 % 2 * 0x1000 + v / 0x10000 % 2 * 0x10000

-- LINT0 and LINT1: vector, delivery mode, and all from delivery status to mask
abbrev pub lvt_pin : ℕ → ℕ
lvt_pin v = v % 0x800 + v / 0x1000 % 32 * 0x1000

-- CMCI, performance counters and thermal sensor: vector, delivery mode, delivery status, mask
abbrev pub lvt_monitor : ℕ → ℕ
lvt_monitor v = v % 0x800 + v / 0x1000 % 2 * 0x1000 + v / 0x10000 % 2 * 0x10000
